-- What types count as, one type or member after another.
use Rattle.std.proofs.Common.{◌≡◌, ◌∙◌, ℕ, zero, suc, ◌+◌, ◌<◌, ◌≤◌, List, [], ◌∷◌, length, get_or, take, Some, None, refl, sym, arith}
use Rattle.std.specs.Prelude.{max}
use Rattle.spv_types.specs.declared.forms.Member.{Member}
use Rattle.spv_types.specs.declared.limits.Limit.{Limit}
use Rattle.spv_types.specs.Types.{Types, number_of}
use Rattle.spv_base.specs.Saturation.{saturated}
use Rattle.spv_types.specs.Limits.{AreLimits, limit_among, limit_step, members_limit, no_limit}
use Rattle.spv_types.proofs.TypeLemmas.{in_first-missing, in_first-unknown}
use Rattle.spv_types.proofs.LayoutLemmas.{value_at}

pub limit_known : (ts : Types) (limits : List Limit) (n id : ℕ) → AreLimits ts limits → number_of ts id ≡ Some n → n < length limits → get_or limits n no_limit ≡ limit_among ts (length limits) id
unfolding limit_among
limit_known ts limits n id a h l = a.limits_are n l ∙ sym (value_at no_limit limit_step ts (length limits) n id h l)

pub limit_missing : (ts : Types) (limit n id : ℕ) → number_of ts id ≡ Some n → limit ≤ n → no_limit ≡ limit_among ts limit id
unfolding limit_among
limit_missing ts limit n id h l = sym (in_first-missing no_limit limit_step ts limit n id h l)

pub limit_unknown : (ts : Types) (limit id : ℕ) → number_of ts id ≡ None → no_limit ≡ limit_among ts limit id
unfolding limit_among
limit_unknown ts limit id h = sym (in_first-unknown no_limit limit_step ts limit id h)

pub no_members : (f : ℕ → Limit) → no_limit ≡ members_limit f []
unfolding members_limit
no_members f = refl

pub nesting_next : (f : ℕ → Limit) (ms : List Member) (k : ℕ) (d : Member) → k < length ms → max (members_limit f (take k ms)).nesting (f (get_or ms k d).ty).nesting ≡ (members_limit f (take (k + 1) ms)).nesting
unfolding members_limit
nesting_next f [] k d l = absurd (omega arith)
nesting_next f (m ∷ ms) zero d l = omega arith
nesting_next f (m ∷ ms) (suc k) d l =
    let z : suc k + 1 ≡ suc (k + 1) = omega arith in
    rw (z, ← nesting_next f ms k d (omega arith)) (omega arith)

pub cells_next : (f : ℕ → Limit) (ms : List Member) (k : ℕ) (d : Member) → k < length ms → saturated ((members_limit f (take k ms)).cells + (f (get_or ms k d).ty).cells) ≡ (members_limit f (take (k + 1) ms)).cells
unfolding members_limit
cells_next f [] k d l = absurd (omega arith)
cells_next f (m ∷ ms) zero d l = omega arith
cells_next f (m ∷ ms) (suc k) d l =
    let z : suc k + 1 ≡ suc (k + 1) = omega arith in
    rw (z, ← cells_next f ms k d (omega arith)) (omega arith)
