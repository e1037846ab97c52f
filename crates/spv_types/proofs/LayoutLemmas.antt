-- Sizes, spans and what is laid out, one type or member after another.
use Rattle.std.proofs.Common.{◌≡◌, ◌∙◌, ℕ, zero, suc, ◌+◌, ◌<◌, ◌≤◌, Bool, true, false, List, [], ◌∷◌, ◌++◌, length, map, get_or, take, drop, drop-cons, add-one, Some, None, refl, sym, arith}
use Rattle.std.specs.Prelude.{◌&&◌, max, unwrap_or}
use Rattle.std.specs.Option.{is_some}
use Rattle.spv_types.specs.declared.forms.Form.{Form}
use Rattle.spv_types.specs.declared.forms.Form.TheVariants.{Void}
use Rattle.spv_types.specs.declared.forms.Member.{Member}
use Rattle.spv_types.specs.declared.spans.Span.{Span}
use Rattle.spv_types.specs.Types.{Types, form_at, in_first, number_of}
use Rattle.spv_base.specs.Saturation.{saturated}
use Rattle.spv_types.specs.Layout.{greatest_end, laid_among, laid_step, are_members_laid, size_among, size_step}
use Rattle.spv_types.specs.Measured.{AreLaid, AreSizes}
use Rattle.spv_types.proofs.TypeLemmas.{in_first-found, in_first-missing, in_first-unknown, number_form}

-- what the first types give for an id of one of them, by its number
module _ {A : Type 0} (none : A) (step : (ℕ → A) → Form → A) where
  pub value_at : (ts : Types) (limit n id : ℕ) → number_of ts id ≡ Some n → n < limit → in_first none step ts limit id ≡ step (in_first none step ts n) (form_at ts n)
  value_at ts limit n id h l = in_first-found none step ts limit n id h l ∙ rw (number_form ts id n (0, Void) h) refl

pub size_known : (ts : Types) (sizes : List ℕ) (n id : ℕ) → AreSizes ts sizes → number_of ts id ≡ Some n → n < length sizes → get_or sizes n 0 ≡ size_among ts (length sizes) id
unfolding size_among
size_known ts sizes n id a h l = a.sizes_are n l ∙ sym (value_at 0 size_step ts (length sizes) n id h l)

pub size_missing : (ts : Types) (limit n id : ℕ) → number_of ts id ≡ Some n → limit ≤ n → 0 ≡ size_among ts limit id
unfolding size_among
size_missing ts limit n id h l = sym (in_first-missing 0 size_step ts limit n id h l)

pub size_unknown : (ts : Types) (limit id : ℕ) → number_of ts id ≡ None → 0 ≡ size_among ts limit id
unfolding size_among
size_unknown ts limit id h = sym (in_first-unknown 0 size_step ts limit id h)

pub laid_known : (ts : Types) (laid : List Bool) (n id : ℕ) → AreLaid ts laid → number_of ts id ≡ Some n → n < length laid → get_or laid n false ≡ laid_among ts (length laid) id
unfolding laid_among
laid_known ts laid n id a h l = a.laid_are n l ∙ sym (value_at false (laid_step ts) ts (length laid) n id h l)

pub laid_missing : (ts : Types) (limit n id : ℕ) → number_of ts id ≡ Some n → limit ≤ n → false ≡ laid_among ts limit id
unfolding laid_among
laid_missing ts limit n id h l = sym (in_first-missing false (laid_step ts) ts limit n id h l)

pub laid_unknown : (ts : Types) (limit id : ℕ) → number_of ts id ≡ None → false ≡ laid_among ts limit id
unfolding laid_among
laid_unknown ts limit id h = sym (in_first-unknown false (laid_step ts) ts limit id h)

pub no_end : (size : ℕ → ℕ) → 0 ≡ greatest_end size []
unfolding greatest_end
no_end size = refl

pub greatest_next : (size : ℕ → ℕ) (ms : List Member) (k : ℕ) (d : Member) → k < length ms → max (greatest_end size (take k ms)) (saturated (unwrap_or (get_or ms k d).offset 0 + size (get_or ms k d).ty)) ≡ greatest_end size (take (k + 1) ms)
unfolding greatest_end
greatest_next size [] k d l = absurd (omega arith)
greatest_next size (m ∷ ms) zero d l = omega arith
greatest_next size (m ∷ ms) (suc k) d l =
    let z : suc k + 1 ≡ suc (k + 1) = omega arith in
    rw (z, ← greatest_next size ms k d (omega arith)) (omega arith)

pub no_members_laid : (laid : ℕ → Bool) → true ≡ are_members_laid laid []
unfolding are_members_laid
no_members_laid laid = refl

pub members_laid_at : (laid : ℕ → Bool) (ms : List Member) (n : ℕ) (d : Member) → n < length ms → are_members_laid laid (drop n ms) ≡ ((is_some (get_or ms n d).offset && laid (get_or ms n d).ty) && are_members_laid laid (drop (n + 1) ms))
unfolding are_members_laid
members_laid_at laid ms n d l = rw (drop-cons ms n d l, add-one) refl

pub map_next : (f : Member → Span) (ms : List Member) (k : ℕ) (d : Member) → k < length ms → map f (take (k + 1) ms) ≡ map f (take k ms) ++ f (get_or ms k d) ∷ []
map_next f [] k d l = absurd (omega arith)
map_next f (m ∷ ms) zero d l = refl
map_next f (m ∷ ms) (suc k) d l = let z : suc k + 1 ≡ suc (k + 1) = omega arith in rw (z, map_next f ms k d (omega arith)) refl
