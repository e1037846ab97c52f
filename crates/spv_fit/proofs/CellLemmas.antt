-- Sums and products of cells, saturated at 64 bits.
use Rattle.std.proofs.Common.{◌≡◌, ◌∙◌, ℕ, ◌+◌, ◌-◌, ◌*◌, ◌^◌, ◌<◌, ◌≤◌, List, length, get_or, drop, drop-cons, drop_of_length-le, add-one, Option, Some, None, refl, ap, arith}
use Rattle.std.proofs.Math.Nat.{mul_comm}
use Rattle.std.specs.Prelude.{min, unwrap_or}
use Rattle.std.specs.Option.{option_map}
use Rattle.spv_base.specs.declared.instructions.Inst.{Inst}
use Rattle.spv_base.specs.Saturation.{saturated}
use Rattle.spv_types.specs.Types.{Types}
use Rattle.spv_base.proofs.Exports.{saturated-add, saturated-mul}
use Rattle.spv_setup.specs.declared.settings.Settings.{Settings}
use Rattle.spv_fit.specs.Cells.{all_own, all_shared, own_cells, shared_cells}

pub saturated_or_none : (o : Option ℕ) → unwrap_or (option_map saturated o) 0 ≡ saturated (unwrap_or o 0)
saturated_or_none None = omega arith
saturated_or_none (Some n) = refl

pub saturated_some : (o : Option ℕ) (n other : ℕ) → Some n ≡ option_map saturated o → n ≡ saturated (unwrap_or o other)
saturated_some None n other h = cc
saturated_some (Some m) n other h = cc

pub saturated_none : (o : Option ℕ) (n other : ℕ) → None ≡ option_map saturated o → n ≡ saturated other → n ≡ saturated (unwrap_or o other)
saturated_none None n other h e = e
saturated_none (Some m) n other h e = cc

pub saturated_times : (a b n k : ℕ) → n ≡ saturated a → k ≡ b → min (n * k) (2 ^ 64 - 1) ≡ saturated (a * b)
saturated_times a b n k e f = rw (e, f) (saturated-mul a b)

pub saturated_plus : (a b n m : ℕ) → n ≡ saturated a → m ≡ saturated b → min (n + m) (2 ^ 64 - 1) ≡ saturated (a + b)
saturated_plus a b n m e f = rw (e, f) (saturated-add a b)

pub saturated_all : (shared own frames k j s o each m r : ℕ) → j ≡ k → s ≡ saturated shared → o ≡ saturated own → each ≡ min (o + frames) (2 ^ 64 - 1) → m ≡ min (each * j) (2 ^ 64 - 1) → r ≡ min (s + m) (2 ^ 64 - 1)
    → r ≡ saturated (shared + k * (own + frames))
saturated_all shared own frames k j s o each m r same e f g h is =
    let turned : (own + frames) * k ≡ k * (own + frames) = mul_comm (own + frames) k in
    let one : each ≡ saturated (own + frames) = omega (arith, f, g) in
    let all : m ≡ saturated (k * (own + frames)) = h ∙ ap (λ (i : ℕ). min (each * i) (2 ^ 64 - 1)) same ∙ ap (λ (n : ℕ). min (n * k) (2 ^ 64 - 1)) one ∙ saturated-mul (own + frames) k ∙ ap saturated turned in
    is ∙ saturated_plus shared (k * (own + frames)) s m e all

-- ---- variables, one after another

pub shared_at : (all : List Inst) (ts : Types) (s : Settings) (insts : List Inst) (k : ℕ) (i : Inst) → k < length insts → i ≡ get_or insts k i
    → all_shared all ts s (drop k insts) ≡ shared_cells all ts s i + all_shared all ts s (drop (k + 1) insts)
unfolding all_shared
shared_at all ts s insts k i l e = rw (drop-cons insts k i l, ← e, add-one) refl

pub shared_none : (all : List Inst) (ts : Types) (s : Settings) (insts : List Inst) (k : ℕ) → length insts ≤ k → all_shared all ts s (drop k insts) ≡ 0
unfolding all_shared
shared_none all ts s insts k l = rw (drop_of_length-le insts l) refl

pub own_at : (ts : Types) (insts : List Inst) (k : ℕ) (i : Inst) → k < length insts → i ≡ get_or insts k i
    → all_own ts (drop k insts) ≡ own_cells ts i + all_own ts (drop (k + 1) insts)
unfolding all_own
own_at ts insts k i l e = rw (drop-cons insts k i l, ← e, add-one) refl

pub own_none : (ts : Types) (insts : List Inst) (k : ℕ) → length insts ≤ k → all_own ts (drop k insts) ≡ 0
unfolding all_own
own_none ts insts k l = rw (drop_of_length-le insts l) refl

-- a sum so far, and one more
pub sum_more : (new old one here after rest whole : ℕ) → new ≡ min (old + one) (2 ^ 64 - 1) → one ≡ saturated here → after ≡ here + rest → saturated (old + after) ≡ saturated whole → saturated (new + rest) ≡ saturated whole
sum_more new old one here after rest whole is e f before = omega (arith, is, e, f, before)

pub sum_end : (sum rest whole : ℕ) → sum < 2 ^ 64 → rest ≡ 0 → saturated (sum + rest) ≡ saturated whole → sum ≡ saturated whole
sum_end sum rest whole l e before = omega (arith, l, e, before)
