-- Walks over the instructions of a function, a step at a time.
use Rattle.std.proofs.Common.{◌≡◌, ◌∙◌, ℕ, zero, suc, ◌+◌, ◌-◌, ◌≤◌, true, List, [], ◌∷◌, ◌++◌, drop, Some, refl, sym, ap, slice_get, arith}
use Rattle.std.specs.List.{flat_map}
use Rattle.spv_base.specs.declared.instructions.Inst.{Inst}
use Rattle.spv_index.specs.Positions.{Stand}
use Rattle.spv_types.specs.Types.{Types}
use Rattle.spv_frame.specs.Registers.{Planned}
use Rattle.spv_plans.specs.Members.{leading, stands_in}
use Rattle.spv_plans.specs.Plans.{HasRegisters}
use Rattle.spv_plans.specs.Registers.{AreCounted, is_counted, is_register, register_of}

-- ---- the registers

-- the instructions in a function that have registers, from a number on
abbrev left : Types → List Stand → ℕ → ℕ → List Inst
left ts ss function n = flat_map (register_of ts) (leading (stands_in function) (drop n ss))

-- a plan with the registers of the instructions so far, and those that are left
pub record Walking (ts : Types) (ss : List Stand) (start function first : ℕ) (p : Planned) (n : ℕ) : Type 0 where
  pub function_is : p.function ≡ function
  pub first_is : p.first ≡ first
  pub so_far : List Inst
  pub lists : HasRegisters ts so_far p
  pub rest : so_far ++ left ts ss function n ≡ left ts ss function start

-- ---- the types of the registers that are left have numbers of cells

get_drop : (ss : List Stand) (n k : ℕ) → slice_get (drop n ss) k ≡ slice_get ss (n + k)
get_drop ss zero k = let e : k ≡ 0 + k = omega arith in ap (λ (m : ℕ). slice_get ss m) e
get_drop [] (suc n) k = refl
get_drop (s ∷ ss) (suc n) k = let e : suc (n + k) ≡ suc n + k = omega arith in get_drop ss n k ∙ ap (λ (m : ℕ). slice_get (s ∷ ss) m) e

pub counted_here : (ts : Types) (ss : List Stand) (start n : ℕ) (s : Stand) → AreCounted ts (drop start ss) → start ≤ n → drop n ss ≡ s ∷ drop (n + 1) ss → is_register ts s.inst ≡ true
    → is_counted ts s.inst.ty ≡ true
counted_here ts ss start n s counted low at register =
    let own : n ≡ n + 0 = omega arith in
    let place : slice_get ss n ≡ Some s = ap (λ (m : ℕ). slice_get ss m) own ∙ sym (get_drop ss n 0) ∙ ap (λ (xs : List Stand). slice_get xs 0) at in
    let sum : start + (n - start) ≡ n = omega arith in
    counted (n - start) s (get_drop ss start (n - start) ∙ ap (λ (m : ℕ). slice_get ss m) sum ∙ place) register
