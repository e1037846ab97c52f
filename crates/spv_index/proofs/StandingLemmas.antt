-- The standing of the instruction that defines an id, by its number.
use Rattle.std.proofs.Common.{◌≡◌, ℕ, suc, ◌-◌, Bool, true, false, List, [], ◌∷◌, map, Option, Some, None, slice_get, refl, sym, ap, arith}
use Rattle.std.specs.Prelude.{find, if◌then◌else◌}
use Rattle.std.specs.Option.{option_and_then, option_map}
use Rattle.std.proofs.lemmas.Grind.{common_steps}
use Rattle.spv_base.specs.declared.instructions.Inst.{Inst}
use Rattle.spv_index.specs.declared.positions.Position.{Position}
use Rattle.spv_index.specs.Classes.{class_of, sets_of}
use Rattle.spv_index.specs.Definitions.{has_result, is_id, number_from, number_of}
use Rattle.spv_index.specs.Positions.{outside, position_after, stand_of, standing, stands, stands_of}
use Rattle.spv_index.proofs.FirstLemmas.{number_above}

module _ (p : Inst → Bool) (sets : List (ℕ × Bool)) where
  leads : (k : ℕ) (position : Position) (insts : List Inst) (n : ℕ) → number_from k p insts ≡ Some n
      → slice_get (map standing (stands sets position insts)) (n - k) ≡ option_map standing (find (λ s. p s.inst) (stands sets position insts))
  leads k position [] n e = absurd (cc)
  leads k position (i ∷ is) n e =
      grind (arith, common_steps, number_above (suc k) p is n, leads (suc k) (position_after position (class_of sets i) i) is n)

  misses : (k : ℕ) (position : Position) (insts : List Inst) → number_from k p insts ≡ None → find (λ s. p s.inst) (stands sets position insts) ≡ None
  misses k position [] e = refl
  misses k position (i ∷ is) e = grind (arith, misses (suc k) (position_after position (class_of sets i) i) is)

  pub standing_led : (position : Position) (insts : List Inst) (number : Option ℕ) → number ≡ number_from 0 p insts
      → option_and_then (slice_get (map standing (stands sets position insts))) number ≡ option_map standing (find (λ s. p s.inst) (stands sets position insts))
  standing_led position insts None e = sym (ap (option_map standing) (misses 0 position insts (sym e)))
  standing_led position insts (Some n) e = let z : n - 0 ≡ n = omega arith in rw z at (leads 0 position insts n (sym e))

pub standing_of : (insts : List Inst) (id : ℕ) (number : Option ℕ) → number ≡ number_of insts id
    → option_and_then (slice_get (map standing (stands_of insts))) number ≡ option_map standing (stand_of insts id)
unfolding number_of stand_of
standing_of insts id number e = go (is_id id) e where
  go : (b : Bool) → number ≡ (if b then number_from 0 (has_result id) insts else None)
      → option_and_then (slice_get (map standing (stands_of insts))) number ≡ option_map standing (if b then find (λ s. has_result id s.inst) (stands_of insts) else None)
  go true h = standing_led (has_result id) (sets_of insts) outside insts number h
  go false h = rw h refl
