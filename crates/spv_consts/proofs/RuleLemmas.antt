-- The rules of constituents and operands, one after another.
use Rattle.std.proofs.Common.{◌≡◌, ◌∙◌, ℕ, ◌+◌, ◌<◌, ◌≤◌, true, false, List, length, get_or, drop, drop-cons, drop_of_length-le, add-one, Option, refl, sym}
use Rattle.std.specs.Prelude.{◌&&◌}
use Rattle.spv_base.specs.declared.instructions.Operand.{Operand}
use Rattle.spv_types.specs.declared.forms.Form.{Form}
use Rattle.spv_index.specs.Operands.{id_in}
use Rattle.spv_consts.specs.Context.{Context}
use Rattle.spv_consts.specs.State.{State, is_given}
use Rattle.spv_consts.specs.Rules.{are_operands, keeps_part, keeps_parts, part_type_of}

module _ (m : Context) (s : State) (word : ℕ) where
  operands_at : (os : List Operand) (k : ℕ) (o : Operand) → k < length os → o ≡ get_or os k o → are_operands m s word (drop k os) ≡ (is_given m s word (id_in o) && are_operands m s word (drop (k + 1) os))
  unfolding are_operands
  operands_at os k o l e = rw (drop-cons os k o l, ← e, add-one) refl

  pub operands_broken : (os : List Operand) (k : ℕ) (id : Option ℕ) (o : Operand) → id ≡ id_in o → k < length os → o ≡ get_or os k o → false ≡ is_given m s word id → are_operands m s word os ≡ are_operands m s word (drop k os) → false ≡ are_operands m s word os
  operands_broken os k id o same l e h g = sym (g ∙ operands_at os k o l e ∙ rw (← same, ← h) refl)

  pub operands_kept : (os : List Operand) (k : ℕ) (id : Option ℕ) (o : Operand) → id ≡ id_in o → k < length os → o ≡ get_or os k o → true ≡ is_given m s word id → are_operands m s word os ≡ are_operands m s word (drop k os) → are_operands m s word os ≡ are_operands m s word (drop (k + 1) os)
  operands_kept os k id o same l e h g = g ∙ operands_at os k o l e ∙ rw (← same, ← h) refl

  pub operands_end : (os : List Operand) (k : ℕ) → length os ≤ k → are_operands m s word os ≡ are_operands m s word (drop k os) → true ≡ are_operands m s word os
  unfolding are_operands
  operands_end os k l g = sym (g ∙ rw (drop_of_length-le os l) refl)

  parts_at : (f : Option Form) (os : List Operand) (k : ℕ) (o : Operand) → k < length os → o ≡ get_or os k o → keeps_parts m s word f k (drop k os) ≡ (keeps_part m s word (part_type_of f k) (id_in o) && keeps_parts m s word f (k + 1) (drop (k + 1) os))
  unfolding keeps_parts
  parts_at f os k o l e = rw (drop-cons os k o l, ← e, add-one) refl

  pub parts_broken : (f : Option Form) (os : List Operand) (k : ℕ) (id : Option ℕ) (o : Operand) → id ≡ id_in o → k < length os → o ≡ get_or os k o → false ≡ keeps_part m s word (part_type_of f k) id → keeps_parts m s word f 0 os ≡ keeps_parts m s word f k (drop k os) → false ≡ keeps_parts m s word f 0 os
  parts_broken f os k id o same l e h g = sym (g ∙ parts_at f os k o l e ∙ rw (← same, ← h) refl)

  pub parts_kept : (f : Option Form) (os : List Operand) (k : ℕ) (id : Option ℕ) (o : Operand) → id ≡ id_in o → k < length os → o ≡ get_or os k o → true ≡ keeps_part m s word (part_type_of f k) id → keeps_parts m s word f 0 os ≡ keeps_parts m s word f k (drop k os) → keeps_parts m s word f 0 os ≡ keeps_parts m s word f (k + 1) (drop (k + 1) os)
  parts_kept f os k id o same l e h g = g ∙ parts_at f os k o l e ∙ rw (← same, ← h) refl

  pub parts_end : (f : Option Form) (os : List Operand) (k : ℕ) → length os ≤ k → keeps_parts m s word f 0 os ≡ keeps_parts m s word f k (drop k os) → true ≡ keeps_parts m s word f 0 os
  unfolding keeps_parts
  parts_end f os k l g = sym (g ∙ rw (drop_of_length-le os l) refl)
