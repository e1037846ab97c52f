-- Constituents of the types of a form's parts fill the form, one after another.
use Rattle.std.proofs.Common.{List, None, Option, Some, [], ap, arith, false, length, map, option_map, refl, replicate, slice_get, subst, suc, sym, true, zero, ℕ, ◌+◌, ◌∙◌, ◌∷◌, ◌≡◌}
use Rattle.std.specs.List.{flat_map}
use Rattle.spv_base.specs.Cell.{Cell}
use Rattle.spv_base.specs.declared.instructions.Inst.{Inst}
use Rattle.spv_base.specs.declared.instructions.Operand.{Operand}
use Rattle.spv_base.specs.Options.{holds}
use Rattle.spv_types.specs.declared.forms.Form.{Form}
use Rattle.spv_types.specs.declared.forms.Form.TheVariants.{Void, Bool as Boolean, Int, Vector, Array, Runtime, Struct, Pointer, Function}
use Rattle.spv_types.specs.declared.forms.Member.{Member}
use Rattle.spv_types.proofs.Exports.{impossible}
use Rattle.std.specs.Option.{option_map_or}
use Rattle.spv_index.specs.Definitions.{result_type}
use Rattle.spv_index.specs.Operands.{id_in}
use Rattle.spv_consts.specs.Context.{Context}
use Rattle.spv_consts.specs.State.{State, given_cells, is_operand, operand_cells}
use Rattle.spv_consts.specs.Rules.{has_type, keeps_composite, keeps_part, keeps_parts, part_count, part_type_of}
use Rattle.spv_consts.specs.Laws.{FillType, OperandsFillTypes}
use Rattle.spv_consts.specs.Values.{leaf_widths, widths_step}
use Rattle.spv_consts.proofs.FillLemmas.{Fill, fill_append}
use Rattle.spv_consts.proofs.WidthLemmas.{member_got, some_got}
use Rattle.std.proofs.lemmas.List.{length-replicate}
use Rattle.std.proofs.lemmas.Bool.{eqb-true, and_parts}
use Rattle.std.proofs.lemmas.Option.{same_Some}
use Rattle.spv_base.proofs.Exports.{holds_is}

-- the parts of a form from number k on, listed
abbrev Lists : Option Form → ℕ → List ℕ → Type 0
Lists form k types = (index part : ℕ) → slice_get types index ≡ Some part → part_type_of form (index + k) ≡ Some part

many : (ms : List Member) → length (map (λ (p : Member). p.ty) ms) ≡ length ms
many [] = refl
many (p ∷ ps) = ap suc (many ps)

module _ (m : Context) (s : State) (word : ℕ) (operands : OperandsFillTypes m s word) where
  abbrev cells_in : Operand → List Cell
  cells_in o = given_cells m s (id_in o)

  part_fills : (part : Option ℕ) (ty : ℕ) (o : Option ℕ) → part ≡ Some ty → keeps_part m s word part o ≡ true → FillType s.types ty (given_cells m s o)
  part_fills part ty None same h = impossible h
  part_fills part ty (Some id) same h = by_type (result_type m.all id) refl p.1
    where
      p : (is_operand m s word id ≡ true) × (has_type m part id ≡ true)
      p = and_parts (is_operand m s word id) (has_type m part id) h

      by_type : (t : Option ℕ) → result_type m.all id ≡ t → option_map_or (λ q. holds q part) t false ≡ true → FillType s.types ty (operand_cells m s id)
      by_type None e h = impossible h
      by_type (Some t) e h =
          let at : t ≡ ty = same_Some t ty (sym (holds_is t part h) ∙ same) in
          subst (λ (q : ℕ). FillType s.types q (operand_cells m s id)) at (operands id t p.0 e)

  parts_fill : (form : Option Form) (k : ℕ) (types : List ℕ) (os : List Operand) → length os ≡ length types → Lists form k types
      → keeps_parts m s word form k os ≡ true → Fill (flat_map (leaf_widths s.types) types) (flat_map cells_in os)
  unfolding keeps_parts
  parts_fill form k [] [] e each h = tt
  parts_fill form k [] (o ∷ os) e each h = absurd (omega arith)
  parts_fill form k (t ∷ types) [] e each h = absurd (omega arith)
  parts_fill form k (t ∷ types) (o ∷ os) e each h =
      let q = and_parts (keeps_part m s word (part_type_of form k) (id_in o)) (keeps_parts m s word form (suc k) os) h in
      let at : 0 + k ≡ k = omega arith in
      let first : part_type_of form k ≡ Some t = subst (λ (n : ℕ). part_type_of form n ≡ Some t) at (each 0 t refl) in
      fill_append (leaf_widths s.types t) (flat_map (leaf_widths s.types) types) (cells_in o) (flat_map cells_in os)
      (part_fills (part_type_of form k) t (id_in o) first q.0) (parts_fill form (suc k) types os (omega arith) next q.1)
    where
      next : Lists form (suc k) types
      next index part got = let moved : suc index + k ≡ index + suc k = omega arith in subst (λ (n : ℕ). part_type_of form n ≡ Some part) moved (each (suc index) part got)

  pub form_fills : (f : Form) (os : List Operand) → holds (length os) (part_count (Some f)) ≡ true → keeps_parts m s word (Some f) 0 os ≡ true
      → Fill (widths_step (leaf_widths s.types) f) (flat_map cells_in os)
  form_fills Void os h g = impossible h
  form_fills Boolean os h g = impossible h
  form_fills (Int width sign) os h g = impossible h
  form_fills (Vector component count) os h g =
      parts_fill (Some (Vector component count)) 0 (replicate count component) os (sym (eqb-true count (length os) h) ∙ sym (length-replicate count component)) (λ index part got. some_got count component index part got) g
  form_fills (Array element None stride) os h g = impossible h
  form_fills (Array element (Some n) stride) os h g =
      parts_fill (Some (Array element (Some n) stride)) 0 (replicate n element) os (sym (eqb-true n (length os) h) ∙ sym (length-replicate n element)) (λ index part got. some_got n element index part got) g
  form_fills (Runtime element stride) os h g = impossible h
  form_fills (Struct members block) os h g =
      parts_fill (Some (Struct members block)) 0 (map (λ (p : Member). p.ty) members) os (sym (eqb-true (length members) (length os) h) ∙ sym (many members)) at g
    where
      at : Lists (Some (Struct members block)) 0 (map (λ (p : Member). p.ty) members)
      at index part got = let same : index ≡ index + 0 = omega arith in subst (λ (n : ℕ). part_type_of (Some (Struct members block)) n ≡ Some part) same (member_got members index part got)
  form_fills (Pointer class target) os h g = impossible h
  form_fills (Function returns parameters) os h g = impossible h

  pub composite_fills : (f : Form) (i : Inst) → word ≡ i.word → keeps_composite m s i (Some f) ≡ true → Fill (widths_step (leaf_widths s.types) f) (flat_map cells_in i.operands)
  composite_fills f i same h =
      let p = and_parts (holds (length i.operands) (part_count (Some f))) (keeps_parts m s i.word (Some f) 0 i.operands) h in
      form_fills f i.operands p.0 (subst (λ (w : ℕ). keeps_parts m s w (Some f) 0 i.operands ≡ true) (sym same) p.1)
