-- The row of a constant, made of the rows of its operands as they are in the end.
use Rattle.spv_index.specs.Operands.{id_in}
use Rattle.std.proofs.Common.{◌≡◌, ◌∙◌, ℕ, suc, ◌<◌, ◌==◌, Bool, true, false, List, [], ◌∷◌, length, map, Option, Some, None, pos, refl, sym, ap, subst, arith}
use Rattle.std.proofs.lemmas.Bool.{and_parts, eqb-true, ltb-true}
use Rattle.std.specs.Prelude.{if◌then◌else◌, nat_lt, ◌||◌}
use Rattle.std.specs.List.{flat_map}
use Rattle.std.specs.Option.{IsSomeAnd, is_some, option_and_then, option_map, option_map_or}
use Rattle.spv_base.specs.Entries.{reads}
use Rattle.spv_base.specs.Cell.{Cell}
use Rattle.spv_base.specs.declared.instructions.Inst.{Inst}
use Rattle.spv_base.specs.declared.instructions.Operand.{Operand}
use Rattle.spv_base.specs.Options.{holds}
use Rattle.spv_types.specs.declared.forms.Form.{Form}
use Rattle.spv_types.specs.declared.forms.Form.TheVariants.{Void, Bool as Boolean, Int, Vector, Array, Runtime, Struct, Pointer, Function}
use Rattle.spv_types.specs.Constants.{is_constant}
use Rattle.spv_types.specs.Laws.{IsAmong}
use Rattle.spv_types.specs.Rules.{is_sized_data}
use Rattle.spv_types.specs.Types.{Types, form_of}
use Rattle.spv_types.proofs.Exports.{impossible}
use Rattle.spv_index.specs.Definitions.{defining, result_type, type_in}
use Rattle.spv_alu.specs.Results.{integer, truth}
use Rattle.spv_consts.specs.Table.{Row}
use Rattle.spv_consts.specs.Context.{Context, has_undef_before, is_undef_before}
use Rattle.spv_consts.specs.State.{State, given_cells, is_operand, operand_cells}
use Rattle.spv_consts.specs.Values.{blank_cell, leaf_widths, null_of, undefined_of}
use Rattle.spv_consts.specs.Literals.{integer_width, keeps_literal, literal_number, word_count}
use Rattle.spv_consts.specs.Operations.{lane_width, scalar_width}
use Rattle.spv_consts.specs.Rules.{has_type, keeps_composite, keeps_kind, keeps_opcode, keeps_operation, keeps_part, keeps_parts, keeps_rules, opcode_of, part_count, part_type_of}
use Rattle.spv_consts.specs.Evaluation.{cells_of, computed_cells, value_of}
use Rattle.spv_consts.specs.Constants.{Has, IsConstant, Known, constituents, leaves_if, leaves_of, literal, result_of, specialized}
use Rattle.spv_consts.proofs.ConstantGrowth.{Grows, erased}
use Rattle.spv_consts.proofs.OperationResults.{result_is}
use Rattle.spv_consts.proofs.ValueFills.{constant_rules}
use Rattle.spv_consts.proofs.WalkPlaces.{IsPlaced}
use Rattle.spv_consts.proofs.WalkSteps.{Follows}
use Rattle.spv_consts.proofs.WalkConstants.{constant_among, operands_fill}

-- ---- what a form but for its length tells

width_erased : (o : Option Form) → integer_width (erased o) ≡ integer_width o
width_erased o = grind arith

scalar_erased : (o : Option Form) → scalar_width (erased o) ≡ scalar_width o
scalar_erased o = grind arith

lanes_erased : (ts : Types) (o : Option Form) → lane_width ts (erased o) ≡ lane_width ts o
lanes_erased ts o = grind arith

-- the width of lanes by two lists of types whose scalars have the same widths
lanes_alike : (ts us : Types) → ((q : ℕ) → scalar_width (form_of ts q) ≡ scalar_width (form_of us q)) → (o : Option Form) → lane_width ts o ≡ lane_width us o
lanes_alike ts us same o = grind (arith, same)

-- ---- a constant whose rules are kept, by the state before it and the one in the end

module _ (m : Context) (front : List Inst) (i : Inst) (s t : State) (follows : Follows m.all front s) (place : IsPlaced m.all front i) (grows : Grows m s t) where
  abbrev k : Known
  k = (t.types, t.values)

  widths_alike : (q : ℕ) → integer_width (form_of s.types q) ≡ integer_width (form_of t.types q)
  widths_alike q = sym (width_erased (form_of s.types q)) ∙ ap integer_width (sym (grows.forms q)) ∙ width_erased (form_of t.types q)

  scalars_alike : (q : ℕ) → scalar_width (form_of s.types q) ≡ scalar_width (form_of t.types q)
  scalars_alike q = sym (scalar_erased (form_of s.types q)) ∙ ap scalar_width (sym (grows.forms q)) ∙ scalar_erased (form_of t.types q)

  lanes_same : (q : ℕ) → lane_width s.types (form_of s.types q) ≡ lane_width t.types (form_of t.types q)
  lanes_same q =
      lanes_alike s.types t.types scalars_alike (form_of s.types q)
      ∙ sym (lanes_erased t.types (form_of s.types q)) ∙ ap (lane_width t.types) (sym (grows.forms q)) ∙ lanes_erased t.types (form_of t.types q)

  blanks_same : (defined : Bool) (q : ℕ) → IsAmong s.types s.known q → map (blank_cell defined) (leaf_widths s.types q) ≡ map (blank_cell defined) (leaf_widths t.types q)
  blanks_same defined q among = ap (map (blank_cell defined)) (sym (grows.widths q among))

  -- ---- operands

  undefined_among : (id ty : ℕ) (d : Inst) → defining m.all id ≡ Some d → is_undef_before i.word d ≡ true → result_type m.all id ≡ Some ty → IsAmong s.types s.known ty
  undefined_among id ty d defined before typed = subst (λ (q : ℕ). IsAmong s.types s.known q) own among
    where
      among : IsAmong s.types s.known d.ty
      among =
          let tests = and_parts (d.op == 1) (nat_lt d.word i.word) before in
          let at = (place.undefined id d defined (eqb-true d.op 1 tests.0) (ltb-true d.word i.word tests.1)).0 in
          record { number = at.number; is = follows.numbers d.ty ∙ at.is; below = subst (λ (n : ℕ). at.number < n) (sym follows.known) at.below }

      by_test : (b : Bool) → (if b then None else Some d.ty) ≡ Some ty → d.ty ≡ ty
      by_test true e = cc
      by_test false e = cc

      own : d.ty ≡ ty
      own = by_test (d.ty == 0) (sym (ap (λ (o : Option Inst). option_and_then type_in o) defined) ∙ typed)

  no_constant : (d : Inst) → is_undef_before i.word d ≡ true → is_constant d.op ≡ true → ⊥
  no_constant d before constant =
      let op : d.op ≡ 1 = eqb-true d.op 1 (and_parts (d.op == 1) (nat_lt d.word i.word) before).0 in
      impossible (subst (λ (n : ℕ). is_constant n ≡ true) op constant)

  -- of an OpUndef
  undefined_same : (id : ℕ) (d : Inst) → defining m.all id ≡ Some d → is_undef_before i.word d ≡ true → option_map_or (undefined_of s.types) (result_type m.all id) [] ≡ option_map_or (undefined_of t.types) (result_type m.all id) []
  undefined_same id d defined before = by_type (result_type m.all id) refl
    where
      by_type : (o : Option ℕ) → result_type m.all id ≡ o → option_map_or (undefined_of s.types) o [] ≡ option_map_or (undefined_of t.types) o []
      by_type None e = refl
      by_type (Some ty) e = blanks_same false ty (undefined_among id ty d defined before e)

  leaves_same : (id : ℕ) → is_operand m s i.word id ≡ true → operand_cells m s id ≡ leaves_of m k id
  leaves_same id h = by_row (reads id s.values) refl h
    where
      by_later : (d : Inst) → defining m.all id ≡ Some d → is_undef_before i.word d ≡ true → reads id s.values ≡ None → (o : Option Row) → reads id t.values ≡ o
          → option_map_or (undefined_of s.types) (result_type m.all id) [] ≡ option_map_or (λ (r : Row). r.cells) o (option_map_or (undefined_of t.types) (result_type m.all id) [])
      by_later d defined before none None e = undefined_same id d defined before
      by_later d defined before none (Some r) e = absurd (no_constant d before (grows.added id r d none e defined))

      by_defined : (o : Option Inst) → defining m.all id ≡ o → option_map_or (is_undef_before i.word) o false ≡ true → reads id s.values ≡ None
          → option_map_or (undefined_of s.types) (result_type m.all id) [] ≡ option_map_or (λ (r : Row). r.cells) (reads id t.values) (option_map_or (undefined_of t.types) (result_type m.all id) [])
      by_defined None e h none = impossible h
      by_defined (Some d) e h none = by_later d e h none (reads id t.values) refl

      by_row : (o : Option Row) → reads id s.values ≡ o → (is_some o || has_undef_before m i.word id) ≡ true → operand_cells m s id ≡ leaves_of m k id
      by_row None e h = ap (λ (o : Option Row). option_map_or (λ (r : Row). r.cells) o (option_map_or (undefined_of s.types) (result_type m.all id) [])) e ∙ by_defined (defining m.all id) refl h e
      by_row (Some r) e h =
          ap (λ (o : Option Row). option_map_or (λ (r : Row). r.cells) o (option_map_or (undefined_of s.types) (result_type m.all id) [])) e
          ∙ sym (ap (λ (o : Option Row). option_map_or (λ (r : Row). r.cells) o (option_map_or (undefined_of t.types) (result_type m.all id) [])) (grows.kept id r e))

  part_same : (part o : Option ℕ) → keeps_part m s i.word part o ≡ true → given_cells m s o ≡ leaves_if m k o
  part_same part None h = impossible h
  part_same part (Some id) h = leaves_same id (and_parts (is_operand m s i.word id) (has_type m part id) h).0

  parts_same : (form : Option Form) (n : ℕ) (os : List Operand) → keeps_parts m s i.word form n os ≡ true → flat_map (λ (o : Operand). given_cells m s (id_in o)) os ≡ flat_map (λ (o : Operand). leaves_if m k (id_in o)) os
  unfolding keeps_parts
  parts_same form n [] h = refl
  parts_same form n (o ∷ os) h =
      let p = and_parts (keeps_part m s i.word (part_type_of form n) (id_in o)) (keeps_parts m s i.word form (suc n) os) h in
      rw (part_same (part_type_of form n) (id_in o) p.0, parts_same form (suc n) os p.1) refl

  -- ---- the row

  module _ (constant : is_constant i.op ≡ true) (rules : keeps_rules m s i ≡ true) (has : reads i.id t.values ≡ Some (value_of m s i)) where
    kind : keeps_kind m s i ≡ true
    kind = (and_parts (is_sized_data s.types i.ty) (keeps_kind m s i) (constant_rules m s i constant rules)).1

    of_cells : (leaves : List Cell) → cells_of m s i ≡ leaves → Has k i leaves
    of_cells leaves same = has ∙ ap (λ (cs : List Cell). Some (record { ty = i.ty; cells = cs })) same

    composite : keeps_composite m s i (form_of s.types i.ty) ≡ true → flat_map (λ (o : Operand). given_cells m s (id_in o)) i.operands ≡ constituents m k i
    composite h =
        let p = and_parts (holds (length i.operands) (part_count (form_of s.types i.ty))) (keeps_parts m s i.word (form_of s.types i.ty) 0 i.operands) h in
        parts_same (form_of s.types i.ty) 0 i.operands p.1

    -- the lane of a literal, by what is made of it
    number : (lane_of : Cell → Cell) → keeps_literal (integer_width (form_of s.types i.ty)) i.operands ≡ true
        → ((width n : ℕ) → integer_width (form_of s.types i.ty) ≡ Some width → literal_number width i.operands ≡ Some n → cells_of m s i ≡ lane_of (integer width (pos n)) ∷ [])
        → IsSomeAnd (literal k i) (λ lane. Has k i (lane_of lane ∷ []))
    number lane_of h same = by_width (integer_width (form_of s.types i.ty)) refl h
      where
        by_number : (width : ℕ) → integer_width (form_of s.types i.ty) ≡ Some width → (o : Option ℕ) → literal_number width i.operands ≡ o → is_some o ≡ true → IsSomeAnd (literal k i) (λ lane. Has k i (lane_of lane ∷ []))
        by_number width e None g h = impossible h
        by_number width e (Some n) g h =
            let later : integer_width (form_of t.types i.ty) ≡ Some width = sym (widths_alike i.ty) ∙ e in
            let is : literal k i ≡ Some (integer width (pos n)) =
            ap (option_and_then (λ w. option_map (λ x. integer w (pos x)) (literal_number w i.operands))) later ∙ ap (option_map (λ x. integer width (pos x))) g in
            subst (λ (o : Option Cell). IsSomeAnd o (λ lane. Has k i (lane_of lane ∷ []))) (sym is) (of_cells (lane_of (integer width (pos n)) ∷ []) (same width n e g))

        by_width : (o : Option ℕ) → integer_width (form_of s.types i.ty) ≡ o → keeps_literal o i.operands ≡ true → IsSomeAnd (literal k i) (λ lane. Has k i (lane_of lane ∷ []))
        by_width None e h = impossible h
        by_width (Some width) e h = by_number width e (literal_number width i.operands) refl (and_parts (length i.operands == word_count width) (is_some (literal_number width i.operands)) h).1

    operation : keeps_operation m s i ≡ true → cells_of m s i ≡ option_map_or (computed_cells m s i) (opcode_of i) [] → IsSomeAnd (option_and_then (result_of m k i) (opcode_of i)) (Has k i)
    operation h same = by_opcode (opcode_of i) h same
      where
        by_result : (op : ℕ) → result_of m k i op ≡ Some (computed_cells m s i op) → cells_of m s i ≡ computed_cells m s i op → IsSomeAnd (result_of m k i op) (Has k i)
        by_result op is e = subst (λ (o : Option (List Cell)). IsSomeAnd o (Has k i)) (sym is) (of_cells (computed_cells m s i op) e)

        by_opcode : (o : Option ℕ) → option_map_or (keeps_opcode m s i) o false ≡ true → cells_of m s i ≡ option_map_or (computed_cells m s i) o [] → IsSomeAnd (option_and_then (result_of m k i) o) (Has k i)
        by_opcode None h e = impossible h
        by_opcode (Some op) h e =
            by_result op (result_is m s i op follows.sound k (lanes_same i.ty) (λ id among. ((λ ty typed. operands_fill m front i s follows id ty among typed), leaves_same id among)) h) e

    pub constant_is : IsConstant m k i
    constant_is = record {
      true_is = λ op. of_cells (truth true ∷ []) (rw op refl);
      false_is = λ op. of_cells (truth false ∷ []) (rw op refl);
      number = λ op. number (λ lane. lane) (rw op at kind) (λ width n e g. rw (op, e, g) refl);
      composite = λ op. of_cells (constituents m k i) (rw op (composite (rw op at kind)));
      null = λ op. of_cells (null_of t.types i.ty) (rw op (blanks_same true i.ty (constant_among m front i s follows place constant rules)));
      spec_true = λ op. of_cells (specialized m i (truth true) ∷ []) (rw op refl);
      spec_false = λ op. of_cells (specialized m i (truth false) ∷ []) (rw op refl);
      spec_number = λ op. number (specialized m i) (rw op at kind) (λ width n e g. rw (op, e, g) refl);
      spec_composite = λ op. of_cells (constituents m k i) (rw op (composite (rw op at kind)));
      operation = λ op. operation (rw op at kind) (rw op refl);
    }
