-- The leaves of a constant that keeps its rules fill its type.
use Rattle.std.proofs.Common.{Bool, List, None, Option, Some, [], false, length, pos, refl, subst, sym, true, ℕ, ℤ, ◌&&◌, ◌==◌, ◌||◌, ◌∷◌, ◌≡◌}
use Rattle.std.specs.Prelude.{if◌then◌else◌}
use Rattle.std.specs.List.{flat_map}
use Rattle.std.specs.Option.{is_some, option_map_or}
use Rattle.spv_base.specs.Cell.{IsCell, Cell, undefined_cell}
use Rattle.spv_base.specs.declared.instructions.Inst.{Inst}
use Rattle.spv_base.specs.declared.instructions.Operand.{Operand}
use Rattle.spv_types.specs.declared.forms.Form.{Form}
use Rattle.spv_types.specs.declared.forms.Form.TheVariants.{Void, Bool as Boolean, Int, Vector, Array, Runtime, Struct, Pointer, Function}
use Rattle.spv_index.specs.Operands.{id_in}
use Rattle.spv_types.specs.Types.{Types, form_of}
use Rattle.spv_types.specs.Constants.{is_constant}
use Rattle.spv_types.specs.Rules.{is_sized_data, is_width}
use Rattle.spv_types.specs.Laws.{AreSound}
use Rattle.spv_types.specs.Queries.{is_boolean}
use Rattle.spv_types.proofs.Exports.{impossible, width_narrow}
use Rattle.spv_alu.specs.Results.{integer, truth}
use Rattle.spv_consts.specs.Context.{Context}
use Rattle.spv_consts.specs.State.{State, given_cells}
use Rattle.spv_consts.specs.Values.{blank_of, leaf_widths, null_of, widths_step}
use Rattle.spv_consts.specs.Literals.{integer_width, keeps_literal, literal_lane, literal_number, word_count}
use Rattle.spv_consts.specs.Lengths.{length_at}
use Rattle.spv_consts.specs.Overrides.{overridden, override_of}
use Rattle.spv_consts.specs.Rules.{is_composite, is_number, keeps_composite, keeps_kind, keeps_opcode, keeps_operation, keeps_rules, opcode_of}
use Rattle.spv_consts.specs.Evaluation.{cells_of, computed_cells, operation_cells, scalar_lane}
use Rattle.spv_consts.specs.Laws.{FillType, OperandsFillTypes}
use Rattle.spv_consts.proofs.FillLemmas.{Fill, fill_blank}
use Rattle.spv_consts.proofs.WidthLemmas.{widths_by_form, widths_narrow}
use Rattle.spv_consts.proofs.ScalarShapes.{integer_is_lane, truth_is_lane, undefined_is_lane}
use Rattle.spv_consts.proofs.CompositeFills.{composite_fills}
use Rattle.spv_consts.proofs.OperationFills.{computed_fills}
use Rattle.std.proofs.lemmas.Bool.{eqb-true, and_parts}

-- the null value and the undefined value of a type
pub blanks_fill : (ts : Types) (defined : Bool) (id : ℕ) → AreSound ts → FillType ts id (blank_of defined ts id)
blanks_fill ts defined id sound = fill_blank defined (leaf_widths ts id) (widths_narrow ts sound id)

-- ---- scalars

-- a lane of a width
abbrev IsLaneOf : ℕ → Cell → Type 0
IsLaneOf width c = (c.width ≡ width) × IsCell c

-- an override keeps the width
overridden_is_lane : (width : ℕ) (c : Cell) (o : Option ℤ) → IsLaneOf width c → IsLaneOf width (overridden c o)
overridden_is_lane width c None h = h
overridden_is_lane width c (Some n) h = (h.0, integer_is_lane c.width n h.1.narrow)

-- a Boolean constant's lane by two tests, or that of a literal
abbrev lane_by : Bool → Bool → Cell → Cell
lane_by holds fails literal = if holds then truth true else (if fails then truth false else literal)

boolean_lane : (holds fails : Bool) (words : List Operand) → IsLaneOf 1 (lane_by holds fails (literal_lane None words))
boolean_lane true fails words = (refl, truth_is_lane true)
boolean_lane false true words = (refl, truth_is_lane false)
boolean_lane false false words = (refl, undefined_is_lane)

-- the opcode of an integer constant is none of the Booleans'
abbrev lane_for : ℕ → Cell → Cell
lane_for op literal = lane_by (op == 41 || op == 48) (op == 42 || op == 49) literal

number_lane : (op : ℕ) (literal : Cell) → is_number op ≡ true → lane_for op literal ≡ literal
number_lane op literal h = either (op == 43) refl h
  where
    at : (n : ℕ) → op ≡ n → lane_for n literal ≡ literal → lane_for op literal ≡ literal
    at n same e = subst (λ (k : ℕ). lane_for k literal ≡ literal) (sym same) e

    either : (b : Bool) → (op == 43) ≡ b → (b || op == 50) ≡ true → lane_for op literal ≡ literal
    either true e h = at 43 (eqb-true op 43 e) refl
    either false e h = at 50 (eqb-true op 50 h) refl

literal_fills : (widths : ℕ → List ℕ) (f : Form) (words : List Operand) (o : Option ℤ) → keeps_literal (integer_width (Some f)) words ≡ true
    → Fill (widths_step widths f) (overridden (literal_lane (integer_width (Some f)) words) o ∷ [])
literal_fills widths Void words o h = impossible h
literal_fills widths Boolean words o h = impossible h
literal_fills widths (Int width sign) words o h = by_width (is_width width) refl h
  where
    by_number : (n : Option ℕ) → is_width width ≡ true → is_some n ≡ true → Fill (width ∷ []) (overridden (option_map_or (λ k. integer width (pos k)) n (undefined_cell width)) o ∷ [])
    by_number None e h = impossible h
    by_number (Some n) e h = (overridden_is_lane width (integer width (pos n)) o (refl, integer_is_lane width (pos n) (width_narrow width e)), tt)

    by_width : (b : Bool) → is_width width ≡ b → keeps_literal (if b then Some width else None) words ≡ true → Fill (width ∷ []) (overridden (literal_lane (if b then Some width else None) words) o ∷ [])
    by_width true e h = by_number (literal_number width words) e (and_parts (length words == word_count width) (is_some (literal_number width words)) h).1
    by_width false e h = impossible h
literal_fills widths (Vector component count) words o h = impossible h
literal_fills widths (Array element n stride) words o h = impossible h
literal_fills widths (Runtime element stride) words o h = impossible h
literal_fills widths (Struct members block) words o h = impossible h
literal_fills widths (Pointer class target) words o h = impossible h
literal_fills widths (Function returns parameters) words o h = impossible h

boolean_fills : (widths : ℕ → List ℕ) (f : Form) (holds fails : Bool) (words : List Operand) (o : Option ℤ) → is_boolean (Some f) ≡ true
    → Fill (widths_step widths f) (overridden (lane_by holds fails (literal_lane (integer_width (Some f)) words)) o ∷ [])
boolean_fills widths Void holds fails words o h = impossible h
boolean_fills widths Boolean holds fails words o h = (overridden_is_lane 1 (lane_by holds fails (literal_lane None words)) o (boolean_lane holds fails words), tt)
boolean_fills widths (Int width sign) holds fails words o h = impossible h
boolean_fills widths (Vector component count) holds fails words o h = impossible h
boolean_fills widths (Array element n stride) holds fails words o h = impossible h
boolean_fills widths (Runtime element stride) holds fails words o h = impossible h
boolean_fills widths (Struct members block) holds fails words o h = impossible h
boolean_fills widths (Pointer class target) holds fails words o h = impossible h
boolean_fills widths (Function returns parameters) holds fails words o h = impossible h

-- ---- each kind of constant

module _ (m : Context) (s : State) (i : Inst) (sound : AreSound s.types) where
  -- leaves fill the constant's type
  abbrev Fits : List Cell → Type 0
  Fits cs = FillType s.types i.ty cs

  by_form : (f : Form) → form_of s.types i.ty ≡ Some f → (cs : List Cell) → Fill (widths_step (leaf_widths s.types) f) cs → Fits cs
  by_form f is cs h = subst (λ (ws : List ℕ). Fill ws cs) (sym (widths_by_form s.types sound i.ty f is)) h

  composite : OperandsFillTypes m s i.word → keeps_composite m s i (form_of s.types i.ty) ≡ true → Fits (flat_map (λ (o : Operand). given_cells m s (id_in o)) i.operands)
  composite operands h = at (form_of s.types i.ty) refl h
    where
      at : (o : Option Form) → form_of s.types i.ty ≡ o → keeps_composite m s i o ≡ true → Fits (flat_map (λ (o : Operand). given_cells m s (id_in o)) i.operands)
      at None e h = impossible h
      at (Some f) e h = by_form f e _ (composite_fills m s i.word operands f i refl h)

  number : is_number i.op ≡ true → (n : Option ℤ) → keeps_literal (integer_width (form_of s.types i.ty)) i.operands ≡ true → Fits (overridden (scalar_lane s i) n ∷ [])
  number is n h =
      subst (λ (c : Cell). Fits (overridden c n ∷ [])) (sym (number_lane i.op (literal_lane (integer_width (form_of s.types i.ty)) i.operands) is)) (at (form_of s.types i.ty) refl h)
    where
      at : (o : Option Form) → form_of s.types i.ty ≡ o → keeps_literal (integer_width o) i.operands ≡ true → Fits (overridden (literal_lane (integer_width o) i.operands) n ∷ [])
      at None e h = impossible h
      at (Some f) e h = by_form f e _ (literal_fills (leaf_widths s.types) f i.operands n h)

  boolean : (holds fails : Bool) (n : Option ℤ) → is_boolean (form_of s.types i.ty) ≡ true → Fits (overridden (lane_by holds fails (literal_lane (integer_width (form_of s.types i.ty)) i.operands)) n ∷ [])
  boolean holds fails n h = at (form_of s.types i.ty) refl h
    where
      at : (o : Option Form) → form_of s.types i.ty ≡ o → is_boolean o ≡ true → Fits (overridden (lane_by holds fails (literal_lane (integer_width o) i.operands)) n ∷ [])
      at None e h = impossible h
      at (Some f) e h = by_form f e _ (boolean_fills (leaf_widths s.types) f holds fails i.operands n h)

  operation : ((op : ℕ) → keeps_opcode m s i op ≡ true → Fits (computed_cells m s i op)) → keeps_operation m s i ≡ true → Fits (operation_cells m s i)
  operation computed h = by_opcode (opcode_of i) h
    where
      by_opcode : (o : Option ℕ) → option_map_or (keeps_opcode m s i) o false ≡ true → Fits (option_map_or (computed_cells m s i) o [])
      by_opcode None h = impossible h
      by_opcode (Some op) h = computed op h

  each_kind : OperandsFillTypes m s i.word → Fits (null_of s.types i.ty) → ((op : ℕ) → keeps_opcode m s i op ≡ true → Fits (computed_cells m s i op)) → keeps_kind m s i ≡ true → Fits (cells_of m s i)
  each_kind operands null computed h = by_kind (is_composite i.op) (i.op == 46) (i.op == 52) (is_number i.op) refl h
    where
      by_kind : (b c d e : Bool) → is_number i.op ≡ e
          → (if b then keeps_composite m s i (form_of s.types i.ty)
          else (if c then true
          else (if d then keeps_operation m s i
          else (if e then keeps_literal (integer_width (form_of s.types i.ty)) i.operands
          else is_boolean (form_of s.types i.ty))))) ≡ true
          → Fits (if b then flat_map (λ (o : Operand). given_cells m s (id_in o)) i.operands
          else (if c then null_of s.types i.ty
          else (if d then operation_cells m s i
          else overridden (scalar_lane s i) (override_of m.all m.held i) ∷ [])))
      by_kind true c d e is h = composite operands h
      by_kind false true d e is h = null
      by_kind false false true e is h = operation computed h
      by_kind false false false true is h = number is (override_of m.all m.held i) h
      by_kind false false false false is h = boolean (i.op == 41 || i.op == 48) (i.op == 42 || i.op == 49) (override_of m.all m.held i) h

-- an array type is no constant
no_array : (op : ℕ) → is_constant op ≡ true → (op == 28) ≡ false
no_array op h = by_test (op == 28) refl
  where
    by_test : (b : Bool) → (op == 28) ≡ b → b ≡ false
    by_test true e = let constant : is_constant 28 ≡ true = subst (λ (k : ℕ). is_constant k ≡ true) (eqb-true op 28 e) h in impossible constant
    by_test false e = refl

pub constant_rules : (m : Context) (s : State) (i : Inst) → is_constant i.op ≡ true → keeps_rules m s i ≡ true → (is_sized_data s.types i.ty && keeps_kind m s i) ≡ true
constant_rules m s i constant h = by_tests (i.op == 28) (is_constant i.op) (no_array i.op constant) constant h
  where
    by_tests : (b c : Bool) → b ≡ false → c ≡ true → (if b then is_some (length_at m s i) else (if c then is_sized_data s.types i.ty && keeps_kind m s i else true)) ≡ true → (is_sized_data s.types i.ty && keeps_kind m s i) ≡ true
    by_tests true c e g h = impossible (sym e)
    by_tests false true e g h = h
    by_tests false false e g h = impossible g

pub constants_fill : (m : Context) (s : State) (i : Inst) → AreSound s.types → OperandsFillTypes m s i.word → is_constant i.op ≡ true → keeps_rules m s i ≡ true → FillType s.types i.ty (cells_of m s i)
constants_fill m s i sound operands constant kept =
    let p = and_parts (is_sized_data s.types i.ty) (keeps_kind m s i) (constant_rules m s i constant kept) in
    each_kind m s i sound operands (blanks_fill s.types true i.ty sound) (λ op. computed_fills m s i op sound operands) p.1
