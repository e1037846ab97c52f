-- What the calls on vectors ask and give, where an instruction of a valid module keeps its rule.
use Rattle.std.proofs.Common.{◌≡◌, ◌∙◌, ℕ, ◌<◌, ◌≤◌, false, List, drop, length, Some, sym, ap, subst, arith}
use Rattle.std.proofs.Math.Logic.{∥∥₁_elim}
use Rattle.std.proofs.Math.ListN.{length-map}
use Rattle.std.proofs.Props.{props}
use Rattle.std.specs.Prelude.{unwrap_or}
use Rattle.spv_base.specs.declared.instructions.Inst.{Inst}
use Rattle.spv_base.specs.declared.instructions.Operand.{Operand}
use Rattle.spv_base.specs.declared.values.Value.{Value}
use Rattle.spv_index.specs.Operands.{literal_in}
use Rattle.spv_types.specs.declared.forms.Form.{Form}
use Rattle.spv_types.specs.declared.forms.Form.TheVariants.{Int, Vector}
use Rattle.spv_types.specs.declared.queries.Components.{Components}
use Rattle.spv_types.specs.Rows.{leaves, no_roots}
use Rattle.spv_types.specs.Rules.{form_has_runtime, has_runtime}
use Rattle.spv_types.specs.Shapes.{HasShape}
use Rattle.spv_types.specs.Types.{Types, form_of}
use Rattle.spv_valid.specs.Below.spv_bodies.specs.Composites.{KeepsExtractDynamic, KeepsInsertDynamic, KeepsShuffle}
use Rattle.spv_valid.specs.Below.spv_bodies.specs.Context.{IsInteger, form_at, type_at}
use Rattle.spv_effects.specs.LaneTypes.{HasLaneType, IsLaneForm}
use Rattle.spv_effects.specs.Vectors.{extract_dynamic_value, insert_dynamic_value, shuffle_value}
use Rattle.spv_valid.specs.Acceptance.{Accepted}
use Rattle.spv_valid.specs.Validity.{IsValid}
use Rattle.spv_results.specs.Operands.{IsOperand, IsResult, known}
use Rattle.spv_results.specs.Results.{numbers}
use Rattle.spv_results.proofs.OperandTypes.{form_has_type}
use Rattle.spv_results.proofs.ResultRooms.{fills_room, room_of}
use Rattle.spv_results.proofs.ShapeProps.{shape_prop}
use Rattle.spv_results.proofs.VectorShapes.{extract_dynamic_shape, insert_dynamic_shape, shuffle_count, shuffle_shape}
use Rattle.spv_results.proofs.VectorTypes.{integer_lane, lanes_are, vector_type}
use Rattle.spv_effects.proofs.Exports.{one_leaf}

-- lanes have no runtime arrays
lanes_sized : (ts : Types) (id w n : ℕ) → HasLaneType ts id w n → has_runtime ts id ≡ false
lanes_sized ts id w n t = ap (form_has_runtime ts) t.is ∙ go t.form t.lanes
  where
    go : (f : Form) → IsLaneForm ts f w n → form_has_runtime ts (Some f) ≡ false
    go f l = grind arith

-- an operand of an integer type is one lane
one_integer : (a : Accepted) (i : Inst) (n : ℕ) (v : Value) → IsValid a → IsInteger (form_at (known a) i n) → IsOperand a i n v → length (leaves v) ≡ 1
one_integer a i n v is h operand =
    let t = form_has_type a.types (type_at (known a) i n) (Int h.0 h.1) h.2 in
    (lanes_are a.types no_roots t.type h.0 1 v is.types (operand t.type t.is) (integer_lane a.types t.type h.0 h.1 t.form)).count

-- ---- OpVectorExtractDynamic

pub record Extracts (a : Accepted) (i : Inst) (v x : Value) : Type 0 where
  pub vector : 0 < length (leaves v)
  pub index : length (leaves x) ≡ 1
  pub room : room_of a i ≡ 1
  pub shape : IsResult a i (extract_dynamic_value v x)

extracts_in : (a : Accepted) (i : Inst) (vector index : Value) → IsValid a → KeepsExtractDynamic (known a) i → IsOperand a i 0 vector → IsOperand a i 1 index → Extracts a i vector index
extracts_in a i vector index is rule first second =
    let v : Components = rule.1.0 in
    let t = form_has_type a.types (type_at (known a) i 0) (Vector v.ty v.count) rule.1.1 in
    let type = vector_type a.types t.type v.ty v.count is.types t.form in
    let has = first t.type t.is in
    let shape : IsResult a i (extract_dynamic_value vector index) =
    subst (λ (ty : ℕ). HasShape a.types no_roots ty (extract_dynamic_value vector index)) rule.1.2 (extract_dynamic_shape a.types no_roots is.types t.type v.ty v.count vector index t.form has) in
    let sized : has_runtime a.types i.ty ≡ false = subst (λ (ty : ℕ). has_runtime a.types ty ≡ false) rule.1.2 (lanes_sized a.types v.ty type.width 1 type.one) in
    record {
      vector = subst (λ (n : ℕ). 0 < n) (sym (lanes_are a.types no_roots t.type type.width v.count vector is.types has type.whole).count) type.some;
      index = one_integer a i 1 index is rule.0 second;
      room = sym (fills_room a i (extract_dynamic_value vector index) is sized shape) ∙ one_leaf _;
      shape = shape;
    }

pub extracts : (a : Accepted) (i : Inst) (vector index : Value) → ∥ IsValid a ∥₁ → KeepsExtractDynamic (known a) i → IsOperand a i 0 vector → IsOperand a i 1 index → Extracts a i vector index
extracts a i vector index valid rule first second =
    ∥∥₁_elim valid (hlevel (props, shape_prop a.types no_roots i.ty (extract_dynamic_value vector index))) (λ (is : IsValid a). extracts_in a i vector index is rule first second)

-- ---- OpVectorInsertDynamic

pub record Inserts (a : Accepted) (i : Inst) (v c x : Value) : Type 0 where
  pub component : length (leaves c) ≡ 1
  pub index : length (leaves x) ≡ 1
  pub room : room_of a i ≡ length (leaves v)
  pub shape : IsResult a i (insert_dynamic_value v c x)

inserts_in : (a : Accepted) (i : Inst) (vector component index : Value) → IsValid a → KeepsInsertDynamic (known a) i → IsOperand a i 0 vector → IsOperand a i 1 component → IsOperand a i 2 index
    → Inserts a i vector component index
inserts_in a i vector component index is rule first second third =
    let v : Components = rule.1.0 in
    let type = vector_type a.types i.ty v.ty v.count is.types rule.1.1 in
    let whole = first i.ty rule.0.0 in
    let one = second v.ty rule.1.2 in
    record {
      component = (lanes_are a.types no_roots v.ty type.width 1 component is.types one type.one).count;
      index = one_integer a i 2 index is rule.0.1 third;
      room = sym (fills_room a i vector is (lanes_sized a.types i.ty type.width v.count type.whole) whole);
      shape = insert_dynamic_shape a.types no_roots is.types i.ty v.ty v.count vector component index rule.1.1 whole one;
    }

pub inserts : (a : Accepted) (i : Inst) (vector component index : Value) → ∥ IsValid a ∥₁ → KeepsInsertDynamic (known a) i → IsOperand a i 0 vector → IsOperand a i 1 component → IsOperand a i 2 index
    → Inserts a i vector component index
inserts a i vector component index valid rule first second third =
    ∥∥₁_elim valid (hlevel (props, shape_prop a.types no_roots i.ty (insert_dynamic_value vector component index))) (λ (is : IsValid a). inserts_in a i vector component index is rule first second third)

-- ---- OpVectorShuffle

pub record Shuffles (a : Accepted) (i : Inst) (v u : Value) : Type 0 where
  pub few : length (drop 2 i.operands) ≤ 4
  pub vector : 0 < length (leaves v)
  pub room : room_of a i ≡ length (drop 2 i.operands)
  pub shape : IsResult a i (shuffle_value v u (numbers (drop 2 i.operands)))

numbers_count : (os : List Operand) → length (numbers os) ≡ length os
numbers_count os = length-map os (λ o. unwrap_or (literal_in o) 0)

shuffles_in : (a : Accepted) (i : Inst) (first second : Value) → IsValid a → KeepsShuffle (known a) i → IsOperand a i 0 first → IsOperand a i 1 second → Shuffles a i first second
shuffles_in a i first second is rule one two =
    let os : List Operand = drop 2 i.operands in
    let v : Components = rule.0 in
    let u : Components = rule.2.0 in
    let r : Components = rule.2.2.0 in
    let fits = rule.2.2.2 in
    let s = form_has_type a.types (type_at (known a) i 0) (Vector v.ty v.count) rule.1 in
    let t = form_has_type a.types (type_at (known a) i 1) (Vector u.ty u.count) rule.2.1 in
    let form : form_of a.types s.type ≡ Some (Vector r.ty v.count) = s.form ∙ ap (λ (c : ℕ). Some (Vector c v.count)) fits.0.0 in
    let also : form_of a.types t.type ≡ Some (Vector r.ty u.count) = t.form ∙ ap (λ (c : ℕ). Some (Vector c u.count)) fits.0.1 in
    let type = vector_type a.types i.ty r.ty r.count is.types rule.2.2.1 in
    let from = vector_type a.types s.type v.ty v.count is.types s.form in
    let has = one s.type s.is in
    let long : length (numbers os) ≡ r.count = numbers_count os ∙ fits.1.0 in
    let shape = shuffle_shape a.types no_roots is.types i.ty s.type t.type r.ty v.count u.count r.count first second (numbers os) rule.2.2.1 form also long has (two t.type t.is) in
    let sized = lanes_sized a.types i.ty type.width r.count type.whole in
    record {
      few = subst (λ (n : ℕ). n ≤ 4) (sym fits.1.0) type.few;
      vector = subst (λ (n : ℕ). 0 < n) (sym (lanes_are a.types no_roots s.type from.width v.count first is.types has from.whole).count) from.some;
      room = sym (fills_room a i (shuffle_value first second (numbers os)) is sized shape) ∙ shuffle_count first second (numbers os) ∙ numbers_count os;
      shape = shape;
    }

pub shuffles : (a : Accepted) (i : Inst) (first second : Value) → ∥ IsValid a ∥₁ → KeepsShuffle (known a) i → IsOperand a i 0 first → IsOperand a i 1 second → Shuffles a i first second
shuffles a i first second valid rule one two =
    ∥∥₁_elim valid (hlevel (props, shape_prop a.types no_roots i.ty (shuffle_value first second (numbers (drop 2 i.operands))))) (λ (is : IsValid a). shuffles_in a i first second is rule one two)
