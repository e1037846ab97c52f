-- What the calls on whole composites and their parts ask and give, where an instruction of a valid module keeps its rule.
use Rattle.std.proofs.Common.{◌≡◌, ◌∙◌, ℕ, ◌<◌, ◌^◌, Bool, false, List, drop, length, slice_get, Option, Some, sym, ap, subst}
use Rattle.std.proofs.Math.Logic.{∥∥₁_elim, ∥∥₁_map}
use Rattle.std.proofs.Props.{props}
use Rattle.std.specs.Prelude.{if◌then◌else◌, unwrap_or}
use Rattle.std.specs.Option.{is_some, option_map_or}
use Rattle.spv_base.specs.Parts.{part_at, with_part}
use Rattle.spv_base.specs.declared.instructions.Inst.{Inst}
use Rattle.spv_base.specs.declared.values.Value.{Value, List as Many}
use Rattle.spv_types.specs.declared.forms.Form.{Form}
use Rattle.spv_base.specs.Saturation.{saturated}
use Rattle.spv_types.specs.Leaves.{leaf_of}
use Rattle.spv_types.specs.Queries.{components_in}
use Rattle.spv_types.specs.Rows.{HasRow, leaves, no_roots}
use Rattle.spv_types.specs.Rules.{has_runtime}
use Rattle.spv_types.specs.Shapes.{HasShape}
use Rattle.spv_types.specs.Types.{Types, form_of}
use Rattle.spv_valid.specs.Below.spv_bodies.specs.Composites.{KeepsConstruct, KeepsExtract, KeepsInsert}
use Rattle.spv_effects.specs.Composites.{joined_value, leaves_in}
use Rattle.spv_values.specs.Places.{IsRowAt}
use Rattle.spv_values.proofs.Exports.{row_at}
use Rattle.spv_valid.specs.Acceptance.{Accepted}
use Rattle.spv_valid.specs.Validity.{IsValid}
use Rattle.spv_results.specs.Operands.{IsOperand, IsResult, known}
use Rattle.spv_results.specs.Results.{constructed, numbers}
use Rattle.spv_results.proofs.ConstructShapes.{Have, constructed_by, constructed_count, constructed_shape, zipped}
use Rattle.spv_results.proofs.NamedParts.{named_plain}
use Rattle.spv_results.proofs.OperandTypes.{type_by_number}
use Rattle.spv_results.proofs.ResultRooms.{counted, few_cells, fills_room, room_of}
use Rattle.spv_results.proofs.RoomLemmas.{IsNamed, is_named, room_is, sized_counted}
use Rattle.spv_results.proofs.ShapeProps.{shape_prop}

-- ---- OpCompositeConstruct

pub record Constructs (a : Accepted) (i : Inst) (vs : List Value) : Type 0 where
  pub room : room_of a i ≡ leaves_in vs
  pub shape : IsResult a i (constructed (form_of a.types i.ty) vs)

abbrev pub AreOperands : Accepted → Inst → List Value → Type 0
AreOperands a i vs = (n : ℕ) (v : Value) → slice_get vs n ≡ Some v → IsOperand a i n v

constructs_in : (a : Accepted) (i : Inst) (vs : List Value) → IsValid a → KeepsConstruct (known a) i → has_runtime a.types i.ty ≡ false → length vs ≡ length i.operands → AreOperands a i vs → Constructs a i vs
constructs_in a i vs is rule sized count parts =
    let have : Have (known a) (HasShape a.types no_roots) i.operands vs = zipped (known a) (HasShape a.types no_roots) i.operands vs count (λ n v at ty typed. parts n v at ty (sym (type_by_number (known a) i n) ∙ typed)) in
    let shape = constructed_shape (known a) no_roots is.types i.ty i.operands vs rule have in
    record {
      room = sym (fills_room a i (constructed (form_of a.types i.ty) vs) is sized shape) ∙ constructed_count (form_of a.types i.ty) vs;
      shape = shape;
    }

pub constructs : (a : Accepted) (i : Inst) (vs : List Value) → ∥ IsValid a ∥₁ → KeepsConstruct (known a) i → has_runtime a.types i.ty ≡ false → length vs ≡ length i.operands → AreOperands a i vs → Constructs a i vs
constructs a i vs valid rule sized count parts =
    ∥∥₁_elim valid (hlevel (props, shape_prop a.types no_roots i.ty (constructed (form_of a.types i.ty) vs))) (λ (is : IsValid a). constructs_in a i vs is rule sized count parts)

-- ---- OpCompositeExtract

named_in : (a : Accepted) (i : Inst) (v : Value) → IsValid a → (rule : KeepsExtract (known a) i) → has_runtime a.types i.ty ≡ false → IsOperand a i 0 v → length (leaves v) < 2 ^ 64
    → IsNamed (known a) no_roots (drop 1 i.operands) rule.0 i.ty v
named_in a i v is rule sized operand short =
    is_named (known a) no_roots is.types (counted a is) (drop 1 i.operands) rule.0 i.ty v (operand rule.0 rule.1) rule.2.1 sized short

pub extract_row : (a : Accepted) (i : Inst) (v : Value) → ∥ IsValid a ∥₁ → (rule : KeepsExtract (known a) i) → has_runtime a.types i.ty ≡ false → IsOperand a i 0 v → length (leaves v) < 2 ^ 64
    → IsRowAt v (numbers (drop 1 i.operands)) (option_map_or saturated (leaf_of a.types rule.0 (numbers (drop 1 i.operands))) 0) (room_of a i)
extract_row a i v valid rule sized operand short =
    row_at v (numbers (drop 1 i.operands)) _ _ (∥∥₁_map valid (λ (is : IsValid a). (named_in a i v is rule sized operand short).row))

pub extract_shape : (a : Accepted) (i : Inst) (v w : Value) → ∥ IsValid a ∥₁ → KeepsExtract (known a) i → has_runtime a.types i.ty ≡ false → IsOperand a i 0 v → length (leaves v) < 2 ^ 64
    → part_at v (numbers (drop 1 i.operands)) ≡ Some w → IsResult a i w
extract_shape a i v w valid rule sized operand short at = ∥∥₁_elim valid (shape_prop a.types no_roots i.ty w) (λ (is : IsValid a).
    let n = named_in a i v is rule sized operand short in
    let both : Some n.part ≡ Some w = sym n.is ∙ at in
    let same : n.part ≡ w = cc in
    subst (HasShape a.types no_roots i.ty) same n.shape)

-- ---- OpCompositeInsert

pub record Inserts (a : Accepted) (i : Inst) (u v : Value) : Type 0 where
  pub place : IsRowAt v (numbers (drop 2 i.operands)) (option_map_or saturated (leaf_of a.types i.ty (numbers (drop 2 i.operands))) 0) (length (leaves u))
  pub room : room_of a i ≡ length (leaves v)
  pub shape : IsResult a i (with_part v (numbers (drop 2 i.operands)) u)

record InsertsIn (a : Accepted) (i : Inst) (u v : Value) : Type 0 where
  row : HasRow v (numbers (drop 2 i.operands)) (option_map_or saturated (leaf_of a.types i.ty (numbers (drop 2 i.operands))) 0) (length (leaves u))
  room : room_of a i ≡ length (leaves v)
  shape : IsResult a i (with_part v (numbers (drop 2 i.operands)) u)

inserts_in : (a : Accepted) (i : Inst) (u v : Value) → IsValid a → KeepsInsert (known a) i → has_runtime a.types i.ty ≡ false → IsOperand a i 0 u → IsOperand a i 1 v → InsertsIn a i u v
inserts_in a i u v is rule sized object composite =
    let ty : ℕ = rule.1.0 in
    let whole = composite i.ty rule.0 in
    let part = object ty rule.1.1 in
    let plain = named_plain (known a) no_roots is.types (sized_counted a.types (counted a is)) (drop 2 i.operands) i.ty ty sized rule.1.2.1 in
    let n = is_named (known a) no_roots is.types (counted a is) (drop 2 i.operands) i.ty ty v whole rule.1.2.1 plain (few_cells a i v is sized whole) in
    record {
      row = subst (HasRow v (numbers (drop 2 i.operands)) (option_map_or saturated (leaf_of a.types i.ty (numbers (drop 2 i.operands))) 0)) (sym (room_is a.types no_roots (counted a is) ty u plain part)) n.row;
      room = sym (fills_room a i v is sized whole);
      shape = n.whole u part;
    }

pub inserts : (a : Accepted) (i : Inst) (u v : Value) → ∥ IsValid a ∥₁ → KeepsInsert (known a) i → has_runtime a.types i.ty ≡ false → IsOperand a i 0 u → IsOperand a i 1 v → Inserts a i u v
inserts a i u v valid rule sized object composite =
    let all = ∥∥₁_map valid (λ (is : IsValid a). inserts_in a i u v is rule sized object composite) in
    record {
      place = row_at v (numbers (drop 2 i.operands)) _ _ (∥∥₁_map all (λ (n : InsertsIn a i u v). n.row));
      room = ∥∥₁_elim all (hlevel props) (λ (n : InsertsIn a i u v). n.room);
      shape = ∥∥₁_elim all (shape_prop a.types no_roots i.ty (with_part v (numbers (drop 2 i.operands)) u)) (λ (n : InsertsIn a i u v). n.shape);
    }

-- ---- what the calls are given

-- whether components are joined
pub constructed_is : (o : Option Form) (vs : List Value) (joins : Bool) (v : Value) → v ≡ (if joins then joined_value vs else Many vs) → joins ≡ is_some (components_in o) → v ≡ constructed o vs
constructed_is o vs joins v made is = made ∙ ap (λ (b : Bool). if b then joined_value vs else Many vs) is ∙ constructed_by o vs

pub start_is : (ts us : Types) (id whole : ℕ) (path given : List ℕ) (n : ℕ) → n ≡ option_map_or saturated (leaf_of us id path) 0 → us ≡ ts → id ≡ whole → path ≡ given → n ≡ option_map_or saturated (leaf_of ts whole given) 0
start_is ts us id whole path given n is e f g = is ∙ ap (λ (t : Types). option_map_or saturated (leaf_of t id path) 0) e ∙ ap (λ (k : ℕ). option_map_or saturated (leaf_of ts k path) 0) f ∙ ap (λ (p : List ℕ). option_map_or saturated (leaf_of ts whole p) 0) g

pub row_is : (v : Value) (path given : List ℕ) (n m k l : ℕ) → path ≡ given → n ≡ m → k ≡ l → IsRowAt v given m l → IsRowAt v path n k
row_is v path given n m k l e f g row = rw (e, f, g) row

-- the type of an operand that has one
pub whole_is : (o : Option ℕ) (n ty : ℕ) → n ≡ unwrap_or o 0 → o ≡ Some ty → n ≡ ty
whole_is o n ty is e = is ∙ ap (λ (p : Option ℕ). unwrap_or p 0) e
