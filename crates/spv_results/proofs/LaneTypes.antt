-- The lanes of a type: at least one, of a width that an integer or a Boolean may have. So the values of the operands are lanes of
-- their types, and lanes of the result's type have its shape.
use Rattle.std.proofs.Common.{◌≡◌, ◌∙◌, ℕ, ◌<◌, ◌≤◌, ◌&&◌, true, List, Option, Some, None, refl, sym, ap, subst, arith}
use Rattle.std.specs.Prelude.{nat_le}
use Rattle.std.specs.Option.{option_and_then, option_map, option_map_or}
use Rattle.spv_alu.specs.Integers.{IsWidth}
use Rattle.spv_base.specs.Cell.{Cell}
use Rattle.spv_base.specs.declared.instructions.Inst.{Inst}
use Rattle.spv_base.specs.declared.values.Value.{Value}
use Rattle.spv_types.specs.declared.forms.Form.{Form}
use Rattle.spv_types.specs.declared.forms.Form.TheVariants.{Void, Bool as FormBool, Int as FormInt, Vector, Array, Runtime, Struct, Pointer, Function}
use Rattle.spv_types.specs.Laws.{AreSound}
use Rattle.spv_types.specs.Rows.{leaves, no_roots}
use Rattle.spv_types.specs.Rules.{is_scalar, is_width}
use Rattle.spv_types.specs.Shapes.{HasShape}
use Rattle.spv_types.specs.Types.{Types, form_of}
use Rattle.spv_typing.specs.declared.lanes.Element.{Element}
use Rattle.spv_typing.specs.declared.lanes.Element.TheVariants.{Bool as Boolean, Int}
use Rattle.spv_typing.specs.declared.lanes.Lanes.{Lanes}
use Rattle.spv_typing.specs.Lanes.{element_of, form_lanes, lanes_at, lanes_of, repeated, width_of}
use Rattle.spv_valid.specs.Below.spv_bodies.specs.Context.{type_at}
use Rattle.spv_valid.specs.Acceptance.{Accepted}
use Rattle.spv_effects.specs.LaneTypes.{HasLaneType, scalar_width}
use Rattle.spv_effects.specs.Lanes.{AreScalars, of_lanes}
use Rattle.spv_effects.proofs.Exports.{lanes_shape, value_lanes, two_at_least}
use Rattle.std.proofs.lemmas.Bool.{and_parts}
use Rattle.spv_results.specs.Operands.{IsOperand, known}
use Rattle.spv_results.specs.Results.{lane_count, lane_width}

-- a type of so many lanes of a kind
pub record IsOfLanes (ts : Types) (ty n : ℕ) (e : Element) : Type 0 where
  pub lanes : HasLaneType ts ty (width_of e) n
  pub some : 0 < n
  pub width : IsWidth (width_of e)

-- ---- what lanes that are the same have in common

same_count : (n m : ℕ) (e f : Element) → Some (repeated n e) ≡ Some (repeated m f) → n ≡ m
same_count n m e f h = ap (λ (o : Option Lanes). option_map_or (λ (l : Lanes). l.count) o n) h

same_width : (n m : ℕ) (e f : Element) → Some (repeated n e) ≡ Some (repeated m f) → width_of e ≡ width_of f
same_width n m e f h = ap (λ (o : Option Lanes). option_map_or (λ (l : Lanes). width_of l.element) o (width_of e)) h

-- ---- scalars

width_fits : (width sign : ℕ) → (is_width width && nat_le sign 1) ≡ true → IsWidth width
width_fits width sign h =
    let kept : is_width width ≡ true = (and_parts (is_width width) (nat_le sign 1) h).0 in
    (some width kept, narrow width kept)
  where
    some : (w : ℕ) → is_width w ≡ true → 0 < w
    some w h = grind arith

    narrow : (w : ℕ) → is_width w ≡ true → w ≤ 64
    narrow w h = grind arith

one_is_width : IsWidth 1
one_is_width = (omega arith, omega arith)

-- a scalar's kind, its width and the width of its values
record IsOfKind (o : Option Form) (e : Element) : Type 0 where
  width : option_and_then scalar_width o ≡ Some (width_of e)
  fits : IsWidth (width_of e)

kind_of : (ts : Types) → AreSound ts → (id count n : ℕ) (e : Element) → option_map (repeated count) (element_of (form_of ts id)) ≡ Some (repeated n e)
    → (n ≡ count) × IsOfKind (form_of ts id) e
kind_of ts sound id count n e h = go (form_of ts id) refl h
  where
    kind : (f : Element) (w : ℕ) → width_of f ≡ w → IsWidth w → Some (repeated count f) ≡ Some (repeated n e) → (n ≡ count) × (Some w ≡ Some (width_of e)) × IsWidth (width_of e)
    kind f w is fits g =
        let width : w ≡ width_of e = sym is ∙ same_width count n f e g in
        (sym (same_count count n f e g), ap Some width, subst IsWidth width fits)

    go : (o : Option Form) → form_of ts id ≡ o → option_map (repeated count) (element_of o) ≡ Some (repeated n e) → (n ≡ count) × IsOfKind o e
    go None is g = absurd (cc)
    go (Some Void) is g = absurd (cc)
    go (Some FormBool) is g = let k = kind Boolean 1 refl one_is_width g in (k.0, record { width = k.1; fits = k.2 })
    go (Some (FormInt width sign)) is g =
        let k = kind (Int width) width refl (width_fits width sign (sound.kept id (FormInt width sign) is)) g in
        (k.0, record { width = k.1; fits = k.2 })
    go (Some (Vector component k)) is g = absurd (cc)
    go (Some (Array element k stride)) is g = absurd (cc)
    go (Some (Runtime element stride)) is g = absurd (cc)
    go (Some (Struct members block)) is g = absurd (cc)
    go (Some (Pointer class target)) is g = absurd (cc)
    go (Some (Function returns parameters)) is g = absurd (cc)

-- ---- types

pub lane_type : (ts : Types) → AreSound ts → (ty n : ℕ) (e : Element) → lanes_of ts ty ≡ Some (repeated n e) → IsOfLanes ts ty n e
unfolding lanes_of
lane_type ts sound ty n e h = go (form_of ts ty) refl h
  where
    scalar : (f : Form) (g : Element) (w : ℕ) → form_of ts ty ≡ Some f → width_of g ≡ w → IsWidth w → Some (repeated 1 g) ≡ Some (repeated n e)
        → ((w ≡ width_of e) × (n ≡ 1) × IsWidth (width_of e))
    scalar f g w is same fits k =
        let width : w ≡ width_of e = sym same ∙ same_width 1 n g e k in
        (width, sym (same_count 1 n g e k), subst IsWidth width fits)

    go : (o : Option Form) → form_of ts ty ≡ o → form_lanes ts o ≡ Some (repeated n e) → IsOfLanes ts ty n e
    go None is g = absurd (cc)
    go (Some Void) is g = absurd (cc)
    go (Some FormBool) is g =
        let s = scalar FormBool Boolean 1 is refl one_is_width g in
        record { lanes = record { form = FormBool; is = is; lanes = (sym s.0, s.1) }; some = let one : n ≡ 1 = s.1 in omega arith; width = s.2 }
    go (Some (FormInt width sign)) is g =
        let s = scalar (FormInt width sign) (Int width) width is refl (width_fits width sign (sound.kept ty (FormInt width sign) is)) g in
        record { lanes = record { form = FormInt width sign; is = is; lanes = (sym s.0, s.1) }; some = let one : n ≡ 1 = s.1 in omega arith; width = s.2 }
    go (Some (Vector component count)) is g =
        let k = kind_of ts sound component count n e g in
        let two : 2 ≤ count = two_at_least (is_scalar (form_of ts component)) count (sound.kept ty (Vector component count) is) in
        let same : n ≡ count = k.0 in
        record { lanes = record { form = Vector component count; is = is; lanes = (k.0, k.1.width) }; some = omega arith; width = k.1.fits }
    go (Some (Array element k stride)) is g = absurd (cc)
    go (Some (Runtime element stride)) is g = absurd (cc)
    go (Some (Struct members block)) is g = absurd (cc)
    go (Some (Pointer class target)) is g = absurd (cc)
    go (Some (Function returns parameters)) is g = absurd (cc)

-- lanes of a type make a value of its shape
pub lanes_fit : (ts : Types) (ty n : ℕ) (e : Element) (cs : List Cell) → AreSound ts → lanes_of ts ty ≡ Some (repeated n e) → AreScalars (width_of e) n cs → HasShape ts no_roots ty (of_lanes cs)
lanes_fit ts ty n e cs sound h s = lanes_shape ts no_roots ty (width_of e) n cs sound (lane_type ts sound ty n e h).lanes s

-- a value of a type of lanes
pub scalars_of : (ts : Types) (ty n : ℕ) (e : Element) (v : Value) → AreSound ts → lanes_of ts ty ≡ Some (repeated n e) → HasShape ts no_roots ty v → AreScalars (width_of e) n (leaves v)
scalars_of ts ty n e v sound h shape = (value_lanes ts no_roots ty (width_of e) n v sound shape (lane_type ts sound ty n e h).lanes).scalars

pub count_is : (ts : Types) (ty n : ℕ) (e : Element) → lanes_of ts ty ≡ Some (repeated n e) → lane_count ts ty ≡ n
count_is ts ty n e h = ap (λ (o : Option Lanes). option_map_or (λ (l : Lanes). l.count) o 0) h

pub width_is : (ts : Types) (ty n : ℕ) (e : Element) → lanes_of ts ty ≡ Some (repeated n e) → lane_width ts ty ≡ width_of e
width_is ts ty n e h = ap (λ (o : Option Lanes). option_map_or (λ (l : Lanes). width_of l.element) o 0) h

-- ---- operands

-- the lanes of a value that has the type of an operand
pub record HasLanes (v : Value) (n : ℕ) (e : Element) : Type 0 where
  pub scalars : AreScalars (width_of e) n (leaves v)
  pub some : 0 < n
  pub width : IsWidth (width_of e)

type_there : (ts : Types) (o : Option ℕ) (l : Lanes) → lanes_at ts o ≡ Some l → (ty : ℕ) × (o ≡ Some ty) × (lanes_of ts ty ≡ Some l)
type_there ts None l h = (0, cc, cc)
type_there ts (Some ty) l h = (ty, refl, h)

pub operand_lanes : (a : Accepted) (i : Inst) (k n : ℕ) (e : Element) (v : Value) → AreSound a.types → IsOperand a i k v → lanes_at a.types (type_at (known a) i k) ≡ Some (repeated n e) → HasLanes v n e
operand_lanes a i k n e v sound is h =
    let t = type_there a.types (type_at (known a) i k) (repeated n e) h in
    let l = lane_type a.types sound t.0 n e t.2 in
    record { scalars = scalars_of a.types t.0 n e v sound t.2 (is t.0 t.1); some = l.some; width = l.width }

-- no lane is wider than 64 bits
pub narrow_lanes : (ts : Types) (ty : ℕ) (l : Lanes) → AreSound ts → Some l ≡ lanes_of ts ty → width_of l.element ≤ 64
narrow_lanes ts ty l sound h = (lane_type ts sound ty l.count l.element (sym h)).width.1
