-- Types whose values are lanes, by their forms.
use Rattle.std.proofs.Common.{◌≡◌, ◌∙◌, ℕ, ◌<◌, ◌≤◌, nat_le, true, Option, Some, None, refl, ap, arith}
use Rattle.std.proofs.lemmas.Bool.{and_parts, leb-true}
use Rattle.std.specs.Option.{option_and_then}
use Rattle.spv_base.specs.declared.values.Root.{Root}
use Rattle.spv_base.specs.declared.values.Value.{Value}
use Rattle.spv_types.specs.declared.forms.Form.{Form}
use Rattle.spv_types.specs.declared.forms.Form.TheVariants.{Void, Bool as Boolean, Int, Vector, Array, Runtime, Struct, Pointer, Function}
use Rattle.spv_types.specs.Laws.{AreSound}
use Rattle.spv_types.specs.Rows.{leaves}
use Rattle.spv_types.specs.Rules.{is_scalar}
use Rattle.spv_types.specs.Shapes.{HasShape}
use Rattle.spv_types.specs.Types.{Types, form_of}
use Rattle.spv_effects.specs.LaneTypes.{HasLaneType, IsLaneForm, scalar_width}
use Rattle.spv_effects.specs.Lanes.{AreScalars}
use Rattle.spv_effects.proofs.Exports.{value_lanes}

-- a scalar type, and its width
pub record IsScalarType (ts : Types) (id : ℕ) : Type 0 where
  pub width : ℕ
  pub is : option_and_then scalar_width (form_of ts id) ≡ Some width
  pub lane : HasLaneType ts id width 1

pub scalar_type : (ts : Types) (id : ℕ) → is_scalar (form_of ts id) ≡ true → IsScalarType ts id
scalar_type ts id h = go (form_of ts id) refl h
  where
    made : (f : Form) (w : ℕ) → form_of ts id ≡ Some f → scalar_width f ≡ Some w → IsLaneForm ts f w 1 → IsScalarType ts id
    made f w e s l = record { width = w; is = ap (option_and_then scalar_width) e ∙ s; lane = record { form = f; is = e; lanes = l } }

    go : (o : Option Form) → form_of ts id ≡ o → is_scalar o ≡ true → IsScalarType ts id
    go None e h = cc
    go (Some Void) e h = cc
    go (Some Boolean) e h = made Boolean 1 e refl (refl, refl)
    go (Some (Int width sign)) e h = made (Int width sign) width e refl (refl, refl)
    go (Some (Vector component count)) e h = cc
    go (Some (Array element n stride)) e h = cc
    go (Some (Runtime element stride)) e h = cc
    go (Some (Struct members block)) e h = cc
    go (Some (Pointer class target)) e h = cc
    go (Some (Function returns parameters)) e h = cc

pub integer_lane : (ts : Types) (id width sign : ℕ) → form_of ts id ≡ Some (Int width sign) → HasLaneType ts id width 1
integer_lane ts id width sign e = record { form = Int width sign; is = e; lanes = (refl, refl) }

-- a vector type: the width of its components, of which it has two to four
pub record IsVectorType (ts : Types) (id component count : ℕ) : Type 0 where
  pub width : ℕ
  pub is : option_and_then scalar_width (form_of ts component) ≡ Some width
  pub whole : HasLaneType ts id width count
  pub one : HasLaneType ts component width 1
  pub some : 0 < count
  pub few : count ≤ 4

pub vector_type : (ts : Types) (id component count : ℕ) → AreSound ts → form_of ts id ≡ Some (Vector component count) → IsVectorType ts id component count
vector_type ts id component count sound e =
    let kept = and_parts (is_scalar (form_of ts component)) _ (sound.kept id (Vector component count) e) in
    let counts = and_parts (nat_le 2 count) (nat_le count 4) kept.1 in
    let two : 2 ≤ count = leb-true 2 count counts.0 in
    let s = scalar_type ts component kept.0 in
    record {
      width = s.width;
      is = s.is;
      whole = record { form = Vector component count; is = e; lanes = (refl, s.is) };
      one = s.lane;
      some = omega arith;
      few = leb-true count 4 counts.1;
    }

-- the lanes of values of such types
pub lanes_are : (ts : Types) (roots : Root → Option ℕ) (id w n : ℕ) (v : Value) → AreSound ts → HasShape ts roots id v → HasLaneType ts id w n → AreScalars w n (leaves v)
lanes_are ts roots id w n v sound h t = (value_lanes ts roots id w n v sound h t).scalars
