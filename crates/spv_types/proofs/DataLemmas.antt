-- What a test of a type tells of its form.
use Rattle.std.proofs.Common.{◌≡◌, ℕ, ◌≤◌, ◌&&◌, ◌||◌, not, Bool, true, false, Option, Some, None, refl, arith}
use Rattle.std.proofs.lemmas.Bool.{and_parts}
use Rattle.spv_types.specs.declared.forms.Form.{Form}
use Rattle.spv_types.specs.declared.forms.Form.TheVariants.{Void, Bool as Boolean, Int, Vector, Array, Runtime, Struct, Pointer, Function}
use Rattle.spv_types.specs.Types.{Types, form_of}
use Rattle.spv_types.specs.Rules.{has_runtime, is_data, is_runtime, is_scalar, is_sized_data, is_width, keeps_member}

pub scalar_data : (f : Option Form) → is_scalar f ≡ true → is_data f ≡ true
scalar_data f h = grind arith

pub runtime_data : (f : Option Form) → is_runtime f ≡ true → is_data f ≡ true
runtime_data f h = grind arith

pub sized_data : (ts : Types) (id : ℕ) → is_sized_data ts id ≡ true → is_data (form_of ts id) ≡ true
sized_data ts id h = (and_parts (is_data (form_of ts id)) (not (has_runtime ts id)) h).0

pub member_data : (ts : Types) (block last : Bool) (ty : ℕ) → keeps_member ts block last ty ≡ true → is_data (form_of ts ty) ≡ true
member_data ts block last ty h = either (is_sized_data ts ty) refl h
  where
    either : (b : Bool) → is_sized_data ts ty ≡ b → (b || (last && (block && is_runtime (form_of ts ty)))) ≡ true → is_data (form_of ts ty) ≡ true
    either true e h = sized_data ts ty e
    either false e h =
        let p = and_parts last (block && is_runtime (form_of ts ty)) h in
        let q = and_parts block (is_runtime (form_of ts ty)) p.1 in
        runtime_data (form_of ts ty) q.1

-- no integer is wider than 64 bits
pub width_narrow : (width : ℕ) → is_width width ≡ true → width ≤ 64
width_narrow width h = grind arith

-- a type of data has a form
pub data_form : (o : Option Form) → is_data o ≡ true → (f : Form) × (o ≡ Some f)
data_form None h = absurd (cc)
data_form (Some f) h = (f, refl)
