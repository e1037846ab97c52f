-- The types of operands, by what rules say of them.
use Rattle.std.proofs.Common.{◌≡◌, ℕ, ◌-◌, List, drop, length, length-drop, take, slice_get, Option, Some, None, refl, arith}
use Rattle.std.proofs.lemmas.List.{take_all}
use Rattle.std.specs.Option.{option_and_then}
use Rattle.spv_base.specs.declared.instructions.Inst.{Inst}
use Rattle.spv_base.specs.declared.instructions.Operand.{Operand}
use Rattle.spv_index.specs.Operands.{id_in}
use Rattle.spv_types.specs.declared.forms.Form.{Form}
use Rattle.spv_types.specs.Types.{Types, form_of}
use Rattle.spv_valid.specs.Below.spv_bodies.specs.Context.{Known, type_at, type_in, type_of}

-- a form is that of a type
pub record HasForm (ts : Types) (o : Option ℕ) (f : Form) : Type 0 where
  pub type : ℕ
  pub is : o ≡ Some type
  pub form : form_of ts type ≡ Some f

pub form_has_type : (ts : Types) (o : Option ℕ) (f : Form) → option_and_then (form_of ts) o ≡ Some f → HasForm ts o f
form_has_type ts None f h = cc
form_has_type ts (Some ty) f h = record { type = ty; is = refl; form = h }

-- the type of an operand by its number
pub type_by_number : (k : Known) (i : Inst) (n : ℕ) → option_and_then (type_in k) (slice_get i.operands n) ≡ type_at k i n
type_by_number k i n = go (slice_get i.operands n)
  where
    go : (o : Option Operand) → option_and_then (type_in k) o ≡ option_and_then (type_of k) (option_and_then id_in o)
    go None = refl
    go (Some o) = refl

-- the operands behind the first ones
pub rest_is : (os : List Operand) (n : ℕ) → take (length os - n) (drop n os) ≡ drop n os
rest_is os n = take_all (length os - n) (drop n os) (rw (length-drop n os) (omega arith))
