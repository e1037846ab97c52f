-- The length of an array type: a defined integer constant of at least 1, read by its type's sign (SPIR-V 1.6 section 3.42.6,
-- OpTypeArray).
use Rattle.std.specs.Prelude.{ℕ, ℤ, pos, int_le, nat_le, nat_lt, ◌==◌, ◌&&◌, if◌then◌else◌, Bool, true, false, Option, Some, None}
use Rattle.std.specs.Option.{option_and_then}
use Rattle.spv_base.specs.Cell.{Cell}
use Rattle.spv_base.specs.declared.instructions.Inst.{Inst}
use Rattle.spv_types.specs.declared.forms.Form.{Form}
use Rattle.spv_types.specs.declared.forms.Form.TheVariants.{Void, Bool as Boolean, Int, Vector, Array, Runtime, Struct, Pointer, Function}
use Rattle.spv_types.specs.Types.{Types, form_of, with_length}
use Rattle.spv_alu.specs.Integers.{signed}
use Rattle.spv_index.specs.Definitions.{result_type}
use Rattle.spv_index.specs.Operands.{id_operand}
use Rattle.spv_consts.specs.Table.{scalar_of}
use Rattle.spv_consts.specs.Context.{Context}
use Rattle.spv_consts.specs.State.{State, is_next}

-- the sign of an integer type
abbrev pub sign_of : Option Form → Option ℕ
sign_of (Some (Int width sign)) = Some sign
sign_of _ = None

-- the sign of a type that is there, and an integer
abbrev pub sign_at : Types → Option ℕ → Option ℕ
sign_at ts ty = option_and_then (λ id. sign_of (form_of ts id)) ty

-- the number of a lane, read as signed where the sign is 1
abbrev pub number_in : ℕ → Cell → ℤ
number_in sign c = if sign == 1 && nat_le 1 c.width then signed c.width c.bits else pos c.bits

-- a defined number of at least 1, which its bits are
abbrev pub lane_length : ℕ → Cell → Option ℕ
lane_length sign c = if c.defined && int_le (pos 1) (number_in sign c) then Some c.bits else None

-- the length that the constant with an id gives
abbrev pub constant_length : Context → State → ℕ → Option ℕ
constant_length m s id = option_and_then (λ sign. option_and_then (lane_length sign) (scalar_of s.values id)) (sign_at s.types (result_type m.all id))

-- the length of an array type, OpTypeArray 28, and none of another instruction
abbrev pub length_at : Context → State → Inst → Option ℕ
length_at m s i = if i.op == 28 then option_and_then (constant_length m s) (id_operand i 1) else None

abbrev pub is_unset : Option Form → Bool
is_unset (Some (Array element None stride)) = true
is_unset _ = false

-- the state with the length of the array type that comes next
abbrev pub with_array : State → ℕ → ℕ → State
with_array s id n = if is_next s id && is_unset (form_of s.types id) then record s { types = with_length s.types id n } else s

abbrev pub with_length_if : State → ℕ → Option ℕ → Option State
with_length_if s id None = Some s
with_length_if s id (Some n) = if nat_lt 4194304 n then None else Some (with_array s id n)

-- The state with the length that an instruction sets. There is none where the array is longer than a type may have cells,
-- since each element has a cell at least.
abbrev pub lengthened : Context → State → Inst → Option State
lengthened m s i = with_length_if s i.id (length_at m s i)
