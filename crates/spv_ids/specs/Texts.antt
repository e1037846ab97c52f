-- The text of an id where a state is looked at: that of its value at the type of its result, and behind that of a pointer the text of what
-- it points to now.
use Rattle.std.specs.Prelude.{ℕ, List, ◌++◌, codes, Option, Some, None, unwrap_or}
use Rattle.std.specs.Option.{option_map, option_map_or}
use Rattle.spv_base.specs.declared.values.Pointer.{Pointer}
use Rattle.spv_base.specs.declared.values.Value.{Value}
use Rattle.spv_index.specs.Definitions.{result_type}
use Rattle.spv_types.specs.Queries.{pointee}
use Rattle.spv_types.specs.Types.{Types, form_of}
use Rattle.spv_types.specs.declared.queries.Pointed.{Pointed}
use Rattle.spv_mem.specs.Memory.{Held as Memory, load_of}
use Rattle.spv_operands.specs.Operands.{pointer_of}
use Rattle.spv_show.specs.Pointers.{pointer_text}
use Rattle.spv_show.specs.Scalars.{unavailable}
use Rattle.spv_show.specs.Texts.{value_text}
use Rattle.spv_state.specs.Program.{Program}
use Rattle.spv_state.specs.State.{State}
use Rattle.spv_valid.specs.Acceptance.{Accepted}
use Rattle.spv_ids.specs.Ids.{id_value}

-- the type of the result with an id
abbrev pub type_of : Accepted → ℕ → ℕ
type_of a id = unwrap_or (result_type a.insts id) 0

-- the type that the result's type points to (SPIR-V 1.6 section 3.42.6, OpTypePointer)
abbrev pub target_of : Accepted → ℕ → ℕ
target_of a id = option_map_or (λ (p : Pointed). p.target) (pointee (form_of a.types (type_of a id))) 0

-- the part of memory that a pointer names, of a type; what a pointer can't reach isn't available
abbrev pub part_text : Types → ℕ → Option Value → List ℕ
part_text ts target None = unavailable
part_text ts target (Some v) = value_text ts target v

-- a pointer of an invocation to a type, and what it points to
abbrev pub reference_text : Types → Memory → ℕ → ℕ → Pointer → List ℕ
reference_text ts m i target q = pointer_text q ++ codes " -> " ++ part_text ts target (load_of m i q)

-- a value that an id stands for, which is a pointer or none
abbrev pub text_by : Accepted → Memory → ℕ → ℕ → Value → Option Pointer → List ℕ
text_by a m i id v None = value_text a.types (type_of a id) v
text_by a m i id v (Some q) = reference_text a.types m i (target_of a id) q

abbrev pub text_of : Accepted → Memory → ℕ → ℕ → Value → List ℕ
text_of a m i id v = text_by a m i id v (pointer_of v)

-- the text of what an id stands for at a depth of an invocation, if it stands for something there
abbrev pub id_text : Program → State → ℕ → Option ℕ → ℕ → Option (List ℕ)
id_text p s i depth id = option_map (text_of p.accepted s.memory i id) (id_value p s i depth id)
