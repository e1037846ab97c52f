-- What each id of a module stands for, and from where it can be named (SPIR-V 1.6 section 2.16.1): the ids that are defined
-- before the functions and the functions themselves from anywhere, and the others from within their function.
use Rattle.std.specs.Prelude.{ℕ, Bool, true, false, List, ◌==◌, ◌&&◌, nat_lt, if◌then◌else◌, map, Option, Some, None}
use Rattle.spv_base.specs.Entries.{reads}
use Rattle.spv_base.specs.declared.instructions.Inst.{Inst}
use Rattle.spv_ops.specs.Module.{Decoded}
use Rattle.spv_index.specs.declared.positions.Position.{Position}
use Rattle.spv_index.specs.declared.positions.Standing.{Standing}
use Rattle.spv_index.specs.Classes.{sets_of}
use Rattle.spv_index.specs.Positions.{Stand, stands, outside, in_function}
use Rattle.spv_sections.specs.declared.definitions.Home.{Home}
use Rattle.spv_sections.specs.declared.definitions.Home.TheVariants.{Module, Within}
use Rattle.spv_sections.specs.declared.definitions.Definition.{Definition}
use Rattle.spv_sections.specs.Kinds.{kind_of}

-- where an instruction stands: in a function, by the word of its OpFunction, or in none
abbrev pub home_of : Position → Home
home_of position = if in_function position.stage then Within position.function_word else Module

-- an id of the second home can be named from the first
abbrev pub sees : Home → Home → Bool
sees Module (Within there) = false
sees (Within here) (Within there) = here == there
sees _ _ = true

-- what the result of an instruction stands for: a function (54) can be named from anywhere
abbrev pub definition_at : Position → Inst → Definition
definition_at position inst = record { kind = kind_of (in_function position.stage) inst.op; home = if inst.op == 54 then Module else home_of position; word = inst.word }

abbrev pub definition_of : Stand → ℕ × Definition
definition_of s = (s.inst.id, definition_at s.position s.inst)

-- the definitions of ids, in their order: the first under an id counts
abbrev pub definitions_from : List (ℕ × Bool) → Position → List Inst → List (ℕ × Definition)
definitions_from sets position insts = map definition_of (stands sets position insts)

unfoldable pub definitions_of : List Inst → List (ℕ × Definition)
definitions_of insts = definitions_from (sets_of insts) outside insts

-- an id is not 0, and below the Bound
abbrev pub is_id : ℕ → ℕ → Bool
is_id bound id = nat_lt 0 id && nat_lt id bound

-- the first definition of an id
unfoldable pub first : Decoded → ℕ → Option Definition
first decoded id = if is_id decoded.bound id then reads id (definitions_of decoded.insts) else None

-- ---- by the index

-- what an id stands for that is defined by an instruction with a standing
abbrev pub by_parts : Option Inst → Option Standing → Option Definition
by_parts None standing = None
by_parts (Some inst) None = None
by_parts (Some inst) (Some standing) = Some (definition_at standing.position inst)
