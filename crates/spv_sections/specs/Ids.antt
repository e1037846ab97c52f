-- The rules of ids (SPIR-V 1.6 sections 2.2.1, 2.4 and 2.16.1). Every id is at least 1 and below the Bound, and is defined
-- once. An id in an operand is defined where it can be named, and stands for what the operand asks.
use Rattle.std.specs.Prelude.{ℕ, Bool, true, false, not, List, [], ◌∷◌, ◌++◌, ◌+◌, ◌==◌, ◌&&◌, ◌||◌, nat_lt, if◌then◌else◌, Option, Some, None, take, Result as Outcome}
use Rattle.std.specs.Option.{option_map_or}
use Rattle.std.specs.List.{flat_map, list_all}
use Rattle.spv_base.specs.declared.instructions.Inst.{Inst}
use Rattle.spv_base.specs.declared.instructions.Operand.{Operand}
use Rattle.spv_base.specs.declared.instructions.Operand.TheVariants.{Id, Lit, Text}
use Rattle.spv_base.specs.declared.causes.Refusal.{Refusal}
use Rattle.spv_ops.specs.declared.grammar.Head.{Head}
use Rattle.spv_ops.specs.declared.grammar.Head.TheVariants.{Plain, Result, TypedResult}
use Rattle.spv_ops.specs.Grammar.{row_of}
use Rattle.spv_ops.specs.Module.{Decoded}
use Rattle.spv_index.specs.declared.classes.Class.{Class}
use Rattle.spv_index.specs.declared.positions.Position.{Position}
use Rattle.spv_index.specs.Positions.{Stand, in_function, stands_of}
use Rattle.spv_types.specs.Build.{unless_refused}
use Rattle.spv_types.specs.InterfaceBlocks.{nothing}
use Rattle.spv_sections.specs.declared.kinds.Wanted.{Wanted}
use Rattle.spv_sections.specs.declared.kinds.Wanted.TheVariants.{DeclaredType}
use Rattle.spv_sections.specs.declared.kinds.Uses.{Uses}
use Rattle.spv_sections.specs.declared.definitions.Definition.{Definition}
use Rattle.spv_sections.specs.declared.definitions.Home.TheVariants.{Anywhere}
use Rattle.spv_sections.specs.declared.ids.Scope.{Scope}
use Rattle.spv_sections.specs.Sections.{is_line}
use Rattle.spv_sections.specs.Kinds.{fits, is_anything, uses_of, wanted}
use Rattle.spv_sections.specs.Definitions.{first, home_of, is_id, sees}

-- the codes of the rules of ids as numbers, and of what they stand for
abbrev pub number_code : ℕ
number_code = 8

abbrev pub naming_code : ℕ
naming_code = 9

-- ---- ids as numbers

-- what stands before the operands of an opcode
unfoldable pub head_of : ℕ → Head
head_of op = option_map_or (λ row. row.2) (row_of op) Plain

abbrev pub has_result : Head → Bool
has_result Plain = false
has_result Result = true
has_result TypedResult = true

abbrev pub has_type : Head → Bool
has_type Plain = false
has_type Result = false
has_type TypedResult = true

-- the operands that the rules look at: of an instruction (12) of a set with no meaning at run time the set and the number
abbrev pub looked_at : Class → Inst → List Operand
looked_at class inst = if is_line class && (inst.op == 12) then take 2 inst.operands else inst.operands

-- an id was defined by an instruction before this word
abbrev pub is_before : ℕ → Option Definition → Bool
is_before word None = false
is_before word (Some definition) = nat_lt definition.word word

-- a result is an id that nothing before it defines; 0 stands where there is none
abbrev pub is_result : Decoded → Inst → Bool
is_result decoded inst =
    if inst.id == 0 then not (has_result (head_of inst.op))
    else is_id decoded.bound inst.id && not (is_before inst.word (first decoded inst.id))

-- a result type is an id; 0 stands where there is none
abbrev pub is_type_id : Decoded → Inst → Bool
is_type_id decoded inst = if inst.ty == 0 then not (has_type (head_of inst.op)) else is_id decoded.bound inst.ty

abbrev pub is_operand : ℕ → Operand → Bool
is_operand bound (Id id) = is_id bound id
is_operand bound (Lit word) = true
is_operand bound (Text bytes) = true

-- the ids of an instruction are in order as numbers
abbrev pub is_numbered : Decoded → Class → Inst → Bool
is_numbered decoded class inst = (is_result decoded inst && is_type_id decoded inst) && list_all (is_operand decoded.bound) (looked_at class inst)

-- ---- what ids stand for

-- Names, entry points, execution modes and decorations, which stand before the functions and name ids that are defined later:
-- OpName, OpMemberName, OpEntryPoint, OpExecutionMode, OpDecorate, OpMemberDecorate, OpExecutionModeId.
abbrev pub names_later : ℕ → Bool
names_later op = (((op == 5) || (op == 6)) || ((op == 15) || (op == 16))) || (((op == 71) || (op == 72)) || (op == 331))

-- From where an instruction names ids: its function, and outside of functions the word that they have to be defined before.
-- The ids of an OpExecutionModeId may be results of any function. An OpFunction is in its function.
abbrev pub scope_of : Position → Inst → Scope
scope_of position inst = record {
  home = if inst.op == 331 then Anywhere else home_of position;
  before = if (in_function position.stage || (inst.op == 54)) || names_later inst.op then None else Some inst.word;
}

abbrev pub is_early : Option ℕ → ℕ → Bool
is_early None word = true
is_early (Some before) word = nat_lt word before

-- a definition can be named from a scope, and is of what is wanted
abbrev pub serves : Scope → Wanted → Option Definition → Bool
serves scope wanted None = false
serves scope wanted (Some definition) = fits wanted definition.kind && (sees scope.home definition.home && is_early scope.before definition.word)

-- an id is of what is wanted there
abbrev pub names : Decoded → Scope → Wanted → ℕ → Bool
names decoded scope wanted id = is_anything wanted || serves scope wanted (first decoded id)

abbrev pub operand_names : Decoded → Scope → Wanted → Operand → Bool
operand_names decoded scope wanted (Id id) = names decoded scope wanted id
operand_names decoded scope wanted (Lit word) = true
operand_names decoded scope wanted (Text bytes) = true

-- how many ids an operand is
abbrev pub id_count : Operand → ℕ
id_count (Id id) = 1
id_count (Lit word) = 0
id_count (Text bytes) = 0

-- the ids among operands, of which the first one has a number, are of what is wanted
unfoldable pub operands_name : Decoded → Scope → Uses → ℕ → List Operand → Bool
operands_name decoded scope uses number [] = true
operands_name decoded scope uses number (operand ∷ operands) =
    operand_names decoded scope (wanted uses number) operand && operands_name decoded scope uses (number + id_count operand) operands

-- the result type of an instruction is a type, where it has one, and the ids of its operands are of what is wanted
abbrev pub is_naming : Decoded → Scope → Class → Inst → Bool
is_naming decoded scope class inst =
    ((inst.ty == 0) || names decoded scope DeclaredType inst.ty) && operands_name decoded scope (uses_of inst.op) 0 (looked_at class inst)

-- ---- the refusals

abbrev pub number_breach : Inst → Refusal
number_breach inst = record { code = number_code; word = inst.word }

abbrev pub naming_breach : Inst → Refusal
naming_breach inst = record { code = naming_code; word = inst.word }

-- the refusals of one instruction, the lower code first
unfoldable pub breaches_at : Decoded → Scope → Class → Inst → List Refusal
breaches_at decoded scope class inst =
    (if is_numbered decoded class inst then [] else number_breach inst ∷ []) ++ (if is_naming decoded scope class inst then [] else naming_breach inst ∷ [])

-- the refusals of an instruction where it stands
abbrev pub breaches_of : Decoded → Stand → List Refusal
breaches_of decoded s = breaches_at decoded (scope_of s.position s.inst) s.class s.inst

abbrev pub id_breaches : Decoded → List Refusal
id_breaches decoded = flat_map (breaches_of decoded) (stands_of decoded.insts)

-- nothing, where the ids of a module are in order below its Bound, or the first breach
unfoldable pub ids_of : Decoded → Outcome (Unit {0}) Refusal
ids_of decoded = unless_refused nothing (id_breaches decoded)
