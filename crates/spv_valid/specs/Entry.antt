-- The entry point, its function, and the size of its workgroup (SPIR-V 1.6, OpEntryPoint, OpExecutionMode,
-- OpExecutionModeId and the built-in WorkgroupSize, and this project's profile).
use Rattle.std.specs.Prelude.{ℕ, ◌*◌, ◌==◌, ◌&&◌, nat_le, if◌then◌else◌, Bool, false, List, [], ◌∷◌, length, Option, Some, None, Result, Ok, Err, find, option_and_then}
use Rattle.std.specs.Option.{option_map_or}
use Rattle.std.specs.Str.{bytes_eq}
use Rattle.spv_base.specs.Entries.{reads}
use Rattle.spv_base.specs.Cell.{Cell, defined_number}
use Rattle.spv_base.specs.declared.causes.Refusal.{Refusal}
use Rattle.spv_base.specs.declared.instructions.Inst.{Inst}
use Rattle.spv_base.specs.Options.{holds}
use Rattle.spv_index.specs.Operands.{id_operand, literal_operand, text_operand}
use Rattle.spv_index.specs.Definitions.{decoration, defining}
use Rattle.spv_types.specs.declared.forms.Form.{Form}
use Rattle.spv_types.specs.declared.forms.Form.TheVariants.{Function}
use Rattle.spv_types.specs.Types.{Types, form_of}
use Rattle.spv_types.specs.Constants.{is_constant}
use Rattle.spv_types.specs.Rules.{is_three_words, is_word}
use Rattle.spv_types.specs.Queries.{is_void}
use Rattle.spv_cfg.specs.Flow.{Flow}
use Rattle.spv_consts.specs.Table.{Constants, Row}
use Rattle.spv_valid.specs.declared.entry.Entry.{Entry}

-- how many invocations a workgroup has in each of the three directions
abbrev pub Size : Type 0
Size = ℕ × ℕ × ℕ

-- ---- the entry point

-- OpEntryPoint (15)
abbrev pub is_entry_point : Inst → Bool
is_entry_point i = i.op == 15

-- an entry point's execution model is GLCompute (5)
abbrev pub is_compute : Inst → Bool
is_compute i = holds 5 (literal_operand i 0)

-- a text is there, and is this name
abbrev pub is_text : List ℕ → Option (List ℕ) → Bool
is_text name None = false
is_text name (Some text) = bytes_eq text name

-- a GLCompute entry point of this name
abbrev pub is_named : List ℕ → Inst → Bool
is_named name i = is_entry_point i && (is_compute i && is_text name (text_operand i 2))

abbrev pub if_compute : Option Inst → Option Inst
if_compute None = None
if_compute (Some i) = if is_compute i then Some i else None

-- without a name the first entry point, which has to be a GLCompute one; with a name the first GLCompute one of this name
abbrev pub entry_point : List Inst → Option (List ℕ) → Option Inst
entry_point insts None = if_compute (find is_entry_point insts)
entry_point insts (Some name) = find (is_named name) insts

-- ---- its function

-- the type of functions without parameters that return void
abbrev pub is_plain : Types → Option Form → Bool
is_plain ts (Some (Function returns parameters)) = is_void (form_of ts returns) && length parameters == 0
is_plain ts _ = false

-- an OpFunction (54) of such a type
abbrev pub begins_plain : Types → Inst → Bool
begins_plain ts i = i.op == 54 && is_plain ts (option_and_then (form_of ts) (id_operand i 1))

-- the id is that of such a function
abbrev pub is_plain_function : Types → List Inst → ℕ → Bool
is_plain_function ts insts id = option_map_or (begins_plain ts) (defining insts id) false

-- ---- the size of its workgroup

-- three numbers, where all are there
abbrev pub all_three : Option ℕ → Option ℕ → Option ℕ → Option Size
all_three x y z = option_and_then (λ a. option_and_then (λ b. option_and_then (λ c. Some (a, b, c)) z) y) x

-- the numbers of three scalars
abbrev pub numbers_in : List Cell → Option Size
numbers_in (x ∷ y ∷ z ∷ []) = all_three (defined_number x) (defined_number y) (defined_number z)
numbers_in _ = None

-- a constant whose decoration BuiltIn (11) is WorkgroupSize (25)
abbrev pub is_size_constant : List Inst → Inst → Bool
is_size_constant insts i = is_constant i.op && holds 25 (decoration insts i.id 11)

-- the size that a constant of such a row gives, which has to be a vector of three 32-bit integers
abbrev pub size_in : Types → Row → Option Size
size_in ts row = if is_three_words ts (form_of ts row.ty) then numbers_in row.cells else None

abbrev pub constant_size : Types → Constants → Inst → Option Size
constant_size ts constants i = option_and_then (size_in ts) (reads i.id constants)

-- the number of the one cell
abbrev pub number_in : List Cell → Option ℕ
number_in (x ∷ []) = defined_number x
number_in _ = None

-- the number of a constant of such a row, which has to be a 32-bit integer
abbrev pub word_in : Types → Row → Option ℕ
word_in ts row = if is_word (form_of ts row.ty) then number_in row.cells else None

-- the number of the constant that is the operand with a number
abbrev pub word_constant : Types → Constants → Inst → ℕ → Option ℕ
word_constant ts constants i n = option_and_then (word_in ts) (option_and_then (λ id. reads id constants) (id_operand i n))

-- the size that LocalSizeId gives
abbrev pub size_by_ids : Types → Constants → Inst → Option Size
size_by_ids ts constants i = all_three (word_constant ts constants i 2) (word_constant ts constants i 3) (word_constant ts constants i 4)

-- the size that LocalSize gives
abbrev pub size_by_literals : Inst → Option Size
size_by_literals i = all_three (literal_operand i 2) (literal_operand i 3) (literal_operand i 4)

-- an instruction that gives an execution mode to the entry point of a function
abbrev pub is_mode : ℕ → ℕ → ℕ → Inst → Bool
is_mode op mode function i = i.op == op && (holds function (id_operand i 0) && holds mode (literal_operand i 1))

-- the size by what is there of a constant, LocalSizeId and LocalSize, in this order of precedence
abbrev pub size_by : Types → Constants → Option Inst → Option Inst → Option Inst → Option Size
size_by ts constants (Some constant) by_ids by_literals = constant_size ts constants constant
size_by ts constants None (Some by_ids) by_literals = size_by_ids ts constants by_ids
size_by ts constants None None (Some by_literals) = size_by_literals by_literals
size_by ts constants None None None = None

-- the first of each counts: OpExecutionModeId (331) with LocalSizeId (38), OpExecutionMode (16) with LocalSize (17)
abbrev pub size_of : Types → Constants → List Inst → ℕ → Option Size
size_of ts constants insts function =
    size_by ts constants (find (is_size_constant insts) insts) (find (is_mode 331 38 function) insts) (find (is_mode 16 17 function) insts)

-- at least one invocation in each direction, and at most 1,024 together
abbrev pub is_size : Size → Bool
is_size s = (nat_le 1 s.0 && (nat_le 1 s.1 && nat_le 1 s.2)) && nat_le (s.0 * s.1 * s.2) 1024

-- ---- together

abbrev pub entry_with : Types → Constants → List Inst → ℕ → ℕ → Size → Option Entry
entry_with ts constants insts function depth size =
    if is_plain_function ts insts function && is_size size then Some (record { function = function; size = size; depth = depth }) else None

-- the entry point's function, its second operand, as one of a flow's functions
abbrev pub entry_in : Types → Constants → Flow → List Inst → ℕ → Option Entry
entry_in ts constants flow insts function =
    option_and_then (λ depth. option_and_then (entry_with ts constants insts function depth) (size_of ts constants insts function)) (reads function flow.depths)

-- a breach of these rules stands at the first word
abbrev pub entry_breach : Refusal
entry_breach = record { code = 17; word = 0 }

abbrev pub required : {T : Type 0} → Option T → Result T Refusal
required None = Err entry_breach
required (Some x) = Ok x

-- the entry of a name, or the first one, where it keeps the rules
abbrev pub entry_named : Types → Constants → Flow → List Inst → Option (List ℕ) → Option Entry
entry_named ts constants flow insts name = option_and_then (entry_in ts constants flow insts) (option_and_then (λ i. id_operand i 1) (entry_point insts name))

unfoldable pub entry_of : Types → Constants → Flow → List Inst → Option (List ℕ) → Result Entry Refusal
entry_of ts constants flow insts name = required (entry_named ts constants flow insts name)
