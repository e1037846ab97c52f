-- What variables begin with (SPIR-V 1.6 section 3.42.8, OpVariable): by its storage class (section 3.7) a variable is read from the bytes
-- of a setup, tells an invocation its built-in value (section 3.21), or has the value of its initializer; all else is undefined.
use Rattle.std.specs.Prelude.{◌≡◌, ℕ, ◌<◌, ◌^◌, ◌==◌, ◌||◌, if◌then◌else◌, List, [], length, slice_get, Option, Some, None}
use Rattle.std.specs.List.{find}
use Rattle.std.specs.Option.{option_and_then, option_map_or}
use Rattle.spv_base.specs.Entries.{reads}
use Rattle.spv_base.specs.declared.instructions.Inst.{Inst}
use Rattle.spv_base.specs.declared.values.Value.{Value}
use Rattle.spv_index.specs.Definitions.{decoration}
use Rattle.spv_types.specs.Laws.{AreSound}
use Rattle.spv_types.specs.Rows.{no_roots}
use Rattle.spv_types.specs.Rules.{is_block, is_input}
use Rattle.spv_types.specs.Shapes.{HasShape}
use Rattle.spv_types.specs.Types.{Types, form_of}
use Rattle.spv_consts.specs.Table.{Row}
use Rattle.spv_consts.specs.Trees.{tree_of}
use Rattle.spv_valid.specs.Acceptance.{Accepted}
use Rattle.spv_setup.specs.Settings.{group_of}
use Rattle.spv_setup.specs.declared.line.Content.{Content}
use Rattle.spv_setup.specs.declared.line.Content.TheVariants.{Hex, Zero}
use Rattle.spv_setup.specs.declared.settings.Buffer.{Buffer}
use Rattle.spv_setup.specs.declared.settings.Push.{Push}
use Rattle.spv_setup.specs.declared.settings.Settings.{Settings}
use Rattle.spv_fit.specs.Given.{is_bound}
use Rattle.spv_start.specs.Blocks.{value_in}
use Rattle.spv_start.specs.BuiltIns.{Three, built_in}
use Rattle.spv_start.specs.declared.built_ins.Invocation.{Invocation}
use Rattle.spv_mem.specs.Blanks.{blank_of}
use Rattle.spv_initial.specs.Variables.{Holds}
use Rattle.spv_initial.specs.declared.variables.Declared.{Declared}

-- ---- blocks

-- the Block struct that so many bytes are, of which those behind the ones written out are 0; no other type is a block
abbrev pub of_bytes : Types → ℕ → List ℕ → ℕ → Option Value
of_bytes ts target bytes size = if is_block (form_of ts target) then Some (value_in ts bytes size target) else None

-- the same of what a line gives: bytes that are written out, or so many that are 0
abbrev pub of_content : Types → ℕ → Content → Option Value
of_content ts target (Hex bytes) = of_bytes ts target bytes (length bytes)
of_content ts target (Zero n) = of_bytes ts target [] n

-- the buffer with a descriptor set and a binding
abbrev pub bound : List Buffer → Option ℕ → Option ℕ → Option Buffer
bound buffers None binding = None
bound buffers (Some set) None = None
bound buffers (Some set) (Some binding) = find (is_bound set binding) buffers

-- the buffer that a variable names: DescriptorSet is the decoration 34, and Binding is 33
abbrev pub buffer_of : List Inst → List Buffer → ℕ → Option Buffer
buffer_of all buffers id = bound buffers (decoration all id 34) (decoration all id 33)

abbrev pub buffer_value : Accepted → Settings → Declared → Option Value
buffer_value a s d = option_and_then (λ (b : Buffer). of_content a.types d.target b.content) (buffer_of a.insts s.buffers d.id)

-- push constants are the same bytes for all variables
abbrev pub push_value : Accepted → Settings → Declared → Option Value
push_value a s d = option_and_then (λ (p : Push). of_bytes a.types d.target p.bytes (length p.bytes)) s.push

-- ---- built-ins

-- the invocation with a number
abbrev pub invocation_of : Accepted → Settings → ℕ → Invocation
invocation_of a s n = record { index = n; size = a.size; group = group_of s }

-- BuiltIn is the decoration 11
abbrev pub input_value : Accepted → Settings → ℕ → Declared → Option Value
input_value a s n d = option_and_then (λ kind. if is_input a.types (Some kind) d.target then built_in (invocation_of a s n) kind else None) (decoration a.insts d.id 11)

-- ---- initializers

abbrev pub if_of_type : ℕ → Row → Option Row
if_of_type ty row = if row.ty == ty then Some row else None

-- the initializer of a variable: a constant of the variable's type
abbrev pub initializer_of : Accepted → Declared → Option Row
initializer_of a d = option_and_then (if_of_type d.target) (option_and_then (λ id. reads id a.constants) d.initializer)

-- its value, or else the undefined value of the variable's type
abbrev pub initialized : Accepted → Declared → Value
initialized a d = option_map_or (tree_of a.types) (initializer_of a d) (blank_of a.types 0 d.target)

-- ---- by storage class

-- what all invocations share: Uniform (2), StorageBuffer (12), PushConstant (9) and Workgroup (4)
abbrev pub shared_value : Accepted → Settings → Declared → Option Value
shared_value a s d =
    if d.class == 2 || d.class == 12 then buffer_value a s d
    else if d.class == 9 then push_value a s d
    else if d.class == 4 then Some (blank_of a.types 0 d.target)
    else None

-- what the invocation with a number has for itself: Input (1) and Private (6)
abbrev pub own_value : Accepted → Settings → ℕ → Declared → Option Value
own_value a s n d =
    if d.class == 1 then input_value a s n d
    else if d.class == 6 then Some (initialized a d)
    else None

-- what a frame has: Function (7)
abbrev pub local_value : Accepted → Declared → Option Value
local_value a d = if d.class == 7 then Some (initialized a d) else None

-- ---- what calls ask and give

-- the number of the first buffer with each descriptor set and binding
abbrev pub AreNumbers : List Buffer → (ℕ → ℕ → Option ℕ) → Type 0
AreNumbers buffers number = (set binding : ℕ) → option_and_then (slice_get buffers) (number set binding) ≡ find (is_bound set binding) buffers

-- a value has the shape of a variable's type, where the types are sound and the variable may hold values of it
abbrev pub Suits : Types → Declared → Value → Type 0
Suits ts d v = ∥ AreSound ts ∥₁ → Holds ts d → ∥ HasShape ts no_roots d.target v ∥₁

-- numbers of 32 bits, as those of an invocation
abbrev pub AreNarrow : Three → Type 0
AreNarrow n = (n.0 < 2 ^ 32) × ((n.1 < 2 ^ 32) × (n.2 < 2 ^ 32))

pub record IsNarrow (i : Invocation) : Type 0 where
  pub index : i.index < 2 ^ 32
  pub place : AreNarrow i.group.place
  pub number : AreNarrow i.group.number
