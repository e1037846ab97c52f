-- The bytes that a setup gives to the variables of blocks: those of the classes Uniform and StorageBuffer by their descriptor
-- set and binding, and those of PushConstant all the same ones.
use Rattle.std.specs.Prelude.{ℕ, ◌==◌, ◌&&◌, not, nat_lt, Bool, if◌then◌else◌, List, [], ◌∷◌, length, Option, Some, None, Result, Ok, Err}
use Rattle.std.specs.List.{find, list_any}
use Rattle.std.specs.Option.{is_some, option_map}
use Rattle.spv_base.specs.declared.causes.SetupRefusal.{SetupRefusal}
use Rattle.spv_base.specs.declared.instructions.Inst.{Inst}
use Rattle.spv_base.specs.Lowest.{lower}
use Rattle.spv_base.specs.Options.{holds}
use Rattle.spv_index.specs.Definitions.{decoration}
use Rattle.spv_index.specs.Operands.{literal_operand}
use Rattle.spv_types.specs.declared.forms.Form.{Form}
use Rattle.spv_types.specs.declared.forms.Form.TheVariants.{Pointer}
use Rattle.spv_types.specs.Types.{Types, form_of}
use Rattle.spv_types.specs.InterfaceBlocks.{is_block_variable}
use Rattle.spv_types.specs.Layout.{size_of}
use Rattle.spv_setup.specs.declared.line.Content.{Content}
use Rattle.spv_setup.specs.declared.line.Content.TheVariants.{Hex, Zero}
use Rattle.spv_setup.specs.declared.settings.Buffer.{Buffer}
use Rattle.spv_setup.specs.declared.settings.Push.{Push}
use Rattle.spv_setup.specs.declared.settings.Settings.{Settings}
use Rattle.spv_fit.specs.declared.given.Given.{Given}

-- The size of the block that a pointer type points to: its fixed part, the greatest of the ends of its members, where a runtime
-- array ends where it begins.
abbrev pub block_size : Types → Option Form → ℕ
block_size ts (Some (Pointer class target)) = size_of ts target
block_size ts _ = 0

-- how many bytes a line gives
abbrev pub bytes_in : Content → ℕ
bytes_in (Hex bytes) = length bytes
bytes_in (Zero n) = n

abbrev pub buffer_given : Buffer → Given
buffer_given b = record { line = b.line; bytes = bytes_in b.content }

abbrev pub push_given : Push → Given
push_given p = record { line = p.line; bytes = length p.bytes }

abbrev pub is_bound : ℕ → ℕ → Buffer → Bool
is_bound set binding b = (b.set == set) && (b.binding == binding)

-- the bytes of the buffer with a descriptor set and a binding
unfoldable pub given_at : List Buffer → ℕ → ℕ → Option Given
given_at buffers set binding = option_map buffer_given (find (is_bound set binding) buffers)

abbrev pub given_by : List Buffer → Option ℕ → Option ℕ → Option Given
given_by buffers None binding = None
given_by buffers (Some set) None = None
given_by buffers (Some set) (Some binding) = given_at buffers set binding

-- the bytes of a variable: PushConstant is the class 9, and DescriptorSet and Binding are the decorations 34 and 33
abbrev pub given_to : List Inst → Settings → Inst → Option Given
given_to all s i = if holds 9 (literal_operand i 0) then option_map push_given s.push else given_by s.buffers (decoration all i.id 34) (decoration all i.id 33)

-- a variable of a block has no bytes
abbrev pub lacks_bytes : List Inst → Settings → Inst → Bool
lacks_bytes all s i = is_block_variable i && not (is_some (given_to all s i))

-- the line of bytes that are fewer than a size
abbrev pub short_line : ℕ → Option Given → Option ℕ
short_line size None = None
short_line size (Some given) = if nat_lt given.bytes size then Some given.line else None

-- the line of bytes that are fewer than the fixed part of a variable's block
abbrev pub short_for : List Inst → Types → Settings → Inst → Option ℕ
short_for all ts s i = if is_block_variable i then short_line (block_size ts (form_of ts i.ty)) (given_to all s i) else None

-- the lowest line of bytes that are too few for one of some instructions
unfoldable pub lowest_short : List Inst → Types → Settings → List Inst → Option ℕ
lowest_short all ts s [] = None
lowest_short all ts s (i ∷ is) = lower (short_for all ts s i) (lowest_short all ts s is)

unfoldable pub some_lack : List Inst → Settings → List Inst → Bool
some_lack all s insts = list_any (lacks_bytes all s) insts

abbrev pub short_due : Option ℕ → Result Unit SetupRefusal
short_due None = Ok tt
short_due (Some line) = Err (record { code = 7; line = line })

-- S6 at line 0 where a variable of a block has no bytes, and else S7 at the lowest line of bytes that are too few
abbrev pub check_bytes : List Inst → Types → Settings → Result Unit SetupRefusal
check_bytes all ts s = if some_lack all s all then Err (record { code = 6; line = 0 }) else short_due (lowest_short all ts s all)
