-- The cells of a run: the leaves of the variables that all invocations share, and for each invocation those of its own variables
-- and of its frames.
use Rattle.std.specs.Prelude.{ℕ, ◌+◌, ◌-◌, ◌*◌, ◌==◌, ◌&&◌, ◌||◌, nat_le, if◌then◌else◌, List, [], ◌∷◌, length, slice_get, Option, Some, unwrap_or, Result, Ok, Err}
use Rattle.std.specs.Option.{option_map_or}
use Rattle.spv_base.specs.declared.causes.SetupRefusal.{SetupRefusal}
use Rattle.spv_base.specs.declared.instructions.Inst.{Inst}
use Rattle.spv_base.specs.Options.{holds}
use Rattle.spv_index.specs.Operands.{literal_operand}
use Rattle.spv_types.specs.Cells.{cells_of}
use Rattle.spv_types.specs.InterfaceBlocks.{is_block_variable}
use Rattle.spv_types.specs.Leaves.{leaf_of}
use Rattle.spv_types.specs.declared.forms.Form.{Form}
use Rattle.spv_types.specs.declared.forms.Form.TheVariants.{Pointer, Runtime, Struct}
use Rattle.spv_types.specs.declared.forms.Member.{Member}
use Rattle.spv_types.specs.Types.{Types, form_of}
use Rattle.spv_setup.specs.declared.settings.Settings.{Settings}
use Rattle.spv_types.specs.Places.{elements_in}
use Rattle.spv_fit.specs.declared.given.Given.{Given}
use Rattle.spv_fit.specs.Given.{given_to}

-- the leaves of a type that has a number of them
abbrev pub leaves_of : Types → ℕ → ℕ
leaves_of ts id = unwrap_or (cells_of ts id) 0

-- the leaves of a runtime array that begins at a place of so many bytes
abbrev pub array_cells : Types → ℕ → ℕ → Option Form → ℕ
array_cells ts size at (Some (Runtime element stride)) = leaves_of ts element * elements_in size at stride
array_cells ts size at _ = 0

-- the leaves of members of which number n is the last and a runtime array: those before it, and its own
abbrev pub last_cells : Types → ℕ → ℕ → ℕ → Member → ℕ
last_cells ts size id n last = unwrap_or (leaf_of ts id (n ∷ [])) 0 + array_cells ts size (unwrap_or last.offset 0) (form_of ts last.ty)

abbrev pub open_cells : Types → ℕ → ℕ → Option Form → ℕ
open_cells ts size id (Some (Struct members block)) = option_map_or (last_cells ts size id (length members - 1)) (slice_get members (length members - 1)) 0
open_cells ts size id _ = 0

-- The leaves of a block of a type with so many bytes: those of the type, where it has a number of them, and else it ends with a
-- runtime array.
abbrev pub block_cells : Types → ℕ → ℕ → ℕ
block_cells ts size id = unwrap_or (cells_of ts id) (open_cells ts size id (form_of ts id))

-- the leaves of what a pointer type points to
abbrev pub target_cells : Types → Option Form → ℕ
target_cells ts (Some (Pointer class target)) = leaves_of ts target
target_cells ts _ = 0

-- the leaves of the block that a pointer type points to, of bytes that are given
abbrev pub given_cells : Types → Option Form → Option Given → ℕ
given_cells ts (Some (Pointer class target)) (Some given) = block_cells ts given.bytes target
given_cells ts _ _ = 0

-- the leaves of a variable that all invocations share: one of a block, or of the class Workgroup (4)
abbrev pub shared_cells : List Inst → Types → Settings → Inst → ℕ
shared_cells all ts s i =
    if is_block_variable i then given_cells ts (form_of ts i.ty) (given_to all s i)
    else if i.op == 59 && holds 4 (literal_operand i 0) then target_cells ts (form_of ts i.ty)
    else 0

-- the leaves of a variable that each invocation has: of the class Input (1) or Private (6)
abbrev pub own_cells : Types → Inst → ℕ
own_cells ts i = if i.op == 59 && (holds 1 (literal_operand i 0) || holds 6 (literal_operand i 0)) then target_cells ts (form_of ts i.ty) else 0

-- the sum over some instructions
unfoldable pub all_shared : List Inst → Types → Settings → List Inst → ℕ
all_shared all ts s [] = 0
all_shared all ts s (i ∷ is) = shared_cells all ts s i + all_shared all ts s is

unfoldable pub all_own : Types → List Inst → ℕ
all_own ts [] = 0
all_own ts (i ∷ is) = own_cells ts i + all_own ts is

-- the cells of so many invocations, of which the frames of one have so many at most
abbrev pub cells_in : List Inst → Types → Settings → ℕ → ℕ → ℕ
cells_in all ts s invocations frames = all_shared all ts s all + invocations * (all_own ts all + frames)

-- S10 at line 0 where there are more than 4,194,304
abbrev pub check_cells : List Inst → Types → Settings → ℕ → ℕ → Result Unit SetupRefusal
check_cells all ts s invocations frames = if nat_le (cells_in all ts s invocations frames) 4194304 then Ok tt else Err (record { code = 10; line = 0 })
