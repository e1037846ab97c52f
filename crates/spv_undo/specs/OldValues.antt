-- What entries keep.
use Rattle.std.specs.Prelude.{◌≡◌, ℕ, Option, Some, None, length, max, option_map}
use Rattle.spv_base.specs.declared.values.Pointer.{Pointer}
use Rattle.spv_base.specs.declared.values.Value.{Value}
use Rattle.spv_types.specs.Rows.{leaves}
use Rattle.spv_state.specs.State.{State, put_store}
use Rattle.spv_undo.specs.Entries.{count_of}
use Rattle.spv_undo.specs.Undo.{Undoes}
use Rattle.spv_undo.specs.declared.entries.Entry.{Entry}
use Rattle.spv_undo.specs.declared.entries.Entry.TheVariants.{NoValue, CellRegister, RowRegister, PointerRegister, FramePopped}
use Rattle.spv_undo.specs.declared.entries.OldFrame.{OldFrame}

-- the register with a number, of so many cells, had a value or none
abbrev pub KeepsValue : ℕ → Option Value → ℕ → Entry → Type 0
KeepsValue n o cells (NoValue k) = (k ≡ n) × (o ≡ None)
KeepsValue n o cells (CellRegister k value) = (k ≡ n) × (o ≡ Some value) × (cells ≡ 1)
KeepsValue n o cells (RowRegister b) = (b.value.number ≡ n) × (o ≡ Some b.value.row) × (cells ≡ length (leaves b.value.row))
KeepsValue n o cells _ = ⊥

-- the register with a number had a pointer or none
abbrev pub KeepsPointer : ℕ → Option Pointer → Entry → Type 0
KeepsPointer n o (PointerRegister k held) = (k ≡ n) × (option_map (λ b. b.value) held ≡ o)
KeepsPointer n o _ = ⊥

-- a part of a variable had a value where another state has it again: how much that counts
pub record KeepsPart (i : ℕ) (p : Pointer) (v : Value) (s : State) (e : Entry) : Type 0 where
  pub undoes : Undoes i e (put_store i (Some (p, v)) s) s
  pub counts : count_of e ≡ max 1 (length (leaves v))

-- the frame that was left
abbrev pub popped : Entry → Option OldFrame
popped (FramePopped b) = Some b.value
popped _ = None
