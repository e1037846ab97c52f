-- What an entry undoes.
use Rattle.std.specs.Prelude.{◌≡◌, ◌≢◌, ◌<◌, ℕ, true, List, [], ◌∷◌, Some, None, IsSome, length, option_map, slice_get, ⊤}
use Rattle.std.specs.List.{list_all}
use Rattle.std.specs.Option.{IsSomeAnd}
use Rattle.spv_frame.specs.Frames.{Held as Frame}
use Rattle.spv_frame.specs.Numbers.{HasCells, HasPointer, with_pointer, with_value}
use Rattle.spv_frame.specs.Stacks.{Stacked}
use Rattle.spv_mem.specs.Memory.{AreVariables, HasRoom, MayStore, load_of}
use Rattle.spv_mem.specs.Singles.{NamesRow}
use Rattle.spv_state.specs.State.{State, close_barrier, drop_event, on_frame, pop_frame, push_frame, put_store, set_status, top_of, with_pc}
use Rattle.spv_statuses.specs.Invocations.{IsWithin, passed_or_finished}
use Rattle.spv_types.specs.Rows.{leaves}
use Rattle.spv_undo.specs.declared.entries.Entry.{Entry}
use Rattle.spv_undo.specs.declared.entries.Entry.TheVariants.{Leaf, Part, NoValue, CellRegister, RowRegister, PointerRegister, FramePushed, FramePopped, PcMoved, EventAppended, StatusChanged, BarrierOpened}

-- ---- one change

-- the inverse of a change of an invocation
abbrev pub undo : ℕ → Entry → State → State
undo i (Leaf root leaf path value) s = put_store i (Some (record { root = root; path = path.value }, value)) s
undo i (Part b) s = put_store i (Some (b.value.place, b.value.row)) s
undo i (NoValue n) s = on_frame i (with_value n None) s
undo i (CellRegister n value) s = on_frame i (with_value n (Some value)) s
undo i (RowRegister b) s = on_frame i (with_value b.value.number (Some b.value.row)) s
undo i (PointerRegister n o) s = on_frame i (with_pointer n (option_map (λ b. b.value) o)) s
undo i FramePushed s = pop_frame i s
undo i (FramePopped b) s = push_frame i b.value.frame b.value.locals s
undo i (PcMoved pc) s = on_frame i (with_pc pc) s
undo i EventAppended s = on_frame i drop_event s
undo i (StatusChanged status) s = set_status i status s
undo i (BarrierOpened word) s = close_barrier word s

-- there is room for a frame more and its variables
pub record HasRooms (s : State) (i : ℕ) : Type 0 where
  pub stacks : i < length s.stacks
  pub room : (k : Stacked) → slice_get s.stacks i ≡ Some k → length k.frames < k.room
  pub levels : i < length s.memory.locals
  pub level : HasRoom s.memory i

-- an invocation has a top frame, of which something is so
abbrev pub HasTop : State → ℕ → (Frame → Type 0) → Type 0
HasTop s i P = (i < length s.stacks) × IsSomeAnd (top_of s i) P

-- the inverse may be done
abbrev pub CanUndo : ℕ → Entry → State → Type 0
CanUndo i (Leaf root leaf path value) s =
    IsSome (load_of s.memory i (record { root = root; path = path.value })) × ∥ NamesRow s.memory i (record { root = root; path = path.value }) leaf 1 ∥₁
    × ∥ MayStore s.memory i (record { root = root; path = path.value }) value ∥₁
CanUndo i (Part b) s = IsSome (load_of s.memory i b.value.place) × ∥ MayStore s.memory i b.value.place b.value.row ∥₁
CanUndo i (NoValue n) s = HasTop s i (λ f. n < length f.plan.values)
CanUndo i (CellRegister n value) s = HasTop s i (HasCells n 1)
CanUndo i (RowRegister b) s = HasTop s i (HasCells b.value.number (length (leaves b.value.row)))
CanUndo i (PointerRegister n o) s = HasTop s i (HasPointer n)
CanUndo i FramePushed s = (i < length s.stacks) × (i < length s.memory.locals)
CanUndo i (FramePopped b) s = HasRooms s i × ∥ AreVariables s.memory.types s.memory.targets b.value.locals ∥₁
CanUndo i (PcMoved pc) s = (i < length s.stacks) × IsSome (top_of s i)
CanUndo i EventAppended s = HasTop s i (λ f. f.events ≢ [])
CanUndo i (StatusChanged status) s = (i < length s.statuses.list) × IsWithin s.statuses.words status
CanUndo i (BarrierOpened word) s = (list_all passed_or_finished s.statuses.list ≡ true) × (word < s.statuses.words)

-- an entry leads from a state t back to s
pub record Undoes (i : ℕ) (e : Entry) (s t : State) : Type 0 where
  pub back : undo i e t ≡ s
  pub can : CanUndo i e t

-- ---- changes, the newest first

abbrev pub undo_all : ℕ → List Entry → State → State
undo_all i [] s = s
undo_all i (e ∷ es) s = undo_all i es (undo i e s)

abbrev pub CanUndoAll : ℕ → List Entry → State → Type 0
CanUndoAll i [] s = ⊤
CanUndoAll i (e ∷ es) s = CanUndo i e s × CanUndoAll i es (undo i e s)
