use Rattle.std.proofs.Common.{◌≡◌, ◌<◌, ℕ, IsSome, Some, length, slice_get, subst, sym}
use Rattle.spv_mem.specs.Memory.{AreVariables}
use Rattle.spv_frame.specs.Stacks.{Stacked}
use Rattle.spv_state.specs.Rooms.{HasLocals, IsBounded}
use Rattle.spv_state.specs.State.{State, pop_frame, push_frame, top_of}
use Rattle.spv_journal.specs.Entries.{KeepsFrame}
use Rattle.spv_journal.specs.Events.{Kept, opened}
use Rattle.spv_journal.specs.Held.{Held, IsMaking}
use Rattle.spv_journal.specs.Undo.{CanUnwind}
use Rattle.spv_undo.specs.Undo.{HasRooms}
use Rattle.spv_undo.specs.declared.entries.OldFrame.{OldFrame}
use Rattle.spv_undo.proofs.Exports.{frame_entry, left_rooms, popped_counts}
use Rattle.spv_journal.proofs.RecordLemmas.{Extended, extended, held_of}
use Rattle.spv_journal.proofs.recorded.Recorded.leave.Goals as goal

-- there is room for the frame that was taken
roomy : (i : ℕ) (s t : State) (k : Stacked) (j : Kept) (old : Held) → held_of s j ≡ old → t ≡ pop_frame i s → i < length old.state.stacks → i < length old.state.memory.locals → slice_get s.stacks i ≡ Some k → IsBounded k
    → IsSome (top_of old.state i) → HasLocals old.state i → HasRooms t i
roomy i s t k j old is after inside levels at bounded some has =
    left_rooms i s t k after (subst (λ (h : Held). i < length h.state.stacks) (sym is) inside) (subst (λ (h : Held). i < length h.state.memory.locals) (sym is) levels) at bounded
    (subst (λ (h : Held). IsSome (top_of h.state i)) (sym is) some) (subst (λ (h : Held). HasLocals h.state i) (sym is) has)

-- and for its variables
fitting_variables : (i : ℕ) (left : OldFrame) (s t : State) → t ≡ pop_frame i s → ∥ AreVariables (pop_frame i s).memory.types (pop_frame i s).memory.targets left.locals ∥₁ → ∥ AreVariables t.memory.types t.memory.targets left.locals ∥₁
fitting_variables i left s t after variables = subst (λ (y : State). ∥ AreVariables y.memory.types y.memory.targets left.locals ∥₁) (sym after) variables

-- so that its entry leads back
frame_kept : (i : ℕ) (left : OldFrame) (s t : State) (j k : Kept) (old : Held) → HasRooms t i → ∥ AreVariables t.memory.types t.memory.targets left.locals ∥₁ → s ≡ push_frame i left.frame left.locals t → held_of s j ≡ old
    → IsMaking old.gathered i → KeepsFrame left j k → CanUnwind (opened j.gathered j.ring) s → Extended 1 old t k
frame_kept i left s t j k old rooms variables back is making keeps can =
    extended 1 i keeps.entry s t j k old is making keeps.added (frame_entry i keeps.entry left s t keeps.frame back rooms variables) can (popped_counts keeps.entry left keeps.frame)

pub take_frame-frame-requires-clause-variables : goal.take_frame-frame-requires-clause-variables
take_frame-frame-requires-clause-variables c = subst (λ (h : Held). HasLocals h.state c.args.i) (sym c.self.view_is) c.requires.variables

pub invariant_of-self : goal.invariant_of-self
invariant_of-self c =
    let s = c.self.inside.whole in
    let t = c.take_frame-frame.new.self in
    let j = c.self.inside.journal in
    let left : OldFrame = record { frame = c.take_frame-frame.result.0; locals = c.take_frame-frame.result.1 } in
    let rooms = roomy c.args.i s t c.stack-stack.result.now j c.args.self.now c.self.view_is c.take_frame-frame.ensures.after c.requires.stacks c.requires.locals c.stack-stack.ensures.stack c.stack-stack.ensures.bounded c.requires.frames
    c.requires.variables in
    let variables = fitting_variables c.args.i left s t c.take_frame-frame.ensures.after c.take_frame-frame.ensures.variables in
    (frame_kept c.args.i left s t j c.keep_frame.new.journal c.args.self.now rooms variables c.take_frame-frame.ensures.back c.self.view_is c.requires.making c.in-Ok.ensures.ok c.self.invariant).unwinds

pub enter-requires : goal.enter-requires
enter-requires c =
    let s = c.self.inside.whole in
    let t = c.take_frame-frame.new.self in
    let left : OldFrame = record { frame = c.take_frame-frame.result.0; locals = c.take_frame-frame.result.1 } in
    let rooms = roomy c.args.i s t c.stack-stack.result.now c.self.inside.journal c.args.self.now c.self.view_is c.take_frame-frame.ensures.after c.requires.stacks c.requires.locals c.stack-stack.ensures.stack c.stack-stack.ensures.bounded
    c.requires.frames c.requires.variables in
    let variables = fitting_variables c.args.i left s t c.take_frame-frame.ensures.after c.take_frame-frame.ensures.variables in
    record {
      stacks = rooms.stacks;
      room = rooms.room;
      levels = rooms.levels;
      level = rooms.level;
      variables = subst (λ (o : OldFrame). ∥ AreVariables t.memory.types t.memory.targets o.locals ∥₁) (sym c.in-Err.ensures.handed) variables;
    }
