-- What is read of an invocation, by the debug information of its module.
use Rattle.std.proofs.Common.{◌≡◌, ℕ, List, Result, subst, length}
use Rattle.std.specs.Prelude.{IfOk}
use Rattle.spv_base.specs.declared.causes.NoMemory.{NoMemory}
use Rattle.spv_frame.specs.Frames.{Held as Frame}
use Rattle.spv_scopes.specs.Lines.{LineTable, lines_of}
use Rattle.spv_scopes.specs.Shown.{shown_of}
use Rattle.spv_state.specs.State.{frames_of}
use Rattle.spv_group.specs.Group.{Held as Group, state_in}
use Rattle.spv_search.specs.Keys.{depth_in, tables_in}

pub depth_at : (g : Group) (i : ℕ) (l : LineTable) (fs : List Frame) → l ≡ lines_of g.program.accepted (tables_in g) → fs ≡ frames_of (state_in g) i
    → (r : Result ℕ NoMemory) → IfOk r (λ n. n ≡ length (shown_of g.program.accepted (tables_in g) l.spots fs)) → IfOk r (λ n. n ≡ depth_in g i)
depth_at g i l fs lines frames r is =
    subst (λ (k : LineTable). IfOk r (λ n. n ≡ length (shown_of g.program.accepted (tables_in g) k.spots (frames_of (state_in g) i)))) lines
    (subst (λ (k : List Frame). IfOk r (λ n. n ≡ length (shown_of g.program.accepted (tables_in g) l.spots k))) frames is)
