use Rattle.std.proofs.Common.{◌≡◌, ◌++◌, map}
use Rattle.std.specs.Prelude.{reverse}
use Rattle.spv_scopes.specs.Calls.{calls_from, rank}
use Rattle.spv_scopes.specs.Shown.{frame_at}
use Rattle.spv_scopes.proofs.frames.push_calls.Given as goal

abbrev pub invariant-outward : goal.invariant-outward
invariant-outward l =
    l.frames.items ++ map (frame_at l.module l.tables l.real) (calls_from (reverse l.calls) l.number) ≡ l.initial.frames.items ++ map (frame_at l.module l.tables l.real) (calls_from (reverse l.calls) l.fn.first)

abbrev pub decreases-outward : goal.decreases-outward
decreases-outward l = rank l.number
