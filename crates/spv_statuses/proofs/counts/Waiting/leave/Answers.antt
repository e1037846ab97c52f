use Rattle.std.proofs.Common.{◌<◌, ◌≤◌, ℕ, cond, subst, slice_index_or, arith, length}
use Rattle.spv_statuses.specs.declared.invocations.Status.{Status}
use Rattle.spv_statuses.specs.Invocations.{waits_at}
use Rattle.spv_statuses.proofs.CountLemmas.{leaves_place}
use Rattle.spv_statuses.proofs.counts.Waiting.leave.Goals as goal

pub index_mut-requires : goal.index_mut-requires
index_mut-requires c =
    let h : c.in-Arrived.word < length c.args.self.now.counts.items =
    leaves_place c.args.self.now.counts.items c.in-Arrived.word (subst (λ (s : Status). (w : ℕ) → cond (waits_at w s) 1 0 ≤ slice_index_or c.args.self.now.counts.items w 0) c.in-Arrived.is c.requires.counted) in
    grind (arith, h)
