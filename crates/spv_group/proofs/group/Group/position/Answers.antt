use Rattle.std.proofs.Common.{◌≡◌, ◌≤◌, length, arith}
use Rattle.spv_group.specs.Run.{end_of}
use Rattle.spv_group.proofs.Runs.{end_is}
use Rattle.spv_group.proofs.group.Group.position.Goals as goal

pub returns-clause-most : goal.returns-clause-most
returns-clause-most c =
    let group = c.self.inside in
    let within : group.run.position ≤ end_of group.module group.schedule.list = c.self.invariant.now.within in
    let to : end_of group.module group.schedule.list ≤ length group.schedule.list = (end_is group.module group.schedule.list).to in
    let len : c.len-entries.result ≡ length group.schedule.list = c.len-entries.ensures.len in
    let most : c.len-entries.result ≤ 4194304 = c.len-entries.ensures.most in
    omega (arith, within, to, len, most)
