use Rattle.std.proofs.Common.{◌≡◌, length, ap, arith}
use Rattle.spv_frame.specs.Registers.{Planned}
use Rattle.spv_frame.specs.Plans.{rooms}
use Rattle.spv_frame.proofs.FrameLemmas.{rooms_long}
use Rattle.spv_frame.proofs.plans.Plan.value_count.Goals as goal

pub returns : goal.returns
returns c =
    let long = rooms_long c.self.inside.values.items in
    let same : length (rooms c.self.inside.values.items) ≡ length c.args.self.now.values = ap (λ (p : Planned). length p.values) c.self.view_is in
    omega arith
