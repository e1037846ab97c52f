use Rattle.std.proofs.Common.{◌≡◌, length, ap, arith}
use Rattle.spv_frame.specs.Registers.{Planned}
use Rattle.spv_frame.specs.Plans.{rooms}
use Rattle.spv_frame.proofs.FrameLemmas.{rooms_long}
use Rattle.spv_frame.proofs.SlotLemmas.{lent}
use Rattle.spv_frame.proofs.plans.Plan.slots.Goals as goal

pub slots_between-requires : goal.slots_between-requires
slots_between-requires c =
    let same : length (rooms c.self.inside.values.items) ≡ length c.args.self.now.values = ap (λ (p : Planned). length p.values) c.self.view_is in
    let counted = rooms_long c.self.inside.values.items in
    let bound = c.requires in
    let items = ap length c.as_slice.ensures.value in
    omega arith

pub returns-clause-slots : goal.returns-clause-slots
returns-clause-slots c =
    let r = lent c.args.self.now c.self.inside.values.items c.as_slice.result.now c.slots_between.result.now c.args.first c.args.count (ap (λ (p : Planned). p.values) c.self.view_is) c.self.invariant.2 c.self.invariant.3 c.requires c.as_slice.ensures.value c.slots_between.ensures in
    r.slots

pub returns-clause-differ : goal.returns-clause-differ
returns-clause-differ c =
    let r = lent c.args.self.now c.self.inside.values.items c.as_slice.result.now c.slots_between.result.now c.args.first c.args.count (ap (λ (p : Planned). p.values) c.self.view_is) c.self.invariant.2 c.self.invariant.3 c.requires c.as_slice.ensures.value c.slots_between.ensures in
    r.differ

pub returns-clause-numbers : goal.returns-clause-numbers
returns-clause-numbers c =
    let r = lent c.args.self.now c.self.inside.values.items c.as_slice.result.now c.slots_between.result.now c.args.first c.args.count (ap (λ (p : Planned). p.values) c.self.view_is) c.self.invariant.2 c.self.invariant.3 c.requires c.as_slice.ensures.value c.slots_between.ensures in
    r.numbers
