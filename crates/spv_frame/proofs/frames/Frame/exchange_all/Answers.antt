use Rattle.std.proofs.Common.{◌≡◌, ◌+◌, ◌<◌, suc, Some, get_or, length, slice_get, slice_index_or, sym, ap, subst, arith}
use Rattle.std.proofs.lemmas.Option.{slice_get-get_or}
use Rattle.spv_frame.specs.declared.contents.Content.{Content}
use Rattle.spv_frame.specs.Contents.{Suits}
use Rattle.spv_frame.specs.Frames.{Held}
use Rattle.spv_frame.specs.Registers.{Rooms}
use Rattle.spv_frame.specs.declared.slots.Slot.{Slot}
use Rattle.spv_frame.proofs.ContentLemmas.{as_many, done, going_on, suits_at}
use Rattle.spv_frame.proofs.frames.Frame.exchange_all.Goals as goal

pub bounds-others-number : goal.bounds-others-number
bounds-others-number c =
    let many = as_many c.args.self.now.plan.values c.args.slots.now c.loop-number.others c.loop-number.invariant.suit in
    let test = c.loop-number-test.true in
    omega arith

pub exchange_content-requires : goal.exchange_content-requires
exchange_content-requires c =
    let many = as_many c.args.self.now.plan.values c.args.slots.now c.loop-number.others c.loop-number.invariant.suit in
    let test = c.loop-number-test.true in
    let within : c.loop-number.number < length c.loop-number.others = omega arith in
    let slot : Slot = slice_index_or c.args.slots.now c.loop-number.number (record { id = 0; number = 0; start = 0; len = 0 }) in
    let at : slice_get c.args.slots.now c.loop-number.number ≡ Some slot = slice_get-get_or c.args.slots.now c.loop-number.number (record { id = 0; number = 0; start = 0; len = 0 }) c.loop-number-test.true in
    let other : Content = get_or c.loop-number.others c.loop-number.number c.index-others-number.result in
    let given : slice_get c.loop-number.others c.loop-number.number ≡ Some other = slice_get-get_or c.loop-number.others c.loop-number.number c.index-others-number.result within in
    let plans : c.loop-number.self.plan.values ≡ c.args.self.now.plan.values = ap (λ (x : Held). x.plan.values) c.loop-number.invariant.same in
    subst (λ (rs : Rooms). Suits rs slot other) (sym plans)
    (suits_at c.args.self.now.plan.values c.args.slots.now c.loop-number.others c.loop-number.number slot other c.loop-number.invariant.suit at given)

pub loop-number-preserved : goal.loop-number-preserved
loop-number-preserved c =
    let many = as_many c.args.self.now.plan.values c.args.slots.now c.loop-number.others c.loop-number.invariant.suit in
    let test = c.loop-number-test.true in
    let within : c.loop-number.number < length c.loop-number.others = omega arith in
    let slot : Slot = slice_index_or c.args.slots.now c.loop-number.number (record { id = 0; number = 0; start = 0; len = 0 }) in
    let at : slice_get c.args.slots.now c.loop-number.number ≡ Some slot = slice_get-get_or c.args.slots.now c.loop-number.number (record { id = 0; number = 0; start = 0; len = 0 }) c.loop-number-test.true in
    let other : Content = get_or c.loop-number.others c.loop-number.number c.index-others-number.result in
    let given : slice_get c.loop-number.others c.loop-number.number ≡ Some other = slice_get-get_or c.loop-number.others c.loop-number.number c.index-others-number.result within in
    let next : c.loop-number.number + 1 ≡ suc c.loop-number.number = omega arith in
    rw next (going_on c.args.slots.now c.args.others.now c.loop-number.others c.args.self.now c.loop-number.self c.exchange_content.new.self c.loop-number.number slot other
    c.exchange_content.new.other c.requires.differ c.loop-number.invariant at given c.exchange_content.ensures.after c.exchange_content.ensures.handed c.exchange_content.ensures.suits)

pub returns-clause-handed : goal.returns-clause-handed
returns-clause-handed c =
    let all = done c.args.slots.now c.args.others.now c.loop-number.others c.args.self.now c.loop-number.self c.loop-number.number c.loop-number.invariant c.loop-number-test.false in
    all.handed
