use Rattle.std.proofs.Common.{◌+◌, ◌<◌, ◌≤◌, get_or, inl, inr, length, sym, subst, arith}
use Rattle.std.proofs.lemmas.Bool.{cases_lt, iff_false}
use Rattle.std.proofs.lemmas.List.{get_or_default}
use Rattle.spv_order.specs.Reaches.{others_of}
use Rattle.spv_order.proofs.SweepLemmas.{Swept, nothing, swept_ends, swept_found, swept_past, swept_takes}
use Rattle.spv_order.proofs.sweep.first_clash.Goals as goal
use Rattle.spv_order.proofs.sweep.first_clash.Goals.{then-chosen+else-reached, else-chosen}

pub returns-then-reached : goal.returns-then-reached
returns-then-reached c =
    let xs = c.args.touches.now in
    let k = c.loop-touch.touch-index in
    let t = get_or xs k nothing in
    let within : k < length xs = omega (arith, c.loop-touch-test.true) in
    let reached = c.is_reached-reached.ensures.0 c.if-reached.true in
    swept_found xs c.args.below c.args.also k (others_of c.loop-touch.all) (others_of c.loop-touch.written) t c.reach_for-reach.result
    c.requires within (get_or_default xs k nothing t within) (c.is_chosen-chosen.ensures.0 c.if-chosen.true)
    c.reach_for-reach.ensures.writes c.reach_for-reach.ensures.reads reached.0 reached.1 c.loop-touch.invariant.swept

pub loop-touch-preserved : goal.loop-touch-preserved
loop-touch-preserved c =
    let xs = c.args.touches.now in
    let k = c.loop-touch.touch-index in
    let t = get_or xs k nothing in
    let within : k < length xs = omega (arith, c.loop-touch-test.true) in
    let at = get_or_default xs k nothing t within in
    elim c.if-chosen.branch [
      | then-chosen+else-reached w ↦
          record {
            all = subst (λ r. r.next ≤ r.most) (sym w.all-is) w.with-all.ensures.ordered;
            written = subst (λ r. r.next ≤ r.most) (sym w.written-is) w.written_with-written.ensures.ordered;
            swept = subst (λ r. Swept xs c.args.below c.args.also (k + 1) (others_of r) (others_of c.if-chosen.written)) (sym w.all-is)
                (subst (λ r. Swept xs c.args.below c.args.also (k + 1) (others_of w.with-all.result) (others_of r)) (sym w.written-is)
                (swept_takes xs c.args.below c.args.also k (others_of c.loop-touch.all) (others_of c.loop-touch.written) (others_of w.with-all.result) (others_of w.written_with-written.result) t w.reach_for-reach.result within at
                (c.is_chosen-chosen.ensures.0 w.if-chosen.true) w.reach_for-reach.ensures.writes w.reach_for-reach.ensures.reads
                (λ some. elim (cases_lt t.start w.reach_for-reach.result) [ inl past ↦ absurd (iff_false w.is_reached-reached.ensures w.if-reached.false (some, past)) | inr low ↦ low ])
                w.with-all.ensures.others w.written_with-written.ensures.writes w.written_with-written.ensures.reads c.loop-touch.invariant.swept));
          }
      | else-chosen w ↦ record {
        all = subst (λ r. r.next ≤ r.most) (sym w.all-is) c.loop-touch.invariant.all;
        written = subst (λ r. r.next ≤ r.most) (sym w.written-is) c.loop-touch.invariant.written;
        swept = subst (λ r. Swept xs c.args.below c.args.also (k + 1) (others_of r) (others_of c.if-chosen.written)) (sym w.all-is)
            (subst (λ r. Swept xs c.args.below c.args.also (k + 1) (others_of c.loop-touch.all) (others_of r)) (sym w.written-is)
            (swept_past xs c.args.below c.args.also k (others_of c.loop-touch.all) (others_of c.loop-touch.written) t within at
            (iff_false c.is_chosen-chosen.ensures w.if-chosen.false) c.loop-touch.invariant.swept));
      }
    ]

pub returns : goal.returns
returns c = swept_ends c.args.touches.now c.args.below c.args.also c.loop-touch.touch-index _ _ (omega (arith, c.loop-touch-test.false)) c.loop-touch.invariant.swept
