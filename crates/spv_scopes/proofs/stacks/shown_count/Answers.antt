use Rattle.std.proofs.Common.{◌≡◌, ◌+◌, ◌-◌, ◌∙◌, suc, Some, None, sym, arith}
use Rattle.spv_base.proofs.Exports.{element_at}
use Rattle.spv_scopes.proofs.CountLemmas.{counted_more}
use Rattle.spv_scopes.proofs.stacks.shown_count.Goals as goal

pub frames-preserved-in-Some : goal.frames-preserved-in-Some
frames-preserved-in-Some c =
    let d = c.frames.depth - 1 in
    let s : c.frames.depth ≡ suc d = omega arith in
    let more : c.in-Some-checked_add.sum ≡ c.frames.count + c.count.result = omega (arith, c.in-Some-checked_add.ensures) in
    record {
      within = omega arith;
      same = λ m t. (
          let before = rw s at c.frames.invariant.same m t in
          counted_more m t c.args.lines.now.spots c.args.stack.now.frames d c.in-Some.frame.now c.pc.result c.count.result c.frames.count c.in-Some-checked_add.sum (sym c.in-Some.ensures) c.pc.ensures c.count.ensures before more);
    }

pub frames-preserved : goal.frames-preserved
frames-preserved c =
    let found = element_at c.args.stack.now.frames (c.frames.depth - 1) (omega arith) in
    let none : None ≡ Some found.0 = c.in_default-frame.ensures ∙ found.1 in
    absurd (cc)
