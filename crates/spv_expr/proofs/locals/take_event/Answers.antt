use Rattle.std.proofs.Common.{◌≡◌, ◌∙◌, ℕ, List, Option, Some, None, sym, ap, subst}
use Rattle.std.specs.Prelude.{option_map}
use Rattle.spv_dbg.specs.declared.frames.Bit.{Bit}
use Rattle.spv_expr.specs.declared.entries.Entry as kept
use Rattle.spv_expr.specs.Expressions.{piece}
use Rattle.spv_expr.specs.Kept.{kept_entry, kept_telling, saturated_telling}
use Rattle.spv_expr.specs.Rests.{ArePutIn, bit_in}
use Rattle.spv_expr.specs.Bits.{entry_cells}
use Rattle.spv_expr.specs.declared.ranges.Range.{Range}
use Rattle.spv_expr.specs.Variables.{telling}
use Rattle.spv_expr.proofs.TellLemmas.{told_none, told_put}
use Rattle.spv_expr.proofs.locals.take_event.Goals as goal
use Rattle.spv_expr.proofs.locals.take_event.Goals.{in-Some-2, in_default-2}

pub returns-clause-bits : goal.returns-clause-bits
returns-clause-bits c =
    let m = c.args.view.now.memory.now in
    let inv = c.args.view.now.inv in
    let t = c.args.view.now.tables.now in
    let e = c.args.event.now in
    let v = c.args.instance in
    let k = c.in-Some.telling in
    let told_is : Some (kept_telling k) ≡ option_map saturated_telling (telling t v e.word) =
    c.in-Some.ensures ∙ ap (λ (word : ℕ). option_map saturated_telling (telling t v word)) c.word.ensures in
    elim c.match-branch-2.branch [
      | in-Some-2 w ↦
          let read : piece m inv t k.debug.now e ≡ Some (kept_entry w.in-Some-2.entry) =
          sym c.in_ok-entry.ensures ∙ ap (λ (o : Option kept.Entry). option_map kept_entry o) w.in-Some-2.is in
          λ n lt. ap (λ (bits : List Bit). bit_in bits n) w.bits-is
          ∙ told_put m inv t v e k told_is (kept_entry w.in-Some-2.entry) read c.args.gaps.now.items c.args.first c.args.bits.now w.put_open.new.bits c.requires.fits
          (subst (λ (gaps : List Range). ArePutIn (entry_cells (kept_entry w.in-Some-2.entry)) k.range gaps c.args.first c.args.bits.now w.put_open.new.bits) w.as_slice-in-Some-2.ensures.value w.put_open.ensures) n lt
      | in_default-2 w ↦
          let unread : piece m inv t k.debug.now e ≡ None =
          sym c.in_ok-entry.ensures ∙ ap (λ (o : Option kept.Entry). option_map kept_entry o) w.in_default-2.is in
          λ n lt. ap (λ (bits : List Bit). bit_in bits n) w.bits-is
          ∙ told_none m inv t v e k told_is unread c.args.gaps.now.items c.args.first c.args.bits.now c.requires.unbound n lt
    ]
