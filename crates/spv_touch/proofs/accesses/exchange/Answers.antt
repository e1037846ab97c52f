use Rattle.std.proofs.Common.{◌∙◌, ap, sym}
use Rattle.spv_touch.specs.Touching.{leaves_below}
use Rattle.spv_touch.proofs.SeenLemmas.{atomic_goes_on, paired, reads_told, writes_told}
use Rattle.spv_touch.proofs.accesses.exchange.Goals as goal

pub returns-in-Ok : goal.returns-in-Ok
returns-in-Ok c =
    let x = c.args.site.now in
    record {
      invocation = c.inv.ensures;
      arrives = sym (atomic_goes_on x c.args.operation c.requires);
      reads = c.in_ok-reads.ensures ∙ sym (reads_told x _ c.in-Ok.ensures.due);
      writes = c.in_ok-writes-in-Ok.ensures ∙ ap (leaves_below x.state) (sym (paired c.in-Ok.field-0.store c.atomic.new.row)) ∙ sym (writes_told x _ c.in-Ok.ensures.due);
    }
