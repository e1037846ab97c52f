use Rattle.std.proofs.Common.{◌∙◌, ap, sym}
use Rattle.std.specs.Option.{option_map}
use Rattle.spv_touch.proofs.SeenLemmas.{reads_are}
use Rattle.spv_touch.proofs.accesses.atomic_reads.Goals as goal

pub returns-in-Some : goal.returns-in-Some
returns-in-Some c =
    reads_are c.args.site.now c.args.operation c.in-Some.reads.items c.requires c.in_default.not-Store (sym c.in_ok-reads.ensures ∙ ap (option_map (λ r. r.items)) c.in-Some.is)
