use Rattle.std.proofs.Common.{◌∙◌, ap, sym}
use Rattle.std.specs.Prelude.{is_some}
use Rattle.spv_probe.specs.Kits.{place}
use Rattle.spv_session.proofs.ProbeLemmas.{is_there, some_mapped}
use Rattle.spv_session.proofs.probes.is_there.Goals as goal

pub returns : goal.returns
returns g c =
    c.is_some.ensures ∙ ap is_some c.count.ensures.count ∙ some_mapped (λ b. (goal.Probe-dyn g (b.vtable, b.value)).tally b.value) (place c.args.kit.now.boxes.items c.args.number)
    ∙ sym (is_there (λ b. (goal.Probe-dyn g (b.vtable, b.value)).test b.value) c.args.kit.now.boxes.items c.args.number)
