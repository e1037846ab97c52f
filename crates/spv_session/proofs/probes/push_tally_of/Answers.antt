use Rattle.std.proofs.Common.{◌∙◌, ◌++◌, ap, append-nil, count_by, sym}
use Rattle.spv_hits.specs.Halts.{told_before}
use Rattle.spv_probe.specs.Kits.{place, tests_of}
use Rattle.spv_session.specs.Texts.{tally_line}
use Rattle.spv_session.proofs.ProbeLemmas.{none_told, told_of}
use Rattle.spv_session.proofs.SightLemmas.{on_ok}
use Rattle.spv_session.proofs.probes.push_tally_of.Goals as goal

pub returns-in-Some : goal.returns-in-Some
returns-in-Some g c = λ v follows.
    let tests = tests_of (λ b. (goal.Probe-dyn g (b.vtable, b.value)).test b.value) c.args.kit.now.boxes.items in
    let counted = sym c.in-Some.is ∙ c.count.ensures.follows tests (told_before v.group) follows in
    on_ok c.push_tally.result _ _ (λ h. h ∙ ap (λ l. c.args.text.now.items ++ l)
    (sym (told_of (λ hit. count_by hit (told_before v.group)) (tally_line c.args.number) (place tests c.args.number) c.in-Some.count counted))) c.push_tally.ensures

pub returns-in-None : goal.returns-in-None
returns-in-None g c = λ v follows.
    let tests = tests_of (λ b. (goal.Probe-dyn g (b.vtable, b.value)).test b.value) c.args.kit.now.boxes.items in
    let counted = sym c.in-None.is ∙ c.count.ensures.follows tests (told_before v.group) follows in
    sym (append-nil c.args.text.now.items) ∙ ap (λ l. c.args.text.now.items ++ l)
    (sym (none_told (λ hit. count_by hit (told_before v.group)) (tally_line c.args.number) (place tests c.args.number) counted))
