use Rattle.std.proofs.Common.{◌∙◌, ap, sym, arith}
use Rattle.spv_base.specs.declared.happenings.Happening.{Happening}
use Rattle.spv_probe.specs.Kits.{tests_of}
use Rattle.spv_state.specs.Program.{Program}
use Rattle.spv_valid.specs.Acceptance.{Accepted}
use Rattle.spv_hits.specs.Halts.{halts_behind, told_before}
use Rattle.spv_hits.specs.Happenings.{lined}
use Rattle.spv_hits.proofs.HaltLemmas.{none_set, numbers_here, told_below}
use Rattle.spv_hits.proofs.HitLemmas.{if_ok}
use Rattle.spv_hits.proofs.NumberLemmas.{none_there}
use Rattle.spv_hits.proofs.probes.halt_numbers.Goals as goal

pub returns-then-is_empty : goal.returns-then-is_empty
returns-then-is_empty g c =
    let at = c.args.group.now.group in
    c.new.ensures
    ∙ sym (numbers_here c.args.halts.now (tests_of (λ b. (goal.Probe-dyn g (b.vtable, b.value)).test b.value) c.args.kit.now.boxes.items) at c.args.happening.now c.requires.event
    ∙ none_set c.args.halts.now (tests_of (λ b. (goal.Probe-dyn g (b.vtable, b.value)).test b.value) c.args.kit.now.boxes.items) (told_before at) 0 (lined at.program.accepted c.args.happening.now) (none_there c.args.halts.now (sym c.is_empty.ensures ∙ c.if-is_empty.true)))

pub all_halted-requires : goal.all_halted-requires
all_halted-requires g c =
    told_below (λ b. (goal.Probe-dyn g (b.vtable, b.value)).tally b.value) (λ b. (goal.Probe-dyn g (b.vtable, b.value)).test b.value) c.args.group.now.group c.args.kit.now.boxes.items (omega arith) c.requires.follows

pub returns : goal.returns
returns g c =
    let at = c.args.group.now.group in
    if_ok c.all_halted.result _ _
    (λ numbers is. is
    ∙ ap (λ (h : Happening). halts_behind c.args.halts.now (tests_of (λ b. (goal.Probe-dyn g (b.vtable, b.value)).test b.value) c.args.kit.now.boxes.items) (told_before at) 0 h)
    (c.lined-told.ensures ∙ ap (λ (a : Accepted). lined a c.args.happening.now) (c.accepted.ensures.module ∙ ap (λ (p : Program). p.accepted) c.module.ensures))
    ∙ sym (numbers_here c.args.halts.now (tests_of (λ b. (goal.Probe-dyn g (b.vtable, b.value)).test b.value) c.args.kit.now.boxes.items) at c.args.happening.now c.requires.event))
    (c.all_halted.ensures (tests_of (λ b. (goal.Probe-dyn g (b.vtable, b.value)).test b.value) c.args.kit.now.boxes.items) (told_before at) c.requires.follows)
