use Rattle.std.proofs.Common.{◌≡◌, ◌∙◌, ◌+◌, Some, ℕ, ap, length, map, refl, subst, sym}
use Rattle.std.proofs.lemmas.Result.{on_ok_weaker}
use Rattle.spv_base.specs.Entries.{reads}
use Rattle.spv_sites.specs.Planned.{phi_value}
use Rattle.spv_valid.specs.Acceptance.{Accepted}
use Rattle.spv_journal.specs.Held.{Records}
use Rattle.spv_state.specs.Events.{pass}
use Rattle.spv_state.specs.State.{State, on_frame, with_pc}
use Rattle.spv_machine.specs.Step.{first_of, jump, to_block}
use Rattle.spv_machine.specs.Weights.{events_before}
use Rattle.spv_machine.proofs.StatusSteps.{reached_frame, reached_inside}
use Rattle.spv_machine.proofs.Phis.{jump_first, jump_is}
use Rattle.spv_machine.proofs.ReachedLemmas.{Facts, facts}
use Rattle.spv_machine.proofs.Recording.{records_on}
use Rattle.spv_machine.proofs.applying.jump.Goals as goal

pub first_word-requires : goal.first_word-requires
first_word-requires c =
    let p = c.args.m.now in
    let known : Facts p.accepted = facts p.accepted c.accepted-accepted.result.now c.accepted-accepted.ensures.module c.insts-insts.ensures.accepted c.insts-insts.ensures.valid in
    let first = jump_first p known c.args.recorded.now.state c.args.inv c.args.inst.now c.args.block (map phi_value c.args.phis.items) c.requires.reached c.requires.fits in
    subst (λ (a : Accepted). (word : ℕ) × (reads c.args.block a.flow.blocks ≡ Some word)) (sym c.accepted-accepted.ensures.module) first

pub come_to-requires-clause-inside : goal.come_to-requires-clause-inside
come_to-requires-clause-inside c = reached_inside c.args.m.now c.put_phis.new.recorded.state c.args.inv c.args.inst.now c.in_ok-put_phis.ensures.reached

pub come_to-requires-clause-frame : goal.come_to-requires-clause-frame
come_to-requires-clause-frame c = reached_frame c.args.m.now c.put_phis.new.recorded.state c.args.inv c.args.inst.now c.args.m.now.accepted refl c.in_ok-put_phis.ensures.reached

pub returns : goal.returns
returns c =
    let a = c.args.m.now.accepted in
    let i = c.args.inv in
    let s = c.args.recorded.now.state in
    let first = c.first_word.ensures ∙ ap (λ (x : Accepted). first_of x c.args.block) c.accepted-accepted.ensures.module in
    let moved : on_frame i (with_pc c.first_word.result) c.put_phis.new.recorded.state ≡ to_block a i c.args.block (map phi_value c.args.phis.items) s
    = jump_is c.args.m.now i c.args.block c.first_word.result (map phi_value c.args.phis.items) s c.put_phis.new.recorded.state c.in_ok-put_phis.ensures.registers first in
    let events = events_before a (jump a i c.args.block (map phi_value c.args.phis.items) s) i in
    let two = subst (λ (x : State). Records (events_before a (pass a i x) i + 1) c.put_phis.new.recorded c.come_to.new.recorded) moved c.come_to.ensures.recorded in
    record {
      ok = on_ok_weaker c.come_to.result (λ come. come ∙ ap (pass a i) moved) c.come_to.ensures.ok;
      recorded = records_on (length c.args.phis.items) (events + 1) c.args.recorded.now c.put_phis.new.recorded c.come_to.new.recorded c.put_phis.ensures.recorded two;
    }
