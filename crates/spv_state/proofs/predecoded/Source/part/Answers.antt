use Rattle.std.proofs.Common.{◌∙◌, ap, sym}
use Rattle.spv_base.specs.Entries.{reads}
use Rattle.spv_frame.specs.declared.slots.Slot.{Slot}
use Rattle.spv_state.proofs.SourceLemmas.{constant_read, register_read}
use Rattle.spv_state.proofs.predecoded.Source.part.Goals as goal

pub returns-in-Register : goal.returns-in-Register
returns-in-Register c =
    register_read c.args.accepted.now c.args.frame.now c.args.self.now c.in-Register.register c.value.result c.in-Register.is c.requires.source c.requires.frame
    (ap (λ (s : Slot). reads s.id c.args.frame.now.values) (sym c.slot.ensures) ∙ c.value.ensures)

pub returns-in-Constant : goal.returns-in-Constant
returns-in-Constant c = constant_read c.args.accepted.now c.args.frame.now c.args.self.now c.in-Constant.id c.constant.result c.in-Constant.is c.requires.source c.constant.ensures
