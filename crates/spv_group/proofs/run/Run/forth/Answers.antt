use Rattle.std.proofs.Common.{sym, ◌∙◌}
use Rattle.spv_group.proofs.Runs.{finished_here, stuck_here, schedule_here, fault_here, entry_within, sound_here, goes_on, runs_on, keeps_on}
use Rattle.spv_group.proofs.run.Run.forth.Goals as goal

pub returns-then-all_finished-clause-goes : goal.returns-then-all_finished-clause-goes
returns-then-all_finished-clause-goes g c =
    finished_here c.args.m.now c.args.schedule.now c.args.self.now.world.limit c.args.self.now.world c.args.self.now.position c.requires (sym c.all_finished.ensures ∙ c.if-all_finished.true)

pub returns-then-is_stuck-clause-goes : goal.returns-then-is_stuck-clause-goes
returns-then-is_stuck-clause-goes g c =
    stuck_here c.args.m.now c.args.schedule.now c.args.self.now.world.limit c.args.self.now.world c.args.self.now.position c.requires (sym c.all_finished.ensures ∙ c.if-all_finished.false) (sym c.is_stuck.ensures ∙ c.if-is_stuck.true)

pub returns-in_default-clause-goes : goal.returns-in_default-clause-goes
returns-in_default-clause-goes g c =
    schedule_here c.args.m.now c.args.schedule.now c.args.self.now.world.limit c.args.self.now.world c.args.self.now.position c.requires (sym c.all_finished.ensures ∙ c.if-all_finished.false) (sym c.is_stuck.ensures ∙ c.if-is_stuck.false) (sym c.in_default.is ∙ c.entry.ensures.entry)

pub event-requires-clause-inv : goal.event-requires-clause-inv
event-requires-clause-inv g c =
    entry_within c.args.m.now c.args.schedule.now c.args.self.now.world.limit c.args.self.now.world c.args.self.now.position c.in-Some.inv c.entry.result c.requires c.in-Some.is c.entry.ensures.exists

pub event-requires-clause-sound : goal.event-requires-clause-sound
event-requires-clause-sound g c = sound_here c.args.m.now c.args.schedule.now c.args.self.now.world.limit c.args.self.now.world c.args.self.now.position c.requires

pub returns-in-Err-Fault-clause-goes : goal.returns-in-Err-Fault-clause-goes
returns-in-Err-Fault-clause-goes g c =
    fault_here c.args.m.now c.args.schedule.now c.args.self.now.world.limit c.args.self.now.world c.args.self.now.position c.in-Some.inv c.in-Err-Fault.fault c.requires (sym c.all_finished.ensures ∙ c.if-all_finished.false) (sym c.is_stuck.ensures ∙ c.if-is_stuck.false) (sym c.in-Some.is ∙ c.entry.ensures.entry) (let made = rw c.in-Err-Fault.field-0-is at c.in-Err-Fault.ensures.makes in made.0)

pub returns-in-Ok-clause-goes : goal.returns-in-Ok-clause-goes
returns-in-Ok-clause-goes g c =
    goes_on c.args.m.now c.args.schedule.now c.args.self.now.world.limit c.args.self.now.world c.args.self.now.position c.in-Some.inv c.event.new.world c.in-Ok.happening c.requires (sym c.all_finished.ensures ∙ c.if-all_finished.false) (sym c.is_stuck.ensures ∙ c.if-is_stuck.false) (sym c.in-Some.is ∙ c.entry.ensures.entry) c.in-Ok.ensures.makes

pub returns-in-Ok-clause-kept : goal.returns-in-Ok-clause-kept
returns-in-Ok-clause-kept g c =
    keeps_on c.args.m.now c.args.schedule.now c.args.self.now.world.limit c.args.self.now.world c.args.self.now.position c.in-Some.inv c.event.new.world c.in-Ok.happening c.requires (sym c.in-Some.is ∙ c.entry.ensures.entry) c.in-Ok.ensures.makes

pub returns-in-Ok-clause-run : goal.returns-in-Ok-clause-run
returns-in-Ok-clause-run g c =
    runs_on c.args.m.now c.args.schedule.now c.args.self.now.world.limit c.args.self.now.world c.args.self.now.position c.in-Some.inv c.event.new.world c.in-Ok.happening c.requires (sym c.all_finished.ensures ∙ c.if-all_finished.false) (sym c.is_stuck.ensures ∙ c.if-is_stuck.false) (sym c.in-Some.is ∙ c.entry.ensures.entry) c.in-Ok.ensures.makes c.event.ensures.sound
