use Rattle.std.proofs.Common.{◌≡◌, ◌∙◌, Ok, ap}
use Rattle.spv_cmd.specs.declared.command.Command.TheVariants as command
use Rattle.spv_probe.specs.Kits.{tests_of}
use Rattle.spv_session.proofs.ProbeLemmas.{kit_same}
use Rattle.spv_session.proofs.ReplyLemmas.{bt_keeps, list_keeps, locals_keep, regs_keep}
use Rattle.spv_session.proofs.session.Core.answer.Goals as goal

pub returns-in_err-look_at-in-Ok-Focus-clause-kit : goal.returns-in_err-look_at-in-Ok-Focus-clause-kit
returns-in_err-look_at-in-Ok-Focus-clause-kit g c = λ settings kit.
    kit_same (λ b. (goal.Probe-dyn g (b.vtable, b.value)).tally b.value) (λ b. (goal.Probe-dyn g (b.vtable, b.value)).test b.value) settings c.args.self.now.view c.look_at.new.self.view c.args.kit.now.boxes.items c.look_at.ensures.group c.look_at.ensures.dropped kit

pub returns-in_ok-look_at-in-Ok-Focus-clause-kit : goal.returns-in_ok-look_at-in-Ok-Focus-clause-kit
returns-in_ok-look_at-in-Ok-Focus-clause-kit g c = λ settings kit.
    kit_same (λ b. (goal.Probe-dyn g (b.vtable, b.value)).tally b.value) (λ b. (goal.Probe-dyn g (b.vtable, b.value)).test b.value) settings c.args.self.now.view c.look_at.new.self.view c.args.kit.now.boxes.items c.look_at.ensures.group c.look_at.ensures.dropped kit

pub returns-in_err-select-in-Ok-Frame-clause-kit : goal.returns-in_err-select-in-Ok-Frame-clause-kit
returns-in_err-select-in-Ok-Frame-clause-kit g c = λ settings kit.
    kit_same (λ b. (goal.Probe-dyn g (b.vtable, b.value)).tally b.value) (λ b. (goal.Probe-dyn g (b.vtable, b.value)).test b.value) settings c.args.self.now.view c.select.new.self.view c.args.kit.now.boxes.items c.select.ensures.group c.select.ensures.dropped kit

pub returns-in_ok-select-in-Ok-Frame-clause-kit : goal.returns-in_ok-select-in-Ok-Frame-clause-kit
returns-in_ok-select-in-Ok-Frame-clause-kit g c = λ settings kit.
    kit_same (λ b. (goal.Probe-dyn g (b.vtable, b.value)).tally b.value) (λ b. (goal.Probe-dyn g (b.vtable, b.value)).test b.value) settings c.args.self.now.view c.select.new.self.view c.args.kit.now.boxes.items c.select.ensures.group c.select.ensures.dropped kit

pub returns-in_err-add_break-in-Ok-Break-clause-kit : goal.returns-in_err-add_break-in-Ok-Break-clause-kit
returns-in_err-add_break-in-Ok-Break-clause-kit g c = λ settings kit.
    kit_same (λ b. (goal.Probe-dyn g (b.vtable, b.value)).tally b.value) (λ b. (goal.Probe-dyn g (b.vtable, b.value)).test b.value) settings c.args.self.now.view c.add_break.new.self.view c.args.kit.now.boxes.items c.add_break.ensures.group c.add_break.ensures.dropped kit

pub returns-in_ok-add_break-in-Ok-Break-clause-kit : goal.returns-in_ok-add_break-in-Ok-Break-clause-kit
returns-in_ok-add_break-in-Ok-Break-clause-kit g c = λ settings kit.
    kit_same (λ b. (goal.Probe-dyn g (b.vtable, b.value)).tally b.value) (λ b. (goal.Probe-dyn g (b.vtable, b.value)).test b.value) settings c.args.self.now.view c.add_break.new.self.view c.args.kit.now.boxes.items c.add_break.ensures.group c.add_break.ensures.dropped kit

pub returns-in_err-delete_break-in-Ok-Delete-clause-kit : goal.returns-in_err-delete_break-in-Ok-Delete-clause-kit
returns-in_err-delete_break-in-Ok-Delete-clause-kit g c = λ settings kit.
    kit_same (λ b. (goal.Probe-dyn g (b.vtable, b.value)).tally b.value) (λ b. (goal.Probe-dyn g (b.vtable, b.value)).test b.value) settings c.args.self.now.view c.delete_break.new.self.view c.args.kit.now.boxes.items c.delete_break.ensures.group c.delete_break.ensures.dropped kit

pub returns-in_ok-delete_break-in-Ok-Delete-clause-kit : goal.returns-in_ok-delete_break-in-Ok-Delete-clause-kit
returns-in_ok-delete_break-in-Ok-Delete-clause-kit g c = λ settings kit.
    kit_same (λ b. (goal.Probe-dyn g (b.vtable, b.value)).tally b.value) (λ b. (goal.Probe-dyn g (b.vtable, b.value)).test b.value) settings c.args.self.now.view c.delete_break.new.self.view c.args.kit.now.boxes.items c.delete_break.ensures.group c.delete_break.ensures.dropped kit

pub returns-in_err-add_watch-in-Ok-Watch-clause-kit : goal.returns-in_err-add_watch-in-Ok-Watch-clause-kit
returns-in_err-add_watch-in-Ok-Watch-clause-kit g c = λ settings kit.
    kit_same (λ b. (goal.Probe-dyn g (b.vtable, b.value)).tally b.value) (λ b. (goal.Probe-dyn g (b.vtable, b.value)).test b.value) settings c.args.self.now.view c.add_watch.new.self.view c.args.kit.now.boxes.items c.add_watch.ensures.group c.add_watch.ensures.dropped kit

pub returns-in_ok-add_watch-in-Ok-Watch-clause-kit : goal.returns-in_ok-add_watch-in-Ok-Watch-clause-kit
returns-in_ok-add_watch-in-Ok-Watch-clause-kit g c = λ settings kit.
    kit_same (λ b. (goal.Probe-dyn g (b.vtable, b.value)).tally b.value) (λ b. (goal.Probe-dyn g (b.vtable, b.value)).test b.value) settings c.args.self.now.view c.add_watch.new.self.view c.args.kit.now.boxes.items c.add_watch.ensures.group c.add_watch.ensures.dropped kit

pub returns-in_err-delete_watch-in-Ok-Unwatch-clause-kit : goal.returns-in_err-delete_watch-in-Ok-Unwatch-clause-kit
returns-in_err-delete_watch-in-Ok-Unwatch-clause-kit g c = λ settings kit.
    kit_same (λ b. (goal.Probe-dyn g (b.vtable, b.value)).tally b.value) (λ b. (goal.Probe-dyn g (b.vtable, b.value)).test b.value) settings c.args.self.now.view c.delete_watch.new.self.view c.args.kit.now.boxes.items c.delete_watch.ensures.group c.delete_watch.ensures.dropped kit

pub returns-in_ok-delete_watch-in-Ok-Unwatch-clause-kit : goal.returns-in_ok-delete_watch-in-Ok-Unwatch-clause-kit
returns-in_ok-delete_watch-in-Ok-Unwatch-clause-kit g c = λ settings kit.
    kit_same (λ b. (goal.Probe-dyn g (b.vtable, b.value)).tally b.value) (λ b. (goal.Probe-dyn g (b.vtable, b.value)).test b.value) settings c.args.self.now.view c.delete_watch.new.self.view c.args.kit.now.boxes.items c.delete_watch.ensures.group c.delete_watch.ensures.dropped kit

pub returns-in_err-set_halt-in-Ok-Halt-clause-kit : goal.returns-in_err-set_halt-in-Ok-Halt-clause-kit
returns-in_err-set_halt-in-Ok-Halt-clause-kit g c = λ settings kit.
    kit_same (λ b. (goal.Probe-dyn g (b.vtable, b.value)).tally b.value) (λ b. (goal.Probe-dyn g (b.vtable, b.value)).test b.value) settings c.args.self.now.view c.set_halt.new.self.view c.args.kit.now.boxes.items c.set_halt.ensures.group c.set_halt.ensures.dropped kit

pub returns-in_ok-set_halt-in-Ok-Halt-clause-kit : goal.returns-in_ok-set_halt-in-Ok-Halt-clause-kit
returns-in_ok-set_halt-in-Ok-Halt-clause-kit g c = λ settings kit.
    kit_same (λ b. (goal.Probe-dyn g (b.vtable, b.value)).tally b.value) (λ b. (goal.Probe-dyn g (b.vtable, b.value)).test b.value) settings c.args.self.now.view c.set_halt.new.self.view c.args.kit.now.boxes.items c.set_halt.ensures.group c.set_halt.ensures.dropped kit

pub returns-in_ok-push_frames-in-Ok-Bt-clause-view : goal.returns-in_ok-push_frames-in-Ok-Bt-clause-view
returns-in_ok-push_frames-in-Ok-Bt-clause-view g c =
    let asked : c.in-Ok-Bt.field-0 ≡ command.Bt = rw c.in-Ok-Bt.is at c.in-Ok-Bt.field-0-is in
    let is : c.args.command.now ≡ Ok command.Bt = c.in-Ok-Bt.is ∙ ap Ok asked in
    bt_keeps (tests_of (λ b. (goal.Probe-dyn g (b.vtable, b.value)).test b.value) c.args.kit.now.boxes.items) c.args.self.now.view c.args.command.now is

pub returns-in_ok-push_registers-in-Ok-Regs-clause-view : goal.returns-in_ok-push_registers-in-Ok-Regs-clause-view
returns-in_ok-push_registers-in-Ok-Regs-clause-view g c =
    let asked : c.in-Ok-Regs.field-0 ≡ command.Regs = rw c.in-Ok-Regs.is at c.in-Ok-Regs.field-0-is in
    let is : c.args.command.now ≡ Ok command.Regs = c.in-Ok-Regs.is ∙ ap Ok asked in
    regs_keep (tests_of (λ b. (goal.Probe-dyn g (b.vtable, b.value)).test b.value) c.args.kit.now.boxes.items) c.args.self.now.view c.args.command.now is

pub returns-in_ok-push_lines-in-Ok-List-clause-view : goal.returns-in_ok-push_lines-in-Ok-List-clause-view
returns-in_ok-push_lines-in-Ok-List-clause-view g c =
    let asked : c.in-Ok-List.field-0 ≡ command.List = rw c.in-Ok-List.is at c.in-Ok-List.field-0-is in
    let is : c.args.command.now ≡ Ok command.List = c.in-Ok-List.is ∙ ap Ok asked in
    list_keeps (tests_of (λ b. (goal.Probe-dyn g (b.vtable, b.value)).test b.value) c.args.kit.now.boxes.items) c.args.self.now.view c.args.command.now is

pub returns-in_ok-push_locals-in-Ok-Locals-clause-view : goal.returns-in_ok-push_locals-in-Ok-Locals-clause-view
returns-in_ok-push_locals-in-Ok-Locals-clause-view g c =
    let asked : c.in-Ok-Locals.field-0 ≡ command.Locals = rw c.in-Ok-Locals.is at c.in-Ok-Locals.field-0-is in
    let is : c.args.command.now ≡ Ok command.Locals = c.in-Ok-Locals.is ∙ ap Ok asked in
    locals_keep (tests_of (λ b. (goal.Probe-dyn g (b.vtable, b.value)).test b.value) c.args.kit.now.boxes.items) c.args.self.now.view c.args.command.now is
