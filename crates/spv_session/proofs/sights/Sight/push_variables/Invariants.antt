use Rattle.std.proofs.Common.{◌≡◌, ◌++◌, drop}
use Rattle.std.specs.List.{flat_map}
use Rattle.std.specs.Prelude.{option_copied}
use Rattle.spv_session.specs.Variables.{variable_line}
use Rattle.spv_session.proofs.sights.Sight.push_variables.Given as goal

abbrev pub invariant-loop-id : goal.invariant-loop-id
invariant-loop-id l = l.text.items ++ flat_map (variable_line l.self.tables.now l.self.memory.now l.self.inv l.self.stack.now (option_copied l.self.frame)) (drop l.id-index l.ids)
    ≡ l.initial.text.items ++ flat_map (variable_line l.self.tables.now l.self.memory.now l.self.inv l.self.stack.now (option_copied l.self.frame)) l.ids
