use Rattle.std.proofs.Common.{◌≡◌, length, true}
use Rattle.std.specs.List.{list_all}
use Rattle.spv_cfg.specs.Branches.{cases_by_two}
use Rattle.spv_cfg.specs.Operands.{is_literal, literals_in}
use Rattle.spv_control.proofs.SwitchLemmas.{label_in}
use Rattle.spv_control.proofs.switches.label_by_two.Given as goal

-- none of the cases before is that of the number
abbrev pub invariant-cases : goal.invariant-cases
invariant-cases l = (list_all is_literal l.rest ≡ true) × (label_in l.width l.number (cases_by_two (literals_in l.rest)) ≡ label_in l.width l.number (cases_by_two (literals_in l.operands)))

abbrev pub decreases-cases : goal.decreases-cases
decreases-cases l = length l.rest
