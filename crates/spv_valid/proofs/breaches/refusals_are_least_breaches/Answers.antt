use Rattle.spv_valid.specs.Acceptance.{acceptance}
use Rattle.spv_valid.specs.Breaches.{breaches}
use Rattle.spv_valid.proofs.PassLemmas.{tells_all}
use Rattle.spv_valid.proofs.LeastLemmas.{accepted_none, least_refused, none_accepted, refused_least}
use Rattle.spv_valid.proofs.breaches.refusals_are_least_breaches.Goals as goal

pub returns-clause-refused : goal.returns-clause-refused
returns-clause-refused c = λ m name over r decoded.
    let tells = tells_all m name over decoded.ascend in
    (refused_least (acceptance m name over) (breaches m name over) r tells, least_refused (acceptance m name over) (breaches m name over) r tells)

pub returns-clause-accepted : goal.returns-clause-accepted
returns-clause-accepted c = λ m name over decoded.
    let tells = tells_all m name over decoded.ascend in
    (accepted_none (acceptance m name over) (breaches m name over) tells, none_accepted (acceptance m name over) (breaches m name over) tells)
