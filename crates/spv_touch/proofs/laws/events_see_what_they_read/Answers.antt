use Rattle.spv_touch.proofs.KindLemmas.{faults, idles}
use Rattle.spv_touch.proofs.EventLemmas.{same_arrival, same_due, same_touched}
use Rattle.spv_touch.proofs.laws.events_see_what_they_read.Goals as goal

pub returns-clause-effect : goal.returns-clause-effect
returns-clause-effect c = same_due

pub returns-clause-touched : goal.returns-clause-touched
returns-clause-touched c = same_touched

pub returns-clause-arrives : goal.returns-clause-arrives
returns-clause-arrives c = same_arrival

pub returns-clause-idle : goal.returns-clause-idle
returns-clause-idle c = idles

pub returns-clause-fault : goal.returns-clause-fault
returns-clause-fault c = λ p s t i some f alike apart. faults p s t i some alike apart f
