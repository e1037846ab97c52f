use Rattle.spv_touch.proofs.StepLemmas.{left, made}
use Rattle.spv_touch.proofs.laws.events_change_what_they_write.Goals as goal

pub returns-clause-others : goal.returns-clause-others
returns-clause-others c = λ p s next i j h fits quietly is ne. left p s next i h fits quietly j ne is

pub returns-clause-alike : goal.returns-clause-alike
returns-clause-alike c = λ p s t next i some h fits quietly is alike apart. made p s next i h fits quietly t some alike apart is
