use Rattle.spv_group.proofs.WindowLemmas.{window_is, windows_rise}
use Rattle.spv_group.proofs.windows.windows_are_least.Goals as goal

pub returns-clause-least : goal.returns-clause-least
returns-clause-least c limit p entries n = window_is limit p entries n

pub returns-clause-rise : goal.returns-clause-rise
returns-clause-rise c limit p entries m n h = windows_rise limit p entries m n h
