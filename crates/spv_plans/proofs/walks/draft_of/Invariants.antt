use Rattle.spv_plans.proofs.WalkLemmas.{Walking}
use Rattle.spv_plans.proofs.walks.draft_of.Given as goal

-- the registers so far, and those that are left
abbrev pub invariant-loop-n : goal.invariant-loop-n
invariant-loop-n l = Walking l.types l.stands l.start l.function l.first l.draft l.n
