use Rattle.spv_sections.proofs.IdLemmas.{NoneRefused}
use Rattle.spv_sections.proofs.ids.check_all.Given as goal

-- no instruction so far is refused
abbrev pub invariant-loop-n : goal.invariant-loop-n
invariant-loop-n l = NoneRefused l.index l.stands l.n
