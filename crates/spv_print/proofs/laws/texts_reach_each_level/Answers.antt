use Rattle.std.proofs.Common.{true, ap}
use Rattle.spv_print.specs.Layouts.{Written, blank}
use Rattle.spv_print.proofs.DepthLemmas.{more_levels}
use Rattle.spv_print.proofs.RecordLemmas.{type_within}
use Rattle.spv_print.proofs.laws.texts_reach_each_level.Goals as goal

pub returns-clause-types : goal.returns-clause-types
returns-clause-types c = type_within

pub returns-clause-parts : goal.returns-clause-parts
returns-clause-parts c = λ t records size more p deep. ap (λ (s : Written). s.pieces) (more_levels t records size more 64 p true blank deep)
