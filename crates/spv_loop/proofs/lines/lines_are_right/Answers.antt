use Rattle.std.proofs.Common.{refl, []}
use Rattle.spv_loop.proofs.Splits.{whole_from, lines_have_none, rest_has_none}
use Rattle.spv_loop.proofs.lines.lines_are_right.Goals as goal

pub returns-clause-whole : goal.returns-clause-whole
returns-clause-whole c bytes = whole_from [] bytes

pub returns-clause-lines : goal.returns-clause-lines
returns-clause-lines c bytes = lines_have_none [] bytes refl

pub returns-clause-rest : goal.returns-clause-rest
returns-clause-rest c bytes = rest_has_none [] bytes refl
