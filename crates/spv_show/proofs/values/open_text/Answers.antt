use Rattle.std.proofs.Common.{sym}
use Rattle.std.proofs.lemmas.Result.{on_ok_weaker}
use Rattle.spv_show.proofs.values.open_text.Goals as goal

pub returns-clause-ok : goal.returns-clause-ok
returns-clause-ok c = on_ok_weaker c.open_row_text.result (λ text. text c.args.part.now c.requires (sym c.cells.ensures)) c.open_row_text.ensures.ok
