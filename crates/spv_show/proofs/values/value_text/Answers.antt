use Rattle.std.proofs.Common.{sym}
use Rattle.std.proofs.lemmas.Result.{on_ok_weaker}
use Rattle.spv_show.proofs.values.value_text.Goals as goal

pub returns-clause-ok : goal.returns-clause-ok
returns-clause-ok c = on_ok_weaker c.row_text.result (λ text. text c.args.part.now (record { shape = c.requires.shape; counted = c.requires.counted; row = sym c.cells.ensures })) c.row_text.ensures.ok
