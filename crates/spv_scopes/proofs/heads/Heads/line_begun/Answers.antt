use Rattle.spv_scopes.proofs.HeadLemmas.{head_kept}
use Rattle.spv_scopes.proofs.heads.Heads.line_begun.Goals as goal

pub returns-in-Some : goal.returns-in-Some
returns-in-Some c = let x = c.self.inside in (head_kept x.files.items x.table c.args.self.now c.args.word _ c.self.view_is c.in-Some.ensures).1

pub returns-in-None : goal.returns-in-None
returns-in-None c = let x = c.self.inside in (head_kept x.files.items x.table c.args.self.now c.args.word _ c.self.view_is c.in-None.ensures).1
