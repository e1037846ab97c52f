use Rattle.std.proofs.Common.{◌∙◌}
use Rattle.spv_scopes.proofs.HeadLemmas.{head_kept}
use Rattle.spv_scopes.proofs.heads.Heads.is_head.Goals as goal

pub returns : goal.returns
returns c =
    let x = c.self.inside in
    c.is_some.ensures ∙ (head_kept x.files.items x.table c.args.self.now c.args.word c.get.result c.self.view_is c.get.ensures).0
