use Rattle.std.proofs.Common.{◌≡◌, List, map, refl, ap, ◌∙◌}
use Rattle.spv_dbg.specs.declared.kinds.TheConstants.{KINDS}
use Rattle.spv_dbg.specs.Kinds.{Kind, kind_with, kinds}
use Rattle.spv_dbg.proofs.kinds.kind_of.Goals as goal

-- the program's table is the table of the definition
same_table : map (λ o. (o.0, (o.1.now, o.2))) KINDS ≡ kinds
unfolding kinds
same_table = refl

pub returns : goal.returns
returns c = c.kind_in.ensures ∙ ap (λ (rows : List Kind). kind_with c.args.number rows) same_table
