use Rattle.std.proofs.Common.{◌∙◌, ◌&&◌, Bool, ap}
use Rattle.std.specs.Option.{is_some}
use Rattle.spv_sites.specs.Sites.{values}
use Rattle.spv_touch.proofs.SeenLemmas.{return_value_seen, told_alone}
use Rattle.spv_touch.proofs.accesses.return_value.Goals as goal

pub returns : goal.returns
returns c =
    told_alone c.args.site.now c.untouching.result _ _ _ (return_value_seen c.args.site.now c.requires.action)
    (c.in_ok-arrives.ensures ∙ ap (λ (b : Bool). is_some (values c.args.site.now 0) && b) c.requires.ending) c.inv.ensures c.untouching.ensures
