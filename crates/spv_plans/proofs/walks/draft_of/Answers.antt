use Rattle.spv_plans.proofs.WalkLemmas.{counted_here}
use Rattle.spv_plans.proofs.walks.draft_of.Goals as goal

pub add-requires : goal.add-requires
add-requires c = λ register.
    counted_here c.args.types.now c.args.stands.now c.args.start c.loop-n.n
    (record { position = c.at-stand.result.position; class = c.at-stand.result.class; inst = c.at-stand.result.inst.now })
    c.requires c.loop-n.auto.n c.at-stand.ensures register
