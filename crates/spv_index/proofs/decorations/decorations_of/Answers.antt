use Rattle.std.proofs.Common.{◌∙◌, ◌-◌, ap, arith}
use Rattle.spv_index.specs.Definitions.{decorates}
use Rattle.spv_index.specs.Keys.{is_pair}
use Rattle.spv_index.proofs.KeyLemmas.{back_more, nothing_put, pair_put}
use Rattle.spv_index.proofs.decorations.decorations_of.Goals as goal

pub back-preserved-in_ok-insert : goal.back-preserved-in_ok-insert
back-preserved-in_ok-insert c = record {
  within = omega arith;
  found = λ id kind. back_more (decorates id kind) c.args.insts.now c.back.n c.index-insts-n.result _ _ (omega arith) c.back.invariant.within c.index-insts-n.is
      (pair_put c.in-Some.key id kind (c.back.n - 1) _ _ _ (c.in-Some.ensures id kind) (c.in_ok-insert.ensures.updates.0 (id, kind))) (c.back.invariant.found id kind);
}

pub back-preserved : goal.back-preserved
back-preserved c = record {
  within = omega arith;
  found = λ id kind. back_more (decorates id kind) c.args.insts.now c.back.n c.index-insts-n.result _ _ (omega arith) c.back.invariant.within c.index-insts-n.is
      (nothing_put (c.back.n - 1) _ _ (c.decoration_key.ensures id kind ∙ ap (is_pair id kind) c.in_default.is)) (c.back.invariant.found id kind);
}
