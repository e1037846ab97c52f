use Rattle.std.proofs.Common.{◌∙◌, ◌-◌, ap, arith}
use Rattle.spv_index.specs.Definitions.{decorates_member}
use Rattle.spv_index.specs.Keys.{is_triple}
use Rattle.spv_index.proofs.KeyLemmas.{back_more, nothing_put, triple_put}
use Rattle.spv_index.proofs.decorations.member_decorations_of.Goals as goal

pub back-preserved-in_ok-insert : goal.back-preserved-in_ok-insert
back-preserved-in_ok-insert c = record {
  within = omega arith;
  found = λ id member kind. back_more (decorates_member id member kind) c.args.insts.now c.back.n c.index-insts-n.result _ _ (omega arith) c.back.invariant.within c.index-insts-n.is
      (triple_put c.in-Some.key id member kind (c.back.n - 1) _ _ _ (c.in-Some.ensures id member kind) (c.in_ok-insert.ensures.updates.0 (id, member, kind))) (c.back.invariant.found id member kind);
}

pub back-preserved : goal.back-preserved
back-preserved c = record {
  within = omega arith;
  found = λ id member kind. back_more (decorates_member id member kind) c.args.insts.now c.back.n c.index-insts-n.result _ _ (omega arith) c.back.invariant.within c.index-insts-n.is
      (nothing_put (c.back.n - 1) _ _ (c.decorated_member.ensures id member kind ∙ ap (is_triple id member kind) c.in_default.is)) (c.back.invariant.found id member kind);
}
