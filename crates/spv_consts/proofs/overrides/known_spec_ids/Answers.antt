use Rattle.std.proofs.Common.{sym, ◌∙◌, ap, Bool}
use Rattle.std.specs.Prelude.{◌||◌}
use Rattle.std.specs.BTreeMap.{get}
use Rattle.std.specs.Ordering.{nat_cmp}
use Rattle.std.specs.Option.{is_some}
use Rattle.spv_base.specs.Options.{holds}
use Rattle.spv_consts.proofs.OverrideLemmas.{known_at, known_none, test_end, test_more}
use Rattle.spv_consts.proofs.overrides.known_spec_ids.Goals as goal

pub loop-inst-preserved : goal.loop-inst-preserved
loop-inst-preserved c = λ id.
    let e = known_at c.args.index.now.insts c.args.insts.now c.loop-inst.inst-index c.inst-item.result id c.loop-inst-test.true c.inst-item.is in
    let old = ap (λ (b : Bool). is_some (get nat_cmp c.loop-inst.set id) || b) (sym e) ∙ c.loop-inst.invariant id in
    test_more _ _ _ _ _ _ (c.in_ok-note.ensures id) (ap (holds id) c.spec_id_of.ensures) old

pub returns : goal.returns
returns c = λ id. test_end _ _ _ (c.loop-inst.invariant id) (known_none c.args.index.now.insts c.args.insts.now c.loop-inst.inst-index id c.loop-inst-test.false)
