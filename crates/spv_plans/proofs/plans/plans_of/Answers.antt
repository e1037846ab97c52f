use Rattle.std.proofs.Common.{Global, ◌≡◌, ◌∙◌, ℕ, ◌+◌, ◌≤◌, List, Some, length, map, refl, sym, ap, subst, slice_get, arith}
use Rattle.std.proofs.lemmas.Bool.{ne_eqb}
use Rattle.std.proofs.lemmas.Option.{slice_get_read}
use Rattle.std.specs.declared.rc.Rc.{Rc}
use Rattle.spv_base.specs.declared.instructions.Inst.{Inst}
use Rattle.spv_valid.specs.Below.spv_cfg.specs.Calls.{functions_of}
use Rattle.spv_frame.specs.Registers.{Planned}
use Rattle.spv_frame.specs.declared.plans.Plan.{Plan}
use Rattle.spv_plans.specs.Plans.{IsPlan, functions_in}
use Rattle.spv_plans.proofs.PlanOfLemmas.{plans_are}
use Rattle.spv_plans.proofs.ReadLemmas.{Reading, all_read, grown, id_is, none_there, one_read}
use Rattle.spv_plans.proofs.plans.plans_of.Goals as goal
use Rattle.spv_plans.proofs.plans.plans_of.Goals.{then-inst-eq-FUNCTION+in_ok-plan+in_ok-new+in_ok-push, else-inst-eq-FUNCTION}
use Rattle.std.proofs.lemmas.Result.{IfOk-weaker}

pub loop-n-preserved : goal.loop-n-preserved
loop-n-preserved c =
    let a = c.args.accepted.now in
    let insts = c.insts-insts.result.now in
    let i = c.index-insts-n.result in
    let f = λ (x : Rc Plan Global). x.value in
    let at : slice_get insts c.loop-n.n ≡ Some i = slice_get_read insts (length insts) c.loop-n.n i refl c.loop-n-test.true c.index-insts-n.is in
    elim c.if-inst-eq-FUNCTION.branch [
      | then-inst-eq-FUNCTION+in_ok-plan+in_ok-new+in_ok-push w ↦
          (let items = grown f c.loop-n.list.items c.if-inst-eq-FUNCTION.list.items w.in_ok-new.field-0 w.in_ok-plan.plan (ap (λ v. v.items) w.list-is ∙ w.in_ok-push.ensures.items) w.in_ok-new.ensures.ok in
          subst (λ (ps : List Planned). Reading a insts ps (c.loop-n.n + 1)) (sym items)
          (one_read a insts (map f c.loop-n.list.items) c.loop-n.n i w.in_ok-plan.plan c.loop-n.invariant at w.if-inst-eq-FUNCTION.true
          (id_is a.insts insts c.loop-n.n i w.in_ok-plan.plan.function c.insts-insts.ensures.insts at w.in_ok-plan.ensures.function) w.in_ok-plan.ensures.plan))
      | else-inst-eq-FUNCTION w ↦
          subst (λ (ps : List Planned). Reading a insts ps (c.loop-n.n + 1)) (sym (ap (λ v. map f v.items) w.list-is))
          (none_there a insts (map f c.loop-n.list.items) c.loop-n.n i c.loop-n.invariant at (ne_eqb i.op 54 w.if-inst-eq-FUNCTION.false))
    ]

pub returns-clause-are : goal.returns-clause-are
returns-clause-are c =
    let a = c.args.accepted.now in
    let insts = c.insts-insts.result.now in
    let ps : List Planned = map (λ (x : Rc Plan Global). x.value) c.loop-n.list.items in
    let past : length insts ≤ c.loop-n.n = omega (arith, c.loop-n-test.false) in
    let functions : map (λ (p : Planned). p.function) ps ≡ functions_in a
    = all_read a insts ps c.loop-n.n c.loop-n.invariant past ∙ ap (λ (is : List Inst). map (λ (f : ℕ × ℕ). f.0) (functions_of is)) c.insts-insts.ensures.insts in
    let only = λ (p : Planned) (is : IsPlan a p). c.functions_have_their_plans.ensures.only a p c.insts-insts.ensures.accepted is in
    IfOk-weaker c.new-2.result _ _ (λ (plans : List Planned) (e : plans ≡ ps). e ∙ plans_are a ps (functions_of a.insts) only c.loop-n.invariant.plans functions) c.new-2.ensures
