use Rattle.std.proofs.Common.{◌≡◌, ◌∙◌, ◌+◌, List, Some, drop, get_or, true, sym, ap, subst}
use Rattle.std.specs.Prelude.{find, option_map}
use Rattle.std.specs.Option.{is_some}
use Rattle.spv_base.specs.declared.instructions.Inst.{Inst}
use Rattle.spv_index.specs.Positions.{Stand, stands_of}
use Rattle.spv_types.specs.Types.{Types}
use Rattle.spv_frame.specs.Registers.{Planned}
use Rattle.spv_plans.specs.Members.{first_stop, is_stop}
use Rattle.spv_plans.specs.Plans.{IsPlan}
use Rattle.spv_plans.specs.Registers.{AreCounted}
use Rattle.spv_plans.proofs.PlanLemmas.{counted_there, function_here, lists_here, plan_is, pointers_apart, read_here, stops_there, values_apart}
use Rattle.spv_plans.proofs.plans.plan_at.Goals as goal
use Rattle.std.proofs.lemmas.Result.{IfOk-weaker}

pub first_stop-first-requires : goal.first_stop-first-requires
first_stop-first-requires c =
    let a = c.args.accepted.now in
    let same : c.stands-stands.result ≡ stands_of a.insts = c.stands-stands.ensures ∙ ap stands_of c.index.ensures.insts in
    let at = function_here _ c.requires in
    subst (λ (ss : List Stand). is_some (find is_stop (drop (c.args.n + 1) ss)) ≡ true) (sym same) (stops_there a c.args.n at.0 c.insts.ensures.accepted c.insts.ensures.valid at.1 at.2)

pub draft_of-requires : goal.draft_of-requires
draft_of-requires c =
    let a = c.args.accepted.now in
    let same : c.stands-stands.result ≡ stands_of a.insts = c.stands-stands.ensures ∙ ap stands_of c.index.ensures.insts in
    subst (λ (ss : List Stand). AreCounted c.types.result.now (drop (c.args.n + 1) ss)) (sym same)
    (subst (λ (ts : Types). AreCounted ts (drop (c.args.n + 1) (stands_of a.insts))) (sym c.types.ensures)
    (counted_there a c.args.n c.registers_are_counted.ensures c.insts.ensures.accepted c.requires))

pub finish-requires-clause-values : goal.finish-requires-clause-values
finish-requires-clause-values c =
    let a = c.args.accepted.now in
    let same : c.stands-stands.result ≡ stands_of a.insts = c.stands-stands.ensures ∙ ap stands_of c.index.ensures.insts in
    let at = function_here _ c.requires in
    let is = read_here a.insts c.insts.result.now c.args.n at.0 c.index-insts-n.result c.insts.ensures.insts at.1 in
    values_apart a c.args.n at.0 c.insts.ensures.accepted c.insts.ensures.valid at.1 at.2 c.in_ok-draft.draft
    (lists_here a c.args.n at.0 (get_or c.insts.result.now c.args.n c.index-insts-n.result) c.types.result.now c.stands-stands.result c.in_ok-draft.draft c.types.ensures same is c.in_ok-draft.ensures.registers)

pub finish-requires-clause-pointers : goal.finish-requires-clause-pointers
finish-requires-clause-pointers c =
    let a = c.args.accepted.now in
    let same : c.stands-stands.result ≡ stands_of a.insts = c.stands-stands.ensures ∙ ap stands_of c.index.ensures.insts in
    let at = function_here _ c.requires in
    let is = read_here a.insts c.insts.result.now c.args.n at.0 c.index-insts-n.result c.insts.ensures.insts at.1 in
    pointers_apart a c.args.n at.0 c.insts.ensures.accepted c.insts.ensures.valid at.1 at.2 c.in_ok-draft.draft
    (lists_here a c.args.n at.0 (get_or c.insts.result.now c.args.n c.index-insts-n.result) c.types.result.now c.stands-stands.result c.in_ok-draft.draft c.types.ensures same is c.in_ok-draft.ensures.registers)

pub returns-clause-function : goal.returns-clause-function
returns-clause-function c =
    let a = c.args.accepted.now in
    let at = function_here _ c.requires in
    let is = read_here a.insts c.insts.result.now c.args.n at.0 c.index-insts-n.result c.insts.ensures.insts at.1 in
    IfOk-weaker c.finish.result _ _
    (λ (plan : Planned) (e : plan ≡ c.in_ok-draft.draft).
    ap (option_map (λ (i : Inst). i.id)) at.1 ∙ ap (λ (i : Inst). Some i.id) (sym is) ∙ ap Some (sym c.in_ok-draft.ensures.function) ∙ ap (λ (p : Planned). Some p.function) (sym e))
    c.finish.ensures

pub returns-clause-plan : goal.returns-clause-plan
returns-clause-plan c =
    let a = c.args.accepted.now in
    let same : c.stands-stands.result ≡ stands_of a.insts = c.stands-stands.ensures ∙ ap stands_of c.index.ensures.insts in
    let at = function_here _ c.requires in
    let is = read_here a.insts c.insts.result.now c.args.n at.0 c.index-insts-n.result c.insts.ensures.insts at.1 in
    let lists = lists_here a c.args.n at.0 (get_or c.insts.result.now c.args.n c.index-insts-n.result) c.types.result.now c.stands-stands.result c.in_ok-draft.draft c.types.ensures same is c.in_ok-draft.ensures.registers in
    let first : first_stop (drop (c.args.n + 1) (stands_of a.insts)) ≡ Some c.in_ok-draft.draft.first
    = sym (ap (λ (ss : List Stand). first_stop (drop (c.args.n + 1) ss)) same) ∙ c.first_stop-first.ensures ∙ ap Some (sym c.in_ok-draft.ensures.first) in
    let is_plan : IsPlan a c.in_ok-draft.draft = plan_is a c.args.n at.0 c.insts.ensures.accepted c.insts.ensures.valid at.1 at.2 c.in_ok-draft.draft (c.in_ok-draft.ensures.function ∙ ap (λ (i : Inst). i.id) is) first lists in
    IfOk-weaker c.finish.result _ _ (λ (plan : Planned) (e : plan ≡ c.in_ok-draft.draft). subst (IsPlan a) (sym e) is_plan) c.finish.ensures
