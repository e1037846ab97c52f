use Rattle.std.proofs.Common.{◌≡◌, ◌∙◌, ◌++◌, ◌+◌, ℕ, Global, Vec, List, [], ◌∷◌, ap, drop, filter, map, option_map, subst, sym}
use Rattle.std.proofs.lemmas.Bool.{eq-eqb, ne_eqb}
use Rattle.std.proofs.lemmas.List.{map_push}
use Rattle.std.proofs.lemmas.List.Elements.{All-push}
use Rattle.std.specs.List.{All}
use Rattle.spv_base.specs.declared.values.Value.{Value}
use Rattle.spv_state.specs.State.{depth_of}
use Rattle.spv_sites.specs.Phis.{is_phi, phi_values}
use Rattle.spv_sites.specs.Planned.{IsPlain, phi_value}
use Rattle.spv_sites.specs.declared.effects.PhiValue.{PhiValue}
use Rattle.spv_control.proofs.PhiLemmas.{one_taken, other_taken}
use Rattle.spv_control.proofs.phis.values_of.Goals as goal
use Rattle.spv_control.proofs.phis.values_of.Goals.{then-inst-eq-PHI+in_ok-value_of+in_ok-push, else-inst-eq-PHI}

pub loop-inst-preserved : goal.loop-inst-preserved
loop-inst-preserved c = elim c.if-inst-eq-PHI.branch [
  | then-inst-eq-PHI+in_ok-value_of+in_ok-push w ↦
      let items : c.if-inst-eq-PHI.values.items ≡ c.loop-inst.values.items ++ w.in_ok-value_of.field-0 ∷ [] = ap (λ (vs : Vec PhiValue Global). vs.items) w.values-is ∙ w.in_ok-push.ensures.items in
      let values : map phi_value c.if-inst-eq-PHI.values.items ≡ map phi_value c.loop-inst.values.items ++ phi_value w.in_ok-value_of.field-0 ∷ []
      = ap (map phi_value) items ∙ map_push phi_value c.loop-inst.values.items w.in_ok-value_of.field-0 in (
        subst (All (λ (p : PhiValue). IsPlain p.value)) (sym items) (All-push (λ (p : PhiValue). IsPlain p.value) c.loop-inst.values.items w.in_ok-value_of.field-0 c.loop-inst.invariant.0 w.in_ok-value_of.ensures.plain),
        subst (λ (us : List (ℕ × Value)). phi_values c.args.site.now.program.accepted c.args.site.now.frame (depth_of c.args.site.now.state c.args.site.now.inv) c.args.from (filter is_phi c.args.insts.now) ≡ option_map (λ (rs : List (ℕ × Value)). us ++ rs) (phi_values c.args.site.now.program.accepted c.args.site.now.frame (depth_of c.args.site.now.state c.args.site.now.inv) c.args.from (filter is_phi (drop (c.loop-inst.inst-index + 1) c.args.insts.now)))) (sym values)
            (one_taken c.args.site.now.program.accepted c.args.site.now.frame (depth_of c.args.site.now.state c.args.site.now.inv) c.args.from (phi_values c.args.site.now.program.accepted c.args.site.now.frame (depth_of c.args.site.now.state c.args.site.now.inv) c.args.from (filter is_phi c.args.insts.now)) c.args.insts.now c.loop-inst.inst-index c.inst-item.result (map phi_value c.loop-inst.values.items) (phi_value w.in_ok-value_of.field-0)
            c.loop-inst-test.true c.inst-item.is (eq-eqb c.inst-item.result.op 245 w.if-inst-eq-PHI.true) w.in_ok-value_of.ensures.value c.loop-inst.invariant.1),
      )
  | else-inst-eq-PHI w ↦ (
    subst (All (λ (p : PhiValue). IsPlain p.value)) (ap (λ (vs : Vec PhiValue Global). vs.items) (sym w.values-is)) c.loop-inst.invariant.0,
    subst (λ (vs : List PhiValue). phi_values c.args.site.now.program.accepted c.args.site.now.frame (depth_of c.args.site.now.state c.args.site.now.inv) c.args.from (filter is_phi c.args.insts.now) ≡ option_map (λ (rs : List (ℕ × Value)). map phi_value vs ++ rs) (phi_values c.args.site.now.program.accepted c.args.site.now.frame (depth_of c.args.site.now.state c.args.site.now.inv) c.args.from (filter is_phi (drop (c.loop-inst.inst-index + 1) c.args.insts.now)))) (ap (λ (vs : Vec PhiValue Global). vs.items) (sym w.values-is))
        (c.loop-inst.invariant.1 ∙ ap (option_map (λ (rs : List (ℕ × Value)). map phi_value c.loop-inst.values.items ++ rs))
        (other_taken c.args.site.now.program.accepted c.args.site.now.frame (depth_of c.args.site.now.state c.args.site.now.inv) c.args.from c.args.insts.now c.loop-inst.inst-index c.inst-item.result c.loop-inst-test.true c.inst-item.is (ne_eqb c.inst-item.result.op 245 w.if-inst-eq-PHI.false))),
  )
]
