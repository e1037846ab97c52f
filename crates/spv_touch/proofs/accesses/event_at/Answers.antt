use Rattle.std.proofs.Common.{◌≡◌, ◌∙◌, inl, inr, true, false, refl, ap, sym}
use Rattle.spv_state.specs.Actions.{action_of}
use Rattle.spv_touch.proofs.SeenLemmas.{is_still, return_seen, still_seen, told_alone}
use Rattle.spv_touch.proofs.accesses.event_at.Goals as goal

pub returns-in-Return : goal.returns-in-Return
returns-in-Return c =
    told_alone c.args.site.now c.untouching.result _ _ _ (return_seen c.args.site.now (sym (c.of.ensures ∙ ap action_of c.inst.ensures) ∙ c.in-Return.is)) c.requires c.inv.ensures c.untouching.ensures

pub returns-in-Compute : goal.returns-in-Compute
returns-in-Compute c =
    let still : is_still c.of.result ≡ true = elim c.in-Compute.is [
      | inl e ↦ ap is_still e
      | inr (inl e) ↦ ap is_still e
      | inr (inr (inl e)) ↦ ap is_still e
      | inr (inr (inr (inl e))) ↦ ap is_still e
      | inr (inr (inr (inr (inl e)))) ↦ ap is_still e
      | inr (inr (inr (inr (inr (inl e))))) ↦ ap is_still e
      | inr (inr (inr (inr (inr (inr (inl e)))))) ↦ ap is_still e
      | inr (inr (inr (inr (inr (inr (inr (inl e))))))) ↦ ap is_still e
      | inr (inr (inr (inr (inr (inr (inr (inr (inl e)))))))) ↦ ap is_still e
      | inr (inr (inr (inr (inr (inr (inr (inr (inr (inl e))))))))) ↦ ap is_still e
      | inr (inr (inr (inr (inr (inr (inr (inr (inr (inr (inl e)))))))))) ↦ ap is_still e
      | inr (inr (inr (inr (inr (inr (inr (inr (inr (inr (inr (inl e))))))))))) ↦ ap is_still e
      | inr (inr (inr (inr (inr (inr (inr (inr (inr (inr (inr (inr e))))))))))) ↦ ap is_still e
    ] in
    told_alone c.args.site.now c.untouching-in-Compute.result _ false false (still_seen c.args.site.now c.of.result (sym (c.of.ensures ∙ ap action_of c.inst.ensures)) still) refl c.inv-in-Compute.ensures
    c.untouching-in-Compute.ensures
