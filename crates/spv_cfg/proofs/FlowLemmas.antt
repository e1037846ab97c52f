-- A module in which no rule is broken.
use Rattle.std.proofs.Common.{◌≡◌, ℕ, List, [], ◌∷◌, Option, Some, None, Ok, refl, sym, ap, ◌∙◌}
use Rattle.spv_base.specs.declared.causes.Refusal.{Refusal}
use Rattle.spv_base.specs.declared.instructions.Inst.{Inst}
use Rattle.spv_index.specs.Classes.{sets_of}
use Rattle.spv_index.specs.Positions.{outside}
use Rattle.spv_base.specs.Lowest.{lower, lowest}
use Rattle.spv_cfg.specs.Layout.{layout_breaches}
use Rattle.spv_cfg.specs.Branches.{branch_breaches}
use Rattle.spv_cfg.specs.Phis.{phi_breaches}
use Rattle.spv_cfg.specs.Flow.{Flow, flow_in, flow_of, block_breaches, call_breaches, refusal, unless_refused}
use Rattle.spv_cfg.proofs.LayoutLemmas.{IsWhole}
use Rattle.spv_base.proofs.Exports.{both_empty}

pub accepted : (insts : List Inst) (block call : Option ℕ) (flow : Flow) → block ≡ lowest (block_breaches insts) → call ≡ lowest (call_breaches insts)
    → None ≡ refusal block call → flow ≡ flow_in insts → flow_of insts ≡ Ok flow
unfolding flow_of
accepted insts block call flow block_is call_is none flow_is =
    let whole : flow_of insts ≡ unless_refused (refusal block call) (flow_in insts) = rw (block_is, call_is) refl in
    whole ∙ ap (λ (r : Option Refusal). unless_refused r (flow_in insts)) (sym none) ∙ ap (λ (f : Flow). Ok f) (sym flow_is)

lowest-none : (words : List ℕ) → lowest words ≡ None → words ≡ []
lowest-none [] none = refl
lowest-none (word ∷ words) none = some (lowest words) none
  where
    some : (o : Option ℕ) → lower (Some word) o ≡ None → word ∷ words ≡ []
    some None e = cc
    some (Some other) e = cc

none_refused : (block call : Option ℕ) (due f : Flow) → unless_refused (refusal block call) due ≡ Ok f → (block ≡ None) × (call ≡ None) × (f ≡ due)
none_refused None None due f is = (refl, refl, cc)
none_refused None (Some c) due f is = absurd (cc)
none_refused (Some b) None due f is = absurd (cc)
none_refused (Some b) (Some c) due f is = absurd (cc)

-- what it means for a module to have a flow
pub record IsAccepted (insts : List Inst) (f : Flow) : Type 0 where
  pub whole : IsWhole (sets_of insts) outside insts
  pub branches : branch_breaches insts ≡ []
  pub calls : call_breaches insts ≡ []
  pub flow : f ≡ flow_in insts

pub flow_accepted : (insts : List Inst) (f : Flow) → flow_of insts ≡ Ok f → IsAccepted insts f
unfolding flow_of
flow_accepted insts f is =
    let none = none_refused (lowest (block_breaches insts)) (lowest (call_breaches insts)) (flow_in insts) f is in
    let blocks = both_empty (layout_breaches insts) _ (lowest-none (block_breaches insts) none.0) in
    let rest = both_empty (branch_breaches insts) (phi_breaches insts) blocks.1 in
    record {
      whole = blocks.0;
      branches = rest.0;
      calls = lowest-none (call_breaches insts) none.1;
      flow = none.2;
    }
