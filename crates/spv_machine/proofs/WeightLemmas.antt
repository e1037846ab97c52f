-- How much the next event of an invocation weighs.
use Rattle.std.proofs.Common.{◌≡◌, ◌∙◌, ◌+◌, ℕ, Some, Result, Ok, Err, IfOk, slice_get, ap}
use Rattle.spv_base.specs.declared.causes.Fail.{Fail}
use Rattle.spv_base.specs.declared.instructions.Inst.{Inst}
use Rattle.spv_base.specs.declared.values.Value.{Value}
use Rattle.spv_frame.specs.Frames.{Held as Frame}
use Rattle.spv_statuses.specs.declared.invocations.Status.TheVariants.{Arrived, Passed, Finished}
use Rattle.spv_sites.specs.Instructions.{effect_of}
use Rattle.spv_sites.specs.Planned.{IsDue, shown}
use Rattle.spv_sites.specs.declared.causes.Cause.{Cause}
use Rattle.spv_sites.specs.declared.effects.Effect.{Effect}
use Rattle.spv_state.specs.Program.{Program}
use Rattle.spv_state.specs.State.{State, top_of}
use Rattle.spv_machine.specs.Reached.{IsReached}
use Rattle.spv_machine.specs.Step.{go_on}
use Rattle.spv_machine.specs.Weights.{effect_weight, events_before, frame_weight, inst_weight, result_weight, status_weight, weight_of}

pub reached_weight : (p : Program) (s : State) (i : ℕ) (d : Inst) (r : IsReached p s i d) → weight_of p s i ≡ result_weight p s i d (effect_of p s i r.frame d)
unfolding weight_of
reached_weight p s i d r = ap (status_weight p s i) r.ready ∙ ap (frame_weight p s i) r.top ∙ ap (inst_weight p s i r.frame) r.at

pub weight_by : (p : Program) (s : State) (i : ℕ) (d : Inst) (f : Frame) (v : Value) (result : Result Effect (Fail Cause)) → IsReached p s i d → top_of s i ≡ Some f → IsDue (effect_of p s i f d) v result
    → IfOk result (λ (e : Effect). weight_of p s i ≡ effect_weight p s i d (shown e v))
weight_by p s i d f v (Ok e) r is due =
    let same : r.frame ≡ f = let own = r.top in cc in
    reached_weight p s i d r ∙ ap (λ (x : Frame). result_weight p s i d (effect_of p s i x d)) same ∙ ap (result_weight p s i d) due
weight_by p s i d f v (Err error) r is due = tt

pub passed_weight : (p : Program) (s : State) (i : ℕ) → slice_get s.statuses.list i ≡ Some Passed → weight_of p s i ≡ 4 + events_before p.accepted (go_on p.accepted i s) i
unfolding weight_of
passed_weight p s i status = ap (status_weight p s i) status

pub arrived_weight : (p : Program) (s : State) (i word : ℕ) → slice_get s.statuses.list i ≡ Some (Arrived word) → weight_of p s i ≡ 4
unfolding weight_of
arrived_weight p s i word status = ap (status_weight p s i) status

pub finished_weight : (p : Program) (s : State) (i : ℕ) → slice_get s.statuses.list i ≡ Some Finished → weight_of p s i ≡ 4
unfolding weight_of
finished_weight p s i status = ap (status_weight p s i) status
