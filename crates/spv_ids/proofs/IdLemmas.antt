-- What ids stand for, as code finds it.
use Rattle.std.proofs.Common.{◌≡◌, ◌∙◌, ℕ, Option, Some, None, Result, Ok, Err, IfOk, refl, sym, ap}
use Rattle.std.specs.Option.{option_and_then, option_map}
use Rattle.spv_base.specs.declared.values.Value.{Value}
use Rattle.spv_frame.specs.Frames.{Held as Frame}
use Rattle.spv_operands.specs.Operands.{shown}
use Rattle.spv_operands.specs.Values.{value_by, value_of}
use Rattle.spv_operands.specs.declared.operands.Operand.{Operand}
use Rattle.spv_state.specs.Program.{Program}
use Rattle.spv_state.specs.State.{State, frames_of}
use Rattle.spv_valid.specs.Acceptance.{Accepted}
use Rattle.spv_valid.specs.Meanings.{meaning_of}
use Rattle.spv_valid.specs.declared.meanings.Meaning.{Meaning}
use Rattle.spv_valid.specs.declared.meanings.Meaning.TheVariants.{TypeDefinition, Constant, Undefined, ModuleVariable, Variable, Register, Label, Function, Other}
use Rattle.spv_ids.specs.Ids.{frame_value, id_value, value_in}

-- ---- in a frame

value_named : (a : Accepted) (f : Frame) (depth id : ℕ) (m : Meaning) → ((ty : ℕ) → m ≡ Undefined ty → ⊥) → value_by a f depth id m ≡ frame_value a f depth id m
value_named a f depth id TypeDefinition other = refl
value_named a f depth id Constant other = refl
value_named a f depth id (Undefined ty) other = absurd (other ty refl)
value_named a f depth id ModuleVariable other = refl
value_named a f depth id (Variable function) other = refl
value_named a f depth id (Register function) other = refl
value_named a f depth id (Label function) other = refl
value_named a f depth id Function other = refl
value_named a f depth id Other other = refl

pub frame_named : (a : Accepted) (f : Frame) (depth id : ℕ) (m : Meaning) → meaning_of a.insts id ≡ Some m → ((ty : ℕ) → m ≡ Undefined ty → ⊥) → value_of a f depth id ≡ frame_value a f depth id m
unfolding value_of
frame_named a f depth id m meant other = ap (option_and_then (value_by a f depth id)) meant ∙ value_named a f depth id m other

-- an answer, where what it is of is the same
pub ok_same : {E : Type 0} (r : Result (Option Operand) E) (v w : Option Value) → v ≡ w → IfOk r (λ o. option_map shown o ≡ v) → IfOk r (λ o. option_map shown o ≡ w)
ok_same (Ok o) v w same h = h ∙ same
ok_same (Err e) v w same h = h

-- ---- in a state

module _ (p : Program) (s : State) (i : ℕ) (depth : Option ℕ) (id : ℕ) (a : Accepted) (same : a ≡ p.accepted) where
  pub nothing_found : meaning_of a.insts id ≡ None → None ≡ id_value p s i depth id
  unfolding id_value
  nothing_found none =
      let here : meaning_of p.accepted.insts id ≡ None = ap (λ (x : Accepted). meaning_of x.insts id) (sym same) ∙ none in
      sym (ap (option_and_then (value_in p.accepted (frames_of s i) depth id)) here)

  pub value_found : (m : Meaning) → meaning_of a.insts id ≡ Some m → value_in a (frames_of s i) depth id m ≡ id_value p s i depth id
  unfolding id_value
  value_found m meant =
      let here : meaning_of p.accepted.insts id ≡ Some m = ap (λ (x : Accepted). meaning_of x.insts id) (sym same) ∙ meant in
      ap (λ (x : Accepted). value_in x (frames_of s i) depth id m) same ∙ sym (ap (option_and_then (value_in p.accepted (frames_of s i) depth id)) here)
