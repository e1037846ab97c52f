-- What an effect that was worked out has, so that it can be done without failing and leaves a sound state. No definition of a step speaks of
-- it: these are the conditions of calls inside a step.
use Rattle.std.specs.Prelude.{◌≡◌, ℕ, ◌-◌, ◌++◌, List, [], ◌∷◌, length, Option, Some, None, IsSome, ⊤}
use Rattle.std.specs.List.{AllByRecursion}
use Rattle.spv_base.specs.Entries.{reads}
use Rattle.spv_base.specs.Variables.{Roots}
use Rattle.spv_base.specs.declared.instructions.Inst.{Inst}
use Rattle.spv_base.specs.declared.values.Pointer.{Pointer}
use Rattle.spv_base.specs.declared.values.Value.{Value, out-Value}
use Rattle.spv_base.specs.declared.values.Value.TheOpen.{Value-F}
use Rattle.spv_index.specs.Definitions.{result_type}
use Rattle.spv_valid.specs.Below.spv_types.specs.Rows.{no_roots}
use Rattle.spv_valid.specs.Below.spv_types.specs.Shapes.{HasShape, pointer_in}
use Rattle.spv_valid.specs.Below.spv_cfg.specs.Laws.{IsEntered}
use Rattle.spv_mem.specs.Memory.{AreVariables, MayStore, load_of}
use Rattle.spv_frame.specs.Frames.{Held as Frame}
use Rattle.spv_operands.specs.Shapes.{target_in}
use Rattle.spv_valid.specs.Acceptance.{Accepted}
use Rattle.spv_state.specs.Below.spv_initial.specs.Start.{variables}
use Rattle.spv_state.specs.Below.spv_initial.specs.Variables.{targets_of}
use Rattle.spv_state.specs.Program.{Program}
use Rattle.spv_state.specs.Roots.{IsRoot, IsRooted}
use Rattle.spv_state.specs.Sound.{HasVariables, IsBarrier, IsCallOf, IsSoundFrame, StandsIn}
use Rattle.spv_state.specs.State.{State, frames_of}
use Rattle.spv_sites.specs.Effects.{Control, Effect, Next, Jump, Enter, Leave, Wait}

-- a part that is there, and a value of its type
abbrev pub StoreFits : State → ℕ → Option (Pointer × Value) → Type 0
StoreFits s i None = ⊤
StoreFits s i (Some e) = IsSome (load_of s.memory i e.0) × ∥ MayStore s.memory i e.0 e.1 ∥₁

-- a value of a type: a pointer leads to where this points, in a variable of the type's storage class
abbrev pub LevelFits : Accepted → ℕ → Value → Value-F Value → Type 0
LevelFits a ty v (Value-F.Scalar c) = HasShape a.types no_roots ty v
LevelFits a ty v (Value-F.List vs) = HasShape a.types no_roots ty v
LevelFits a ty v (Value-F.Ptr q) = HasShape a.types (target_in a ty) ty v

abbrev pub ResultFits : Accepted → Inst → Option Value → Type 0
ResultFits a d None = ⊤
ResultFits a d (Some v) = LevelFits a d.ty v (out-Value v)

-- a value of the type of an id
abbrev pub IsOfType : Accepted → ℕ → Value → Type 0
IsOfType a id v = (ty : ℕ) → result_type a.insts id ≡ Some ty → LevelFits a ty v (out-Value v)

-- a block of the instruction's function that has an executable to begin with, and values of the types of its phis
pub record JumpFits (a : Accepted) (d : Inst) (block : ℕ) (phis : List (ℕ × Value)) : Type 0 where
  pub entered : (function : ℕ) → StandsIn a function d.word → IsEntered a.insts a.flow function block
  pub values : AllByRecursion (λ (r : ℕ × Value). IsOfType a r.0 r.1) phis

-- a frame of the function that the instruction calls, at its first executable, with its variables
pub record EnterFits (a : Accepted) (d : Inst) (frame : Frame) (es : Roots) : Type 0 where
  pub call : IsCallOf a d.word frame.plan.function
  pub sound : IsSoundFrame a frame
  pub locals : HasVariables a frame es
  pub values : AreVariables a.types (targets_of (variables a)) es

-- what a function gives has the type that it returns
abbrev pub LeaveFits : Accepted → Inst → Option Value → Type 0
LeaveFits a d None = ⊤
LeaveFits a d (Some v) = (function : ℕ) → StandsIn a function d.word → IsOfType a function v

abbrev pub ControlFits : Accepted → Inst → Control → Type 0
-- an executable stands behind it in its block
ControlFits a d Next = (word : ℕ) × (reads d.word a.flow.nexts ≡ Some (Some word))
ControlFits a d (Jump block phis) = JumpFits a d block phis
ControlFits a d (Enter frame es) = EnterFits a d frame es
ControlFits a d (Leave v) = LeaveFits a d v
ControlFits a d Wait = IsBarrier a d.word

-- a pointer that a register takes names a variable that is there for the top one of some frames
abbrev pub ResultRooted : Accepted → List Frame → Option Value → Type 0
ResultRooted a frames None = ⊤
ResultRooted a frames (Some v) = (q : Pointer) → pointer_in (out-Value v) ≡ Some q → IsRoot a frames (length frames - 1) q.root

-- and so does each that a phi takes, and each that is kept in the frame of a function which is called, above them; what a function gives names
-- a variable outside functions, which is there whatever frames there are
abbrev pub ControlRooted : Accepted → List Frame → Control → Type 0
ControlRooted a frames Next = ⊤
ControlRooted a frames (Jump block phis) = AllByRecursion (λ (r : ℕ × Value). ResultRooted a frames (Some r.1)) phis
ControlRooted a frames (Enter frame es) = IsRooted a (frames ++ frame ∷ []) (length frames) frame
ControlRooted a frames (Leave v) = ResultRooted a [] v
ControlRooted a frames Wait = ⊤

pub record Fits (p : Program) (s : State) (i : ℕ) (d : Inst) (e : Effect) : Type 0 where
  pub store : StoreFits s i e.store
  pub result : ResultFits p.accepted d e.result
  pub control : ControlFits p.accepted d e.control
  pub rooted : ResultRooted p.accepted (frames_of s i) e.result
  pub passed : ControlRooted p.accepted (frames_of s i) e.control
