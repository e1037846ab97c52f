-- Calls (SPIR-V 1.6 section 3.42.9, OpFunctionCall), and returns with a value (section 3.42.17, OpReturnValue).
use Rattle.std.specs.Prelude.{ℕ, suc, List, [], ◌∷◌, length, map, filter, Some, Result, Ok, unwrap_or}
use Rattle.spv_base.specs.declared.instructions.Inst.{Inst}
use Rattle.spv_base.specs.declared.values.Value.{Value}
use Rattle.spv_valid.specs.Below.spv_ops.specs.Steps.{◌>>=◌}
use Rattle.spv_index.specs.Operands.{id_operand}
use Rattle.spv_frame.specs.Frames.{Held as Frame, fresh}
use Rattle.spv_state.specs.Below.spv_plans.specs.Plans.{plan_of}
use Rattle.spv_state.specs.Below.spv_plans.specs.Registers.{is_parameter, registers_of}
use Rattle.spv_valid.specs.Acceptance.{Accepted}
use Rattle.spv_state.specs.Events.{passed}
use Rattle.spv_state.specs.Program.{Program}
use Rattle.spv_state.specs.Start.{frame_roots}
use Rattle.spv_state.specs.State.{State, frames_of, with_registers}
use Rattle.spv_sites.specs.Effects.{Effect, Enter, Leave, goes, operand}
use Rattle.spv_sites.specs.declared.causes.Cause.{Cause}

-- the function that a call names, which every OpFunctionCall of an accepted module does (instructions_keep_their_rules of spv_bodies)
abbrev pub callee : Inst → ℕ
callee d = unwrap_or (id_operand d 0) 0

-- the parameters of a function, in order
abbrev pub parameters_of : Accepted → ℕ → List ℕ
parameters_of a function = map (λ (i : Inst). i.id) (filter is_parameter (registers_of a.types a.insts function))

-- parameters, of which the first takes the argument with a number, each with its argument; F4 where one has no value
abbrev pub arguments : Program → State → ℕ → Frame → Inst → ℕ → List ℕ → Result (List (ℕ × Value)) Cause
arguments p s i f d n [] = Ok []
arguments p s i f d n (id ∷ ids) = operand p s i f d n >>= (λ v. arguments p s i f d (suc n) ids >>= (λ rs. Ok ((id, v) ∷ rs)))

-- the frame of a function as a call begins it: at its first executable, its parameters have their arguments, no other id has a value, and no
-- event was passed so far
abbrev pub called : Accepted → ℕ → List (ℕ × Value) → Frame
called a function rs = with_registers rs (fresh (plan_of a function))

-- Into a frame of the function at a depth, with its variables as they begin. It passes the debug events before its first executable.
abbrev pub enters : Accepted → ℕ → ℕ → List (ℕ × Value) → Effect
enters a depth function rs = goes (Enter (passed a depth (called a function rs)) (frame_roots a function))

-- OpFunctionCall (function, arguments): the argument of parameter n is operand n + 1, counted from 0. The frame stands above all that the
-- invocation has.
abbrev pub call_effect : Program → State → ℕ → Frame → Inst → Result Effect Cause
call_effect p s i f d = arguments p s i f d 1 (parameters_of p.accepted (callee d)) >>= (λ rs. Ok (enters p.accepted (length (frames_of s i)) (callee d) rs))

-- OpReturnValue (value)
abbrev pub return_effect : Program → State → ℕ → Frame → Inst → Result Effect Cause
return_effect p s i f d = operand p s i f d 0 >>= (λ v. Ok (goes (Leave (Some v))))
