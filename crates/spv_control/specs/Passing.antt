-- What acceptance gives of the arguments of a call, and what they are worked out by. No definition of a step speaks of it.
use Rattle.std.specs.Prelude.{◌≡◌, ◌<◌, ℕ, suc, true, filter, List, length, slice_get, Some, None, Result, Ok}
use Rattle.std.specs.Option.{is_some}
use Rattle.spv_base.specs.declared.instructions.Inst.{Inst}
use Rattle.spv_base.specs.declared.values.Value.{Value as Whole}
use Rattle.spv_ops.specs.Steps.{◌>>=◌}
use Rattle.spv_types.specs.Rows.{leaves}
use Rattle.spv_bodies.specs.Context.{type_at}
use Rattle.spv_valid.specs.Acceptance.{Accepted}
use Rattle.spv_frame.specs.declared.slots.Place.{Place}
use Rattle.spv_frame.specs.declared.slots.Place.TheVariants.{Value, Pointer}
use Rattle.spv_frame.specs.Frames.{Held as Frame}
use Rattle.spv_frame.specs.Registers.{Planned, sizes}
use Rattle.spv_plans.specs.Plans.{id_at}
use Rattle.spv_plans.specs.Registers.{is_parameter, registers_of}
use Rattle.spv_operands.specs.Operands.{pointer_of}
use Rattle.spv_results.specs.Operands.{known}
use Rattle.spv_sites.specs.Calls.{arguments, called, parameters_of}
use Rattle.spv_sites.specs.Sites.{Site, accepted}
use Rattle.spv_sites.specs.declared.causes.Cause.{Cause}

-- the OpFunctionParameters of a function
abbrev pub parameters_in : Accepted → ℕ → List Inst
parameters_in a function = filter is_parameter (registers_of a.types a.insts function)

-- each argument of a call has the type of its parameter
abbrev pub Passes : Accepted → Inst → ℕ → Type 0
Passes a d function = (n : ℕ) (i : Inst) → slice_get (parameters_in a function) n ≡ Some i → type_at (known a) d (suc n) ≡ Some i.ty

-- the register at a place has an id
abbrev pub IsParameter : Planned → Place → ℕ → Type 0
IsParameter p place id = id_at p.values p.pointers place ≡ Some id

-- a value for the register at a place: one of as many cells, or a pointer
abbrev pub Suits : Planned → Place → Whole → Type 0
Suits p (Value n) v = (pointer_of v ≡ None) × (slice_get (sizes p.values) n ≡ Some (length (leaves v)))
Suits p (Pointer n) v = (is_some (pointer_of v) ≡ true) × (n < length p.pointers)

-- the frame that a call begins, or an argument has no value
abbrev pub frame_due : Site → ℕ → Result Frame Cause
frame_due x function = arguments x.program x.state x.inv x.frame x.inst 1 (parameters_of (accepted x) function) >>= (λ rs. Ok (called (accepted x) function rs))
