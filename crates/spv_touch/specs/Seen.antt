-- What calls find at the instruction that is due. No definition of what an event touches speaks of it.
use Rattle.std.specs.Prelude.{◌≡◌, ℕ, Bool, false, List, [], Option, Some, None, Result, Ok, Err}
use Rattle.std.specs.Option.{option_and_then, option_map}
use Rattle.spv_base.specs.declared.values.Pointer.{Pointer}
use Rattle.spv_base.specs.declared.values.Value.{Value, out-Value}
use Rattle.spv_types.specs.Shapes.{pointer_in}
use Rattle.spv_mem.specs.Memory.{load_of}
use Rattle.spv_order.specs.declared.events.Event.{Event}
use Rattle.spv_order.specs.declared.events.Leaves.{Leaves}
use Rattle.spv_state.specs.Program.{Program}
use Rattle.spv_state.specs.State.{State}
use Rattle.spv_sites.specs.Effects.{Effect, Leave}
use Rattle.spv_sites.specs.Sites.{Site, due, values}
use Rattle.spv_sites.specs.declared.causes.Cause.{Cause}
use Rattle.spv_touch.specs.Ranges.{leaves_at}
use Rattle.spv_touch.specs.Touching.{arrives_by, leaves_below, read_pointer}

-- what is told of an event
pub record Seen : Type 0 where
  pub reads : List Leaves
  pub writes : List Leaves
  pub arrives : Bool

-- one that touches nothing, and may arrive
abbrev pub untouching : Bool → Seen
untouching arrives = record { reads = []; writes = []; arrives = arrives }

-- it faults
abbrev pub still : Seen
still = untouching false

-- what is told of an effect that reads through a pointer, and of a fault
abbrev pub seen_by : Program → State → ℕ → Option Pointer → Result Effect Cause → Seen
seen_by p s i from (Ok e) =
    record { reads = leaves_below s from; writes = leaves_below s (option_map (λ (x : Pointer × Value). x.0) e.store); arrives = arrives_by p s i e.control }
seen_by p s i from (Err cause) = still

abbrev pub seen : Site → Seen
seen x = seen_by x.program x.state x.inv (read_pointer x.program x.state x.inv x.frame x.inst) (due x)

pub record Tells (i : ℕ) (told : Seen) (e : Event) : Type 0 where
  pub invocation : e.invocation ≡ i
  pub arrives : e.arrives ≡ told.arrives
  pub reads : e.reads.items ≡ told.reads
  pub writes : e.writes.items ≡ told.writes

-- ---- by its parts

-- the leaves of the part that a pointer names, if it names one
abbrev pub part_leaves : Site → Pointer → Option (List Leaves)
part_leaves x q = option_map (λ (w : Value). leaves_at x.state.memory q) (load_of x.state.memory x.inv q)

-- those of the part that an operand names
abbrev pub operand_leaves : Site → ℕ → Option (List Leaves)
operand_leaves x n = option_and_then (part_leaves x) (option_and_then (λ v. pointer_in (out-Value v)) (values x n))

-- an event that reads and writes these, and touches nothing where one of them isn't there
abbrev pub accessing : Option (List Leaves) → Option (List Leaves) → Seen
accessing (Some reads) (Some writes) = record { reads = reads; writes = writes; arrives = false }
accessing (Some reads) None = still
accessing None writes = still

-- a return is one of the entry point, and finished invocations count as arrived
abbrev pub ends : Program → State → ℕ → Bool
ends p s i = arrives_by p s i (Leave None)
