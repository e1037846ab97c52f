-- An effect that was worked out, with the row in which its value lies.
use Rattle.std.specs.Prelude.{◌≡◌, ℕ, map, Option, Some, None, Result, Ok, Err, ⊤}
use Rattle.std.specs.List.{AllByRecursion}
use Rattle.std.specs.Option.{option_map}
use Rattle.spv_base.specs.declared.causes.Fail.{Fail}
use Rattle.spv_base.specs.declared.causes.Fail.TheVariants.{Refused, NoMemory}
use Rattle.spv_base.specs.declared.instructions.Inst.{Inst}
use Rattle.spv_base.specs.declared.values.Pointer.{Pointer as Reference}
use Rattle.spv_base.specs.declared.values.Value.{Value, Ptr, Scalar, out-Value}
use Rattle.spv_valid.specs.Below.spv_types.specs.Shapes.{pointer_in}
use Rattle.spv_mem.specs.Memory.{load_of}
use Rattle.spv_state.specs.Program.{Program}
use Rattle.spv_state.specs.State.{State}
use Rattle.spv_sites.specs.Effects as spec
use Rattle.spv_sites.specs.Fits.{Fits}
use Rattle.spv_sites.specs.declared.causes.Cause.{Cause}
use Rattle.spv_sites.specs.declared.effects.Control.{Control}
use Rattle.spv_sites.specs.declared.effects.Control.TheVariants.{Next, Jump, Enter, Leave, Wait}
use Rattle.spv_sites.specs.declared.effects.Effect.{Effect}
use Rattle.spv_sites.specs.declared.effects.Gain.{Gain}
use Rattle.spv_sites.specs.declared.effects.Gain.TheVariants.{Nothing, Row, Pointer, Handed}
use Rattle.spv_sites.specs.declared.effects.PhiValue.{PhiValue}
use Rattle.spv_sites.specs.declared.effects.Taken.{Taken}
use Rattle.spv_sites.specs.declared.effects.Taken.TheVariants.{Value as Data, Pointer as Place}

abbrev pub gained : Gain → Value → Option Value
gained Nothing v = None
gained Row v = Some v
gained (Pointer b) v = Some (Ptr b.value)
gained (Handed c) v = Some (Scalar c)

abbrev pub taken : Taken → Value
taken (Data row) = row
taken (Place q) = Ptr q

abbrev pub phi_value : PhiValue → ℕ × Value
phi_value p = (p.id, taken p.value)

abbrev pub gone : Control → Value → spec.Control
gone Next v = spec.Next
gone (Jump block phis) v = spec.Jump block (map phi_value phis.items)
gone (Enter b) v = spec.Enter b.value.frame b.value.locals
gone (Leave gain) v = spec.Leave (gained gain v)
gone Wait v = spec.Wait

abbrev pub shown : Effect → Value → spec.Effect
shown e v = record { store = option_map (λ q. (q, v)) e.store; result = gained e.gain v; control = gone e.control v }

-- the effect that is due, or why it faults; or memory ran out
abbrev pub IsDue : Result spec.Effect Cause → Value → Result Effect (Fail Cause) → Type 0
IsDue due v (Ok e) = due ≡ Ok (shown e v)
IsDue due v (Err (Refused cause)) = due ≡ Err cause
IsDue due v (Err NoMemory) = ⊤

abbrev pub PlannedFits : Program → State → ℕ → Inst → Value → Result Effect (Fail Cause) → Type 0
PlannedFits p s i d v (Ok e) = Fits p s i d (shown e v)
PlannedFits p s i d v (Err error) = ⊤

-- What a register takes from the row is no pointer, and the store hasn't changed the row before; or it takes the scalar that was there.
abbrev pub IsGained : State → ℕ → Option Reference → Gain → Value → Type 0
IsGained s i store Nothing v = ⊤
IsGained s i None Row v = pointer_in (out-Value v) ≡ None
IsGained s i (Some q) Row v = ⊥
IsGained s i store (Pointer b) v = ⊤
IsGained s i None (Handed c) v = ⊥
IsGained s i (Some q) (Handed c) v = load_of s.memory i q ≡ Some (Scalar c)

-- a row is that of a value which is no pointer
abbrev pub IsPlain : Taken → Type 0
IsPlain (Data row) = pointer_in (out-Value row) ≡ None
IsPlain (Place q) = ⊤

-- What a phi takes from a row is no pointer. What a function gives is taken alone.
abbrev pub IsGiven : State → ℕ → Control → Option Reference → Gain → Value → Type 0
IsGiven s i (Jump block phis) store gain v = AllByRecursion (λ (p : PhiValue). IsPlain p.value) phis.items
IsGiven s i (Leave given) store gain v = (store ≡ None) × (gain ≡ Nothing) × IsGained s i None given v
IsGiven s i _ store gain v = ⊤

-- the row is taken once
abbrev pub IsTaken : State → ℕ → Effect → Value → Type 0
IsTaken s i e v = IsGained s i e.store e.gain v × IsGiven s i e.control e.store e.gain v
