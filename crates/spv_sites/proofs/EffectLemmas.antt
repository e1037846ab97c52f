-- What instructions that compute do, by what their computations give.
use Rattle.std.proofs.Common.{◌≡◌, ◌⊎◌, ◌∙◌, inl, inr, ℕ, Option, Some, None, Result, Ok, Err, ok_or, refl, sym, ap, subst}
use Rattle.std.specs.List.{AllByRecursion}
use Rattle.std.specs.Option.{option_and_then, option_map, option_or, unwrap_or}
use Rattle.spv_base.specs.Entries.{reads}
use Rattle.spv_base.specs.declared.causes.Fail.{Fail}
use Rattle.spv_base.specs.declared.causes.Fail.TheVariants.{Refused, NoMemory}
use Rattle.spv_base.specs.declared.instructions.Inst.{Inst}
use Rattle.spv_base.specs.declared.values.Value.{Value, Ptr, out-Value}
use Rattle.spv_base.specs.declared.values.Value.TheOpen.{Value-F}
use Rattle.spv_valid.specs.Below.spv_ops.specs.Steps.{◌>>=◌}
use Rattle.spv_valid.specs.Below.spv_types.specs.Laws.{AreSound}
use Rattle.spv_valid.specs.Below.spv_types.specs.Shapes.{pointer_in}
use Rattle.spv_valid.specs.Acceptance.{Accepted}
use Rattle.spv_operands.proofs.Exports.{data_plain}
use Rattle.spv_base.proofs.Exports.{none_of, out_pointer, reads_each}
use Rattle.spv_state.specs.Below.spv_results.specs.Computations.{computation_of}
use Rattle.spv_state.specs.Below.spv_results.specs.Operands.{IsResult}
use Rattle.spv_state.specs.Below.spv_results.specs.Results.{result_by, result_of}
use Rattle.spv_state.specs.Below.spv_results.specs.declared.computations.Computation.{Computation}
use Rattle.spv_state.specs.Actions.{action_of, atomic_op, action_rows}
use Rattle.spv_sites.specs.Computing.{compute_effect}
use Rattle.spv_sites.specs.Effects.{gives}
use Rattle.spv_sites.specs.Instructions.{effect_of, row}
use Rattle.spv_sites.specs.Fits.{LevelFits, ResultFits}
use Rattle.spv_sites.specs.Planned.{IsDue, IsTaken, gained, shown}
use Rattle.spv_sites.specs.Sites.{Computes, IsGain, Site, accepted, due, values}
use Rattle.spv_state.specs.declared.actions.Action.{Action}
use Rattle.spv_state.specs.declared.actions.Action.TheVariants.{Compute, Select, Load, Store, CopyMemory, Chain, PtrChain, PtrEqual, PtrNotEqual, ArrayLength, Branch, BranchConditional, Switch, Call, Return, ReturnValue, Unreachable, ControlBarrier, MemoryBarrier, Atomic}
use Rattle.spv_state.specs.declared.actions.AtomicOp.{AtomicOp}
use Rattle.spv_sites.specs.declared.causes.Cause.{Cause}
use Rattle.spv_sites.specs.declared.causes.Cause.TheVariants.{NoValue}
use Rattle.spv_sites.specs.declared.effects.Control.TheVariants.{Next}
use Rattle.spv_sites.specs.declared.effects.Effect.{Effect}
use Rattle.spv_sites.specs.declared.effects.Gain.{Gain}
use Rattle.spv_sites.specs.declared.effects.Gain.TheVariants.{Nothing, Row, Pointer, Handed}

-- ---- actions

-- what an instruction of an opcode does that is neither an atomic nor computes
abbrev IsNamed : ℕ → Action → Type 0
IsNamed op Compute = ⊥
IsNamed op Select = op ≡ 169
IsNamed op Load = op ≡ 61
IsNamed op Store = op ≡ 62
IsNamed op CopyMemory = op ≡ 63
IsNamed op Chain = (op ≡ 65) ⊎ (op ≡ 66)
IsNamed op PtrChain = op ≡ 67
IsNamed op PtrEqual = op ≡ 401
IsNamed op PtrNotEqual = op ≡ 402
IsNamed op ArrayLength = op ≡ 68
IsNamed op Branch = op ≡ 249
IsNamed op BranchConditional = op ≡ 250
IsNamed op Switch = op ≡ 251
IsNamed op Call = op ≡ 57
IsNamed op Return = op ≡ 253
IsNamed op ReturnValue = op ≡ 254
IsNamed op Unreachable = op ≡ 255
IsNamed op ControlBarrier = op ≡ 224
IsNamed op MemoryBarrier = op ≡ 225
IsNamed op (Atomic operation) = ⊥

named_are : AllByRecursion (λ (e : ℕ × Action). IsNamed e.0 e.1) action_rows
named_are =
    (refl, (refl, (refl, (refl, (inl refl, (inr refl, (refl, (refl, (refl, (refl, (refl, (refl, (refl, (refl, (refl, (refl, (refl, (refl, (refl, tt)))))))))))))))))))

-- what an instruction is that does something
abbrev pub IsActing : Inst → Action → Type 0
IsActing i Compute = (reads i.op action_rows ≡ None) × (atomic_op i.op ≡ None)
IsActing i Select = i.op ≡ 169
IsActing i Load = i.op ≡ 61
IsActing i Store = i.op ≡ 62
IsActing i CopyMemory = i.op ≡ 63
IsActing i Chain = (i.op ≡ 65) ⊎ (i.op ≡ 66)
IsActing i PtrChain = i.op ≡ 67
IsActing i PtrEqual = i.op ≡ 401
IsActing i PtrNotEqual = i.op ≡ 402
IsActing i ArrayLength = i.op ≡ 68
IsActing i Branch = i.op ≡ 249
IsActing i BranchConditional = i.op ≡ 250
IsActing i Switch = i.op ≡ 251
IsActing i Call = i.op ≡ 57
IsActing i Return = i.op ≡ 253
IsActing i ReturnValue = i.op ≡ 254
IsActing i Unreachable = i.op ≡ 255
IsActing i ControlBarrier = i.op ≡ 224
IsActing i MemoryBarrier = i.op ≡ 225
IsActing i (Atomic operation) = atomic_op i.op ≡ Some operation

named_acts : (i : Inst) (x : Action) → IsNamed i.op x → IsActing i x
named_acts i Compute h = absurd h
named_acts i Select h = h
named_acts i Load h = h
named_acts i Store h = h
named_acts i CopyMemory h = h
named_acts i Chain h = h
named_acts i PtrChain h = h
named_acts i PtrEqual h = h
named_acts i PtrNotEqual h = h
named_acts i ArrayLength h = h
named_acts i Branch h = h
named_acts i BranchConditional h = h
named_acts i Switch h = h
named_acts i Call h = h
named_acts i Return h = h
named_acts i ReturnValue h = h
named_acts i Unreachable h = h
named_acts i ControlBarrier h = h
named_acts i MemoryBarrier h = h
named_acts i (Atomic operation) h = absurd h

pub acts : (i : Inst) → IsActing i (action_of i)
unfolding action_of
acts i = by_read (reads i.op action_rows) refl (atomic_op i.op) refl
  where
    by_read : (o : Option Action) → reads i.op action_rows ≡ o → (q : Option AtomicOp) → atomic_op i.op ≡ q → IsActing i (unwrap_or (option_or o (option_map Atomic q)) Compute)
    by_read None e None a = (e, a)
    by_read None e (Some operation) a = a
    by_read (Some x) e q a = named_acts i x (reads_each IsNamed i.op x action_rows named_are e)

-- what an instruction is, by its action
pub acting : (i : Inst) (x : Action) → action_of i ≡ x → IsActing i x
acting i x is = subst (IsActing i) is (acts i)

pub loading : (i : Inst) → action_of i ≡ Load → i.op ≡ 61
loading i is = acting i Load is

pub storing : (i : Inst) → action_of i ≡ Store → i.op ≡ 62
storing i is = acting i Store is

-- what an instruction does, by its action
pub due_by : (x : Site) (b : Action) → action_of x.inst ≡ b → due x ≡ row x.program x.state x.inv x.frame x.inst b
unfolding effect_of
due_by x b is = ap (row x.program x.state x.inv x.frame x.inst) is

-- ---- what a computation gives

pub result_is : (x : Site) (c : Computation) → computation_of x.inst ≡ Some c → result_of (accepted x) x.inst (values x) ≡ result_by (accepted x) x.inst (values x) c
unfolding result_of
result_is x c is = ap (option_and_then (result_by (accepted x) x.inst (values x))) is

-- where what is due is what the computation gives
abbrev pub IsComputationDue : Site → Type 0
IsComputationDue x = due x ≡ compute_effect x.program x.state x.inv x.frame x.inst

pub compute_due : (x : Site) (c : Computation) (o : Option Value) → IsComputationDue x → computation_of x.inst ≡ Some c → result_by (accepted x) x.inst (values x) c ≡ o → due x ≡ (ok_or o NoValue >>= (λ v. Ok (gives v)))
compute_due x c o is has result = is ∙ ap (λ (p : Option Value). ok_or p NoValue >>= (λ v. Ok (gives v))) (result_is x c has ∙ result)

-- the effect of a result
abbrev pub planned : Gain → Effect
planned gain = record { store = None; gain = gain; control = Next }

pub computed_due : (x : Site) (c : Computation) (gain : Gain) (v : Value) → IsComputationDue x → computation_of x.inst ≡ Some c → Computes x c v (Ok gain) → due x ≡ Ok (shown (planned gain) v)
computed_due x c Nothing v is has h = absurd h.1
computed_due x c Row v is has h = compute_due x c (Some v) is has h.0
computed_due x c (Pointer b) v is has h = compute_due x c (Some (Ptr b.value)) is has h.0
computed_due x c (Handed l) v is has h = absurd h.1

pub computed_fault : (x : Site) (c : Computation) (v : Value) (r : Result Effect (Fail Cause)) (e : Fail Cause) → IsComputationDue x → computation_of x.inst ≡ Some c → Computes x c v (Err e) → r ≡ Err e → IsDue (due x) v r
computed_fault x c v r (Refused cause) is has h same =
    subst (λ (s : Result Effect (Fail Cause)). IsDue (due x) v s) (sym same) (compute_due x c None is has h.0 ∙ ap (λ (k : Cause). Err k) (sym h.1))
computed_fault x c v r NoMemory is has h same = subst (λ (s : Result Effect (Fail Cause)). IsDue (due x) v s) (sym same) tt

-- ---- what it fits

-- a result is no pointer, and has the instruction's type
pub result_plain : (a : Accepted) (d : Inst) (v : Value) → AreSound a.types → IsResult a d v → pointer_in (out-Value v) ≡ None
result_plain a d v sound h = none_of (pointer_in (out-Value v)) (data_plain a.types sound d.ty v h)

pub result_fits : (a : Accepted) (d : Inst) (v : Value) → AreSound a.types → IsResult a d v → LevelFits a d.ty v (out-Value v)
result_fits a d v sound h = by_level (out-Value v) (result_plain a d v sound h)
  where
    by_level : (l : Value-F Value) → pointer_in l ≡ None → LevelFits a d.ty v l
    by_level (Value-F.Scalar c) plain = h
    by_level (Value-F.List vs) plain = h
    by_level (Value-F.Ptr q) plain = absurd (cc)

pub gain_fits : (x : Site) (gain : Gain) (v : Value) → AreSound (accepted x).types → IsGain x gain v → ResultFits (accepted x) x.inst (gained gain v)
gain_fits x Nothing v sound h = absurd h
gain_fits x Row v sound h = result_fits (accepted x) x.inst v sound h
gain_fits x (Pointer b) v sound h = rw (out_pointer b.value) h.0
gain_fits x (Handed c) v sound h = absurd h

pub gain_taken : (x : Site) (gain : Gain) (v : Value) → AreSound (accepted x).types → IsGain x gain v → IsTaken x.state x.inv (planned gain) v
gain_taken x Nothing v sound h = absurd h
gain_taken x Row v sound h = (result_plain (accepted x) x.inst v sound h, tt)
gain_taken x (Pointer b) v sound h = (tt, tt)
gain_taken x (Handed c) v sound h = absurd h
