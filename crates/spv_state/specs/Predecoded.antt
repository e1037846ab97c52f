-- Instructions on values of one cell, with where these lie, as they are found once for a module.
use Rattle.std.specs.Prelude.{◌≡◌, ℕ, List, [], Option, Some, slice_get}
use Rattle.spv_base.specs.Entries.{reads}
use Rattle.spv_base.specs.declared.instructions.Inst.{Inst}
use Rattle.spv_frame.specs.Registers.{IsSlotOf}
use Rattle.spv_index.specs.Operands.{id_operand}
use Rattle.spv_plans.specs.Plans.{plan_of}
use Rattle.spv_results.specs.Computations.{computation_of}
use Rattle.spv_results.specs.declared.computations.Computation.TheVariants as computation
use Rattle.spv_valid.specs.Acceptance.{Accepted}
use Rattle.spv_state.specs.Actions.{action_of}
use Rattle.spv_state.specs.Events.{captures_before}
use Rattle.spv_state.specs.Sources.{IsName, IsSource, id_of, name_of, slot_of}
use Rattle.spv_state.specs.declared.actions.Action.TheVariants as action
use Rattle.spv_state.specs.declared.predecoded.CellSlot.{CellSlot}
use Rattle.spv_state.specs.declared.predecoded.Predecoded.{Predecoded}
use Rattle.spv_state.specs.declared.predecoded.Short.{Short}
use Rattle.spv_state.specs.declared.predecoded.Short.TheVariants.{Binary, Load, Store}
use Rattle.spv_state.specs.declared.predecoded.Source.{Source}
use Rattle.spv_state.specs.declared.predecoded.VariableName.{VariableName}

-- in the frames of a function the operand with a number lies there
pub record IsReadAt (a : Accepted) (function : ℕ) (d : Inst) (n : ℕ) (source : Source) : Type 0 where
  pub operand : id_operand d n ≡ Some (id_of source)
  pub lies : IsSource a function source

-- the operand with a number stands for this variable
pub record IsNamedAt (a : Accepted) (function : ℕ) (d : Inst) (n : ℕ) (variable : VariableName) : Type 0 where
  pub operand : id_operand d n ≡ Some (name_of variable)
  pub names : IsName a function variable

-- the register of the result, which has one cell
pub record IsResultAt (a : Accepted) (function : ℕ) (d : Inst) (slot : CellSlot) : Type 0 where
  pub lies : IsSlotOf (plan_of a function).values (slot_of slot)
  pub id : slot.id ≡ d.id

abbrev pub IsShort : Accepted → ℕ → Inst → Short → Type 0
IsShort a function d (Binary operation first second into) =
    (action_of d ≡ action.Compute) × (computation_of d ≡ Some (computation.Binary operation)) × IsReadAt a function d 0 first × IsReadAt a function d 1 second
    × IsResultAt a function d into
IsShort a function d (Load from into) = (action_of d ≡ action.Load) × IsNamedAt a function d 0 from × IsResultAt a function d into
IsShort a function d (Store to object) = (action_of d ≡ action.Store) × IsNamedAt a function d 0 to × IsReadAt a function d 1 object

-- the word of the executable behind it in its block, before which no debug instruction stands
pub record IsPredecoded (a : Accepted) (d : Inst) (p : Predecoded) : Type 0 where
  pub next : reads d.word a.flow.nexts ≡ Some (Some p.next)
  pub silent : captures_before a p.next ≡ []
  pub short : IsShort a p.function d p.short

-- so far as instructions are predecoded, in the order of the module
abbrev pub ArePredecoded : Accepted → List (Option Predecoded) → Type 0
ArePredecoded a ps = (n : ℕ) (d : Inst) (p : Predecoded) → slice_get a.insts n ≡ Some d → slice_get ps n ≡ Some (Some p) → ∥ IsPredecoded a d p ∥₁
