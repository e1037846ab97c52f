-- What calls inside a step find at an OpPtrAccessChain, and where two pointers are compared. No definition of a step speaks of it.
use Rattle.std.specs.Prelude.{◌≡◌, ◌⊎◌, Bool, List, Result, Ok, ok_or}
use Rattle.spv_base.specs.Cell.{Cell}
use Rattle.spv_base.specs.declared.values.Pointer.{Pointer}
use Rattle.spv_base.specs.declared.instructions.Inst.{Inst}
use Rattle.spv_base.specs.declared.values.Value.{Value}
use Rattle.spv_ops.specs.Steps.{◌>>=◌}
use Rattle.spv_state.specs.Actions.{action_of}
use Rattle.spv_state.specs.declared.actions.Action.TheVariants.{PtrEqual, PtrNotEqual}
use Rattle.spv_sites.specs.Chains.{ptr_chained}
use Rattle.spv_sites.specs.Effects.{pointer}
use Rattle.spv_sites.specs.Pointers.{are_equal}
use Rattle.spv_sites.specs.Sites.{Site, values}
use Rattle.spv_sites.specs.declared.causes.Cause.{Cause}
use Rattle.spv_sites.specs.declared.causes.Cause.TheVariants.{NoValue}

-- the pointer that a value is, from another element on and with further indexes
abbrev pub moved_pointer : Site → Value → Cell → List Cell → Result Pointer Cause
moved_pointer x at element cs = pointer at >>= (λ q. ptr_chained x.state.memory q element cs)

-- OpPtrEqual or OpPtrNotEqual
abbrev pub IsComparison : Inst → Type 0
IsComparison d = (action_of d ≡ PtrEqual) ⊎ (action_of d ≡ PtrNotEqual)

-- whether two values are equal pointers
abbrev pub equal_values : Value → Value → Result Bool Cause
equal_values a b = pointer a >>= (λ q. pointer b >>= (λ r. Ok (are_equal q r)))

-- and the operands
abbrev pub equal_operands : Site → Result Bool Cause
equal_operands x = ok_or (values x 0) NoValue >>= (λ a. ok_or (values x 1) NoValue >>= (λ b. equal_values a b))
