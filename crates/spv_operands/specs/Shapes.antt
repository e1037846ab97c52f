-- Frames whose registers hold values of their types.
use Rattle.std.specs.Prelude.{◌≡◌, ℕ, Bool, false, if◌then◌else◌, List, Option, Some, None}
use Rattle.std.specs.Option.{option_map_or}
use Rattle.std.specs.List.{AllZip}
use Rattle.spv_base.specs.Entries.{reads}
use Rattle.spv_base.specs.declared.values.Pointer.{Pointer}
use Rattle.spv_base.specs.declared.values.Root.{Root}
use Rattle.spv_base.specs.declared.values.Value.{Value, Ptr}
use Rattle.spv_base.specs.Options.{holds}
use Rattle.spv_base.specs.Variables.{root_id}
use Rattle.spv_index.specs.Definitions.{result_type}
use Rattle.spv_types.specs.Rows.{no_roots}
use Rattle.spv_types.specs.declared.queries.Pointed.{Pointed}
use Rattle.spv_types.specs.Queries.{pointee}
use Rattle.spv_types.specs.Shapes.{HasShape}
use Rattle.spv_types.specs.Types.{form_of}
use Rattle.spv_frame.specs.declared.contents.Argument.{Argument}
use Rattle.spv_frame.specs.declared.contents.Argument.TheVariants.{Value as Data, Pointer as Lent}
use Rattle.spv_frame.specs.declared.slots.Place.{Place}
use Rattle.spv_frame.specs.declared.slots.Place.TheVariants.{Value as ValueAt, Pointer as PointerAt}
use Rattle.spv_frame.specs.Calls.{id_at}
use Rattle.spv_frame.specs.Frames.{Held}
use Rattle.spv_frame.specs.Registers.{Planned, ids}
use Rattle.spv_initial.specs.Start.{variables}
use Rattle.spv_initial.specs.Variables.{targets_of}
use Rattle.spv_operands.specs.Values.{storage_class}
use Rattle.spv_valid.specs.Acceptance.{Accepted}

-- the variable that a root names is of the storage class of a pointer type
abbrev pub is_of_class : Accepted → ℕ → Root → Bool
is_of_class a ty r = option_map_or (λ (p : Pointed). holds p.class (storage_class a.insts (root_id r))) (pointee (form_of a.types ty)) false

-- the type of the value of the variable that a root names, where a pointer of a type may lead there by its storage class
abbrev pub target_in : Accepted → ℕ → Root → Option ℕ
target_in a ty r = if is_of_class a ty r then reads (root_id r) (targets_of (variables a)) else None

-- Each register holds a value of the shape of its type, if it holds something: a pointer leads to what its type points to, in a variable of the
-- type's storage class.
pub record AreShaped (a : Accepted) (f : Held) : Type 0 where
  pub values : (id ty : ℕ) (v : Value) → reads id f.values ≡ Some (Some v) → result_type a.insts id ≡ Some ty → HasShape a.types no_roots ty v
  pub pointers : (id ty : ℕ) (p : Pointer) → reads id f.pointers ≡ Some (Some p) → result_type a.insts id ≡ Some ty → HasShape a.types (target_in a ty) ty (Ptr p)

-- an argument of the shape of the type of the parameter at a place
abbrev pub IsShapedArgument : Accepted → Planned → Place → Argument → Type 0
IsShapedArgument a p (ValueAt n) (Data v) = (ty : ℕ) → result_type a.insts (id_at (ids p.values) n) ≡ Some ty → HasShape a.types no_roots ty v
IsShapedArgument a p (ValueAt n) (Lent q) = Unit {0}
IsShapedArgument a p (PointerAt n) (Data v) = Unit {0}
IsShapedArgument a p (PointerAt n) (Lent q) = (ty : ℕ) → result_type a.insts (id_at p.pointers n) ≡ Some ty → HasShape a.types (target_in a ty) ty (Ptr q.now)

-- the arguments of a call of a function with a plan do
abbrev pub AreShapedArguments : Accepted → Planned → List Argument → Type 0
AreShapedArguments a p xs = AllZip (IsShapedArgument a p) p.parameters xs
