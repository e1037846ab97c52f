-- Calls: the frame of a function with the arguments of a call (SPIR-V 1.6 section 3.42.9, OpFunctionCall).
use Rattle.std.specs.Prelude.{◌≡◌, ◌<◌, ℕ, List, [], ◌∷◌, Some, length, slice_get, unwrap_or}
use Rattle.std.specs.List.{AllZip}
use Rattle.spv_types.specs.Rows.{leaves}
use Rattle.spv_frame.specs.declared.contents.Argument.{Argument}
use Rattle.spv_frame.specs.declared.contents.Argument.TheVariants.{Value, Pointer}
use Rattle.spv_frame.specs.declared.slots.Place.{Place}
use Rattle.spv_frame.specs.declared.slots.Place.TheVariants.{Value as ValueAt, Pointer as PointerAt}
use Rattle.spv_frame.specs.Frames.{Held, fresh, with_pointer_under, with_value_under}
use Rattle.spv_frame.specs.Registers.{Planned, ids, sizes}

-- the id with a number
abbrev pub id_at : List ℕ → ℕ → ℕ
id_at ks n = unwrap_or (slice_get ks n) 0

-- a frame with an argument in the register at a place
abbrev pub with_argument : Held → Place → Argument → Held
with_argument f (ValueAt n) (Value v) = with_value_under (id_at (ids f.plan.values) n) (Some v) f
with_argument f (ValueAt n) (Pointer p) = f
with_argument f (PointerAt n) (Value v) = f
with_argument f (PointerAt n) (Pointer p) = with_pointer_under (id_at f.plan.pointers n) (Some p.now) f

-- a frame with arguments in the registers at places
abbrev pub with_arguments : List Place → List Argument → Held → Held
with_arguments [] xs f = f
with_arguments (p ∷ ps) [] f = f
with_arguments (p ∷ ps) (x ∷ xs) f = with_arguments ps xs (with_argument f p x)

-- a frame as a call begins it: the parameters have the arguments in order, no other register has a value, and no event was passed
abbrev pub entered : Planned → List Argument → Held
entered p xs = with_arguments p.parameters xs (fresh p)

-- an argument for the parameter at a place: a value of as many cells, or a pointer
abbrev pub IsArgument : Planned → Place → Argument → Type 0
IsArgument p (ValueAt n) (Value v) = slice_get (sizes p.values) n ≡ Some (length (leaves v))
IsArgument p (ValueAt n) (Pointer q) = ⊥
IsArgument p (PointerAt n) (Value v) = ⊥
IsArgument p (PointerAt n) (Pointer q) = n < length p.pointers

-- one argument for each parameter
abbrev pub AreArguments : Planned → List Argument → Type 0
AreArguments p xs = AllZip (IsArgument p) p.parameters xs
