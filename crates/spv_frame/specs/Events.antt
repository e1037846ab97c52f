-- What a debug event that a frame passed has captured.
use Rattle.std.specs.Prelude.{◌≡◌, Option, Some, None, ⊤}
use Rattle.spv_base.specs.declared.values.Value.{Value, Ptr, out-Value}
use Rattle.spv_types.specs.Shapes.{pointer_in}
use Rattle.spv_frame.specs.declared.events.Captured.{Captured}
use Rattle.spv_frame.specs.declared.events.Captured.TheVariants.{Nothing, Data, Pointer}

abbrev pub seen : Captured → Option Value
seen Nothing = None
seen (Data v) = Some v
seen (Pointer p) = Some (Ptr p)

-- a row is that of a value which is no pointer
abbrev pub IsPlain : Captured → Type 0
IsPlain Nothing = ⊤
IsPlain (Data v) = pointer_in (out-Value v) ≡ None
IsPlain (Pointer p) = ⊤
