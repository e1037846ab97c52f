-- What registers of values hold, and registers that change together.
use Rattle.std.specs.Prelude.{◌≡◌, ◌≢◌, ℕ, List, [], ◌∷◌, Option, None, length, unwrap_or}
use Rattle.std.specs.List.{AllByRecursion, AllZip}
use Rattle.spv_base.specs.Entries.{reads, writes}
use Rattle.spv_base.specs.Variables.{Registers}
use Rattle.spv_base.specs.declared.values.Value.{Value}
use Rattle.spv_types.specs.Rows.{leaves}
use Rattle.spv_frame.specs.declared.contents.Content.{Content}
use Rattle.spv_frame.specs.declared.slots.Slot.{Slot}
use Rattle.spv_frame.specs.Frames.{Held}
use Rattle.spv_frame.specs.Registers.{IsSlotOf, Rooms, marked}

-- a value or none
abbrev pub content : Content → Option Value
content c = marked c.row c.has

abbrev pub cells : Content → ℕ
cells c = length (leaves c.row)

-- what a register of a frame holds
abbrev pub held : Held → Slot → Option Value
held f s = unwrap_or (reads s.id f.values) None

-- a register, and cells for it
abbrev pub Suits : Rooms → Slot → Content → Type 0
Suits rs s c = IsSlotOf rs s × (cells c ≡ s.len)

abbrev pub AllSuit : Rooms → List Slot → List Content → Type 0
AllSuit rs ss cs = AllZip (Suits rs) ss cs

-- no register stands twice
abbrev pub Differ : List Slot → Type 0
Differ [] = Unit {0}
Differ (s ∷ ss) = AllByRecursion (λ (t : Slot). t.id ≢ s.id) ss × Differ ss

-- the entries with a value or none for each of some registers
abbrev pub puts : List Slot → List (Option Value) → Registers → Registers
puts [] vs es = es
puts (s ∷ ss) [] es = es
puts (s ∷ ss) (v ∷ vs) es = puts ss vs (writes s.id v es)

-- the frame with a value or none in each of some registers
abbrev pub with_contents : List Slot → List (Option Value) → Held → Held
with_contents ss vs f = record f { values = puts ss vs f.values }
