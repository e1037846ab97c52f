-- What a plan keeps.
use Rattle.std.specs.Prelude.{◌≡◌, ◌+◌, ℕ, suc, List, [], ◌∷◌, Some, map, replicate, slice_get}
use Rattle.spv_base.specs.Cell.{undefined_cell}
use Rattle.spv_base.specs.declared.values.Value.{Value, Scalar, List as Many}
use Rattle.spv_frame.specs.declared.slots.Place.{Place}
use Rattle.spv_frame.specs.declared.slots.Slot.{Slot}
use Rattle.spv_frame.specs.Frames.{cells_in, trees}
use Rattle.spv_frame.specs.Registers.{Planned, Rooms, ids, number_of, sizes}

-- the registers of some slots
abbrev pub rooms : List Slot → Rooms
rooms slots = map (λ (s : Slot). (s.id, s.len)) slots

-- no id stands twice: each is found where it stands
abbrev pub AreApart : List ℕ → Type 0
AreApart ks = (k id : ℕ) → slice_get ks k ≡ Some id → number_of id ks ≡ Some k

-- the slots of some registers, of which the first has a number and lies behind some cells
abbrev pub slots_from : ℕ → ℕ → Rooms → List Slot
slots_from n start [] = []
slots_from n start (r ∷ rs) = record { id = r.0; number = n; start = start; len = r.1 } ∷ slots_from (suc n) (start + r.1) rs

abbrev pub slots_of : Rooms → List Slot
slots_of rs = slots_from 0 0 rs

-- the cells of some registers together
abbrev pub total : Rooms → ℕ
total [] = 0
total (r ∷ rs) = r.1 + total rs

-- ---- the row of a frame in which no register has a value

abbrev pub blank_register : ℕ × ℕ → Value
blank_register r = Many (map Scalar (replicate r.1 (undefined_cell 1)))

abbrev pub blank_of : Rooms → Value
blank_of rs = Many (map blank_register rs)

-- Its slots lie one behind the other, no id stands twice, and the row without values has the cells of each register.
abbrev pub Keeps : List Slot → Value → List ℕ → Type 0
Keeps slots blank ps = (blank ≡ Many (trees blank)) × (map cells_in (trees blank) ≡ sizes (rooms slots)) × (slots ≡ slots_of (rooms slots)) × AreApart (ids (rooms slots)) × AreApart ps

-- a plan of these parts
abbrev pub planned : ℕ → ℕ → List Place → Rooms → List ℕ → List (ℕ × ℕ) → Planned
planned function first parameters values pointers types = record { function = function; first = first; parameters = parameters; values = values; pointers = pointers; types = types }
