-- The registers of a function: which there are, and where they lie in a frame. A register of a value has cells in the row of the frame,
-- used or not, and a mark whether it has a value; registers of pointers stand apart.
use Rattle.std.specs.Prelude.{◌≡◌, ◌==◌, ◌+◌, ℕ, zero, suc, Bool, if◌then◌else◌, List, [], ◌∷◌, Option, Some, None, map, slice_get}
use Rattle.std.specs.Option.{option_map}
use Rattle.spv_base.specs.declared.values.Value.{Value}
use Rattle.spv_frame.specs.declared.slots.Place.{Place}
use Rattle.spv_frame.specs.declared.slots.Slot.{Slot}
use Rattle.spv_frame.specs.declared.slots.PointerSlot.{PointerSlot}

-- registers of values: their ids in the order of the module, each with how many cells its type has
abbrev pub Rooms : Type 0
Rooms = List (ℕ × ℕ)

-- what a frame of a function has: the function, the word number of its first executable, the places of its parameters in their order,
-- its registers of values, the ids of its registers of pointers, and the types of registers by their ids
pub record Planned : Type 0 where
  pub function : ℕ
  pub first : ℕ
  pub parameters : List Place
  pub values : Rooms
  pub pointers : List ℕ
  pub types : List (ℕ × ℕ)

abbrev pub ids : Rooms → List ℕ
ids rs = map (λ r. r.0) rs

abbrev pub sizes : Rooms → List ℕ
sizes rs = map (λ r. r.1) rs

-- a value with its mark, as a value or none
abbrev pub marked : Value → Bool → Option Value
marked v b = if b then Some v else None

-- values with their marks
abbrev pub marks : List Value → List Bool → List (Option Value)
marks [] bs = []
marks (v ∷ vs) [] = []
marks (v ∷ vs) (b ∷ bs) = marked v b ∷ marks vs bs

-- the number of an id among some: the first that it is
abbrev pub number_of : ℕ → List ℕ → Option ℕ
number_of id [] = None
number_of id (k ∷ ks) = if k == id then Some 0 else option_map suc (number_of id ks)

-- the cells of the first k registers
abbrev pub cells_before : ℕ → Rooms → ℕ
cells_before zero rs = 0
cells_before (suc k) [] = 0
cells_before (suc k) (r ∷ rs) = r.1 + cells_before k rs

-- where a register of a value lies
pub record IsSlotOf (rs : Rooms) (s : Slot) : Type 0 where
  pub named : number_of s.id (ids rs) ≡ Some s.number
  pub begins : cells_before s.number rs ≡ s.start
  pub long : slice_get rs s.number ≡ Some (s.id, s.len)

-- where a register of a pointer lies
abbrev pub IsPointerSlotOf : List ℕ → PointerSlot → Type 0
IsPointerSlotOf ks s = number_of s.id ks ≡ Some s.number
