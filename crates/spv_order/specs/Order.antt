-- What the order of some events is worth: the first of them that arrives at a barrier or conflicts with an earlier one.
use Rattle.std.specs.Prelude.{◌≡◌, ◌≢◌, ◌<◌, ◌≤◌, ◌⊎◌, ℕ, true, List, slice_get, Some, Contains}
use Rattle.spv_order.specs.declared.events.Leaves.{Leaves}
use Rattle.spv_order.specs.declared.events.Event.{Event}
use Rattle.spv_order.specs.declared.orders.Answer.{Answer}
use Rattle.spv_order.specs.declared.orders.Answer.TheVariants.{Free, Barrier, Conflict}

-- the leaf of this number of this root is in one of the ranges
abbrev pub Holds : List Leaves → (root leaf : ℕ) → Type 0
Holds ranges root leaf = (r : Leaves) × Contains ranges r × (r.root ≡ root) × (r.first ≤ leaf) × (leaf < r.end)

abbrev pub Reads : Event → (root leaf : ℕ) → Type 0
Reads e root leaf = Holds e.reads.items root leaf

abbrev pub Writes : Event → (root leaf : ℕ) → Type 0
Writes e root leaf = Holds e.writes.items root leaf

abbrev pub TouchesLeaf : Event → (root leaf : ℕ) → Type 0
TouchesLeaf e root leaf = Reads e root leaf ⊎ Writes e root leaf

-- two events conflict at a leaf: they are of different invocations and touch it, one of them writing it
abbrev pub ConflictOn : Event → Event → (root leaf : ℕ) → Type 0
ConflictOn e f root leaf = (e.invocation ≢ f.invocation) × TouchesLeaf e root leaf × TouchesLeaf f root leaf × (Writes e root leaf ⊎ Writes f root leaf)

-- the events at two places of the list do so
abbrev pub ConflictAt : List Event → (x y : ℕ) → (root leaf : ℕ) → Type 0
ConflictAt events x y root leaf = (e f : Event) × (slice_get events x ≡ Some e) × (slice_get events y ≡ Some f) × ConflictOn e f root leaf

-- an event arrives at a barrier
abbrev pub ArrivesAt : List Event → ℕ → Type 0
ArrivesAt events y = (e : Event) × (slice_get events y ≡ Some e) × (e.arrives ≡ true)

-- it conflicts with an earlier one
abbrev pub ConflictsEarlier : List Event → ℕ → Type 0
ConflictsEarlier events y = (x root leaf : ℕ) × (x < y) × ConflictAt events x y root leaf

-- no event before this one arrives or conflicts with an earlier one
abbrev pub IsFreeBefore : List Event → ℕ → Type 0
IsFreeBefore events y = (z : ℕ) → z < y → (ArrivesAt events z ⊎ ConflictsEarlier events z) → ⊥

-- a leaf stands before another, by root id and number
abbrev pub IsLeafBefore : (root leaf : ℕ) → (root leaf : ℕ) → Type 0
IsLeafBefore r l root leaf = (r < root) ⊎ ((r ≡ root) × (l < leaf))

-- the first event that arrives or conflicts with an earlier one: there is none; it arrives; or it conflicts, with the least event and
-- the first leaf that are named
abbrev pub IsOrder : List Event → Answer → Type 0
IsOrder events Free = (y : ℕ) → IsFreeBefore events y
IsOrder events (Barrier y) = ArrivesAt events y × IsFreeBefore events y
IsOrder events (Conflict x y root leaf) =
    IsFreeBefore events y
    × (ArrivesAt events y → ⊥)
    × (x < y)
    × ConflictAt events x y root leaf
    × ((w r l : ℕ) → w < x → ConflictAt events w y r l → ⊥)
    × ((r l : ℕ) → IsLeafBefore r l root leaf → ConflictAt events x y r l → ⊥)
