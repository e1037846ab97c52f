-- What events touch, as ranges of addresses.
use Rattle.std.specs.Prelude.{◌≡◌, ◌<◌, ◌+◌, ◌*◌, ℕ, Bool, List, slice_get, Some, All, Contains, if◌then◌else◌}
use Rattle.spv_order.specs.declared.events.Leaves.{Leaves}
use Rattle.spv_order.specs.declared.events.Event.{Event}
use Rattle.spv_order.specs.declared.touches.Touch.{Touch}

-- a root has fewer than 2^32 leaves
abbrev pub address : (root leaf : ℕ) → ℕ
address root leaf = root * 4294967296 + leaf

abbrev pub touch_of : (event invocation : ℕ) → Bool → Leaves → Touch
touch_of event invocation writes r = record { start = address r.root r.first; stop = address r.root r.end; event = event; invocation = invocation; writes = writes }

-- what an event writes or reads
abbrev pub listed : Bool → Event → List Leaves
listed writes e = if writes then e.writes.items else e.reads.items

-- one of the first so many events touches this
abbrev pub IsTouchOf : List Event → (count : ℕ) → Touch → Type 0
IsTouchOf events count t = (t.event < count) × ((e : Event) × (r : Leaves) × (slice_get events t.event ≡ Some e) × Contains (listed t.writes e) r × (r.end < 4294967296) × (t ≡ touch_of t.event e.invocation t.writes r))

-- these are what the first so many events touch, in some order
pub record AreTouches (events : List Event) (count : ℕ) (touches : List Touch) : Type 0 where
  pub sound : All (IsTouchOf events count) touches
  pub complete : (k : ℕ) (e : Event) (writes : Bool) (r : Leaves) → k < count → slice_get events k ≡ Some e → Contains (listed writes e) r → (r.end < 4294967296) × Contains touches (touch_of k e.invocation writes r)
