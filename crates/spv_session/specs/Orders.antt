-- What the order of some events is worth: the first of them that arrives at a barrier or conflicts with an earlier one.
use Rattle.std.specs.Prelude.{◌≡◌, ℕ, ◌==◌, ◌+◌, ◌-◌, ◌<◌, nat_le, nat_lt, ◌&&◌, ◌||◌, Bool, if◌then◌else◌, List, [], ◌∷◌, ◌++◌, filter, map, Option, Some, None, is_some}
use Rattle.std.specs.List.{flat_map, list_any, range_with_len}
use Rattle.std.specs.Option.{option_map_or}
use Rattle.spv_group.specs.Positions.{least_of}
use Rattle.spv_order.specs.declared.events.Event.{Event}
use Rattle.spv_order.specs.declared.events.Leaves.{Leaves}
use Rattle.spv_order.specs.declared.orders.Answer.{Answer}
use Rattle.spv_order.specs.declared.orders.Answer.TheVariants.{Free, Barrier, Conflict}

-- what an event does, as far as its order matters
pub record Doing : Type 0 where
  pub invocation : ℕ
  pub arrives : Bool
  pub reads : List Leaves
  pub writes : List Leaves

-- ---- conflicts

-- a leaf of a shared variable: the variable's id, and the number of the leaf
abbrev pub Leaf : Type 0
Leaf = ℕ × ℕ

abbrev pub leads_to : Leaf → Leaves → Bool
leads_to leaf r = (r.root == leaf.0) && (nat_le r.first leaf.1 && nat_lt leaf.1 r.end)

abbrev pub holds : List Leaves → Leaf → Bool
holds ranges leaf = list_any (leads_to leaf) ranges

abbrev pub touches : Doing → Leaf → Bool
touches d leaf = holds d.reads leaf || holds d.writes leaf

-- both touch it, and one of them writes it
abbrev pub conflict_at : Doing → Doing → Leaf → Bool
conflict_at d e leaf = (touches d leaf && touches e leaf) && (holds d.writes leaf || holds e.writes leaf)

abbrev pub leaves_of : Leaves → List Leaf
leaves_of r = map (λ n. (r.root, n)) (range_with_len r.first (r.end - r.first))

abbrev pub touched_leaves : Doing → List Leaf
touched_leaves d = flat_map leaves_of (d.reads ++ d.writes)

-- by the variable's id, and then by the leaf's number
abbrev pub is_before : Leaf → Leaf → Bool
is_before k l = nat_lt k.0 l.0 || ((k.0 == l.0) && nat_lt k.1 l.1)

abbrev pub lesser : Leaf → Leaf → Leaf
lesser l k = if is_before k l then k else l

abbrev pub first_of : List Leaf → Option Leaf
first_of [] = None
first_of (l ∷ ls) = Some (option_map_or (lesser l) (first_of ls) l)

-- the first leaf on which two events conflict; those of one invocation conflict on none
abbrev pub conflict : Doing → Doing → Option Leaf
conflict d e = if d.invocation == e.invocation then None else first_of (filter (conflict_at d e) (touched_leaves d))

-- ---- the order of the events from a on, before b, by what each does

module _ (doing : ℕ → Doing) where
  abbrev pub conflicts : (x y : ℕ) → Bool
  conflicts x y = is_some (conflict (doing x) (doing y))

  -- an event arrives at a barrier, or conflicts with an earlier one of them
  abbrev pub matters : (a y : ℕ) → Bool
  matters a y = (doing y).arrives || list_any (λ x. conflicts x y) (range_with_len a (y - a))

  abbrev pub conflict_answer : Option Leaf → (x y : ℕ) → Answer
  conflict_answer None x y = Free
  conflict_answer (Some leaf) x y = Conflict x y leaf.0 leaf.1

  abbrev pub with_earlier : (y x : ℕ) → Answer
  with_earlier y x = conflict_answer (conflict (doing x) (doing y)) x y

  -- the first event that matters arrives, or it conflicts, with the least of these
  abbrev pub answer_at : (a y : ℕ) → Answer
  answer_at a y = if (doing y).arrives then Barrier y else with_earlier y (least_of (λ x. conflicts x y) a y)

  abbrev pub answer_by : (a b y : ℕ) → Answer
  answer_by a b y = if y == b then Free else answer_at a y

  unfoldable pub order_by : (a b : ℕ) → Answer
  order_by a b = answer_by a b (least_of (matters a) a b)

-- ---- as it is found

-- an event does this
pub record Does (e : Event) (d : Doing) : Type 0 where
  pub invocation : e.invocation ≡ d.invocation
  pub arrives : e.arrives ≡ d.arrives
  pub reads : e.reads.items ≡ d.reads
  pub writes : e.writes.items ≡ d.writes

-- the events of an answer are counted from the first
abbrev pub behind : ℕ → Answer → Answer
behind a Free = Free
behind a (Barrier y) = Barrier (a + y)
behind a (Conflict x y root leaf) = Conflict (a + x) (a + y) root leaf

-- its events are among the first n
abbrev pub IsAmong : ℕ → Answer → Type 0
IsAmong n Free = Unit {0}
IsAmong n (Barrier y) = y < n
IsAmong n (Conflict x y root leaf) = (x < n) × (y < n)
