-- What is noted of a position before a search leaves it, and what a command asks for of it.
use Rattle.std.specs.Prelude.{◌≡◌, ℕ, ◌-◌, ◌<◌, ◌≤◌, ◌&&◌, ◌||◌, not, nat_le, nat_lt, Bool, true, false, Option, Some, None}
use Rattle.spv_base.specs.declared.happenings.Happening.{Happening}
use Rattle.spv_dbg.specs.Tables.{Tables}
use Rattle.spv_group.specs.Group.{Held as Group, Undoing, entries_in, group_at}
use Rattle.spv_group.specs.Run.{happening_at}
use Rattle.spv_search.specs.Keys.{at_head, depth_in, key_in, named_key, same_key}
use Rattle.spv_search.specs.Moves.{lands, moves, moves_between, moves_next}
use Rattle.spv_search.specs.Own.{is_step, own_before}
use Rattle.spv_search.specs.declared.commands.Backward.{Backward}
use Rattle.spv_search.specs.declared.commands.Backward.TheVariants as backward
use Rattle.spv_search.specs.declared.focus.Key.{Key}
use Rattle.spv_search.specs.declared.backward.Way.{Way}

-- ---- what backward commands ask for of the event before a position, in parts

-- they ask for something of it
abbrev pub asks_before : Backward → Bool
asks_before (backward.Rstepi n) = false
asks_before backward.Rcontinue = false
asks_before _ = true

-- they compare where the invocation stands with where it stood before the event
abbrev pub compares : Backward → Bool
compares backward.Rstep = true
compares backward.Rnext = true
compares _ = false

-- of the event
abbrev pub is_such : Backward → ℕ → Happening → Bool
is_such backward.Rstep i h = lands i h
is_such backward.Rnext i h = lands i h
is_such backward.Rfinish i h = moves i h
is_such _ i h = false

-- of how many frames are shown of it
abbrev pub fits : Backward → (from depth : ℕ) → Bool
fits backward.Rstep from depth = true
fits backward.Rnext from depth = nat_le depth from
fits backward.Rfinish from depth = nat_lt depth from
fits _ from depth = false

-- of where the invocation stands behind it
abbrev pub stands_for : Backward → ℕ → (from here : Group) → Bool
stands_for command i from here = (not (compares command) || at_head here i) && fits command (depth_in from i) (depth_in here i)

-- of where it stood before it
abbrev pub differs : Backward → ℕ → Group → Bool
differs command i here = not (compares command) || not (same_key (key_in here i) (key_in (group_at (here.position - 1) here) i))

-- ---- what is noted

-- where an event led the invocation, if it was a step
abbrev pub IsStep : Tables → ℕ → (from here : Group) → Option Key → Type 0
IsStep t i from here None = is_step i from here ≡ false
IsStep t i from here (Some key) = (named_key t key ≡ key_in here i) × (is_step i from here ≡ true)

-- where it stands, if it stands as a command asks for
abbrev pub IsPlace : Tables → Backward → ℕ → (from here : Group) → Option Key → Type 0
IsPlace t command i from here None = stands_for command i from here ≡ false
IsPlace t command i from here (Some key) = (named_key t key ≡ key_in here i) × (stands_for command i from here ≡ true)

-- before the event before a position is taken back: the same, unless that event isn't what the command asks for
abbrev pub IsNoted : Tables → Backward → ℕ → (from here : Group) → Option Key → Type 0
IsNoted t command i from here None = own_before command i from here ≡ false
IsNoted t command i from here (Some key) = (named_key t key ≡ key_in here i) × (stands_for command i from here ≡ true)

-- before the event at a position is made: where the invocation stands, unless that event doesn't move it or the command doesn't compare
abbrev pub IsSeen : Tables → Backward → ℕ → Group → Option Key → Type 0
IsSeen t command i g None = compares command ≡ true → (h : Happening) → happening_at g.program (entries_in g) g.position ≡ Some h → moves i h ≡ false
IsSeen t command i g (Some key) = named_key t key ≡ key_in g i

-- how many events from the group's position on to the one searched from move the invocation, and whether the next one does
pub record IsWay (i from : ℕ) (g : Group) (w : Way) : Type 0 where
  pub count : w.count ≡ moves_between g i g.position from
  pub next : g.position < from → w.next ≡ moves_next g i

-- A search back among the events that are kept left them all, and none of the positions behind passes.
pub record IsLeft (test : ℕ → Bool) (i : ℕ) (from now : Undoing) (w : Way) : Type 0 where
  pub same : now.group ≡ group_at now.group.position from.group
  pub limit : now.limit ≡ from.limit
  pub kept : now.kept ≡ from.kept
  pub here : now.group.position ≡ from.kept
  pub some : 0 < now.group.position
  pub earlier : now.group.position ≤ from.group.position
  pub way : IsWay i from.group.position now.group w
  pub none : (m : ℕ) → now.group.position < m → m < from.group.position → test m ≡ false
