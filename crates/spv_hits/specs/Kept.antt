-- What is kept between two positions that stand next to each other. Clauses of private calls alone cite this, and the type's.
use Rattle.std.specs.Prelude.{◌≡◌, ◌≢◌, ◌⊎◌, ℕ, ◌-◌, not, Bool, true, false, List, [], drop, length, map, Option, Some, IfSome, Vec, ⊤, slice_get, slice_index_or}
use Rattle.std.specs.List.{list_any, range_with_len}
use Rattle.std.specs.Option.{option_map, option_map_or}
use Rattle.std.specs.declared.alloc.Global.{Global}
use Rattle.spv_base.specs.Bits.{cell_bits}
use Rattle.spv_dbg.specs.declared.frames.Bit.{Bit}
use Rattle.spv_dbg.specs.Tables.{Tables}
use Rattle.spv_expr.specs.Bits.{shown}
use Rattle.spv_expr.specs.Typing.{Typing}
use Rattle.spv_expr.specs.declared.cells.InCell.{InCell}
use Rattle.spv_frame.specs.Frames.{Held as Frame}
use Rattle.spv_initial.specs.Start.{variables}
use Rattle.spv_initial.specs.Variables.{targets_of}
use Rattle.spv_mem.specs.Memory.{Held as Memory, load_of}
use Rattle.spv_stops.specs.Breaks.{has_head}
use Rattle.spv_stops.specs.Stops.{Stops}
use Rattle.spv_stops.specs.Watches.{WatchKey}
use Rattle.spv_stops.specs.declared.breaks.Breakpoint.{Breakpoint}
use Rattle.spv_state.specs.Program.{Program}
use Rattle.spv_state.specs.State.{State, frames_of}
use Rattle.spv_types.specs.Rows.{leaves}
use Rattle.spv_group.specs.Group.{Held as Group, entries_in, group_at, state_in}
use Rattle.spv_group.specs.Touches.{IsTouch}
use Rattle.spv_hits.specs.Breaks.{breaks_under}
use Rattle.spv_hits.specs.Hits.{has_some}
use Rattle.spv_hits.specs.Watches.{same_bits, watched, watched_in}
use Rattle.spv_hits.specs.declared.places.Place.{Place}
use Rattle.spv_hits.specs.declared.places.Place.TheVariants.{Anywhere, InOne, Nowhere, At}
use Rattle.spv_hits.specs.declared.same.Same.{Same}
use Rattle.spv_hits.specs.declared.same.EventTouch.{EventTouch}

-- ---- heads

-- each word is marked exactly where it is a head of one of these breaks
abbrev pub AreHeads : List (ℕ × Breakpoint) → List Bool → Type 0
AreHeads breaks marks = (pc : ℕ) → slice_index_or marks pc false ≡ list_any (has_head pc) breaks

-- ---- bits

abbrev pub kept_bits : Option (Vec Bit Global) → Option (List Bit)
kept_bits bits = option_map (λ v. v.items) bits

-- so many bits from one of a cell on
abbrev pub bits_of_cell : InCell → ℕ → List Bit
bits_of_cell x count = map (shown (cell_bits x.cell)) (range_with_len x.bit count)

-- the bits of each watch at a position
abbrev pub watched_by : Tables → List (ℕ × WatchKey) → Group → List (Option (List Bit))
watched_by t watches g = map (λ w. watched t w.1 g) watches

-- the bits of a watch differ between two positions
abbrev pub differs : Tables → (o g : Group) → ℕ × WatchKey → Bool
differs t o g w = not (same_bits (watched t w.1 o) (watched t w.1 g))

-- ---- where the bits lie

-- the types of a program's module, and those of its variables
abbrev pub typing_in : Program → Typing
typing_in p = record { types = p.accepted.types; targets = targets_of (variables p.accepted) }

-- a memory has there what was kept of the place; nothing is known of one that isn't known
abbrev pub Holds : Tables → WatchKey → Place → Memory → Type 0
Holds t k Anywhere m = ⊥
Holds t k (InOne x) m = (frames : List Frame) → watched_in t k m frames ≡ Some (bits_of_cell x k.count)
Holds t k Nowhere m = ⊤
Holds t k (At p cells) m = option_map leaves (load_of m k.inv p) ≡ Some cells.items

-- with these calls the bits of a watch are the same in each memory that holds the place
abbrev pub Lies : Tables → WatchKey → Place → Memory → List Frame → Type 0
Lies t k place m frames = (n : Memory) → Holds t k place n → watched_in t k n frames ≡ watched_in t k m frames

abbrev pub LiesAt : Tables → WatchKey → Place → Group → Type 0
LiesAt t k place g = Lies t k place (state_in g).memory (frames_of (state_in g) k.inv)

abbrev pub AllLie : Tables → List (ℕ × WatchKey) → List Place → Group → Type 0
AllLie t watches places g = (n : ℕ) (w : ℕ × WatchKey) (place : Place) → slice_get watches n ≡ Some w → slice_get places n ≡ Some place → LiesAt t w.1 place g

-- what a watch has for its place is of this position, or it was marked and has what it had
abbrev pub IsPlaced : Tables → WatchKey → Place → Group → (mark : Option Bool) (old : Option Place) → Type 0
IsPlaced t k place g mark old = LiesAt t k place g ⊎ ((mark ≡ Some true) × (old ≡ Some place))

-- ---- what is the same in two states

-- an event did this from one state to the other, if it is known
abbrev pub Did : Option EventTouch → (s u : State) → Type 0
Did touched s u = IfSome touched (λ x. IsTouch x.touch x.inv s u)

-- the last elements of a list, so many
abbrev pub last_of : {A : Type 0} → ℕ → List A → List A
last_of n xs = drop (length xs - n) xs

-- the calls of a watch's invocation tell the same of it, whatever the memory has
abbrev pub IsAlike : Tables → WatchKey → (s u : State) → Type 0
IsAlike t k s u = (m : Memory) → watched_in t k m (frames_of s k.inv) ≡ watched_in t k m (frames_of u k.inv)

-- those of each watch that is marked do
abbrev pub AreAlike : Tables → List (ℕ × WatchKey) → List Bool → (s u : State) → Type 0
AreAlike t watches marks s u = (n : ℕ) (w : ℕ × WatchKey) → slice_get watches n ≡ Some w → slice_get marks n ≡ Some true → IsAlike t w.1 s u

-- all that any watch looks at is the same
pub record AreSame (t : Tables) (s u : State) : Type 0 where
  pub memory : s.memory ≡ u.memory
  pub calls : (k : WatchKey) → IsAlike t k s u

-- what is known to be the same
pub record IsSame (t : Tables) (watches : List (ℕ × WatchKey)) (same : Same) (s u : State) : Type 0 where
  pub all : same.all ≡ true → AreSame t s u
  pub memory : same.memory ≡ true → s.memory ≡ u.memory
  pub calls : same.all ≡ false → AreAlike t watches same.calls.items s u

-- ---- what is noted of a position

-- the invocation of the event before it, by the schedule, stands at a head of a break
abbrev pub at_break : Stops Breakpoint → Group → Bool
at_break breaks g = option_map_or (λ i. has_some (breaks_under breaks g i)) (slice_get (entries_in g) (g.position - 1)) false

-- what stops are looked for, and what was noted
pub record Stopping : Type 0 where
  pub tables : Tables
  pub breaks : Stops Breakpoint
  pub watches : Stops WatchKey
  pub sizes : Typing
  pub landed : Bool
  pub bits : List (Option (List Bit))
  pub places : List Place
  pub same : Same

-- the same stops are looked for
pub record AreStopsOf (s r : Stopping) : Type 0 where
  pub tables : r.tables ≡ s.tables
  pub breaks : r.breaks ≡ s.breaks
  pub watches : r.watches ≡ s.watches
  pub sizes : r.sizes ≡ s.sizes

pub record IsNoted (s : Stopping) (g : Group) : Type 0 where
  pub bits : s.bits ≡ watched_by s.tables s.watches.0 g
  pub places : AllLie s.tables s.watches.0 s.places g

-- and what the event before it did, unless nothing is watched
pub record IsLeft (s : Stopping) (g : Group) : Type 0 where
  pub noted : IsNoted s g
  pub landed : s.landed ≡ at_break s.breaks g
  pub same : s.watches.0 ≢ [] → IsSame s.tables s.watches.0 s.same (state_in (group_at (g.position - 1) g)) (state_in g)
