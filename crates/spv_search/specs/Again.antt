-- What a run from the start on has found.
use Rattle.std.specs.Prelude.{◌≡◌, ℕ, ◌+◌, ◌<◌, ◌≤◌, ◌||◌, ◌&&◌, ◌++◌, [], ◌∷◌, Bool, true, false, if◌then◌else◌, List, length, slice_index, nat_le, nat_lt, ◌-◌, max, Option, Some, None, unwrap_or}
use Rattle.std.specs.Option.{option_map_or}
use Rattle.spv_group.specs.Group.{Held as Group, group_at}
use Rattle.spv_search.specs.declared.again.Found.{Found}
use Rattle.spv_search.specs.declared.again.Target.{Target}
use Rattle.spv_search.specs.declared.hits.Looked.{Looked}
use Rattle.spv_search.specs.declared.backward.Way.{Way}
use Rattle.spv_search.specs.declared.commands.Backward.{Backward}
use Rattle.spv_search.specs.declared.commands.Backward.TheVariants as backward
use Rattle.spv_search.specs.Moves.{moves_between, moves_next}
use Rattle.spv_search.specs.Own.{own_backward, own_before}
use Rattle.spv_search.specs.Targets.{backward_target}

-- something hits at a position, or what the command asks for of the event before it holds
abbrev pub passes_before : (Group → Bool) → Backward → ℕ → (from g : Group) → ℕ → Bool
passes_before hit command i from g m = hit (group_at m g) || own_before command i from (group_at m g)

-- the command asks for the event at a position
abbrev pub asks_for_next : Backward → Bool
asks_for_next (backward.Rstepi n) = true
asks_for_next _ = false

-- how many events that move the invocation a command asks for before a way, if there are to be some
abbrev pub wanted : Backward → Way → ℕ
wanted (backward.Rstepi n) w = n - w.count
wanted _ w = 0

-- the positions of the events before position n that move the invocation
pub record AreMovers (g : Group) (i n : ℕ) (movers : List ℕ) : Type 0 where
  pub all : length movers ≡ moves_between g i 0 n
  pub below : (k : ℕ) → k < length movers → slice_index movers k < n
  pub move : (k : ℕ) → k < length movers → moves_next (group_at (slice_index movers k) g) i ≡ true
  pub behind : (k : ℕ) → k < length movers → moves_between g i (slice_index movers k) n + k ≡ length movers

-- the mover with a number, counted back from the last; none where there are fewer
abbrev pub mover_of : List ℕ → ℕ → Option ℕ
mover_of movers number = if nat_lt 0 number && nat_lt number (length movers + 1) then Some (slice_index movers (length movers - number)) else None

-- the last position that passes, with that mover
abbrev pub later_of : ℕ → Option ℕ → ℕ
later_of last mover = max last (unwrap_or mover 0)

abbrev pub is_mover : ℕ → Option ℕ → Bool
is_mover last mover = option_map_or (λ m. nat_le last m) mover false

-- the last position up to position n, before the one searched from, that passes, whether it does so by its own, and the movers before it,
-- where the command asks for them
pub record IsFoundAgain (test own : ℕ → Bool) (next : Bool) (from : ℕ) (g : Group) (i n : ℕ) (f : Found) : Type 0 where
  pub within : f.last ≤ n
  pub inside : 0 < f.last → f.last < from
  pub passes : 0 < f.last → test f.last ≡ true
  pub none : (m : ℕ) → f.last < m → m ≤ n → m < from → test m ≡ false
  pub done : f.done ≡ own f.last
  pub movers : next ≡ true → AreMovers g i n f.movers.items

-- the same, of a command
abbrev pub IsFoundOf : (Group → Bool) → Backward → ℕ → (p : Group) → (from : ℕ) → (g : Group) → ℕ → Found → Type 0
IsFoundOf hit command i p from g n f =
    IsFoundAgain (passes_before hit command i p g) (λ m. own_before command i p (group_at m g)) (asks_for_next command) from g i n f

-- what is known of a position before the one searched from
pub record IsLookedBefore (hit : Group → Bool) (command : Backward) (i : ℕ) (p : Group) (from : ℕ) (here : Group) (looked : Looked) : Type 0 where
  pub passes : looked.passes ≡ (nat_lt here.position from && (hit here || own_before command i p here))
  pub done : looked.passes ≡ true → looked.done ≡ own_before command i p here

-- what is found with one event more
pub record IsAdded (event : ℕ) (looked : Looked) (moves : Bool) (old new : Found) : Type 0 where
  pub last : new.last ≡ (if looked.passes then event + 1 else old.last)
  pub done : new.done ≡ (if looked.passes then looked.done else old.done)
  pub movers : new.movers.items ≡ (if moves then old.movers.items ++ event ∷ [] else old.movers.items)

-- the position that is searched for, before the one searched from
pub record IsTarget (hit : Group → Bool) (command : Backward) (i : ℕ) (from : Group) (target : Target) : Type 0 where
  pub position : target.position ≡ backward_target hit command i from
  pub before : target.position < from.position
  pub done : target.done ≡ own_backward command i from (group_at target.position from)
