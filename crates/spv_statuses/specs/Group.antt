-- What the statuses of a workgroup's invocations tell together.
use Rattle.std.specs.Prelude.{◌≡◌, ◌&&◌, ℕ, not, Bool, true, false, List, [], ◌∷◌, map, Option, None, slice_index_or, slice_set}
use Rattle.std.specs.Option.{option_or}
use Rattle.std.specs.List.{count_by, list_all, list_any}
use Rattle.spv_statuses.specs.declared.invocations.Status.{Status}
use Rattle.spv_statuses.specs.Invocations.{barrier_of, is_finished, moves, once_closed, once_opened, waits, waits_at, waits_or_finished}

-- the statuses of the invocations, by their numbers, and how many words the module has
pub record Held : Type 0 where
  pub list : List Status
  pub words : ℕ

-- Whether the barrier at a word opens. Where finished invocations don't count as arrived, it opens where all wait there; where they do, it
-- opens where one waits there, and all that aren't finished do.
abbrev pub opens_at : Bool → ℕ → List Status → Bool
opens_at false word statuses = list_all (waits_at word) statuses
opens_at true word statuses = list_any (waits_at word) statuses && list_all (waits_or_finished word) statuses

-- the word of the barrier at which the first invocation waits that does
abbrev pub first_waiting : List Status → Option ℕ
first_waiting [] = None
first_waiting (status ∷ statuses) = option_or (barrier_of status) (first_waiting statuses)

abbrev pub all_finished : List Status → Bool
all_finished statuses = list_all is_finished statuses

-- no invocation is Ready or Passed, and one is Arrived
abbrev pub is_stuck : List Status → Bool
is_stuck statuses = not (list_any moves statuses) && list_any waits statuses

-- ---- what changes

-- the statuses once an invocation has another one
abbrev pub with_status : ℕ → Status → List Status → List Status
with_status inv status statuses = slice_set statuses inv status

-- the statuses once a barrier has opened: all that wait have passed it, and finished ones stay
abbrev pub opened : List Status → List Status
opened statuses = map once_opened statuses

-- the statuses once the barrier at a word is closed again: all that have passed it wait there, and finished ones stay
abbrev pub closed : ℕ → List Status → List Status
closed word statuses = map (once_closed word) statuses

-- ---- what is counted

-- how many move, how many are finished, and by word how many wait at the barrier there
abbrev pub AreCounted : List Status → ℕ → ℕ → List ℕ → Type 0
AreCounted statuses moving finished waiting =
    (count_by moves statuses ≡ moving) × (count_by is_finished statuses ≡ finished) × ((word : ℕ) → slice_index_or waiting word 0 ≡ count_by (waits_at word) statuses)
