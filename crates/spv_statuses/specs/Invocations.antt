-- How far an invocation is.
use Rattle.std.specs.Prelude.{◌<◌, ◌==◌, ◌||◌, ℕ, Bool, true, false, Option, Some, None, ⊤}
use Rattle.spv_base.specs.declared.happenings.Status4.{Status4}
use Rattle.spv_base.specs.declared.happenings.Status4.TheVariants.{Ready as IsReady, Arrived as HasArrived, Passed as HasPassed, Finished as HasFinished}
use Rattle.spv_statuses.specs.declared.invocations.Status.{Status}
use Rattle.spv_statuses.specs.declared.invocations.Status.TheVariants.{Ready, Arrived, Passed, Finished}

-- its next event does something
abbrev pub moves : Status → Bool
moves Ready = true
moves (Arrived word) = false
moves Passed = true
moves Finished = false

abbrev pub waits : Status → Bool
waits Ready = false
waits (Arrived word) = true
waits Passed = false
waits Finished = false

-- it waits at the barrier at a word
abbrev pub waits_at : ℕ → Status → Bool
waits_at word Ready = false
waits_at word (Arrived at) = at == word
waits_at word Passed = false
waits_at word Finished = false

abbrev pub is_passed : Status → Bool
is_passed Ready = false
is_passed (Arrived word) = false
is_passed Passed = true
is_passed Finished = false

abbrev pub is_finished : Status → Bool
is_finished Ready = false
is_finished (Arrived word) = false
is_finished Passed = false
is_finished Finished = true

-- it waits at the barrier at a word, or is finished
abbrev pub waits_or_finished : ℕ → Status → Bool
waits_or_finished word s = waits_at word s || is_finished s

-- it has passed its barrier, or is finished
abbrev pub passed_or_finished : Status → Bool
passed_or_finished s = is_passed s || is_finished s

-- the word of the barrier at which it waits
abbrev pub barrier_of : Status → Option ℕ
barrier_of Ready = None
barrier_of (Arrived word) = Some word
barrier_of Passed = None
barrier_of Finished = None

-- once its barrier has opened: one that waits has passed it
abbrev pub once_opened : Status → Status
once_opened Ready = Ready
once_opened (Arrived word) = Passed
once_opened Passed = Passed
once_opened Finished = Finished

-- once the barrier at a word is closed again: one that has passed it waits there
abbrev pub once_closed : ℕ → Status → Status
once_closed word Ready = Ready
once_closed word (Arrived at) = Arrived at
once_closed word Passed = Arrived word
once_closed word Finished = Finished

-- the status without the barrier
abbrev pub kind : Status → Status4
kind Ready = IsReady
kind (Arrived word) = HasArrived
kind Passed = HasPassed
kind Finished = HasFinished

-- the barrier, if it waits at one, stands at one of the first so many words
abbrev pub IsWithin : ℕ → Status → Type 0
IsWithin words Ready = ⊤
IsWithin words (Arrived word) = word < words
IsWithin words Passed = ⊤
IsWithin words Finished = ⊤
