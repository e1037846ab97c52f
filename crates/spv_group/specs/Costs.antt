-- How many steps the motions of a group take, and how far back it can undo after them. A step is a call of the machine's `step`; nothing
-- else counts one.
use Rattle.std.specs.Prelude.{◌≡◌, ℕ, ◌+◌, ◌-◌, ◌<◌, ◌≤◌, min, max, nat_lt, if◌then◌else◌, Result, Ok, Err}
use Rattle.spv_base.specs.declared.causes.NoMemory.{NoMemory}
use Rattle.spv_base.specs.declared.happenings.EndCause.TheVariants as end
use Rattle.spv_group.specs.declared.motion.Forth.{Forth}
use Rattle.spv_group.specs.declared.motion.Forth.TheVariants as forth
use Rattle.spv_group.specs.declared.motion.Back.{Back}
use Rattle.spv_group.specs.declared.motion.Back.TheVariants as back

-- ---- steps

-- One event forth is one step, also where it faults or memory runs out in it. The other ends take none.
abbrev pub ForthCounts : Result Forth NoMemory → (before now : ℕ) → Type 0
ForthCounts (Ok (forth.Went h)) before now = now ≡ before + 1
ForthCounts (Ok (forth.AtEnd (end.Fault f))) before now = now ≡ before + 1
ForthCounts (Ok (forth.AtEnd end.Finished)) before now = now ≡ before
ForthCounts (Ok (forth.AtEnd end.Stuck)) before now = now ≡ before
ForthCounts (Ok (forth.AtEnd end.Schedule)) before now = now ≡ before
ForthCounts (Err error) before now = now ≡ before + 1

-- One event back is undone above the least position that is kept, with no step. At it the events from the start on are made again, the
-- last one on a copy, to see what happens.
abbrev pub back_cost : (kept position : ℕ) → ℕ
back_cost kept position = if nat_lt kept position then 0 else position

-- Above the least position that is kept memory can't run out.
abbrev pub BackCounts : Result Back NoMemory → (kept position before now : ℕ) → Type 0
BackCounts (Ok (back.Went h)) kept position before now = now ≡ before + back_cost kept position
BackCounts (Ok back.AtStart) kept position before now = now ≡ before
BackCounts (Err error) kept position before now = (position ≤ kept) × (before ≤ now) × (now ≤ before + position)

-- the most steps of a run from one position on to another: one for each event between them, and one more where the end comes before
abbrev pub run_cost : (end from target : ℕ) → ℕ
run_cost end from target = (max from (min target end) - from) + (if nat_lt end target then 1 else 0)

-- ---- the least position that is kept, before and after a motion

-- An event that is made may take the place of the oldest, but of none from the window of the new position on.
abbrev pub ForthKeeps : Result Forth NoMemory → (window before now : ℕ) → Type 0
ForthKeeps (Ok (forth.Went h)) window before now = (before ≤ now) × (now ≤ max before window)
ForthKeeps (Ok (forth.AtEnd cause)) window before now = now ≡ before
ForthKeeps (Err error) window before now = now ≡ before

-- An event that is undone leaves it. Where the events were made again, it is at most the window of the position that was left.
abbrev pub BackKeeps : Result Back NoMemory → (window position before now : ℕ) → Type 0
BackKeeps (Ok (back.Went h)) window position before now = (before < position → now ≡ before) × (position ≤ before → now ≤ window)
BackKeeps (Ok back.AtStart) window position before now = now ≡ before
BackKeeps (Err error) window position before now = now ≡ before
