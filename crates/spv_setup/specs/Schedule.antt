-- The schedule: the `move` and `rounds` lines written out in order, as one list of invocations.
use Rattle.std.specs.Prelude.{ℕ, nat_lt, nat_le, if◌then◌else◌, List, [], ◌∷◌, ◌++◌, length, Option, Some, None, Result, Ok, Err}
use Rattle.std.specs.List.{repeat, range_with_len}
use Rattle.spv_base.specs.declared.causes.SetupRefusal.{SetupRefusal}
use Rattle.spv_setup.specs.declared.settings.Run.{Run}
use Rattle.spv_setup.specs.declared.settings.Run.TheVariants.{Move, Rounds}

-- the entries of a part, for so many invocations: N times the one that it names, or N times each, from 0 to the last
abbrev pub entries_in : ℕ → Run → List ℕ
entries_in invocations (Move line invocation count) = repeat count (invocation ∷ [])
entries_in invocations (Rounds count) = repeat count (range_with_len 0 invocations)

abbrev pub entries_of : ℕ → List Run → List ℕ
entries_of invocations [] = []
entries_of invocations (run ∷ runs) = entries_in invocations run ++ entries_of invocations runs

-- the lowest line that names an invocation which doesn't exist
abbrev pub stray_line : ℕ → List Run → Option ℕ
stray_line invocations [] = None
stray_line invocations (Move line invocation count ∷ runs) = if nat_lt invocation invocations then stray_line invocations runs else Some line
stray_line invocations (Rounds count ∷ runs) = stray_line invocations runs

-- S5 at the lowest such line
abbrev pub moves_due : Option ℕ → Result Unit SetupRefusal
moves_due None = Ok tt
moves_due (Some line) = Err (record { code = 5; line = line })

abbrev pub check_moves : ℕ → List Run → Result Unit SetupRefusal
check_moves invocations runs = moves_due (stray_line invocations runs)

-- a schedule, and of how many invocations it is
pub record Entries : Type 0 where
  pub invocations : ℕ
  pub list : List ℕ

-- S9 at line 0 where there are more than 4,194,304 entries
unfoldable pub schedule_of : ℕ → List Run → Result Entries SetupRefusal
schedule_of invocations runs = if nat_le (length (entries_of invocations runs)) 4194304 then Ok (record { invocations = invocations; list = entries_of invocations runs }) else Err (record { code = 9; line = 0 })
