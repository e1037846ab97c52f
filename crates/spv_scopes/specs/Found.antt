-- Line heads while they are looked for.
use Rattle.std.specs.Prelude.{◌≡◌, ◌↔◌, ◌<◌, ℕ, true, false, if◌then◌else◌, List, [], ◌∷◌, length, IfSome, option_map, slice_get, Option, Some, None}
use Rattle.std.specs.Option.{option_map_or}
use Rattle.spv_index.specs.Positions.{Stand}
use Rattle.spv_dbg.specs.Names.{number_under}
use Rattle.spv_dbg.specs.Tables.{Tables}
use Rattle.spv_scopes.specs.declared.heads.Found.{Found}
use Rattle.spv_scopes.specs.declared.heads.Key.{Key}
use Rattle.spv_scopes.specs.Files.{AreFiles}
use Rattle.spv_scopes.specs.Heads.{Heads, is_stop, key_back}
use Rattle.spv_scopes.specs.Numbered.{NumberedLine, are_within, named, named_key, same_number, words_under, words_with}
use Rattle.spv_scopes.specs.Spots.{Spots}

-- the line that begins at an executable, where one stands before it or none
abbrev pub begun : Option Key → Option Key → Option NumberedLine
begun before None = None
begun before (Some key) = if option_map_or (λ k. same_number k key) before false then None else Some (key.file, key.line)

abbrev pub entry_of : ℕ → Option NumberedLine → List (ℕ × NumberedLine)
entry_of word None = []
entry_of word (Some line) = (word, line) ∷ []

-- what is put behind the heads at an executable with a key: one, where a run stops there and a line begins
abbrev pub put_at : Stand → Option Key → Option Key → List (ℕ × NumberedLine)
put_at s before key = if is_stop s then entry_of s.inst.word (begun before key) else []

-- the heads with the names of their files
abbrev pub found_heads : Found → Heads
found_heads found = named found.files.list.items found.entries.items

-- under each name stands its number and no other, under each line the words of its heads, and each head's file has a name
pub record AreKept (found : Found) : Type 0 where
  pub named : (n : ℕ) (name : List ℕ) → (number_under found.files.names name ≡ Some n) ↔ (slice_get found.files.list.items n ≡ Some name)
  pub lines_are : (line : NumberedLine) → words_under found.lines line ≡ words_with found.entries.items line
  pub within : are_within found.files.list.items found.entries.items ≡ true

-- what was found behind some instructions, which are given from the last one back
pub record IsFound (t : Tables) (spots : Spots) (passed : List Stand) (found : Found) : Type 0 where
  pub files_are : AreFiles t found.files
  pub lines_are : (line : NumberedLine) → words_under found.lines line ≡ words_with found.entries.items line
  pub within : are_within found.files.list.items found.entries.items ≡ true
  pub before_is : option_map (named_key found.files.list.items) found.before ≡ key_back t spots passed
  pub before_within : IfSome found.before (λ k. k.file < length found.files.list.items)
