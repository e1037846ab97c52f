-- Line heads: the executables at which a line of the source begins. One is a head where it has a line, and is the first executable of its block
-- or the one before it in the block has another file, line or InlinedAt. Files are compared by their names.
use Rattle.std.specs.Prelude.{ℕ, ◌==◌, ◌&&◌, Bool, if◌then◌else◌, List, [], ◌∷◌, ◌++◌, map, Option, Some, None}
use Rattle.std.specs.List.{filter}
use Rattle.std.specs.Option.{is_some, option_and_then, option_eq, option_map_or}
use Rattle.std.specs.Str.{bytes_eq}
use Rattle.spv_base.specs.Entries.{reads}
use Rattle.spv_base.specs.declared.instructions.Inst.{Inst}
use Rattle.spv_index.specs.Classes.{is_executable, is_label}
use Rattle.spv_index.specs.Positions.{Stand, in_block, stands_of}
use Rattle.spv_dbg.specs.Tables.{Tables}
use Rattle.spv_valid.specs.Acceptance.{Accepted}
use Rattle.spv_scopes.specs.declared.places.Place.{Place}
use Rattle.spv_scopes.specs.Spots.{Spots, spot_in}
use Rattle.spv_scopes.specs.Shown.{string_in}

-- a line of a file by its name
abbrev pub NamedLine : Type 0
NamedLine = List ℕ × ℕ

-- for the word of each head, its line
abbrev pub Heads : Type 0
Heads = List (ℕ × NamedLine)

-- what tells executables apart: file, line and InlinedAt, where there is a line
abbrev pub key_of : Tables → Place → Option (NamedLine × ℕ)
key_of t p = if p.line == 0 then None else Some ((string_in t p.file, p.line), p.inlined)

abbrev pub same_line : NamedLine → NamedLine → Bool
same_line a b = bytes_eq a.0 b.0 && a.1 == b.1

abbrev pub same_key : NamedLine × ℕ → NamedLine × ℕ → Bool
same_key a b = same_line a.0 b.0 && a.1 == b.1

-- the executable before an instruction in its block, where those of the module before it are given, the last one first
abbrev pub executable_back : List Stand → Option Inst
executable_back [] = None
executable_back (s ∷ before) = if is_label s.class then None else if is_executable s.class then Some s.inst else executable_back before

-- the line that begins at an executable with a key, where the one before it in the block has a key or none
abbrev pub begun : Option (NamedLine × ℕ) → Option (NamedLine × ℕ) → Option NamedLine
begun before None = None
begun before (Some k) = if option_eq same_key before (Some k) then None else Some k.0

-- a run stops there: an executable in a block
abbrev pub is_stop : Stand → Bool
is_stop s = is_executable s.class && in_block s.position.stage

module _ (t : Tables) (spots : Spots) where
  abbrev pub key_at : Inst → Option (NamedLine × ℕ)
  key_at i = key_of t (spot_in spots i.word).place

  -- the key of the executable before, where there is one and it has a line
  abbrev pub key_back : List Stand → Option (NamedLine × ℕ)
  key_back before = option_and_then key_at (executable_back before)

  abbrev pub head_at : List Stand → Stand → Heads
  head_at before s = if is_stop s then option_map_or (λ line. (s.inst.word, line) ∷ []) (begun (key_back before) (key_at s.inst)) [] else []

  abbrev pub heads_from : List Stand → List Stand → Heads
  heads_from before [] = []
  heads_from before (s ∷ ss) = head_at before s ++ heads_from (s ∷ before) ss

unfoldable pub heads_of : Accepted → Tables → Spots → Heads
heads_of m t spots = heads_from t spots [] (stands_of m.insts)

-- ---- look-ups

abbrev pub is_head : Heads → ℕ → Bool
is_head heads word = is_some (reads word heads)

-- the number of the line that begins at a word, and 0 where none does
abbrev pub line_begun : Heads → ℕ → ℕ
line_begun heads word = option_map_or (λ line. line.1) (reads word heads) 0

-- the words of the heads of a line, ascending
abbrev pub heads_with : Heads → NamedLine → List ℕ
heads_with heads line = map (λ h. h.0) (filter (λ h. same_line h.1 line) heads)
