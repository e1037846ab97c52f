-- Line heads as they are kept: with the numbers of their files.
use Rattle.std.specs.Prelude.{◌≡◌, ◌↔◌, ℕ, ◌==◌, ◌&&◌, nat_lt, Bool, true, List, [], map, length, slice_get, unwrap_or, Some, Vec}
use Rattle.std.specs.BTreeMap as tree
use Rattle.std.specs.BTreeMap.{BTreeMap}
use Rattle.std.specs.List.{filter, list_all}
use Rattle.std.specs.Option.{option_map_or}
use Rattle.std.specs.declared.alloc.Global.{Global}
use Rattle.spv_dbg.specs.Names.{number_under}
use Rattle.spv_index.specs.Keys.{pair_cmp}
use Rattle.spv_scopes.specs.declared.heads.Key.{Key}
use Rattle.spv_scopes.specs.declared.heads.Heads.TheInside.{Inside}
use Rattle.spv_scopes.specs.Heads.{Heads, NamedLine}

-- a line of the file with a number
abbrev pub NumberedLine : Type 0
NumberedLine = ℕ × ℕ

-- it with the name of the file, where files are numbered in the order of a list
abbrev pub named_line : List (List ℕ) → NumberedLine → NamedLine
named_line files line = (unwrap_or (slice_get files line.0) [], line.1)

abbrev pub named_key : List (List ℕ) → Key → NamedLine × ℕ
named_key files k = (named_line files (k.file, k.line), k.inlined)

abbrev pub named : List (List ℕ) → List (ℕ × NumberedLine) → Heads
named files entries = map (λ e. (e.0, named_line files e.1)) entries

-- the file of each has a name
abbrev pub are_within : List (List ℕ) → List (ℕ × NumberedLine) → Bool
are_within files entries = list_all (λ (e : ℕ × NumberedLine). nat_lt e.1.0 (length files)) entries

abbrev pub is_line : NumberedLine → ℕ × NumberedLine → Bool
is_line line e = e.1.0 == line.0 && e.1.1 == line.1

-- the words of the heads of a line
abbrev pub words_with : List (ℕ × NumberedLine) → NumberedLine → List ℕ
words_with entries line = map (λ e. e.0) (filter (is_line line) entries)

-- what a map has under a line
abbrev pub words_under : BTreeMap (ℕ × ℕ) (Vec ℕ Global) → NumberedLine → List ℕ
words_under lines line = option_map_or (λ words. words.items) (tree.get pair_cmp lines line) []

-- the same file, line and InlinedAt
abbrev pub same_number : Key → Key → Bool
same_number a b = (a.file == b.file && a.line == b.line) && a.inlined == b.inlined

-- ---- what is stored

abbrev pub view_of : Inside → Heads
view_of x = named x.files.items x.table

pub record AreHeads (x : Inside) : Type 0 where
  pub names_are : (n : ℕ) (name : List ℕ) → (number_under x.names name ≡ Some n) ↔ (slice_get x.files.items n ≡ Some name)
  pub lines_are : (line : NumberedLine) → words_under x.lines line ≡ words_with x.table line
  pub within : are_within x.files.items x.table ≡ true
