-- The names of source files, numbered in the order in which they are met.
use Rattle.std.specs.Prelude.{◌≡◌, ◌↔◌, ℕ, List, Some, slice_get}
use Rattle.std.specs.BTreeMap as tree
use Rattle.std.specs.Ordering.{nat_cmp}
use Rattle.spv_dbg.specs.Names.{number_under}
use Rattle.spv_dbg.specs.Tables.{Tables}
use Rattle.spv_scopes.specs.declared.files.Files.{Files}
use Rattle.spv_scopes.specs.Shown.{string_in}

-- under each name stands its number and no other, and under ids the numbers of their names
pub record AreFiles (t : Tables) (files : Files) : Type 0 where
  pub named : (n : ℕ) (name : List ℕ) → (number_under files.names name ≡ Some n) ↔ (slice_get files.list.items n ≡ Some name)
  pub known : (id n : ℕ) → tree.get nat_cmp files.ids id ≡ Some n → slice_get files.list.items n ≡ Some (string_in t id)

-- each file keeps its number
abbrev pub Grows : List (List ℕ) → List (List ℕ) → Type 0
Grows old new = (n : ℕ) (name : List ℕ) → slice_get old n ≡ Some name → slice_get new n ≡ Some name
