-- Entries, and how much they count.
use Rattle.std.specs.Prelude.{ℕ, ◌+◌, List, [], ◌∷◌, length, max}
use Rattle.spv_base.specs.declared.values.Root.{Root}
use Rattle.spv_base.specs.declared.values.Value.{Value}
use Rattle.spv_types.specs.Rows.{leaves}
use Rattle.spv_undo.specs.declared.entries.Entry.{Entry}
use Rattle.spv_undo.specs.declared.entries.Entry.TheVariants.{Leaf, Part}

-- An entry that puts a part of a variable back counts as many as the leaves of the part, and one where it has none. Every other one counts
-- one, a register's too, whatever the register holds.
abbrev pub count_of : Entry → ℕ
count_of (Part b) = max 1 (length (leaves b.value.row))
count_of _ = 1

abbrev pub count : List Entry → ℕ
count [] = 0
count (e ∷ es) = count_of e + count es

-- the entry of a whole variable of one cell that had a value
abbrev pub variable_item : Root → Value → Entry
variable_item root tree = Leaf root 0 (record { of = record {}; value = [] }) tree
