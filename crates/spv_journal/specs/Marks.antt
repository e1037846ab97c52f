-- Marks of events, and the changes that lie in them.
use Rattle.std.specs.Prelude.{◌≡◌, ℕ, List, [], ◌∷◌, ◌++◌, Bool, true, false, ⊤}
use Rattle.spv_base.specs.Cell.{IsCell, Cell}
use Rattle.spv_base.specs.declared.happenings.Happening.{Happening}
use Rattle.spv_base.specs.declared.values.Value.{Value}
use Rattle.spv_undo.specs.Entries.{variable_item}
use Rattle.spv_undo.specs.declared.entries.Entry.{Entry}
use Rattle.spv_undo.specs.declared.entries.Entry.TheVariants.{CellRegister, NoValue, PcMoved, StatusChanged}
use Rattle.spv_journal.specs.declared.marks.Change.{Change}
use Rattle.spv_journal.specs.declared.marks.MarkData.{MarkData}
use Rattle.spv_journal.specs.declared.marks.Change.TheVariants.{Blank, Nothing, Register, Status, Variable}
use Rattle.spv_types.specs.Rows.{leaves}

-- what happened, the changes that lie in the mark, the newest first, and how many lie beside it
pub record Marked : Type 0 where
  pub happening : Happening
  pub items : List Entry
  pub beside : ℕ

-- what happened, by the fields of a mark
abbrev pub happening_in : MarkData → Happening
happening_in m = record { inv = m.inv; kind = m.kind; word = m.word; root = m.root; line = m.line }

-- the cell
abbrev pub cell_in : MarkData → Cell
cell_in m = record { bits = m.bits; width = m.width; defined = m.defined }

-- a mark of no changes
abbrev pub data_of : Happening → MarkData
data_of h = record {
  bits = 0;
  inv = h.inv;
  word = h.word;
  root = h.root;
  line = h.line;
  beside = 0;
  change = Nothing;
  kind = h.kind;
  width = 1;
  defined = false;
  moved = false;
}

-- a move of the pc from a word, if there is one
abbrev pub moved : Bool → ℕ → List Entry
moved false word = []
moved true word = PcMoved word ∷ []

-- whether a change lies in the mark beside the move of the pc
abbrev pub is_change : Change → Bool
is_change Nothing = false
is_change _ = true

-- whether it is one of a variable
abbrev pub is_store : Change → Bool
is_store (Variable root) = true
is_store _ = false

-- the entry of a register of one cell, by the value that it had, if a mark says that it had one
abbrev pub register_item : ℕ → Value → Bool → Entry
register_item number tree false = NoValue number
register_item number tree true = CellRegister number tree

-- The changes of a mark. A register or a variable is set before the pc moves on from the word, and a status after it.
abbrev pub items_of : Bool → ℕ → Change → Value → List Entry
items_of m word Nothing tree = moved m word
items_of m word (Blank number) tree = moved m word ++ NoValue number ∷ []
items_of m word (Register number) tree = moved m word ++ CellRegister number tree ∷ []
items_of m word (Variable root) tree = moved m word ++ variable_item root tree ∷ []
items_of m word (Status status) tree = StatusChanged status ∷ moved m word

-- the tree is of the one cell that the register or the variable had
abbrev pub IsTree : Change → Cell → Value → Type 0
IsTree (Register number) cell tree = IsCell cell × (leaves tree ≡ cell ∷ [])
IsTree (Variable root) cell tree = IsCell cell × (leaves tree ≡ cell ∷ [])
IsTree _ cell tree = ⊤

-- one change more
abbrev pub with_item : Entry → Marked → Marked
with_item e m = record m { items = e ∷ m.items }
