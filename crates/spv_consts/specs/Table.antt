-- The constants of a module in its order, each id with its row: its type, and the leaves of its value in order (SPIR-V 1.6
-- section 3.42.7).
use Rattle.std.specs.Prelude.{◌≡◌, ℕ, ◌+◌, List, [], ◌∷◌, length, map, take, drop, Option, Some, None, if◌then◌else◌, ◌==◌}
use Rattle.std.specs.List.{flat_map}
use Rattle.std.specs.Option.{option_and_then}
use Rattle.spv_base.specs.Entries.{reads}
use Rattle.spv_base.specs.Cell.{Cell}
use Rattle.spv_index.specs.Firsts.{place_of, slot}
use Rattle.spv_consts.specs.declared.table.Entry.{Entry}
use Rattle.spv_consts.specs.declared.table.RowPlace.{RowPlace}

pub record Row : Type 0 where
  pub ty : ℕ
  pub cells : List Cell

abbrev pub Constants : Type 0
Constants = List (ℕ × Row)

-- the one leaf of a row that has one
abbrev pub only : List Cell → Option Cell
only [] = None
only (c ∷ []) = Some c
only (c ∷ d ∷ ds) = None

-- the lane of a constant that is a scalar
abbrev pub scalar_of : Constants → ℕ → Option Cell
scalar_of cs id = option_and_then (λ (r : Row). only r.cells) (reads id cs)

-- ---- the place of a row

-- the leaves of all constants, one row behind the other
abbrev pub all_cells : Constants → List Cell
all_cells cs = flat_map (λ (c : ℕ × Row). c.1.cells) cs

-- the place of the row of the first constant with an id, where the leaves of the first constant begin at a number
abbrev pub place_from : ℕ → Constants → ℕ → Option RowPlace
place_from start [] id = None
place_from start (c ∷ cs) id =
    if c.0 == id then Some (record { ty = c.1.ty; start = start; len = length c.1.cells })
    else place_from (start + length c.1.cells) cs id

-- the row at a place
abbrev pub row_at : Constants → RowPlace → Row
row_at cs place = record { ty = place.ty; cells = take place.len (drop place.start (all_cells cs)) }

-- ---- rows in one list of cells

-- the row of an entry
abbrev pub entry_row : List Cell → Entry → ℕ × Row
entry_row cells e = (e.id, record { ty = e.ty; cells = take e.len (drop e.start cells) })

abbrev pub rows_of : List Cell → List Entry → Constants
rows_of cells entries = map (entry_row cells) entries

-- entries lie one behind the other, from a place to another
abbrev pub AreInRow : ℕ → List Entry → ℕ → Type 0
AreInRow start [] end = start ≡ end
AreInRow start (e ∷ es) end = (e.start ≡ start) × AreInRow (start + e.len) es end

-- entries take all the cells, and a list has by ids the places of their first entries
pub record AreRows (cells : List Cell) (entries : List Entry) (places : List (Option ℕ)) : Type 0 where
  pub in_row : AreInRow 0 entries (length cells)
  pub places_are : (id : ℕ) → slot places id ≡ place_of (rows_of cells entries) id
