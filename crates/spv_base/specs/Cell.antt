-- What a cell is to its readers: a number of some width, and whether it is defined.
use Rattle.std.specs.Prelude.{◌≡◌, ℕ, ◌<◌, ◌≤◌, ◌^◌, if◌then◌else◌, Bool, true, false, Option, Some, None}

pub record Cell : Type 0 where
  pub bits : ℕ
  pub width : ℕ
  pub defined : Bool

-- the number fits the width, and an undefined cell has the number 0
pub record IsCell (l : Cell) : Type 0 where
  pub narrow : l.width ≤ 64
  pub fits : l.bits < 2 ^ l.width
  pub zero : l.defined ≡ false → l.bits ≡ 0

-- a cell of a width
abbrev pub HasWidth : ℕ → Cell → Type 0
HasWidth width c = (c.width ≡ width) × IsCell c

-- the undefined cell of a width
abbrev pub undefined_cell : ℕ → Cell
undefined_cell w = record { bits = 0; width = w; defined = false }

-- the defined cell of a width with a number that fits it
abbrev pub defined_cell : ℕ → ℕ → Cell
defined_cell w n = record { bits = n; width = w; defined = true }

-- the number of a defined cell
abbrev pub defined_number : Cell → Option ℕ
defined_number c = if c.defined then Some c.bits else None
