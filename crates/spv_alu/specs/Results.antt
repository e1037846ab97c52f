-- What an operation gives on one lane: an integer, a Boolean, or nothing defined.
-- Where the standard leaves a result or the behaviour undefined, the lane is marked as not defined, and execution goes on.
use Rattle.std.specs.Prelude.{ℕ, Bool, if◌then◌else◌, ℤ}
use Rattle.spv_base.specs.Cell.{Cell, defined_cell, undefined_cell}
use Rattle.spv_alu.specs.Integers.{low_bits}

-- the low-order bits of an integer
abbrev pub integer : ℕ → ℤ → Cell
integer w z = defined_cell w (low_bits w z)

-- a Boolean: 1 or 0 of width 1
abbrev pub truth : Bool → Cell
truth b = defined_cell 1 (if b then 1 else 0)

-- a lane that is defined only where a test holds
abbrev pub defined_if : Bool → Cell → Cell
defined_if test l = if test then l else undefined_cell l.width
