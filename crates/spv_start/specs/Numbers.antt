-- Integers in the bytes of a buffer, the lowest byte first.
use Rattle.std.specs.Prelude.{ℕ, zero, suc, ◌+◌, ◌*◌, ◌/◌, ◌==◌, ◌||◌, if◌then◌else◌, List, slice_get, unwrap_or}
use Rattle.spv_base.specs.Cell.{Cell, defined_cell, undefined_cell}

-- the byte at a place; those behind the bytes that are written out are 0
abbrev pub byte_at : List ℕ → ℕ → ℕ
byte_at bytes at = unwrap_or (slice_get bytes at) 0

-- the number of so many bytes from a place on
abbrev pub number_at : List ℕ → ℕ → ℕ → ℕ
number_at bytes at zero = 0
number_at bytes at (suc n) = byte_at bytes at + 256 * number_at bytes (at + 1) n

-- the integer of a width that begins at a place; no integer has another width than these
abbrev pub scalar_at : List ℕ → ℕ → ℕ → Cell
scalar_at bytes at width =
    if (width == 8 || width == 16) || (width == 32 || width == 64) then defined_cell width (number_at bytes at (width / 8)) else undefined_cell 1
