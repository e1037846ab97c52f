-- How much input is read.
use Rattle.std.specs.Prelude.{ℕ}

-- the most bytes of an input
abbrev pub input_limit : ℕ
input_limit = 16777216

-- the most bytes that one read takes
abbrev pub piece_limit : ℕ
piece_limit = 4096

-- the most bytes that are taken behind a line's LF before its reply is written: those of the read that took the LF
abbrev pub most_behind : ℕ
most_behind = 4095
