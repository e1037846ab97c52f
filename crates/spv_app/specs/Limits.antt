-- How much of files is read.
use Rattle.std.specs.Prelude.{ℕ}

-- the most bytes of a module, and of a setup
abbrev pub binary_limit : ℕ
binary_limit = 4194304

abbrev pub setup_limit : ℕ
setup_limit = 67108864
