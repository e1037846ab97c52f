-- What a module and its run have in numbers.
use Rattle.std.specs.Prelude.{ℕ, ◌+◌, List, [], ◌∷◌, length}
use Rattle.spv_base.specs.declared.instructions.Inst.{Inst}
use Rattle.spv_ops.specs.Encoding.{encoding}

-- the words of some instructions together
abbrev pub words_of : List Inst → ℕ
words_of [] = 0
words_of (i ∷ is) = length (encoding i) + words_of is

-- the words of a module: 5 of its header, and those of its instructions (SPIR-V 1.6 section 2.3)
abbrev pub module_words : List Inst → ℕ
module_words is = 5 + words_of is
