-- The inputs that are made for a number `n`: a module, a setup for it, and commands to the debugger.
use Rattle.std.specs.Prelude.{ℕ, ◌+◌, ◌*◌, List, ◌∷◌, ◌++◌, codes, decimal}
use Rattle.std.specs.List.{flat_map, repeat}
use Rattle.byteorder.specs.Endian.{little_bytes}
use Rattle.spv_ops.specs.Encoding.{encoding}
use Rattle.spv_make.specs.declared.making.Made.{Made}
use Rattle.spv_make.specs.Instructions.{instructions}

-- how often each invocation goes round its loop
abbrev pub turns_for : ℕ → ℕ
turns_for n = 4 * n

-- how many events each of the 64 invocations has: 4 before the loop, 14 each time round (a barrier is two of them, the coming and the going),
-- the 2 that end it, and 3 behind it
abbrev pub rounds_for : ℕ → ℕ
rounds_for n = 9 + 56 * n

-- the magic number, version 1.6, no generator, the Bound, the schema (SPIR-V 1.6 section 2.3); and then the instructions
unfoldable pub words_for : ℕ → List ℕ
words_for n = 0x07230203 ∷ 0x00010600 ∷ 0 ∷ 68 ∷ 0 ∷ flat_map encoding (instructions (turns_for n))

-- the lowest byte of each word stands first
unfoldable pub module_for : ℕ → List ℕ
module_for n = flat_map (little_bytes 4) (words_for n)

-- the buffer of the shader has 64 integers
unfoldable pub setup_for : ℕ → List ℕ
setup_for n = codes "spvdbg-setup 1\nbuffer 0 0 zero 256\nrounds " ++ decimal (rounds_for n) ++ codes "\n"

-- to the line 4 n times, to the end of the run, and back
unfoldable pub commands_for : ℕ → List ℕ
commands_for n =
    codes "info\nbreak 4\n" ++ repeat n (codes "continue\n") ++ codes "print acc\ngoto " ++ decimal (64 * rounds_for n)
    ++ codes "\nrcontinue\nprint acc\nback 1024\nprint acc\ngoto 0\nquit\n"

-- the three of them
abbrev pub made_for : ℕ → Made
made_for n = record { «module» = module_for n; setup = setup_for n; commands = commands_for n }
