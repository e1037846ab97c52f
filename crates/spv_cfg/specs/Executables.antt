-- The executables of each block, and which one comes after which.
use Rattle.std.specs.Prelude.{ℕ, List, [], ◌∷◌, ◌==◌, ◌&&◌, if◌then◌else◌, Option, Some, None}
use Rattle.std.specs.List.{flat_map}
use Rattle.spv_base.specs.declared.instructions.Inst.{Inst}
use Rattle.spv_index.specs.Classes.{is_executable}
use Rattle.spv_index.specs.Positions.{Stand, in_block, stands_of}

abbrev pub executable_of : Stand → List (ℕ × ℕ)
executable_of s = if is_executable s.class && in_block s.position.stage then (s.position.label, s.inst.word) ∷ [] else []

-- the executables of all blocks in the order of the module: the label of the block, and the word of the executable
abbrev pub executables_of : List Inst → List (ℕ × ℕ)
executables_of insts = flat_map executable_of (stands_of insts)

-- the first of these executables, where it is in the block with this label
abbrev pub following : ℕ → List (ℕ × ℕ) → Option ℕ
following label [] = None
following label (e ∷ es) = if e.0 == label then Some e.1 else None

-- each executable with the one after it in its block
abbrev pub followers_of : List (ℕ × ℕ) → List (ℕ × Option ℕ)
followers_of [] = []
followers_of (e ∷ es) = (e.1, following e.0 es) ∷ followers_of es
