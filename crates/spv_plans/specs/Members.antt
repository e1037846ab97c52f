-- The instructions of a function, and the first of them at which a run stops (SPIR-V 1.6 section 2.4).
use Rattle.std.specs.Prelude.{ℕ, ◌==◌, ◌&&◌, if◌then◌else◌, Bool, List, [], ◌∷◌, Option, find, option_map}
use Rattle.std.specs.List.{filter}
use Rattle.spv_base.specs.declared.instructions.Inst.{Inst}
use Rattle.spv_index.specs.declared.positions.Position.{Position}
use Rattle.spv_index.specs.Classes.{is_executable}
use Rattle.spv_index.specs.Positions.{Stand, in_block, in_function, stands_of}

-- a position in the function with an id
abbrev pub is_within : ℕ → Position → Bool
is_within function position = in_function position.stage && (position.function == function)

abbrev pub stands_in : ℕ → Stand → Bool
stands_in function s = is_within function s.position

-- the instructions of the function with an id, in the order of the module: those behind its OpFunction, up to its OpFunctionEnd
abbrev pub members : List Inst → ℕ → List Stand
members insts function = filter (stands_in function) (stands_of insts)

-- a run stops at it: an executable in a block, which is no label, phi, variable, line, merge or OpNop, and has a meaning at run time
abbrev pub is_stop : Stand → Bool
is_stop s = is_executable s.class && in_block s.position.stage

-- the word of the first of some instructions at which a run stops
abbrev pub first_stop : List Stand → Option ℕ
first_stop ss = option_map (λ (s : Stand). s.inst.word) (find is_stop ss)

-- the first ones of a list that pass a test
abbrev pub leading : {X : Type 0} → (X → Bool) → List X → List X
leading passes [] = []
leading passes (x ∷ xs) = if passes x then x ∷ leading passes xs else []
