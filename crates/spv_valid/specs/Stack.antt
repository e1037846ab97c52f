-- How many cells the frames of an invocation have at most: those of the registers and variables of each function in a chain
-- of calls (this project's profile). A pointer is one cell. Numbers stop at the greatest of 64 bits.
use Rattle.std.specs.Prelude.{ℕ, ◌+◌, ◌==◌, if◌then◌else◌, List, [], ◌∷◌, Option, Some, None}
use Rattle.std.specs.Option.{option_and_then, option_map, option_map_or}
use Rattle.std.specs.List.{flat_map}
use Rattle.spv_base.specs.Entries.{reads}
use Rattle.spv_base.specs.declared.instructions.Inst.{Inst}
use Rattle.spv_types.specs.Types.{Types, form_of}
use Rattle.spv_types.specs.Cells.{cells_of}
use Rattle.spv_base.specs.Saturation.{saturated}
use Rattle.spv_types.specs.Queries.{pointee}
use Rattle.spv_index.specs.Definitions.{type_in}
use Rattle.spv_index.specs.Positions.{Stand, in_function, stands_of}
use Rattle.spv_cfg.specs.Calls.{Calls, calls_in, calls_of, functions_of, numbered}
use Rattle.spv_cfg.specs.Chains.{heaviest, limit}

-- what a variable (OpVariable, 59) keeps has the target of its pointer type; any other result has its own type, where it has one
abbrev pub kept_type : Types → Inst → Option ℕ
kept_type ts i = if i.op == 59 then option_map (λ p. p.target) (pointee (form_of ts i.ty)) else type_in i

-- the cells of an instruction's register or variable, where it keeps one of a type that has a number of cells
abbrev pub kept_cells : Types → Inst → Option ℕ
kept_cells ts i = option_map saturated (option_and_then (cells_of ts) (kept_type ts i))

-- a function's number with some cells of it
abbrev pub kept_by : Option ℕ → Option ℕ → List (ℕ × ℕ)
kept_by None cells = []
kept_by (Some f) None = []
kept_by (Some f) (Some n) = (f, n) ∷ []

-- the cells of each instruction in a function, with the number of the function
abbrev pub kept_in : Types → List (ℕ × ℕ) → Stand → List (ℕ × ℕ)
kept_in ts numbers s = if in_function s.position.stage then kept_by (reads s.position.function numbers) (kept_cells ts s.inst) else []

abbrev pub cells_by_function : Types → Calls → List Stand → List (ℕ × ℕ)
cells_by_function ts calls stood = flat_map (kept_in ts (numbered 0 calls.functions)) stood

-- the cells of the function with a number
unfoldable pub weight : List (ℕ × ℕ) → ℕ → ℕ
weight [] f = 0
weight (e ∷ es) f = (if e.0 == f then e.1 else 0) + weight es f

-- the cells of each function of a module
abbrev pub weights_of : Types → List Inst → ℕ → ℕ
weights_of ts insts = weight (cells_by_function ts (calls_in insts) (stands_of insts))

-- the cells of the heaviest chain of calls from the function with an id; where a module is accepted no chain is longer than the limit
unfoldable pub stack_cells : Types → List Inst → ℕ → ℕ
stack_cells ts insts function =
    saturated (option_map_or (heaviest limit (weights_of ts insts) (calls_of insts)) (reads function (numbered 0 (functions_of insts))) 0)
