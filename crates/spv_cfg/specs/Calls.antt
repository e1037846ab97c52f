-- Which function calls which, and which of them are too deep.
use Rattle.std.specs.Prelude.{ℕ, suc, List, [], ◌∷◌, ◌++◌, ◌==◌, ◌&&◌, nat_lt, if◌then◌else◌, Option, Some, None}
use Rattle.std.specs.List.{flat_map}
use Rattle.std.specs.Option.{option_and_then}
use Rattle.spv_base.specs.Entries.{reads}
use Rattle.spv_base.specs.declared.instructions.Inst.{Inst}
use Rattle.spv_index.specs.Operands.{id_operand}
use Rattle.spv_index.specs.Positions.{Stand, in_function, stands_of}

-- the functions: the id and the word of each OpFunction
abbrev pub function_of : Inst → List (ℕ × ℕ)
function_of inst = if inst.op == 54 then (inst.id, inst.word) ∷ [] else []

abbrev pub functions_of : List Inst → List (ℕ × ℕ)
functions_of insts = flat_map function_of insts

-- functions are numbered in the order of the module: the numbers by the ids
abbrev pub numbered : ℕ → List (ℕ × ℕ) → List (ℕ × ℕ)
numbered k [] = []
numbered k (f ∷ fs) = (f.0, k) ∷ numbered (suc k) fs

abbrev pub call_between : Option ℕ → Option ℕ → List (ℕ × ℕ)
call_between (Some caller) (Some callee) = (caller, callee) ∷ []
call_between (Some caller) None = []
call_between None callee = []

-- the number of the function that an OpFunctionCall names: its first operand
abbrev pub callee_of : List (ℕ × ℕ) → Inst → Option ℕ
callee_of numbers inst = option_and_then (λ id. reads id numbers) (id_operand inst 0)

-- the calls: the number of the function that an OpFunctionCall (57) stands in, and the number of the one that it names
abbrev pub call_of : List (ℕ × ℕ) → Stand → List (ℕ × ℕ)
call_of numbers s =
    if (s.inst.op == 57) && in_function s.position.stage
    then call_between (reads s.position.function numbers) (callee_of numbers s.inst)
    else []

abbrev pub calls_of : List Inst → List (ℕ × ℕ)
calls_of insts = flat_map (call_of (numbered 0 (functions_of insts))) (stands_of insts)

-- the functions of a module, and the calls among them by their numbers
pub record Calls : Type 0 where
  pub functions : List (ℕ × ℕ)
  pub list : List (ℕ × ℕ)

abbrev pub calls_in : List Inst → Calls
calls_in insts = record { functions = functions_of insts; list = calls_of insts }

-- the functions, each with the length of its longest chain
abbrev pub depths : List (ℕ × ℕ) → List ℕ → List (ℕ × ℕ)
depths [] ns = []
depths (f ∷ fs) [] = []
depths (f ∷ fs) (n ∷ ns) = (f.0, n) ∷ depths fs ns

-- a chain of so many functions is too long
abbrev pub over : ℕ → ℕ → List ℕ
over word n = if nat_lt 64 n then word ∷ [] else []

-- the words of those from which a chain of more than 64 functions starts, or a cycle is reached
abbrev pub too_deep : List (ℕ × ℕ) → List ℕ → List ℕ
too_deep [] ns = []
too_deep (f ∷ fs) [] = []
too_deep (f ∷ fs) (n ∷ ns) = over f.1 n ++ too_deep fs ns
