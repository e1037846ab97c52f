-- Numbers for SpecIds that no constant has, or that don't fit the type of one that has it.
use Rattle.std.specs.Prelude.{ℕ, not, ◌||◌, Bool, if◌then◌else◌, List, [], ◌∷◌, Option, Some, None, Result, Ok, Err}
use Rattle.spv_base.specs.declared.causes.SetupRefusal.{SetupRefusal}
use Rattle.spv_base.specs.declared.instructions.Inst.{Inst}
use Rattle.spv_types.specs.Types.{Types}
use Rattle.spv_consts.specs.Overrides.{Numbers, has_misfit, is_known}

-- the number for a SpecId has no constant, or doesn't fit one
abbrev pub is_unfit : List Inst → Types → Numbers → ℕ → Bool
is_unfit all ts over id = not (is_known all all id) || has_misfit all ts over all id

-- the lowest line of a number that is unfit; each number has a line
abbrev pub unfit_line : List Inst → Types → Numbers → Numbers → List ℕ → Option ℕ
unfit_line all ts over [] lines = None
unfit_line all ts over (o ∷ os) [] = None
unfit_line all ts over (o ∷ os) (line ∷ lines) = if is_unfit all ts over o.0 then Some line else unfit_line all ts over os lines

abbrev pub numbers_due : Option ℕ → Result Unit SetupRefusal
numbers_due None = Ok tt
numbers_due (Some line) = Err (record { code = 8; line = line })

-- S8 at the lowest such line
abbrev pub check_numbers : List Inst → Types → Numbers → List ℕ → Result Unit SetupRefusal
check_numbers all ts over lines = numbers_due (unfit_line all ts over over lines)
