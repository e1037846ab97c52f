-- The variables of the functions of a module, in its order (SPIR-V 1.6 section 3.42.8, OpVariable).
use Rattle.std.specs.Prelude.{ℕ, Bool, List, [], Option, Some, None, Vec, filter}
use Rattle.std.specs.BTreeMap.{BTreeMap, get}
use Rattle.std.specs.Option.{option_and_then, option_map_or}
use Rattle.std.specs.Ordering.{nat_cmp}
use Rattle.std.specs.declared.alloc.Global.{Global}
use Rattle.spv_base.specs.Options.{holds}
use Rattle.spv_valid.specs.Acceptance.{Accepted}
use Rattle.spv_valid.specs.Meanings.{meaning_of}
use Rattle.spv_valid.specs.declared.meanings.Meaning.{Meaning}
use Rattle.spv_valid.specs.declared.meanings.Meaning.TheVariants.{Variable}
use Rattle.spv_initial.specs.Start.{variables}
use Rattle.spv_initial.specs.declared.variables.Declared.{Declared}

-- the function whose variable an id stands for
abbrev pub function_in : Meaning → Option ℕ
function_in (Variable function) = Some function
function_in _ = None

abbrev pub function_of : Accepted → Declared → Option ℕ
function_of a d = option_and_then function_in (meaning_of a.insts d.id)

-- a variable is one of a function
abbrev pub is_variable_of : Accepted → ℕ → Declared → Bool
is_variable_of a function d = holds function (function_of a d)

-- the variables of a function
abbrev pub variables_of : Accepted → ℕ → List Declared
variables_of a function = filter (is_variable_of a function) (variables a)

-- ---- as the code keeps them

-- those under the id of a function
abbrev pub under : BTreeMap ℕ (Vec Declared Global) → ℕ → List Declared
under groups function = option_map_or (λ v. v.items) (get nat_cmp groups function) []
