-- Variables and registers, by their ids in the order of the module.
use Rattle.std.specs.Prelude.{ℕ, List, Option}
use Rattle.spv_base.specs.declared.values.Root.{Root}
use Rattle.spv_base.specs.declared.values.Root.TheVariants.{Shared, Private, Local}
use Rattle.spv_base.specs.declared.values.Value.{Value}

-- variables, each with its value
abbrev pub Roots : Type 0
Roots = List (ℕ × Value)

-- registers, each with a value or none
abbrev pub Registers : Type 0
Registers = List (ℕ × Option Value)

-- the id of the variable that a root names
abbrev pub root_id : Root → ℕ
root_id (Shared id) = id
root_id (Private id) = id
root_id (Local depth id) = id
