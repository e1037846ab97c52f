-- What is known of a module's constants up to an instruction: the types with the lengths set so far, the values so far, how
-- many types were passed, and the cells of all constants so far.
use Rattle.std.specs.Prelude.{ℕ, ◌||◌, Bool, false, List, [], Option}
use Rattle.std.specs.Option.{is_some, option_map_or}
use Rattle.spv_base.specs.Entries.{reads}
use Rattle.spv_base.specs.Cell.{Cell}
use Rattle.spv_base.specs.Options.{holds}
use Rattle.spv_types.specs.Types.{Types, number_of}
use Rattle.spv_index.specs.Definitions.{result_type}
use Rattle.spv_consts.specs.Table.{Constants, Row}
use Rattle.spv_consts.specs.Values.{undefined_of}
use Rattle.spv_consts.specs.Context.{Context, has_undef_before}

pub record State : Type 0 where
  pub types : Types
  pub values : Constants
  pub known : ℕ
  pub cells : ℕ

-- an id is that of the first type that was not passed
abbrev pub is_next : State → ℕ → Bool
is_next s id = holds s.known (number_of s.types id)

-- an operand: a constant, or an OpUndef, before a word
abbrev pub is_operand : Context → State → ℕ → ℕ → Bool
is_operand m s word id = is_some (reads id s.values) || has_undef_before m word id

-- the leaves of its value, which for an OpUndef is the undefined one of its type
abbrev pub operand_cells : Context → State → ℕ → List Cell
operand_cells m s id = option_map_or (λ (r : Row). r.cells) (reads id s.values) (option_map_or (undefined_of s.types) (result_type m.all id) [])

-- an operand that may not be there, or be no id
abbrev pub is_given : Context → State → ℕ → Option ℕ → Bool
is_given m s word o = option_map_or (is_operand m s word) o false

abbrev pub given_cells : Context → State → Option ℕ → List Cell
given_cells m s o = option_map_or (operand_cells m s) o []
