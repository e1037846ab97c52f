-- Which operands are ids and which are literal words, and the literal words among some operands, in their order.
use Rattle.std.specs.Prelude.{ℕ, Bool, List}
use Rattle.std.specs.List.{flat_map}
use Rattle.std.specs.Option.{is_some, option_to_list}
use Rattle.spv_base.specs.declared.instructions.Operand.{Operand}
use Rattle.spv_index.specs.Operands.{id_in, literal_in}

abbrev pub is_name : Operand → Bool
is_name o = is_some (id_in o)

abbrev pub is_literal : Operand → Bool
is_literal o = is_some (literal_in o)

abbrev pub literals_in : List Operand → List ℕ
literals_in operands = flat_map (λ o. option_to_list (literal_in o)) operands
