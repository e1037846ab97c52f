-- The value of each constant of a module, with the overrides of its specialization constants (SPIR-V 1.6 sections 2.9 and 3.42.7), as
-- a fact on the whole table: the row under the id of an instruction is what the instruction gives of the rows under the ids of its
-- operands. No order of instructions is in it.
use Rattle.std.specs.Prelude.{◌≡◌, ℕ, ◌==◌, if◌then◌else◌, true, false, pos, List, [], ◌∷◌, map, Option, Some}
use Rattle.std.specs.List.{AllByRecursion, flat_map}
use Rattle.std.specs.Option.{IsSomeAnd, option_and_then, option_map, option_map_or, option_or}
use Rattle.std.specs.Simd.Lanes.{zip2}
use Rattle.spv_base.specs.Entries.{reads}
use Rattle.spv_base.specs.Cell.{Cell}
use Rattle.spv_base.specs.declared.instructions.Inst.{Inst}
use Rattle.spv_base.specs.declared.instructions.Operand.{Operand}
use Rattle.spv_types.specs.Constants.{is_constant}
use Rattle.spv_types.specs.Types.{Types, form_of}
use Rattle.spv_index.specs.Definitions.{before_functions, result_type}
use Rattle.spv_index.specs.Operands.{id_in, id_operand}
use Rattle.spv_alu.specs.Results.{integer, truth}
use Rattle.spv_alu.specs.Unary.{unary_lane, unary_op}
use Rattle.spv_alu.specs.Binary.{binary_lane, binary_op}
use Rattle.spv_alu.specs.Select.{selected}
use Rattle.spv_consts.specs.Context.{Context}
use Rattle.spv_consts.specs.Literals.{integer_width, literal_number}
use Rattle.spv_consts.specs.Operations.{lane_width}
use Rattle.spv_consts.specs.Overrides.{overridden, override_of}
use Rattle.spv_consts.specs.Rules.{opcode_of}
use Rattle.spv_consts.specs.Table.{Constants, Row}
use Rattle.spv_consts.specs.Values.{null_of, undefined_of}

-- the types of a module with the lengths of its arrays, and its table of constants
abbrev pub Known : Type 0
Known = Types × Constants

-- the leaves of an operand: those of the constant with its id; of an OpUndef they are those of its type, all undefined
abbrev pub leaves_of : Context → Known → ℕ → List Cell
leaves_of m k id = option_map_or (λ (r : Row). r.cells) (reads id k.1) (option_map_or (undefined_of k.0) (result_type m.all id) [])

-- and none of what is no id
abbrev pub leaves_if : Context → Known → Option ℕ → List Cell
leaves_if m k o = option_map_or (leaves_of m k) o []

-- those of the operand at a place
abbrev pub operand : Context → Known → Inst → ℕ → List Cell
operand m k i place = leaves_if m k (id_operand i place)

-- those of all constituents, one behind the other
abbrev pub constituents : Context → Known → Inst → List Cell
constituents m k i = flat_map (λ (o : Operand). leaves_if m k (id_in o)) i.operands

-- the lane of a literal of an integer type: as many of its low-order bits as the type is wide
abbrev pub literal : Known → Inst → Option Cell
literal k i = option_and_then (λ width. option_map (λ n. integer width (pos n)) (literal_number width i.operands)) (integer_width (form_of k.0 i.ty))

-- the lane of a specialization constant: its own, or the number that overrides it
abbrev pub specialized : Context → Inst → Cell → Cell
specialized m i lane = overridden lane (override_of m.all m.held i)

-- What an opcode gives of the operands behind it, lane by lane as in a function: OpSelect 169, the unary operations, and the
-- binary ones.
abbrev pub result_of : Context → Known → Inst → ℕ → Option (List Cell)
result_of m k i op =
    if op == 169 then Some (selected (operand m k i 1) (operand m k i 2) (operand m k i 3))
    else option_or
    (option_map (λ o. map (λ a. unary_lane o a (lane_width k.0 (form_of k.0 i.ty))) (operand m k i 1)) (unary_op op))
    (option_map (λ o. zip2 (binary_lane o) (operand m k i 1) (operand m k i 2)) (binary_op op))

-- the row under an instruction's id is of its type, and has these leaves
abbrev pub Has : Known → Inst → List Cell → Type 0
Has k i leaves = reads i.id k.1 ≡ Some (record { ty = i.ty; cells = leaves })

-- The row of a constant: OpConstantTrue 41, OpConstantFalse 42, OpConstant 43, OpConstantComposite 44, OpConstantNull 46,
-- OpSpecConstantTrue 48, OpSpecConstantFalse 49, OpSpecConstant 50, OpSpecConstantComposite 51 and OpSpecConstantOp 52.
pub record IsConstant (m : Context) (k : Known) (i : Inst) : Type 0 where
  pub true_is : i.op ≡ 41 → Has k i (truth true ∷ [])
  pub false_is : i.op ≡ 42 → Has k i (truth false ∷ [])
  pub number : i.op ≡ 43 → IsSomeAnd (literal k i) (λ lane. Has k i (lane ∷ []))
  pub composite : i.op ≡ 44 → Has k i (constituents m k i)
  pub null : i.op ≡ 46 → Has k i (null_of k.0 i.ty)
  pub spec_true : i.op ≡ 48 → Has k i (specialized m i (truth true) ∷ [])
  pub spec_false : i.op ≡ 49 → Has k i (specialized m i (truth false) ∷ [])
  pub spec_number : i.op ≡ 50 → IsSomeAnd (literal k i) (λ lane. Has k i (specialized m i lane ∷ []))
  pub spec_composite : i.op ≡ 51 → Has k i (constituents m k i)
  pub operation : i.op ≡ 52 → IsSomeAnd (option_and_then (result_of m k i) (opcode_of i)) (Has k i)

-- each constant of a module has its row
abbrev pub AreConstants : Context → Known → Type 0
AreConstants m k = AllByRecursion (λ (i : Inst). is_constant i.op ≡ true → IsConstant m k i) (before_functions m.all)
