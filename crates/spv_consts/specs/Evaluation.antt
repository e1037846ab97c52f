-- The values of constants (SPIR-V 1.6 section 3.42.7).
use Rattle.std.specs.Prelude.{ℕ, ◌==◌, ◌||◌, if◌then◌else◌, true, false, List, [], ◌∷◌, map}
use Rattle.std.specs.List.{flat_map}
use Rattle.std.specs.Option.{is_some, option_map_or}
use Rattle.std.specs.Simd.Lanes.{zip2}
use Rattle.spv_base.specs.Cell.{Cell}
use Rattle.spv_base.specs.declared.instructions.Inst.{Inst}
use Rattle.spv_base.specs.declared.instructions.Operand.{Operand}
use Rattle.spv_index.specs.Operands.{id_in, id_operand}
use Rattle.spv_types.specs.Types.{form_of}
use Rattle.spv_alu.specs.Results.{truth}
use Rattle.spv_alu.specs.Unary.{unary_op}
use Rattle.spv_consts.specs.Table.{Row}
use Rattle.spv_consts.specs.Values.{null_of}
use Rattle.spv_consts.specs.Literals.{integer_width, literal_lane}
use Rattle.spv_consts.specs.Overrides.{overridden, override_of}
use Rattle.spv_consts.specs.Lanes.{binary_lane, unary_lane}
use Rattle.spv_consts.specs.Operations.{lane_width, selected}
use Rattle.spv_consts.specs.Context.{Context}
use Rattle.spv_consts.specs.State.{State, given_cells}
use Rattle.spv_consts.specs.Rules.{is_composite, opcode_of}

-- the lane of a scalar constant without its override: OpConstantTrue 41 and OpSpecConstantTrue 48, OpConstantFalse 42 and
-- OpSpecConstantFalse 49, and the integers
abbrev pub scalar_lane : State → Inst → Cell
scalar_lane s i =
    if i.op == 41 || i.op == 48 then truth true
    else (if i.op == 42 || i.op == 49 then truth false
    else literal_lane (integer_width (form_of s.types i.ty)) i.operands)

-- the leaves of the operand at a place; the opcode of an OpSpecConstantOp is at place 0
abbrev pub operand_at : Context → State → Inst → ℕ → List Cell
operand_at m s i place = given_cells m s (id_operand i place)

abbrev pub select_cells : Context → State → Inst → List Cell
select_cells m s i = selected (operand_at m s i 1) (operand_at m s i 2) (operand_at m s i 3)

abbrev pub unary_cells : Context → State → Inst → ℕ → List Cell
unary_cells m s i op = map (unary_lane op (lane_width s.types (form_of s.types i.ty))) (operand_at m s i 1)

abbrev pub binary_cells : Context → State → Inst → ℕ → List Cell
binary_cells m s i op = zip2 (binary_lane op) (operand_at m s i 1) (operand_at m s i 2)

-- the leaves of the value of an OpSpecConstantOp, by its opcode: OpSelect 169, a unary or a binary operation
abbrev pub computed_cells : Context → State → Inst → ℕ → List Cell
computed_cells m s i op =
    if op == 169 then select_cells m s i
    else (if is_some (unary_op op) then unary_cells m s i op
    else binary_cells m s i op)

abbrev pub operation_cells : Context → State → Inst → List Cell
operation_cells m s i = option_map_or (computed_cells m s i) (opcode_of i) []

-- the leaves of the value of a constant, after what stands before it: OpConstantNull 46 and OpSpecConstantOp 52, composites, and
-- scalars
abbrev pub cells_of : Context → State → Inst → List Cell
cells_of m s i =
    if is_composite i.op then flat_map (λ (o : Operand). given_cells m s (id_in o)) i.operands
    else (if i.op == 46 then null_of s.types i.ty
    else (if i.op == 52 then operation_cells m s i
    else overridden (scalar_lane s i) (override_of m.all m.held i) ∷ []))

-- a constant of its type
abbrev pub value_of : Context → State → Inst → Row
value_of m s i = record { ty = i.ty; cells = cells_of m s i }
