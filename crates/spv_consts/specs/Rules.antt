-- The rules of constants and of array lengths (SPIR-V 1.6 sections 2.16.1, 3.42.6 and 3.42.7, and this project's profile),
-- by what stands before an instruction.
use Rattle.std.specs.Prelude.{ℕ, suc, ◌+◌, ◌==◌, ◌&&◌, ◌||◌, nat_lt, if◌then◌else◌, Bool, true, false, List, [], ◌∷◌, length, drop, Option, Some, None}
use Rattle.std.specs.Option.{is_some, option_and_then, option_map, option_map_or}
use Rattle.spv_base.specs.declared.instructions.Inst.{Inst}
use Rattle.spv_base.specs.declared.instructions.Operand.{Operand}
use Rattle.spv_base.specs.Options.{holds}
use Rattle.spv_types.specs.declared.forms.Form.{Form}
use Rattle.spv_types.specs.declared.forms.Form.TheVariants.{Void, Bool as Boolean, Int, Vector, Array, Runtime, Struct, Pointer, Function}
use Rattle.spv_types.specs.Types.{form_of}
use Rattle.spv_types.specs.Constants.{is_constant}
use Rattle.spv_types.specs.Rules.{is_sized_data}
use Rattle.spv_types.specs.Shapes.{part_type}
use Rattle.spv_types.specs.Queries.{is_boolean}
use Rattle.spv_index.specs.Definitions.{result_type}
use Rattle.spv_index.specs.Operands.{id_in, id_operand, literal_operand}
use Rattle.spv_typing.specs.Rules.{is_constant_operation, operand_count}
use Rattle.spv_typing.specs.Fitting.{fits}
use Rattle.spv_consts.specs.Literals.{integer_width, keeps_literal}
use Rattle.spv_consts.specs.Context.{Context}
use Rattle.spv_consts.specs.State.{State, is_given, is_operand}
use Rattle.spv_consts.specs.Lengths.{length_at}

-- the number of parts of a vector, array or struct
abbrev pub part_count : Option Form → Option ℕ
part_count (Some (Vector component count)) = Some count
part_count (Some (Array element n stride)) = n
part_count (Some (Struct members block)) = Some (length members)
part_count _ = None

-- the type of part k
abbrev pub part_type_of : Option Form → ℕ → Option ℕ
part_type_of None k = None
part_type_of (Some f) k = part_type f k

-- the result with an id has the type of a part
abbrev pub has_type : Context → Option ℕ → ℕ → Bool
has_type m part id = option_map_or (λ ty. holds ty part) (result_type m.all id) false

-- a constituent is a constant or an OpUndef before the composite, of the part's type
abbrev pub is_part : Context → State → ℕ → Option ℕ → ℕ → Bool
is_part m s word part id = is_operand m s word id && has_type m part id

abbrev pub keeps_part : Context → State → ℕ → Option ℕ → Option ℕ → Bool
keeps_part m s word part o = option_map_or (is_part m s word part) o false

-- constituents from number k on
unfoldable pub keeps_parts : Context → State → ℕ → Option Form → ℕ → List Operand → Bool
keeps_parts m s word form k [] = true
keeps_parts m s word form k (o ∷ os) = keeps_part m s word (part_type_of form k) (id_in o) && keeps_parts m s word form (suc k) os

-- a composite has one constituent for each part
abbrev pub keeps_composite : Context → State → Inst → Option Form → Bool
keeps_composite m s i form = holds (length i.operands) (part_count form) && keeps_parts m s i.word form 0 i.operands

-- the opcode of an OpSpecConstantOp; an opcode has 16 bits
abbrev pub opcode_of : Inst → Option ℕ
opcode_of i = option_and_then (λ op. if nat_lt op 65536 then Some op else None) (literal_operand i 0)

-- each operand is a constant or an OpUndef before the instruction
unfoldable pub are_operands : Context → State → ℕ → List Operand → Bool
are_operands m s word [] = true
are_operands m s word (o ∷ os) = is_given m s word (id_in o) && are_operands m s word os

-- the operation's opcode and as many operands as it has
abbrev pub keeps_count : Inst → ℕ → Bool
keeps_count i op = holds (length i.operands) (option_map (λ n. n + 1) (operand_count op))

-- the type of the operand at a place, where it has one
abbrev pub operand_type : Context → Inst → ℕ → Option ℕ
operand_type m i place = option_and_then (result_type m.all) (id_operand i place)

-- an operation that constants may be computed by, with as many operands as it has, of types that fit the result
abbrev pub keeps_opcode : Context → State → Inst → ℕ → Bool
keeps_opcode m s i op = is_constant_operation op && (keeps_count i op && (are_operands m s i.word (drop 1 i.operands) && fits s.types op i.ty (λ k. operand_type m i (1 + k))))

abbrev pub keeps_operation : Context → State → Inst → Bool
keeps_operation m s i = option_map_or (keeps_opcode m s i) (opcode_of i) false

-- OpConstantComposite and OpSpecConstantComposite
abbrev pub is_composite : ℕ → Bool
is_composite op = op == 44 || op == 51

-- OpConstant and OpSpecConstant
abbrev pub is_number : ℕ → Bool
is_number op = op == 43 || op == 50

-- the rule of each kind of constant: composite, OpConstantNull 46, OpSpecConstantOp 52 and integer; the others are Booleans
abbrev pub keeps_kind : Context → State → Inst → Bool
keeps_kind m s i =
    if is_composite i.op then keeps_composite m s i (form_of s.types i.ty)
    else (if i.op == 46 then true
    else (if i.op == 52 then keeps_operation m s i
    else (if is_number i.op then keeps_literal (integer_width (form_of s.types i.ty)) i.operands
    else is_boolean (form_of s.types i.ty))))

-- a constant is of data without a runtime array, and an array type, OpTypeArray 28, has a length
abbrev pub keeps_rules : Context → State → Inst → Bool
keeps_rules m s i =
    if i.op == 28 then is_some (length_at m s i)
    else (if is_constant i.op then is_sized_data s.types i.ty && keeps_kind m s i
    else true)
