-- Which rule the types of an operation's operands and result keep: a table of the opcodes (SPIR-V 1.6 sections 3.42.11,
-- Conversion, and 3.42.13 to 3.42.15, Arithmetic, Bit, Relational and Logical), and which operations a module may compute
-- constants by (section 3.42.7, OpSpecConstantOp, and this project's profile).
use Rattle.std.specs.Prelude.{ℕ, ◌==◌, ◌&&◌, ◌||◌, not, Bool, true, false, List, [], ◌∷◌, Option, Some, None}
use Rattle.std.specs.Option.{option_map_or, option_and_then}
use Rattle.spv_base.specs.Entries.{reads}
use Rattle.spv_typing.specs.declared.rules.Rule.{Rule}
use Rattle.spv_typing.specs.declared.rules.Rule.TheVariants.{Convert, Bitcast, Integer, Integers, Clamp, Shift, Boolean, Booleans, Reduce, Compare, Extended, Select, InsertField, ExtractField}

-- UConvert 113, SConvert 114, Bitcast 124, SNegate 126, IAdd 128, ISub 130, IMul 132, UDiv 134, SDiv 135, UMod 137,
-- SRem 138, SMod 139, IAddCarry 149, ISubBorrow 150, UMulExtended 151, SMulExtended 152, Any 154, All 155,
-- LogicalEqual 164, LogicalNotEqual 165, LogicalOr 166, LogicalAnd 167, LogicalNot 168, Select 169, IEqual 170,
-- INotEqual 171, the orders 172 to 179, the shifts 194 to 196, BitwiseOr 197, BitwiseXor 198, BitwiseAnd 199, Not 200,
-- BitFieldInsert 201, BitFieldSExtract 202, BitFieldUExtract 203, BitReverse 204, BitCount 205
abbrev pub rules : List (ℕ × Rule)
rules =
    (113, Convert) ∷ (114, Convert) ∷ (124, Bitcast) ∷ (126, Integer)
    ∷ (128, Integers) ∷ (130, Integers) ∷ (132, Integers) ∷ (134, Integers) ∷ (135, Integers) ∷ (137, Integers) ∷ (138, Integers) ∷ (139, Integers)
    ∷ (149, Extended) ∷ (150, Extended) ∷ (151, Extended) ∷ (152, Extended) ∷ (154, Reduce) ∷ (155, Reduce)
    ∷ (164, Booleans) ∷ (165, Booleans) ∷ (166, Booleans) ∷ (167, Booleans) ∷ (168, Boolean) ∷ (169, Select)
    ∷ (170, Compare) ∷ (171, Compare) ∷ (172, Compare) ∷ (173, Compare) ∷ (174, Compare) ∷ (175, Compare) ∷ (176, Compare) ∷ (177, Compare) ∷ (178, Compare) ∷ (179, Compare)
    ∷ (194, Shift) ∷ (195, Shift) ∷ (196, Shift) ∷ (197, Integers) ∷ (198, Integers) ∷ (199, Integers) ∷ (200, Integer)
    ∷ (201, InsertField) ∷ (202, ExtractField) ∷ (203, ExtractField) ∷ (204, Integer) ∷ (205, Integer) ∷ []

-- the rule of an opcode; none where the table has no such opcode
unfoldable pub rule_of : ℕ → Option Rule
rule_of op = reads op rules

-- how many operands there are; not said of the bit fields
abbrev pub rule_count : Rule → Option ℕ
rule_count Convert = Some 1
rule_count Bitcast = Some 1
rule_count Integer = Some 1
rule_count Integers = Some 2
rule_count Clamp = Some 3
rule_count Shift = Some 2
rule_count Boolean = Some 1
rule_count Booleans = Some 2
rule_count Reduce = Some 1
rule_count Compare = Some 2
rule_count Extended = Some 2
rule_count Select = Some 3
rule_count InsertField = None
rule_count ExtractField = None

-- the operands of the unary and binary operations and of Select
abbrev pub operand_count : ℕ → Option ℕ
operand_count op = option_and_then rule_count (rule_of op)

-- constants are computed by conversions, arithmetic, bits, comparisons, logic and Select
abbrev pub is_constant_rule : Rule → Bool
is_constant_rule Convert = true
is_constant_rule Bitcast = false
is_constant_rule Integer = true
is_constant_rule Integers = true
is_constant_rule Clamp = false
is_constant_rule Shift = true
is_constant_rule Boolean = true
is_constant_rule Booleans = true
is_constant_rule Reduce = false
is_constant_rule Compare = true
is_constant_rule Extended = false
is_constant_rule Select = true
is_constant_rule InsertField = false
is_constant_rule ExtractField = false

-- an opcode that OpSpecConstantOp takes: not BitReverse and BitCount either
abbrev pub is_constant_operation : ℕ → Bool
is_constant_operation op = option_map_or is_constant_rule (rule_of op) false && not (op == 204 || op == 205)
