-- Which instructions compute a value, by their opcodes (SPIR-V 1.6 sections 3.42.11 to 3.42.15, and the extended instructions of
-- GLSL.std.450): the unary and binary operations, the fields of bits, the operations that give a struct of two and Any and All are told
-- by their tables; and OpUndef 1, VectorExtractDynamic 77, VectorInsertDynamic 78, VectorShuffle 79, CompositeConstruct 80,
-- CompositeExtract 81, CompositeInsert 82, CopyObject 83, Bitcast 124, Select 169 and CopyLogical 400.
use Rattle.std.specs.Prelude.{ℕ, ◌==◌, if◌then◌else◌, List, [], ◌∷◌, Option}
use Rattle.std.specs.Option.{option_map, option_and_then, option_or}
use Rattle.spv_base.specs.Entries.{reads}
use Rattle.spv_base.specs.declared.instructions.Inst.{Inst}
use Rattle.spv_alu.specs.Binary.{binary_op}
use Rattle.spv_alu.specs.Extended.{extended_op}
use Rattle.spv_alu.specs.Fields.{field_op}
use Rattle.spv_alu.specs.Glsl.{glsl_op}
use Rattle.spv_alu.specs.Unary.{unary_op}
use Rattle.spv_alu.specs.Vectors.{vector_op}
use Rattle.spv_index.specs.Operands.{literal_operand}
use Rattle.spv_results.specs.declared.computations.Computation.{Computation}
use Rattle.spv_results.specs.declared.computations.Computation.TheVariants.{Undef, Unary, Bitcast, Truth, Binary, Field, Extended, Select, Glsl, ExtractDynamic, InsertDynamic, Shuffle, Construct, Extract, Insert, Copy}

-- those that no table of lanes has
abbrev pub others : List (ℕ × Computation)
others =
    (1, Undef) ∷ (77, ExtractDynamic) ∷ (78, InsertDynamic) ∷ (79, Shuffle) ∷ (80, Construct) ∷ (81, Extract) ∷ (82, Insert) ∷ (83, Copy)
    ∷ (124, Bitcast) ∷ (169, Select) ∷ (400, Copy) ∷ []

abbrev pub by_opcode : ℕ → Option Computation
by_opcode op =
    option_or (reads op others)
    (option_or (option_map Unary (unary_op op))
    (option_or (option_map Binary (binary_op op))
    (option_or (option_map Field (field_op op))
    (option_or (option_map Extended (extended_op op))
    (option_map Truth (vector_op op))))))

-- An ExtInst 12 (set, number, operands) that has a meaning at run time is of GLSL.std.450.
unfoldable pub computation_of : Inst → Option Computation
computation_of i = if i.op == 12 then option_map Glsl (option_and_then glsl_op (literal_operand i 1)) else by_opcode i.op
