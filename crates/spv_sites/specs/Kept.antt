-- What an accepted module's instruction that computes keeps, by its computation: the rule of its opcode (SPIR-V 1.6 sections 3.42.11 to
-- 3.42.15). No definition of a step speaks of it.
use Rattle.std.specs.Prelude.{◌≡◌, ◌⊎◌, false, Some}
use Rattle.std.specs.Option.{option_and_then}
use Rattle.spv_base.specs.declared.instructions.Inst.{Inst}
use Rattle.spv_state.specs.Below.spv_alu.specs.Binary.{binary_op}
use Rattle.spv_state.specs.Below.spv_alu.specs.Extended.{extended_op}
use Rattle.spv_state.specs.Below.spv_alu.specs.Fields.{field_op}
use Rattle.spv_state.specs.Below.spv_alu.specs.Glsl.{glsl_op}
use Rattle.spv_state.specs.Below.spv_alu.specs.Unary.{unary_op}
use Rattle.spv_state.specs.Below.spv_alu.specs.Vectors.{vector_op}
use Rattle.spv_index.specs.Classes.{is_debug}
use Rattle.spv_index.specs.Operands.{literal_operand}
use Rattle.spv_valid.specs.Below.spv_bodies.specs.Composites.{KeepsConstruct, KeepsCopyObject, KeepsExtract, KeepsExtractDynamic, KeepsInsert, KeepsInsertDynamic, KeepsShuffle}
use Rattle.spv_valid.specs.Below.spv_bodies.specs.Lanes.{KeepsExtended, KeepsLanes}
use Rattle.spv_valid.specs.Below.spv_bodies.specs.Matching.{KeepsCopyLogical}
use Rattle.spv_valid.specs.Below.spv_bodies.specs.Memory.{KeepsUndef}
use Rattle.spv_valid.specs.Below.spv_bodies.specs.Pointers.{KeepsSelect}
use Rattle.spv_valid.specs.Acceptance.{Accepted}
use Rattle.spv_state.specs.Below.spv_results.specs.Operands.{known}
use Rattle.spv_state.specs.Below.spv_results.specs.declared.computations.Computation.{Computation}
use Rattle.spv_state.specs.Below.spv_results.specs.declared.computations.Computation.TheVariants.{Undef, Unary, Bitcast, Truth, Binary, Field, Extended, Select, Glsl, ExtractDynamic, InsertDynamic, Shuffle, Construct, Extract, Insert, Copy}

-- OpCopyObject 83 and OpCopyLogical 400
abbrev pub KeepsCopy : Accepted → Inst → Type 0
KeepsCopy a d = ((d.op ≡ 83) × KeepsCopyObject (known a) d) ⊎ ((d.op ≡ 400) × KeepsCopyLogical (known a) d)

abbrev pub Keeps : Accepted → Inst → Computation → Type 0
Keeps a d Undef = KeepsUndef (known a) d
Keeps a d (Unary operation) = (unary_op d.op ≡ Some operation) × KeepsLanes (known a) d
Keeps a d Bitcast = (d.op ≡ 124) × KeepsLanes (known a) d
Keeps a d (Truth operation) = (vector_op d.op ≡ Some operation) × KeepsLanes (known a) d
Keeps a d (Binary operation) = (binary_op d.op ≡ Some operation) × KeepsLanes (known a) d
Keeps a d (Field operation) = (field_op d.op ≡ Some operation) × KeepsLanes (known a) d
Keeps a d (Extended operation) = (extended_op d.op ≡ Some operation) × KeepsLanes (known a) d
Keeps a d Select = (d.op ≡ 169) × KeepsSelect (known a) d
Keeps a d (Glsl operation) =
    (option_and_then glsl_op (literal_operand d 1) ≡ Some operation) × (is_debug (known a).sets d ≡ false) × KeepsExtended (known a) d
Keeps a d ExtractDynamic = KeepsExtractDynamic (known a) d
Keeps a d InsertDynamic = KeepsInsertDynamic (known a) d
Keeps a d Shuffle = KeepsShuffle (known a) d
Keeps a d Construct = KeepsConstruct (known a) d
Keeps a d Extract = KeepsExtract (known a) d
Keeps a d Insert = KeepsInsert (known a) d
Keeps a d Copy = KeepsCopy a d
