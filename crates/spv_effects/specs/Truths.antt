-- OpAny 154 and OpAll 155: whether a lane, or every lane, is true (SPIR-V 1.6, section "Relational and Logical Instructions").
use Rattle.spv_alu.specs.Vectors.{vector_lane}
use Rattle.spv_alu.specs.declared.vector_op.VectorOp.{VectorOp}
use Rattle.spv_base.specs.declared.values.Value.{Value, Scalar}
use Rattle.spv_types.specs.Rows.{leaves}

abbrev pub truth_value : VectorOp → Value → Value
truth_value op a = Scalar (vector_lane op (leaves a))
