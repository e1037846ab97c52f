-- The leaves that an operation of OpSpecConstantOp gives: lane by lane, where a scalar condition of Select chooses for each leaf
-- of any value (SPIR-V 1.6 sections 3.42.7, OpSpecConstantOp, and 3.42.15, OpSelect).
use Rattle.std.specs.Prelude.{ℕ, min, List, [], ◌∷◌, Option, Some, None}
use Rattle.std.specs.Simd.Lanes.{zip2}
use Rattle.spv_base.specs.Cell.{Cell}
use Rattle.spv_alu.specs.Lanes.{zip3}
use Rattle.spv_types.specs.declared.forms.Form.{Form}
use Rattle.spv_types.specs.declared.forms.Form.TheVariants.{Void, Bool as Boolean, Int, Vector, Array, Runtime, Struct, Pointer, Function}
use Rattle.spv_types.specs.Types.{Types, form_of}
use Rattle.spv_consts.specs.declared.operations.PairOp.{PairOp}
use Rattle.spv_consts.specs.declared.operations.PairOp.TheVariants.{Binary, Select}
use Rattle.spv_consts.specs.Lanes.{binary_lane, select_lane}

-- an operation on two lanes
abbrev pub lane_of : PairOp → Cell → Cell → Cell
lane_of (Binary op) a b = binary_lane op a b
lane_of (Select condition) a b = select_lane condition a b

-- Select: one condition for all leaves, or one for each
abbrev pub selected : List Cell → List Cell → List Cell → List Cell
selected [] xs ys = []
selected (c ∷ []) xs ys = zip2 (select_lane c) xs ys
selected (c ∷ d ∷ cs) xs ys = zip3 select_lane (c ∷ d ∷ cs) xs ys

-- the width of a scalar; no lane is wider than 64 bits
abbrev pub scalar_width : Option Form → ℕ
scalar_width (Some Boolean) = 1
scalar_width (Some (Int width sign)) = min width 64
scalar_width _ = 0

-- the width of the lanes of a scalar or vector
abbrev pub lane_width : Types → Option Form → ℕ
lane_width ts (Some Boolean) = scalar_width (Some Boolean)
lane_width ts (Some (Int width sign)) = scalar_width (Some (Int width sign))
lane_width ts (Some (Vector component count)) = scalar_width (form_of ts component)
lane_width ts _ = 0
