-- Parts that have elements (NonSemantic.Shader.DebugInfo.100, this project's profile).
use Rattle.std.specs.Prelude.{◌==◌, ◌||◌, if◌then◌else◌, length, drop, take, slice_index, Option, Some, None}
use Rattle.std.specs.Option.{option_and_then}
use Rattle.spv_dbg.specs.declared.insts.DebugInst.{DebugInst}
use Rattle.spv_dbg.specs.Tables.{Tables, with_id}
use Rattle.spv_parts.specs.Parts.{TypePart, plain}

-- what a type is an array of, and by which Counts, the outermost first. TypeArray (5): Base, Counts; TypeVector (6): Base, Count;
-- TypeMatrix (108): Vector Type, Vector Count. No other type has elements.
abbrev pub array_in : DebugInst → Option TypePart
array_in d =
    if d.number == 5 then Some (record { base = slice_index d.operands 0; counts = drop 1 d.operands })
    else if d.number == 6 || d.number == 108 then Some (record { base = slice_index d.operands 0; counts = take 1 (drop 1 d.operands) })
    else None

-- the same of a part, seen through each TypeQualifier and Typedef
abbrev pub as_array : Tables → TypePart → Option TypePart
as_array t p = if length p.counts == 0 then option_and_then array_in (with_id t (plain t p.base)) else Some p
