-- The text of a pointer: `&%ROOT`, and `[I]` for each of its indexes, which are read as signed.
use Rattle.std.specs.Prelude.{ℕ, List, ◌++◌, codes, decimal, Option, Some, None}
use Rattle.std.specs.Fmt.{signed_decimal}
use Rattle.std.specs.List.{flat_map}
use Rattle.spv_alu.specs.Integers.{signed}
use Rattle.spv_base.specs.declared.values.Pointer.{Pointer}
use Rattle.spv_base.specs.Variables.{root_id}
use Rattle.spv_show.specs.Scalars.{unavailable}

abbrev pub index_text : ℕ → List ℕ
index_text index = codes "[" ++ signed_decimal (signed 64 index) ++ codes "]"

abbrev pub pointer_text : Pointer → List ℕ
pointer_text p = codes "&%" ++ decimal (root_id p.root) ++ flat_map index_text p.path

abbrev pub pointer_if_any : Option Pointer → List ℕ
pointer_if_any None = unavailable
pointer_if_any (Some p) = pointer_text p
