-- The texts of numbers by a TypeEnum (9): eight operands, pairs of Value and Name (NonSemantic.Shader.DebugInfo.100, this project's profile).
use Rattle.std.specs.Prelude.{ℕ, ◌==◌, if◌then◌else◌, Bool, List, [], ◌∷◌, drop, Option, Some, None}
use Rattle.std.specs.Option.{option_map_or}
use Rattle.std.specs.Ordering.{int_eq}
use Rattle.spv_alu.specs.Integers.{signed}
use Rattle.spv_dbg.specs.declared.insts.DebugInst.{DebugInst}
use Rattle.spv_dbg.specs.Sources.{text_of}
use Rattle.spv_dbg.specs.Tables.{Tables, with_id}
use Rattle.spv_parts.specs.Parts.{literal}
use Rattle.spv_print.specs.declared.leaves.Leaf.{Leaf}
use Rattle.spv_print.specs.Numbers.{decimal_text, is_signed}
use Rattle.spv_source.specs.Frames.{shown_bytes}

-- the Value with an id is the number: both are read as signed, or none is
abbrev pub is_value : Tables → Leaf → ℕ → ℕ → Bool
is_value t leaf n id = if is_signed leaf.encoding then int_eq (signed leaf.size n) (signed 32 (literal t id)) else n == literal t id

-- the Name of the first pair whose Value is the number
abbrev pub name_among : Tables → Leaf → ℕ → List ℕ → Option ℕ
name_among t leaf n [] = None
name_among t leaf n (value ∷ []) = None
name_among t leaf n (value ∷ name ∷ pairs) = if is_value t leaf n value then Some name else name_among t leaf n pairs

abbrev pub pairs_of : Tables → ℕ → List ℕ
pairs_of t type = option_map_or (λ (d : DebugInst). drop 8 d.operands) (with_id t type) []

-- that name, and the number in decimal where there is none
abbrev pub enum_text : Tables → ℕ → Leaf → ℕ → List ℕ
enum_text t type leaf n = option_map_or (λ name. shown_bytes (text_of t.strings name)) (name_among t leaf n (pairs_of t type)) (decimal_text leaf n)
