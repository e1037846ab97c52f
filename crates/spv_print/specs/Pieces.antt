-- The text of a value piece by piece. Which pieces it has doesn't depend on its bits, and each leaf is read from bits of its own.
use Rattle.std.specs.Prelude.{ℕ, ◌+◌, List, [], ◌∷◌, ◌++◌, codes, max, if◌then◌else◌}
use Rattle.std.specs.List.{flat_map}
use Rattle.spv_dbg.specs.Tables.{Tables}
use Rattle.spv_parts.specs.Composites.{name_of}
use Rattle.spv_print.specs.declared.leaves.Leaf.{Leaf}
use Rattle.spv_print.specs.declared.pieces.Piece.{Piece}
use Rattle.spv_print.specs.declared.pieces.Piece.TheVariants.{OpenList, CloseList, OpenStruct, CloseStruct, Separator, Rest, Name, Basic, Enum, Unavailable}
use Rattle.spv_print.specs.Enums.{enum_text}
use Rattle.spv_print.specs.Leaves.{Bits, is_shown, leaf_text, reading, unavailable}
use Rattle.spv_print.specs.Numbers.{basic_text}
use Rattle.spv_source.specs.Frames.{shown_bytes}

abbrev pub name_text : Tables → ℕ → List ℕ
name_text t member = shown_bytes (name_of t member) ++ codes " = "

abbrev pub piece_text : Tables → Bits → Piece → List ℕ
piece_text t bits OpenList = codes "["
piece_text t bits CloseList = codes "]"
piece_text t bits OpenStruct = codes "{"
piece_text t bits CloseStruct = codes "}"
piece_text t bits Separator = codes ", "
piece_text t bits Rest = codes "..."
piece_text t bits (Name member) = name_text t member
piece_text t bits (Basic leaf) = leaf_text (basic_text leaf) (reading bits leaf)
piece_text t bits (Enum leaf type) = leaf_text (enum_text t type leaf) (reading bits leaf)
piece_text t bits Unavailable = unavailable

abbrev pub text_of : Tables → Bits → List Piece → List ℕ
text_of t bits pieces = flat_map (piece_text t bits) pieces

-- ---- the bits that are read: none from this one on

abbrev pub leaf_end : Leaf → ℕ
leaf_end leaf = if is_shown leaf then leaf.first + leaf.size else 0

abbrev pub piece_end : Piece → ℕ
piece_end (Basic leaf) = leaf_end leaf
piece_end (Enum leaf type) = leaf_end leaf
piece_end _ = 0

abbrev pub pieces_end : List Piece → ℕ
pieces_end [] = 0
pieces_end (p ∷ ps) = max (piece_end p) (pieces_end ps)
