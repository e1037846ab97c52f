-- Kept texts, as they are seen.
use Rattle.std.specs.Prelude.{ℕ, List, map}
use Rattle.std.specs.List.{concat}
use Rattle.spv_dbg.specs.declared.pieces.Piece.{Piece}
use Rattle.spv_dbg.specs.declared.pieces.Piece.TheVariants.{Named, Own}
use Rattle.spv_dbg.specs.Sources.{Strings, text_of}

abbrev pub piece_in : Strings → Piece → List ℕ
piece_in strings (Named id) = text_of strings id
piece_in strings (Own text) = text

abbrev pub pieces_in : Strings → List Piece → List (List ℕ)
pieces_in strings pieces = map (piece_in strings) pieces

-- the pieces of a text, one after the other
abbrev pub text_in : Strings → List Piece → List ℕ
text_in strings pieces = concat (pieces_in strings pieces)

-- a file with its text
abbrev pub seen : Strings → ℕ × List Piece → ℕ × List ℕ
seen strings s = (s.0, text_in strings s.1)
