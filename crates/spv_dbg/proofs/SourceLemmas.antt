-- Texts with one more piece, and the text that a number leads to.
use Rattle.std.proofs.Common.{◌≡◌, suc, ◌+◌, ◌<◌, ◌∙◌, Bool, true, false, ℕ, cond, List, [], ◌∷◌, ◌++◌, length, map, drop, get_or, slice_get, slice_index, Option, Some, refl, sym, ap, append-nil, append_assoc, arith}
use Rattle.std.specs.Prelude.{find}
use Rattle.std.specs.List.{concat}
use Rattle.std.specs.Option.{option_and_then, option_map}
use Rattle.std.proofs.lemmas.List.{map-append}
use Rattle.std.proofs.lemmas.List.Folds.{concat-append}
use Rattle.std.proofs.lemmas.Option.{slice_get-get_or}
use Rattle.spv_base.proofs.Exports.{drop_here}
use Rattle.spv_dbg.specs.declared.insts.DebugInst.{DebugInst}
use Rattle.spv_dbg.specs.declared.pieces.Piece.{Piece}
use Rattle.spv_dbg.specs.declared.pieces.Piece.TheVariants.{Named}
use Rattle.spv_dbg.specs.Names.{number_from}
use Rattle.spv_index.specs.Places.{keys_of}
use Rattle.spv_dbg.specs.Seen.{piece_in, pieces_in, seen, text_in}
use Rattle.spv_dbg.specs.Sources.{Strings, continuation, has_name, source_of, text_of}
use Rattle.spv_dbg.proofs.NameLemmas.{numbered}

-- ---- one more piece

pub text_more : (strings : Strings) (pieces : List Piece) (piece : Piece) → text_in strings (pieces ++ piece ∷ []) ≡ text_in strings pieces ++ piece_in strings piece
text_more strings pieces piece =
    ap concat (map-append (piece_in strings) pieces (piece ∷ []))
    ∙ concat-append (pieces_in strings pieces) (piece_in strings piece ∷ [])
    ∙ ap (λ l. text_in strings pieces ++ l) (append-nil (piece_in strings piece))

here_is : (ds : List DebugInst) (n : ℕ) (d : DebugInst) → n < length ds → d ≡ get_or ds n d → drop n ds ≡ d ∷ drop (n + 1) ds
here_is ds n d lt is = let s : n + 1 ≡ suc n = omega arith in rw s (drop_here ds n d (slice_get-get_or ds n d lt ∙ ap Some (sym is)))

continuation_here : (strings : Strings) (d : DebugInst) (ds : List DebugInst) → d.number ≡ 102 → continuation strings (d ∷ ds) ≡ text_of strings (slice_index d.operands 0) ++ continuation strings ds
continuation_here strings d ds same = rw same refl

-- a piece for a SourceContinued
pub continued_more : (strings : Strings) (old new : List Piece) (d : DebugInst) (ds : List DebugInst) (n : ℕ) (whole : List ℕ) → n < length ds → d ≡ get_or ds n d → d.number ≡ 102
    → new ≡ old ++ Named (slice_index d.operands 0) ∷ [] → text_in strings old ++ continuation strings (drop n ds) ≡ whole → text_in strings new ++ continuation strings (drop (n + 1) ds) ≡ whole
continued_more strings old new d ds n whole lt is same e h =
    let rest = continuation strings (drop (n + 1) ds) in
    ap (λ l. text_in strings l ++ rest) e
    ∙ ap (λ l. l ++ rest) (text_more strings old (Named (slice_index d.operands 0)))
    ∙ append_assoc (text_in strings old) (text_of strings (slice_index d.operands 0)) rest
    ∙ ap (λ l. text_in strings old ++ l) (sym (ap (continuation strings) (here_is ds n d lt is) ∙ continuation_here strings d (drop (n + 1) ds) same))
    ∙ h

-- ---- the text with a number

found : (strings : Strings) (file : List ℕ) (items : List (ℕ × List Piece))
    → option_map (λ (s : ℕ × List Piece). text_in strings s.1) (find (λ (s : ℕ × List Piece). has_name strings file s.0) items) ≡ source_of strings (map (seen strings) items) file
found strings file [] = refl
found strings file (s ∷ ss) = by_first (found strings file ss) (has_name strings file s.0)
  where
    by_first : option_map (λ (t : ℕ × List Piece). text_in strings t.1) (find (λ (t : ℕ × List Piece). has_name strings file t.0) ss) ≡ source_of strings (map (seen strings) ss) file
        → (b : Bool) → option_map (λ (t : ℕ × List Piece). text_in strings t.1) (cond b (Some s) (find (λ (t : ℕ × List Piece). has_name strings file t.0) ss))
        ≡ option_map (λ (t : ℕ × List ℕ). t.1) (cond b (Some (seen strings s)) (find (λ (t : ℕ × List ℕ). has_name strings file t.0) (map (seen strings) ss)))
    by_first h true = refl
    by_first h false = h

pub text_found : (strings : Strings) (file : List ℕ) (slice items : List (ℕ × List Piece)) (number : Option ℕ) → slice ≡ items → number ≡ number_from 0 (has_name strings file) (keys_of items)
    → option_map (λ (s : ℕ × List Piece). text_in strings s.1) (option_and_then (slice_get slice) number) ≡ source_of strings (map (seen strings) items) file
text_found strings file slice items number s e =
    rw s (ap (option_map (λ (t : ℕ × List Piece). text_in strings t.1)) (numbered (λ (t : ℕ × List Piece). t.0) (has_name strings file) items number e) ∙ found strings file items)
