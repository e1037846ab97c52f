-- The first line of a text, and the lines after it.
use Rattle.std.proofs.Common.{◌≡◌, ℕ, ◌+◌, ◌<◌, ◌≤◌, List, [], ◌∷◌, length, take, drop, Some, None, refl, sym, ap, ◌∙◌, arith, length-drop}
use Rattle.std.proofs.lemmas.List.{drop-drop}
use Rattle.std.specs.List.{position, position_or_len, slice_split}
use Rattle.std.proofs.lemmas.List.Splits.{slice_split_first, slice_split_none, length-slice_split}
use Rattle.std.proofs.lemmas.List.Sums.{fails_before_first}
use Rattle.spv_setup.specs.Lines.{is_line_feed, without_return, ended, lines_of, HasFirstLine}
use Rattle.spv_base.proofs.Exports.{some_place}
use Rattle.spv_base.proofs.Exports.{no_place}

ended_more : (line : List ℕ) (lines : List (List ℕ)) → 0 < length lines → ended (line ∷ lines) ≡ without_return line ∷ ended lines
ended_more line [] h = absurd (omega (arith, h))
ended_more line (next ∷ lines) h = refl

pub only_line : (text : List ℕ) → None ≡ position is_line_feed text → HasFirstLine text text None
only_line text h = record {
  lines = ap ended (slice_split_none is_line_feed text (λ i d g. fails_before_first is_line_feed text i d (let past : length text ≤ position_or_len is_line_feed text = no_place _ _ h in omega (arith, g, past))));
  fewer = omega arith;
}

pub first_line : (text line rest back : List ℕ) (end : ℕ) → Some end ≡ position is_line_feed text → line ≡ without_return (take end text) → back ≡ drop end text → rest ≡ drop 1 back → HasFirstLine text line (Some rest)
first_line text line rest back end h front e skip =
    let at = some_place (position_or_len is_line_feed text) (length text) end h in
    let n = position_or_len is_line_feed text in
    let more : 0 < length (slice_split is_line_feed (drop (n + 1) text)) = omega (arith, length-slice_split is_line_feed (drop (n + 1) text)) in
    let cut : lines_of text ≡ without_return (take n text) ∷ lines_of (drop (n + 1) text) = ap ended (slice_split_first is_line_feed text 0 at.1) ∙ ended_more (take n text) (slice_split is_line_feed (drop (n + 1) text)) more in
    let rest_is : rest ≡ drop (n + 1) text = skip ∙ ap (drop 1) e ∙ ap (λ m. drop 1 (drop m text)) at.0 ∙ drop-drop 1 n text in
    let line_is : line ≡ without_return (take n text) = front ∙ ap (λ m. without_return (take m text)) at.0 in
    record {
      lines = cut ∙ ap (λ l. l ∷ lines_of (drop (n + 1) text)) (sym line_is) ∙ ap (λ r. line ∷ lines_of r) (sym rest_is);
      fewer = omega (arith, ap length rest_is, length-drop (n + 1) text, at.1);
    }
