-- What is shown of a window.
use Rattle.std.proofs.Common.{◌≡◌, ℕ, ◌<◌, Bool, true, false, not, List, [], ◌∷◌, ◌++◌, length, refl, sym, ap, arith, Some, None, Option, nat_eq, unwrap_or, is_some, length-append}
use Rattle.std.specs.Prelude.{if◌then◌else◌, ◌==◌, ◌||◌, codes}
use Rattle.std.specs.List.{flat_map}
use Rattle.spv_source.specs.Windows.{mark, right_aligned, row_text, source_lines, window}

not_zero : (n : ℕ) → 0 < n → nat_eq n 0 ≡ false
not_zero n some = grind arith

row_some : (front rows : List ℕ) → nat_eq (length ((front ++ 10 ∷ []) ++ rows)) 0 ≡ false
row_some front rows = not_zero _ (omega (arith, length-append (front ++ 10 ∷ []) rows, length-append front (10 ∷ [])))

some_rows : (line : ℕ) (rows : List (ℕ × List ℕ)) → nat_eq (length rows) 0 ≡ false → nat_eq (length (flat_map (row_text line) rows)) 0 ≡ false
some_rows line [] h = absurd (cc)
some_rows line (row ∷ rows) h = row_some (right_aligned row.0 ++ mark line row.0 ++ codes " " ++ row.1) (flat_map (row_text line) rows)

some_by : (b c : Bool) (shown : List ℕ) → (c ≡ false → nat_eq (length shown) 0 ≡ false)
    → is_some (if b || c then None else Some shown) ≡ not (nat_eq (length (unwrap_or (if b || c then None else Some shown) [])) 0)
some_by true c shown h = refl
some_by false true shown h = refl
some_by false false shown h = sym (ap not (h refl))

-- something is shown exactly where there are bytes of it
pub some_bytes : (line : ℕ) (text : Option (List ℕ)) → is_some (source_lines line text) ≡ not (nat_eq (length (unwrap_or (source_lines line text) [])) 0)
some_bytes line None = refl
some_bytes line (Some text) = some_by (line == 0) (length (window line text) == 0) (flat_map (row_text line) (window line text)) (some_rows line (window line text))
