-- Lines of source files: `line`, or `file:line`, which the last colon parts.
use Rattle.std.specs.Prelude.{◌≡◌, ℕ, ◌==◌, ◌<◌, ◌⊎◌, nat_le, not, ◌&&◌, Bool, if◌then◌else◌, List, [], ◌∷◌, ◌++◌, length, codes, decimal, Option, Some, None}
use Rattle.std.specs.List.{list_all}
use Rattle.std.specs.Option.{option_map}
use Rattle.spv_line.specs.Words.{is_other}
use Rattle.spv_cmd.specs.Numbers.{number_of}

-- this line is written so; digits have no colon, so the colon before them is the last
abbrev pub IsPlace : Option (List ℕ) × ℕ → List ℕ → Type 0
IsPlace (None, line) text = number_of text ≡ Some line
IsPlace (Some file, line) text =
    (digits : List ℕ) × (text ≡ file ++ (codes ":" ++ digits)) × (0 < length file) × (number_of digits ≡ Some line)

-- no colon (58)
abbrev pub is_no_colon : ℕ → Bool
is_no_colon b = not (b == 58)

-- nothing, or a text that ends in a colon
abbrev pub EndsInColon : List ℕ → Type 0
EndsInColon text = (text ≡ []) ⊎ ((front : List ℕ) × (text ≡ front ++ codes ":"))

-- ---- the line that a text is

-- what stands before the last colon and behind it, where there is one
abbrev pub part_behind : ℕ → List ℕ → Option (List ℕ × List ℕ) → Option (List ℕ × List ℕ)
part_behind b text (Some (front, back)) = Some (b ∷ front, back)
part_behind b text None = if b == 58 then Some ([], text) else None

abbrev pub parted : List ℕ → Option (List ℕ × List ℕ)
parted [] = None
parted (b ∷ text) = part_behind b text (parted text)

abbrev pub place_in : List ℕ → Option (List ℕ × List ℕ) → Option (Option (List ℕ) × ℕ)
place_in text None = option_map (λ line. (None, line)) (number_of text)
place_in text (Some (file, digits)) = if length file == 0 then None else option_map (λ line. (Some file, line)) (number_of digits)

abbrev pub place_of : List ℕ → Option (Option (List ℕ) × ℕ)
place_of text = place_in text (parted text)

-- ---- the canonical text

abbrev pub place_text : Option (List ℕ) × ℕ → List ℕ
place_text (None, line) = decimal line
place_text (Some file, line) = file ++ (codes ":" ++ decimal line)

-- lines that can be written
abbrev pub is_place : Option (List ℕ) × ℕ → Bool
is_place (None, line) = nat_le line 4294967295
is_place (Some file, line) = not (length file == 0) && (list_all is_other file && nat_le line 4294967295)
