-- Paths: a name with parts `.member` and `[index]`, or `%id`.
use Rattle.std.specs.Prelude.{◌≡◌, ℕ, ◌-◌, ◌==◌, nat_le, not, ◌&&◌, ◌||◌, Bool, true, if◌then◌else◌, List, [], ◌∷◌, ◌++◌, length, take, codes, decimal, slice_index, Option, Some, None}
use Rattle.std.specs.List.{list_all}
use Rattle.std.specs.Option.{option_and_then, option_map}
use Rattle.std.specs.Str.{bytes_eq}
use Rattle.spv_cmd.specs.declared.command.PathPart.{PathPart}
use Rattle.spv_cmd.specs.declared.command.PathPart.TheVariants.{Member, Index}
use Rattle.spv_cmd.specs.declared.command.PathText.{PathText}
use Rattle.spv_cmd.specs.declared.command.PathText.TheVariants.{Name, Id}
use Rattle.spv_cmd.specs.Numbers.{number_of}

-- ---- names

-- no space (32), `.` (46), `[` (91) and `]` (93) stands in a name
abbrev pub is_name_byte : ℕ → Bool
is_name_byte b = not (b == 32) && (not (b == 46) && (not (b == 91) && not (b == 93)))

-- a name has a byte, and doesn't begin with `%` (37)
abbrev pub is_name : List ℕ → Bool
is_name name = not (length name == 0) && (list_all is_name_byte name && not (slice_index name 0 == 37))

-- `.` or `[` begins a part
abbrev pub is_mark : ℕ → Bool
is_mark b = (b == 46) || (b == 91)

-- ---- what is written as a path

-- this part is written so: `.member`, or `[index]`
abbrev pub IsPart : PathPart → List ℕ → Type 0
IsPart (Member name) text = (text ≡ codes "." ++ name) × (is_name name ≡ true)
IsPart (Index n) text = (digits : List ℕ) × (text ≡ codes "[" ++ (digits ++ codes "]")) × (number_of digits ≡ Some n)

-- these parts are written so, one after another
abbrev pub AreParts : List PathPart → List ℕ → Type 0
AreParts [] text = text ≡ []
AreParts (part ∷ parts) text = (first : List ℕ) × (rest : List ℕ) × (text ≡ first ++ rest) × IsPart part first × AreParts parts rest

-- this path is written so: a name with parts, or `%id`
abbrev pub IsPath : PathText → List ℕ → Type 0
IsPath (Name name parts) text = (rest : List ℕ) × (text ≡ name ++ rest) × (is_name name ≡ true) × AreParts parts rest
IsPath (Id n) text = (digits : List ℕ) × (text ≡ codes "%" ++ digits) × (number_of digits ≡ Some n)

-- ---- the path that a text is

-- a text that is cut before each byte that begins a part: what stands before the first, and what begins with each
abbrev pub cut_before : ℕ → List ℕ × List (List ℕ) → List ℕ × List (List ℕ)
cut_before b (front, parts) = if is_mark b then ([], (b ∷ front) ∷ parts) else (b ∷ front, parts)

abbrev pub cut : List ℕ → List ℕ × List (List ℕ)
cut [] = ([], [])
cut (b ∷ text) = cut_before b (cut text)

-- the text without its last byte
abbrev pub without_last : List ℕ → List ℕ
without_last text = take (length text - 1) text

-- the number before a bracket that ends the text
abbrev pub index_of : List ℕ → Option ℕ
index_of text = if bytes_eq text (without_last text ++ codes "]") then number_of (without_last text) else None

abbrev pub part_of : List ℕ → Option PathPart
part_of [] = None
part_of (b ∷ text) = if b == 46 then (if is_name text then Some (Member text) else None) else (if b == 91 then option_map Index (index_of text) else None)

abbrev pub parts_of : List (List ℕ) → Option (List PathPart)
parts_of [] = Some []
parts_of (text ∷ texts) = option_and_then (λ part. option_map (λ parts. part ∷ parts) (parts_of texts)) (part_of text)

abbrev pub name_path_of : List ℕ × List (List ℕ) → Option PathText
name_path_of (name, texts) = if is_name name then option_map (λ parts. Name name parts) (parts_of texts) else None

abbrev pub path_of : List ℕ → Option PathText
path_of [] = None
path_of (b ∷ text) = if b == 37 then option_map Id (number_of text) else name_path_of (cut (b ∷ text))

-- ---- the canonical text

abbrev pub part_text : PathPart → List ℕ
part_text (Member name) = codes "." ++ name
part_text (Index n) = codes "[" ++ (decimal n ++ codes "]")

abbrev pub parts_text : List PathPart → List ℕ
parts_text [] = []
parts_text (part ∷ parts) = part_text part ++ parts_text parts

abbrev pub path_text : PathText → List ℕ
path_text (Name name parts) = name ++ parts_text parts
path_text (Id n) = codes "%" ++ decimal n

-- ---- paths that can be written

abbrev pub is_part : PathPart → Bool
is_part (Member name) = is_name name
is_part (Index n) = nat_le n 4294967295

abbrev pub is_path : PathText → Bool
is_path (Name name parts) = is_name name && list_all is_part parts
is_path (Id n) = nat_le n 4294967295
