-- The parts of a line of a listing, and their bytes.
use Rattle.std.specs.Prelude.{ℕ, ◌+◌, ◌/◌, ◌%◌, ◌==◌, nat_lt, nat_le, ◌&&◌, ◌||◌, List, [], ◌∷◌, ◌++◌, codes, decimal, if◌then◌else◌}
use Rattle.std.specs.List.{flat_map}
use Rattle.spv_base.specs.declared.instructions.Operand.{Operand}
use Rattle.spv_base.specs.declared.instructions.Operand.TheVariants.{Id, Lit, Text}
use Rattle.spv_text.specs.declared.lines.Part.{Part}
use Rattle.spv_text.specs.declared.lines.Part.TheVariants as part
use Rattle.spv_text.specs.declared.lines.Line.{Line}

-- a digit of base 16, in lower case
abbrev pub hex_digit : ℕ → ℕ
hex_digit n = if nat_lt n 10 then 48 + n else 87 + n

-- A byte in a string: the bytes 32 to 126 stand for themselves, but a quote and a backslash have a backslash before them;
-- any other is a backslash, an x and two digits of base 16.
abbrev pub byte_text : ℕ → List ℕ
byte_text byte =
    if byte == 34 || byte == 92 then 92 ∷ byte ∷ []
    else if nat_le 32 byte && nat_le byte 126 then byte ∷ []
    else 92 ∷ 120 ∷ hex_digit (byte / 16) ∷ hex_digit (byte % 16) ∷ []

-- the bytes of a string and its last quote
abbrev pub quoted : List ℕ → List ℕ
quoted bytes = flat_map byte_text bytes ++ 34 ∷ []

-- an id, a literal word, a string in quotes
abbrev pub operand_text : Operand → List ℕ
operand_text (Id id) = 37 ∷ decimal id
operand_text (Lit literal) = decimal literal
operand_text (Text bytes) = 34 ∷ quoted bytes

-- a result type, a result id, an operand
abbrev pub part_text : Part → List ℕ
part_text (part.ResultType id) = codes "type=%" ++ decimal id
part_text (part.ResultId id) = codes "id=%" ++ decimal id
part_text (part.Operand operand) = operand_text operand

-- a space before each part
abbrev pub parts_text : List Part → List ℕ
parts_text parts = flat_map (λ part. 32 ∷ part_text part) parts

-- parts and the byte LF, the end of a line
abbrev pub ended : List Part → List ℕ
ended parts = parts_text parts ++ 10 ∷ []

-- the word, a colon, a name and the parts, and the byte LF
abbrev pub line_text : Line → List ℕ
line_text line = decimal line.word ++ 58 ∷ 32 ∷ line.name ++ parts_text line.parts ++ 10 ∷ []
