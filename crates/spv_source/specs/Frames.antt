-- Where a shown frame stands: its name, and its file and line or the word of its next instruction.
use Rattle.std.specs.Prelude.{ℕ, nat_lt, ◌==◌, ◌||◌, if◌then◌else◌, List, [], ◌∷◌, ◌++◌, length, map, codes, decimal}
use Rattle.spv_dbg.specs.declared.frames.ShownFrame.{ShownFrame}

-- a byte of a name or a file: those below 32 and the byte 127 are shown as `?`, which is 63
abbrev pub shown_byte : ℕ → ℕ
shown_byte byte = if nat_lt byte 32 || byte == 127 then 63 else byte

abbrev pub shown_bytes : List ℕ → List ℕ
shown_bytes bytes = map shown_byte bytes

-- the frame's name, or `%ID` of the real function where it is empty
abbrev pub name_text : ShownFrame → List ℕ
name_text f = if length f.name == 0 then codes "%" ++ decimal f.function else shown_bytes f.name

-- `FILE:LINE`, or `word W` where there is no line
abbrev pub line_or_word : ShownFrame → List ℕ
line_or_word f = if f.line == 0 then codes "word " ++ decimal f.word else shown_bytes f.file ++ codes ":" ++ decimal f.line

-- `NAME FILE:LINE` or `NAME word W`
abbrev pub place_text : ShownFrame → List ℕ
place_text f = name_text f ++ codes " " ++ line_or_word f

-- `#K`, a space, where the frame stands, and LF, which is 10
abbrev pub frame_line : ℕ → ShownFrame → List ℕ
frame_line k f = codes "#" ++ decimal k ++ codes " " ++ place_text f ++ 10 ∷ []
