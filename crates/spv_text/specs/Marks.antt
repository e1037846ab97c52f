-- What stands before the number of a part.
use Rattle.std.specs.Prelude.{◌≡◌, ℕ, true, List, [], codes, slice_index}
use Rattle.spv_base.specs.declared.instructions.Operand.TheVariants.{Id, Lit, Text}
use Rattle.spv_text.specs.declared.lines.Part.{Part}
use Rattle.spv_text.specs.declared.lines.Part.TheVariants as part
use Rattle.spv_text.specs.declared.parts.Mark.{Mark}
use Rattle.spv_text.specs.declared.parts.Mark.TheVariants as mark
use Rattle.spv_text.specs.Lines.{HasNoDigit, Any}
use Rattle.spv_line.specs.Numbers.{is_digit}

abbrev pub mark_text : Mark → List ℕ
mark_text mark.ResultType = codes "type=%"
mark_text mark.ResultId = codes "id=%"
mark_text mark.Id = codes "%"
mark_text mark.Literal = []

-- the part of this mark and number
abbrev pub numbered : Mark → ℕ → Part
numbered mark.ResultType id = part.ResultType id
numbered mark.ResultId id = part.ResultId id
numbered mark.Id id = part.Operand (Id id)
numbered mark.Literal literal = part.Operand (Lit literal)

-- what may follow a mark: where it has no bytes, a digit
abbrev pub MayFollow : Mark → List ℕ → Type 0
MayFollow mark.ResultType rest = Any rest
MayFollow mark.ResultId rest = Any rest
MayFollow mark.Id rest = Any rest
MayFollow mark.Literal rest = is_digit (slice_index rest 0) ≡ true

-- a part ends before this text: no digit follows a number
abbrev pub EndsBefore : Part → List ℕ → Type 0
EndsBefore (part.ResultType id) rest = HasNoDigit rest
EndsBefore (part.ResultId id) rest = HasNoDigit rest
EndsBefore (part.Operand (Id id)) rest = HasNoDigit rest
EndsBefore (part.Operand (Lit literal)) rest = HasNoDigit rest
EndsBefore (part.Operand (Text bytes)) rest = Any rest
