-- Literals of integer constants (SPIR-V 1.6 sections 2.2.1, "Literal", and 3.42.7, OpConstant): one word for a width up to
-- 32 and two for 64, the low-order word first. Of a narrower integer the other bits are not looked at.
use Rattle.std.specs.Option.{is_some, option_and_then, option_map, option_map_or}
use Rattle.std.specs.Prelude.{Bool, List, None, Option, Some, false, if◌then◌else◌, length, nat_le, pos, slice_get, ℕ, ◌&&◌, ◌*◌, ◌+◌, ◌==◌, ◌^◌}
use Rattle.spv_base.specs.Cell.{Cell, undefined_cell}
use Rattle.spv_base.specs.declared.instructions.Operand.{Operand}
use Rattle.spv_types.specs.declared.forms.Form.{Form}
use Rattle.spv_types.specs.declared.forms.Form.TheVariants.{Void, Bool as Boolean, Int, Vector, Array, Runtime, Struct, Pointer, Function}
use Rattle.spv_index.specs.Operands.{literal_in}
use Rattle.spv_types.specs.Rules.{is_width}
use Rattle.spv_alu.specs.Results.{integer}

-- the width of an integer type
abbrev pub integer_width : Option Form → Option ℕ
integer_width (Some (Int width sign)) = if is_width width then Some width else None
integer_width _ = None

-- the words of a literal of a width
abbrev pub word_count : ℕ → ℕ
word_count width = if nat_le width 32 then 1 else 2

-- the word at a place
abbrev pub word_at : List Operand → ℕ → Option ℕ
word_at words place = option_and_then literal_in (slice_get words place)

-- the number of a literal of a width, by its one word, or by its low-order word and the high-order one
abbrev pub literal_number : ℕ → List Operand → Option ℕ
literal_number width words =
    option_and_then (λ low. if nat_le width 32 then Some low else option_map (λ high. low + high * 2 ^ 32) (word_at words 1)) (word_at words 0)

-- a literal of an integer type is as many words as its width wants
abbrev pub keeps_literal : Option ℕ → List Operand → Bool
keeps_literal None words = false
keeps_literal (Some width) words = length words == word_count width && is_some (literal_number width words)

-- the lane of a literal: the low-order bits of its number; an undefined one of what is no literal, or of no integer type
abbrev pub literal_lane : Option ℕ → List Operand → Cell
literal_lane None words = undefined_cell 1
literal_lane (Some width) words = option_map_or (λ n. integer width (pos n)) (literal_number width words) (undefined_cell width)
