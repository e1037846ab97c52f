-- The text of a scalar, by its type: an integer in decimal by its type's sign, `true` and `false`, and `<undefined>`.
use Rattle.std.specs.Prelude.{ℕ, ◌==◌, if◌then◌else◌, List, codes, decimal, Option, Some, None}
use Rattle.std.specs.Fmt.{signed_decimal}
use Rattle.spv_alu.specs.Integers.{signed}
use Rattle.spv_base.specs.Cell.{Cell}
use Rattle.spv_show.specs.declared.scalars.Reading.{Reading}
use Rattle.spv_show.specs.declared.scalars.Reading.TheVariants.{Boolean, Unsigned, Signed}

-- how the bits of an integer are read, by the Signedness of its type: 1 is signed, and 0 is not
abbrev pub reading_of : ℕ → Reading
reading_of sign = if sign == 1 then Signed else Unsigned

abbrev pub boolean_text : ℕ → List ℕ
boolean_text bits = if bits == 0 then codes "false" else codes "true"

abbrev pub number_text : Reading → Cell → List ℕ
number_text Boolean c = boolean_text c.bits
number_text Unsigned c = decimal c.bits
number_text Signed c = signed_decimal (signed c.width c.bits)

abbrev pub scalar_text : Reading → Cell → List ℕ
scalar_text reading c = if c.defined then number_text reading c else codes "<undefined>"

-- what stands where there is no value of a type
abbrev pub unavailable : List ℕ
unavailable = codes "<unavailable>"

abbrev pub scalar_if_any : Reading → Option Cell → List ℕ
scalar_if_any reading None = unavailable
scalar_if_any reading (Some c) = scalar_text reading c
