-- The codes of refusals of a line.
use Rattle.std.specs.Prelude.{ℕ}
use Rattle.spv_setup.specs.declared.line.LineFault.{LineFault}
use Rattle.spv_setup.specs.declared.line.LineFault.TheVariants.{Words, Form, Repeated}

-- S2, S3 and S4
abbrev pub code_of : LineFault → ℕ
code_of Words = 2
code_of Form = 3
code_of Repeated = 4
