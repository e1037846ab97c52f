-- What is kept where variables are read. Clauses of private calls alone cite this.
use Rattle.std.specs.Prelude.{◌≡◌, Option, IfSome}
use Rattle.spv_dbg.specs.declared.frames.ShownFrame.{ShownFrame}
use Rattle.spv_dbg.specs.Tables.{Tables}
use Rattle.spv_expr.specs.Groups.{Context}
use Rattle.spv_frame.specs.Stacks.{Stacked}

-- events that are sorted by variables, if there are some, are those of a shown frame
abbrev pub IsSortedFor : Tables → Stacked → Option ShownFrame → Option Context → Type 0
IsSortedFor t stack frame events = IfSome events (λ (e : Context). e ≡ record { tables = t; stack = stack; frame = frame })
