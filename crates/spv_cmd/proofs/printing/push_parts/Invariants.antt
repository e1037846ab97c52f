use Rattle.std.proofs.Common.{◌≡◌, ◌++◌, drop}
use Rattle.spv_cmd.specs.Paths.{parts_text}
use Rattle.spv_cmd.proofs.printing.push_parts.Given as goal

-- what was written and what is left are the whole
abbrev pub invariant-loop-part : goal.invariant-loop-part
invariant-loop-part l = l.text.items ++ parts_text (drop l.part-index l.part-items) ≡ l.initial.text.items ++ parts_text l.part-items
