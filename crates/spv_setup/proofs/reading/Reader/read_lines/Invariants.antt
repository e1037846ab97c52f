use Rattle.std.proofs.Common.{◌≡◌, ◌+◌, ◌≤◌, suc}
use Rattle.std.specs.Option.{option_copied}
use Rattle.spv_setup.specs.Lines.{lines_in, left_length}
use Rattle.spv_setup.specs.Settings.{lines_after}
use Rattle.spv_setup.specs.Reading.{IsIndexed}
use Rattle.spv_setup.proofs.reading.Reader.read_lines.Given as goal

abbrev pub invariant-loop-left : goal.invariant-loop-left
invariant-loop-left l = record {
  indexed : IsIndexed l.self.ids l.self.bindings l.self.settings;
  short : l.number + left_length (option_copied l.left) ≤ 67108865;
  same : lines_after l.version (suc l.number) (lines_in (option_copied l.left)) l.self.settings ≡ lines_after l.version 2 (lines_in (option_copied l.fn.text)) l.fn.self.settings;
}

abbrev pub decreases-loop-left : goal.decreases-loop-left
decreases-loop-left l = left_length (option_copied l.left)
