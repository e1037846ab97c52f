use Rattle.spv_order.specs.Reaches.{others_of}
use Rattle.std.proofs.Common.{◌≤◌}
use Rattle.spv_order.proofs.SweepLemmas.{Swept}
use Rattle.spv_order.proofs.sweep.first_clash.Given as goal

abbrev pub invariant-loop-touch : goal.invariant-loop-touch
invariant-loop-touch l = record {
  all : l.all.next ≤ l.all.most;
  written : l.written.next ≤ l.written.most;
  swept : Swept l.touches l.below l.also l.touch-index (others_of l.all) (others_of l.written);
}
