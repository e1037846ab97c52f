use Rattle.std.proofs.Common.{◌≡◌, ◌++◌}
use Rattle.std.specs.List.{flat_map, range_with_len}
use Rattle.spv_probe.specs.Kits.{tests_of}
use Rattle.spv_session.specs.Reply.{tally_reply}
use Rattle.spv_session.proofs.session.Core.push_tallies.Given as goal

abbrev pub invariant-loop-place : goal.invariant-loop-place
invariant-loop-place g l = l.text.items ≡ l.fn.text.items ++ flat_map (tally_reply (tests_of (λ b. (goal.Probe-dyn g (b.vtable, b.value)).test b.value) l.kit.boxes.items) l.self.view) (range_with_len 1 l.place)
