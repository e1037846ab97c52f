use Rattle.std.proofs.Common.{◌≡◌, ◌++◌}
use Rattle.std.specs.List.{flat_map, range_with_len}
use Rattle.spv_session.specs.Reply.{invocation_reply}
use Rattle.spv_session.proofs.session.Core.push_group.Given as goal

abbrev pub invariant-loop-inv : goal.invariant-loop-inv
invariant-loop-inv l = l.text.items ≡ l.fn.text.items ++ flat_map (invocation_reply l.self.view.group) (range_with_len 0 l.inv)
