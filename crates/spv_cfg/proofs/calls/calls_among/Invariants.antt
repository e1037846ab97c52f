use Rattle.std.proofs.Common.{◌≡◌, ◌++◌, drop}
use Rattle.std.specs.List.{flat_map}
use Rattle.spv_cfg.specs.Calls.{call_of}
use Rattle.spv_cfg.proofs.calls.calls_among.Given as goal

abbrev pub invariant-loop-n : goal.invariant-loop-n
invariant-loop-n l = l.calls.items ++ flat_map (call_of l.numbers) (drop l.n l.stands) ≡ flat_map (call_of l.numbers) l.stands
