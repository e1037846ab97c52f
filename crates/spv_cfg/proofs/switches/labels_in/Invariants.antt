use Rattle.std.proofs.Common.{◌≡◌, ◌++◌, drop, map}
use Rattle.std.specs.Option.{option_to_list}
use Rattle.spv_cfg.proofs.switches.labels_in.Given as goal

abbrev pub invariant-loop-case : goal.invariant-loop-case
invariant-loop-case l = l.labels.items ++ map (λ c. c.1) (drop l.case-index l.cases) ≡ option_to_list l.fn.default ++ map (λ c. c.1) l.cases
