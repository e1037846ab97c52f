use Rattle.std.proofs.Common.{◌≡◌, drop, map}
use Rattle.std.specs.List.{list_all}
use Rattle.spv_cfg.specs.Phis.{is_predecessor}
use Rattle.spv_cfg.proofs.phis.are_predecessors.Given as goal

abbrev pub invariant-loop-pair : goal.invariant-loop-pair
invariant-loop-pair l = list_all (is_predecessor l.edges l.label) (map (λ pair. pair.1) (drop l.pair-index l.pairs))
    ≡ list_all (is_predecessor l.edges l.label) (map (λ pair. pair.1) l.pairs)
