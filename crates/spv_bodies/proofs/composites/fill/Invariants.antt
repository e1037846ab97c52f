use Rattle.std.proofs.Common.{◌≡◌, drop}
use Rattle.spv_bodies.specs.Composites.{fill}
use Rattle.spv_bodies.proofs.composites.fill.Given as goal

-- the constituents from here on fill what is left
abbrev pub invariant-loop-constituent : goal.invariant-loop-constituent
invariant-loop-constituent l = fill l.context l.component l.left (drop l.constituent-index l.constituents) ≡ fill l.context l.component l.count l.constituents
