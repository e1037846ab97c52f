use Rattle.std.proofs.Common.{◌≡◌, ◌≤◌, drop}
use Rattle.spv_bodies.specs.Places.{nowhere}
use Rattle.spv_bodies.proofs.BodyLemmas.{breaches_from}
use Rattle.spv_bodies.proofs.bodies.check_all.Given as goal

-- no instruction so far is refused
abbrev pub invariant-loop-n : goal.invariant-loop-n
invariant-loop-n l = record {
  refusals : breaches_from l.context nowhere l.insts ≡ breaches_from l.context l.within (drop l.n l.insts);
  matching : l.matching ≡ l.context.types;
  few : l.within.parameters ≤ l.n;
}
