use Rattle.std.proofs.Common.{◌≡◌, ◌+◌, ◌≤◌, drop}
use Rattle.spv_bodies.specs.Calls.{parameters_ahead}
use Rattle.spv_bodies.proofs.calls.parameters_ahead.Given as goal

-- the parameters so far, and those further on, are all
abbrev pub invariant-loop-inst : goal.invariant-loop-inst
invariant-loop-inst l = record {
  all : l.count + parameters_ahead (drop l.inst-index l.insts) ≡ parameters_ahead l.insts;
  few : l.count ≤ l.inst-index;
}
