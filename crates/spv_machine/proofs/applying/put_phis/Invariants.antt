use Rattle.std.specs.Vec.Iter.{into_iter_items}
use Rattle.spv_machine.proofs.Phis.{PhisGoing}
use Rattle.spv_machine.proofs.applying.put_phis.Given as goal

-- those so far have their values, with an entry for each
abbrev pub invariant-loop-phi : goal.invariant-loop-phi
invariant-loop-phi l = PhisGoing l.m l.inv l.inst l.fn.phis.items (into_iter_items l.phi-iterator) l.fn.recorded l.recorded
