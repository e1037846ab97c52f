use Rattle.std.proofs.Common.{◌<◌, ◌∙◌, ap, arith}
use Rattle.spv_mem.specs.Memory.{Held}
use Rattle.spv_initial.specs.Start.{own_roots}
use Rattle.spv_initial.proofs.StartLemmas.{each_done, each_empty, each_next, each_none}
use Rattle.spv_initial.proofs.values.Opening.add_each_own.Goals as goal

pub each-init : goal.each-init
each-init c = record {
  within = omega arith;
  memory = each_none (own_roots c.args.self.now.accepted.now c.args.self.now.setup.now c.args.list.now) c.args.count c.args.memory.now c.requires.none;
}

pub add_all_own-requires : goal.add_all_own-requires
add_all_own-requires c =
    let some : 0 < c.each.left = omega (arith, c.each-test.true) in
    record {
      types = ap (λ (m : Held). m.types) c.each.invariant.memory ∙ c.requires.types;
      are = c.requires.are;
      targets = ap (λ (m : Held). m.targets) c.each.invariant.memory ∙ c.requires.targets;
      none = each_empty (own_roots c.args.self.now.accepted.now c.args.self.now.setup.now c.args.list.now) c.each.left c.args.count c.each.memory c.args.memory.now c.each.invariant.memory some;
    }

pub each-preserved : goal.each-preserved
each-preserved c =
    let some : 0 < c.each.left = omega (arith, c.each-test.true) in
    record {
      within = omega (arith, c.each.invariant.within);
      memory = each_next (own_roots c.args.self.now.accepted.now c.args.self.now.setup.now c.args.list.now) c.each.left c.args.count c.each.memory c.add_all_own.new.memory c.args.memory.now c.each.invariant.memory some c.each.invariant.within
          c.in_ok-add_all_own.ensures;
    }

pub returns : goal.returns
returns c =
    each_done (own_roots c.args.self.now.accepted.now c.args.self.now.setup.now c.args.list.now) c.each.left c.args.count c.each.memory c.args.memory.now c.each.invariant.memory (omega (arith, c.each-test.false))
