use Rattle.std.proofs.Common.{◌∙◌, ap}
use Rattle.spv_mem.specs.Memory.{Held}
use Rattle.spv_initial.proofs.StartLemmas.{one_holds, one_named, shared_fresh, shared_next}
use Rattle.spv_initial.proofs.VariableLemmas.{item, item_is}
use Rattle.spv_initial.proofs.values.Opening.add_all_shared.Goals as goal

pub add_shared-requires : goal.add_shared-requires
add_shared-requires c =
    let k = c.loop-declared.declared-index in
    let is = item_is c.args.list.now k c.loop-declared-test.true in
    record {
      numbers = c.requires.numbers;
      types = ap (λ (m : Held). m.types) c.loop-declared.invariant ∙ c.requires.types;
      holds = one_holds c.args.self.now.accepted.now.types c.args.list.now k (item c.args.list.now k) c.requires.are c.loop-declared-test.true is;
      named = one_named c.args.self.now.accepted.now.types c.args.list.now k (item c.args.list.now k) c.loop-declared.memory.targets c.requires.are c.loop-declared-test.true is
          (ap (λ (m : Held). m.targets) c.loop-declared.invariant ∙ c.requires.targets);
      fresh = shared_fresh c.args.self.now.accepted.now c.args.self.now.setup.now c.args.list.now k (item c.args.list.now k) c.loop-declared.memory c.args.memory.now c.requires.are c.loop-declared-test.true is
          c.loop-declared.invariant;
    }

pub loop-declared-preserved : goal.loop-declared-preserved
loop-declared-preserved c =
    let k = c.loop-declared.declared-index in
    shared_next c.args.self.now.accepted.now c.args.self.now.setup.now c.args.list.now k (item c.args.list.now k) c.loop-declared.memory c.add_shared.new.memory c.args.memory.now
    c.loop-declared-test.true (item_is c.args.list.now k c.loop-declared-test.true) c.loop-declared.invariant c.in_ok-add_shared.ensures
