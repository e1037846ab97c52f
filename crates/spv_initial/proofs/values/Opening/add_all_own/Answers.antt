use Rattle.std.proofs.Common.{◌∙◌, ap, refl, take}
use Rattle.spv_mem.specs.Memory.{Held}
use Rattle.spv_initial.specs.Start.{own_roots}
use Rattle.spv_initial.proofs.StartLemmas.{one_holds, one_named, own_fresh, own_inside, own_next, own_none}
use Rattle.spv_initial.proofs.VariableLemmas.{item, item_is}
use Rattle.spv_initial.proofs.values.Opening.add_all_own.Goals as goal

pub loop-declared-init : goal.loop-declared-init
loop-declared-init c = own_none c.args.self.now.accepted.now c.args.self.now.setup.now c.args.list.now c.args.inv c.args.memory.now c.args.memory.now refl c.requires.none

pub add_own-requires : goal.add_own-requires
add_own-requires c =
    let k = c.loop-declared.declared-index in
    let is = item_is c.args.list.now k c.loop-declared-test.true in
    record {
      types = ap (λ (m : Held). m.types) c.loop-declared.invariant ∙ c.requires.types;
      holds = one_holds c.args.self.now.accepted.now.types c.args.list.now k (item c.args.list.now k) c.requires.are c.loop-declared-test.true is;
      named = one_named c.args.self.now.accepted.now.types c.args.list.now k (item c.args.list.now k) c.loop-declared.memory.targets c.requires.are c.loop-declared-test.true is
          (ap (λ (m : Held). m.targets) c.loop-declared.invariant ∙ c.requires.targets);
      inside = own_inside c.args.inv (own_roots c.args.self.now.accepted.now c.args.self.now.setup.now (take k c.args.list.now) c.args.inv) c.loop-declared.memory c.args.memory.now c.requires.none
          c.loop-declared.invariant;
      fresh = own_fresh c.args.self.now.accepted.now c.args.self.now.setup.now c.args.list.now k c.args.inv (item c.args.list.now k) c.loop-declared.memory c.args.memory.now c.requires.are
          c.loop-declared-test.true is c.requires.none c.loop-declared.invariant;
    }

pub loop-declared-preserved : goal.loop-declared-preserved
loop-declared-preserved c =
    let k = c.loop-declared.declared-index in
    own_next c.args.self.now.accepted.now c.args.self.now.setup.now c.args.list.now k c.args.inv (item c.args.list.now k) c.loop-declared.memory c.add_own.new.memory c.args.memory.now
    c.loop-declared-test.true (item_is c.args.list.now k c.loop-declared-test.true) c.loop-declared.invariant c.in_ok-add_own.ensures
