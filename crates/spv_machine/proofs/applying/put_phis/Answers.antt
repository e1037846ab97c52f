use Rattle.std.proofs.Common.{◌≡◌, ◌∷◌, ◌+◌, length, refl, rules}
use Rattle.std.specs.Vec.Iter.{into_iter_items}
use Rattle.spv_machine.proofs.Phis.{phi_left, phis_begin, phis_end, phis_next, phis_records, phis_some}
use Rattle.spv_machine.proofs.Recording.{making_on, records_more, records_on}
use Rattle.spv_machine.proofs.ReachedLemmas.{Facts, facts}
use Rattle.spv_machine.proofs.applying.put_phis.Goals as goal

pub loop-phi-init : goal.loop-phi-init
loop-phi-init c =
    let same : into_iter_items c.into_iter-phi-iterator.result ≡ c.args.phis.items = search rules in
    phis_begin c.args.m.now c.args.inv c.args.inst.now c.args.phis.items (into_iter_items c.into_iter-phi-iterator.result) c.args.recorded.now same
    (record { reached = c.requires.reached; values = c.requires.values; rooted = c.requires.rooted; plain = c.requires.plain; left = refl })

pub put_phi-requires-clause-making : goal.put_phi-requires-clause-making
put_phi-requires-clause-making c =
    let g = c.loop-phi.invariant in
    making_on g.count c.args.inv c.args.recorded.now c.loop-phi.recorded c.requires.making g.records

pub put_phi-requires-clause-reached : goal.put_phi-requires-clause-reached
put_phi-requires-clause-reached c = c.loop-phi.invariant.left.reached

pub put_phi-requires-clause-value : goal.put_phi-requires-clause-value
put_phi-requires-clause-value c =
    let rest : into_iter_items c.loop-phi.phi-iterator ≡ c.in-Some.phi ∷ into_iter_items c.next.new.self = search rules in
    (phi_left c.args.m.now c.args.inv c.args.inst.now c.args.phis.items (into_iter_items c.loop-phi.phi-iterator) (into_iter_items c.next.new.self) c.in-Some.phi c.args.recorded.now c.loop-phi.recorded rest c.loop-phi.invariant).values.0

pub put_phi-requires-clause-plain : goal.put_phi-requires-clause-plain
put_phi-requires-clause-plain c =
    let rest : into_iter_items c.loop-phi.phi-iterator ≡ c.in-Some.phi ∷ into_iter_items c.next.new.self = search rules in
    (phi_left c.args.m.now c.args.inv c.args.inst.now c.args.phis.items (into_iter_items c.loop-phi.phi-iterator) (into_iter_items c.next.new.self) c.in-Some.phi c.args.recorded.now c.loop-phi.recorded rest c.loop-phi.invariant).plain.0

pub returns-in_err-put_phi-clause-recorded : goal.returns-in_err-put_phi-clause-recorded
returns-in_err-put_phi-clause-recorded c =
    let g = c.loop-phi.invariant in
    let rest : into_iter_items c.loop-phi.phi-iterator ≡ c.in-Some.phi ∷ into_iter_items c.next.new.self = search rules in
    let one = phis_some c.args.m.now c.args.inv c.args.inst.now c.args.phis.items (into_iter_items c.loop-phi.phi-iterator) (into_iter_items c.next.new.self) c.in-Some.phi c.args.recorded.now c.loop-phi.recorded rest g in
    records_more (g.count + 1) (length c.args.phis.items) c.args.recorded.now c.put_phi.new.recorded one (records_on g.count 1 c.args.recorded.now c.loop-phi.recorded c.put_phi.new.recorded g.records c.put_phi.ensures.recorded)

pub loop-phi-preserved : goal.loop-phi-preserved
loop-phi-preserved c =
    let p = c.args.m.now in
    let known : Facts p.accepted = facts p.accepted c.accepted-accepted.result.now c.accepted-accepted.ensures.module c.insts-insts.ensures.accepted c.insts-insts.ensures.valid in
    let rest : into_iter_items c.loop-phi.phi-iterator ≡ c.in-Some.phi ∷ into_iter_items c.next.new.self = search rules in
    phis_next p c.args.inv c.args.inst.now c.args.phis.items (into_iter_items c.loop-phi.phi-iterator) (into_iter_items c.next.new.self) c.in-Some.phi c.args.recorded.now c.loop-phi.recorded rest c.loop-phi.invariant
    known c.put_phi.new.recorded c.in_ok-put_phi.ensures.ok c.put_phi.ensures.recorded

pub returns-clause-registers : goal.returns-clause-registers
returns-clause-registers c =
    let none : length (into_iter_items c.loop-phi.phi-iterator) ≡ 0 = search rules in
    phis_end c.args.m.now c.args.inv c.args.inst.now c.args.phis.items (into_iter_items c.loop-phi.phi-iterator) c.args.recorded.now c.loop-phi.recorded none c.loop-phi.invariant

pub returns-clause-reached : goal.returns-clause-reached
returns-clause-reached c = c.loop-phi.invariant.left.reached

pub returns-clause-recorded : goal.returns-clause-recorded
returns-clause-recorded c =
    phis_records c.args.m.now c.args.inv c.args.inst.now c.args.phis.items (into_iter_items c.loop-phi.phi-iterator) c.args.recorded.now c.loop-phi.recorded c.loop-phi.invariant
