use Rattle.std.proofs.Common.{◌∙◌, ℕ, List, [], ◌++◌, map, take, sym, ap}
use Rattle.std.specs.Prelude.{reverse}
use Rattle.spv_index.specs.Positions.{Stand, stands_of}
use Rattle.spv_scopes.specs.declared.calls.Linked.{Linked}
use Rattle.spv_scopes.specs.Calls.{seen}
use Rattle.spv_scopes.specs.InForce.{in_force}
use Rattle.spv_scopes.specs.Spots.{spots_from}
use Rattle.spv_scopes.proofs.ListLemmas.{back_next}
use Rattle.spv_scopes.proofs.SpotLemmas.{spots_more}
use Rattle.spv_scopes.proofs.spots.spots_of.Goals as goal

pub loop-n-init : goal.loop-n-init
loop-n-init c =
    let t = c.args.tables.now in
    let calls = c.args.scopes.now.calls.list.items in
    let stands = c.stands-stands.result in
    record {
      stands_are = c.stands-stands.ensures ∙ ap stands_of c.index.ensures.insts;
      force_is = c.none-force.ensures t;
      same = ap (λ (es : List (ℕ × Linked)). map (seen calls) es ++ spots_from t [] stands) c.new-entries.ensures.items;
    }

pub loop-n-preserved : goal.loop-n-preserved
loop-n-preserved c =
    let t = c.args.tables.now in
    let calls = c.args.scopes.now.calls.list.items in
    let stands = c.stands-stands.result in
    let n = c.loop-n.n in
    let i = c.loop-n.invariant in
    let at = c.at-stand.result in
    let s : Stand = record { position = at.position; class = at.class; inst = at.inst.now } in
    let back = reverse (take n stands) in
    record {
      stands_are = i.stands_are;
      force_is = c.after-force.ensures back i.force_is ∙ sym (ap (in_force t) (back_next stands n s c.at-stand.ensures));
      same = spots_more t stands n s (map (seen calls) c.loop-n.entries.items) (map (seen calls) c.add_spot.new.entries.items) (spots_from t [] stands) c.at-stand.ensures (c.in_ok-add_spot.ensures back i.force_is) i.same;
    }
