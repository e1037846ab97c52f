use Rattle.std.proofs.Common.{◌∙◌, List, [], ◌++◌, take, sym, ap, subst}
use Rattle.std.specs.Prelude.{reverse}
use Rattle.spv_index.specs.Positions.{Stand, stands_of}
use Rattle.spv_scopes.specs.Found.{IsFound, found_heads}
use Rattle.spv_scopes.specs.Heads.{Heads, heads_from}
use Rattle.spv_scopes.proofs.HeadLemmas.{heads_more}
use Rattle.spv_scopes.proofs.ListLemmas.{back_next}
use Rattle.spv_scopes.proofs.heads.heads_of.Goals as goal

pub loop-n-init : goal.loop-n-init
loop-n-init c =
    let t = c.args.tables.now in
    let spots = c.args.spots.now in
    record {
      stands_are = c.stands-stands.ensures ∙ ap stands_of c.index.ensures.insts;
      found = c.new-found.ensures.found t spots;
      same = ap (λ (heads : Heads). heads ++ heads_from t spots [] c.stands-stands.result) c.new-found.ensures.heads;
    }

pub loop-n-preserved : goal.loop-n-preserved
loop-n-preserved c =
    let t = c.args.tables.now in
    let spots = c.args.spots.now in
    let stands = c.stands-stands.result in
    let n = c.loop-n.n in
    let i = c.loop-n.invariant in
    let at = c.at-stand.result in
    let s : Stand = record { position = at.position; class = at.class; inst = at.inst.now } in
    let back = reverse (take n stands) in
    record {
      stands_are = i.stands_are;
      found = subst (λ (b : List Stand). IsFound t spots b c.add.new.self) (sym (back_next stands n s c.at-stand.ensures)) (c.in_ok-add.ensures.found back i.found);
      same = heads_more t spots stands n s (found_heads c.loop-n.found) (found_heads c.add.new.self) (heads_from t spots [] stands) c.at-stand.ensures (c.in_ok-add.ensures.heads back i.found) i.same;
    }
