use Rattle.std.proofs.Common.{◌≡◌, ◌≤◌, [], drop, length, refl, arith}
use Rattle.std.proofs.lemmas.List.{drop_all}
use Rattle.std.specs.List.{flat_map}
use Rattle.spv_index.specs.Positions.{Stand, outside}
use Rattle.spv_cfg.specs.Layout as spec
use Rattle.spv_base.proofs.Exports.{lowest-append}
use Rattle.spv_cfg.proofs.Walks.{behind_more, lowest_more, lowest_all}
use Rattle.spv_cfg.proofs.layout.layout_breach.Goals as goal

pub loop-n-preserved : goal.loop-n-preserved
loop-n-preserved c =
    let s : Stand = record { position = c.at-stand.result.position; class = c.at-stand.result.class; inst = c.at-stand.result.inst.now } in
    record {
      words = lowest_more spec.layout_breach c.loop-n.least c.breach_at.result _ _ c.args.stands.now c.loop-n.n s c.at-stand.ensures c.breach_at.ensures c.lower-least.ensures c.loop-n.invariant.words;
      last = behind_more c.loop-n.position _ _ c.args.stands.now c.loop-n.n s c.at-stand.ensures c.after-position.ensures c.loop-n.invariant.last;
    }

pub returns : goal.returns
returns c =
    let stood = c.args.stands.now in
    let le : length stood ≤ c.loop-n.n = omega arith in
    let past : drop c.loop-n.n stood ≡ [] = drop_all c.loop-n.n stood le in
    let last : c.loop-n.position ≡ spec.behind outside stood = rw past at c.loop-n.invariant.last in
    let least = lowest_all spec.layout_breach c.loop-n.least _ stood c.loop-n.n le c.loop-n.invariant.words in
    rw (c.lower.ensures, c.unfinished.ensures, least, last, lowest-append (flat_map spec.layout_breach stood) (spec.unfinished (spec.behind outside stood))) refl
