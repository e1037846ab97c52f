use Rattle.std.proofs.Common.{◌≡◌, ◌∙◌, ap, length, subst, sym}
use Rattle.std.proofs.lemmas.List.{with_items_is}
use Rattle.spv_hits.specs.Kept.{AllLie, Stopping}
use Rattle.spv_hits.proofs.HitLemmas.{noted_anew, on_ok}
use Rattle.spv_hits.proofs.hits.StopHits.note_places.Goals as goal

pub returns-clause-noted : goal.returns-clause-noted
returns-clause-noted c =
    let i = c.self.inside in
    let v : Stopping = record {
      tables = i.tables.now;
      breaks = i.breaks.now;
      watches = i.watches.now;
      sizes = i.sizes.now;
      landed = i.landed;
      bits = i.kept.items;
      places = i.places.items;
      same = i.same;
    } in
    let long : length c.keep_others.new.places ≡ i.places.len = c.keep_others.auto.places ∙ ap length c.as_mut_slice.ensures.value ∙ sym i.places.ok.0 in
    on_ok c.keep_others.result _ _
    (λ placed o noted alike none.
    let anew = noted_anew v c.args.self.now o c.args.group.now.group c.list.result.now c.as_slice.result.now c.as_mut_slice.result.now c.keep_others.new.places c.self.view_is c.list.ensures.list c.as_slice.ensures.value
    c.as_mut_slice.ensures.value placed noted alike none in
    record { bits = anew.bits; places = subst (λ ps. AllLie v.tables v.watches.0 ps c.args.group.now.group) (sym (with_items_is i.places c.keep_others.new.places long)) anew.places })
    c.keep_others.ensures
