use Rattle.std.proofs.Common.{◌≡◌, true, false, cond, Some, None, Ok, Err, sym, ap, ◌∙◌, subst}
use Rattle.std.specs.List.{position}
use Rattle.spv_stops.specs.Stops.{Stops, has_number, is_kept, without_stop, AreStops}
use Rattle.spv_stops.proofs.StopLemmas.{removed_is, stops_without, kept_where, kept_nowhere}
use Rattle.spv_stops.proofs.stops.Stops.remove.Goals as goal

pub invariant_of-self : goal.invariant_of-self
invariant_of-self g c =
    let stops : Stops _ = (c.self.inside.kept.items, c.self.inside.given) in
    let found : Some c.in-Some.place ≡ position (has_number c.args.number) stops.0 = cc in
    let same : c.remove.new.self.items ≡ (without_stop c.args.number stops).0 = c.remove.ensures.items ∙ removed_is c.args.number g.row.MOST c.in-Some.place stops c.self.invariant found in
    subst (λ items. AreStops g.row.MOST (items, c.self.inside.given)) (sym same) (stops_without c.args.number g.row.MOST stops c.self.invariant)

pub returns-in-None-clause-answer : goal.returns-in-None-clause-answer
returns-in-None-clause-answer g c =
    let items = c.self.inside.kept.items in
    let lost : None ≡ position (has_number c.args.number) items = cc in
    let kept : is_kept c.args.number c.args.self.now ≡ false = ap (is_kept c.args.number) (sym c.self.view_is) ∙ kept_nowhere c.args.number items lost in
    sym (ap (λ b. cond b (Ok tt) (Err (record { code = 7 }))) kept)

pub returns-in-Some-clause-answer : goal.returns-in-Some-clause-answer
returns-in-Some-clause-answer g c =
    let items = c.self.inside.kept.items in
    let found : Some c.in-Some.place ≡ position (has_number c.args.number) items = cc in
    let kept : is_kept c.args.number c.args.self.now ≡ true = ap (is_kept c.args.number) (sym c.self.view_is) ∙ kept_where c.args.number c.in-Some.place items found in
    sym (ap (λ b. cond b (Ok tt) (Err (record { code = 7 }))) kept)

pub returns-in-Some-clause-ok : goal.returns-in-Some-clause-ok
returns-in-Some-clause-ok g c =
    let stops : Stops _ = (c.self.inside.kept.items, c.self.inside.given) in
    let found : Some c.in-Some.place ≡ position (has_number c.args.number) stops.0 = cc in
    let same : c.remove.new.self.items ≡ (without_stop c.args.number stops).0 = c.remove.ensures.items ∙ removed_is c.args.number g.row.MOST c.in-Some.place stops c.self.invariant found in
    ap (λ items. (items, c.self.inside.given)) same ∙ ap (without_stop c.args.number) c.self.view_is
