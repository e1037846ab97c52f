use Rattle.std.proofs.Common.{◌≡◌, ◌∙◌, ap, subst, sym}
use Rattle.std.specs.Prelude.{option_copied}
use Rattle.spv_expr.specs.Sources.{LeadsToSame, ReadsSame}
use Rattle.spv_stops.specs.Watches.{WatchKey}
use Rattle.spv_hits.specs.declared.places.Place.TheVariants.{Nowhere}
use Rattle.spv_hits.proofs.HitLemmas.{if_ok}
use Rattle.spv_hits.proofs.PlaceLemmas.{lies_by}
use Rattle.spv_hits.proofs.places.local_place.Goals as goal

pub returns-in-Some-At : goal.returns-in-Some-At
returns-in-Some-At c =
    let t = c.args.tables.now in
    let k = c.args.key.now in
    let e = c.key.view_is in
    let m = c.args.memory.now in
    let p = c.in-Some-At.pointer.now in
    let inv : c.key.inside.inv ≡ k.inv = ap (λ (y : WatchKey). y.inv) e in
    if_ok c.place_at.result _ _
    (λ place held. lies_by t k place m c.args.stack.now (option_copied c.as_ref.result) c.key.inside.variable c.key.inside.first c.key.inside.count c.in-Some-At.field-0
    (c.as_ref.ensures.value ∙ c.frame_of-frame.ensures) (ap (λ (y : WatchKey). y.variable) e) (ap (λ (y : WatchKey). y.first) e) (ap (λ (y : WatchKey). y.count) e) c.in-Some-At.ensures
    (λ n holds. subst (λ x. ReadsSame x k.inv m n) (sym c.in-Some-At.field-0-is) (subst (λ i. LeadsToSame p i m n) inv (held t k n (sym inv) holds))))
    c.place_at.ensures

pub returns-in-Some-Nowhere : goal.returns-in-Some-Nowhere
returns-in-Some-Nowhere c =
    let k = c.args.key.now in
    let e = c.key.view_is in
    let m = c.args.memory.now in
    lies_by c.args.tables.now k Nowhere m c.args.stack.now (option_copied c.as_ref.result) c.key.inside.variable c.key.inside.first c.key.inside.count c.in-Some-Nowhere.field-0
    (c.as_ref.ensures.value ∙ c.frame_of-frame.ensures) (ap (λ (y : WatchKey). y.variable) e) (ap (λ (y : WatchKey). y.first) e) (ap (λ (y : WatchKey). y.count) e) c.in-Some-Nowhere.ensures
    (λ n holds. subst (λ x. ReadsSame x k.inv m n) (sym c.in-Some-Nowhere.field-0-is) holds)
