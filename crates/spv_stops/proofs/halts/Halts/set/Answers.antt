use Rattle.std.proofs.Common.{◌≡◌, Some, None, ap, ◌∙◌}
use Rattle.std.specs.List.{position}
use Rattle.spv_stops.specs.Stops.{has_number}
use Rattle.spv_stops.specs.Halts.{with_halt}
use Rattle.spv_stops.proofs.HaltLemmas.{replaced, added}
use Rattle.spv_stops.proofs.halts.Halts.set.Goals as goal

pub returns-in-Some-clause-ok : goal.returns-in-Some-clause-ok
returns-in-Some-clause-ok c =
    let found : Some c.in-Some.place ≡ position (has_number c.args.k) c.self.inside.halts.items = cc in
    replaced c.args.k c.args.n c.in-Some.place c.self.inside.halts.items found ∙ ap (with_halt c.args.k c.args.n) c.self.view_is

pub returns-in_ok-push-in-None-clause-ok : goal.returns-in_ok-push-in-None-clause-ok
returns-in_ok-push-in-None-clause-ok c =
    let lost : None ≡ position (has_number c.args.k) c.self.inside.halts.items = cc in
    c.in_ok-push-in-None.ensures.items ∙ added c.args.k c.args.n c.self.inside.halts.items lost ∙ ap (with_halt c.args.k c.args.n) c.self.view_is
