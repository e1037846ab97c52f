use Rattle.std.proofs.Common.{◌≡◌, ◌∙◌, ℕ, ◌<◌, List, length, sym, ap, subst, arith}
use Rattle.std.specs.List.{All}
use Rattle.std.specs.Prelude.{filter, option_copied}
use Rattle.std.proofs.lemmas.List.{take_all}
use Rattle.spv_base.specs.declared.values.PassedEvent.{PassedEvent}
use Rattle.spv_expr.specs.Bits.{events_in}
use Rattle.spv_expr.specs.Groups.{Context, is_about}
use Rattle.spv_expr.specs.Picks.{picked}
use Rattle.spv_expr.proofs.groups.Events.of_variable.Goals as goal

pub picked-requires : goal.picked-requires
picked-requires c =
    let group = c.self.invariant c.args.variable in
    subst (λ (events : List PassedEvent). All (λ n. n < length events) c.numbers_under-numbers.result.now) (sym c.events_in.ensures)
    (subst (λ (ns : List ℕ). All (λ n. n < length (events_in c.self.inside.stack.now (option_copied c.self.inside.frame))) ns) (sym c.numbers_under-numbers.ensures) group.within)

pub returns : goal.returns
returns c =
    let group = c.self.invariant c.args.variable in
    let events = events_in c.self.inside.stack.now (option_copied c.self.inside.frame) in
    let own : c.picked.result ≡ filter (is_about c.self.inside.tables.now c.args.variable) events =
    c.picked.ensures ∙ ap (λ (es : List PassedEvent). picked es c.numbers_under-numbers.result.now) c.events_in.ensures ∙ ap (picked events) c.numbers_under-numbers.ensures ∙ group.are
    ∙ ap (filter (is_about c.self.inside.tables.now c.args.variable)) (take_all (length events) events (omega arith)) in
    subst (λ (x : Context). c.picked.result ≡ filter (is_about x.tables c.args.variable) (events_in x.stack x.frame)) c.self.view_is own
