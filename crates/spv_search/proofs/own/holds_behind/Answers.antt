use Rattle.std.proofs.Common.{◌+◌, ◌∙◌, not, sym, ap}
use Rattle.spv_group.specs.Group.{entries_in, group_at}
use Rattle.spv_search.specs.Keys.{key_in, named_key, same_key}
use Rattle.spv_search.proofs.OwnLemmas.{back_again, by_keys, event_behind, not_such}
use Rattle.spv_search.proofs.own.holds_behind.Goals as goal

pub returns-then-not-is_such : goal.returns-then-not-is_such
returns-then-not-is_such c =
    let g = c.args.group.now.group in
    let n = g.position in
    λ p noted. not_such c.args.command c.args.focus.now.inv p (group_at (n + 1) g) c.args.happening.now (event_behind g.program (entries_in g) n c.args.happening.now c.requires.event) (sym c.is_such.ensures ∙ c.if-not-is_such.true)

pub returns : goal.returns
returns c =
    let i = c.args.focus.now.inv in
    let t = c.args.focus.now.tables.now in
    let g = c.args.group.now.group in
    let n = g.position in
    let there = group_at (n + 1) g in
    λ p noted. (
    let was = rw c.in-Some.is at noted in
    ap (λ b. not b)
    (c.same_key.ensures
    ∙ ap (λ k. same_key k (named_key t c.in_ok-key.field-0)) was.0
    ∙ ap (λ k. same_key (key_in there i) k) (c.in_ok-key.ensures ∙ sym (ap (λ m. key_in (group_at m g) i) (back_again n))))
    ∙ by_keys c.args.command i p there c.args.happening.now (event_behind g.program (entries_in g) n c.args.happening.now c.requires.event) (sym c.is_such.ensures ∙ c.if-not-is_such.false) was.1
    (sym c.compares.ensures ∙ c.if-not-compares.false))
