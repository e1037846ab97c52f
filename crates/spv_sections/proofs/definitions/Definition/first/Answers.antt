use Rattle.std.proofs.Common.{◌∙◌, ◌≤◌}
use Rattle.spv_sections.proofs.DefinitionLemmas.{first_by_parts, first_none}
use Rattle.spv_sections.proofs.definitions.Definition.first.Goals as goal

pub returns-then-not-is_below : goal.returns-then-not-is_below
returns-then-not-is_below c = first_none c.args.index.now c.args.id (rw c.bound-limit.ensures.bound at c.if-not-is_below.ensures)

pub returns : goal.returns
returns c =
    let limit : c.args.index.now.bound ≤ 1048576 = rw c.bound-limit.ensures.bound at c.bound-limit.ensures.limit in
    c.of_parts.ensures ∙ first_by_parts c.args.index.now c.args.id _ _ limit (rw c.bound-limit.ensures.bound at c.if-not-is_below.ensures) c.defining.ensures c.standing.ensures
