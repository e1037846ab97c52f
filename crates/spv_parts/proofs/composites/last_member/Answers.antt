use Rattle.std.proofs.Common.{◌∙◌, ℕ, sym, ap}
use Rattle.std.specs.Prelude.{option_map, Option}
use Rattle.spv_base.proofs.Exports.{not_same}
use Rattle.spv_parts.specs.Kept.{kept_part, saturated_place}
use Rattle.spv_parts.specs.Parts.{TypePart}
use Rattle.spv_parts.proofs.CompositeLemmas.{last_is}
use Rattle.spv_parts.proofs.composites.last_member.Goals as goal

pub returns : goal.returns
returns c = c.numbered_in.ensures
    ∙ ap (λ (o : Option (ℕ × TypePart)). option_map saturated_place o)
    (sym (last_is c.args.tables.now (kept_part c.args.part) c.in_ok-debug.debug.now c.count_in-count.result c.in_ok-debug.ensures c.count_in-count.ensures (not_same c.count_in-count.result 0 c.if-count-eq0.false)))
