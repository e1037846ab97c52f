use Rattle.std.proofs.Common.{◌∙◌, ℕ, sym, ap}
use Rattle.std.specs.Prelude.{option_map, Option}
use Rattle.spv_parts.specs.Kept.{kept_part, saturated_place}
use Rattle.spv_parts.specs.Parts.{TypePart}
use Rattle.spv_parts.proofs.CompositeLemmas.{part_named_is}
use Rattle.spv_parts.proofs.composites.part_named.Goals as goal

pub returns : goal.returns
returns c = c.numbered_in.ensures
    ∙ ap (λ (o : Option (ℕ × TypePart)). option_map saturated_place o)
    (sym (part_named_is c.args.tables.now (kept_part c.args.part) c.args.name.now c.in_ok-debug.debug.now c.in_ok-number.number c.in_ok-debug.ensures c.in_ok-number.ensures))
