use Rattle.std.proofs.Common.{◌-◌}
use Rattle.std.specs.Prelude.{option_copied}
use Rattle.spv_expr.specs.Bits.{variable_bit}
use Rattle.spv_parts.specs.Kept.{kept_part}
use Rattle.spv_session.proofs.SightLemmas.{on_ok, part_written}
use Rattle.spv_session.proofs.sights.Sight.push_part.Goals as goal

pub returns : goal.returns
returns c = on_ok c.text.result _ _ (λ h.
    part_written c.args.self.now.tables.now (kept_part c.args.named.part) c.saturating_sub-size.result (c.args.named.end - c.args.named.start) c.in_ok-layout.layout c.as_slice.result.now c.in_ok-bits.bits.items
    (variable_bit c.args.self.now.memory.now c.args.self.now.inv c.args.self.now.tables.now c.args.self.now.stack.now (option_copied c.args.self.now.frame) c.args.named.variable)
    c.args.named.start c.end-count.result c.args.text.now.items c.text.new.out.items
    c.in_ok-layout.ensures c.saturating_sub-size.ensures c.as_slice.ensures.value c.in_ok-bits.ensures c.end-count.ensures h) c.text.ensures.ok
