use Rattle.std.proofs.Common.{◌≡◌, ◌∙◌, ℕ, Some, ap, get_or}
use Rattle.std.specs.Prelude.{option_map}
use Rattle.spv_parts.specs.Kept.{kept_part, saturated_place}
use Rattle.spv_parts.specs.Parts.{literal, part_at}
use Rattle.spv_parts.proofs.PartLemmas.{reached_all, reached_step}
use Rattle.spv_parts.proofs.parts.reached.Goals as goal

pub loop-id-preserved : goal.loop-id-preserved
loop-id-preserved c =
    let t = c.args.tables.now in
    let inner : Some (c.in_ok-inner.inner.start, kept_part c.in_ok-inner.inner.part)
    ≡ option_map saturated_place (part_at t (kept_part c.loop-id.place.part) (literal t (get_or c.args.indexes.now c.loop-id.id-index 0))) =
    c.in_ok-inner.ensures ∙ ap (λ (k : ℕ). option_map saturated_place (part_at t (kept_part c.loop-id.place.part) k)) c.literal.ensures in
    record {
      fits = c.saturating_add.type_inv;
      same = rw c.saturating_add.ensures
          (reached_step t c.args.indexes.now c.loop-id.id-index c.loop-id.place.start (kept_part c.loop-id.place.part) _ c.loop-id-test.true
          c.in_ok-inner.inner.start (kept_part c.in_ok-inner.inner.part) inner c.loop-id.invariant.same);
    }

pub returns : goal.returns
returns c = reached_all c.args.tables.now c.args.indexes.now c.loop-id.id-index c.loop-id.place.start (kept_part c.loop-id.place.part) _ c.loop-id-test.false
    c.loop-id.invariant.fits c.loop-id.invariant.same
