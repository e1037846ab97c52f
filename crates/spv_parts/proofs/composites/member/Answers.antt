use Rattle.std.proofs.Common.{◌≡◌, ◌∙◌, ◌<◌, true, false, Some, sym, ap, arith, get_or}
use Rattle.spv_parts.specs.Parts.{TypePart, is_member, whole}
use Rattle.spv_parts.proofs.PartLemmas.{member_found, member_passed, member_skipped}
use Rattle.spv_parts.proofs.composites.member.Goals as goal
use Rattle.spv_parts.proofs.composites.member.Goals.{then-is_member+else-left-eq0, else-is_member}

pub returns-then-left-eq0 : goal.returns-then-left-eq0
returns-then-left-eq0 c =
    let is : is_member c.args.tables.now c.args.n (get_or c.args.ids.now c.loop-id.id-index 0) ≡ true = sym (c.if-is_member.ensures) in
    ap (λ (q : TypePart). Some (c.loop-id.start, q)) (c.whole-part.ensures ∙ ap whole c.member_type.ensures)
    ∙ member_found c.args.tables.now c.args.n c.args.ids.now c.loop-id.id-index c.loop-id-test.true c.loop-id.start _ c.loop-id.invariant.fits is
    (rw c.if-left-eq0.true at c.loop-id.invariant.same)

pub loop-id-preserved : goal.loop-id-preserved
loop-id-preserved c = elim c.if-is_member.branch [
  | then-is_member+else-left-eq0 w ↦
      let is : is_member c.args.tables.now c.args.n (get_or c.args.ids.now c.loop-id.id-index 0) ≡ true = sym (w.if-is_member.ensures) in
      let some : 0 < c.loop-id.left = let no_zero = w.if-left-eq0.false in omega arith in
      record {
        fits = rw w.start-is w.saturating_add-start.type_inv;
        same = rw (w.start-is, w.left-is, w.saturating_add-start.ensures, w.type_bits.ensures)
            (member_passed c.args.tables.now c.args.n c.args.ids.now c.loop-id.id-index c.loop-id-test.true c.loop-id.start c.loop-id.left _ is some c.loop-id.invariant.same);
      }
  | else-is_member w ↦
      let isnt : is_member c.args.tables.now c.args.n (get_or c.args.ids.now c.loop-id.id-index 0) ≡ false = sym (w.if-is_member.ensures) in
      record {
        fits = rw w.start-is c.loop-id.invariant.fits;
        same = rw (w.start-is, w.left-is)
            (member_skipped c.args.tables.now c.args.n c.args.ids.now c.loop-id.id-index c.loop-id-test.true c.loop-id.start c.loop-id.left _ isnt c.loop-id.invariant.same);
      }
]
