use Rattle.std.proofs.Common.{◌≡◌, ◌∙◌, ◌<◌, ◌||◌, Some, ap, false, get_or, length, not, refl, slice_get, sym, true, arith}
use Rattle.std.proofs.lemmas.List.Folds.{list_any_at, list_any_more}
use Rattle.std.proofs.lemmas.Option.{get_or_from_slice_get, slice_get-get_or, slice_get_read}
use Rattle.spv_hits.specs.Kept.{differs}
use Rattle.spv_hits.specs.Watches.{same_bits, watched}
use Rattle.spv_hits.proofs.NumberLemmas.{placed, put_or_left, still_marked}
use Rattle.spv_hits.proofs.watches.any_changed.Goals as goal

pub returns-then-branch-clause-changed : goal.returns-then-branch-clause-changed
returns-then-branch-clause-changed c = λ o was lie memory alike.
    let t = c.args.tables.now in
    let g = c.args.group.now.group in
    let n = c.loop-n.n in
    let watches = c.args.watches.now in
    let x = get_or watches n c.index-watches-n.result in
    let within : n < length watches = omega arith in
    let at : slice_get watches n ≡ Some x = slice_get-get_or watches n c.index-watches-n.result within in
    let there : slice_get c.args.places.now n ≡ Some c.index-places-n.result =
    slice_get_read c.args.places.now (length c.args.places.now) n c.index-places-n.result refl (omega (arith, c.requires.places)) c.index-places-n.is in
    let before : c.index-kept-n.result ≡ watched t x.1 o = placed (λ w. watched t w.1 o) n c.args.kept.now watches c.index-kept-n.result x was within c.index-kept-n.is
    (sym (get_or_from_slice_get watches n x x at)) in
    let marked : slice_get c.loop-n.marks n ≡ Some (get_or c.loop-n.marks n false) = slice_get-get_or c.loop-n.marks n false (omega (arith, c.requires.marks, c.loop-n.auto.marks)) in
    let differ : c.in_ok-has_changed.field-0 ≡ differs t o g x =
    c.in_ok-has_changed.ensures (λ still. before ∙ c.is_still-still.ensures.same still o (lie n x c.index-places-n.result at there) memory (λ calls. alike n x at (c.loop-n.invariant.marks n (marked ∙ ap Some calls))))
    ∙ ap (λ b. not (same_bits b (watched t x.1 g))) before in
    sym (list_any_at (differs t o g) watches n c.index-watches-n.result within (sym differ ∙ c.if-branch.true))

pub loop-n-preserved : goal.loop-n-preserved
loop-n-preserved c =
    let t = c.args.tables.now in
    let g = c.args.group.now.group in
    let n = c.loop-n.n in
    let watches = c.args.watches.now in
    let x = get_or watches n c.index-watches-n.result in
    let within : n < length watches = omega arith in
    let marked : slice_get c.loop-n.marks n ≡ Some (get_or c.loop-n.marks n false) = slice_get-get_or c.loop-n.marks n false (omega (arith, c.requires.marks, c.loop-n.auto.marks)) in
    record {
      marks = λ m e. still_marked c.loop-n.marks c.args.marks.now n m c.is_still-still.result (λ still. marked ∙ ap Some (c.is_still-still.ensures.marked still)) c.loop-n.invariant.marks (put_or_left c.loop-n.marks n m c.is_still-still.result true e);
      none = λ o was lie memory alike.
          let at : slice_get watches n ≡ Some x = slice_get-get_or watches n c.index-watches-n.result within in
          let there : slice_get c.args.places.now n ≡ Some c.index-places-n.result =
          slice_get_read c.args.places.now (length c.args.places.now) n c.index-places-n.result refl (omega (arith, c.requires.places)) c.index-places-n.is in
          let before : c.index-kept-n.result ≡ watched t x.1 o = placed (λ w. watched t w.1 o) n c.args.kept.now watches c.index-kept-n.result x was within c.index-kept-n.is
          (sym (get_or_from_slice_get watches n x x at)) in
          let differ : c.in_ok-has_changed.field-0 ≡ differs t o g x =
          c.in_ok-has_changed.ensures (λ still. before ∙ c.is_still-still.ensures.same still o (lie n x c.index-places-n.result at there) memory (λ calls. alike n x at (c.loop-n.invariant.marks n (marked ∙ ap Some calls))))
          ∙ ap (λ b. not (same_bits b (watched t x.1 g))) before in
          list_any_more (differs t o g) watches n c.index-watches-n.result within
          ∙ ap (λ b. b || differs t o g x) (c.loop-n.invariant.none o was lie memory alike)
          ∙ sym differ ∙ c.if-branch.false;
    }
