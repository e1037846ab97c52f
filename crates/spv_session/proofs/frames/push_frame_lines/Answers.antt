use Rattle.std.proofs.Common.{◌≡◌, ◌∙◌, ℕ, suc, ◌+◌, ◌-◌, List, [], ◌∷◌, ◌++◌, append-nil, append_assoc, length, take, sym, ap, arith}
use Rattle.std.specs.List.{enumerate_from, flat_map}
use Rattle.std.proofs.lemmas.List.{take_all}
use Rattle.spv_dbg.specs.declared.frames.ShownFrame.{ShownFrame}
use Rattle.spv_scopes.specs.Shown.{frames_from, shown_below, shown_of}
use Rattle.spv_source.specs.Frames.{frame_line}
use Rattle.spv_session.proofs.frames.push_frame_lines.Goals as goal

abbrev lines_from : ℕ → List ShownFrame → List ℕ
lines_from n frames = flat_map (λ numbered. frame_line numbered.0 numbered.1) (enumerate_from n frames)

lines_append : (n next : ℕ) (xs ys : List ShownFrame) → next ≡ n + length xs → lines_from n (xs ++ ys) ≡ lines_from n xs ++ lines_from next ys
lines_append n next [] ys at = let same : n ≡ next = omega arith in ap (λ k. lines_from k ys) same
lines_append n next (x ∷ xs) ys at =
    ap (λ l. frame_line n x ++ l) (lines_append (n + 1) next xs ys (omega arith)) ∙ sym (append_assoc (frame_line n x) (lines_from (n + 1) xs) (lines_from next ys))

-- those of a call more
lines_more : (old new whole : List ℕ) (n next : ℕ) (before frames rest : List ShownFrame) → new ≡ old ++ lines_from n frames → next ≡ n + length frames → before ≡ frames ++ rest
    → old ++ lines_from n before ≡ whole → new ++ lines_from next rest ≡ whole
lines_more old new whole n next before frames rest put at is h =
    ap (λ l. l ++ lines_from next rest) put
    ∙ append_assoc old (lines_from n frames) (lines_from next rest)
    ∙ ap (λ l. old ++ l) (sym (lines_append n next frames rest at))
    ∙ ap (λ fs. old ++ lines_from n fs) (sym is)
    ∙ h

pub calls-init : goal.calls-init
unfolding shown_below shown_of
calls-init c =
    let fs = c.args.stack.now.frames in
    let whole : take c.in-Ok.depth fs ≡ fs = take_all c.in-Ok.depth fs (omega (arith, c.in-Ok.ensures, c.depth.ensures)) in
    ap (λ l. c.args.text.now.items ++ lines_from 0 (frames_from c.args.module.now c.args.tables.now c.args.lines.now.spots 0 l)) whole

pub calls-preserved : goal.calls-preserved
calls-preserved c =
    let fs = c.args.stack.now.frames in
    let d = c.calls.depth - 1 in
    let next : c.calls.depth ≡ suc d = omega arith in
    let frames = c.in_ok-frames.frames.items in
    let before = ap (λ n. shown_below c.args.module.now c.args.tables.now c.args.lines.now.spots n fs) next ∙ c.in_ok-frames.ensures in
    let text = c.in_ok-number.ensures.text ∙ ap (λ l. c.calls.text.items ++ lines_from c.calls.number l) c.as_slice.ensures.value in
    let number = c.in_ok-number.ensures.next ∙ ap (λ (l : List ShownFrame). c.calls.number + length l) c.as_slice.ensures.value in
    lines_more c.calls.text.items c.push_lines_of.new.text.items _ c.calls.number c.in_ok-number.number _ frames _ text number before c.calls.invariant

pub returns : goal.returns
unfolding shown_below
returns c =
    let none : c.calls.depth ≡ 0 = omega arith in
    let below = ap (λ n. shown_below c.args.module.now c.args.tables.now c.args.lines.now.spots n c.args.stack.now.frames) none in
    sym (append-nil c.calls.text.items) ∙ sym (ap (λ (l : List ShownFrame). c.calls.text.items ++ lines_from c.calls.number l) below) ∙ c.calls.invariant
