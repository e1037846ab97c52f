use Rattle.std.proofs.Common.{◌≡◌, ◌≤◌, ◌++◌, ◌∷◌, [], None, length, subst, sym, ap, arith, length-append}
use Rattle.spv_setup.specs.Schedule.{Entries, entries_in, stray_line}
use Rattle.spv_setup.specs.Pieces.{pieces_entries}
use Rattle.spv_setup.proofs.ScheduleLemmas.{pieces_grow, list_grows}
use Rattle.spv_setup.proofs.schedule.Schedule.push.Goals as goal

pub invariant_of-self-2 : goal.invariant_of-self-2
invariant_of-self-2 c =
    let inside = c.self.inside in
    let same : inside.invocations ≡ c.args.self.now.invocations = ap (λ s. s.invocations) c.self.view_is in
    let exists = c.of-piece.ensures.exists inside.invocations (subst (λ k. stray_line k (c.args.run ∷ []) ≡ None) (sym same) c.requires) in
    pieces_grow inside.invocations inside.len c.saturating_add-len.result inside.pieces.items c.push.new.self.items c.of-piece.result c.self.invariant c.of-piece.ensures.start exists
    c.in_ok-push.ensures.items (omega (arith, c.saturating_add-len.ensures, c.len.ensures)) (omega (arith, c.if-len-gt-MOST_ENTRIES.false))

pub returns : goal.returns
returns c =
    let inside = c.self.inside in
    let k = inside.invocations in
    let more = c.of-piece.ensures.entries k in
    let list = list_grows k inside.pieces.items c.push.new.self.items c.of-piece.result (entries_in k c.args.run) c.in_ok-push.ensures.items more in
    let short : length (pieces_entries k inside.pieces.items ++ entries_in k c.args.run) ≤ 4194304 = omega (arith, length-append (pieces_entries k inside.pieces.items) (entries_in k c.args.run), ap length more, c.self.invariant.whole, c.saturating_add-len.ensures, c.len.ensures, c.if-len-gt-MOST_ENTRIES.false) in
    let at_view : Entries = record { invocations = k; list = pieces_entries k c.push.new.self.items } in
    let view = subst (λ (s : Entries). at_view ≡ record { invocations = s.invocations; list = s.list ++ entries_in s.invocations c.args.run }) c.self.view_is (ap (λ l. record { invocations = k; list = l }) list) in
    (view, subst (λ (s : Entries). length (s.list ++ entries_in s.invocations c.args.run) ≤ 4194304) c.self.view_is short)
