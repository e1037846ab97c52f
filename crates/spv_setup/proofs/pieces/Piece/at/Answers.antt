use Rattle.std.proofs.Common.{◌<◌, ℕ, Some, ap, ◌∙◌, subst, sym, arith, length}
use Rattle.std.specs.Prelude.{slice_get}
use Rattle.std.specs.List.{repeat}
use Rattle.std.proofs.Math.Nat.{mod-lt}
use Rattle.spv_setup.specs.Pieces.{turns_of}
use Rattle.spv_setup.proofs.ScheduleLemmas.{one_at, round_at, length_each}
use Rattle.spv_setup.proofs.pieces.Piece.at.Goals as goal

pub returns-in-Of-clause-entry : goal.returns-in-Of-clause-entry
returns-in-Of-clause-entry c =
    let count = c.args.self.count in
    let place = c.args.place in
    let turn = ap (λ t. repeat count (turns_of c.args.invocations t)) c.in-Of.is in
    ap (λ l. slice_get l place) turn ∙ one_at count c.in-Of.invocation place (subst (λ l. place < length l) turn c.requires.within)

pub returns-in-Each-clause-entry : goal.returns-in-Each-clause-entry
returns-in-Each-clause-entry c =
    let count = c.args.self.count in
    let place = c.args.place in
    let turn = ap (λ t. repeat count (turns_of c.args.invocations t)) c.in-Each.is in
    let within = subst (λ l. place < length l) turn c.requires.within in
    ap (λ l. slice_get l place) turn ∙ round_at count c.args.invocations place (omega (arith, within, length_each count c.args.invocations))
    ∙ ap (λ (n : ℕ). Some n) (sym c.turn_at.ensures)

pub returns-in-Each-clause-below : goal.returns-in-Each-clause-below
returns-in-Each-clause-below c = subst (λ (n : ℕ). n < c.args.invocations) (sym c.turn_at.ensures) (mod-lt c.args.place c.requires.some)
