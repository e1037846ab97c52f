use Rattle.std.proofs.Common.{◌≡◌, ◌<◌, ◌+◌, ◌-◌, ◌/◌, suc, length, take, subst, arith}
use Rattle.std.proofs.lemmas.Option.{slice_get-get_or}
use Rattle.spv_setup.specs.Pieces.{pieces_entries}
use Rattle.spv_setup.specs.declared.pieces.Piece.{Piece}
use Rattle.spv_setup.specs.declared.pieces.Turn.TheVariants.{Of}
use Rattle.spv_setup.proofs.ScheduleLemmas.{piece_start, middle_at, is_piece}
use Rattle.spv_setup.proofs.schedule.piece_of.Goals as goal

none : Piece
none = record { start = 0; count = 0; turn = Of 0 }

pub halves-preserved-then-pieces-middle : goal.halves-preserved-then-pieces-middle
unfolding none
halves-preserved-then-pieces-middle c =
    let at = middle_at c.halves.low c.halves.high c.halves-test.true in
    let middle = c.halves.low + (c.halves.high - c.halves.low) / 2 in
    let start = piece_start c.args.invocations c.args.len middle c.args.pieces.now none c.requires.pieces (omega (arith, at.1, c.halves.invariant.within)) in
    record { apart = at.1; within = c.halves.invariant.within; from = omega (arith, start, c.if-pieces-middle.true); to = c.halves.invariant.to }

pub halves-preserved : goal.halves-preserved
unfolding none
halves-preserved c =
    let at = middle_at c.halves.low c.halves.high c.halves-test.true in
    let middle = c.halves.low + (c.halves.high - c.halves.low) / 2 in
    let start = piece_start c.args.invocations c.args.len middle c.args.pieces.now none c.requires.pieces (omega (arith, at.1, c.halves.invariant.within)) in
    record { apart = at.0; within = omega (arith, at.1, c.halves.invariant.within); from = c.halves.invariant.from; to = omega (arith, start, c.if-pieces-middle.false) }

pub returns : goal.returns
unfolding none
returns c =
    let low = c.halves.low in
    let ps = c.args.pieces.now in
    let last : c.halves.high ≡ suc low = omega (arith, c.halves.invariant.apart, c.halves-test.false) in
    let within : low < length ps = omega (arith, c.halves.invariant.apart, c.halves.invariant.within) in
    is_piece c.args.invocations c.args.len c.args.n low ps _ c.requires.pieces (slice_get-get_or ps low none within) c.halves.invariant.from (subst (λ h. c.args.n < length (pieces_entries c.args.invocations (take h ps))) last c.halves.invariant.to)
