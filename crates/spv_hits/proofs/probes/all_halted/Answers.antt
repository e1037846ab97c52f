use Rattle.std.proofs.Common.{◌∙◌, ◌≡◌, ap, length, sym, arith}
use Rattle.std.specs.Prelude.{filter}
use Rattle.std.specs.List.{range_with_len}
use Rattle.spv_hits.specs.Halts.{halts_at}
use Rattle.spv_hits.proofs.HaltLemmas.{follows_long, passed_no, passed_yes}
use Rattle.spv_hits.proofs.probes.all_halted.Goals.{then-is_halted+in_ok-push, else-is_halted}
use Rattle.spv_hits.proofs.probes.all_halted.Goals as goal

pub loop-place-preserved : goal.loop-place-preserved
loop-place-preserved g c = λ tests events follows.
    elim c.if-is_halted.branch [
      | then-is_halted+in_ok-push w ↦ passed_yes (halts_at c.args.halts.now tests events 0 c.args.told.now) c.loop-place.place c.loop-place.numbers c.if-is_halted.numbers (sym (c.is_halted.ensures tests events follows) ∙ w.if-is_halted.true)
          (c.loop-place.invariant tests events follows) (w.numbers-is ∙ w.in_ok-push.ensures.ok)
      | else-is_halted w ↦ w.numbers-is ∙ passed_no (halts_at c.args.halts.now tests events 0 c.args.told.now) c.loop-place.place c.loop-place.numbers (sym (c.is_halted.ensures tests events follows) ∙ w.if-is_halted.false)
          (c.loop-place.invariant tests events follows)
    ]

pub returns : goal.returns
returns g c = λ tests events follows.
    let long = follows_long (λ b. (goal.Probe-dyn g (b.vtable, b.value)).tally b.value) (λ b. (goal.Probe-dyn g (b.vtable, b.value)).test b.value) tests events c.args.kit.now.boxes.items follows in
    let all : c.loop-place.place ≡ length tests = omega (arith, c.args.kit.now.boxes.ok.0) in
    c.loop-place.invariant tests events follows ∙ ap (λ n. filter (halts_at c.args.halts.now tests events 0 c.args.told.now) (range_with_len 1 n)) all
