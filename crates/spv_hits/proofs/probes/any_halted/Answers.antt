use Rattle.std.proofs.Common.{◌∙◌, ◌<◌, ◌≡◌, false, length, subst, sym, arith}
use Rattle.std.specs.Prelude.{filter}
use Rattle.std.specs.List.{range_with_len}
use Rattle.spv_hits.specs.Halts.{halts_at}
use Rattle.spv_hits.specs.Hits.{has_some}
use Rattle.spv_hits.proofs.HaltLemmas.{follows_long, none_more, some_here}
use Rattle.spv_hits.proofs.probes.any_halted.Goals as goal

pub returns-then-is_halted : goal.returns-then-is_halted
returns-then-is_halted g c = λ tests events follows.
    let long = follows_long (λ b. (goal.Probe-dyn g (b.vtable, b.value)).tally b.value) (λ b. (goal.Probe-dyn g (b.vtable, b.value)).test b.value) tests events c.args.kit.now.boxes.items follows in
    let within : c.loop-place.place < length tests = omega (arith, c.args.kit.now.boxes.ok.0) in
    sym (some_here (halts_at c.args.halts.now tests events c.args.more c.args.told.now) c.loop-place.place (length tests) within (sym (c.is_halted.ensures tests events follows) ∙ c.if-is_halted.true))

pub loop-place-preserved : goal.loop-place-preserved
loop-place-preserved g c = λ tests events follows.
    none_more (halts_at c.args.halts.now tests events c.args.more c.args.told.now) c.loop-place.place (c.loop-place.invariant tests events follows) (sym (c.is_halted.ensures tests events follows) ∙ c.if-is_halted.false)

pub returns : goal.returns
returns g c = λ tests events follows.
    let long = follows_long (λ b. (goal.Probe-dyn g (b.vtable, b.value)).tally b.value) (λ b. (goal.Probe-dyn g (b.vtable, b.value)).test b.value) tests events c.args.kit.now.boxes.items follows in
    let all : c.loop-place.place ≡ length tests = omega (arith, c.args.kit.now.boxes.ok.0) in
    sym (subst (λ n. has_some (filter (halts_at c.args.halts.now tests events c.args.more c.args.told.now) (range_with_len 1 n)) ≡ false) all (c.loop-place.invariant tests events follows))
