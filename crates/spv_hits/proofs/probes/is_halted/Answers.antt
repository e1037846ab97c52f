use Rattle.std.proofs.Common.{◌∙◌, arith}
use Rattle.spv_search.specs.Told.{Test}
use Rattle.spv_hits.proofs.HaltLemmas.{count_below, halt_of, no_halt}
use Rattle.spv_hits.proofs.probes.is_halted.Goals as goal

pub overflow_add-count : goal.overflow_add-count
overflow_add-count g c =
    let below = count_below (λ b. (goal.Probe-dyn g (b.vtable, b.value)).tally b.value) (λ b. (goal.Probe-dyn g (b.vtable, b.value)).test b.value) c.args.kit.now.boxes.items c.args.k c.in-Some-count.count c.requires.few c.in-Some-count.ensures.count in
    omega arith

pub returns-in-Some-count : goal.returns-in-Some-count
returns-in-Some-count g c = λ tests events follows.
    c.hit.ensures
    ∙ halt_of c.args.halts.now tests events c.args.more c.args.told.now c.args.k c.in-Some.hits c.in-Some-count.count (c.in-Some.ensures.follows tests events follows) (c.in-Some-count.ensures.follows tests events follows)

pub returns-in-None : goal.returns-in-None
returns-in-None g c = λ tests events follows.
    no_halt c.args.halts.now tests events c.args.more c.args.told.now c.args.k (λ (hit : Test). hit c.args.told.now) (c.in-None.ensures.follows tests events follows)
