use Rattle.std.proofs.Common.{◌||◌, List, Option, ap}
use Rattle.spv_search.specs.Told.{Test}
use Rattle.spv_hits.specs.Halts.{halt_numbers}
use Rattle.spv_hits.specs.Hits.{has_some}
use Rattle.spv_hits.proofs.Exports.{back_above, back_follows, back_tests}
use Rattle.spv_session.proofs.following.WithProbesHits.back.Goals as goal

pub back-requires : goal.back-requires
back-requires g c =
    back_above (λ b. (goal.Probe-dyn g (b.vtable, b.value)).tally b.value) (λ b. (goal.Probe-dyn g (b.vtable, b.value)).test b.value) c.requires.0 c.args.module.now c.args.happening.now c.lined-told.result c.args.self.now.kit.boxes.items c.args.self.now.kit.boxes.items c.requires.1 c.lined-told.ensures c.requires.3.1

pub returns-clause-same : goal.returns-clause-same
returns-clause-same g c = λ at.
    ap (λ (tests : List (Option Test)). g.H.Hits.hits c.args.self.now.hits at || has_some (halt_numbers c.args.self.now.halts.now tests at))
    (back_tests (λ b. (goal.Probe-dyn g (b.vtable, b.value)).tally b.value) (λ b. (goal.Probe-dyn g (b.vtable, b.value)).test b.value) c.requires.0 c.args.module.now c.args.happening.now c.lined-told.result c.args.self.now.kit.boxes.items c.back.new.self.boxes.items c.requires.1 c.lined-told.ensures c.requires.3.1 c.back.ensures.follows)

pub returns-clause-told : goal.returns-clause-told
returns-clause-told g c = λ at.
    ap (λ (tests : List (Option Test)). ((g.H.Hits.told c.args.self.now.hits at).0, (g.H.Hits.told c.args.self.now.hits at).1, halt_numbers c.args.self.now.halts.now tests at))
    (back_tests (λ b. (goal.Probe-dyn g (b.vtable, b.value)).tally b.value) (λ b. (goal.Probe-dyn g (b.vtable, b.value)).test b.value) c.requires.0 c.args.module.now c.args.happening.now c.lined-told.result c.args.self.now.kit.boxes.items c.back.new.self.boxes.items c.requires.1 c.lined-told.ensures c.requires.3.1 c.back.ensures.follows)

pub returns-clause-tests : goal.returns-clause-tests
returns-clause-tests g c =
    back_tests (λ b. (goal.Probe-dyn g (b.vtable, b.value)).tally b.value) (λ b. (goal.Probe-dyn g (b.vtable, b.value)).test b.value) c.requires.0 c.args.module.now c.args.happening.now c.lined-told.result c.args.self.now.kit.boxes.items c.back.new.self.boxes.items c.requires.1 c.lined-told.ensures c.requires.3.1 c.back.ensures.follows

pub returns-clause-follows : goal.returns-clause-follows
returns-clause-follows g c = λ at event suits follows.
    (follows.0, back_follows (λ b. (goal.Probe-dyn g (b.vtable, b.value)).tally b.value) (λ b. (goal.Probe-dyn g (b.vtable, b.value)).test b.value) at c.args.module.now c.args.happening.now c.lined-told.result c.args.self.now.kit.boxes.items c.back.new.self.boxes.items event c.lined-told.ensures follows.1 c.back.ensures.follows)
