use Rattle.std.proofs.Common.{◌||◌, List, Option, ap}
use Rattle.spv_search.specs.Told.{Test}
use Rattle.spv_hits.specs.Halts.{halt_numbers}
use Rattle.spv_hits.specs.Hits.{has_some}
use Rattle.spv_hits.proofs.Exports.{forth_follows, forth_tests, told_below}
use Rattle.spv_session.proofs.following.WithProbesHits.forth.Goals as goal

pub forth-requires : goal.forth-requires
forth-requires g c =
    told_below (λ b. (goal.Probe-dyn g (b.vtable, b.value)).tally b.value) (λ b. (goal.Probe-dyn g (b.vtable, b.value)).test b.value) c.requires.0 c.args.self.now.kit.boxes.items c.requires.1.most c.requires.3.1

pub returns-clause-same : goal.returns-clause-same
returns-clause-same g c = λ at.
    ap (λ (tests : List (Option Test)). g.H.Hits.hits c.args.self.now.hits at || has_some (halt_numbers c.args.self.now.halts.now tests at))
    (forth_tests (λ b. (goal.Probe-dyn g (b.vtable, b.value)).tally b.value) (λ b. (goal.Probe-dyn g (b.vtable, b.value)).test b.value) c.requires.0 c.args.module.now c.args.happening.now c.lined-told.result c.args.self.now.kit.boxes.items c.forth.new.self.boxes.items c.requires.1 c.lined-told.ensures c.forth.ensures.follows c.requires.3.1)

pub returns-clause-told : goal.returns-clause-told
returns-clause-told g c = λ at.
    ap (λ (tests : List (Option Test)). ((g.H.Hits.told c.args.self.now.hits at).0, (g.H.Hits.told c.args.self.now.hits at).1, halt_numbers c.args.self.now.halts.now tests at))
    (forth_tests (λ b. (goal.Probe-dyn g (b.vtable, b.value)).tally b.value) (λ b. (goal.Probe-dyn g (b.vtable, b.value)).test b.value) c.requires.0 c.args.module.now c.args.happening.now c.lined-told.result c.args.self.now.kit.boxes.items c.forth.new.self.boxes.items c.requires.1 c.lined-told.ensures c.forth.ensures.follows c.requires.3.1)

pub returns-clause-tests : goal.returns-clause-tests
returns-clause-tests g c =
    forth_tests (λ b. (goal.Probe-dyn g (b.vtable, b.value)).tally b.value) (λ b. (goal.Probe-dyn g (b.vtable, b.value)).test b.value) c.requires.0 c.args.module.now c.args.happening.now c.lined-told.result c.args.self.now.kit.boxes.items c.forth.new.self.boxes.items c.requires.1 c.lined-told.ensures c.forth.ensures.follows c.requires.3.1

pub returns-clause-follows : goal.returns-clause-follows
returns-clause-follows g c = λ at event suits follows.
    (follows.0, forth_follows (λ b. (goal.Probe-dyn g (b.vtable, b.value)).tally b.value) (λ b. (goal.Probe-dyn g (b.vtable, b.value)).test b.value) at c.args.module.now c.args.happening.now c.lined-told.result c.args.self.now.kit.boxes.items c.forth.new.self.boxes.items event c.lined-told.ensures c.forth.ensures.follows follows.1)
