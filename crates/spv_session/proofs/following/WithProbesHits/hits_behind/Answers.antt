use Rattle.std.proofs.Common.{◌≡◌, ◌∙◌, ◌+◌, ◌||◌, Bool, ap, false, refl, sym, true, arith}
use Rattle.spv_group.specs.Group.{group_at}
use Rattle.spv_probe.specs.Kits.{tests_of}
use Rattle.spv_state.specs.Program.{Program}
use Rattle.spv_hits.specs.Halts.{halt_numbers, told_before}
use Rattle.spv_hits.specs.Hits.{has_some}
use Rattle.spv_hits.proofs.Exports.{hit_behind, told_below}
use Rattle.spv_session.proofs.SearchLemmas.{if_ok_then}
use Rattle.spv_session.proofs.following.WithProbesHits.hits_behind.Goals as goal

-- a halt hits, or none does, beside other tests
or_one : (other hit : Bool) → true ≡ hit → true ≡ (other || hit)
or_one true hit e = refl
or_one false hit e = e

or_none : (b other hit : Bool) → b ≡ other → false ≡ hit → b ≡ (other || hit)
or_none b true hit is e = is
or_none b false hit is e = is ∙ e

pub halts-requires-clause-few : goal.halts-requires-clause-few
halts-requires-clause-few g c =
    told_below (λ b. (goal.Probe-dyn g (b.vtable, b.value)).tally b.value) (λ b. (goal.Probe-dyn g (b.vtable, b.value)).test b.value) c.args.group.now.group c.args.self.now.kit.boxes.items (omega arith) c.requires.follows.1

pub returns-then-halts-clause-hit : goal.returns-then-halts-clause-hit
returns-then-halts-clause-hit g c =
    let at = c.args.group.now.group in
    or_one (g.H.Hits.hits c.args.self.now.hits (group_at (at.position + 1) at)) (has_some (halt_numbers c.args.self.now.halts.now (tests_of (λ b. (goal.Probe-dyn g (b.vtable, b.value)).test b.value) c.args.self.now.kit.boxes.items) (group_at (at.position + 1) at)))
    (hit_behind c.args.self.now.halts.now (tests_of (λ b. (goal.Probe-dyn g (b.vtable, b.value)).test b.value) c.args.self.now.kit.boxes.items) at c.args.happening.now c.accepted.result.now true (c.accepted.ensures.module ∙ ap (λ (p : Program). p.accepted) c.module.ensures) c.requires.event
    (sym c.if-halts.true ∙ c.halts.ensures (tests_of (λ b. (goal.Probe-dyn g (b.vtable, b.value)).test b.value) c.args.self.now.kit.boxes.items) (told_before at) c.requires.follows.1))

pub returns-clause-hit : goal.returns-clause-hit
returns-clause-hit g c =
    let at = c.args.group.now.group in
    if_ok_then c.hits_behind.result _ _
    (λ hit is. or_none hit (g.H.Hits.hits c.args.self.now.hits (group_at (at.position + 1) at)) (has_some (halt_numbers c.args.self.now.halts.now (tests_of (λ b. (goal.Probe-dyn g (b.vtable, b.value)).test b.value) c.args.self.now.kit.boxes.items) (group_at (at.position + 1) at))) is
    (hit_behind c.args.self.now.halts.now (tests_of (λ b. (goal.Probe-dyn g (b.vtable, b.value)).test b.value) c.args.self.now.kit.boxes.items) at c.args.happening.now c.accepted.result.now false (c.accepted.ensures.module ∙ ap (λ (p : Program). p.accepted) c.module.ensures) c.requires.event
    (sym c.if-halts.false ∙ c.halts.ensures (tests_of (λ b. (goal.Probe-dyn g (b.vtable, b.value)).test b.value) c.args.self.now.kit.boxes.items) (told_before at) c.requires.follows.1)))
    c.hits_behind.ensures.hit
