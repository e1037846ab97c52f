use Rattle.std.proofs.Common.{◌≡◌, ℕ, ◌+◌, ◌-◌, ◌<◌, List, length, take, subst, arith}
use Rattle.std.proofs.lemmas.List.{take_all}
use Rattle.spv_base.specs.declared.values.PassedEvent.{PassedEvent}
use Rattle.spv_expr.specs.declared.sources.Source.TheVariants.{Nowhere}
use Rattle.spv_expr.specs.Looks.{IsLocalSource}
use Rattle.spv_expr.proofs.LookLemmas.{local_blank, local_found, local_past}
use Rattle.spv_expr.proofs.sources.local_source.Goals as goal

pub back-init : goal.back-init
back-init c =
    let events = c.args.events.now in
    record {
      least = omega arith;
      left = λ s left. subst (λ (es : List PassedEvent). IsLocalSource c.args.tables.now c.args.instance c.args.span es s) (take_all (length events) events (omega arith)) left;
    }

pub back-preserved : goal.back-preserved
back-preserved c =
    let t = c.args.tables.now in
    let events = c.args.events.now in
    let some : 0 < c.back.k = c.back-test.true in
    let short : c.back.k - 1 < length events = omega (arith, c.back.invariant.least, some) in
    let one : c.back.k - 1 + 1 ≡ c.back.k = omega (arith, some) in
    record {
      least = omega (arith, c.back.invariant.least);
      left = λ s left. c.back.invariant.left s
          (subst (λ (n : ℕ). IsLocalSource t c.args.instance c.args.span (take n events) s) one
          (local_past t c.args.instance c.args.span events (c.back.k - 1) c.index-events-k.result short c.index-events-k.is s c.in-Past.ensures left));
    }

pub returns-in-Found : goal.returns-in-Found
returns-in-Found c =
    let t = c.args.tables.now in
    let events = c.args.events.now in
    let s = c.in-Found.source in
    let some : 0 < c.back.k = c.back-test.true in
    let short : c.back.k - 1 < length events = omega (arith, c.back.invariant.least, some) in
    let one : c.back.k - 1 + 1 ≡ c.back.k = omega (arith, some) in
    c.back.invariant.left s
    (subst (λ (n : ℕ). IsLocalSource t c.args.instance c.args.span (take n events) s) one
    (local_found t c.args.instance c.args.span events (c.back.k - 1) c.index-events-k.result short c.index-events-k.is s c.in-Found.ensures.0 c.in-Found.ensures.1))

pub returns : goal.returns
returns c =
    let none : 0 ≡ c.back.k = let least = c.back-test.false in omega arith in
    c.back.invariant.left Nowhere
    (subst (λ (n : ℕ). IsLocalSource c.args.tables.now c.args.instance c.args.span (take n c.args.events.now) Nowhere) none (local_blank c.args.tables.now c.args.instance c.args.span c.args.events.now))
