use Rattle.std.proofs.Common.{◌≡◌, ◌∙◌, ℕ, ◌+◌, ◌-◌, ◌^◌, ◌<◌, true, List, [], ◌∷◌, length, take, refl, sym, ap, subst, arith}
use Rattle.std.specs.Prelude.{if◌then◌else◌, ◌==◌, vec_len}
use Rattle.std.proofs.lemmas.List.{take_all}
use Rattle.spv_base.specs.declared.values.PassedEvent.{PassedEvent}
use Rattle.spv_dbg.specs.declared.frames.Bit.{Bit}
use Rattle.spv_expr.specs.declared.ranges.Range.{Range}
use Rattle.spv_expr.specs.Bits.{local_bit, told, unbound}
use Rattle.spv_expr.specs.Kept.{is_in_any}
use Rattle.spv_expr.specs.Rests.{AreTold, AreWithin}
use Rattle.spv_expr.specs.Variables.{tells}
use Rattle.spv_expr.proofs.TellLemmas.{local_more, told_all, told_none_yet, told_step, is_zero, no_gaps, within_first, within_step}
use Rattle.spv_expr.proofs.locals.put_local.Goals as goal
use Rattle.spv_expr.proofs.locals.put_local.Goals.{then-back-test+else-not-is_empty, else-back-test}

pub back-init : goal.back-init
back-init c =
    let events = c.args.events.now in
    let first = c.args.first in
    let bits = c.args.bits.now in
    let bit : List PassedEvent → ℕ → Bit = λ es. local_bit c.args.view.now.memory.now c.args.view.now.inv c.args.view.now.tables.now es c.args.instance in
    let span : Range = record { start = first; end = first + length bits } in
    let one : c.in_ok-gaps.gaps.items ≡ span ∷ [] = c.in_ok-gaps.ensures.items in
    let all : take (length events) events ≡ events = take_all (length events) events (omega arith) in
    let blank : AreTold (bit events) (bit events) first bits (span ∷ []) = told_none_yet (bit events) first bits span refl refl c.requires.unbound in
    let told : AreTold (bit events) (bit (take (length events) events)) first bits (span ∷ []) = subst (λ (es : List PassedEvent). AreTold (bit events) (bit es) first bits (span ∷ [])) (sym all) blank in
    record {
      least = omega arith;
      within = subst (λ (gaps : List Range). AreWithin first bits gaps) (sym one) (within_first first bits span refl refl);
      told = subst (λ (n : ℕ). AreTold (bit events) (bit (take n events)) first bits c.in_ok-gaps.gaps.items) (sym c.len-k.ensures)
          (subst (λ (gaps : List Range). AreTold (bit events) (bit (take (length events) events)) first bits gaps) (sym one) told);
    }

pub back-preserved : goal.back-preserved
back-preserved c =
    let m = c.args.view.now.memory.now in
    let inv = c.args.view.now.inv in
    let t = c.args.view.now.tables.now in
    let v = c.args.instance in
    let events = c.args.events.now in
    let e = c.at.result.now in
    let k = c.back.k - 1 in
    let first = c.args.first in
    let bit : List PassedEvent → ℕ → Bit = λ es. local_bit m inv t es v in
    let some : 0 < c.back.k = c.back-test.true in
    let short : k < length events = omega (arith, c.back.invariant.least, some) in
    let one : k + 1 ≡ c.back.k = omega (arith, some) in
    let step : (j : ℕ) → bit (take c.back.k events) j ≡ (if tells t v j e then told m inv t v j e else bit (take k events) j) =
    λ j. ap (λ (n : ℕ). bit (take n events) j) (sym one) ∙ local_more m inv t v events k e short c.at.ensures j in
    let long = c.take_event.auto.bits in
    let fits : first + length c.back.bits < 2 ^ 64 = omega (arith, c.back.auto.bits, c.requires.fits) in
    record {
      least = omega (arith, c.back.invariant.least);
      within = within_step first c.back.bits c.take_event.new.bits c.back.gaps.items c.take_event.new.gaps.items long c.in_ok-take_event.ensures.fewer c.back.invariant.within;
      told = told_step (bit events) (bit (take c.back.k events)) (bit (take k events)) (λ j. told m inv t v j e) (λ j. tells t v j e) first c.back.bits c.take_event.new.bits c.back.gaps.items
          c.take_event.new.gaps.items long fits step c.in_ok-take_event.ensures.gaps_left c.in_ok-take_event.ensures.bits c.back.invariant.told;
    }

pub returns : goal.returns
returns c =
    let m = c.args.view.now.memory.now in
    let inv = c.args.view.now.inv in
    let t = c.args.view.now.tables.now in
    let v = c.args.instance in
    let events = c.args.events.now in
    let bit : List PassedEvent → ℕ → Bit = λ es. local_bit m inv t es v in
    let rest : (j : ℕ) → is_in_any j c.back.gaps.items ≡ true → bit (take c.back.k events) j ≡ unbound =
    elim c.back-test.branch [
      | then-back-test+else-not-is_empty w ↦ λ j h.
          let zero : (vec_len c.back.gaps == 0) ≡ true = sym w.is_empty.ensures ∙ w.if-not-is_empty.false in
          let none : vec_len c.back.gaps ≡ 0 = is_zero (vec_len c.back.gaps) zero in
          let empty : length c.back.gaps.items ≡ 0 = omega (arith, c.back.gaps.ok.0, none) in
          absurd (no_gaps c.back.gaps.items empty j h)
      | else-back-test w ↦ λ j h. let none : c.back.k ≡ 0 = let zero = w.back-test.false in omega arith in rw none refl
    ] in
    λ n lt. told_all (bit events) (bit (take c.back.k events)) c.args.first c.back.bits c.back.gaps.items rest c.back.invariant.told n (omega (arith, c.back.auto.bits, lt))
