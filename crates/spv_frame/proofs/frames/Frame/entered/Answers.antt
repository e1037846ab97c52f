use Rattle.std.proofs.Common.{◌≡◌, ◌∙◌, ◌+◌, ◌<◌, suc, List, Some, length, slice_get, slice_index_or, refl, sym, ap, subst, arith}
use Rattle.std.proofs.lemmas.Option.{slice_get-get_or, slice_get_read}
use Rattle.spv_frame.specs.Calls.{IsArgument}
use Rattle.spv_frame.specs.Registers.{Planned}
use Rattle.spv_frame.specs.declared.slots.Place.{Place}
use Rattle.spv_frame.specs.declared.slots.Place.TheVariants.{Value}
use Rattle.spv_frame.proofs.CallLemmas.{argument_at, as_many_arguments, filled, filled_more}
use Rattle.spv_frame.proofs.frames.Frame.entered.Goals as goal

pub bounds-parameters-number : goal.bounds-parameters-number
bounds-parameters-number c =
    let p : Planned = c.args.plan.now.value in
    let places : c.parameters-parameters.result.now ≡ p.parameters = c.parameters-parameters.ensures ∙ ap (λ (x : Planned). x.parameters) c.deref.ensures in
    let long = ap length places in
    let many = as_many_arguments p p.parameters c.args.arguments.now c.requires in
    let test = c.loop-number-test.true in
    omega arith

pub put_argument-requires-clause-argument : goal.put_argument-requires-clause-argument
put_argument-requires-clause-argument c =
    let p : Planned = c.args.plan.now.value in
    let places : c.parameters-parameters.result.now ≡ p.parameters = c.parameters-parameters.ensures ∙ ap (λ (x : Planned). x.parameters) c.deref.ensures in
    let long = ap length places in
    let many = as_many_arguments p p.parameters c.args.arguments.now c.requires in
    let test = c.loop-number-test.true in
    let within : c.loop-number.number < length c.parameters-parameters.result.now = omega arith in
    let place : Place = slice_index_or c.parameters-parameters.result.now c.loop-number.number (Value 0) in
    let there : slice_get p.parameters c.loop-number.number ≡ Some place = subst (λ (ps : List Place). slice_get ps c.loop-number.number ≡ Some place) places (slice_get-get_or c.parameters-parameters.result.now c.loop-number.number (Value 0) within) in
    let at = slice_get_read c.args.arguments.now (length c.args.arguments.now) c.loop-number.number c.index-arguments-number.result refl c.loop-number-test.true c.index-arguments-number.is in
    subst (λ (q : Planned). IsArgument q place c.index-arguments-number.result) (sym c.deref-in-loop-number.ensures)
    (argument_at p p.parameters c.args.arguments.now c.loop-number.number place c.index-arguments-number.result c.requires there at)

pub loop-number-preserved : goal.loop-number-preserved
loop-number-preserved c =
    let p : Planned = c.args.plan.now.value in
    let places : c.parameters-parameters.result.now ≡ p.parameters = c.parameters-parameters.ensures ∙ ap (λ (x : Planned). x.parameters) c.deref.ensures in
    let long = ap length places in
    let many = as_many_arguments p p.parameters c.args.arguments.now c.requires in
    let test = c.loop-number-test.true in
    let within : c.loop-number.number < length c.parameters-parameters.result.now = omega arith in
    let place : Place = slice_index_or c.parameters-parameters.result.now c.loop-number.number (Value 0) in
    let there : slice_get p.parameters c.loop-number.number ≡ Some place = subst (λ (ps : List Place). slice_get ps c.loop-number.number ≡ Some place) places (slice_get-get_or c.parameters-parameters.result.now c.loop-number.number (Value 0) within) in
    let at = slice_get_read c.args.arguments.now (length c.args.arguments.now) c.loop-number.number c.index-arguments-number.result refl c.loop-number-test.true c.index-arguments-number.is in
    let next : c.loop-number.number + 1 ≡ suc c.loop-number.number = omega arith in
    rw next (filled_more p c.args.arguments.now c.loop-number.frame c.put_argument.new.self c.loop-number.number place c.index-arguments-number.result c.loop-number.invariant there at c.in_ok-put_argument.ensures)

pub returns : goal.returns
returns c =
    let p : Planned = c.args.plan.now.value in
    let end : length c.args.arguments.now ≡ c.loop-number.number = (let past = c.loop-number-test.false in let bound = c.loop-number.auto.number-end in omega arith) in
    filled p c.args.arguments.now c.loop-number.frame c.loop-number.number c.requires c.loop-number.invariant (sym end)
