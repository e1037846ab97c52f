use Rattle.std.proofs.Common.{◌≡◌, ◌∙◌, ◌<◌, ◌^◌, Err, Ok, ap, rules, subst, sym}
use Rattle.spv_base.specs.Cell.{defined_cell}
use Rattle.spv_base.specs.declared.values.Value.{Value, Scalar}
use Rattle.spv_types.specs.Laws.{AreSound}
use Rattle.spv_valid.specs.Acceptance.{Accepted}
use Rattle.spv_operands.specs.Operands.{shown}
use Rattle.spv_results.specs.Operands.{IsResult}
use Rattle.spv_results.proofs.Exports.{sound_types}
use Rattle.spv_sites.specs.Effects.{gives}
use Rattle.spv_sites.specs.Lengths.{length_of}
use Rattle.spv_sites.specs.Sites.{values}
use Rattle.spv_sites.proofs.Exports.{no_value_due, outside_due, result_fits, result_rooted}
use Rattle.spv_accesses.proofs.LengthLemmas.{leads_to_array, length_gives, length_missing, length_outside, length_shape}
use Rattle.spv_state.specs.State.{frames_of}
use Rattle.spv_accesses.proofs.lengths.array_length.Goals as goal

pub length-requires-clause-array : goal.length-requires-clause-array
length-requires-clause-array c =
    let sound = subst (λ (a : Accepted). AreSound a.types) c.accepted.ensures (sound_types c.accepted.result.now c.insts-insts.ensures.valid) in
    leads_to_array c.args.site.now sound c.is_reached.ensures (shown c.in_ok-block.block) c.in_ok-block.ensures.shape c.length_is_kept.ensures.rule

pub returns-in_err-block-clause-due : goal.returns-in_err-block-clause-due
returns-in_err-block-clause-due c =
    let same : c.from_residual.result ≡ Err c.in_err-block.field-0.0 = search rules in
    no_value_due c.args.site.now c.args.row.now (values c.args.site.now 0) c.from_residual.result c.in_err-block.field-0.0 (length_missing c.args.site.now c.requires) c.in_err-block.ensures.value same

pub returns-in_err-count-clause-due : goal.returns-in_err-count-clause-due
returns-in_err-count-clause-due c =
    let same : c.from_residual-in_err-count.result ≡ Err c.in_err-count.field-0.0 = search rules in
    let at = shown c.in_ok-block.block in
    outside_due c.args.site.now c.args.row.now (length_of c.args.site.now.state c.args.site.now.inv c.args.site.now.inst at) c.from_residual-in_err-count.result c.in_err-count.field-0.0
    (λ cause outside. length_outside c.args.site.now at cause c.requires c.in_ok-block.ensures.value outside) c.in_err-count.ensures same

pub returns-clause-due : goal.returns-clause-due
returns-clause-due c =
    let held : c.put_scalar.new.row ≡ Scalar (defined_cell 32 c.in_ok-count.count) = search rules in
    length_gives c.args.site.now (shown c.in_ok-block.block) c.in_ok-count.count c.requires c.in_ok-block.ensures.value c.in_ok-count.ensures ∙ ap (λ (v : Value). Ok (gives v)) (sym held)

pub returns-clause-fits : goal.returns-clause-fits
returns-clause-fits c =
    let held : c.put_scalar.new.row ≡ Scalar (defined_cell 32 c.in_ok-count.count) = search rules in
    let sound = subst (λ (a : Accepted). AreSound a.types) c.accepted.ensures (sound_types c.accepted.result.now c.insts-insts.ensures.valid) in
    let small : c.in_ok-count.count < 2 ^ 32 = search rules in
    let shape = length_shape c.args.site.now c.in_ok-count.count sound c.length_is_kept.ensures.rule small in
    let own : IsResult c.args.site.now.program.accepted c.args.site.now.inst c.put_scalar.new.row = subst (IsResult c.args.site.now.program.accepted c.args.site.now.inst) (sym held) shape in
    record { store = tt; result = result_fits c.args.site.now.program.accepted c.args.site.now.inst c.put_scalar.new.row sound own; control = c.length_is_kept.ensures.next; rooted = result_rooted c.args.site.now.program.accepted (frames_of c.args.site.now.state c.args.site.now.inv) c.args.site.now.inst c.put_scalar.new.row sound own; passed = tt }
