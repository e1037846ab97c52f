use Rattle.std.proofs.Common.{◌≡◌, ◌∙◌, Err, Ok, ap, rules, subst, sym}
use Rattle.spv_base.specs.declared.values.Value.{Value}
use Rattle.spv_types.specs.Laws.{AreSound}
use Rattle.spv_mem.specs.Memory.{Held as Memory, IsMemory}
use Rattle.spv_valid.specs.Acceptance.{Accepted}
use Rattle.spv_valid.specs.Validity.{IsValid}
use Rattle.spv_operands.specs.Operands.{shown}
use Rattle.spv_results.specs.Operands.{IsResult}
use Rattle.spv_results.proofs.Exports.{sound_types}
use Rattle.spv_sites.specs.Effects.{gives}
use Rattle.spv_sites.specs.Sites.{part_of, values}
use Rattle.spv_accesses.proofs.AccessLemmas.{load_gives, load_missing, load_outside, load_shape}
use Rattle.spv_sites.proofs.Exports.{no_value_due, outside_due, loading, result_fits, result_plain, result_rooted}
use Rattle.spv_state.specs.State.{frames_of}
use Rattle.spv_accesses.proofs.accesses.load.Goals as goal

pub load_is_kept-requires : goal.load_is_kept-requires
load_is_kept-requires c = loading c.args.site.now.inst c.requires

pub returns-in_err-at-clause-due : goal.returns-in_err-at-clause-due
returns-in_err-at-clause-due c =
    let same : c.from_residual.result ≡ Err c.in_err-at.field-0.0 = search rules in
    no_value_due c.args.site.now c.args.row.now (values c.args.site.now 0) c.from_residual.result c.in_err-at.field-0.0 (load_missing c.args.site.now c.requires) c.in_err-at.ensures.value same

pub returns-in_err-part-clause-due : goal.returns-in_err-part-clause-due
returns-in_err-part-clause-due c =
    let same : c.from_residual-in_err-part.result ≡ Err c.in_err-part.field-0.0 = search rules in
    let at = shown c.in_ok-at.at in
    outside_due c.args.site.now c.args.row.now (part_of c.args.site.now at) c.from_residual-in_err-part.result c.in_err-part.field-0.0 (λ cause outside. load_outside c.args.site.now at cause c.requires c.in_ok-at.ensures.value outside) c.in_err-part.ensures same

pub returns-clause-due : goal.returns-clause-due
returns-clause-due c =
    load_gives c.args.site.now (shown c.in_ok-at.at) c.in_ok-part.field-0 c.requires c.in_ok-at.ensures.value c.in_ok-part.ensures ∙ ap (λ (v : Value). Ok (gives v)) (sym c.in_ok-copied.ensures)

pub returns-clause-fits : goal.returns-clause-fits
returns-clause-fits c =
    let memory : ∥ IsMemory c.args.site.now.state.memory ∥₁ = subst (λ (m : Memory). ∥ IsMemory m ∥₁) c.memory.ensures c.variables_are_shaped.ensures in
    let shape = load_shape c.args.site.now (subst (λ (a : Accepted). AreSound a.types) c.accepted.ensures (sound_types c.accepted.result.now c.insts-insts.ensures.valid)) (subst (λ (a : Accepted). ∥ IsValid a ∥₁) c.accepted.ensures c.insts-insts.ensures.valid) c.is_reached.ensures (shown c.in_ok-at.at) c.in_ok-at.ensures.shape c.in_ok-part.field-0 c.load_is_kept.ensures.rule memory c.in_ok-part.ensures in
    let own : IsResult c.args.site.now.program.accepted c.args.site.now.inst c.copied.new.row = subst (IsResult c.args.site.now.program.accepted c.args.site.now.inst) (sym c.in_ok-copied.ensures) shape in
    record { store = tt; result = result_fits c.args.site.now.program.accepted c.args.site.now.inst c.copied.new.row (subst (λ (a : Accepted). AreSound a.types) c.accepted.ensures (sound_types c.accepted.result.now c.insts-insts.ensures.valid)) own; control = c.load_is_kept.ensures.next; rooted = result_rooted c.args.site.now.program.accepted (frames_of c.args.site.now.state c.args.site.now.inv) c.args.site.now.inst c.copied.new.row (subst (λ (a : Accepted). AreSound a.types) c.accepted.ensures (sound_types c.accepted.result.now c.insts-insts.ensures.valid)) own; passed = tt }

pub returns-clause-taken : goal.returns-clause-taken
returns-clause-taken c =
    let memory : ∥ IsMemory c.args.site.now.state.memory ∥₁ = subst (λ (m : Memory). ∥ IsMemory m ∥₁) c.memory.ensures c.variables_are_shaped.ensures in
    let shape = load_shape c.args.site.now (subst (λ (a : Accepted). AreSound a.types) c.accepted.ensures (sound_types c.accepted.result.now c.insts-insts.ensures.valid)) (subst (λ (a : Accepted). ∥ IsValid a ∥₁) c.accepted.ensures c.insts-insts.ensures.valid) c.is_reached.ensures (shown c.in_ok-at.at) c.in_ok-at.ensures.shape c.in_ok-part.field-0 c.load_is_kept.ensures.rule memory c.in_ok-part.ensures in
    let own : IsResult c.args.site.now.program.accepted c.args.site.now.inst c.copied.new.row = subst (IsResult c.args.site.now.program.accepted c.args.site.now.inst) (sym c.in_ok-copied.ensures) shape in
    (result_plain c.args.site.now.program.accepted c.args.site.now.inst c.copied.new.row (subst (λ (a : Accepted). AreSound a.types) c.accepted.ensures (sound_types c.accepted.result.now c.insts-insts.ensures.valid)) own, tt)
