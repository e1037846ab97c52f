use Rattle.std.proofs.Common.{◌≡◌, ℕ, Some, refl, subst, sym}
use Rattle.spv_base.specs.declared.values.Value.{Scalar}
use Rattle.spv_types.specs.Laws.{AreSound}
use Rattle.spv_mem.specs.Memory.{Held as Memory, IsMemory, IsScalarAt, load_of}
use Rattle.spv_valid.specs.Acceptance.{Accepted}
use Rattle.spv_operands.specs.Operands.{shown}
use Rattle.spv_results.proofs.Exports.{sound_types}
use Rattle.spv_accesses.proofs.AtomicLemmas.{is_target, lane_scalar, scalar_there}
use Rattle.spv_accesses.proofs.AtomicSteps.{target_ok}
use Rattle.spv_accesses.proofs.atomics.target.Goals as goal

pub load_cell-requires : goal.load_cell-requires
load_cell-requires c =
    let there : IsScalarAt c.args.site.now.state.memory c.args.site.now.inv c.in_ok-place.place
    = scalar_there c.args.site.now (subst (λ (a : Accepted). AreSound a.types) c.accepted.ensures (sound_types c.accepted.result.now c.insts-insts.ensures.valid)) (subst (λ (m : Memory). ∥ IsMemory m ∥₁) c.memory.ensures c.variables_are_shaped.ensures) c.is_reached.ensures (shown c.args.at.now) c.requires.shape c.requires.leads c.in_ok-place.place c.in_ok-place.ensures in
    subst (λ (m : Memory). IsScalarAt m c.inv.result c.in_ok-place.place) (sym c.memory-2.ensures) (subst (λ (i : ℕ). IsScalarAt c.args.site.now.state.memory i c.in_ok-place.place) (sym c.inv.ensures) there)

pub returns-in-Ok-clause-target : goal.returns-in-Ok-clause-target
returns-in-Ok-clause-target c =
    let load : load_of c.args.site.now.state.memory c.args.site.now.inv c.in_ok-place.place ≡ Some (Scalar c.in-Ok.old)
    = subst (λ (m : Memory). load_of m c.args.site.now.inv c.in_ok-place.place ≡ Some (Scalar c.in-Ok.old)) c.memory-2.ensures
    (subst (λ (i : ℕ). load_of c.memory-2.result.now i c.in_ok-place.place ≡ Some (Scalar c.in-Ok.old)) c.inv.ensures c.in-Ok.ensures) in
    target_ok c.args.site.now (shown c.args.at.now) (Scalar c.in-Ok.old) c.in_ok-place.place c.in-Ok.old c.in_ok-place.ensures load (lane_scalar (Scalar c.in-Ok.old) c.in-Ok.old refl)

pub returns-in-Ok-clause-is : goal.returns-in-Ok-clause-is
returns-in-Ok-clause-is c =
    let load : load_of c.args.site.now.state.memory c.args.site.now.inv c.in_ok-place.place ≡ Some (Scalar c.in-Ok.old)
    = subst (λ (m : Memory). load_of m c.args.site.now.inv c.in_ok-place.place ≡ Some (Scalar c.in-Ok.old)) c.memory-2.ensures
    (subst (λ (i : ℕ). load_of c.memory-2.result.now i c.in_ok-place.place ≡ Some (Scalar c.in-Ok.old)) c.inv.ensures c.in-Ok.ensures) in
    is_target c.args.site.now (subst (λ (a : Accepted). AreSound a.types) c.accepted.ensures (sound_types c.accepted.result.now c.insts-insts.ensures.valid)) (subst (λ (m : Memory). ∥ IsMemory m ∥₁) c.memory.ensures c.variables_are_shaped.ensures) c.is_reached.ensures (shown c.args.at.now) c.requires.shape c.requires.leads c.in_ok-place.place c.in_ok-place.ensures c.in-Ok.old load
