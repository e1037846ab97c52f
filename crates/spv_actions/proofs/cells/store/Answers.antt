use Rattle.std.proofs.Common.{◌≡◌, ◌∙◌, Ok, ap, length, subst, sym}
use Rattle.spv_base.specs.declared.values.Value.{Value}
use Rattle.spv_types.specs.Laws.{AreSound}
use Rattle.spv_mem.specs.Memory.{Held as Memory, root_value}
use Rattle.spv_valid.specs.Acceptance.{Accepted}
use Rattle.spv_valid.specs.Validity.{IsValid}
use Rattle.spv_operands.specs.Values.{pointer_to}
use Rattle.spv_results.specs.Operands.{IsOperand}
use Rattle.spv_results.proofs.Exports.{sound_types}
use Rattle.spv_actions.specs.Cells.{whole}
use Rattle.spv_sites.specs.Effects.{pointer}
use Rattle.spv_sites.specs.Sites.{accepted, part_of}
use Rattle.spv_accesses.proofs.Exports.{store_fits, store_gives, stores}
use Rattle.spv_actions.proofs.CellLemmas.{sets_cell, variable_is, whole_there}
use Rattle.spv_sites.proofs.Exports.{storing}
use Rattle.spv_actions.proofs.cells.store.Goals as goal

pub store_is_kept-requires : goal.store_is_kept-requires
store_is_kept-requires c = storing c.args.site.now.inst c.requires.stores

pub returns : goal.returns
returns c =
    let x = c.args.site.now in
    let r = c.variable-root.result in
    let at = pointer_to r in
    let v = c.in_ok-part.part in
    let there : part_of x at ≡ Ok v
    = whole_there x c.variable-root.result c.whole.result v
    (c.whole.ensures ∙ ap (λ (m : Memory). root_value m c.inv.result c.variable-root.result) c.memory.ensures ∙ ap (λ i. root_value x.state.memory i c.variable-root.result) c.inv.ensures) c.in_ok-part.was in
    let place : pointer at ≡ Ok (whole r) = variable_is r in
    let sound = subst (λ (a : Accepted). AreSound a.types) c.accepted.ensures (sound_types c.accepted.result.now c.insts-insts.ensures.valid) in
    let valid = subst (λ (a : Accepted). ∥ IsValid a ∥₁) c.accepted.ensures c.insts-insts.ensures.valid in
    let w = c.of_part-value.result in
    let own : IsOperand (accepted x) x.inst 1 w = subst (IsOperand (accepted x) x.inst 1) (sym c.of_part-value.ensures) c.in_ok-value.ensures.shape in
    record {
      due = store_gives x at c.in_ok-value.value v (whole r) c.requires.stores c.variable-root.ensures.value c.in_ok-value.ensures.value place there ∙ ap (λ (v : Value). Ok (stores (whole r) v)) (sym c.of_part-value.ensures);
      fits = record { store = store_fits x sound valid c.is_reached.ensures at c.variable-root.ensures.shape v w (whole r) c.store_is_kept.ensures.rule there place own; result = tt; control = c.store_is_kept.ensures.next; rooted = tt; passed = tt };
      on = sets_cell x r v there (sym (ap length c.cells.ensures) ∙ c.if-cells-ne1.false);
    }
