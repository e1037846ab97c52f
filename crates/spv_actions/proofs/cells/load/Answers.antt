use Rattle.std.proofs.Common.{◌≡◌, ◌∙◌, Ok, ap, subst, sym}
use Rattle.spv_base.specs.declared.values.Value.{Value}
use Rattle.spv_types.specs.Laws.{AreSound}
use Rattle.spv_mem.specs.Memory.{Held as Memory, IsMemory, root_value}
use Rattle.spv_valid.specs.Acceptance.{Accepted}
use Rattle.spv_valid.specs.Validity.{IsValid}
use Rattle.spv_operands.specs.Values.{pointer_to}
use Rattle.spv_results.specs.Operands.{IsResult}
use Rattle.spv_results.proofs.Exports.{sound_types}
use Rattle.spv_state.specs.State.{frames_of}
use Rattle.spv_sites.specs.Effects.{gives}
use Rattle.spv_sites.specs.Sites.{accepted, part_of}
use Rattle.spv_accesses.proofs.Exports.{load_gives, load_shape}
use Rattle.spv_actions.proofs.CellLemmas.{gives_cell, whole_there}
use Rattle.spv_sites.proofs.Exports.{loading, result_fits, result_plain, result_rooted}
use Rattle.spv_actions.proofs.cells.load.Goals as goal

pub load_is_kept-requires : goal.load_is_kept-requires
load_is_kept-requires c = loading c.args.site.now.inst c.requires.loads

pub returns : goal.returns
returns c =
    let x = c.args.site.now in
    let at = pointer_to c.variable-root.result in
    let v = c.in_ok-part.part in
    let there : part_of x at ≡ Ok v
    = whole_there x c.variable-root.result c.whole.result v
    (c.whole.ensures ∙ ap (λ (m : Memory). root_value m c.inv.result c.variable-root.result) c.memory-2.ensures ∙ ap (λ i. root_value x.state.memory i c.variable-root.result) c.inv.ensures) c.in_ok-part.was in
    let sound = subst (λ (a : Accepted). AreSound a.types) c.accepted.ensures (sound_types c.accepted.result.now c.insts-insts.ensures.valid) in
    let valid = subst (λ (a : Accepted). ∥ IsValid a ∥₁) c.accepted.ensures c.insts-insts.ensures.valid in
    let memory : ∥ IsMemory x.state.memory ∥₁ = subst (λ (m : Memory). ∥ IsMemory m ∥₁) c.memory.ensures c.variables_are_shaped.ensures in
    let shape = load_shape x sound valid c.is_reached.ensures at c.variable-root.ensures.shape v c.load_is_kept.ensures.rule memory there in
    let w = c.of_part-value.result in
    let own : IsResult (accepted x) x.inst w = subst (IsResult (accepted x) x.inst) (sym c.of_part-value.ensures) shape in
    record {
      due = load_gives x at v c.requires.loads c.variable-root.ensures.value there ∙ ap (λ (v : Value). Ok (gives v)) (sym c.of_part-value.ensures);
      fits = record { store = tt; result = result_fits (accepted x) x.inst w sound own; control = c.load_is_kept.ensures.next; rooted = result_rooted (accepted x) (frames_of x.state x.inv) x.inst w sound own; passed = tt };
      on = gives_cell x w c.args.into.now c.is_reached.ensures c.requires.into (result_plain (accepted x) x.inst w sound own);
    }
