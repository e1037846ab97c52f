use Rattle.std.proofs.Common.{◌≡◌, ◌∙◌, ℕ, Some, length, ap, subst, sym}
use Rattle.std.specs.Option.{IsSomeAnd}
use Rattle.spv_actions.specs.Below.spv_types.specs.Rows.{leaves}
use Rattle.spv_actions.specs.Below.spv_mem.specs.Memory.{MayStore, load_of}
use Rattle.spv_frame.specs.Registers.{IsSlotOf}
use Rattle.spv_actions.specs.Cells.{GivesCell, SetsCell, full, whole}
use Rattle.spv_sites.specs.Fits.{StoreFits}
use Rattle.spv_sites.specs.Sites.{Site}
use Rattle.spv_actions.specs.declared.cells.CellEffect.{CellEffect}
use Rattle.spv_state.specs.Sources.{slot_of}
use Rattle.spv_state.specs.State.{on_frame, with_pc, with_register}
use Rattle.spv_machine.specs.Step.{put}
use Rattle.spv_machine.proofs.CellLemmas.{cell_made, of_top, stands_for}
use Rattle.spv_machine.proofs.cells.cell_event.Goals as goal

pub set_cell-requires-clause-inside : goal.set_cell-requires-clause-inside
set_cell-requires-clause-inside c =
    (stands_for c.args.m.now c.args.recorded.now.state c.args.inv c.args.inst.now c.args.step c.happening_of-happening.result c.requires.reached c.requires.step (c.happening_of-happening.ensures c.args.recorded.now.state)).inside

pub set_cell-requires-clause-stands : goal.set_cell-requires-clause-stands
set_cell-requires-clause-stands c =
    (stands_for c.args.m.now c.args.recorded.now.state c.args.inv c.args.inst.now c.args.step c.happening_of-happening.result c.requires.reached c.requires.step (c.happening_of-happening.ensures c.args.recorded.now.state)).stands

pub set_cell-requires-clause-register : goal.set_cell-requires-clause-register
set_cell-requires-clause-register c =
    let s = c.args.recorded.now.state in
    let h = c.happening_of-happening.result in
    let is = c.requires.step in
    let on : GivesCell (record { program = c.args.m.now; state = s; inv = c.args.inv; frame = is.frame; inst = c.args.inst.now }) c.in-Gives.value c.in-Gives.slot = rw c.in-Gives.is at is.effect.on in
    let for = stands_for c.args.m.now s c.args.inv c.args.inst.now c.args.step h c.requires.reached is (c.happening_of-happening.ensures s) in
    of_top (λ f. IsSlotOf f.plan.values (slot_of c.in-Gives.slot)) s c.args.inv h.inv is.frame for.inv is.top on.lies

pub set_cell-requires-clause-plain : goal.set_cell-requires-clause-plain
set_cell-requires-clause-plain c =
    let s = c.args.recorded.now.state in
    let is = c.requires.step in
    let on : GivesCell (record { program = c.args.m.now; state = s; inv = c.args.inv; frame = is.frame; inst = c.args.inst.now }) c.in-Gives.value c.in-Gives.slot = rw c.in-Gives.is at is.effect.on in
    rw c.in-Gives.is on.plain

pub returns-in-Gives : goal.returns-in-Gives
returns-in-Gives c =
    let s = c.args.recorded.now.state in
    let h = c.happening_of-happening.result in
    let d = c.args.inst.now in
    let next = c.args.step.next in
    let is = c.requires.step in
    let on : GivesCell (record { program = c.args.m.now; state = s; inv = c.args.inv; frame = is.frame; inst = d }) c.in-Gives.value c.in-Gives.slot = rw c.in-Gives.is at is.effect.on in
    let reaches : c.set_cell.new.self.state ≡ on_frame h.inv (with_pc next) (put h.inv d.id (full c.args.step.effect) s)
    = (rw c.in-Gives.is at c.set_cell.ensures.state)
    ∙ ap (λ (n : ℕ). on_frame h.inv (with_pc next) (on_frame h.inv (with_register n c.in-Gives.value) s)) on.id
    ∙ ap (λ (e : CellEffect). on_frame h.inv (with_pc next) (put h.inv d.id (full e) s)) (sym c.in-Gives.is) in
    cell_made c.args.m.now c.args.recorded.now c.set_cell.new.self c.args.inv d c.args.step h c.requires.reached is (c.happening_of-happening.ensures s) reaches c.set_cell.ensures.kept

pub store_cell-requires-clause-inside : goal.store_cell-requires-clause-inside
store_cell-requires-clause-inside c =
    (stands_for c.args.m.now c.args.recorded.now.state c.args.inv c.args.inst.now c.args.step c.happening_of-happening.result c.requires.reached c.requires.step (c.happening_of-happening.ensures c.args.recorded.now.state)).inside

pub store_cell-requires-clause-stands : goal.store_cell-requires-clause-stands
store_cell-requires-clause-stands c =
    (stands_for c.args.m.now c.args.recorded.now.state c.args.inv c.args.inst.now c.args.step c.happening_of-happening.result c.requires.reached c.requires.step (c.happening_of-happening.ensures c.args.recorded.now.state)).stands

pub store_cell-requires-clause-one : goal.store_cell-requires-clause-one
store_cell-requires-clause-one c =
    let s = c.args.recorded.now.state in
    let h = c.happening_of-happening.result in
    let is = c.requires.step in
    let x : Site = record { program = c.args.m.now; state = s; inv = c.args.inv; frame = is.frame; inst = c.args.inst.now } in
    let on : SetsCell x c.in-Sets.root = rw c.in-Sets.is at is.effect.on in
    let for = stands_for c.args.m.now s c.args.inv c.args.inst.now c.args.step h c.requires.reached is (c.happening_of-happening.ensures s) in
    subst (λ (n : ℕ). IsSomeAnd (load_of s.memory n (whole c.in-Sets.root)) (λ w. length (leaves w) ≡ 1)) (sym for.inv) on

pub store_cell-requires-clause-may : goal.store_cell-requires-clause-may
store_cell-requires-clause-may c =
    let s = c.args.recorded.now.state in
    let h = c.happening_of-happening.result in
    let is = c.requires.step in
    let for = stands_for c.args.m.now s c.args.inv c.args.inst.now c.args.step h c.requires.reached is (c.happening_of-happening.ensures s) in
    let fits : StoreFits s c.args.inv (Some (whole c.in-Sets.root, c.in-Sets.value)) = rw c.in-Sets.is at is.effect.fits.store in
    rw c.in-Sets.is (subst (λ (n : ℕ). ∥ MayStore s.memory n (whole c.in-Sets.root) c.in-Sets.value ∥₁) (sym for.inv) fits.1)

pub returns-in-Sets : goal.returns-in-Sets
returns-in-Sets c =
    let s = c.args.recorded.now.state in
    let h = c.happening_of-happening.result in
    let d = c.args.inst.now in
    let next = c.args.step.next in
    let is = c.requires.step in
    let reaches : c.store_cell.new.self.state ≡ on_frame h.inv (with_pc next) (put h.inv d.id (full c.args.step.effect) s)
    = (rw c.in-Sets.is at c.store_cell.ensures.state) ∙ ap (λ (e : CellEffect). on_frame h.inv (with_pc next) (put h.inv d.id (full e) s)) (sym c.in-Sets.is) in
    cell_made c.args.m.now c.args.recorded.now c.store_cell.new.self c.args.inv d c.args.step h c.requires.reached is (c.happening_of-happening.ensures s) reaches c.store_cell.ensures.kept
