use Rattle.std.proofs.Common.{◌≡◌, ◌∙◌, true, false, sym, ap}
use Rattle.std.proofs.lemmas.Result.{on_ok_weaker}
use Rattle.spv_types.specs.Queries.{is_pointer}
use Rattle.spv_types.specs.Types.{form_of}
use Rattle.spv_plans.specs.Drafts.{with_pointer, with_value}
use Rattle.spv_plans.specs.Registers.{is_register}
use Rattle.spv_plans.proofs.DraftLemmas.{pointer_added, value_added}
use Rattle.spv_plans.proofs.drafts.Draft.add.Goals as goal

pub returns-then-is_pointer : goal.returns-then-is_pointer
returns-then-is_pointer c =
    let register : is_register c.args.types.now c.args.inst.now ≡ true = sym c.if-not-is_register.ensures in
    let pointer : is_pointer (form_of c.args.types.now c.args.inst.now.ty) ≡ true = sym (ap is_pointer c.form.ensures) ∙ sym c.if-is_pointer.ensures in
    on_ok_weaker c.add_pointer.result
    (λ (e : c.add_pointer.new.self ≡ with_pointer c.args.self.now c.args.inst.now). pointer_added c.args.types.now c.args.inst.now c.args.self.now c.add_pointer.new.self register pointer e)
    c.add_pointer.ensures

pub returns-else-is_pointer : goal.returns-else-is_pointer
returns-else-is_pointer c =
    let register : is_register c.args.types.now c.args.inst.now ≡ true = sym c.if-not-is_register.ensures in
    let value : is_pointer (form_of c.args.types.now c.args.inst.now.ty) ≡ false = sym (ap is_pointer c.form.ensures) ∙ sym c.if-is_pointer.ensures in
    on_ok_weaker c.add_value.result
    (λ (e : c.add_value.new.self ≡ with_value c.args.self.now c.args.inst.now c.cells_of.result).
    value_added c.args.types.now c.args.inst.now c.args.self.now c.add_value.new.self c.cells_of.result register value c.cells_of.ensures e)
    c.add_value.ensures
