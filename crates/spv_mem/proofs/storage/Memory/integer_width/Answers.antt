use Rattle.std.proofs.Common.{◌≡◌, ◌∙◌, None, Some, ap, subst}
use Rattle.spv_base.specs.Entries.{reads}
use Rattle.spv_base.specs.Variables.{root_id}
use Rattle.spv_types.specs.Shapes.{reached_type}
use Rattle.spv_types.specs.Types.{Types, form_of}
use Rattle.spv_mem.specs.Conditions.{integer_width, width_at}
use Rattle.spv_mem.specs.Memory.{Held, IsMemory}
use Rattle.spv_mem.proofs.ConditionLemmas.{may_if, scalar_if, width_reached, width_unnamed, width_unreached}
use Rattle.spv_mem.proofs.storage.Memory.integer_width.Goals as goal

pub returns-in_err-target-clause-width : goal.returns-in_err-target-clause-width
returns-in_err-target-clause-width c =
    let none : reads (root_id c.args.p.now.root) c.args.self.now.targets ≡ None =
    let e = c.in_err-target.ensures in let i = c.id-id.ensures in let v = ap (λ (m : Held). m.targets) c.self.view_is in cc in
    c.from_residual.ensures ∙ width_unnamed c.args.self.now c.args.p.now none

pub returns-in_err-ty-clause-width : goal.returns-in_err-ty-clause-width
returns-in_err-ty-clause-width c =
    let types : c.as_ref-types.result.now ≡ c.args.self.now.types = c.as_ref-types.ensures ∙ ap (λ (m : Held). m.types) c.self.view_is in
    let named : reads (root_id c.args.p.now.root) c.args.self.now.targets ≡ Some c.in_ok-target.target.ty =
    let e = c.in_ok-target.ensures in let i = c.id-id.ensures in let v = ap (λ (m : Held). m.targets) c.self.view_is in cc in
    let none : reached_type c.args.self.now.types c.in_ok-target.target.ty c.args.p.now.path ≡ None =
    let e = c.reached_type.ensures in let h = c.in_err-ty.was in let p = c.as_slice.ensures in cc in
    c.from_residual-in_err-ty.ensures ∙ width_unreached c.args.self.now c.args.p.now c.in_ok-target.target.ty named none

pub returns : goal.returns
returns c =
    let memory : ∥ IsMemory c.args.self.now ∥₁ = subst (λ (m : Held). ∥ IsMemory m ∥₁) c.self.view_is c.self.invariant in
    let types : c.as_ref-types.result.now ≡ c.args.self.now.types = c.as_ref-types.ensures ∙ ap (λ (m : Held). m.types) c.self.view_is in
    let named : reads (root_id c.args.p.now.root) c.args.self.now.targets ≡ Some c.in_ok-target.target.ty =
    let e = c.in_ok-target.ensures in let i = c.id-id.ensures in let v = ap (λ (m : Held). m.targets) c.self.view_is in cc in
    let found : reached_type c.args.self.now.types c.in_ok-target.target.ty c.args.p.now.path ≡ Some c.in_ok-ty.ty =
    let e = c.reached_type.ensures in let h = c.in_ok-ty.was in let p = c.as_slice.ensures in cc in
    let is : c.integer_width.result ≡ width_at c.args.self.now c.args.p.now =
    c.integer_width.ensures ∙ ap integer_width (c.form.ensures ∙ ap (λ (ts : Types). form_of ts c.in_ok-ty.ty) types) ∙ width_reached c.args.self.now c.args.p.now c.in_ok-target.target.ty c.in_ok-ty.ty named found in
    record {
      width = is;
      scalar = scalar_if c.args.self.now c.args.p.now c.integer_width.result memory is;
      may = may_if c.args.self.now c.args.p.now c.integer_width.result memory is;
    }
