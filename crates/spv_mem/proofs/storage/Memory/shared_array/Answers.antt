use Rattle.std.proofs.Common.{◌≡◌, ◌∙◌, ℕ, None, Option, Some, ap, subst, sym}
use Rattle.spv_base.specs.Entries.{reads}
use Rattle.spv_types.specs.declared.forms.Form.{Form}
use Rattle.spv_types.specs.Shapes.{reached_type}
use Rattle.spv_types.specs.Types.{Types, form_of}
use Rattle.spv_mem.specs.Memory.{Held}
use Rattle.spv_mem.specs.Targets.{is_array_at}
use Rattle.spv_mem.proofs.ConditionLemmas.{array_is_named, array_named, no_array_fresh, no_array_unreached, no_array_untargeted}
use Rattle.spv_mem.proofs.storage.Memory.shared_array.Goals as goal

pub returns-then-is_fresh_shared : goal.returns-then-is_fresh_shared
returns-then-is_fresh_shared c =
    (λ h. absurd cc, λ is. absurd (no_array_fresh c.args.self.now c.args.p.now c.args.member c.args.id c.requires (c.is_fresh_shared.ensures.0 c.if-is_fresh_shared.true) is))

pub returns-in_default : goal.returns-in_default
returns-in_default c =
    let none : reads c.args.id c.args.self.now.targets ≡ None = subst (λ (m : Held). reads c.args.id m.targets ≡ None) c.self.view_is (sym c.in_default.ensures) in
    (λ h. absurd cc, λ is. absurd (no_array_untargeted c.args.self.now c.args.p.now c.args.member c.args.id c.requires none is))

pub returns-in-None : goal.returns-in-None
returns-in-None c =
    let types : c.as_ref-types.result.now ≡ c.args.self.now.types = c.as_ref-types.ensures ∙ ap (λ (m : Held). m.types) c.self.view_is in
    let named : reads c.args.id c.args.self.now.targets ≡ Some c.in-Some.target.ty = subst (λ (m : Held). reads c.args.id m.targets ≡ Some c.in-Some.target.ty) c.self.view_is (sym c.in-Some.ensures) in
    let none : reached_type c.args.self.now.types c.in-Some.target.ty c.args.p.now.path ≡ None =
    let e = c.in-None.ensures in let q = c.as_slice.ensures in cc in
    (λ h. absurd cc, λ is. absurd (no_array_unreached c.args.self.now c.args.p.now c.args.member c.args.id c.in-Some.target.ty c.requires named none is))

pub returns-in-Some-reached_type : goal.returns-in-Some-reached_type
returns-in-Some-reached_type c =
    let types : c.as_ref-types.result.now ≡ c.args.self.now.types = c.as_ref-types.ensures ∙ ap (λ (m : Held). m.types) c.self.view_is in
    let named : reads c.args.id c.args.self.now.targets ≡ Some c.in-Some.target.ty = subst (λ (m : Held). reads c.args.id m.targets ≡ Some c.in-Some.target.ty) c.self.view_is (sym c.in-Some.ensures) in
    let leads : reached_type c.args.self.now.types c.in-Some.target.ty c.args.p.now.path ≡ Some c.in-Some-reached_type.block =
    let e = c.in-Some-reached_type.ensures in let q = c.as_slice.ensures in cc in
    let array : c.is_array_at.result ≡ is_array_at c.args.self.now.types (form_of c.args.self.now.types c.in-Some-reached_type.block) c.args.member =
    c.is_array_at.ensures ∙ ap (λ (form : Option Form). is_array_at c.as_ref-types.result.now form c.from.result) c.form.ensures
    ∙ ap (λ (ts : Types). is_array_at ts (form_of ts c.in-Some-reached_type.block) c.from.result) types
    ∙ ap (λ (k : ℕ). is_array_at c.args.self.now.types (form_of c.args.self.now.types c.in-Some-reached_type.block) k) c.from.ensures in (
      λ h. array_named c.args.self.now c.args.p.now c.args.member c.args.id c.in-Some.target.ty c.in-Some-reached_type.block c.requires
          (λ none. let fresh = c.is_fresh_shared.ensures.1 none in let not = c.if-is_fresh_shared.false in cc)
          named leads (sym array ∙ h),
      λ is. array ∙ array_is_named c.args.self.now c.args.p.now c.args.member c.args.id c.in-Some.target.ty c.in-Some-reached_type.block c.requires named leads is,
    )
