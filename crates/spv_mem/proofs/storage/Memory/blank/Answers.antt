use Rattle.std.proofs.Common.{◌≡◌, ◌∙◌, None, Some, true, false, ap, subst, sym}
use Rattle.spv_base.specs.Entries.{reads}
use Rattle.spv_base.specs.declared.values.Value.{Value}
use Rattle.spv_types.specs.Rules.{is_data}
use Rattle.spv_types.specs.Types.{Types, form_of}
use Rattle.spv_mem.specs.Blanks.{blank_of}
use Rattle.spv_mem.specs.Memory.{Held, IsMemory, IsVariable}
use Rattle.spv_mem.proofs.BlankLemmas.{blank_found, blank_is_variable, blank_other, blank_unnamed}
use Rattle.spv_mem.proofs.storage.Memory.blank.Goals as goal

pub returns-in_default-clause-value : goal.returns-in_default-clause-value
returns-in_default-clause-value c =
    blank_unnamed c.args.self.now c.args.id c.args.elements (subst (λ (m : Held). reads c.args.id m.targets ≡ None) c.self.view_is (sym c.in_default.ensures))

pub returns-then-not-is_data-clause-value : goal.returns-then-not-is_data-clause-value
returns-then-not-is_data-clause-value c =
    let types : c.as_ref-types.result.now ≡ c.args.self.now.types = c.as_ref-types.ensures ∙ ap (λ (m : Held). m.types) c.self.view_is in
    let named : reads c.args.id c.args.self.now.targets ≡ Some c.in-Some.target.ty = subst (λ (m : Held). reads c.args.id m.targets ≡ Some c.in-Some.target.ty) c.self.view_is (sym c.in-Some.ensures) in
    blank_other c.args.self.now c.args.id c.in-Some.target.ty c.args.elements named
    (subst (λ (ts : Types). is_data (form_of ts c.in-Some.target.ty) ≡ false) types (sym c.if-not-is_data.ensures))

pub returns : goal.returns
returns c =
    let is : ∥ IsMemory c.args.self.now ∥₁ = subst (λ (m : Held). ∥ IsMemory m ∥₁) c.self.view_is c.self.invariant in
    let types : c.as_ref-types.result.now ≡ c.args.self.now.types = c.as_ref-types.ensures ∙ ap (λ (m : Held). m.types) c.self.view_is in
    let named : reads c.args.id c.args.self.now.targets ≡ Some c.in-Some.target.ty = subst (λ (m : Held). reads c.args.id m.targets ≡ Some c.in-Some.target.ty) c.self.view_is (sym c.in-Some.ensures) in
    let sort : is_data (form_of c.args.self.now.types c.in-Some.target.ty) ≡ true = subst (λ (ts : Types). is_data (form_of ts c.in-Some.target.ty) ≡ true) types (sym c.if-not-is_data.ensures) in
    let made = c.in_ok-variable.ensures ∙ ap (λ (ts : Types). blank_of ts c.args.elements c.in-Some.target.ty) types in
    record {
      value = ap Some made ∙ blank_found c.args.self.now c.args.id c.in-Some.target.ty c.args.elements named sort;
      may =
          subst (λ (v : Value). ∥ IsVariable c.args.self.now.types c.args.self.now.targets c.args.id v ∥₁) (sym made)
          (blank_is_variable c.args.self.now c.args.id c.in-Some.target.ty c.args.elements is named sort);
    }
