use Rattle.std.proofs.Common.{◌≡◌, ◌∙◌, ℕ, None, Some, ap, subst, sym}
use Rattle.std.specs.Option.{MatchOption, option_and_then}
use Rattle.spv_base.specs.Parts.{part_at}
use Rattle.spv_base.specs.Variables.{root_id}
use Rattle.spv_mem.specs.declared.places.Place.{Place}
use Rattle.spv_mem.specs.Singles.{LiesIn}
use Rattle.spv_base.specs.Entries.{reads}
use Rattle.spv_types.specs.Types.{Types}
use Rattle.spv_mem.specs.Memory.{Held, IsMemory, roots_in}
use Rattle.spv_mem.specs.Roots.{AreFit}
use Rattle.spv_mem.proofs.MemoryLemmas.{fits_in, unnamed}
use Rattle.spv_mem.proofs.SingleLemmas.{names_row}
use Rattle.spv_mem.proofs.storage.Memory.place.Goals as goal

pub part_place-requires : goal.part_place-requires
part_place-requires c =
    let is : ∥ IsMemory c.args.self.now ∥₁ = subst (λ (x : Held). ∥ IsMemory x ∥₁) c.self.view_is c.self.invariant in
    let types : c.args.self.now.types ≡ c.as_ref.result.now = sym (c.as_ref.ensures ∙ ap (λ (x : Held). x.types) c.self.view_is) in
    let named : reads c.id-id.result c.args.self.now.targets ≡ Some c.in_ok-target.target.ty =
    let e = c.in_ok-target.ensures in let v = ap (λ (x : Held). x.targets) c.self.view_is in cc in
    let at : roots_in c.args.self.now c.args.inv c.args.p.now.root ≡ Some c.in_ok-roots.roots.now = let e = c.in_ok-roots.ensures in cc in
    subst (λ (ts : Types). ∥ AreFit ts c.in_ok-target.target.ty c.id-id.result c.in_ok-roots.roots.now ∥₁) types
    (fits_in c.args.self.now c.args.inv c.args.p.now.root c.in_ok-roots.roots.now c.in_ok-target.target.ty c.id-id.result is at named)

pub returns-in_err-target : goal.returns-in_err-target
returns-in_err-target c =
    let is : ∥ IsMemory c.args.self.now ∥₁ = subst (λ (x : Held). ∥ IsMemory x ∥₁) c.self.view_is c.self.invariant in
    let none : reads (root_id c.args.p.now.root) c.args.self.now.targets ≡ None =
    let e = c.in_err-target.ensures in let i = c.id-id.ensures in let v = ap (λ (x : Held). x.targets) c.self.view_is in cc in
    rw c.from_residual.ensures (unnamed c.args.self.now c.args.inv c.args.p.now is none)

pub returns : goal.returns
returns c =
    let at : roots_in c.args.self.now c.args.inv c.args.p.now.root ≡ Some c.in_ok-roots.roots.now = let e = c.in_ok-roots.ensures in cc in
    names_row c.args.self.now c.args.inv c.args.p.now c.in_ok-roots.roots.now c.part_place.result at
    (subst (λ (id : ℕ). MatchOption c.part_place.result (option_and_then (λ v. part_at v c.args.p.now.path) (reads id c.in_ok-roots.roots.now) ≡ None) (λ (at : Place). LiesIn id c.in_ok-roots.roots.now c.args.p.now.path at.start at.len)) c.id-id.ensures c.part_place.ensures)
