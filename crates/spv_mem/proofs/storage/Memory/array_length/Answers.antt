use Rattle.std.proofs.Common.{◌≡◌, ◌∙◌, ℕ, Some, ap, subst, sym}
use Rattle.std.specs.Option.{option_map_or}
use Rattle.spv_base.specs.Entries.{reads}
use Rattle.spv_base.specs.Variables.{Roots, root_id}
use Rattle.spv_mem.specs.Memory.{Held, IsMemory}
use Rattle.spv_mem.specs.Targets.{elements_in}
use Rattle.spv_mem.proofs.ArrayLemmas.{counts_at}
use Rattle.spv_mem.proofs.storage.Memory.array_length.Goals as goal

pub returns : goal.returns
returns c = λ i.
    let is : ∥ IsMemory c.args.self.now ∥₁ = subst (λ (x : Held). ∥ IsMemory x ∥₁) c.self.view_is c.self.invariant in
    let shared : c.self.inside.shared ≡ c.args.self.now.shared = ap (λ (x : Held). x.shared) c.self.view_is in
    let count : c.elements.result ≡ option_map_or elements_in (reads (root_id c.args.p.now.root) c.args.self.now.shared) 0 =
    c.elements.ensures ∙ ap (λ (k : ℕ). option_map_or elements_in (reads k c.self.inside.shared) 0) c.id-id.ensures
    ∙ ap (λ (es : Roots). option_map_or elements_in (reads (root_id c.args.p.now.root) es) 0) shared in
    counts_at c.args.self.now c.args.p.now c.args.member i is c.requires ∙ ap Some (sym count)
