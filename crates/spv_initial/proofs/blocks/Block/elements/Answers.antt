use Rattle.std.proofs.Common.{◌≡◌, ◌∙◌, ℕ, Some, ap, length, sym}
use Rattle.spv_types.specs.Types.{found_among}
use Rattle.spv_initial.proofs.ElementLemmas.{block_elements, no_block}
use Rattle.spv_initial.proofs.blocks.Block.elements.Goals as goal

pub returns-in-Some : goal.returns-in-Some
returns-in-Some c =
    let found : found_among c.args.self.now.types.now (length c.args.self.now.types.now) c.args.self.now.ty ≡ Some (c.in-Some.limit, c.in-Some.form.now) =
    ap (λ (n : ℕ). found_among c.args.self.now.types.now n c.args.self.now.ty) (sym c.len.ensures) ∙ sym c.in-Some.ensures in
    rw (block_elements c.args.self.now.types.now c.args.self.now.bytes.now c.args.self.now.size c.args.self.now.ty c.in-Some.limit c.in-Some.form.now c.requires found, ← c.members_of.ensures) c.last_count.ensures

pub returns-in-None : goal.returns-in-None
returns-in-None c =
    no_block c.args.self.now.types.now c.args.self.now.bytes.now c.args.self.now.size c.args.self.now.ty
    (ap (λ (n : ℕ). found_among c.args.self.now.types.now n c.args.self.now.ty) (sym c.len.ensures) ∙ sym c.in-None.ensures)
