use Rattle.std.proofs.Common.{◌≡◌, ◌∙◌, ℕ, Some, ap, rules, sym, subst}
use Rattle.std.proofs.Math.Logic.{∥∥₁_elim}
use Rattle.std.proofs.Props.{props}
use Rattle.std.specs.Coded.{codes}
use Rattle.spv_index.specs.Definitions.{at}
use Rattle.spv_actions.specs.Cells.{IsCellEffect}
use Rattle.spv_sites.specs.Sites.{Site}
use Rattle.spv_state.specs.Predecoded.{IsPredecoded, IsShort}
use Rattle.spv_machine.proofs.CellLemmas.{stands_at, word_at}
use Rattle.spv_machine.proofs.cells.cell_due.Goals as goal

pub cell_effect-requires : goal.cell_effect-requires
cell_effect-requires c =
    let a = c.args.m.now.accepted in
    let d = c.args.inst.now in
    let f = c.in_ok-frame.frame.now in
    let p = c.in_ok-predecoded.predecoded.now in
    let here : at a.insts c.pc-word.result ≡ Some d = ap (at a.insts) c.pc-word.ensures ∙ stands_at c.args.m.now c.args.whole.now c.args.inv d f c.requires.reached (sym c.in_ok-frame.ensures) in
    let same : p.function ≡ f.plan.function = search rules in
    subst (λ (x : Site). ∥ IsShort x.program.accepted x.frame.plan.function x.inst p.short ∥₁) (sym c.of-site.ensures)
    (∥∥₁_elim (c.in_ok-predecoded.ensures d here) (hlevel props) (λ (h : IsPredecoded a d p). ∣ subst (λ (n : ℕ). IsShort a n d p.short) same h.short ∣₁))

pub returns : goal.returns
returns c =
    let a = c.args.m.now.accepted in
    let d = c.args.inst.now in
    let f = c.in_ok-frame.frame.now in
    let p = c.in_ok-predecoded.predecoded.now in
    let here : at a.insts c.pc-word.result ≡ Some d = ap (at a.insts) c.pc-word.ensures ∙ stands_at c.args.m.now c.args.whole.now c.args.inv d f c.requires.reached (sym c.in_ok-frame.ensures) in
    let is : ∥ IsPredecoded a d p ∥₁ = c.in_ok-predecoded.ensures d here in
    record {
      frame = f;
      top = sym c.in_ok-frame.ensures;
      effect = subst (λ (x : Site). IsCellEffect x c.in_ok-effect.effect) c.of-site.ensures c.in_ok-effect.ensures;
      word = c.pc-word.ensures ∙ word_at c.args.m.now c.args.whole.now c.args.inv d f c.requires.reached (sym c.in_ok-frame.ensures);
      next = ∥∥₁_elim is (hlevel props) (λ (h : IsPredecoded a d p). h.next);
      silent = ∥∥₁_elim is (hlevel (props, codes)) (λ (h : IsPredecoded a d p). h.silent);
    }
