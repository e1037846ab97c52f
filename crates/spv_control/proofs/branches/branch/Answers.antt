use Rattle.std.proofs.Common.{◌≡◌, ◌∙◌, ap, sym}
use Rattle.spv_base.specs.declared.instructions.Inst.{Inst}
use Rattle.spv_index.specs.Operands.{id_operand}
use Rattle.spv_sites.specs.Sites.{due}
use Rattle.spv_control.proofs.BranchLemmas.{branch_due, due_as, jumps}
use Rattle.spv_control.proofs.ControlCodes.{branching}
use Rattle.spv_control.proofs.branches.branch.Goals as goal

pub branch_is_kept-requires : goal.branch_is_kept-requires
branch_is_kept-requires c = branching c.args.site.now.inst c.requires

pub jump-requires : goal.jump-requires
jump-requires c =
    let label : id_operand c.args.site.now.inst 0 ≡ c.id_operand.result = ap (λ (i : Inst). id_operand i 0) (sym c.inst.ensures) ∙ sym c.id_operand.ensures in
    λ block function is stands. c.branch_is_kept.ensures block function (label ∙ is) stands

pub returns-clause-due : goal.returns-clause-due
returns-clause-due c v =
    let label : id_operand c.args.site.now.inst 0 ≡ c.id_operand.result = ap (λ (i : Inst). id_operand i 0) (sym c.inst.ensures) ∙ sym c.id_operand.ensures in
    due_as (due c.args.site.now) (jumps c.args.site.now c.id_operand.result) v c.jump.result (branch_due c.args.site.now c.requires ∙ ap (jumps c.args.site.now) label) (c.jump.ensures.due v)
