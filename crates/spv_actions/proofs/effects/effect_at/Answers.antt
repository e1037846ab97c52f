use Rattle.std.proofs.Common.{IfOk, subst, sym}
use Rattle.spv_state.specs.declared.actions.Action.TheVariants.{Unreachable, Return}
use Rattle.spv_sites.specs.Planned.{IsDue, IsTaken, PlannedFits}
use Rattle.spv_sites.specs.Sites.{Site, due}
use Rattle.spv_sites.proofs.Exports.{due_by}
use Rattle.spv_actions.proofs.effects.effect_at.Goals as goal

pub returns-in-Return-clause-due : goal.returns-in-Return-clause-due
returns-in-Return-clause-due c =
    due_by (record { program = c.args.m.now; state = c.args.w.now; inv = c.args.inv; frame = c.args.frame.now; inst = c.args.inst.now }) Return (sym c.in-Return.ensures)

pub returns-in-Unreachable-clause-due : goal.returns-in-Unreachable-clause-due
returns-in-Unreachable-clause-due c =
    due_by (record { program = c.args.m.now; state = c.args.w.now; inv = c.args.inv; frame = c.args.frame.now; inst = c.args.inst.now }) Unreachable (sym c.in-Unreachable.ensures)

pub returns-in-Chain-clause-due : goal.returns-in-Chain-clause-due
returns-in-Chain-clause-due c = subst (λ (x : Site). IsDue (due x) c.args.row.now c.chain.result) c.of-site.ensures (c.chain.ensures.due c.args.row.now)

pub returns-in-Chain-clause-fits : goal.returns-in-Chain-clause-fits
returns-in-Chain-clause-fits c =
    subst (λ (x : Site). PlannedFits x.program x.state x.inv x.inst c.args.row.now c.chain.result) c.of-site.ensures (c.chain.ensures.fits c.args.row.now)

pub returns-in-Chain-clause-taken : goal.returns-in-Chain-clause-taken
returns-in-Chain-clause-taken c =
    subst (λ (x : Site). IfOk c.chain.result (λ e. IsTaken x.state x.inv e c.args.row.now)) c.of-site.ensures (c.chain.ensures.taken c.args.row.now)

pub returns-in-PtrChain-clause-due : goal.returns-in-PtrChain-clause-due
returns-in-PtrChain-clause-due c = subst (λ (x : Site). IsDue (due x) c.args.row.now c.ptr_chain.result) c.of-site.ensures (c.ptr_chain.ensures.due c.args.row.now)

pub returns-in-PtrChain-clause-fits : goal.returns-in-PtrChain-clause-fits
returns-in-PtrChain-clause-fits c =
    subst (λ (x : Site). PlannedFits x.program x.state x.inv x.inst c.args.row.now c.ptr_chain.result) c.of-site.ensures (c.ptr_chain.ensures.fits c.args.row.now)

pub returns-in-PtrChain-clause-taken : goal.returns-in-PtrChain-clause-taken
returns-in-PtrChain-clause-taken c =
    subst (λ (x : Site). IfOk c.ptr_chain.result (λ e. IsTaken x.state x.inv e c.args.row.now)) c.of-site.ensures (c.ptr_chain.ensures.taken c.args.row.now)

pub returns-in-Branch-clause-due : goal.returns-in-Branch-clause-due
returns-in-Branch-clause-due c = subst (λ (x : Site). IsDue (due x) c.args.row.now c.branch-site.result) c.of-site.ensures (c.branch-site.ensures.due c.args.row.now)

pub returns-in-Branch-clause-fits : goal.returns-in-Branch-clause-fits
returns-in-Branch-clause-fits c =
    subst (λ (x : Site). PlannedFits x.program x.state x.inv x.inst c.args.row.now c.branch-site.result) c.of-site.ensures (c.branch-site.ensures.fits c.args.row.now)

pub returns-in-Branch-clause-taken : goal.returns-in-Branch-clause-taken
returns-in-Branch-clause-taken c =
    subst (λ (x : Site). IfOk c.branch-site.result (λ e. IsTaken x.state x.inv e c.args.row.now)) c.of-site.ensures (c.branch-site.ensures.taken c.args.row.now)

pub returns-in-BranchConditional-clause-due : goal.returns-in-BranchConditional-clause-due
returns-in-BranchConditional-clause-due c = subst (λ (x : Site). IsDue (due x) c.args.row.now c.branch_conditional.result) c.of-site.ensures (c.branch_conditional.ensures.due c.args.row.now)

pub returns-in-BranchConditional-clause-fits : goal.returns-in-BranchConditional-clause-fits
returns-in-BranchConditional-clause-fits c =
    subst (λ (x : Site). PlannedFits x.program x.state x.inv x.inst c.args.row.now c.branch_conditional.result) c.of-site.ensures (c.branch_conditional.ensures.fits c.args.row.now)

pub returns-in-BranchConditional-clause-taken : goal.returns-in-BranchConditional-clause-taken
returns-in-BranchConditional-clause-taken c =
    subst (λ (x : Site). IfOk c.branch_conditional.result (λ e. IsTaken x.state x.inv e c.args.row.now)) c.of-site.ensures (c.branch_conditional.ensures.taken c.args.row.now)

pub returns-in-Switch-clause-due : goal.returns-in-Switch-clause-due
returns-in-Switch-clause-due c = subst (λ (x : Site). IsDue (due x) c.args.row.now c.switch.result) c.of-site.ensures (c.switch.ensures.due c.args.row.now)

pub returns-in-Switch-clause-fits : goal.returns-in-Switch-clause-fits
returns-in-Switch-clause-fits c =
    subst (λ (x : Site). PlannedFits x.program x.state x.inv x.inst c.args.row.now c.switch.result) c.of-site.ensures (c.switch.ensures.fits c.args.row.now)

pub returns-in-Switch-clause-taken : goal.returns-in-Switch-clause-taken
returns-in-Switch-clause-taken c =
    subst (λ (x : Site). IfOk c.switch.result (λ e. IsTaken x.state x.inv e c.args.row.now)) c.of-site.ensures (c.switch.ensures.taken c.args.row.now)

pub returns-in-Call-clause-due : goal.returns-in-Call-clause-due
returns-in-Call-clause-due c = subst (λ (x : Site). IsDue (due x) c.args.row.now c.call.result) c.of-site.ensures (c.call.ensures.due c.args.row.now)

pub returns-in-Call-clause-fits : goal.returns-in-Call-clause-fits
returns-in-Call-clause-fits c =
    subst (λ (x : Site). PlannedFits x.program x.state x.inv x.inst c.args.row.now c.call.result) c.of-site.ensures (c.call.ensures.fits c.args.row.now)

pub returns-in-Call-clause-taken : goal.returns-in-Call-clause-taken
returns-in-Call-clause-taken c =
    subst (λ (x : Site). IfOk c.call.result (λ e. IsTaken x.state x.inv e c.args.row.now)) c.of-site.ensures (c.call.ensures.taken c.args.row.now)
