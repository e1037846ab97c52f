use Rattle.std.proofs.Common.{map, subst}
use Rattle.std.proofs.lemmas.List.Elements.{recursion_from_All}
use Rattle.spv_valid.specs.Acceptance.{Accepted, IsAccepted}
use Rattle.spv_valid.specs.Validity.{IsValid}
use Rattle.spv_state.proofs.Exports.{known}
use Rattle.spv_sites.specs.Phis.{block_at}
use Rattle.spv_sites.specs.Planned.{IsPlain, phi_value}
use Rattle.spv_sites.specs.declared.effects.PhiValue.{PhiValue}
use Rattle.spv_control.proofs.PhiLemmas.{block_fits, block_rooted}
use Rattle.spv_control.proofs.TargetLemmas.{block_target}
use Rattle.spv_control.proofs.branches.jump.Goals as goal

pub phis_are_kept-requires : goal.phis_are_kept-requires
phis_are_kept-requires c = block_target c.args.site.now c.is_reached.ensures c.args.label c.in-Some.block c.requires c.in-Some.is

pub returns-clause-fits : goal.returns-clause-fits
returns-clause-fits c v =
    let x = c.args.site.now in
    let a = x.program.accepted in
    let accepts = subst (λ (a : Accepted). ∥ IsAccepted a ∥₁) c.accepted.ensures c.insts-insts.ensures.accepted in
    let valid = subst (λ (a : Accepted). ∥ IsValid a ∥₁) c.accepted.ensures c.insts-insts.ensures.valid in
    let from = block_at a.insts x.inst.word in
    let rs = map phi_value c.in_ok-phis.phis.items in
    record {
      store = tt;
      result = tt;
      control = record {
        entered = λ function stands. c.requires c.in-Some.block function c.in-Some.is stands;
        values = block_fits x accepts valid c.is_reached.ensures from c.in-Some.block rs c.phis_are_kept.ensures c.in_ok-phis.ensures.value c.operands_have_shapes.ensures.values
            c.operands_have_shapes.ensures.pointers (known a accepts valid);
      };
      rooted = tt;
      passed = block_rooted x accepts valid c.is_reached.ensures from c.in-Some.block rs c.phis_are_kept.ensures c.in_ok-phis.ensures.value;
    }

pub returns-clause-taken : goal.returns-clause-taken
returns-clause-taken c v = (tt, recursion_from_All (λ (p : PhiValue). IsPlain p.value) c.in_ok-phis.phis.items c.in_ok-phis.ensures.plain)
