use Rattle.std.specs.Option.{option_copied}
use Rattle.spv_valid.proofs.AcceptedLemmas.{accepted_of}
use Rattle.spv_valid.proofs.acceptance.accept.Goals as goal

pub invariant_of-result : goal.invariant_of-result
invariant_of-result c = ∣ accepted_of c.in_ok-index.index (option_copied c.args.name) c.args.over.now c.in_ok-parts.parts c.is_decoded.ensures c.in_ok-parts.ensures ∣₁

pub returns-clause-valid : goal.returns-clause-valid
returns-clause-valid c =
    c.accepted_modules_are_valid.ensures _ (accepted_of c.in_ok-index.index (option_copied c.args.name) c.args.over.now c.in_ok-parts.parts c.is_decoded.ensures c.in_ok-parts.ensures)
