use Rattle.std.proofs.Common.{◌≡◌, ◌∙◌, ℕ, List, Vec, ap}
use Rattle.std.proofs.lemmas.Result.{IfOk-weaker}
use Rattle.std.specs.declared.alloc.Global.{Global}
use Rattle.spv_state.specs.Events.{captures_before, under}
use Rattle.spv_state.specs.declared.captures.Capture.{Capture}
use Rattle.spv_state.proofs.EventLemmas.{captures_kept}
use Rattle.spv_state.proofs.captures.captures_of.Goals as goal

pub returns : goal.returns
returns c =
    let a = c.args.accepted.now in
    let es : List (ℕ × Vec Capture Global) = c.in_ok-entries_of.field-0.items in
    IfOk-weaker c.of.result (λ keyed. keyed ≡ es) (λ keyed. (pc : ℕ) → under keyed pc ≡ captures_before a pc)
    (λ keyed is pc. ap (λ (xs : List (ℕ × Vec Capture Global)). under xs pc) is ∙ captures_kept a c.index.result.now.insts es c.index.ensures.insts c.in_ok-entries_of.ensures pc) c.of.ensures
