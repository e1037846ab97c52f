use Rattle.std.proofs.Common.{◌≡◌, ◌++◌, drop}
use Rattle.std.specs.List.{flat_map}
use Rattle.spv_session.specs.Texts.{behind_comma, numbered_text}
use Rattle.spv_session.proofs.causes.push_numbered.Given as goal

abbrev pub invariant-loop-number : goal.invariant-loop-number
invariant-loop-number l = l.text.items ++ flat_map (λ k. behind_comma (numbered_text l.word k)) (drop l.number-index l.numbers)
    ≡ l.fn.text.items ++ flat_map (λ k. behind_comma (numbered_text l.word k)) l.numbers
