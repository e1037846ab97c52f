use Rattle.std.proofs.Common.{◌≡◌, ◌∙◌, ◌-◌, ◌^◌, ◌≤◌, ap, arith}
use Rattle.std.proofs.lemmas.Nat.Bits.{ones_shr}
use Rattle.spv_mem.proofs.chains.greatest.Goals as goal

pub returns-else-width-eq0 : goal.returns-else-width-eq0
returns-else-width-eq0 c =
    let within : c.args.width ≤ 64 = c.requires in
    let bound : 64 - c.args.width ≤ 64 = omega arith in
    let back : 64 - (64 - c.args.width) ≡ c.args.width = omega arith in
    ones_shr 64 (64 - c.args.width) bound ∙ ap (λ k. 2 ^ k - 1) back
