use Rattle.std.proofs.Common.{◌<◌, ℕ, length, IfSome, arith, rules}
use Rattle.spv_base.specs.Entries.{reads}
use Rattle.spv_index.specs.Positions.{stands_of}
use Rattle.spv_cfg.proofs.ChainLemmas.{calls_within, numbered-small}
use Rattle.spv_cfg.proofs.calls.Calls.of.Goals as goal

pub invariant_of-result : goal.invariant_of-result
invariant_of-result c =
    let n : ℕ = length c.in_ok-functions.functions.items in
    let small : (id : ℕ) → IfSome (reads id c.in_ok-numbers.numbers) (λ k. k < n)
    = rw (c.in_ok-numbers.ensures, c.as_slice.ensures.value) (λ id. numbered-small 0 n c.in_ok-functions.functions.items id (omega arith)) in
    (search rules, rw (c.in_ok-list.ensures, c.stands.ensures) (calls_within c.in_ok-numbers.numbers n small (stands_of c.args.index.now.insts)))
