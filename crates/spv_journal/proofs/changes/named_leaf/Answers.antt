use Rattle.std.proofs.Common.{◌≡◌, ℕ, subst, sym}
use Rattle.spv_mem.specs.Memory.{Held as Memory}
use Rattle.spv_mem.specs.Singles.{NamesRow}
use Rattle.spv_journal.proofs.changes.named_leaf.Goals as goal

pub returns-clause-names : goal.returns-clause-names
returns-clause-names c =
    let p = c.args.pointer.now in
    let names = subst (λ (x : Memory). NamesRow x c.args.i p c.in-Some.place.start c.in-Some.place.len) c.memory.ensures c.in-Some.ensures in
    let leaf : c.in-Ok.leaf ≡ c.in-Some.place.start = let h = c.in-Ok.ensures in h.1 in
    subst (λ (n : ℕ). NamesRow c.args.whole.now.memory c.args.i p n 1) (sym leaf) (subst (λ (k : ℕ). NamesRow c.args.whole.now.memory c.args.i p c.in-Some.place.start k) c.if-place-eq1.true names)
