use Rattle.std.proofs.Common.{◌≡◌, ◌∙◌, List, ℕ, ap, refl, subst, sym}
use Rattle.spv_base.specs.declared.values.Pointer.{Pointer}
use Rattle.spv_mem.specs.Memory.{load_of}
use Rattle.spv_mem.specs.Singles.{NamesRow}
use Rattle.spv_undo.proofs.CellLemmas.{whole}
use Rattle.spv_undo.proofs.StoreLemmas.{may_at, there_at, undoes_at}
use Rattle.spv_undo.proofs.undoing.exchange_variable.Goals as goal

pub exchange_single-requires-clause-there : goal.exchange_single-requires-clause-there
exchange_single-requires-clause-there c =
    let p = whole c.args.root in
    let q : Pointer = record { root = c.args.root; path = c.no_path-path.result.value } in
    let place : q ≡ p = ap (λ (w : List ℕ). record { root = c.args.root; path = w }) c.no_path-path.ensures in
    there_at c.args.whole.now.memory c.args.inv p q place c.requires.0

pub exchange_single-requires-clause-names : goal.exchange_single-requires-clause-names
exchange_single-requires-clause-names c =
    let p = whole c.args.root in
    let q : Pointer = record { root = c.args.root; path = c.no_path-path.result.value } in
    let place : q ≡ p = ap (λ (w : List ℕ). record { root = c.args.root; path = w }) c.no_path-path.ensures in
    subst (λ (y : Pointer). ∥ NamesRow c.args.whole.now.memory c.args.inv y 0 1 ∥₁) (sym place) c.requires.1

pub exchange_single-requires-clause-may : goal.exchange_single-requires-clause-may
exchange_single-requires-clause-may c =
    let p = whole c.args.root in
    let q : Pointer = record { root = c.args.root; path = c.no_path-path.result.value } in
    let place : q ≡ p = ap (λ (w : List ℕ). record { root = c.args.root; path = w }) c.no_path-path.ensures in
    may_at c.args.whole.now.memory c.args.inv p q c.args.value.now c.args.value.now place refl c.requires.2

pub returns-clause-after : goal.returns-clause-after
returns-clause-after c =
    let p = whole c.args.root in
    let q : Pointer = record { root = c.args.root; path = c.no_path-path.result.value } in
    let place : q ≡ p = ap (λ (w : List ℕ). record { root = c.args.root; path = w }) c.no_path-path.ensures in
    c.exchange_single.ensures.after ∙ undoes_at c.args.inv p q c.args.value.now c.args.value.now c.args.whole.now place refl

pub returns-clause-handed : goal.returns-clause-handed
returns-clause-handed c =
    let p = whole c.args.root in
    let q : Pointer = record { root = c.args.root; path = c.no_path-path.result.value } in
    let place : q ≡ p = ap (λ (w : List ℕ). record { root = c.args.root; path = w }) c.no_path-path.ensures in
    ap (λ (y : Pointer). load_of c.args.whole.now.memory c.args.inv y) (sym place) ∙ c.exchange_single.ensures.handed
