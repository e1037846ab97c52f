use Rattle.std.proofs.Common.{◌≡◌, ◌∙◌, ℕ, List, Some, length, ap, subst, sym}
use Rattle.spv_base.specs.Parts.{with_part}
use Rattle.spv_base.specs.declared.values.Pointer.{Pointer}
use Rattle.spv_base.specs.declared.values.Value.{Value}
use Rattle.spv_types.specs.Rows.{leaves}
use Rattle.spv_mem.specs.Memory.{load_of}
use Rattle.spv_mem.specs.Singles.{NamesRow}
use Rattle.spv_mem.proofs.Exports.{whole_row}
use Rattle.spv_undo.proofs.Exports.{may_at, there_at, undoes_at}
use Rattle.spv_journal.proofs.changes.exchange_leaf.Goals as goal

pub exchange_single-requires-clause-there : goal.exchange_single-requires-clause-there
exchange_single-requires-clause-there c =
    let p = c.args.pointer.now in
    let q : Pointer = record { root = p.root; path = c.shadow-path.result.value } in
    let place : q ≡ p = ap (λ (w : List ℕ). record { root = p.root; path = w }) c.shadow-path.ensures in
    there_at c.args.whole.now.memory c.args.i p q place c.requires.there

pub exchange_single-requires-clause-names : goal.exchange_single-requires-clause-names
exchange_single-requires-clause-names c =
    let p = c.args.pointer.now in
    let q : Pointer = record { root = p.root; path = c.shadow-path.result.value } in
    let place : q ≡ p = ap (λ (w : List ℕ). record { root = p.root; path = w }) c.shadow-path.ensures in
    subst (λ (y : Pointer). ∥ NamesRow c.args.whole.now.memory c.args.i y c.args.leaf 1 ∥₁) (sym place) c.requires.names

pub exchange_single-requires-clause-may : goal.exchange_single-requires-clause-may
exchange_single-requires-clause-may c =
    let p = c.args.pointer.now in
    let q : Pointer = record { root = p.root; path = c.shadow-path.result.value } in
    let place : q ≡ p = ap (λ (w : List ℕ). record { root = p.root; path = w }) c.shadow-path.ensures in
    may_at c.args.whole.now.memory c.args.i p q c.args.row.now c.of_part-single.result place (c.of_part-single.ensures ∙ c.as_part.ensures) c.requires.may

pub exchange_single-requires-2 : goal.exchange_single-requires-2
exchange_single-requires-2 c = whole_row c.args.row.now c.of-all.result.value 1 c.of-all.ensures (sym c.requires.one)

pub returns-clause-after : goal.returns-clause-after
returns-clause-after c =
    let p = c.args.pointer.now in
    let q : Pointer = record { root = p.root; path = c.shadow-path.result.value } in
    let place : q ≡ p = ap (λ (w : List ℕ). record { root = p.root; path = w }) c.shadow-path.ensures in
    c.exchange_single.ensures.after ∙ undoes_at c.args.i p q c.args.row.now c.of_part-single.result c.args.whole.now place (c.of_part-single.ensures ∙ c.as_part.ensures)

pub returns-clause-handed : goal.returns-clause-handed
returns-clause-handed c =
    let p = c.args.pointer.now in
    let q : Pointer = record { root = p.root; path = c.shadow-path.result.value } in
    let place : q ≡ p = ap (λ (w : List ℕ). record { root = p.root; path = w }) c.shadow-path.ensures in
    let row = c.exchange_single-2.ensures.after ∙ ap (λ (w : List ℕ). with_part c.args.row.now w c.exchange_single.new.value) c.of-all.ensures in
    ap (λ (y : Pointer). load_of c.args.whole.now.memory c.args.i y) (sym place) ∙ c.exchange_single.ensures.handed ∙ ap (λ (v : Value). Some v) (sym row)

pub returns-clause-one : goal.returns-clause-one
returns-clause-one c =
    let row = c.exchange_single-2.ensures.after ∙ ap (λ (w : List ℕ). with_part c.args.row.now w c.exchange_single.new.value) c.of-all.ensures in
    ap (λ (v : Value). length (leaves v)) row ∙ ap length c.cell-cell.ensures
