use Rattle.std.proofs.Common.{◌≡◌, ◌∙◌, ◌+◌, ◌-◌, ◌≤◌, List, ◌++◌, length, take, drop, sym, ap, arith}
use Rattle.std.proofs.lemmas.List.{length-drop, length-take, take-append-drop}
use Rattle.spv_consts.specs.declared.table.Entry.{Entry}
use Rattle.spv_consts.specs.Table.{rows_of}
use Rattle.spv_consts.proofs.TableLemmas.{held, more_cells, pushed, pushed_rows, row_more}
use Rattle.spv_consts.proofs.table.with_entry.Goals as goal

pub invariant_of-result : goal.invariant_of-result
invariant_of-result c =
    let all : c.args.cells.items ≡ take c.args.start c.args.cells.items ++ drop c.args.start c.args.cells.items = sym (take-append-drop c.args.start c.args.cells.items) in
    let start : c.args.start ≡ length (take c.args.start c.args.cells.items) = omega (arith, length-take c.args.start c.args.cells.items, c.requires.inside) in
    let long : c.len.result - c.args.start ≡ length (drop c.args.start c.args.cells.items) = omega (arith, length-drop c.args.start c.args.cells.items, c.len.ensures) in
    let old = held (take c.args.start c.args.cells.items) c.args.entries.items c.args.places c.requires.rows in
    let rows = more_cells (take c.args.start c.args.cells.items) (drop c.args.start c.args.cells.items) c.args.cells.items c.args.entries.items c.args.places old all in
    let number : c.len-number.result ≡ length c.args.entries.items = omega (arith, c.len-number.ensures) in
    let inside : c.args.start + (c.len.result - c.args.start) ≤ length c.args.cells.items = omega (arith, c.len.ensures, c.requires.inside) in
    let in_row = row_more (take c.args.start c.args.cells.items) (drop c.args.start c.args.cells.items) c.args.cells.items c.args.entries.items c.args.places
    (record { id = c.args.id; ty = c.args.ty; start = c.args.start; len = c.len.result - c.args.start }) c.requires.rows all start long in
    rw c.in_ok-push.ensures.items (record {
      in_row = in_row;
      places_are = (pushed c.args.cells.items c.args.entries.items c.args.places _ _ c.len-number.result rows inside number c.in_ok-put.ensures.ok).places_are;
    })

pub returns : goal.returns
returns c =
    let all : c.args.cells.items ≡ take c.args.start c.args.cells.items ++ drop c.args.start c.args.cells.items = sym (take-append-drop c.args.start c.args.cells.items) in
    let start : c.args.start ≡ length (take c.args.start c.args.cells.items) = omega (arith, length-take c.args.start c.args.cells.items, c.requires.inside) in
    let long : c.len.result - c.args.start ≡ length (drop c.args.start c.args.cells.items) = omega (arith, length-drop c.args.start c.args.cells.items, c.len.ensures) in
    let old = held (take c.args.start c.args.cells.items) c.args.entries.items c.args.places c.requires.rows in
    ap (λ (es : List Entry). rows_of c.args.cells.items es) c.in_ok-push.ensures.items
    ∙ pushed_rows (take c.args.start c.args.cells.items) (drop c.args.start c.args.cells.items) c.args.cells.items c.args.entries.items c.args.places c.args.id c.args.ty c.args.start (c.len.result - c.args.start) old all start long
