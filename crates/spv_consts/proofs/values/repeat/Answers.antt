use Rattle.std.proofs.Common.{◌≡◌, ◌∙◌, ◌+◌, ◌-◌, ◌≤◌, ◌++◌, length, drop, ap, arith}
use Rattle.spv_consts.specs.Copies.{copies}
use Rattle.spv_consts.proofs.ValueLemmas.{repeat_start, rows_inside, rows_more}
use Rattle.spv_consts.proofs.values.repeat.Goals as goal

pub loop-done-init : goal.loop-done-init
loop-done-init c = record { there = repeat_start c.args.start c.args.cells.now.items; few = omega arith }

pub append_rows-requires : goal.append_rows-requires
append_rows-requires c =
    let row : c.len.result - c.args.start ≡ length c.args.cells.now.items - c.args.start = omega (arith, c.len.ensures) in
    let few : c.min-count.result ≤ c.loop-done.done + 1 = omega (arith, c.min-count.ensures) in
    rows_inside c.loop-done.done c.min-count.result c.args.start (c.len.result - c.args.start) c.args.cells.now.items c.loop-done.cells.items c.requires row c.loop-done.invariant.there few

pub loop-done-preserved : goal.loop-done-preserved
loop-done-preserved c =
    let row : c.len.result - c.args.start ≡ length c.args.cells.now.items - c.args.start = omega (arith, c.len.ensures) in
    let few : c.min-count.result ≤ c.loop-done.done + 1 = omega (arith, c.min-count.ensures) in
    record {
      there = rows_more c.loop-done.done c.min-count.result c.args.start (c.len.result - c.args.start) c.args.cells.now.items c.loop-done.cells.items c.append_rows.new.cells.items c.requires row c.loop-done.invariant.there few c.in_ok-append_rows.ensures;
      few = omega (arith, c.min-count.ensures, c.loop-done.invariant.few);
    }

pub returns : goal.returns
returns c =
    let all : c.loop-done.done ≡ c.args.times = omega (arith, c.loop-done.invariant.few, c.loop-done-test.false) in
    c.loop-done.invariant.there ∙ ap (λ n. c.args.cells.now.items ++ copies n (drop c.args.start c.args.cells.now.items)) all
