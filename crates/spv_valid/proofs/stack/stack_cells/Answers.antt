use Rattle.std.proofs.Common.{◌≡◌, ◌<◌, ◌∙◌, length, sym, arith}
use Rattle.spv_valid.proofs.StackLemmas.{read_below, stack_cells-some}
use Rattle.spv_valid.proofs.stack.stack_cells.Goals as goal

pub index-requires : goal.index-requires
index-requires c =
    let lt : c.in-Some.number < length c.args.calls.now.functions = read_below c.number.result c.in-Some.number _ c.in-Some.is c.number.ensures.within in
    let all : c.in_ok-heaviest.heaviest.len ≡ length c.in_ok-heaviest.heaviest.items = c.in_ok-heaviest.heaviest.ok.0 in
    let as_many = c.in_ok-heaviest.ensures.len in
    omega arith

pub returns-in-Some : goal.returns-in-Some
returns-in-Some c =
    let read = sym c.number.ensures.number ∙ c.in-Some.is in
    stack_cells-some c.args.types.now c.args.index.now.insts c.args.function c.in-Some.number c.index.result.now c.in_ok-heaviest.heaviest.items c.args.calls.now
    c.requires read (read_below c.number.result c.in-Some.number _ c.in-Some.is c.number.ensures.within) c.in_ok-heaviest.ensures.len
    (rw c.stands.ensures at c.in_ok-heaviest.ensures.heaviest) c.index.ensures
