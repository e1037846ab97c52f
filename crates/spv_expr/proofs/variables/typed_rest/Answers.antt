use Rattle.std.proofs.Common.{◌≡◌, ◌-◌, List, length, drop, take, sym, subst, arith, length-drop}
use Rattle.std.proofs.lemmas.List.{take_all}
use Rattle.spv_base.specs.Cell.{Cell}
use Rattle.spv_expr.specs.Rests.{IsRest}
use Rattle.spv_expr.proofs.TypedLemmas.{rest_behind, typed_row}
use Rattle.spv_expr.proofs.variables.typed_rest.Goals as goal

pub front-front-requires : goal.front-front-requires
front-front-requires c =
    let view = c.args.view.now in
    typed_row view.memory.now view.inv c.args.root c.args.sizes.now c.id.result c.args.cells.now c.requires.typed c.id.ensures c.keeps_types.ensures c.requires.cells

pub returns : goal.returns
returns c =
    let cells = c.args.cells.now in
    let front = c.front-front.result in
    let behind : List Cell = drop front.leaves cells in
    let all : take (length cells - front.leaves) behind ≡ behind = take_all (length cells - front.leaves) behind (omega (arith, length-drop front.leaves cells)) in
    subst (λ (row : List Cell). IsRest cells c.args.bit row (c.args.bit - front.bits)) (sym all) (rest_behind cells c.args.bit front c.front-front.ensures.front c.front-front.ensures.bits)
