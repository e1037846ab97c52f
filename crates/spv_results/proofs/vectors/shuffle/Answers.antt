use Rattle.std.proofs.Common.{◌≡◌, ◌∙◌, ◌-◌, ◌≤◌, List, ap, drop, length, subst, sym, take}
use Rattle.spv_base.specs.declared.instructions.Operand.{Operand}
use Rattle.spv_effects.specs.Vectors.{shuffle_value}
use Rattle.spv_results.specs.Operands.{IsResult}
use Rattle.spv_results.specs.Results.{numbers}
use Rattle.spv_results.proofs.OperandTypes.{rest_is}
use Rattle.spv_results.proofs.VectorCalls.{shuffles}
use Rattle.spv_results.proofs.vectors.shuffle.Goals as goal

pub shuffle_by-requires-clause-few : goal.shuffle_by-requires-clause-few
shuffle_by-requires-clause-few c =
    let all = shuffles c.args.accepted.now c.args.inst.now c.args.first.now c.args.second.now c.make_room.ensures.valid c.requires.rule c.requires.first c.requires.second in
    let rest : take (length c.as_slice.result.now - 2) (drop 2 c.as_slice.result.now) ≡ drop 2 c.args.inst.now.operands = rest_is c.as_slice.result.now 2 ∙ ap (λ (os : List Operand). drop 2 os) c.as_slice.ensures in
    subst (λ (os : List Operand). length os ≤ 4) (sym rest) all.few

pub shuffle_by-requires-clause-vector : goal.shuffle_by-requires-clause-vector
shuffle_by-requires-clause-vector c =
    (shuffles c.args.accepted.now c.args.inst.now c.args.first.now c.args.second.now c.make_room.ensures.valid c.requires.rule c.requires.first c.requires.second).vector

pub shuffle_by-requires-clause-room : goal.shuffle_by-requires-clause-room
shuffle_by-requires-clause-room c =
    let all = shuffles c.args.accepted.now c.args.inst.now c.args.first.now c.args.second.now c.make_room.ensures.valid c.requires.rule c.requires.first c.requires.second in
    let rest : take (length c.as_slice.result.now - 2) (drop 2 c.as_slice.result.now) ≡ drop 2 c.args.inst.now.operands = rest_is c.as_slice.result.now 2 ∙ ap (λ (os : List Operand). drop 2 os) c.as_slice.ensures in
    c.in_ok-make_room.ensures.room ∙ all.room ∙ ap (λ (os : List Operand). length os) (sym rest)

pub returns-clause-shape : goal.returns-clause-shape
returns-clause-shape c =
    let all = shuffles c.args.accepted.now c.args.inst.now c.args.first.now c.args.second.now c.make_room.ensures.valid c.requires.rule c.requires.first c.requires.second in
    let rest : take (length c.as_slice.result.now - 2) (drop 2 c.as_slice.result.now) ≡ drop 2 c.args.inst.now.operands = rest_is c.as_slice.result.now 2 ∙ ap (λ (os : List Operand). drop 2 os) c.as_slice.ensures in
    subst (IsResult c.args.accepted.now c.args.inst.now) (sym (c.shuffle_by.ensures ∙ ap (λ (os : List Operand). shuffle_value c.args.first.now c.args.second.now (numbers os)) rest)) all.shape
