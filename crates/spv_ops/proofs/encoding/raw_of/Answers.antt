use Rattle.std.proofs.Common.{◌≡◌, refl, subst, List}
use Rattle.std.specs.List.{AllByRecursion}
use Rattle.spv_base.specs.declared.instructions.Operand.{Operand}
use Rattle.spv_base.specs.declared.instructions.RawInst.{RawInst}
use Rattle.spv_ops.specs.Encoding.{raw_of, HasBytes}
use Rattle.spv_ops.proofs.encoding.raw_of.Goals as goal

-- what was written are the words of the instruction
written : (c : goal.In_ok-push_operands) → ◌≡◌ {A = RawInst} (record { word = c.args.i.now.word; op = c.args.i.now.op; rest = c.push_operands.new.words }) (raw_of c.args.i.now)
unfolding raw_of
written c = rw (c.in_ok-push_operands.ensures.0, c.in_ok-push_head.ensures, c.new-rest.ensures, c.head_of.ensures, c.as_slice.ensures) refl

pub returns : goal.returns
returns c =
    let bytes : AllByRecursion HasBytes c.args.i.now.operands = subst (λ (operands : List Operand). AllByRecursion HasBytes operands) c.as_slice.ensures c.in_ok-push_operands.ensures.1 in
    (written c, bytes)
