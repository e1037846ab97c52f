-- The rule of an opcode's operands and result, by the table that has the opcode.
use Rattle.std.proofs.Common.{◌≡◌, Some, subst}
use Rattle.spv_base.specs.declared.instructions.Inst.{Inst}
use Rattle.spv_typing.specs.declared.rules.Rule.{Rule}
use Rattle.spv_typing.specs.Laws.{IsTyped}
use Rattle.spv_typing.specs.Rules.{rule_of}
use Rattle.spv_valid.specs.Below.spv_bodies.specs.Context.{Known}
use Rattle.spv_valid.specs.Below.spv_bodies.specs.Lanes.{KeepsLanes, types_after}

-- an instruction that keeps its rule has the types that the rule of its opcode asks
pub typed_by : (k : Known) (i : Inst) (rule : Rule) → KeepsLanes k i → rule_of i.op ≡ Some rule → IsTyped k.types rule i.ty (types_after k i 0)
typed_by k i rule kept is =
    let found : rule_of i.op ≡ Some kept.0 = kept.1 in
    let same : kept.0 ≡ rule = cc in
    subst (λ (r : Rule). IsTyped k.types r i.ty (types_after k i 0)) same kept.2
