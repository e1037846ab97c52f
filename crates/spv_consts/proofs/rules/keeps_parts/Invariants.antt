use Rattle.std.proofs.Common.{◌≡◌, drop}
use Rattle.spv_types.specs.Types.{form_of}
use Rattle.spv_consts.specs.Rules.{keeps_parts}
use Rattle.spv_consts.proofs.rules.keeps_parts.Given as goal

-- the constituents so far keep the rule
abbrev pub invariant-loop-part : goal.invariant-loop-part
invariant-loop-part l = keeps_parts l.context l.walk l.inst.word (form_of l.walk.types l.inst.ty) 0 l.inst.operands ≡ keeps_parts l.context l.walk l.inst.word (form_of l.walk.types l.inst.ty) l.part (drop l.part l.inst.operands)
