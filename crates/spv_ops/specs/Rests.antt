-- The words after the parts of a grammar, up to the end of the instruction (SPIR-V 1.6 section 3: Execution Mode, Decoration, Loop Control).
use Rattle.std.specs.Prelude.{ℕ, ◌/◌, ◌%◌, ◌==◌, nat_lt, count_ones, Bool, true, false, ◌&&◌, ◌||◌, List, [], ◌∷◌, length, map, if◌then◌else◌}
use Rattle.spv_base.specs.declared.instructions.Operand.{Operand}
use Rattle.spv_base.specs.declared.instructions.Operand.TheVariants.{Id, Lit}
use Rattle.spv_ops.specs.declared.grammar.Rest.{Rest}
use Rattle.spv_ops.specs.declared.grammar.Rest.TheVariants as rest

-- SpecId, ArrayStride, BuiltIn, Binding, DescriptorSet and Offset have one literal
abbrev pub has_one_literal : ℕ → Bool
has_one_literal decoration = decoration == 1 || decoration == 6 || decoration == 11 || decoration == 33 || decoration == 34 || decoration == 35

-- so many literals may stand after a decoration: none after Block 2, and any number after a decoration that has no meaning here
abbrev pub is_decorated_by : ℕ → ℕ → Bool
is_decorated_by decoration count =
    if decoration == 2 then count == 0 else if has_one_literal decoration then count == 1 else true

-- These words may stand there. The bits 8, 16, 32, 64, 128 and 256 of a loop control have one literal each, and higher
-- bits have no meaning; LocalSize 17 has three literals, LocalSizeId 38 three ids, and any number stands after another mode.
abbrev pub is_rest : Rest → List ℕ → Bool
is_rest rest.Nothing words = length words == 0
is_rest rest.Ids words = true
is_rest rest.Literals words = true
is_rest rest.IdPairs words = length words % 2 == 0
is_rest rest.LoopControl [] = false
is_rest rest.LoopControl (mask ∷ literals) = nat_lt mask 512 && length literals == count_ones (mask / 8)
is_rest rest.Decoration [] = false
is_rest rest.Decoration (decoration ∷ literals) = is_decorated_by decoration (length literals)
is_rest rest.ExecutionMode [] = false
is_rest rest.ExecutionMode (mode ∷ literals) = if mode == 17 then length literals == 3 else true
is_rest rest.ExecutionModeIds [] = false
is_rest rest.ExecutionModeIds (mode ∷ ids) = if mode == 38 then length ids == 3 else true

-- as operands
abbrev pub rest_operands : Rest → List ℕ → List Operand
rest_operands rest.Nothing words = map Lit words
rest_operands rest.Ids words = map Id words
rest_operands rest.Literals words = map Lit words
rest_operands rest.IdPairs words = map Id words
rest_operands rest.LoopControl words = map Lit words
rest_operands rest.Decoration words = map Lit words
rest_operands rest.ExecutionMode words = map Lit words
rest_operands rest.ExecutionModeIds [] = []
rest_operands rest.ExecutionModeIds (mode ∷ ids) = Lit mode ∷ map Id ids
