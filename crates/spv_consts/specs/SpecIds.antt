-- Where a decoration SpecId stands on what takes none (SPIR-V 1.6 section 3.20): on a member, or on anything but
-- OpSpecConstantTrue, OpSpecConstantFalse and OpSpecConstant. It stands at the later one of the decoration and of what it
-- decorates. A decoration of an id that nothing defines is ignored.
use Rattle.std.specs.Prelude.{ℕ, ◌==◌, ◌&&◌, ◌||◌, max, if◌then◌else◌, Bool, List, [], ◌∷◌, Option, Some, None}
use Rattle.std.specs.Option.{option_and_then}
use Rattle.spv_base.specs.declared.instructions.Inst.{Inst}
use Rattle.spv_base.specs.Lowest.{lower}
use Rattle.spv_base.specs.Options.{holds}
use Rattle.spv_index.specs.Definitions.{defining}
use Rattle.spv_index.specs.Operands.{id_operand, literal_operand}
use Rattle.spv_consts.specs.Overrides.{is_specializable}

-- a decoration SpecId, 1, of an id by OpDecorate 71 or of a member by OpMemberDecorate 72
abbrev pub is_spec_id : Inst → Bool
is_spec_id d = (d.op == 71 && holds 1 (literal_operand d 1)) || (d.op == 72 && holds 1 (literal_operand d 2))

-- it stands on an instruction that takes one
abbrev pub takes_spec_id : Inst → Inst → Bool
takes_spec_id d i = d.op == 71 && is_specializable i.op

abbrev pub wrong_on : Inst → Inst → Option ℕ
wrong_on d i = if takes_spec_id d i then None else Some (max d.word i.word)

-- the word where a decoration is a SpecId on what takes none
abbrev pub wrong_spec_id : List Inst → Inst → Option ℕ
wrong_spec_id all d = if is_spec_id d then option_and_then (wrong_on d) (option_and_then (defining all) (id_operand d 0)) else None

-- the lowest of these words
unfoldable pub lowest_wrong : List Inst → List Inst → Option ℕ
lowest_wrong all [] = None
lowest_wrong all (d ∷ ds) = lower (wrong_spec_id all d) (lowest_wrong all ds)
