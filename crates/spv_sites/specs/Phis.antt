-- The phis of a block, and the values that they take where control comes from another block (SPIR-V 1.6 section 3.42.17, OpPhi).
use Rattle.std.specs.Prelude.{ℕ, suc, ◌==◌, Bool, true, false, List, [], ◌∷◌, drop, filter, find, Option, Some}
use Rattle.std.specs.Option.{option_and_then, option_map, option_map_or}
use Rattle.spv_base.specs.declared.instructions.Inst.{Inst}
use Rattle.spv_base.specs.declared.instructions.Operand.{Operand}
use Rattle.spv_base.specs.declared.values.Value.{Value}
use Rattle.spv_base.specs.Options.{holds}
use Rattle.spv_index.specs.declared.classes.Class.{Class}
use Rattle.spv_index.specs.declared.classes.Class.TheVariants.{Line, Phi}
use Rattle.spv_index.specs.Classes.{class_of, sets_of}
use Rattle.spv_index.specs.Definitions.{number_of, stands_at}
use Rattle.spv_index.specs.Operands.{id_in}
use Rattle.spv_index.specs.Positions.{Stand, stands_of}
use Rattle.spv_state.specs.Below.spv_plans.specs.Members.{leading}
use Rattle.spv_frame.specs.Frames.{Held as Frame}
use Rattle.spv_operands.specs.Values.{value_of}
use Rattle.spv_valid.specs.Acceptance.{Accepted}

-- ---- the phis of a block

-- Phis and lines. In an accepted module the phis of a block come before all else in it, with lines alone among them.
abbrev pub comes_first : Class → Bool
comes_first Line = true
comes_first Phi = true
comes_first _ = false

-- the instructions behind the OpLabel of a block
abbrev pub behind_label : List Inst → ℕ → List Inst
behind_label insts label = option_map_or (λ (n : ℕ). drop (suc n) insts) (number_of insts label) []

-- the first of some instructions, so far as they are phis and lines
abbrev pub first_ones : List (ℕ × Bool) → List Inst → List Inst
first_ones sets is = leading (λ (i : Inst). comes_first (class_of sets i)) is

-- OpPhi is 245
abbrev pub is_phi : Inst → Bool
is_phi i = i.op == 245

abbrev pub phis_of : List Inst → ℕ → List Inst
phis_of insts label = filter is_phi (first_ones (sets_of insts) (behind_label insts label))

-- ---- what they take

-- The label of the block in which the instruction at a word stands. The one at which a sound frame stands is one of a block
-- (steps_find_what_they_need of spv_machine: inst).
abbrev pub block_at : List Inst → ℕ → ℕ
block_at insts word = option_map_or (λ (s : Stand). s.position.label) (find (λ (s : Stand). stands_at word s.inst) (stands_of insts)) 0

-- the operands of a phi in pairs: an id, and the label of the block from which its value is taken
abbrev pub pairs : List Operand → List (Operand × Operand)
pairs [] = []
pairs (_ ∷ []) = []
pairs (id ∷ parent ∷ more) = (id, parent) ∷ pairs more

-- the id that stands beside the label of a block
abbrev pub source_among : List Operand → ℕ → Option ℕ
source_among operands from = option_and_then (λ (p : Operand × Operand). id_in p.0) (find (λ (p : Operand × Operand). holds from (id_in p.1)) (pairs operands))

-- What a phi's id takes where control comes from a block, in a frame at a depth as it is. In an accepted module a phi has a pair for each block
-- from which control comes (phi_breaches of spv_cfg), so it takes nothing only where the pair's id has no value.
abbrev pub phi_value : Accepted → Frame → ℕ → ℕ → Inst → Option (ℕ × Value)
phi_value a f depth from phi = option_map (λ (v : Value). (phi.id, v)) (option_and_then (value_of a f depth) (source_among phi.operands from))

-- the same of several, where each takes a value
abbrev pub phi_values : Accepted → Frame → ℕ → ℕ → List Inst → Option (List (ℕ × Value))
phi_values a f depth from [] = Some []
phi_values a f depth from (phi ∷ phis) =
    option_and_then (λ (r : ℕ × Value). option_map (λ (rs : List (ℕ × Value)). r ∷ rs) (phi_values a f depth from phis)) (phi_value a f depth from phi)
