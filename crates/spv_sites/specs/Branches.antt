-- Branches and switches (SPIR-V 1.6 section 3.42.17, OpBranch, OpBranchConditional and OpSwitch).
use Rattle.std.specs.Prelude.{ℕ, ◌==◌, if◌then◌else◌, find, List, Option, Result, Ok, Err, ok_or}
use Rattle.std.specs.Option.{option_map, option_map_or, option_or}
use Rattle.spv_base.specs.Cell.{Cell}
use Rattle.spv_base.specs.declared.instructions.Inst.{Inst}
use Rattle.spv_base.specs.declared.values.Value.{Value, out-Value}
use Rattle.spv_valid.specs.Below.spv_ops.specs.Steps.{◌>>=◌}
use Rattle.spv_index.specs.Operands.{id_operand}
use Rattle.spv_valid.specs.Below.spv_types.specs.Shapes.{scalar_in}
use Rattle.spv_valid.specs.Below.spv_cfg.specs.Branches.{at_width, case_words, cases, selector_width}
use Rattle.spv_frame.specs.Frames.{Held as Frame}
use Rattle.spv_state.specs.Program.{Program}
use Rattle.spv_state.specs.State.{State, depth_of}
use Rattle.spv_sites.specs.Effects.{Effect, Jump, goes, operand}
use Rattle.spv_sites.specs.Phis.{block_at, phi_values, phis_of}
use Rattle.spv_sites.specs.declared.causes.Cause.{Cause}
use Rattle.spv_sites.specs.declared.causes.Cause.TheVariants.{NoValue, UndefinedBranch}

-- ---- to a block

-- Its phis take the values that they have from the block in which the branch stands; F4 where one of them has none.
abbrev pub jump_to : Program → State → ℕ → Frame → Inst → ℕ → Result Effect Cause
jump_to p s i f d block =
    ok_or (phi_values p.accepted f (depth_of s i) (block_at p.accepted.insts d.word) (phis_of p.accepted.insts block)) NoValue
    >>= (λ (phis : List (ℕ × Value)). Ok (goes (Jump block phis)))

-- to the block with a label that a branch names, which every branch of an accepted module does (instructions_keep_their_rules of spv_bodies)
abbrev pub jump_by : Program → State → ℕ → Frame → Inst → Option ℕ → Result Effect Cause
jump_by p s i f d label = ok_or label NoValue >>= jump_to p s i f d

-- ---- by a value

-- the number of a scalar, a Boolean's 1 or 0; F1 where it is undefined
abbrev pub number_in : Cell → Result ℕ Cause
number_in c = if c.defined then Ok c.bits else Err UndefinedBranch

-- The number by which control goes. The condition of a branch is a Boolean and a selector an integer (instructions_keep_their_rules), and
-- registers hold values of their types (IsSoundFrame of spv_state: shaped), so there is a scalar.
abbrev pub deciding_number : Value → Result ℕ Cause
deciding_number v = option_map_or number_in (scalar_in (out-Value v)) (Err UndefinedBranch)

-- the label of a true condition, 1, and that of a false one, 0
abbrev pub chosen_label : Inst → ℕ → Option ℕ
chosen_label d n = if n == 0 then id_operand d 2 else id_operand d 1

-- the case of a switch whose literal, as a number of the selector's width, is a number
abbrev pub case_of : ℕ → Inst → ℕ → Option (ℕ × ℕ)
case_of width d n = find (λ (c : ℕ × ℕ). at_width width c.0 == n) (cases width (case_words d))

-- the label of this case, else the default
abbrev pub switch_label : List Inst → Inst → ℕ → Option ℕ
switch_label insts d n = option_or (option_map (λ (c : ℕ × ℕ). c.1) (case_of (selector_width insts d) d n)) (id_operand d 1)

-- ---- the instructions

-- OpBranch (label)
abbrev pub branch_effect : Program → State → ℕ → Frame → Inst → Result Effect Cause
branch_effect p s i f d = jump_by p s i f d (id_operand d 0)

-- OpBranchConditional (condition, label of true, label of false)
abbrev pub branch_conditional_effect : Program → State → ℕ → Frame → Inst → Result Effect Cause
branch_conditional_effect p s i f d = operand p s i f d 0 >>= (λ (v : Value). deciding_number v >>= (λ (n : ℕ). jump_by p s i f d (chosen_label d n)))

-- OpSwitch (selector, label of the default, literals with their labels)
abbrev pub switch_effect : Program → State → ℕ → Frame → Inst → Result Effect Cause
switch_effect p s i f d = operand p s i f d 0 >>= (λ (v : Value). deciding_number v >>= (λ (n : ℕ). jump_by p s i f d (switch_label p.accepted.insts d n)))
