-- Breaches of branches (SPIR-V 1.6 section 2.16.1, and OpBranch, OpBranchConditional, OpSwitch): their targets, and the literals of switches.
use Rattle.std.specs.Prelude.{ℕ, Bool, true, false, not, List, [], ◌∷◌, ◌++◌, ◌+◌, ◌*◌, ◌%◌, ◌^◌, ◌==◌, ◌&&◌, if◌then◌else◌, Option, Some, None, map, length, drop}
use Rattle.std.specs.Option.{is_some, option_and_then, option_map, option_to_list, unwrap_or}
use Rattle.std.specs.List.{flat_map, list_any, list_all}
use Rattle.spv_base.specs.declared.instructions.Inst.{Inst}
use Rattle.spv_index.specs.declared.positions.Standing.{Standing}
use Rattle.spv_index.specs.Classes.{is_label, is_terminator}
use Rattle.spv_index.specs.Operands.{id_operand, literal_operand}
use Rattle.spv_index.specs.Positions.{Stand, in_block, in_function, is_head, stand_of, standing, stands_of}
use Rattle.spv_index.specs.Definitions.{defining, result_type}
use Rattle.spv_cfg.specs.Operands.{is_literal, literals_in}

-- the id of a label's function, and whether the label is the first one there
pub record Home : Type 0 where
  pub function : ℕ
  pub first : Bool

-- the labels, each with its function and whether it is the first one there
abbrev pub label_of : Stand → List (ℕ × Home)
label_of s =
    if is_label s.class && in_function s.position.stage
    then (s.inst.id, record { function = s.position.function; first = is_head s.position.stage }) ∷ []
    else []

abbrev pub labels_of : List Inst → List (ℕ × Home)
labels_of insts = flat_map label_of (stands_of insts)

-- where a label of a function stands, and where one that isn't its first
abbrev pub is_block_of : ℕ → Standing → Bool
is_block_of function s = is_label s.class && (in_function s.position.stage && (s.position.function == function))

abbrev pub is_later_block_of : ℕ → Standing → Bool
is_later_block_of function s = is_block_of function s && not (is_head s.position.stage)

abbrev pub stands_so : (Standing → Bool) → Option Standing → Bool
stands_so test None = false
stands_so test (Some s) = test s

-- a label of this function
abbrev pub is_within : List Inst → ℕ → ℕ → Bool
is_within insts function label = stands_so (is_block_of function) (option_map standing (stand_of insts label))

-- a label of this function, but not its first
abbrev pub is_target : List Inst → ℕ → ℕ → Bool
is_target insts function label = stands_so (is_later_block_of function) (option_map standing (stand_of insts label))

-- ---- switches

-- the width of an integer type (21); another type counts as one of 32 bits
abbrev pub width_in : Option Inst → ℕ
width_in None = 32
width_in (Some i) = if i.op == 21 then unwrap_or (literal_operand i 0) 32 else 32

-- the width of the selector's type, the selector being the first operand
abbrev pub selector_width : List Inst → Inst → ℕ
selector_width insts inst = width_in (option_and_then (defining insts) (option_and_then (result_type insts) (id_operand inst 0)))

-- pairs of a literal and a label: a literal has one word, or two, the low one first
abbrev pub cases_by_word : List ℕ → List (ℕ × ℕ)
cases_by_word [] = []
cases_by_word (_ ∷ []) = []
cases_by_word (word ∷ label ∷ more) = (word, label) ∷ cases_by_word more

abbrev pub cases_by_two : List ℕ → List (ℕ × ℕ)
cases_by_two (low ∷ high ∷ label ∷ more) = (low + high * 2 ^ 32, label) ∷ cases_by_two more
cases_by_two _ = []

abbrev pub cases : ℕ → List ℕ → List (ℕ × ℕ)
cases width words = if width == 64 then cases_by_two words else cases_by_word words

abbrev pub are_whole : ℕ → List ℕ → Bool
are_whole width words = if width == 64 then length words % 3 == 0 else length words % 2 == 0

-- a literal as a number of the selector's width
abbrev pub at_width : ℕ → ℕ → ℕ
at_width width literal = if width == 8 then literal % 256 else if width == 16 then literal % 65536 else literal

-- no number stands twice
abbrev pub are_distinct : List ℕ → Bool
are_distinct [] = true
are_distinct (number ∷ numbers) = not (list_any (λ n. n == number) numbers) && are_distinct numbers

-- the words after the selector and the default
abbrev pub case_words : Inst → List ℕ
case_words inst = literals_in (drop 2 inst.operands)

-- all that stands there are words, which are whole pairs, and no literal stands twice
abbrev pub is_switch_right : ℕ → Inst → Bool
is_switch_right width inst =
    list_all is_literal (drop 2 inst.operands) && (are_whole width (case_words inst) && are_distinct (map (λ c. at_width width c.0) (cases width (case_words inst))))

-- ---- branches

-- the labels that a terminator may go to, by its opcode: OpBranch, OpBranchConditional, OpSwitch
abbrev pub targets_of : ℕ → Inst → List ℕ
targets_of width inst =
    if inst.op == 249 then option_to_list (id_operand inst 0)
    else if inst.op == 250 then option_to_list (id_operand inst 1) ++ option_to_list (id_operand inst 2)
    else if inst.op == 251 then option_to_list (id_operand inst 1) ++ map (λ c. c.1) (cases width (case_words inst))
    else []

-- the operands that have the labels are there: one of OpBranch, two of OpBranchConditional, the default of OpSwitch
abbrev pub has_targets : Inst → Bool
has_targets inst =
    if inst.op == 249 then is_some (id_operand inst 0)
    else if inst.op == 250 then is_some (id_operand inst 1) && is_some (id_operand inst 2)
    else if inst.op == 251 then is_some (id_operand inst 1)
    else true

abbrev pub is_branch_right : List Inst → ℕ → ℕ → Inst → Bool
is_branch_right insts width function inst =
    has_targets inst && (list_all (is_target insts function) (targets_of width inst) && (if inst.op == 251 then is_switch_right width inst else true))

abbrev pub branch_breach : List Inst → Stand → List ℕ
branch_breach insts s =
    if (is_terminator s.class && in_block s.position.stage)
    && not (is_branch_right insts (selector_width insts s.inst) s.position.function s.inst)
    then s.inst.word ∷ [] else []

abbrev pub branch_breaches : List Inst → List ℕ
branch_breaches insts = flat_map (branch_breach insts) (stands_of insts)
