-- What the flow of an accepted module gives to one that runs it: where blocks begin, what comes next, where branches go.
use Rattle.std.specs.Prelude.{◌≡◌, ◌&&◌, ◌≤◌, ℕ, true, false, List, Some}
use Rattle.std.specs.List.{AllByRecursion, Contains}
use Rattle.spv_base.specs.Entries.{reads}
use Rattle.spv_base.specs.declared.instructions.Inst.{Inst}
use Rattle.spv_index.specs.declared.classes.Class.TheVariants.{Function}
use Rattle.spv_index.specs.Classes.{is_executable, is_label, is_terminator}
use Rattle.spv_index.specs.Positions.{Stand, in_block, in_function, stands_of}
use Rattle.spv_cfg.specs.Branches.{Home, has_targets, is_target, labels_of, selector_width, targets_of}
use Rattle.spv_cfg.specs.Flow.{Flow}

-- a run that comes to the block with this label stops first at this word
abbrev pub FirstAt : Flow → ℕ → ℕ → Type 0
FirstAt f label w = reads label f.blocks ≡ Some w

abbrev pub HasFirst : Flow → ℕ → Type 0
HasFirst f label = (w : ℕ) × FirstAt f label w

-- a run goes on from here to an executable of the same block
abbrev pub HasNext : Flow → Stand → Type 0
HasNext f s = (w : ℕ) × (reads s.inst.word f.nexts ≡ Some (Some w)) × Contains f.blocks (s.position.label, w)

-- a branch in this function may go to this label: it is one of the function, but not its first, and a run can begin there
abbrev pub IsEntered : List Inst → Flow → ℕ → ℕ → Type 0
IsEntered insts f function label = (is_target insts function label ≡ true) × HasFirst f label

-- the longest chain of calls from this function is known, and not too long
abbrev pub HasDepth : Flow → ℕ → Type 0
HasDepth f id = (n : ℕ) × (reads id f.depths ≡ Some n) × (1 ≤ n) × (n ≤ 64)

-- a call of this function has a block to begin with
abbrev pub HasFirstBlock : List (ℕ × Home) → Flow → ℕ → Type 0
HasFirstBlock labels f id = (label : ℕ) × Contains labels (label, record { function = id; first = true }) × HasFirst f label

-- ---- of all that stands in a module

-- each block of a function has a first executable
abbrev pub BlocksAreEntered : List Inst → Flow → Type 0
BlocksAreEntered insts f = AllByRecursion (λ (s : Stand). (is_label s.class && in_function s.position.stage) ≡ true → HasFirst f s.inst.id) (stands_of insts)

-- each executable of a block that is no terminator has a next one
abbrev pub RunsGoOn : List Inst → Flow → Type 0
RunsGoOn insts f = AllByRecursion (λ (s : Stand). (is_executable s.class && in_block s.position.stage) ≡ true → is_terminator s.class ≡ false → HasNext f s) (stands_of insts)

-- a terminator has the labels that its opcode asks, and each that it may go to can be gone to
abbrev pub TargetsAreEntered : List Inst → Flow → Type 0
TargetsAreEntered insts f =
    AllByRecursion (λ (s : Stand). (is_terminator s.class && in_block s.position.stage) ≡ true
    → (has_targets s.inst ≡ true) × AllByRecursion (IsEntered insts f s.position.function) (targets_of (selector_width insts s.inst) s.inst)) (stands_of insts)

-- each function has a depth
abbrev pub FunctionsHaveDepths : List Inst → Flow → Type 0
FunctionsHaveDepths insts f = AllByRecursion (λ (s : Stand). s.class ≡ Function → HasDepth f s.inst.id) (stands_of insts)

-- each function has a block to begin with
abbrev pub FunctionsAreEntered : List Inst → Flow → Type 0
FunctionsAreEntered insts f = AllByRecursion (λ (s : Stand). s.class ≡ Function → HasFirstBlock (labels_of insts) f s.inst.id) (stands_of insts)
