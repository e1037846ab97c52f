-- Modules in which no rule of the layout is broken: a block goes on to its terminator, and a function to its first block.
use Rattle.std.proofs.Common.{◌≡◌, ◌∙◌, ◌<◌, ℕ, suc, Bool, true, false, cond, List, [], ◌∷◌, ◌++◌, length, refl, sym, arith, append_assoc}
use Rattle.std.specs.List.{Contains, flat_map}
use Rattle.spv_base.specs.declared.instructions.Inst.{Inst}
use Rattle.spv_index.specs.declared.classes.Class.{Class}
use Rattle.spv_index.specs.declared.classes.Class.TheVariants.{Function, Parameter, End, Label, Line, Phi, Variable, Terminator, Passed, Executable}
use Rattle.spv_index.specs.declared.positions.Stage.{Stage}
use Rattle.spv_index.specs.declared.positions.Stage.TheVariants.{Body, Variables}
use Rattle.spv_index.specs.declared.positions.Position.{Position}
use Rattle.spv_index.specs.Classes.{class_of}
use Rattle.spv_index.specs.Positions.{stands, position_after, position_behind, begins, in_block, among_variables}
use Rattle.spv_cfg.specs.Executables.{executable_of}
use Rattle.spv_cfg.specs.Layout.{layout_breach, lacking, unended, unfinished}
use Rattle.spv_cfg.specs.Branches.{Home, label_of}
use Rattle.spv_cfg.proofs.Walks.{stand}
use Rattle.spv_base.proofs.Exports.{both_empty}

-- no breach of the layout in instructions, of which the first stands at a position, nor behind them
abbrev pub IsWhole : List (ℕ × Bool) → Position → List Inst → Type 0
IsWhole sets position insts = flat_map layout_breach (stands sets position insts) ++ unfinished (position_behind sets position insts) ≡ []

pub whole_parts : (sets : List (ℕ × Bool)) (position : Position) (inst : Inst) (insts : List Inst) → IsWhole sets position (inst ∷ insts)
    → (layout_breach (stand sets position inst) ≡ []) × IsWhole sets (position_after position (class_of sets inst) inst) insts
whole_parts sets position inst insts h = both_empty (layout_breach (stand sets position inst)) _ (sym (append_assoc (layout_breach (stand sets position inst)) _ _) ∙ h)

-- ---- a block goes on to its terminator

-- the executables of instructions, of which the first stands at a position
abbrev pub executables_from : List (ℕ × Bool) → Position → List Inst → List (ℕ × ℕ)
executables_from sets position insts = flat_map executable_of (stands sets position insts)

-- the first of these executables is in the block with this label
abbrev pub Led : ℕ → List (ℕ × ℕ) → Type 0
Led label es = (w : ℕ) × (more : List (ℕ × ℕ)) × (es ≡ (label, w) ∷ more)

pub not_reported : (b : Bool) (block : ℕ) → b ≡ true → cond b (block ∷ []) [] ≡ [] → ⊥
not_reported true block is none = cc
not_reported false block is none = cc

pub stays_inside : (b : Bool) (p q : Stage) → in_block p ≡ true → in_block q ≡ true → in_block (cond b p q) ≡ true
stays_inside true p q here there = here
stays_inside false p q here there = there

led_by_class : (r : Class) (position : Position) (inst : Inst) (es : List (ℕ × ℕ)) → in_block position.stage ≡ true
    → layout_breach (record { position = position; class = r; inst = inst }) ≡ []
    → (in_block (position_after position r inst).stage ≡ true → Led (position_after position r inst).label es)
    → Led position.label (executable_of (record { position = position; class = r; inst = inst }) ++ es)
led_by_class Function position inst es inside whole behind = absurd (not_reported (in_block position.stage) position.block_word inside (both_empty (unended position Function) _ whole).0)
led_by_class Parameter position inst es inside whole behind = behind inside
led_by_class End position inst es inside whole behind = absurd (not_reported (in_block position.stage) position.block_word inside (both_empty (unended position End) _ whole).0)
led_by_class Label position inst es inside whole behind = absurd (not_reported (in_block position.stage) position.block_word inside (both_empty (unended position Label) _ whole).0)
led_by_class Line position inst es inside whole behind = behind inside
led_by_class Phi position inst es inside whole behind = behind inside
led_by_class Variable position inst es inside whole behind = behind (stays_inside (among_variables position.stage) Variables position.stage refl inside)
led_by_class Terminator position inst es inside whole behind = rw inside (inst.word, es, refl)
led_by_class Passed position inst es inside whole behind = behind (stays_inside (in_block position.stage) Body position.stage refl inside)
led_by_class Executable position inst es inside whole behind = rw inside (inst.word, es, refl)

pub block_goes_on : (sets : List (ℕ × Bool)) (position : Position) (insts : List Inst) → IsWhole sets position insts → in_block position.stage ≡ true
    → Led position.label (executables_from sets position insts)
block_goes_on sets position [] whole inside = absurd (not_reported (in_block position.stage) position.block_word inside (both_empty (unended position Function) (lacking position Function) whole).0)
block_goes_on sets position (inst ∷ insts) whole inside =
    let parts = whole_parts sets position inst insts whole in
    led_by_class (class_of sets inst) position inst (executables_from sets (position_after position (class_of sets inst) inst) insts) inside parts.0
    (block_goes_on sets (position_after position (class_of sets inst) inst) insts parts.1)

-- ---- a function goes on to its first block

-- the first label of a function is among these, and the first of these executables is in its block
abbrev pub Begun : ℕ → List (ℕ × Home) → List (ℕ × ℕ) → Type 0
Begun function labels es = (label : ℕ) × Contains labels (label, record { function = function; first = true }) × Led label es

begun_by_class : (r : Class) (fn inst : Inst) (labels : List (ℕ × Home)) (es : List (ℕ × ℕ)) → layout_breach (record { position = begins fn; class = r; inst = inst }) ≡ []
    → (in_block (position_after (begins fn) r inst).stage ≡ true → Led (position_after (begins fn) r inst).label es)
    → (position_after (begins fn) r inst ≡ begins fn → Begun fn.id labels es)
    → Begun fn.id (label_of (record { position = begins fn; class = r; inst = inst }) ++ labels) (executable_of (record { position = begins fn; class = r; inst = inst }) ++ es)
begun_by_class Function fn inst labels es whole led behind = absurd (cc)
begun_by_class Parameter fn inst labels es whole led behind = behind refl
begun_by_class End fn inst labels es whole led behind = absurd (cc)
begun_by_class Label fn inst labels es whole led behind = let first : 0 < suc (length labels) = omega arith in (inst.id, (0, first, refl), led refl)
begun_by_class Line fn inst labels es whole led behind = behind refl
begun_by_class Phi fn inst labels es whole led behind = behind refl
begun_by_class Variable fn inst labels es whole led behind = behind refl
begun_by_class Terminator fn inst labels es whole led behind = behind refl
begun_by_class Passed fn inst labels es whole led behind = behind refl
begun_by_class Executable fn inst labels es whole led behind = behind refl

pub function_begins : (sets : List (ℕ × Bool)) (fn : Inst) (insts : List Inst) → IsWhole sets (begins fn) insts
    → Begun fn.id (flat_map label_of (stands sets (begins fn) insts)) (executables_from sets (begins fn) insts)
function_begins sets fn [] whole = absurd (cc)
function_begins sets fn (inst ∷ insts) whole =
    let parts = whole_parts sets (begins fn) inst insts whole in
    let after : Position = position_after (begins fn) (class_of sets inst) inst in
    begun_by_class (class_of sets inst) fn inst (flat_map label_of (stands sets after insts)) (executables_from sets after insts) parts.0
    (block_goes_on sets after insts parts.1)
    (λ same. rw same (function_begins sets fn insts (rw same at parts.1)))
