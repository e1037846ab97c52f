-- A function has an instruction at which a run stops: in its first block, which goes on to a terminator.
use Rattle.std.proofs.Common.{◌≡◌, ℕ, ◌==◌, Bool, true, false, cond, List, [], ◌∷◌, Some, refl, sym, subst}
use Rattle.std.specs.Prelude.{find}
use Rattle.spv_base.specs.declared.instructions.Inst.{Inst}
use Rattle.spv_index.specs.declared.classes.Class.{Class}
use Rattle.spv_index.specs.declared.classes.Class.TheVariants.{Function, Parameter, End, Label, Line, Phi, Variable, Terminator, Passed, Executable}
use Rattle.spv_index.specs.declared.positions.Stage.TheVariants.{Body, Variables}
use Rattle.spv_index.specs.declared.positions.Position.{Position}
use Rattle.spv_index.specs.Classes.{class_of}
use Rattle.spv_index.specs.Positions.{Stand, among_variables, begins, in_block, in_function, position_after, stands}
use Rattle.spv_valid.specs.Below.spv_cfg.specs.Layout.{lacking, layout_breach, unended}
use Rattle.spv_valid.specs.Below.spv_cfg.proofs.Exports.{IsWhole, stays_inside, whole_parts, not_reported}
use Rattle.spv_plans.specs.Members.{is_stop, is_within, leading, stands_in}
use Rattle.spv_plans.proofs.MemberLemmas.{block_inside}
use Rattle.std.proofs.lemmas.Bool.{and_from}
use Rattle.spv_base.proofs.Exports.{same_number, both_empty}

-- a run stops among the instructions of a function, of which these are the first
abbrev pub Stops : ℕ → List Stand → Type 0
Stops id ss = (s : Stand) × (find is_stop (leading (stands_in id) ss) ≡ Some s)

within : (id : ℕ) (position : Position) → in_block position.stage ≡ true → position.function ≡ id → is_within id position ≡ true
within id position inside function =
    let same : (position.function == id) ≡ true = rw function (same_number id) in
    and_from (in_function position.stage) (position.function == id) (block_inside position.stage inside) same

stops_by_class : (id : ℕ) (r : Class) (position : Position) (inst : Inst) (ss : List Stand) → in_block position.stage ≡ true → position.function ≡ id
    → layout_breach (record { position = position; class = r; inst = inst }) ≡ []
    → (in_block (position_after position r inst).stage ≡ true → (position_after position r inst).function ≡ id → Stops id ss)
    → Stops id (record { position = position; class = r; inst = inst } ∷ ss)
stops_by_class id Function position inst ss inside function whole behind = absurd (not_reported (in_block position.stage) position.block_word inside (both_empty (unended position Function) _ whole).0)
stops_by_class id Parameter position inst ss inside function whole behind = rw (within id position inside function) (behind inside function)
stops_by_class id End position inst ss inside function whole behind = absurd (not_reported (in_block position.stage) position.block_word inside (both_empty (unended position End) _ whole).0)
stops_by_class id Label position inst ss inside function whole behind = absurd (not_reported (in_block position.stage) position.block_word inside (both_empty (unended position Label) _ whole).0)
stops_by_class id Line position inst ss inside function whole behind = rw (within id position inside function) (behind inside function)
stops_by_class id Phi position inst ss inside function whole behind = rw (within id position inside function) (behind inside function)
stops_by_class id Variable position inst ss inside function whole behind =
    rw (within id position inside function) (behind (stays_inside (among_variables position.stage) Variables position.stage refl inside) function)
stops_by_class id Terminator position inst ss inside function whole behind =
    rw (within id position inside function, inside) (record { position = position; class = Terminator; inst = inst }, refl)
stops_by_class id Passed position inst ss inside function whole behind =
    rw (within id position inside function) (behind (stays_inside (in_block position.stage) Body position.stage refl inside) function)
stops_by_class id Executable position inst ss inside function whole behind =
    rw (within id position inside function, inside) (record { position = position; class = Executable; inst = inst }, refl)

block_stops : (id : ℕ) (sets : List (ℕ × Bool)) (position : Position) (insts : List Inst) → IsWhole sets position insts → in_block position.stage ≡ true → position.function ≡ id
    → Stops id (stands sets position insts)
block_stops id sets position [] whole inside function = absurd (not_reported (in_block position.stage) position.block_word inside (both_empty (unended position Function) (lacking position Function) whole).0)
block_stops id sets position (inst ∷ insts) whole inside function =
    let parts = whole_parts sets position inst insts whole in
    stops_by_class id (class_of sets inst) position inst (stands sets (position_after position (class_of sets inst) inst) insts) inside function parts.0
    (block_stops id sets (position_after position (class_of sets inst) inst) insts parts.1)

begins_by_class : (r : Class) (fn inst : Inst) (ss : List Stand) → layout_breach (record { position = begins fn; class = r; inst = inst }) ≡ []
    → (in_block (position_after (begins fn) r inst).stage ≡ true → (position_after (begins fn) r inst).function ≡ fn.id → Stops fn.id ss)
    → (position_after (begins fn) r inst ≡ begins fn → Stops fn.id ss)
    → Stops fn.id (record { position = begins fn; class = r; inst = inst } ∷ ss)
begins_by_class Function fn inst ss whole stops behind = absurd (cc)
begins_by_class Parameter fn inst ss whole stops behind = rw (same_number fn.id) (behind refl)
begins_by_class End fn inst ss whole stops behind = absurd (cc)
begins_by_class Label fn inst ss whole stops behind = rw (same_number fn.id) (stops refl refl)
begins_by_class Line fn inst ss whole stops behind = rw (same_number fn.id) (behind refl)
begins_by_class Phi fn inst ss whole stops behind = rw (same_number fn.id) (behind refl)
begins_by_class Variable fn inst ss whole stops behind = rw (same_number fn.id) (behind refl)
begins_by_class Terminator fn inst ss whole stops behind = rw (same_number fn.id) (behind refl)
begins_by_class Passed fn inst ss whole stops behind = rw (same_number fn.id) (behind refl)
begins_by_class Executable fn inst ss whole stops behind = rw (same_number fn.id) (behind refl)

pub function_stops : (sets : List (ℕ × Bool)) (fn : Inst) (insts : List Inst) → IsWhole sets (begins fn) insts → Stops fn.id (stands sets (begins fn) insts)
function_stops sets fn [] whole = absurd (cc)
function_stops sets fn (inst ∷ insts) whole =
    let parts = whole_parts sets (begins fn) inst insts whole in
    let after : Position = position_after (begins fn) (class_of sets inst) inst in
    begins_by_class (class_of sets inst) fn inst (stands sets after insts) parts.0
    (block_stops fn.id sets after insts parts.1)
    (λ same. subst (λ (p : Position). Stops fn.id (stands sets p insts)) (sym same) (function_stops sets fn insts (subst (λ (p : Position). IsWhole sets p insts) same parts.1)))

-- what is found among the first ones of a list is found in the list
pub found_leading : {X : Type 0} (p q : X → Bool) (xs : List X) (x : X) → find q (leading p xs) ≡ Some x → find q xs ≡ Some x
found_leading p q [] x h = h
found_leading {X} p q (y ∷ ys) x h = by_first (p y) h (found_leading p q ys x)
  where
    by_found : (b : Bool) → cond b (Some y) (find q (leading p ys)) ≡ Some x → (find q (leading p ys) ≡ Some x → find q ys ≡ Some x) → cond b (Some y) (find q ys) ≡ Some x
    by_found true e ih = e
    by_found false e ih = ih e

    by_first : (b : Bool) → find q (cond b (y ∷ leading p ys) []) ≡ Some x → (find q (leading p ys) ≡ Some x → find q ys ≡ Some x) → cond (q y) (Some y) (find q ys) ≡ Some x
    by_first true e ih = by_found (q y) e ih
    by_first false e ih = absurd (cc)
