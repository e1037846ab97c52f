-- The function that an instruction stands in: it is the one that the rule of the instruction speaks of.
use Rattle.std.proofs.Common.{◌≡◌, ◌∙◌, ℕ, suc, ◌==◌, Bool, true, false, cond, List, [], ◌∷◌, length, drop, Some, slice_get, refl, sym, ap, subst}
use Rattle.std.proofs.lemmas.Bool.{and_parts, both_ways, eq-eqb, eqb-true, false_from_ne_true}
use Rattle.std.proofs.lemmas.List.Elements.{recursion_from_All}
use Rattle.std.specs.List.{AllByRecursion}
use Rattle.spv_base.specs.declared.instructions.Inst.{Inst}
use Rattle.spv_index.specs.declared.classes.Class.{Class}
use Rattle.spv_index.specs.declared.classes.Class.TheVariants.{Function, Parameter, End, Label, Line, Phi, Variable, Terminator, Passed, Executable}
use Rattle.spv_index.specs.declared.positions.Position.{Position}
use Rattle.spv_index.specs.declared.positions.Stage.TheVariants.{Variables, Body, Between}
use Rattle.spv_index.specs.Classes.{class_of, sets_of}
use Rattle.spv_index.specs.Definitions.{at, before_functions}
use Rattle.spv_index.specs.Positions.{Stand, among_variables, begins_block, in_block, in_function, outside, position_after, stands, stands_of}
use Rattle.spv_bodies.specs.Bodies.{KeepsBody}
use Rattle.spv_bodies.specs.Context.{Known}
use Rattle.spv_bodies.specs.Places.{Placed, nowhere, place, placed_from, within_after}
use Rattle.spv_bodies.specs.declared.within.Within.{Within}
use Rattle.spv_valid.specs.Acceptance.{Accepted}
use Rattle.spv_valid.specs.Validity.{IsValid}
use Rattle.spv_results.specs.Operands.{known}
use Rattle.spv_state.specs.Sound.{StandsIn}
use Rattle.spv_state.proofs.Exports.{IsKnown, Standing, at_standing, standing}
use Rattle.spv_plans.proofs.Exports.{function_class, variables_inside, inside_from, block_inside}
use Rattle.spv_cfg.proofs.Exports.{opcode_of_function}
use Rattle.spv_base.proofs.Exports.{each_at}

-- ---- positions

-- no class but that of a function begins one
abbrev Stays : Position → Position → Type 0
Stays position after = (in_function position.stage ≡ true) × (after.function ≡ position.function)

after_stays : (position : Position) (class : Class) (i : Inst) → (class ≡ Function → ⊥) → in_function (position_after position class i).stage ≡ true → Stays position (position_after position class i)
after_stays position Function i other h = absurd (other refl)
after_stays position Parameter i other h = (h, refl)
after_stays position End i other h = absurd (cc)
after_stays position Label i other h = by_function (in_function position.stage) refl h
  where
    by_function : (b : Bool) → in_function position.stage ≡ b → in_function (cond b (begins_block position i) position).stage ≡ true → Stays position (cond b (begins_block position i) position)
    by_function true e g = (e, refl)
    by_function false e g = absurd (both_ways (in_function position.stage) e g)
after_stays position Line i other h = (h, refl)
after_stays position Phi i other h = (h, refl)
after_stays position Variable i other h = (inside_from (among_variables position.stage) Variables position.stage (variables_inside position.stage) h, refl)
after_stays position Terminator i other h = (inside_from (in_block position.stage) Between position.stage (block_inside position.stage) h, refl)
after_stays position Passed i other h = (inside_from (in_block position.stage) Body position.stage (block_inside position.stage) h, refl)
after_stays position Executable i other h = (inside_from (in_block position.stage) Body position.stage (block_inside position.stage) h, refl)

-- ---- the function at hand

-- the OpFunction (54) of a function, whose type is what the function returns
pub record Returns (insts : List Inst) (function : ℕ) (w : Within) : Type 0 where
  pub number : ℕ
  pub inst : Inst
  pub at : slice_get insts number ≡ Some inst
  pub id : inst.id ≡ function
  pub returns : w.returns ≡ Some inst.ty

-- an instruction keeps its rule in a function
pub record KeptIn (k : Known) (insts : List Inst) (function : ℕ) (i : Inst) : Type 0 where
  pub placed : Placed
  pub same : placed.inst ≡ i
  pub keeps : KeepsBody k placed
  pub returns : Returns insts function placed.within

abbrev InFunction : Known → List Inst → Stand → Type 0
InFunction k insts s = in_function s.position.stage ≡ true → KeptIn k insts s.position.function s.inst

returns_next : (insts : List Inst) (sets : List (ℕ × Bool)) (position : Position) (w : Within) (i : Inst) → (n : ℕ) × (slice_get insts n ≡ Some i) → (in_function position.stage ≡ true → Returns insts position.function w)
    → in_function (position_after position (class_of sets i) i).stage ≡ true → Returns insts (position_after position (class_of sets i) i).function (within_after w i)
returns_next insts sets position w i there before inside = by_op (i.op == 54) refl
  where
    after : Position
    after = position_after position (class_of sets i) i

    by_parameter : (b : Bool) → Returns insts after.function w → Returns insts after.function (cond b (record w { parameters = suc w.parameters }) w)
    by_parameter true r = record { number = r.number; inst = r.inst; at = r.at; id = r.id; returns = r.returns }
    by_parameter false r = r

    by_op : (b : Bool) → (i.op == 54) ≡ b → Returns insts after.function (within_after w i)
    by_op true e =
        let op : i.op ≡ 54 = eqb-true i.op 54 e in
        let here : i.id ≡ after.function = sym (ap (λ (c : Class). (position_after position c i).function) (function_class sets i op)) in
        rw e (record { number = there.0; inst = i; at = there.1; id = here; returns = refl })
    by_op false e =
        let stays : Stays position after = after_stays position (class_of sets i) i (λ same. both_ways (i.op == 54) e (eq-eqb i.op 54 (opcode_of_function sets i same))) inside in
        let own : Returns insts after.function w = subst (λ (f : ℕ). Returns insts f w) (sym stays.1) (before stays.0) in
        rw e (by_parameter (i.op == 55) own)

kept_from : (k : Known) (insts : List Inst) (sets : List (ℕ × Bool)) (position : Position) (w : Within) (is : List Inst) → ((n : ℕ) (i : Inst) → slice_get is n ≡ Some i → (m : ℕ) × (slice_get insts m ≡ Some i))
    → (in_function position.stage ≡ true → Returns insts position.function w) → AllByRecursion (KeepsBody k) (placed_from w is) → AllByRecursion (InFunction k insts) (stands sets position is)
kept_from k insts sets position w [] among returns kept = tt
kept_from k insts sets position w (i ∷ is) among returns kept = (
  λ h. record { placed = place i w is; same = refl; keeps = kept.0; returns = returns h },
  kept_from k insts sets (position_after position (class_of sets i) i) (within_after w i) is (λ n j h. among (suc n) j h) (returns_next insts sets position w i (among 0 i refl) returns) kept.1,
)

outside_after : (sets : List (ℕ × Bool)) (position : Position) (i : Inst) → (i.op == 54) ≡ false → in_function position.stage ≡ false → in_function (position_after position (class_of sets i) i).stage ≡ false
outside_after sets position i other out =
    false_from_ne_true (in_function (position_after position (class_of sets i) i).stage) (λ h.
    both_ways (in_function position.stage) out
    (after_stays position (class_of sets i) i (λ same. both_ways (i.op == 54) other (eq-eqb i.op 54 (opcode_of_function sets i same))) h).0)

each_kept : (k : Known) (insts : List Inst) (sets : List (ℕ × Bool)) (position : Position) (is : List Inst) → ((n : ℕ) (i : Inst) → slice_get is n ≡ Some i → (m : ℕ) × (slice_get insts m ≡ Some i))
    → in_function position.stage ≡ false → AllByRecursion (KeepsBody k) (placed_from nowhere (drop (length (before_functions is)) is)) → AllByRecursion (InFunction k insts) (stands sets position is)
unfolding before_functions
each_kept k insts sets position [] among out kept = tt
each_kept k insts sets position (i ∷ is) among out kept = by_op (i.op == 54) refl kept (each_kept k insts sets after is (λ n j h. among (suc n) j h))
  where
    after : Position
    after = position_after position (class_of sets i) i

    by_op : (b : Bool) → (i.op == 54) ≡ b → AllByRecursion (KeepsBody k) (placed_from nowhere (drop (length (cond b [] (i ∷ before_functions is))) (i ∷ is)))
        → (in_function after.stage ≡ false → AllByRecursion (KeepsBody k) (placed_from nowhere (drop (length (before_functions is)) is)) → AllByRecursion (InFunction k insts) (stands sets after is))
        → AllByRecursion (InFunction k insts) (stands sets position (i ∷ is))
    by_op true e h rest = kept_from k insts sets position nowhere (i ∷ is) among (λ g. absurd (both_ways (in_function position.stage) out g)) h
    by_op false e h rest = (λ g. absurd (both_ways (in_function position.stage) out g), rest (outside_after sets position i e out) h)

pub kept_in : (a : Accepted) → IsValid a → IsKnown a → (function word : ℕ) (d : Inst) → StandsIn a function word → at a.insts word ≡ Some d → KeptIn (known a) a.insts function d
kept_in a v known_is function word d stands here =
    let k : Known = known a in
    let s : Standing a function word = standing a function word stands in
    let all : AllByRecursion (InFunction k a.insts) (stands_of a.insts)
    = each_kept k a.insts (sets_of a.insts) outside a.insts (λ n i h. (n, h)) refl (recursion_from_All (KeepsBody k) _ v.rules) in
    let parts = and_parts (in_function s.stand.position.stage) (s.stand.position.function == function) s.within in
    let own : KeptIn k a.insts s.stand.position.function s.stand.inst = each_at (InFunction k a.insts) (stands_of a.insts) s.one.number s.stand all s.one.is parts.0 in
    let one : Some s.stand.inst ≡ Some d = sym (at_standing a function word known_is s) ∙ here in
    let same : s.stand.inst ≡ d = cc in
    subst (λ (i : Inst). KeptIn k a.insts function i) same (subst (λ (f : ℕ). KeptIn k a.insts f s.stand.inst) (eqb-true s.stand.position.function function parts.1) own)
