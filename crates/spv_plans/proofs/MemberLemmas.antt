-- The instructions of a function are those behind its OpFunction, as long as they stand in it.
use Rattle.std.proofs.Common.{◌≡◌, ◌≢◌, ◌∙◌, ℕ, zero, suc, ◌==◌, ◌&&◌, Bool, true, false, cond, List, [], ◌∷◌, Some, drop, take, slice_get, refl, sym, ap, subst}
use Rattle.std.proofs.lemmas.Bool.{ne_eqb}
use Rattle.std.specs.List.{AllByRecursion, filter}
use Rattle.spv_base.specs.declared.instructions.Inst.{Inst}
use Rattle.spv_index.specs.declared.classes.Class.{Class}
use Rattle.spv_index.specs.declared.classes.Class.TheVariants.{Function, Parameter, End, Label, Line, Phi, Variable, Terminator, Passed, Executable}
use Rattle.spv_index.specs.declared.positions.Stage.{Stage}
use Rattle.spv_index.specs.declared.positions.Stage.TheVariants.{Outside, Head, Phis, Variables, Body, Between}
use Rattle.spv_index.specs.declared.positions.Position.{Position}
use Rattle.spv_index.specs.Classes.{class_of}
use Rattle.spv_index.specs.Positions.{Stand, among_variables, begins, begins_block, in_block, in_function, position_after, stands}
use Rattle.spv_valid.specs.Below.spv_cfg.proofs.Exports.{IsWhole, whole_parts, stand}
use Rattle.spv_plans.specs.Members.{is_within, leading, stands_in}

-- ---- behind a function its instructions never come again

pub block_inside : (stage : Stage) → in_block stage ≡ true → in_function stage ≡ true
block_inside Outside h = h
block_inside Head h = refl
block_inside Phis h = refl
block_inside Variables h = refl
block_inside Body h = refl
block_inside Between h = refl

pub variables_inside : (stage : Stage) → among_variables stage ≡ true → in_function stage ≡ true
variables_inside Outside h = h
variables_inside Head h = refl
variables_inside Phis h = refl
variables_inside Variables h = refl
variables_inside Body h = refl
variables_inside Between h = refl

-- one of two stages, the first where a test tells of the second that it is in a function
pub inside_from : (b : Bool) (t stage : Stage) → (b ≡ true → in_function stage ≡ true) → in_function (cond b t stage) ≡ true → in_function stage ≡ true
inside_from true t stage tells h = tells refl
inside_from false t stage tells h = h

stays_false : (p q e : Bool) → (q ≡ true → p ≡ true) → (p && e) ≡ false → (q && e) ≡ false
stays_false p false e tells h = refl
stays_false true true e tells h = h
stays_false false true e tells h = absurd (let clash : false ≡ true = tells refl in cc)

pub apart_after : (id : ℕ) (position : Position) (class : Class) (i : Inst) → is_within id position ≡ false → i.id ≢ id → is_within id (position_after position class i) ≡ false
apart_after id position Function i h apart = ne_eqb i.id id apart
apart_after id position Parameter i h apart = h
apart_after id position End i h apart = refl
apart_after id position Label i h apart = by_test (in_function position.stage) refl
  where
    by_test : (b : Bool) → in_function position.stage ≡ b → is_within id (cond b (begins_block position i) position) ≡ false
    by_test true e = rw e at h
    by_test false e = h
apart_after id position Line i h apart = h
apart_after id position Phi i h apart = h
apart_after id position Variable i h apart =
    stays_false (in_function position.stage) (in_function (cond (among_variables position.stage) Variables position.stage)) (position.function == id)
    (inside_from (among_variables position.stage) Variables position.stage (variables_inside position.stage)) h
apart_after id position Terminator i h apart =
    stays_false (in_function position.stage) (in_function (cond (in_block position.stage) Between position.stage)) (position.function == id)
    (inside_from (in_block position.stage) Between position.stage (block_inside position.stage)) h
apart_after id position Passed i h apart =
    stays_false (in_function position.stage) (in_function (cond (in_block position.stage) Body position.stage)) (position.function == id)
    (inside_from (in_block position.stage) Body position.stage (block_inside position.stage)) h
apart_after id position Executable i h apart =
    stays_false (in_function position.stage) (in_function (cond (in_block position.stage) Body position.stage)) (position.function == id)
    (inside_from (in_block position.stage) Body position.stage (block_inside position.stage)) h

outside_stays : (id : ℕ) (sets : List (ℕ × Bool)) (position : Position) (insts : List Inst) → is_within id position ≡ false → AllByRecursion (λ (j : Inst). j.id ≢ id) insts
    → filter (stands_in id) (stands sets position insts) ≡ []
outside_stays id sets position [] h apart = refl
outside_stays id sets position (i ∷ is) h apart =
    let after : Position = position_after position (class_of sets i) i in
    let rest = outside_stays id sets after is (apart_after id position (class_of sets i) i h apart.0) apart.1 in
    by_test (is_within id position) h rest
  where
    by_test : (b : Bool) → b ≡ false → filter (stands_in id) (stands sets (position_after position (class_of sets i) i) is) ≡ []
        → cond b (stand sets position i ∷ filter (stands_in id) (stands sets (position_after position (class_of sets i) i) is)) (filter (stands_in id) (stands sets (position_after position (class_of sets i) i) is)) ≡ []
    by_test true e rest = absurd (cc)
    by_test false e rest = rest

-- so those in the function are the first ones
pub filter_leading : (id : ℕ) (sets : List (ℕ × Bool)) (position : Position) (insts : List Inst) → AllByRecursion (λ (j : Inst). j.id ≢ id) insts
    → filter (stands_in id) (stands sets position insts) ≡ leading (stands_in id) (stands sets position insts)
filter_leading id sets position [] apart = refl
filter_leading id sets position (i ∷ is) apart =
    by_test (is_within id position) refl (filter_leading id sets (position_after position (class_of sets i) i) is apart.1)
  where
    by_test : (b : Bool) → is_within id position ≡ b
        → filter (stands_in id) (stands sets (position_after position (class_of sets i) i) is) ≡ leading (stands_in id) (stands sets (position_after position (class_of sets i) i) is)
        → cond b (stand sets position i ∷ filter (stands_in id) (stands sets (position_after position (class_of sets i) i) is)) (filter (stands_in id) (stands sets (position_after position (class_of sets i) i) is))
        ≡ cond b (stand sets position i ∷ leading (stands_in id) (stands sets (position_after position (class_of sets i) i) is)) []
    by_test true e rest = ap (λ (ss : List Stand). stand sets position i ∷ ss) rest
    by_test false e rest = outside_stays id sets (position_after position (class_of sets i) i) is (apart_after id position (class_of sets i) i e apart.0) apart.1

-- ---- at an OpFunction

-- what stands behind the OpFunction with a number: its instructions, and no others have its id
pub record Reached (sets : List (ℕ × Bool)) (position : Position) (insts : List Inst) (n : ℕ) (i : Inst) : Type 0 where
  pub behind : drop (suc n) (stands sets position insts) ≡ stands sets (begins i) (drop (suc n) insts)
  pub within : filter (stands_in i.id) (stands sets position insts) ≡ filter (stands_in i.id) (stands sets (begins i) (drop (suc n) insts))
  pub whole : IsWhole sets (begins i) (drop (suc n) insts)

skipped : (id : ℕ) (position : Position) (s : Stand) (rest : List Stand) → is_within id position ≡ false → cond (is_within id position) (s ∷ rest) rest ≡ rest
skipped id position s rest h = rw h refl

reached_here : (sets : List (ℕ × Bool)) (position : Position) (i : Inst) (is : List Inst) → class_of sets i ≡ Function → is_within i.id position ≡ false
    → IsWhole sets position (i ∷ is) → Reached sets position (i ∷ is) zero i
reached_here sets position i is function outside whole =
    let parts = whole_parts sets position i is whole in
    record {
      behind = ap (λ (r : Class). stands sets (position_after position r i) is) function;
      within = skipped i.id position (stand sets position i) (filter (stands_in i.id) (stands sets (position_after position (class_of sets i) i) is)) outside
          ∙ ap (λ (r : Class). filter (stands_in i.id) (stands sets (position_after position r i) is)) function;
      whole = subst (λ (r : Class). IsWhole sets (position_after position r i) is) function parts.1;
    }

pub reached : (sets : List (ℕ × Bool)) (position : Position) (insts : List Inst) (n : ℕ) (i : Inst) → slice_get insts n ≡ Some i → class_of sets i ≡ Function → is_within i.id position ≡ false
    → AllByRecursion (λ (j : Inst). j.id ≢ i.id) (take n insts) → IsWhole sets position insts → Reached sets position insts n i
reached sets position [] n i at function outside before whole = absurd (cc)
reached sets position (j ∷ is) zero i at function outside before whole =
    let same : j ≡ i = cc in
    subst (λ (x : Inst). Reached sets position (x ∷ is) zero i) (sym same)
    (reached_here sets position i is function outside (subst (λ (x : Inst). IsWhole sets position (x ∷ is)) same whole))
reached sets position (j ∷ is) (suc n) i at function outside before whole =
    let parts = whole_parts sets position j is whole in
    let after : Position = position_after position (class_of sets j) j in
    let rest = reached sets after is n i at function (apart_after i.id position (class_of sets j) j outside before.0) before.1 parts.1 in
    record {
      behind = rest.behind;
      within = skipped i.id position (stand sets position j) (filter (stands_in i.id) (stands sets after is)) outside ∙ rest.within;
      whole = rest.whole;
    }
