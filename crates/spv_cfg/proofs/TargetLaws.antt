-- Each label that a terminator may go to is one of its function, and its block has a first executable.
use Rattle.std.proofs.Common.{◌≡◌, ◌==◌, ℕ, Bool, true, false, not, cond, List, [], ◌∷◌, ◌&&◌, Some, None, refl, subst}
use Rattle.std.proofs.lemmas.Bool.{eqb-true}
use Rattle.spv_base.proofs.Exports.{both_empty}
use Rattle.std.specs.List.{AllByRecursion, flat_map, list_all}
use Rattle.spv_index.specs.Classes.{is_label, is_terminator}
use Rattle.spv_index.specs.Positions.{Stand, in_block, in_function, is_head, stand_of, standing, stands_of}
use Rattle.spv_index.specs.Definitions.{has_result, is_id}
use Rattle.spv_base.specs.declared.instructions.Inst.{Inst}
use Rattle.std.specs.Prelude.{find}
use Rattle.std.specs.Option.{option_map}
use Rattle.spv_cfg.specs.Branches.{branch_breach, has_targets, is_branch_right, is_later_block_of, is_target, selector_width, stands_so, targets_of}
use Rattle.spv_cfg.specs.Flow.{Flow}
use Rattle.spv_cfg.specs.Laws.{HasFirst, IsEntered}

-- the label that stands so is one of a block, and its block has a first executable, as each block of a function has
label_entered : (f : Flow) (function label : ℕ) (stood : List Stand)
    → AllByRecursion (λ (s : Stand). (is_label s.class && in_function s.position.stage) ≡ true → HasFirst f s.inst.id) stood
    → stands_so (is_later_block_of function) (option_map standing (find (λ (s : Stand). has_result label s.inst) stood)) ≡ true → HasFirst f label
label_entered f function label [] entered so = absurd (cc)
label_entered f function label (s ∷ more) entered so = by_label (s.inst.id == label) refl entered.0 (label_entered f function label more entered.1) so
  where
    labels : (c stage own later : Bool) → (c && (stage && own)) && later ≡ true → (c && stage) ≡ true
    labels true true own later is = refl
    labels true false own later is = absurd (cc)
    labels false stage own later is = absurd (cc)

    by_label : (b : Bool) → (s.inst.id == label) ≡ b → ((is_label s.class && in_function s.position.stage) ≡ true → HasFirst f s.inst.id)
        → (stands_so (is_later_block_of function) (option_map standing (find (λ (t : Stand). has_result label t.inst) more)) ≡ true → HasFirst f label)
        → stands_so (is_later_block_of function) (option_map standing (cond b (Some s) (find (λ (t : Stand). has_result label t.inst) more))) ≡ true → HasFirst f label
    by_label true same first later is =
        subst (HasFirst f) (eqb-true s.inst.id label same)
        (first (labels (is_label s.class) (in_function s.position.stage) (s.position.function == function) (not (is_head s.position.stage)) is))
    by_label false same first later is = later is

pub all_from_test : {X : Type 0} (test : X → Bool) (P : X → Type 0) → ((x : X) → test x ≡ true → P x) → (xs : List X) → list_all test xs ≡ true → AllByRecursion P xs
all_from_test test P holds [] passed = tt
all_from_test {X} test P holds (x ∷ xs) passed = by_test (test x) (holds x) (all_from_test test P holds xs) passed
  where
    by_test : (b : Bool) → (b ≡ true → P x) → (list_all test xs ≡ true → AllByRecursion P xs) → (b && list_all test xs) ≡ true → P x × AllByRecursion P xs
    by_test true here later is = (here refl, later is)
    by_test false here later is = absurd (cc)

-- a branch is right where no breach of it is reported
pub right_from_none : (ends right : Bool) (word : ℕ) → ends ≡ true → cond (ends && not right) (word ∷ []) [] ≡ [] → right ≡ true
right_from_none true true word ends none = refl
right_from_none true false word ends none = cc
right_from_none false right word ends none = cc

first_part : (p q : Bool) → (p && q) ≡ true → p ≡ true
first_part true q is = refl
first_part false q is = cc

second_part : (p q : Bool) → (p && q) ≡ true → q ≡ true
second_part true q is = is
second_part false q is = cc

pub branches_are_entered : (f : Flow) (insts : List Inst) (stood : List Stand) → ((function label : ℕ) → is_target insts function label ≡ true → HasFirst f label)
    → flat_map (branch_breach insts) stood ≡ []
    → AllByRecursion (λ (s : Stand). (is_terminator s.class && in_block s.position.stage) ≡ true
    → (has_targets s.inst ≡ true) × AllByRecursion (IsEntered insts f s.position.function) (targets_of (selector_width insts s.inst) s.inst)) stood
branches_are_entered f insts [] first none = tt
branches_are_entered f insts (s ∷ more) first none =
    let parts = both_empty (branch_breach insts s) (flat_map (branch_breach insts) more) none in
    let width : ℕ = selector_width insts s.inst in (
      λ ends.
          let right = right_from_none (is_terminator s.class && in_block s.position.stage) (is_branch_right insts width s.position.function s.inst) s.inst.word ends parts.0 in
          let targets = second_part (has_targets s.inst) _ right in (
            first_part (has_targets s.inst) _ right,
            all_from_test (is_target insts s.position.function) (IsEntered insts f s.position.function) (λ label is. (is, first s.position.function label is)) (targets_of width s.inst)
                (first_part (list_all (is_target insts s.position.function) (targets_of width s.inst)) _ targets),
          ),
      branches_are_entered f insts more first parts.1,
    )

pub target_entered : (f : Flow) (insts : List Inst)
    → AllByRecursion (λ (s : Stand). (is_label s.class && in_function s.position.stage) ≡ true → HasFirst f s.inst.id) (stands_of insts)
    → (function label : ℕ) → is_target insts function label ≡ true → HasFirst f label
unfolding stand_of
target_entered f insts entered function label is = by_id (is_id label) is
  where
    by_id : (b : Bool) → stands_so (is_later_block_of function) (option_map standing (cond b (find (λ (s : Stand). has_result label s.inst) (stands_of insts)) None)) ≡ true → HasFirst f label
    by_id true so = label_entered f function label (stands_of insts) entered so
    by_id false so = absurd (cc)
