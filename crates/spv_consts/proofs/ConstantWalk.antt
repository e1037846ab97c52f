-- Each constant of a module has its row, by the rows of its operands: over the walk from its first instruction to its last before the
-- functions.
use Rattle.std.proofs.Common.{◌≡◌, ◌≢◌, ◌∙◌, ℕ, List, [], ◌∷◌, ◌++◌, append_assoc, true, Option, Some, None, Ok, refl, sym, ap, subst}
use Rattle.std.specs.List.{AllByRecursion}
use Rattle.spv_base.specs.Entries.{reads}
use Rattle.spv_base.specs.Order.{Ascend}
use Rattle.spv_base.specs.declared.instructions.Inst.{Inst}
use Rattle.spv_types.specs.declared.forms.Form.{Form}
use Rattle.spv_types.specs.Build.{type_breaches, types_of}
use Rattle.spv_types.specs.Constants.{is_constant}
use Rattle.spv_types.specs.Laws.{AreByForms, AreNamed, AreSound, HasResult}
use Rattle.spv_types.specs.Types.{Types, form_of, lengthened as with_size, number_of, with_length}
use Rattle.spv_index.specs.Definitions.{before_functions}
use Rattle.spv_types.specs.Typing.{defined_form, types_read}
use Rattle.spv_base.specs.declared.values.Root.{Root}
use Rattle.spv_consts.specs.Build.{constants_of, context_of, known_of, start_of}
use Rattle.spv_consts.specs.Constants.{AreConstants, IsConstant, Known}
use Rattle.spv_consts.specs.Context.{Context}
use Rattle.spv_consts.specs.State.{State}
use Rattle.spv_consts.specs.Evaluation.{value_of}
use Rattle.spv_consts.specs.Lengths.{lengthened}
use Rattle.spv_consts.specs.Overrides.{Numbers}
use Rattle.spv_consts.specs.Rules.{keeps_rules}
use Rattle.spv_consts.specs.Steps.{breaches_at, breaches_from, with_entry, after_one, after_all, with_constant}
use Rattle.spv_consts.proofs.ConstantGrowth.{Grows, IsFresh, fresh_entered, fresh_lengthened, grows_entered, grows_lengthened, grows_not, grows_on, own_row}
use Rattle.spv_consts.proofs.ConstantRows.{constant_is}
use Rattle.spv_consts.proofs.WalkConstants.{constant_entered, ends, not_next, step_follows}
use Rattle.spv_consts.proofs.WalkIds.{before_is_front}
use Rattle.spv_consts.proofs.WalkPlaces.{IsPlaced, placed}
use Rattle.spv_consts.proofs.WalkStates.{constant_no_type, no_length, passed}
use Rattle.spv_consts.proofs.WalkSteps.{Follows, follows_start}
use Rattle.spv_base.proofs.Exports.{both_empty}
use Rattle.spv_types.proofs.Exports.{accepted_is}

-- a constant that keeps its rules enters the state as its value
constant_enters : (m : Context) (front : List Inst) (i : Inst) (s u : State) → Follows m.all front s → IsPlaced m.all front i → is_constant i.op ≡ true → lengthened m s i ≡ Some u → with_entry m u i ≡ with_constant m s i
constant_enters m front i s u follows place constant lengthens =
    let form : defined_form m.all i ≡ None = constant_no_type m.all i constant in
    let same : u ≡ s = no_length m s u i (place.no_array form) lengthens in
    ap (λ (v : State). with_entry m v i) same ∙ constant_entered m s i (not_next s i.id (follows.numbers i.id ∙ place.no_type form)) constant

module _
    (sound : (insts : List Inst) (ts : Types) → AllByRecursion (HasResult insts) insts → types_of insts ≡ Ok ts → AreSound ts)
    (sound_kept : (ts : Types) (id n : ℕ) → AreSound ts → AreSound (with_length ts id n))
    (number_kept : (ts : Types) (id n q : ℕ) → number_of (with_length ts id n) q ≡ number_of ts q)
    (other_kept : (ts : Types) (id n q : ℕ) → id ≢ q → form_of (with_length ts id n) q ≡ form_of ts q)
    (own_set : (ts : Types) (id n : ℕ) (f : Form) → form_of ts id ≡ Some f → form_of (with_length ts id n) id ≡ Some (with_size n f))
    (by_forms : (ts : Types) (roots : Root → Option ℕ) → AreSound ts → AreByForms ts roots)
  where
    module _ (m : Context) (front : List Inst) (i : Inst) (s : State) (follows : Follows m.all front s) (place : IsPlaced m.all front i) (none : breaches_at m s i ≡ []) where
      passes : (keeps_rules m s i ≡ true) × ((u : State) × (lengthened m s i ≡ Some u) × (after_one m s i ≡ with_entry m u i))
      passes = passed m s i none

      step_grows : Grows m s (after_one m s i)
      step_grows =
          let u : State = passes.1.0 in
          subst (λ (v : State). Grows m s v) (sym passes.1.2)
          (grows_on m s u (with_entry m u i) (grows_lengthened sound_kept number_kept other_kept own_set m s u i passes.1.1) (grows_entered m u i place.defined))

      step_fresh : IsFresh front s → IsFresh (front ++ i ∷ []) (after_one m s i)
      step_fresh fresh =
          let u : State = passes.1.0 in
          subst (λ (v : State). IsFresh (front ++ i ∷ []) v) (sym passes.1.2) (fresh_entered m front u i place.positive (fresh_lengthened m front s u i passes.1.1 fresh))

      step_row : IsFresh front s → is_constant i.op ≡ true → reads i.id (after_one m s i).values ≡ Some (value_of m s i)
      step_row fresh constant =
          let enters : after_one m s i ≡ with_constant m s i = passes.1.2 ∙ constant_enters m front i s passes.1.0 follows place constant passes.1.1 in
          ap (λ (v : State). reads i.id v.values) enters ∙ own_row s.values i.id (value_of m s i) (fresh i.id place.apart)

      -- with what the instructions behind it give
      step_gives : IsFresh front s → (t : State) (rest : List Inst) → Grows m (after_one m s i) t × AllByRecursion (λ (j : Inst). is_constant j.op ≡ true → IsConstant m (known_of t) j) rest
          → Grows m s t × AllByRecursion (λ (j : Inst). is_constant j.op ≡ true → IsConstant m (known_of t) j) (i ∷ rest)
      step_gives fresh t rest later = (grows, (own, later.1))
        where
          grows : Grows m s t
          grows = grows_on m s (after_one m s i) t step_grows later.0

          own : is_constant i.op ≡ true → IsConstant m (known_of t) i
          own constant = constant_is m front i s t follows place grows constant passes.0 (later.0.kept i.id (value_of m s i) (step_row fresh constant))

    -- ---- all of them

    walk_gives : (m : Context) (front rest tail : List Inst) (s : State) → Ascend 0 m.all → AreNamed m.all → type_breaches m.all [] (before_functions m.all) ≡ [] → before_functions m.all ≡ front ++ rest → m.all ≡ front ++ (rest ++ tail)
        → Follows m.all front s → IsFresh front s → breaches_from m s rest ≡ []
        → Grows m s (after_all m s rest) × AllByRecursion (λ (i : Inst). is_constant i.op ≡ true → IsConstant m (known_of (after_all m s rest)) i) rest
    unfolding after_all breaches_from
    walk_gives m front [] tail s ascend named none place whole follows fresh no_breaches = (grows_not m s, tt)
    walk_gives m front (i ∷ rest) tail s ascend named none place whole follows fresh no_breaches =
        let both = both_empty (breaches_at m s i) (breaches_from m (after_one m s i) rest) no_breaches in
        let at : IsPlaced m.all front i = placed m.all front rest tail i place whole ascend named none in
        step_gives m front i s follows at both.0 fresh (after_all m (after_one m s i) rest) rest
        (walk_gives m (front ++ i ∷ []) rest tail (after_one m s i) ascend named none (place ∙ sym (append_assoc front (i ∷ []) rest)) (whole ∙ sym (append_assoc front (i ∷ []) (rest ++ tail)))
        (step_follows sound sound_kept number_kept other_kept own_set by_forms m front i s follows at both.0) (step_fresh m front i s follows at both.0 fresh) both.1)

    pub constants_are : (insts : List Inst) (ts : Types) (over : Numbers) (known : Known) → Ascend 0 insts → AreNamed insts → types_of insts ≡ Ok ts → constants_of ts insts over ≡ Ok known
        → AreConstants (context_of ts insts over) known
    constants_are insts ts over known ascend named typed is =
        let ended = ends insts ts over known is in
        let rules = accepted_is insts ts typed in
        let front = before_is_front insts in
        let sound_start : AreSound (types_read insts) = subst AreSound (sym rules.1) (sound insts ts named.results typed) in
        let start : Follows insts [] (start_of ts) = follows_start insts (start_of ts) refl (sym rules.1) refl sound_start in
        let walk = walk_gives (context_of ts insts over) [] (before_functions insts) front.0 (start_of ts) ascend named rules.0 refl front.1 start (λ id apart. refl) ended.0 in
        subst (λ (k : Known). AreConstants (context_of ts insts over) k) (sym ended.1) walk.1
