-- Where the branch or the switch goes at which a run has stopped.
use Rattle.std.proofs.Common.{◌≡◌, ◌∙◌, ℕ, zero, suc, ◌==◌, ◌&&◌, Bool, true, false, not, cond, List, [], ◌∷◌, ◌++◌, drop, map, slice_get, Option, Some, None, refl, sym, ap, subst}
use Rattle.std.proofs.Math.Logic.{∥∥₁_elim, ∥∥₁_map}
use Rattle.std.proofs.Props.{props}
use Rattle.std.proofs.lemmas.Bool.{and_parts, eqb-true}
use Rattle.std.specs.Prelude.{find, if◌then◌else◌}
use Rattle.std.specs.List.{AllByRecursion, flat_map, list_all}
use Rattle.std.specs.Coded.{codes}
use Rattle.std.specs.Option.{is_some, option_map, option_or, option_to_list}
use Rattle.spv_base.specs.Entries.{reads}
use Rattle.spv_base.specs.declared.instructions.Inst.{Inst}
use Rattle.spv_base.specs.declared.values.Value.{Value, out-Value}
use Rattle.spv_index.specs.Classes.{class_of, is_executable, is_terminator, sets_of}
use Rattle.spv_index.specs.Definitions.{at}
use Rattle.spv_index.specs.Operands.{id_operand}
use Rattle.spv_index.specs.Positions.{Stand, in_block, in_function, stands_of}
use Rattle.spv_types.specs.declared.forms.Form.{Form}
use Rattle.spv_types.specs.declared.forms.Form.TheVariants.{Bool as Boolean, Int}
use Rattle.spv_types.specs.Laws.{AreSound}
use Rattle.spv_types.specs.Queries.{is_pointer}
use Rattle.spv_types.specs.Rows.{no_roots}
use Rattle.spv_types.specs.Shapes.{HasShape, scalar_in, shape_step}
use Rattle.spv_types.proofs.Exports.{shapes_are_by_forms}
use Rattle.spv_cfg.specs.Branches.{at_width, branch_breach, case_words, cases, has_targets, is_branch_right, is_switch_right, is_target, selector_width, targets_of}
use Rattle.spv_cfg.specs.Laws.{IsEntered}
use Rattle.spv_cfg.specs.Operands.{is_literal}
use Rattle.spv_cfg.proofs.Exports.{flow_accepted, right_from_none}
use Rattle.spv_bodies.specs.Context.{form_at, type_at}
use Rattle.spv_valid.specs.Acceptance.{Accepted, IsAccepted, Passes}
use Rattle.spv_valid.specs.Validity.{IsValid}
use Rattle.spv_valid.proofs.Exports.{accepted_passes}
use Rattle.spv_results.specs.Operands.{IsOperand, known as known_in}
use Rattle.spv_results.proofs.Exports.{HasForm, form_has_type, sound_types}
use Rattle.spv_state.specs.Sound.{StandsIn}
use Rattle.spv_state.proofs.Exports.{IsKnown, known, at_standing, standing, IsOne, class_is, stood}
use Rattle.spv_sites.specs.Branches.{chosen_label, switch_label}
use Rattle.spv_sites.specs.Sites.{IsSite, Site, accepted, is_data, is_data_at}
use Rattle.spv_control.proofs.ControlCodes.{branch_ends, condition_ends, condition_kept, selector_kept, switch_ends}
use Rattle.spv_sites.proofs.Exports.{Runs, frame_sound, site_runs}
use Rattle.spv_base.proofs.Exports.{and_some, both_empty, each_at, each_left, each_right, some_at}

-- ---- the labels of each opcode

-- what is so of all of some labels is so of each that is named
of_one : (P : ℕ → Type 0) (o : Option ℕ) (label : ℕ) → AllByRecursion P (option_to_list o) → o ≡ Some label → P label
of_one P None label all is = absurd (cc)
of_one P (Some x) label all is = let same : x ≡ label = cc in subst P same all.0

of_two : (P : ℕ → Type 0) (one other : Option ℕ) (n label : ℕ) → AllByRecursion P (option_to_list one ++ option_to_list other) → (if n == 0 then other else one) ≡ Some label → P label
of_two P one other n label all is = by_number (n == 0) is
  where
    by_number : (b : Bool) → (if b then other else one) ≡ Some label → P label
    by_number true e = of_one P other label (each_right P (option_to_list one) (option_to_list other) all) e
    by_number false e = of_one P one label (each_left P (option_to_list one) (option_to_list other) all) e

of_case : (P : ℕ → Type 0) (test : ℕ × ℕ → Bool) (cs : List (ℕ × ℕ)) (c : ℕ × ℕ) → AllByRecursion P (map (λ (x : ℕ × ℕ). x.1) cs) → find test cs ≡ Some c → P c.1
of_case P test [] c all is = absurd (cc)
of_case P test (x ∷ cs) c all is = by_test (test x) is (of_case P test cs c all.1)
  where
    by_test : (b : Bool) → cond b (Some x) (find test cs) ≡ Some c → (find test cs ≡ Some c → P c.1) → P c.1
    by_test true e rest = let same : x ≡ c = cc in subst (λ (y : ℕ × ℕ). P y.1) same all.0
    by_test false e rest = rest e

of_cases : (P : ℕ → Type 0) (test : ℕ × ℕ → Bool) (default : Option ℕ) (cs : List (ℕ × ℕ)) (label : ℕ) → AllByRecursion P (option_to_list default ++ map (λ (c : ℕ × ℕ). c.1) cs)
    → option_or (option_map (λ (c : ℕ × ℕ). c.1) (find test cs)) default ≡ Some label → P label
of_cases P test default cs label all is = by_case (find test cs) refl is
  where
    by_case : (o : Option (ℕ × ℕ)) → find test cs ≡ o → option_or (option_map (λ (c : ℕ × ℕ). c.1) o) default ≡ Some label → P label
    by_case None e g = of_one P default label (each_left P (option_to_list default) (map (λ (c : ℕ × ℕ). c.1) cs) all) g
    by_case (Some c) e g = let same : c.1 ≡ label = cc in subst P same (of_case P test cs c (each_right P (option_to_list default) (map (λ (x : ℕ × ℕ). x.1) cs) all) e)

-- the labels of a terminator by its opcode
labels_by : ℕ → ℕ → Inst → List ℕ
labels_by op width d =
    if op == 249 then option_to_list (id_operand d 0)
    else if op == 250 then option_to_list (id_operand d 1) ++ option_to_list (id_operand d 2)
    else if op == 251 then option_to_list (id_operand d 1) ++ map (λ (c : ℕ × ℕ). c.1) (cases width (case_words d))
    else []

all_by : (P : ℕ → Type 0) (width n : ℕ) (d : Inst) → d.op ≡ n → AllByRecursion P (targets_of width d) → AllByRecursion P (labels_by n width d)
unfolding labels_by
all_by P width n d op all = subst (λ (m : ℕ). AllByRecursion P (labels_by m width d)) op all

-- ---- the stand

-- at the word of an instruction its own stand
pub record Ends (a : Accepted) (function : ℕ) (d : Inst) : Type 0 where
  pub stand : Stand
  pub one : IsOne (stands_of a.insts) stand
  pub inst : stand.inst ≡ d
  pub function_is : stand.position.function ≡ function
  pub ends : (is_terminator stand.class && in_block stand.position.stage) ≡ true

pub ends_there : (a : Accepted) → IsKnown a → (function : ℕ) (d : Inst) → at a.insts d.word ≡ Some d → is_terminator (class_of (sets_of a.insts) d) ≡ true → StandsIn a function d.word → Ends a function d
ends_there a known function d here last stands =
    let s = standing a function d.word stands in
    let found : at a.insts d.word ≡ Some s.stand.inst = at_standing a function d.word known s in
    let same : s.stand.inst ≡ d = cc in
    let within = and_parts (in_function s.stand.position.stage) (s.stand.position.function == function) s.within in
    let inside = (and_parts (is_executable s.stand.class) (in_block s.stand.position.stage) s.stops).1 in
    let class : is_terminator s.stand.class ≡ true = ap is_terminator (class_is a.insts s.stand s.one) ∙ ap (λ (i : Inst). is_terminator (class_of (sets_of a.insts) i)) same ∙ last in
    record {
      stand = s.stand;
      one = s.one;
      inst = same;
      function_is = eqb-true s.stand.position.function function within.1;
      ends = both (is_terminator s.stand.class) (in_block s.stand.position.stage) class inside;
    }
  where
    both : (p q : Bool) → p ≡ true → q ≡ true → (p && q) ≡ true
    both p q h g = rw (h, g) refl

-- ---- where it goes

targets_there : (a : Accepted) → IsValid a → (function : ℕ) (d : Inst) → Ends a function d → AllByRecursion (IsEntered a.insts a.flow function) (targets_of (selector_width a.insts d) d)
targets_there a valid function d e =
    let targets = each_at (λ (s : Stand). (is_terminator s.class && in_block s.position.stage) ≡ true
    → (has_targets s.inst ≡ true) × AllByRecursion (IsEntered a.insts a.flow s.position.function) (targets_of (selector_width a.insts s.inst) s.inst)) (stands_of a.insts) e.one.number e.stand valid.targets e.one.is e.ends in
    subst (λ (i : Inst). AllByRecursion (IsEntered a.insts a.flow function) (targets_of (selector_width a.insts i) i)) e.inst
    (subst (λ (f : ℕ). AllByRecursion (IsEntered a.insts a.flow f) (targets_of (selector_width a.insts e.stand.inst) e.stand.inst)) e.function_is targets.1)

-- the same as tests
abbrev is_entered : Accepted → ℕ → ℕ → Type 0
is_entered a function label = (is_target a.insts function label ≡ true) × (is_some (reads label a.flow.blocks) ≡ true)

entered : (a : Accepted) (function label : ℕ) → is_entered a function label → IsEntered a.insts a.flow function label
entered a function label h = (h.0, some_at (reads label a.flow.blocks) h.1)

tested : (a : Accepted) (function label : ℕ) → IsEntered a.insts a.flow function label → is_entered a function label
tested a function label h = let first = h.1.1 in (h.0, ap is_some first)

module _ (a : Accepted) (accepts : ∥ IsAccepted a ∥₁) (valid : ∥ IsValid a ∥₁) (d : Inst) (here : at a.insts d.word ≡ Some d) (function : ℕ) (stands : StandsIn a function d.word) where
  there : is_terminator (class_of (sets_of a.insts) d) ≡ true → Ends a function d
  there last = ends_there a (known a accepts valid) function d here last stands

  pub branch_entered : (label : ℕ) → d.op ≡ 249 → is_terminator (class_of (sets_of a.insts) d) ≡ true → id_operand d 0 ≡ Some label → IsEntered a.insts a.flow function label
  unfolding labels_by
  branch_entered label op last is = entered a function label (∥∥₁_elim valid (hlevel props) (λ (v : IsValid a). tested a function label
      (of_one (IsEntered a.insts a.flow function) (id_operand d 0) label (all_by (IsEntered a.insts a.flow function) (selector_width a.insts d) 249 d op (targets_there a v function d (there last))) is)))

  pub condition_entered : (n label : ℕ) → d.op ≡ 250 → is_terminator (class_of (sets_of a.insts) d) ≡ true → chosen_label d n ≡ Some label → IsEntered a.insts a.flow function label
  unfolding labels_by
  condition_entered n label op last is = entered a function label (∥∥₁_elim valid (hlevel props) (λ (v : IsValid a). tested a function label
      (of_two (IsEntered a.insts a.flow function) (id_operand d 1) (id_operand d 2) n label (all_by (IsEntered a.insts a.flow function) (selector_width a.insts d) 250 d op (targets_there a v function d (there last))) is)))

  pub switch_entered : (n label : ℕ) → d.op ≡ 251 → is_terminator (class_of (sets_of a.insts) d) ≡ true → switch_label a.insts d n ≡ Some label → IsEntered a.insts a.flow function label
  unfolding labels_by
  switch_entered n label op last is = entered a function label (∥∥₁_elim valid (hlevel props) (λ (v : IsValid a). tested a function label
      (of_cases (IsEntered a.insts a.flow function) (λ (c : ℕ × ℕ). at_width (selector_width a.insts d) c.0 == n) (id_operand d 1) (cases (selector_width a.insts d) (case_words d)) label
      (all_by (IsEntered a.insts a.flow function) (selector_width a.insts d) 251 d op (targets_there a v function d (there last))) is)))

-- ---- the words of a switch

nil_at : {X : Type 0} (f : X → List ℕ) (xs : List X) (k : ℕ) (x : X) → flat_map f xs ≡ [] → slice_get xs k ≡ Some x → f x ≡ []
nil_at f [] k x none h = absurd (cc)
nil_at f (y ∷ xs) zero x none h = let same : y ≡ x = cc in ap f (sym same) ∙ (both_empty (f y) (flat_map f xs) none).0
nil_at f (y ∷ xs) (suc k) x none h = nil_at f xs k x (both_empty (f y) (flat_map f xs) none).1 h

-- what is asked of a terminator, by its opcode
words_by : ℕ → ℕ → Inst → Bool
words_by op width d = if op == 251 then is_switch_right width d else true

literals_kept : (a : Accepted) → IsAccepted a → (function : ℕ) (d : Inst) → d.op ≡ 251 → Ends a function d → list_all is_literal (drop 2 d.operands) ≡ true
unfolding words_by
literals_kept a accepts function d op e =
    let passes : Passes a accepts.name accepts.over = accepted_passes a accepts.name accepts.over accepts.is in
    let none = nil_at (branch_breach a.insts) (stands_of a.insts) e.one.number e.stand (flow_accepted a.insts a.flow passes.flow).branches e.one.is in
    let width : ℕ = selector_width a.insts e.stand.inst in
    let right = right_from_none (is_terminator e.stand.class && in_block e.stand.position.stage) (is_branch_right a.insts width e.stand.position.function e.stand.inst) e.stand.inst.word e.ends none in
    let targets = (and_parts (has_targets e.stand.inst) _ right).1 in
    let words = (and_parts (list_all (is_target a.insts e.stand.position.function) (targets_of width e.stand.inst)) (words_by e.stand.inst.op width e.stand.inst) targets).1 in
    let own : words_by 251 width e.stand.inst ≡ true = ap (λ (n : ℕ). words_by n width e.stand.inst) (sym op ∙ ap (λ (i : Inst). i.op) (sym e.inst)) ∙ words in
    ap (λ (i : Inst). list_all is_literal (drop 2 i.operands)) (sym e.inst) ∙ (and_parts (list_all is_literal (drop 2 e.stand.inst.operands)) _ own).0

pub switch_words : (a : Accepted) → ∥ IsAccepted a ∥₁ → ∥ IsValid a ∥₁ → (d : Inst) → at a.insts d.word ≡ Some d → (function : ℕ) → StandsIn a function d.word → d.op ≡ 251
    → is_terminator (class_of (sets_of a.insts) d) ≡ true → list_all is_literal (drop 2 d.operands) ≡ true
switch_words a accepts valid d here function stands op last =
    ∥∥₁_elim accepts (hlevel props) (λ (h : IsAccepted a). literals_kept a h function d op (there a accepts valid d here function stands last))

-- ---- at a site

-- the condition and the selector
module _ (a : Accepted) (d : Inst) (f : Form) (is : form_at (known_in a) d 0 ≡ Some f) where
  formed : HasForm a.types (type_at (known_in a) d 0) f
  formed = form_has_type a.types (type_at (known_in a) d 0) f is

  form_data : not (is_pointer (Some f)) ≡ true → is_data_at a d 0 ≡ true
  form_data plain = ap (is_data a.types) formed.is ∙ ap (λ (o : Option Form). not (is_pointer o)) formed.form ∙ plain

  form_step : AreSound a.types → (v : Value) → IsOperand a d 0 v → shape_step a.types no_roots (HasShape a.types no_roots) f v
  form_step sound v shaped = (shapes_are_by_forms a.types no_roots sound formed.type f v formed.form).0 (shaped formed.type formed.is)

pub site_stands : (x : Site) → ∥ IsSite x ∥₁ → ∥ StandsIn (accepted x) x.frame.plan.function x.inst.word ∥₁
site_stands x site = ∥∥₁_map site (λ (is : IsSite x).
    let s = stood (accepted x).insts x.frame.pc x.inst is.stands in
    subst (StandsIn (accepted x) x.frame.plan.function) (sym s.here) (frame_sound x is).stands)

-- a block to which every stand of the instruction leads is one of the function of the frame
pub block_target : (x : Site) → ∥ IsSite x ∥₁ → (label : Option ℕ) (block : ℕ)
    → ((b function : ℕ) → label ≡ Some b → StandsIn (accepted x) function x.inst.word → IsEntered (accepted x).insts (accepted x).flow function b) → label ≡ Some block
    → is_target (accepted x).insts x.frame.plan.function block ≡ true
block_target x site label block leads is =
    ∥∥₁_elim (site_stands x site) (hlevel props) (λ (stands : StandsIn (accepted x) x.frame.plan.function x.inst.word). (leads block x.frame.plan.function is stands).0)

module _ (x : Site) (m : Accepted) (same : m ≡ accepted x) (accepts : ∥ IsAccepted m ∥₁) (valid : ∥ IsValid m ∥₁) (site : ∥ IsSite x ∥₁) where
  accepted_here : ∥ IsAccepted (accepted x) ∥₁
  accepted_here = subst (λ (a : Accepted). ∥ IsAccepted a ∥₁) same accepts

  valid_here : ∥ IsValid (accepted x) ∥₁
  valid_here = subst (λ (a : Accepted). ∥ IsValid a ∥₁) same valid

  found_here : at (accepted x).insts x.inst.word ≡ Some x.inst
  found_here = ∥∥₁_elim site (hlevel (props, codes)) (λ (is : IsSite x).
      let s = stood (accepted x).insts x.frame.pc x.inst is.stands in
      subst (λ (w : ℕ). at (accepted x).insts w ≡ Some x.inst) (sym s.here) is.stands)

  runs_here : ∥ Runs (accepted x) x.inst ∥₁
  runs_here = site_runs x accepted_here valid_here site

  pub branch_leads : x.inst.op ≡ 249 → (block function : ℕ) → id_operand x.inst 0 ≡ Some block → StandsIn (accepted x) function x.inst.word → IsEntered (accepted x).insts (accepted x).flow function block
  branch_leads op block function is stands =
      branch_entered (accepted x) accepted_here valid_here x.inst found_here function stands block op (branch_ends (sets_of (accepted x).insts) x.inst op) is

  pub condition_leads : x.inst.op ≡ 250 → (n block function : ℕ) → chosen_label x.inst n ≡ Some block → StandsIn (accepted x) function x.inst.word → IsEntered (accepted x).insts (accepted x).flow function block
  condition_leads op n block function is stands =
      condition_entered (accepted x) accepted_here valid_here x.inst found_here function stands n block op (condition_ends (sets_of (accepted x).insts) x.inst op) is

  pub switch_leads : x.inst.op ≡ 251 → (n block function : ℕ) → switch_label (accepted x).insts x.inst n ≡ Some block → StandsIn (accepted x) function x.inst.word → IsEntered (accepted x).insts (accepted x).flow function block
  switch_leads op n block function is stands =
      switch_entered (accepted x) accepted_here valid_here x.inst found_here function stands n block op (switch_ends (sets_of (accepted x).insts) x.inst op) is

  pub switch_literals : x.inst.op ≡ 251 → list_all is_literal (drop 2 x.inst.operands) ≡ true
  switch_literals op = ∥∥₁_elim (site_stands x site) (hlevel props) (λ (stands : StandsIn (accepted x) x.frame.plan.function x.inst.word).
      switch_words (accepted x) accepted_here valid_here x.inst found_here x.frame.plan.function stands op (switch_ends (sets_of (accepted x).insts) x.inst op))

  pub condition_data : x.inst.op ≡ 250 → is_data_at (accepted x) x.inst 0 ≡ true
  condition_data op = ∥∥₁_elim runs_here (hlevel props) (λ (r : Runs (accepted x) x.inst). form_data (accepted x) x.inst Boolean (condition_kept (known_in (accepted x)) x.inst r.kept op) refl)

  pub condition_scalar : x.inst.op ≡ 250 → (v : Value) → IsOperand (accepted x) x.inst 0 v → is_some (scalar_in (out-Value v)) ≡ true
  condition_scalar op v shaped = ∥∥₁_elim runs_here (hlevel props) (λ (r : Runs (accepted x) x.inst).
      and_some (scalar_in (out-Value v)) _ (form_step (accepted x) x.inst Boolean (condition_kept (known_in (accepted x)) x.inst r.kept op) (sound_types (accepted x) valid_here) v shaped))

  pub selector_data : x.inst.op ≡ 251 → is_data_at (accepted x) x.inst 0 ≡ true
  selector_data op = ∥∥₁_elim runs_here (hlevel props) (λ (r : Runs (accepted x) x.inst).
      let kept = selector_kept (known_in (accepted x)) x.inst r.kept op in
      form_data (accepted x) x.inst (Int kept.0 kept.1) kept.2 refl)

  pub selector_scalar : x.inst.op ≡ 251 → (v : Value) → IsOperand (accepted x) x.inst 0 v → is_some (scalar_in (out-Value v)) ≡ true
  selector_scalar op v shaped = ∥∥₁_elim runs_here (hlevel props) (λ (r : Runs (accepted x) x.inst).
      let kept = selector_kept (known_in (accepted x)) x.inst r.kept op in
      and_some (scalar_in (out-Value v)) _ (form_step (accepted x) x.inst (Int kept.0 kept.1) kept.2 (sound_types (accepted x) valid_here) v shaped))
