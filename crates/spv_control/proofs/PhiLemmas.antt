-- The phis of a block: where they stand, the rule that they keep, and the values that they take.
use Rattle.std.proofs.Common.{◌≡◌, ◌∙◌, ℕ, zero, suc, ◌+◌, ◌<◌, ◌==◌, ◌&&◌, Bool, true, false, not, cond, get_or, length, List, [], ◌∷◌, ◌++◌, drop, drop-cons, add-one, map, slice_get, Result, Option, Some, None, refl, sym, ap, subst, arith}
use Rattle.std.proofs.Math.Logic.{∥∥₁_elim}
use Rattle.std.proofs.Props.{props}
use Rattle.std.proofs.lemmas.Bool.{and_parts, eqb-true}
use Rattle.std.proofs.lemmas.List.Elements.{recursion_from_All}
use Rattle.std.proofs.lemmas.Option.{slice_get-get_or}
use Rattle.std.specs.Coded.{codes}
use Rattle.std.specs.Prelude.{find}
use Rattle.std.specs.List.{AllByRecursion, filter}
use Rattle.std.specs.Option.{option_and_then, option_map, option_map_or}
use Rattle.spv_base.specs.declared.causes.Fail.{Fail}
use Rattle.spv_base.specs.declared.instructions.Inst.{Inst}
use Rattle.spv_base.specs.declared.instructions.Operand.{Operand}
use Rattle.spv_base.specs.declared.values.Value.{Value, out-Value}
use Rattle.spv_index.specs.declared.classes.Class.{Class}
use Rattle.spv_index.specs.declared.classes.Class.TheVariants.{Function, Parameter, End, Label, Line, Phi, Variable, Terminator, Passed, Executable}
use Rattle.spv_index.specs.declared.positions.Position.{Position}
use Rattle.spv_index.specs.declared.positions.Stage.TheVariants.{Phis}
use Rattle.spv_index.specs.declared.positions.Standing.{Standing}
use Rattle.spv_index.specs.Classes.{class_of, is_label, sets_of}
use Rattle.spv_index.specs.Definitions.{number_at, number_of, result_type, stands_at}
use Rattle.spv_index.specs.Operands.{id_in}
use Rattle.spv_index.specs.Positions.{Stand, in_block, in_function, is_head, outside, position_after, standing, stands, stands_of}
use Rattle.spv_index.proofs.Exports.{standing_led, standing_of}
use Rattle.spv_cfg.specs.Branches.{is_later_block_of, is_target, stands_so}
use Rattle.spv_bodies.specs.Context.{Known, type_in, type_of}
use Rattle.spv_bodies.specs.Control.{KeepsPhi, firsts}
use Rattle.spv_valid.specs.Acceptance.{Accepted, IsAccepted}
use Rattle.spv_valid.specs.Validity.{IsValid}
use Rattle.spv_frame.specs.Frames.{Held as Frame}
use Rattle.spv_plans.proofs.Exports.{filtered, leading_at, map_from}
use Rattle.spv_operands.specs.Values.{value_of}
use Rattle.spv_results.specs.Operands.{known}
use Rattle.spv_results.proofs.Exports.{sound_types}
use Rattle.spv_state.specs.State.{depth_of, frames_of}
use Rattle.spv_state.proofs.Exports.{IsKnown}
use Rattle.spv_sites.specs.Fits.{IsOfType, LevelFits, ResultRooted}
use Rattle.spv_sites.specs.Phis.{behind_label, block_at, comes_first, first_ones, is_phi, pairs, phi_value, phi_values, phis_of, source_among}
use Rattle.spv_sites.specs.Sites.{Finds, IsSite, Site, accepted}
use Rattle.spv_sites.specs.declared.causes.Cause.{Cause}
use Rattle.spv_control.proofs.BranchLemmas.{joined}
use Rattle.spv_control.proofs.ControlCodes.{phi_kept}
use Rattle.spv_sites.proofs.Exports.{ValuesHaveShapes, PointersHaveShapes, IsKept, kept_each, InBlock, each_in_block, id_root, id_shape, shaped_level}
use Rattle.spv_base.proofs.Exports.{each_at}
use Rattle.spv_base.specs.Options.{holds}

-- ---- where the first instructions of a block stand

-- what is so of each instruction in a block is so of the first ones behind a label
walked : (P : Inst → Type 0) (sets : List (ℕ × Bool)) (q : Position) (is : List Inst) → q.stage ≡ Phis
    → ((k : ℕ) (s : Stand) → slice_get (stands sets q is) k ≡ Some s → in_block s.position.stage ≡ true → P s.inst)
    → (k : ℕ) (i : Inst) → slice_get (first_ones sets is) k ≡ Some i → P i
walked P sets q [] stage each k i h = absurd (cc)
walked P sets q (x ∷ is) stage each k i h =
    by_class (class_of sets x) (each 0 (record { position = q; class = class_of sets x; inst = x }) refl (ap in_block stage)) k h
    (λ kept. walked P sets (position_after q (class_of sets x) x) is kept (λ j s g. each (suc j) s g))
  where
    next : (c : Class) → P x → (k : ℕ) → slice_get (x ∷ first_ones sets is) k ≡ Some i → ((j : ℕ) → slice_get (first_ones sets is) j ≡ Some i → P i) → P i
    next c own zero g rest = let same : x ≡ i = cc in subst P same own
    next c own (suc j) g rest = rest j g

    by_class : (c : Class) → P x → (k : ℕ) → slice_get (cond (comes_first c) (x ∷ first_ones sets is) []) k ≡ Some i
        → ((position_after q c x).stage ≡ Phis → (j : ℕ) (i : Inst) → slice_get (first_ones sets is) j ≡ Some i → P i) → P i
    by_class Function own k g rest = absurd (cc)
    by_class Parameter own k g rest = absurd (cc)
    by_class End own k g rest = absurd (cc)
    by_class Label own k g rest = absurd (cc)
    by_class Line own k g rest = next Line own k g (λ j e. rest stage j i e)
    by_class Phi own k g rest = next Phi own k g (λ j e. rest stage j i e)
    by_class Variable own k g rest = absurd (cc)
    by_class Terminator own k g rest = absurd (cc)
    by_class Passed own k g rest = absurd (cc)
    by_class Executable own k g rest = absurd (cc)

-- the stands behind one
behind_stands : (sets : List (ℕ × Bool)) (q : Position) (insts : List Inst) (n : ℕ) (s : Stand) → slice_get (stands sets q insts) n ≡ Some s
    → (k : ℕ) (t : Stand) → slice_get (stands sets (position_after s.position s.class s.inst) (drop (suc n) insts)) k ≡ Some t → (m : ℕ) × (slice_get (stands sets q insts) m ≡ Some t)
behind_stands sets q [] n s h k t g = absurd (cc)
behind_stands sets q (i ∷ insts) zero s h k t g =
    let same : (record { position = q; class = class_of sets i; inst = i }) ≡ s = cc in
    (suc k, subst (λ (u : Stand). slice_get (stands sets (position_after u.position u.class u.inst) insts) k ≡ Some t) (sym same) g)
behind_stands sets q (i ∷ insts) (suc n) s h k t g =
    let later = behind_stands sets (position_after q (class_of sets i) i) insts n s h k t g in
    (suc later.0, later.1)

-- the OpLabel of a block
record Labels (insts : List Inst) (number : ℕ) : Type 0 where
  stand : Stand
  is : slice_get (stands_of insts) number ≡ Some stand
  label : is_label stand.class ≡ true
  inside : in_function stand.position.stage ≡ true

labels_there : (insts : List Inst) (function label n : ℕ) → is_target insts function label ≡ true → number_of insts label ≡ Some n → Labels insts n
labels_there insts function label n target number = by_standing (slice_get (map standing (stands_of insts)) n) refl (ap (stands_so (is_later_block_of function)) (standing_of insts label (Some n) (sym number)) ∙ target)
  where
    by_standing : (o : Option Standing) → slice_get (map standing (stands_of insts)) n ≡ o → stands_so (is_later_block_of function) o ≡ true → Labels insts n
    by_standing None e h = absurd (cc)
    by_standing (Some t) e h =
        let from = map_from standing (stands_of insts) n t e in
        let block = (and_parts (is_label t.class && (in_function t.position.stage && (t.position.function == function))) (not (is_head t.position.stage)) h).0 in
        let parts = and_parts (is_label t.class) (in_function t.position.stage && (t.position.function == function)) block in
        record {
          stand = from.0;
          is = from.1;
          label = ap (λ (u : Standing). is_label u.class) from.2 ∙ parts.0;
          inside = ap (λ (u : Standing). in_function u.position.stage) from.2 ∙ (and_parts (in_function t.position.stage) (t.position.function == function) parts.1).0;
        }

-- behind it the block begins
begun : (q : Position) (c : Class) (i : Inst) → is_label c ≡ true → in_function q.stage ≡ true → (position_after q c i).stage ≡ Phis
begun = grind arith

-- ---- the rule that phis keep

module _ (a : Accepted) (accepts : IsAccepted a) (valid : IsValid a) (function label : ℕ) (target : is_target a.insts function label ≡ true) where
  kept_behind : (n : ℕ) → number_of a.insts label ≡ Some n → (k : ℕ) (i : Inst) → slice_get (first_ones (sets_of a.insts) (drop (suc n) a.insts)) k ≡ Some i → IsKept (known a) i
  kept_behind n number k i h =
      let there = labels_there a.insts function label n target number in
      let sets = sets_of a.insts in
      walked (IsKept (known a)) sets (position_after there.stand.position there.stand.class there.stand.inst) (drop (suc n) a.insts) (begun there.stand.position there.stand.class there.stand.inst there.label there.inside)
      (λ j s g inside. let m = behind_stands sets outside a.insts n there.stand there.is j s g in each_at (InBlock (IsKept (known a))) (stands_of a.insts) m.0 s (each_in_block (IsKept (known a)) sets outside a.insts refl (kept_each a accepts valid)) m.1 inside) k i h

  kept_first : (k : ℕ) (i : Inst) → slice_get (first_ones (sets_of a.insts) (behind_label a.insts label)) k ≡ Some i → IsKept (known a) i
  kept_first k i h = by_number (number_of a.insts label) refl h
    where
      by_number : (o : Option ℕ) → number_of a.insts label ≡ o → slice_get (first_ones (sets_of a.insts) (option_map_or (λ (n : ℕ). drop (suc n) a.insts) o [])) k ≡ Some i → IsKept (known a) i
      by_number None e g = absurd (cc)
      by_number (Some n) e g = kept_behind n e k i g

  pub phi_keeps : (k : ℕ) (i : Inst) → slice_get (first_ones (sets_of a.insts) (behind_label a.insts label)) k ≡ Some i → is_phi i ≡ true → KeepsPhi (known a) i
  phi_keeps k i h phi = phi_kept (known a) i (kept_first k i h) (eqb-true i.op 245 phi)

module _ (a b : Accepted) (same : b ≡ a) (accepts : ∥ IsAccepted b ∥₁) (valid : ∥ IsValid b ∥₁) (function label : ℕ) (target : is_target a.insts function label ≡ true) where
  typed_prop : (ty : ℕ) (o : Operand) → IsProp (type_in (known a) o ≡ Some ty)
  typed_prop ty o = hlevel (props, codes)

  keeps_prop : (i : Inst) → IsProp (KeepsPhi (known a) i)
  keeps_prop i = hlevel (props, typed_prop i.ty)

  pub phis_keep : (k : ℕ) (i : Inst) → slice_get (first_ones (sets_of a.insts) (behind_label a.insts label)) k ≡ Some i → is_phi i ≡ true → KeepsPhi (known a) i
  phis_keep k i h phi =
      ∥∥₁_elim (subst (λ (x : Accepted). ∥ IsAccepted x ∥₁) same accepts) (keeps_prop i) (λ (g : IsAccepted a).
      ∥∥₁_elim (subst (λ (x : Accepted). ∥ IsValid x ∥₁) same valid) (keeps_prop i) (λ (v : IsValid a).
      phi_keeps a g v function label target k i h phi))

-- ---- the block of a word

led : (insts : List Inst) (word : ℕ) (number : Option ℕ) → number ≡ number_at insts word
    → option_and_then (slice_get (map standing (stands_of insts))) number ≡ option_map standing (find (λ (s : Stand). stands_at word s.inst) (stands_of insts))
unfolding number_at
led insts word number h = standing_led (stands_at word) (sets_of insts) outside insts number h

label_by : (o : Option Standing) (p : Option Stand) → o ≡ option_map standing p → option_map_or (λ (t : Standing). t.position.label) o 0 ≡ option_map_or (λ (s : Stand). s.position.label) p 0
label_by o None h = ap (λ (x : Option Standing). option_map_or (λ (t : Standing). t.position.label) x 0) h
label_by o (Some s) h = ap (λ (x : Option Standing). option_map_or (λ (t : Standing). t.position.label) x 0) h

pub block_found : (insts : List Inst) (word n : ℕ) (us : List Standing) (d : Standing) → us ≡ map standing (stands_of insts) → Some n ≡ number_at insts word → n < length us → (get_or us n d).position.label ≡ block_at insts word
block_found insts word n us d is number lt =
    label_by (Some (get_or us n d)) (find (λ (s : Stand). stands_at word s.inst) (stands_of insts)) (sym (slice_get-get_or us n d lt) ∙ ap (λ (xs : List Standing). slice_get xs n) is ∙ led insts word (Some n) number)

pub block_missing : (insts : List Inst) (word : ℕ) → None ≡ number_at insts word → 0 ≡ block_at insts word
block_missing insts word number = label_by None (find (λ (s : Stand). stands_at word s.inst) (stands_of insts)) (led insts word None number)

-- the first instructions of a block are among all
dropped_at : {X : Type 0} (n k : ℕ) (xs : List X) (x : X) → slice_get (drop n xs) k ≡ Some x → (m : ℕ) × (slice_get xs m ≡ Some x)
dropped_at zero k [] x h = absurd (cc)
dropped_at zero k (y ∷ xs) x h = (k, h)
dropped_at (suc n) k [] x h = absurd (cc)
dropped_at (suc n) k (y ∷ xs) x h = let later = dropped_at n k xs x h in (suc later.0, later.1)

first_there : (insts : List Inst) (label k : ℕ) (i : Inst) → slice_get (first_ones (sets_of insts) (behind_label insts label)) k ≡ Some i → (n : ℕ) × (slice_get insts n ≡ Some i)
first_there insts label k i h = by_number (number_of insts label) (leading_at (λ (x : Inst). comes_first (class_of (sets_of insts) x)) (behind_label insts label) k i h)
  where
    by_number : (o : Option ℕ) → slice_get (option_map_or (λ (n : ℕ). drop (suc n) insts) o []) k ≡ Some i → (n : ℕ) × (slice_get insts n ≡ Some i)
    by_number None g = absurd (cc)
    by_number (Some n) g = dropped_at (suc n) k insts i g

-- ---- types

-- the id that a phi takes its value from has the phi's type
source_type : (k : Known) (ty : ℕ) (os : List Operand) (from id : ℕ) → AllByRecursion (λ (o : Operand). type_in k o ≡ Some ty) (firsts os) → source_among os from ≡ Some id → result_type k.insts id ≡ Some ty
source_type k ty [] from id all is = absurd (cc)
source_type k ty (o ∷ []) from id all is = absurd (cc)
source_type k ty (o ∷ p ∷ os) from id all is = by_parent (holds from (id_in p)) is (source_type k ty os from id all.1)
  where
    by_id : (x : Option ℕ) → option_and_then (type_of k) x ≡ Some ty → x ≡ Some id → result_type k.insts id ≡ Some ty
    by_id None t e = absurd (cc)
    by_id (Some y) t e = let same : y ≡ id = cc in subst (λ (z : ℕ). result_type k.insts z ≡ Some ty) same t

    by_parent : (b : Bool) → option_and_then (λ (r : Operand × Operand). id_in r.0) (cond b (Some (o, p)) (find (λ (r : Operand × Operand). holds from (id_in r.1)) (pairs os))) ≡ Some id
        → (source_among os from ≡ Some id → result_type k.insts id ≡ Some ty) → result_type k.insts id ≡ Some ty
    by_parent true e rest = by_id (id_in o) all.0 e
    by_parent false e rest = rest e

pub source_typed : (k : Known) (phi : Inst) (from id : ℕ) → KeepsPhi k phi → source_among phi.operands from ≡ Some id → result_type k.insts id ≡ Some phi.ty
source_typed k phi from id kept is = source_type k phi.ty phi.operands from id (recursion_from_All (λ (o : Operand). type_in k o ≡ Some phi.ty) (firsts phi.operands) kept.1) is

-- an id of a phi, and the value that it takes
record Takes (a : Accepted) (f : Frame) (depth from : ℕ) (phi : Inst) (r : ℕ × Value) : Type 0 where
  source : ℕ
  is : source_among phi.operands from ≡ Some source
  value : value_of a f depth source ≡ Some r.1
  own : phi.id ≡ r.0

takes : (a : Accepted) (f : Frame) (depth from : ℕ) (phi : Inst) (r : ℕ × Value) → phi_value a f depth from phi ≡ Some r → Takes a f depth from phi r
takes a f depth from phi r h = by_source (source_among phi.operands from) refl h
  where
    by_value : (id : ℕ) → source_among phi.operands from ≡ Some id → (o : Option Value) → value_of a f depth id ≡ o → option_map (λ (v : Value). (phi.id, v)) o ≡ Some r → Takes a f depth from phi r
    by_value id e None t g = absurd (cc)
    by_value id e (Some v) t g =
        let same : (phi.id, v) ≡ r = cc in
        record { source = id; is = e; value = t ∙ ap (λ (p : ℕ × Value). Some p.1) same; own = ap (λ (p : ℕ × Value). p.0) same }

    by_source : (o : Option ℕ) → source_among phi.operands from ≡ o → option_map (λ (v : Value). (phi.id, v)) (option_and_then (value_of a f depth) o) ≡ Some r → Takes a f depth from phi r
    by_source None e g = absurd (cc)
    by_source (Some id) e g = by_value id e (value_of a f depth id) refl g

-- what is so of each value that a phi takes is so of those that several take
module _ (a : Accepted) (f : Frame) (depth from : ℕ) (P : ℕ × Value → Type 0) where
  each_taken : (phis : List Inst) (rs : List (ℕ × Value)) → ((k : ℕ) (phi : Inst) (r : ℕ × Value) → slice_get phis k ≡ Some phi → phi_value a f depth from phi ≡ Some r → P r)
      → phi_values a f depth from phis ≡ Some rs → AllByRecursion P rs
  each_taken [] rs each h = let same : [] ≡ rs = cc in subst (AllByRecursion P) same tt
  each_taken (phi ∷ phis) rs each h = by_value (phi_value a f depth from phi) refl (phi_values a f depth from phis) refl h (λ us. each_taken phis us (λ k y r at. each (suc k) y r at))
    where
      by_value : (o : Option (ℕ × Value)) → phi_value a f depth from phi ≡ o → (p : Option (List (ℕ × Value))) → phi_values a f depth from phis ≡ p
          → option_and_then (λ (r : ℕ × Value). option_map (λ (us : List (ℕ × Value)). r ∷ us) p) o ≡ Some rs
          → ((us : List (ℕ × Value)) → phi_values a f depth from phis ≡ Some us → AllByRecursion P us) → AllByRecursion P rs
      by_value None e p g t rest = absurd (cc)
      by_value (Some r) e None g t rest = absurd (cc)
      by_value (Some r) e (Some us) g t rest = let same : (r ∷ us) ≡ rs = cc in subst (AllByRecursion P) same (each 0 phi r refl e, rest us g)

-- the phis of a block, with the rule that they keep
abbrev KeepPhis : Accepted → ℕ → Type 0
KeepPhis a label = (k : ℕ) (phi : Inst) → slice_get (first_ones (sets_of a.insts) (behind_label a.insts label)) k ≡ Some phi → is_phi phi ≡ true → KeepsPhi (known a) phi

record IsPhiOf (a : Accepted) (phi : Inst) : Type 0 where
  number : ℕ
  at : slice_get a.insts number ≡ Some phi
  keeps : KeepsPhi (known a) phi

phi_there : (a : Accepted) (label k : ℕ) (phi : Inst) → KeepPhis a label → slice_get (phis_of a.insts label) k ≡ Some phi → IsPhiOf a phi
phi_there a label k phi keeps at =
    let f = filtered is_phi (first_ones (sets_of a.insts) (behind_label a.insts label)) k phi at in
    let there = first_there a.insts label f.0 phi f.1 in
    record { number = there.0; at = there.1; keeps = keeps f.0 phi f.1 f.2 }

module _ (x : Site) (accepts : ∥ IsAccepted (accepted x) ∥₁) (valid : ∥ IsValid (accepted x) ∥₁) (site : ∥ IsSite x ∥₁) (from label : ℕ) (rs : List (ℕ × Value))
    (keeps : KeepPhis (accepted x) label) (are : phi_values (accepted x) x.frame (depth_of x.state x.inv) from (phis_of (accepted x).insts label) ≡ Some rs) where
  -- they have the types of the phis' ids
  module _ (values : ValuesHaveShapes) (pointers : PointersHaveShapes) (known_is : IsKnown (accepted x)) where
    value_fits : (phi : Inst) (r : ℕ × Value) → IsPhiOf (accepted x) phi → phi_value (accepted x) x.frame (depth_of x.state x.inv) from phi ≡ Some r → IsOfType (accepted x) r.0 r.1
    value_fits phi r own h ty type =
        let t = takes (accepted x) x.frame (depth_of x.state x.inv) from phi r h in
        let shape = id_shape values pointers x t.source phi.ty r.1 (accepted x) refl accepts site t.value (source_typed (known (accepted x)) phi from t.source own.keeps t.is) in
        let same : ty ≡ phi.ty = known_is.types own.number ty phi own.at (ap (result_type (accepted x).insts) t.own ∙ type) in
        subst (λ (u : ℕ). LevelFits (accepted x) u r.1 (out-Value r.1)) (sym same) (shaped_level (accepted x) (sound_types (accepted x) valid) phi.ty r.1 shape)

    pub block_fits : AllByRecursion (λ (r : ℕ × Value). IsOfType (accepted x) r.0 r.1) rs
    block_fits =
        each_taken (accepted x) x.frame (depth_of x.state x.inv) from (λ (r : ℕ × Value). IsOfType (accepted x) r.0 r.1) (phis_of (accepted x).insts label) rs
        (λ k phi r at. value_fits phi r (phi_there (accepted x) label k phi keeps at)) are

  -- and those that are pointers name variables that are there
  value_rooted : (phi : Inst) (r : ℕ × Value) → IsPhiOf (accepted x) phi → phi_value (accepted x) x.frame (depth_of x.state x.inv) from phi ≡ Some r
      → ResultRooted (accepted x) (frames_of x.state x.inv) (Some r.1)
  value_rooted phi r own h q is =
      let t = takes (accepted x) x.frame (depth_of x.state x.inv) from phi r h in
      id_root x t.source phi.ty r.1 q (accepted x) refl accepts valid site t.value (source_typed (known (accepted x)) phi from t.source own.keeps t.is) is

  pub block_rooted : AllByRecursion (λ (r : ℕ × Value). ResultRooted (accepted x) (frames_of x.state x.inv) (Some r.1)) rs
  block_rooted =
      each_taken (accepted x) x.frame (depth_of x.state x.inv) from (λ (r : ℕ × Value). ResultRooted (accepted x) (frames_of x.state x.inv) (Some r.1)) (phis_of (accepted x).insts label) rs
      (λ k phi r at. value_rooted phi r (phi_there (accepted x) label k phi keeps at)) are

-- ---- the phis so far

module _ (a : Accepted) (f : Frame) (depth from : ℕ) where
  abbrev taken_from : List Inst → ℕ → Option (List (ℕ × Value))
  taken_from insts n = phi_values a f depth from (filter is_phi (drop n insts))

  next_taken : (insts : List Inst) (n : ℕ) (i : Inst) → n < length insts → i ≡ get_or insts n i → is_phi i ≡ true
      → taken_from insts n ≡ option_and_then (λ (r : ℕ × Value). option_map (λ (rs : List (ℕ × Value)). r ∷ rs) (taken_from insts (n + 1))) (phi_value a f depth from i)
  next_taken insts n i lt at phi = rw (drop-cons insts n i lt, ← at, phi, add-one) refl

  pub one_taken : (all : Option (List (ℕ × Value))) (insts : List Inst) (n : ℕ) (i : Inst) (values : List (ℕ × Value)) (r : ℕ × Value) → n < length insts → i ≡ get_or insts n i → is_phi i ≡ true
      → phi_value a f depth from i ≡ Some r → all ≡ option_map (λ (rs : List (ℕ × Value)). values ++ rs) (taken_from insts n)
      → all ≡ option_map (λ (rs : List (ℕ × Value)). (values ++ r ∷ []) ++ rs) (taken_from insts (n + 1))
  one_taken all insts n i values r lt at phi value so_far =
      so_far ∙ ap (option_map (λ (rs : List (ℕ × Value)). values ++ rs)) (next_taken insts n i lt at phi
      ∙ ap (option_and_then (λ (u : ℕ × Value). option_map (λ (rs : List (ℕ × Value)). u ∷ rs) (taken_from insts (n + 1)))) value)
      ∙ joined values r (taken_from insts (n + 1))

  pub other_taken : (insts : List Inst) (n : ℕ) (i : Inst) → n < length insts → i ≡ get_or insts n i → is_phi i ≡ false → taken_from insts n ≡ taken_from insts (n + 1)
  other_taken insts n i lt at other = rw (drop-cons insts n i lt, ← at, other, add-one) refl

-- the same under other names
pub taken_as : (a : Accepted) (f : Frame) (depth from other : ℕ) (is js : List Inst) (r : Result (List (ℕ × Value)) (Fail Cause)) → from ≡ other → is ≡ js
    → Finds (phi_values a f depth from (filter is_phi is)) r → Finds (phi_values a f depth other (filter is_phi js)) r
taken_as a f depth from other is js r same list h =
    subst (λ (ks : List Inst). Finds (phi_values a f depth other (filter is_phi ks)) r) list (subst (λ (b : ℕ). Finds (phi_values a f depth b (filter is_phi is)) r) same h)
