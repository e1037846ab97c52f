-- What an accepted module gives to a step: its instructions by their words and results, and where executables go on.
use Rattle.std.proofs.Common.{◌≡◌, ◌≢◌, ◌⊎◌, ◌∙◌, inl, inr, ℕ, zero, suc, ◌==◌, Bool, true, false, List, [], ◌∷◌, Option, Some, None, slice_get, refl, sym, ap, subst}
use Rattle.std.proofs.Math.Logic.{∥∥₁_elim}
use Rattle.std.proofs.Props.{props}
use Rattle.std.proofs.lemmas.Bool.{eq-eqb, eqb-true}
use Rattle.std.specs.Coded.{codes}
use Rattle.std.specs.Prelude.{find, if◌then◌else◌}
use Rattle.std.specs.List.{AllByRecursion}
use Rattle.std.specs.Option.{is_some, option_and_then}
use Rattle.spv_base.specs.Entries.{reads}
use Rattle.spv_base.specs.Order.{AreDistinct}
use Rattle.spv_base.specs.declared.instructions.Inst.{Inst}
use Rattle.spv_index.specs.declared.classes.Class.TheVariants.{Label}
use Rattle.spv_index.specs.Classes.{is_terminator, sets_of}
use Rattle.spv_index.specs.Definitions.{defining, has_result, is_id, result_type, type_in}
use Rattle.spv_index.specs.Positions.{Stand, stands_of}
use Rattle.spv_valid.specs.Below.spv_sections.specs.Laws.{IsInOrder}
use Rattle.spv_valid.specs.Below.spv_cfg.specs.Executables.{executables_of, followers_of}
use Rattle.spv_valid.specs.Below.spv_cfg.specs.Flow.{Flow}
use Rattle.spv_valid.specs.Below.spv_cfg.specs.Laws.{HasNext}
use Rattle.spv_valid.specs.Acceptance.{Accepted, IsAccepted, Passes, decoded_in}
use Rattle.spv_valid.specs.Validity.{IsValid}
use Rattle.spv_valid.proofs.Exports.{accepted_passes, flow_is}
use Rattle.spv_plans.specs.Members.{is_stop}
use Rattle.spv_state.proofs.Blocks.{label_named, opcode_of_label}
use Rattle.spv_state.proofs.Stands.{IsOne, OnePlace, class_is, same_place, stand_inst}
use Rattle.spv_base.proofs.Exports.{each_at}

-- ---- results

-- the instruction with a result is the one that is found for its id
other_id : (i : Inst) (is : List Inst) (k : ℕ) (x : Inst) → AllByRecursion (λ (later : Inst). later.id ≢ i.id) is → slice_get is k ≡ Some x → x.id ≢ i.id
other_id i [] k x all h = absurd (cc)
other_id i (y ∷ is) zero x all h = let same : y ≡ x = cc in subst (λ (z : Inst). z.id ≢ i.id) same all.0
other_id i (y ∷ is) (suc k) x all h = other_id i is k x all.1 h

pub found_once : (is : List Inst) (k : ℕ) (x y : Inst) → AreDistinct is → slice_get is k ≡ Some x → x.id ≢ 0 → find (has_result x.id) is ≡ Some y → y ≡ x
found_once [] k x y distinct h named found = absurd (cc)
found_once (i ∷ is) zero x y distinct h named found =
    let same : i ≡ x = cc in
    let own : (i.id == x.id) ≡ true = eq-eqb i.id x.id (ap (λ (z : Inst). z.id) same) in
    let here = rw own at found in
    let it : i ≡ y = cc in
    sym it ∙ same
found_once (i ∷ is) (suc k) x y distinct h named found = by_id (i.id == x.id) refl found (found_once is k x y distinct.1 h named)
  where
    apart : (i.id ≡ 0) ⊎ AllByRecursion (λ (later : Inst). later.id ≢ i.id) is → i.id ≡ x.id → ⊥
    apart (inl none) same = named (sym same ∙ none)
    apart (inr all) same = other_id i is k x all h (sym same)

    by_id : (b : Bool) → (i.id == x.id) ≡ b → (if b then Some i else find (has_result x.id) is) ≡ Some y → (find (has_result x.id) is ≡ Some y → y ≡ x) → y ≡ x
    by_id true e g rest = absurd (apart distinct.0 (eqb-true i.id x.id e))
    by_id false e g rest = rest g

-- an id is none of 0
id_named : (id : ℕ) → is_id id ≡ true → id ≢ 0
id_named id h none = let clash = rw none at h in absurd (cc)

pub typed : (insts : List Inst) (k : ℕ) (i : Inst) (ty : ℕ) → AreDistinct insts → slice_get insts k ≡ Some i → result_type insts i.id ≡ Some ty → ty ≡ i.ty
unfolding defining
typed insts k i ty distinct at h = by_id (is_id i.id) refl h
  where
    own : (n : ℕ) (b : Bool) → (if b then None else Some n) ≡ Some ty → ty ≡ n
    own n true g = absurd (cc)
    own n false g = cc

    by_found : (o : Option Inst) → find (has_result i.id) insts ≡ o → is_id i.id ≡ true → option_and_then type_in o ≡ Some ty → ty ≡ i.ty
    by_found None e id g = absurd (cc)
    by_found (Some j) e id g =
        let same : j ≡ i = found_once insts k i j distinct at (id_named i.id id) e in
        own j.ty (j.ty == 0) g ∙ ap (λ (x : Inst). x.ty) same

    by_id : (b : Bool) → is_id i.id ≡ b → option_and_then type_in (if b then find (has_result i.id) insts else None) ≡ Some ty → ty ≡ i.ty
    by_id true e g = by_found (find (has_result i.id) insts) refl e g
    by_id false e g = absurd (cc)

-- ---- labels

-- one stand for an id
same_number : (is : List Inst) (j k : ℕ) (x y : Inst) → AreDistinct is → slice_get is j ≡ Some x → slice_get is k ≡ Some y → x.id ≡ y.id → x.id ≢ 0 → j ≡ k
same_number [] j k x y distinct g h same named = absurd (cc)
same_number (i ∷ is) zero zero x y distinct g h same named = refl
same_number (i ∷ is) zero (suc k) x y distinct g h same named = absurd (apart distinct.0)
  where
    apart : (i.id ≡ 0) ⊎ AllByRecursion (λ (later : Inst). later.id ≢ i.id) is → ⊥
    apart (inl none) = let own : i ≡ x = cc in named (sym (ap (λ (z : Inst). z.id) own) ∙ none)
    apart (inr all) = let own : i ≡ x = cc in other_id i is k y all h (sym same ∙ sym (ap (λ (z : Inst). z.id) own))
same_number (i ∷ is) (suc j) zero x y distinct g h same named = absurd (apart distinct.0)
  where
    apart : (i.id ≡ 0) ⊎ AllByRecursion (λ (later : Inst). later.id ≢ i.id) is → ⊥
    apart (inl none) = let own : i ≡ y = cc in named (same ∙ sym (ap (λ (z : Inst). z.id) own) ∙ none)
    apart (inr all) = let own : i ≡ y = cc in other_id i is j x all g (same ∙ sym (ap (λ (z : Inst). z.id) own))
same_number (i ∷ is) (suc j) (suc k) x y distinct g h same named = ap suc (same_number is j k x y distinct.1 g h same named)

-- two OpLabels with one id are one
same_labels : (a : Accepted) → IsValid a → (s t : Stand) → IsOne (stands_of a.insts) s → IsOne (stands_of a.insts) t → s.class ≡ Label → s.inst.id ≡ t.inst.id → s ≡ t
same_labels a v s t one other class same =
    let order : IsInOrder (decoded_in a) s = each_at (IsInOrder (decoded_in a)) (stands_of a.insts) one.number s v.ids one.is in
    let op = opcode_of_label (sets_of a.insts) s.inst (sym (class_is a.insts s one) ∙ class) in
    let number = same_number a.insts one.number other.number s.inst t.inst v.named.distinct (stand_inst a.insts one.number s one.is) (stand_inst a.insts other.number t other.is) same
    (label_named (decoded_in a) s.inst order.result op) in
    let there : slice_get (stands_of a.insts) other.number ≡ Some s = subst (λ (n : ℕ). slice_get (stands_of a.insts) n ≡ Some s) number one.is in
    let it = other.is in
    cc

-- ---- what is known

-- an executable stands behind the one at a word in its block
abbrev pub goes_on : Accepted → ℕ → Bool
goes_on a word = is_some (option_and_then (λ n. n) (reads word a.flow.nexts))

pub record IsKnown (a : Accepted) : Type 0 where
  pub accepted : ∥ IsAccepted a ∥₁
  pub valid : ∥ IsValid a ∥₁
  pub words : OnePlace a.insts
  pub types : (k ty : ℕ) (i : Inst) → slice_get a.insts k ≡ Some i → result_type a.insts i.id ≡ Some ty → ty ≡ i.ty
  pub labels : (s t : Stand) → IsOne (stands_of a.insts) s → IsOne (stands_of a.insts) t → s.class ≡ Label → s.inst.id ≡ t.inst.id → s.position.function ≡ t.position.function
  pub nexts : a.flow.nexts ≡ followers_of (executables_of a.insts)
  pub goes_on : (s : Stand) → IsOne (stands_of a.insts) s → is_stop s ≡ true → is_terminator s.class ≡ false → goes_on a s.inst.word ≡ true

next_there : (a : Accepted) (s : Stand) → HasNext a.flow s → goes_on a s.inst.word ≡ true
next_there a s next = rw next.1 refl

pub known : (a : Accepted) → ∥ IsAccepted a ∥₁ → ∥ IsValid a ∥₁ → IsKnown a
known a accepted valid = record {
  accepted = accepted;
  valid = valid;
  words = λ j k x y g h same. ∥∥₁_elim accepted (hlevel (props, codes)) (λ (is : IsAccepted a). same_place 0 a.insts j k x y is.decoded.ascend g h same);
  types = λ k ty i at h. ∥∥₁_elim valid (hlevel (props, codes)) (λ (v : IsValid a). typed a.insts k i ty v.named.distinct at h);
  labels = λ s t one other class same. ∥∥₁_elim valid (hlevel (props, codes)) (λ (v : IsValid a). ap (λ (x : Stand). x.position.function) (same_labels a v s t one other class same));
  nexts = ∥∥₁_elim accepted (hlevel (props, codes)) (λ (is : IsAccepted a).
      let passes : Passes a is.name is.over = accepted_passes a is.name is.over is.is in
      ap (λ (f : Flow). f.nexts) (flow_is a.insts a.flow passes.flow));
  goes_on = λ s one stops goes. ∥∥₁_elim valid (hlevel (props, codes)) (λ (v : IsValid a).
      next_there a s (each_at (λ (t : Stand). is_stop t ≡ true → is_terminator t.class ≡ false → HasNext a.flow t) (stands_of a.insts) one.number s v.nexts one.is stops goes));
}

-- the same, where a module is told by another name
pub known_as : (a b : Accepted) → b ≡ a → ∥ IsAccepted b ∥₁ → ∥ IsValid b ∥₁ → IsKnown a
known_as a b same accepted valid = subst IsKnown same (known b accepted valid)
