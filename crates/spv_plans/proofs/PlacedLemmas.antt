-- What an id gives among the registers of plans.
use Rattle.std.proofs.Common.{◌≡◌, ◌∙◌, ℕ, zero, suc, ◌+◌, ◌<◌, ◌==◌, Bool, true, false, cond, List, [], ◌∷◌, Option, Some, None, map, slice_get, refl, sym, ap, subst, arith}
use Rattle.std.specs.Option.{option_map}
use Rattle.spv_base.specs.Entries.{reads}
use Rattle.spv_frame.specs.declared.functions.Register.{Register}
use Rattle.spv_frame.specs.declared.slots.Place.{Place}
use Rattle.spv_frame.specs.declared.slots.Place.TheVariants.{Value, Pointer}
use Rattle.spv_frame.specs.Functions.{numbered, placed, registers_from, registers_in, registers_of}
use Rattle.spv_frame.specs.Registers.{Planned, ids, number_of}
use Rattle.spv_plans.specs.Plans.{id_at}
use Rattle.spv_plans.specs.Registered.{IsAbsent}
use Rattle.spv_plans.proofs.NumberLemmas.{number_gets, read_behind, read_front, read_neither}

abbrev pub at_place : ℕ → Place → Register
at_place plan place = record { plan = plan; place = place }

-- ---- registers of one kind

placed_reads : (plan : ℕ) (kind : ℕ → Place) (n id : ℕ) (ks : List ℕ) → reads id (placed plan kind n ks) ≡ option_map (λ m. at_place plan (kind (n + m))) (number_of id ks)
placed_reads plan kind n id [] = refl
placed_reads plan kind n id (k ∷ ks) = by_test (k == id) (placed_reads plan kind (suc n) id ks)
  where
    own : at_place plan (kind n) ≡ at_place plan (kind (n + 0))
    own = let e : n ≡ n + 0 = omega arith in ap (λ (j : ℕ). at_place plan (kind j)) e

    later : (o : Option ℕ) → option_map (λ m. at_place plan (kind (suc n + m))) o ≡ option_map (λ m. at_place plan (kind (n + m))) (option_map suc o)
    later None = refl
    later (Some m) = let e : suc n + m ≡ n + suc m = omega arith in ap (λ (j : ℕ). Some (at_place plan (kind j))) e

    by_test : (b : Bool) → reads id (placed plan kind (suc n) ks) ≡ option_map (λ m. at_place plan (kind (suc n + m))) (number_of id ks)
        → cond b (Some (at_place plan (kind n))) (reads id (placed plan kind (suc n) ks)) ≡ option_map (λ m. at_place plan (kind (n + m))) (cond b (Some 0) (option_map suc (number_of id ks)))
    by_test true rest = ap Some own
    by_test false rest = rest ∙ later (number_of id ks)

kind_reads : (plan : ℕ) (kind : ℕ → Place) (id : ℕ) (ks : List ℕ) → reads id (placed plan kind 0 ks) ≡ option_map (λ m. at_place plan (kind m)) (number_of id ks)
kind_reads plan kind id ks = placed_reads plan kind 0 id ks ∙ first (number_of id ks)
  where
    first : (o : Option ℕ) → option_map (λ m. at_place plan (kind (0 + m))) o ≡ option_map (λ m. at_place plan (kind m)) o
    first None = refl
    first (Some m) = let e : 0 + m ≡ m = omega arith in ap (λ (j : ℕ). Some (at_place plan (kind j))) e

kind_read : (plan : ℕ) (kind : ℕ → Place) (id : ℕ) (ks : List ℕ) (n : ℕ) → number_of id ks ≡ Some n → reads id (placed plan kind 0 ks) ≡ Some (at_place plan (kind n))
kind_read plan kind id ks n h = kind_reads plan kind id ks ∙ ap (option_map (λ m. at_place plan (kind m))) h

kind_none : (plan : ℕ) (kind : ℕ → Place) (id : ℕ) (ks : List ℕ) → number_of id ks ≡ None → reads id (placed plan kind 0 ks) ≡ None
kind_none plan kind id ks h = kind_reads plan kind id ks ∙ ap (option_map (λ m. at_place plan (kind m))) h

-- ---- registers of one plan

pub value_read : (k : ℕ) (p : Planned) (id n : ℕ) → number_of id (ids p.values) ≡ Some n → reads id (registers_in k p) ≡ Some (at_place k (Value n))
value_read k p id n h = read_front id (placed k Value 0 (ids p.values)) (placed k Pointer 0 p.pointers) (at_place k (Value n)) (kind_read k Value id (ids p.values) n h)

pub pointer_read : (k : ℕ) (p : Planned) (id n : ℕ) → number_of id (ids p.values) ≡ None → number_of id p.pointers ≡ Some n → reads id (registers_in k p) ≡ Some (at_place k (Pointer n))
pointer_read k p id n none h =
    read_behind id (placed k Value 0 (ids p.values)) (placed k Pointer 0 p.pointers) (kind_none k Value id (ids p.values) none) ∙ kind_read k Pointer id p.pointers n h

pub absent_read : (k : ℕ) (p : Planned) (id : ℕ) → IsAbsent id p → reads id (registers_in k p) ≡ None
absent_read k p id h =
    read_behind id (placed k Value 0 (ids p.values)) (placed k Pointer 0 p.pointers) (kind_none k Value id (ids p.values) h.values) ∙ kind_none k Pointer id p.pointers h.pointers

none_of_kind : (plan : ℕ) (kind : ℕ → Place) (id : ℕ) (ks : List ℕ) → reads id (placed plan kind 0 ks) ≡ None → number_of id ks ≡ None
none_of_kind plan kind id ks h = by_number (number_of id ks) refl
  where
    by_number : (o : Option ℕ) → number_of id ks ≡ o → number_of id ks ≡ None
    by_number None e = e
    by_number (Some n) e = let clash : None ≡ Some (at_place plan (kind n)) = sym h ∙ kind_read plan kind id ks n e in absurd (cc)

pub none_read : (k : ℕ) (p : Planned) (id : ℕ) → reads id (registers_in k p) ≡ None → IsAbsent id p
none_read k p id h =
    let neither = read_neither id (placed k Value 0 (ids p.values)) (placed k Pointer 0 p.pointers) h in
    record { values = none_of_kind k Value id (ids p.values) neither.0; pointers = none_of_kind k Pointer id p.pointers neither.1 }

-- where a register stands in its plan
pub record Stands (k : ℕ) (p : Planned) (id : ℕ) (r : Register) : Type 0 where
  pub plan : r.plan ≡ k
  pub at : id_at p.values p.pointers r.place ≡ Some id

pub register_read : (k : ℕ) (p : Planned) (id : ℕ) (r : Register) → reads id (registers_in k p) ≡ Some r → Stands k p id r
register_read k p id r h = by_value (number_of id (ids p.values)) refl
  where
    by_pointer : (o : Option ℕ) → number_of id (ids p.values) ≡ None → number_of id p.pointers ≡ o → Stands k p id r
    by_pointer None none e = let clash : None ≡ Some r = sym (absent_read k p id (record { values = none; pointers = e })) ∙ h in absurd (cc)
    by_pointer (Some n) none e =
        let both : Some (at_place k (Pointer n)) ≡ Some r = sym (pointer_read k p id n none e) ∙ h in
        let same : at_place k (Pointer n) ≡ r = cc in
        subst (Stands k p id) same (record { plan = refl; at = number_gets id p.pointers n e })

    by_value : (o : Option ℕ) → number_of id (ids p.values) ≡ o → Stands k p id r
    by_value None e = by_pointer (number_of id p.pointers) e refl
    by_value (Some n) e =
        let both : Some (at_place k (Value n)) ≡ Some r = sym (value_read k p id n e) ∙ h in
        let same : at_place k (Value n) ≡ r = cc in
        subst (Stands k p id) same (record { plan = refl; at = number_gets id (ids p.values) n e })

-- ---- registers of some plans, of which the first has number m

-- what an id gives in a plan it gives among the plans, where no plan before has it
pub read_from : (m k : ℕ) (ps : List Planned) (p : Planned) (id : ℕ) (r : Register) → slice_get ps k ≡ Some p → ((j : ℕ) (q : Planned) → j < k → slice_get ps j ≡ Some q → IsAbsent id q)
    → reads id (registers_in (m + k) p) ≡ Some r → reads id (registers_from m ps) ≡ Some r
read_from m k [] p id r at before h = absurd (cc)
read_from m zero (q ∷ ps) p id r at before h =
    let same : q ≡ p = cc in
    let e : m + 0 ≡ m = omega arith in
    read_front id (registers_in m q) (registers_from (suc m) ps) r
    (ap (λ (x : Planned). reads id (registers_in m x)) same ∙ ap (λ (j : ℕ). reads id (registers_in j p)) (sym e) ∙ h)
read_from m (suc k) (q ∷ ps) p id r at before h =
    let none : reads id (registers_in m q) ≡ None = absent_read m q id (before 0 q (omega arith) refl) in
    let e : m + suc k ≡ suc m + k = omega arith in
    read_behind id (registers_in m q) (registers_from (suc m) ps) none
    ∙ read_from (suc m) k ps p id r at (λ j x less there. before (suc j) x (omega arith) there) (ap (λ (j : ℕ). reads id (registers_in j p)) (sym e) ∙ h)

-- the plan in which an id is
pub record Found (m : ℕ) (ps : List Planned) (id : ℕ) (r : Register) : Type 0 where
  pub number : ℕ
  pub plan : Planned
  pub at : slice_get ps number ≡ Some plan
  pub stands : Stands (m + number) plan id r

pub found_from : (m : ℕ) (ps : List Planned) (id : ℕ) (r : Register) → reads id (registers_from m ps) ≡ Some r → Found m ps id r
found_from m [] id r h = absurd (cc)
found_from m (p ∷ ps) id r h = by_own (reads id (registers_in m p)) refl (found_from (suc m) ps id r)
  where
    by_own : (o : Option Register) → reads id (registers_in m p) ≡ o → (reads id (registers_from (suc m) ps) ≡ Some r → Found (suc m) ps id r) → Found m (p ∷ ps) id r
    by_own None e rest =
        let f = rest (sym (read_behind id (registers_in m p) (registers_from (suc m) ps) e) ∙ h) in
        let number : suc m + f.number ≡ m + suc f.number = omega arith in
        record { number = suc f.number; plan = f.plan; at = f.at; stands = subst (λ (j : ℕ). Stands j f.plan id r) number f.stands }
    by_own (Some x) e rest =
        let both : Some x ≡ Some r = sym (read_front id (registers_in m p) (registers_from (suc m) ps) x e) ∙ h in
        let number : m ≡ m + 0 = omega arith in
        record { number = 0; plan = p; at = refl; stands = subst (λ (j : ℕ). Stands j p id r) number (register_read m p id r (e ∙ both)) }

pub absent_from : (m : ℕ) (ps : List Planned) (id k : ℕ) (p : Planned) → reads id (registers_from m ps) ≡ None → slice_get ps k ≡ Some p → IsAbsent id p
absent_from m [] id k p h at = absurd (cc)
absent_from m (q ∷ ps) id zero p h at =
    let same : q ≡ p = cc in
    subst (IsAbsent id) same (none_read m q id (read_neither id (registers_in m q) (registers_from (suc m) ps) h).0)
absent_from m (q ∷ ps) id (suc k) p h at = absent_from (suc m) ps id k p (read_neither id (registers_in m q) (registers_from (suc m) ps) h).1 at

-- ---- the numbers of plans

numbers_from : (m function : ℕ) (ps : List Planned) → reads function (numbered m ps) ≡ option_map (λ n. m + n) (number_of function (map (λ (p : Planned). p.function) ps))
numbers_from m function [] = refl
numbers_from m function (p ∷ ps) = by_test (p.function == function) (numbers_from (suc m) function ps)
  where
    own : m ≡ m + 0
    own = omega arith

    later : (o : Option ℕ) → option_map (λ n. suc m + n) o ≡ option_map (λ n. m + n) (option_map suc o)
    later None = refl
    later (Some n) = let e : suc m + n ≡ m + suc n = omega arith in ap Some e

    by_test : (b : Bool) → reads function (numbered (suc m) ps) ≡ option_map (λ n. suc m + n) (number_of function (map (λ (p : Planned). p.function) ps))
        → cond b (Some m) (reads function (numbered (suc m) ps)) ≡ option_map (λ n. m + n) (cond b (Some 0) (option_map suc (number_of function (map (λ (p : Planned). p.function) ps))))
    by_test true rest = ap Some own
    by_test false rest = rest ∙ later (number_of function (map (λ (p : Planned). p.function) ps))

-- the number of a plan is that of its function
pub numbers_are : (function : ℕ) (ps : List Planned) → reads function (numbered 0 ps) ≡ number_of function (map (λ (p : Planned). p.function) ps)
numbers_are function ps = numbers_from 0 function ps ∙ first (number_of function (map (λ (p : Planned). p.function) ps))
  where
    first : (o : Option ℕ) → option_map (λ n. 0 + n) o ≡ o
    first None = refl
    first (Some n) = let e : 0 + n ≡ n = omega arith in ap Some e

-- ---- registers of the plans of a module, of which the first has number 0

pub read_of : (ps : List Planned) (k : ℕ) (p : Planned) (id : ℕ) (r : Register) → slice_get ps k ≡ Some p → ((j : ℕ) (q : Planned) → j < k → slice_get ps j ≡ Some q → IsAbsent id q)
    → reads id (registers_in k p) ≡ Some r → reads id (registers_of ps) ≡ Some r
read_of ps k p id r at before h =
    let e : k ≡ 0 + k = omega arith in
    read_from 0 k ps p id r at before (subst (λ (j : ℕ). reads id (registers_in j p) ≡ Some r) e h)

-- where a register stands among the plans
pub record StandsAmong (ps : List Planned) (id : ℕ) (r : Register) : Type 0 where
  pub plan : Planned
  pub numbered : slice_get ps r.plan ≡ Some plan
  pub at : id_at plan.values plan.pointers r.place ≡ Some id

pub found_of : (ps : List Planned) (id : ℕ) (r : Register) → reads id (registers_of ps) ≡ Some r → StandsAmong ps id r
found_of ps id r h =
    let f = found_from 0 ps id r h in
    let e : 0 + f.number ≡ f.number = omega arith in
    record { plan = f.plan; numbered = ap (slice_get ps) (f.stands.plan ∙ e) ∙ f.at; at = f.stands.at }
