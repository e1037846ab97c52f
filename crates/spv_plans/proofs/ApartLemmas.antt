-- No id of a register stands twice, since no id of a module is the result of two instructions.
use Rattle.std.proofs.Common.{◌≡◌, ◌≢◌, ◌⊎◌, ◌∙◌, inl, inr, ℕ, zero, suc, ◌==◌, ◌&&◌, Bool, true, false, cond, eqb, List, [], ◌∷◌, ◌++◌, Option, Some, map, slice_get, refl, sym, ap, subst}
use Rattle.std.proofs.lemmas.Bool.{and_parts, eq-eqb, ne_eqb}
use Rattle.std.specs.Prelude.{not}
use Rattle.std.specs.List.{AllByRecursion, filter, flat_map}
use Rattle.spv_base.specs.Order.{AreDistinct}
use Rattle.spv_base.specs.declared.instructions.Inst.{Inst}
use Rattle.spv_index.specs.declared.positions.Position.{Position}
use Rattle.spv_index.specs.Classes.{class_of}
use Rattle.spv_index.specs.Positions.{Stand, position_after, stands}
use Rattle.spv_types.specs.Types.{Types}
use Rattle.spv_frame.specs.Plans.{AreApart}
use Rattle.spv_frame.specs.Registers.{Rooms, ids, number_of}
use Rattle.spv_plans.specs.Plans.{counted}
use Rattle.spv_plans.specs.Registers.{has_result, is_register, register_of}

-- no number stands twice
abbrev pub NoneTwice : List ℕ → Type 0
NoneTwice [] = Unit {0}
NoneTwice (k ∷ ks) = AllByRecursion (λ (j : ℕ). j ≢ k) ks × NoneTwice ks

differs_at : (k id : ℕ) (ks : List ℕ) (n : ℕ) → AllByRecursion (λ (j : ℕ). j ≢ k) ks → slice_get ks n ≡ Some id → k ≢ id
differs_at k id [] n h at = absurd (cc)
differs_at k id (j ∷ ks) zero h at = λ same. let here : j ≡ id = cc in h.0 (here ∙ sym same)
differs_at k id (j ∷ ks) (suc n) h at = differs_at k id ks n h.1 at

pub found_apart : (ks : List ℕ) → NoneTwice ks → (n id : ℕ) → slice_get ks n ≡ Some id → number_of id ks ≡ Some n
found_apart [] h n id at = absurd (cc)
found_apart (k ∷ ks) h zero id at =
    let same : k ≡ id = cc in
    let test : eqb k id ≡ true = eq-eqb k id same in
    rw test refl
found_apart (k ∷ ks) h (suc n) id at =
    let test : eqb k id ≡ false = ne_eqb k id (differs_at k id ks n h.0 at) in
    let rest : number_of id ks ≡ Some n = found_apart ks h.1 n id at in
    rw (test, rest) refl

-- ---- the ids of some registers of some instructions

abbrev pick : Types → (Inst → Bool) → (Stand → Bool) → Stand → List ℕ
pick ts q p s = cond (p s && (is_register ts s.inst && q s.inst)) (s.inst.id ∷ []) []

abbrev picked_of : Types → (Inst → Bool) → (Stand → Bool) → List Stand → List ℕ
picked_of ts q p ss = map (λ (i : Inst). i.id) (filter q (flat_map (register_of ts) (filter p ss)))

picked : (ts : Types) (q : Inst → Bool) (p : Stand → Bool) (ss : List Stand) → picked_of ts q p ss ≡ flat_map (pick ts q p) ss
picked ts q p [] = refl
picked ts q p (s ∷ ss) = by_stand (p s) (picked ts q p ss)
  where
    by_choice : (b : Bool) → picked_of ts q p ss ≡ flat_map (pick ts q p) ss
        → map (λ (i : Inst). i.id) (cond b (s.inst ∷ filter q (flat_map (register_of ts) (filter p ss))) (filter q (flat_map (register_of ts) (filter p ss)))) ≡ cond b (s.inst.id ∷ []) [] ++ flat_map (pick ts q p) ss
    by_choice true rest = ap (λ (ks : List ℕ). s.inst.id ∷ ks) rest
    by_choice false rest = rest

    by_register : (b : Bool) → picked_of ts q p ss ≡ flat_map (pick ts q p) ss
        → map (λ (i : Inst). i.id) (filter q (cond b (s.inst ∷ []) [] ++ flat_map (register_of ts) (filter p ss))) ≡ cond (b && q s.inst) (s.inst.id ∷ []) [] ++ flat_map (pick ts q p) ss
    by_register true rest = by_choice (q s.inst) rest
    by_register false rest = rest

    by_stand : (b : Bool) → picked_of ts q p ss ≡ flat_map (pick ts q p) ss
        → map (λ (i : Inst). i.id) (filter q (flat_map (register_of ts) (cond b (s ∷ filter p ss) (filter p ss)))) ≡ cond (b && (is_register ts s.inst && q s.inst)) (s.inst.id ∷ []) [] ++ flat_map (pick ts q p) ss
    by_stand true rest = by_register (is_register ts s.inst) rest
    by_stand false rest = rest

others_differ : (ts : Types) (q : Inst → Bool) (p : Stand → Bool) (k : ℕ) (ss : List Stand) → AllByRecursion (λ (j : Inst). j.id ≢ k) (map (λ (s : Stand). s.inst) ss)
    → AllByRecursion (λ (j : ℕ). j ≢ k) (flat_map (pick ts q p) ss)
others_differ ts q p k [] h = tt
others_differ ts q p k (s ∷ ss) h = by_pick (p s && (is_register ts s.inst && q s.inst)) (others_differ ts q p k ss h.1)
  where
    by_pick : (b : Bool) → AllByRecursion (λ (j : ℕ). j ≢ k) (flat_map (pick ts q p) ss) → AllByRecursion (λ (j : ℕ). j ≢ k) (cond b (s.inst.id ∷ []) [] ++ flat_map (pick ts q p) ss)
    by_pick true rest = (h.0, rest)
    by_pick false rest = rest

-- a register has an id
pub register_named : (ts : Types) (i : Inst) → is_register ts i ≡ true → i.id ≡ 0 → ⊥
register_named ts i h none =
    let test : eqb i.id 0 ≡ true = eq-eqb i.id 0 none in
    let result : (not (i.id == 0) && not (i.ty == 0)) ≡ true = (and_parts (has_result i) _ h).0 in
    let named : not (i.id == 0) ≡ true = (and_parts (not (i.id == 0)) (not (i.ty == 0)) result).0 in
    let clash : false ≡ true = rw test at named in
    cc

none_picked_twice : (ts : Types) (q : Inst → Bool) (p : Stand → Bool) (ss : List Stand) → AreDistinct (map (λ (s : Stand). s.inst) ss) → NoneTwice (flat_map (pick ts q p) ss)
none_picked_twice ts q p [] h = tt
none_picked_twice ts q p (s ∷ ss) h = by_pick (p s && (is_register ts s.inst && q s.inst)) refl h.0 (none_picked_twice ts q p ss h.1)
  where
    by_pick : (b : Bool) → (p s && (is_register ts s.inst && q s.inst)) ≡ b → (s.inst.id ≡ 0) ⊎ AllByRecursion (λ (later : Inst). later.id ≢ s.inst.id) (map (λ (t : Stand). t.inst) ss)
        → NoneTwice (flat_map (pick ts q p) ss) → NoneTwice (cond b (s.inst.id ∷ []) [] ++ flat_map (pick ts q p) ss)
    by_pick true e (inl none) rest =
        let chosen = and_parts (p s) (is_register ts s.inst && q s.inst) e in
        absurd (register_named ts s.inst (and_parts (is_register ts s.inst) (q s.inst) chosen.1).0 none)
    by_pick true e (inr apart) rest = (others_differ ts q p s.inst.id ss apart, rest)
    by_pick false e apart rest = rest

pub insts_of_stands : (sets : List (ℕ × Bool)) (position : Position) (insts : List Inst) → map (λ (s : Stand). s.inst) (stands sets position insts) ≡ insts
insts_of_stands sets position [] = refl
insts_of_stands sets position (i ∷ is) = ap (λ (js : List Inst). i ∷ js) (insts_of_stands sets (position_after position (class_of sets i) i) is)

-- the ids of those registers of some instructions that pass a test
pub ids_apart : (ts : Types) (q : Inst → Bool) (p : Stand → Bool) (sets : List (ℕ × Bool)) (position : Position) (insts : List Inst) → AreDistinct insts
    → AreApart (map (λ (i : Inst). i.id) (filter q (flat_map (register_of ts) (filter p (stands sets position insts)))))
ids_apart ts q p sets position insts distinct =
    let ss : List Stand = stands sets position insts in
    subst AreApart (sym (picked ts q p ss)) (found_apart (flat_map (pick ts q p) ss) (none_picked_twice ts q p ss (subst AreDistinct (sym (insts_of_stands sets position insts)) distinct)))

-- the ids of registers of values, by their list
pub counted_ids : (rs : Rooms) (es : List (ℕ × Option ℕ)) → map counted rs ≡ es → ids rs ≡ map (λ (e : ℕ × Option ℕ). e.0) es
counted_ids rs es h = first_ids rs ∙ ap (map (λ (e : ℕ × Option ℕ). e.0)) h
  where
    first_ids : (rs : Rooms) → ids rs ≡ map (λ (e : ℕ × Option ℕ). e.0) (map counted rs)
    first_ids [] = refl
    first_ids (r ∷ rs) = ap (λ (ks : List ℕ). r.0 ∷ ks) (first_ids rs)
