-- Lists of variables under their ids: further ones, places, and writes.
use Rattle.std.proofs.Common.{◌≡◌, ◌≢◌, ◌∙◌, ◌⊎◌, ℕ, zero, suc, ◌+◌, ◌<◌, ◌&&◌, ◌==◌, Bool, true, false, List, [], ◌∷◌, ◌++◌, length, take, get_or, slice_get, slice_set, Option, Some, None, inl, inr, refl, sym, ap, subst, arith, add-one}
use Rattle.std.specs.Prelude.{if◌then◌else◌, not}
use Rattle.std.specs.Option.{MatchOption, is_some, option_or}
use Rattle.std.proofs.Math.Logic.{∥∥₁_map}
use Rattle.std.proofs.lemmas.Option.{get_or_from_slice_get, slice_get-get_or}
use Rattle.std.proofs.lemmas.Bool.{eqb-true, and_parts, eq-eqb}
use Rattle.spv_base.proofs.Exports.{none_at, set_same, not_same}
use Rattle.spv_base.specs.Parts.{part_at, with_part}
use Rattle.spv_types.specs.Types.{Types}
use Rattle.spv_mem.specs.Targets.{Exchanges, Fits, MayBePut}
use Rattle.spv_base.specs.Entries.{reads, writes}
use Rattle.spv_base.specs.Variables.{Roots}
use Rattle.spv_base.specs.declared.values.Value.{Value}
use Rattle.spv_mem.specs.Roots.{AreFit, ExchangesIn, IsAt, MayBePutIn, distinct}

-- ---- numbers

false_differ : (a b : ℕ) → (a == b) ≡ false → a ≢ b
false_differ a b h = grind arith

-- ---- reading

reads_here : {X : Type 0} (k : ℕ) (e : ℕ × X) (es : List (ℕ × X)) → e.0 ≡ k → reads k (e ∷ es) ≡ Some e.1
reads_here k e es h = rw (eq-eqb e.0 k h) refl

reads_there : {X : Type 0} (k : ℕ) (e : ℕ × X) (es : List (ℕ × X)) → e.0 ≢ k → reads k (e ∷ es) ≡ reads k es
reads_there k e es h = rw (not_same e.0 k h) refl

writes_here : {X : Type 0} (k : ℕ) (u : X) (e : ℕ × X) (es : List (ℕ × X)) → e.0 ≡ k → writes k u (e ∷ es) ≡ (e.0, u) ∷ es
writes_here k u e es h = rw (eq-eqb e.0 k h) refl

writes_there : {X : Type 0} (k : ℕ) (u : X) (e : ℕ × X) (es : List (ℕ × X)) → e.0 ≢ k → writes k u (e ∷ es) ≡ e ∷ writes k u es
writes_there k u e es h = rw (not_same e.0 k h) refl

pub reads_snoc : {X : Type 0} (q : ℕ) (es : List (ℕ × X)) (e : ℕ × X) → reads q (es ++ e ∷ []) ≡ option_or (reads q es) (if e.0 == q then Some e.1 else None)
reads_snoc q [] e = refl
reads_snoc q (d ∷ es) e = go (reads_snoc q es e) (d.0 == q) refl
  where
    go : reads q (es ++ e ∷ []) ≡ option_or (reads q es) (if e.0 == q then Some e.1 else None) → (b : Bool) → (d.0 == q) ≡ b → (if d.0 == q then Some d.1 else reads q (es ++ e ∷ [])) ≡ option_or (if d.0 == q then Some d.1 else reads q es) (if e.0 == q then Some e.1 else None)
    go ih true h = rw h refl
    go ih false h = rw h ih

pub reads_next : {X : Type 0} (q : ℕ) (es : List (ℕ × X)) (k : ℕ) (e : ℕ × X) → slice_get es k ≡ Some e
    → reads q (take (suc k) es) ≡ option_or (reads q (take k es)) (if e.0 == q then Some e.1 else None)
reads_next q [] k e h = absurd cc
reads_next q (d ∷ es) zero e h = let same : d ≡ e = cc in rw same refl
reads_next q (d ∷ es) (suc k) e h = go (reads_next q es k e h) (d.0 == q) refl
  where
    go : reads q (take (suc k) es) ≡ option_or (reads q (take k es)) (if e.0 == q then Some e.1 else None) → (b : Bool) → (d.0 == q) ≡ b → (if d.0 == q then Some d.1 else reads q (take (suc k) es)) ≡ option_or (if d.0 == q then Some d.1 else reads q (take k es)) (if e.0 == q then Some e.1 else None)
    go ih true g = rw g refl
    go ih false g = rw g ih

pub not_yet : {X : Type 0} (q : ℕ) (es : List (ℕ × X)) (k : ℕ) (e : ℕ × X) → slice_get es k ≡ Some e → e.0 ≢ q → reads q (take k es) ≡ None → reads q (take (k + 1) es) ≡ None
not_yet q es k e h differ none = rw (add-one k) (reads_next q es k e h ∙ rw (none, not_same e.0 q differ) refl)

-- ---- places

pub at_first : (id : ℕ) (es : Roots) (k : ℕ) (v : Value) → reads id (take k es) ≡ None → slice_get es k ≡ Some (id, v) → IsAt id k es
at_first id [] k v none h = absurd cc
at_first id (e ∷ es) zero v none h =
    let same : e ≡ (id, v) = cc in
    let key : e.0 ≡ id = ap (λ (p : ℕ × Value). p.0) same in
    record {
      value = e.1;
      is = reads_here id e es key;
      at = ap Some (same ∙ ap (λ (x : Value). (id, x)) (ap (λ (p : ℕ × Value). p.1) (sym same)));
      written = λ u. writes_here id u e es key ∙ ap (λ (i : ℕ). (i, u) ∷ es) key;
    }
at_first id (e ∷ es) (suc k) v none h = go (λ n. at_first id es k v n h) (e.0 == id) refl none
  where
    go : (reads id (take k es) ≡ None → IsAt id k es) → (b : Bool) → (e.0 == id) ≡ b → (if e.0 == id then Some e.1 else reads id (take k es)) ≡ None → IsAt id (suc k) (e ∷ es)
    go ih true g n = absurd (let i : (if e.0 == id then Some e.1 else reads id (take k es)) ≡ Some e.1 = rw g refl in cc)
    go ih false g n =
        let differ = false_differ e.0 id g in
        let less : reads id (take k es) ≡ None = sym (reads_there id e (take k es) differ) ∙ n in
        let inner = ih less in
        record { value = inner.value; is = reads_there id e es differ ∙ inner.is; at = inner.at; written = λ u. writes_there id u e es differ ∙ ap (λ (xs : Roots). e ∷ xs) (inner.written u) }

pub at_place : (id : ℕ) (es : Roots) (k : ℕ) (v : Value) → distinct es ≡ true → slice_get es k ≡ Some (id, v) → IsAt id k es
at_place id [] k v d h = absurd cc
at_place id (e ∷ es) zero v d h = at_first id (e ∷ es) zero v refl h
at_place id (e ∷ es) (suc k) v d h =
    let both = and_parts (not (is_some (reads e.0 es))) (distinct es) d in
    let inner = at_place id es k v both.1 h in
    let gone : reads e.0 es ≡ None = none_at (reads e.0 es) both.0 in
    let differ : e.0 ≢ id = λ same. absurd (let i = inner.is in let g : reads id es ≡ None = subst (λ (q : ℕ). reads q es ≡ None) same gone in cc) in
    record { value = inner.value; is = reads_there id e es differ ∙ inner.is; at = inner.at; written = λ u. writes_there id u e es differ ∙ ap (λ (xs : Roots). e ∷ xs) (inner.written u) }

-- ---- ids stay apart

pub distinct_snoc : (es : Roots) (id : ℕ) (v : Value) → distinct es ≡ true → reads id es ≡ None → distinct (es ++ (id, v) ∷ []) ≡ true
distinct_snoc [] id v d none = refl
distinct_snoc (e ∷ es) id v d none = go (λ n. distinct_snoc es id v (and_parts (not (is_some (reads e.0 es))) (distinct es) d).1 n) (e.0 == id) refl none
  where
    go : (reads id es ≡ None → distinct (es ++ (id, v) ∷ []) ≡ true) → (b : Bool) → (e.0 == id) ≡ b → (if e.0 == id then Some e.1 else reads id es) ≡ None → (not (is_some (reads e.0 (es ++ (id, v) ∷ []))) && distinct (es ++ (id, v) ∷ [])) ≡ true
    go ih true g n = absurd (let i : (if e.0 == id then Some e.1 else reads id es) ≡ Some e.1 = rw g refl in cc)
    go ih false g n =
        let differ = false_differ e.0 id g in
        let both = and_parts (not (is_some (reads e.0 es))) (distinct es) d in
        let gone : reads e.0 es ≡ None = none_at (reads e.0 es) both.0 in
        let back : (id == e.0) ≡ false = not_same id e.0 (λ same. differ (sym same)) in
        let less : reads id es ≡ None = sym (reads_there id e es differ) ∙ n in
        let more : reads e.0 (es ++ (id, v) ∷ []) ≡ None = reads_snoc e.0 es (id, v) ∙ rw (gone, back) refl in
        rw (more, ih less) refl

-- what a write leaves of a reading
pub reads_writes : (q id : ℕ) (u : Value) (es : Roots) (x : Value) → reads q (writes id u es) ≡ Some x → (reads q es ≡ Some x) ⊎ ((q ≡ id) × (x ≡ u))
reads_writes q id u [] x h = absurd cc
reads_writes q id u (e ∷ es) x h = go (λ k. reads_writes q id u es x k) (e.0 == id) refl
  where
    Rest : Type 0
    Rest = reads q (writes id u es) ≡ Some x → (reads q es ≡ Some x) ⊎ ((q ≡ id) × (x ≡ u))

    other : Rest → (b : Bool) → (e.0 == q) ≡ b → reads q (e ∷ writes id u es) ≡ Some x → (reads q (e ∷ es) ≡ Some x) ⊎ ((q ≡ id) × (x ≡ u))
    other ih true g k =
        let same = eqb-true e.0 q g in
        inl (reads_here q e es same ∙ sym (reads_here q e (writes id u es) same) ∙ k)
    other ih false g k =
        let differ = false_differ e.0 q g in
        elim (ih (sym (reads_there q e (writes id u es) differ) ∙ k)) [
          | inl i ↦ inl (reads_there q e es differ ∙ i)
          | inr i ↦ inr i
        ]

    first : (b : Bool) → (e.0 == q) ≡ b → e.0 ≡ id → reads q ((e.0, u) ∷ es) ≡ Some x → (reads q (e ∷ es) ≡ Some x) ⊎ ((q ≡ id) × (x ≡ u))
    first true g key k =
        let same = eqb-true e.0 q g in
        let is : Some u ≡ Some x = sym (reads_here q (e.0, u) es same) ∙ k in
        inr (sym same ∙ key, cc)
    first false g key k =
        let differ = false_differ e.0 q g in
        inl (reads_there q e es differ ∙ sym (reads_there q (e.0, u) es differ) ∙ k)

    go : Rest → (b : Bool) → (e.0 == id) ≡ b → (reads q (e ∷ es) ≡ Some x) ⊎ ((q ≡ id) × (x ≡ u))
    go ih true g =
        let key = eqb-true e.0 id g in
        first (e.0 == q) refl key (ap (reads q) (sym (writes_here id u e es key)) ∙ h)
    go ih false g =
        let differ = false_differ e.0 id g in
        other ih (e.0 == q) refl (ap (reads q) (sym (writes_there id u e es differ)) ∙ h)

none_writes : (q id : ℕ) (u : Value) (es : Roots) → reads q es ≡ None → reads q (writes id u es) ≡ None
none_writes q id u [] h = refl
none_writes q id u (e ∷ es) h = go (λ none. none_writes q id u es none) (e.0 == q) refl h
  where
    rest : (reads q es ≡ None → reads q (writes id u es) ≡ None) → (b : Bool) → (e.0 == id) ≡ b → e.0 ≢ q → reads q es ≡ None → reads q (writes id u (e ∷ es)) ≡ None
    rest ih true g differ none = ap (reads q) (writes_here id u e es (eqb-true e.0 id g)) ∙ reads_there q (e.0, u) es differ ∙ none
    rest ih false g differ none = ap (reads q) (writes_there id u e es (false_differ e.0 id g)) ∙ reads_there q e (writes id u es) differ ∙ ih none

    go : (reads q es ≡ None → reads q (writes id u es) ≡ None) → (b : Bool) → (e.0 == q) ≡ b → (if e.0 == q then Some e.1 else reads q es) ≡ None → reads q (writes id u (e ∷ es)) ≡ None
    go ih true g n = absurd (let i : (if e.0 == q then Some e.1 else reads q es) ≡ Some e.1 = rw g refl in cc)
    go ih false g n = rest ih (e.0 == id) refl (false_differ e.0 q g) (sym (reads_there q e es (false_differ e.0 q g)) ∙ n)

pub distinct_writes : (id : ℕ) (u : Value) (es : Roots) → distinct es ≡ true → distinct (writes id u es) ≡ true
distinct_writes id u [] d = refl
distinct_writes id u (e ∷ es) d = go (λ rest. distinct_writes id u es rest) (e.0 == id) refl
  where
    go : (distinct es ≡ true → distinct (writes id u es) ≡ true) → (b : Bool) → (e.0 == id) ≡ b → distinct (writes id u (e ∷ es)) ≡ true
    go ih true g = ap distinct (writes_here id u e es (eqb-true e.0 id g)) ∙ d
    go ih false g =
        let both = and_parts (not (is_some (reads e.0 es))) (distinct es) d in
        let gone = none_writes e.0 id u es (none_at (reads e.0 es) both.0) in
        ap distinct (writes_there id u e es (false_differ e.0 id g)) ∙ rw (gone, ih both.1) refl

-- ---- the variable at a place

pub item_is : (id : ℕ) (es : Roots) (k : ℕ) (x d : ℕ × Value) (a : IsAt id k es) → x ≡ get_or es k d → x ≡ (id, a.value)
item_is id es k x d a h = h ∙ get_or_from_slice_get es k (id, a.value) d a.at

pub fit_at : (ts : Types) (ty id : ℕ) (es : Roots) (k : ℕ) (v : Value) (a : IsAt id k es) → v ≡ a.value → ∥ AreFit ts ty id es ∥₁ → ∥ Fits ts ty v ∥₁
fit_at ts ty id es k v a same fit = ∥∥₁_map fit (λ (f : AreFit ts ty id es). subst (Fits ts ty) (sym same) (f a.value a.is))

pub may_at : (ts : Types) (ty id : ℕ) (es : Roots) (k : ℕ) (v : Value) (path : List ℕ) (u : Value) (a : IsAt id k es) → v ≡ a.value → ∥ MayBePutIn ts ty id es path u ∥₁ → ∥ MayBePut ts ty v path u ∥₁
may_at ts ty id es k v path u a same may = ∥∥₁_map may (λ (m : MayBePutIn ts ty id es path u). subst (λ (x : Value). MayBePut ts ty x path u) (sym same) (m a.value a.is))

pub distinct_set : (id : ℕ) (es : Roots) (k : ℕ) (u : Value) → IsAt id k es → distinct es ≡ true → distinct (slice_set es k (id, u)) ≡ true
distinct_set id es k u a d = ap distinct (sym (a.written u)) ∙ distinct_writes id u es d

pub exchanged_at : (id : ℕ) (es : Roots) (k : ℕ) (path : List ℕ) (u new handed : Value) (there : Bool) (a : IsAt id k es) → Exchanges a.value path u new handed there
    → ExchangesIn es id path u (slice_set es k (id, new)) handed there
exchanged_at id es k path u new handed there a h =
    rw (a.is) (go (part_at a.value path) h)
  where
    go : (o : Option Value) → MatchOption o ((there ≡ false) × (new ≡ a.value) × (handed ≡ u)) (λ w. (there ≡ true) × (new ≡ with_part a.value path u) × (handed ≡ w))
        → MatchOption o ((there ≡ false) × (slice_set es k (id, new) ≡ es) × (handed ≡ u)) (λ w. (there ≡ true) × (slice_set es k (id, new) ≡ writes id (with_part a.value path u) es) × (handed ≡ w))
    go None m = (m.0, ap (λ (x : Value). slice_set es k (id, x)) m.1 ∙ set_same es k (id, a.value) a.at, m.2)
    go (Some w) m = (m.0, ap (λ (x : Value). slice_set es k (id, x)) m.1 ∙ sym (a.written (with_part a.value path u)), m.2)

-- ---- one target more

pub types_next : (list : List (ℕ × ℕ)) (k : ℕ) (d : ℕ × ℕ) (q : ℕ) (a b : Option ℕ) → k < length list → b ≡ option_or a (if (get_or list k d).0 == q then Some (get_or list k d).1 else None)
    → a ≡ reads q (take k list) → b ≡ reads q (take (k + 1) list)
types_next list k d q a b l h g =
    let next = reads_next q list k (get_or list k d) (slice_get-get_or list k d l) in
    h ∙ ap (λ (o : Option ℕ). option_or o (if (get_or list k d).0 == q then Some (get_or list k d).1 else None)) g ∙ sym next ∙ ap (λ (n : ℕ). reads q (take n list)) (sym (add-one k))
