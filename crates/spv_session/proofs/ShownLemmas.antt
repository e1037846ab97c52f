-- The registers that are shown ascend, and are those that hold something.
use Rattle.std.proofs.Common.{◌≡◌, ℕ, zero, suc, ◌+◌, ◌<◌, ◌≤◌, ◌⊎◌, inl, inr, List, [], ◌∷◌, fold, length, refl, sym, ap, ◌∙◌, subst, arith, Ordering, slice_index}
use Rattle.std.specs.declared.cmp.Ordering.TheVariants.{Less, Equal, Greater}
use Rattle.std.specs.Ordering.{nat_cmp, match_ordering, MatchOrdering}
use Rattle.std.specs.Cmp.{ranks}
use Rattle.std.specs.BTreeMap.{insert_entry}
use Rattle.std.specs.Map.{keys_of}
use Rattle.std.specs.List.{Contains}
use Rattle.std.specs.List.Sorted.{IsStrictlyIncreasing}
use Rattle.spv_session.specs.Texts.{ascending, with_shown}

-- the text of a register
abbrev Text : Type 0
Text = List ℕ

-- ---- elements

has_head : {X : Type 0} (x : X) (xs : List X) → Contains (x ∷ xs) x
has_head x xs = (0, omega arith, refl)

has_more : {X : Type 0} (x y : X) (xs : List X) → Contains xs x → Contains (y ∷ xs) x
has_more x y xs h = (suc h.0, (let below = h.1 in omega arith), h.2)

has_first : {X : Type 0} (x y : X) (xs : List X) → Contains (y ∷ xs) x → (y ≡ x) ⊎ Contains xs x
has_first x y xs (zero, below, is) = inl is
has_first x y xs (suc k, below, is) = inr (k, omega arith, is)

has_none : {X : Type 0} (x : X) → ¬ Contains [] x
has_none x h = let below = h.1 in absurd (omega arith)

-- ---- the order

-- the ids rise from this number on
abbrev Rise : ℕ → List (ℕ × Text) → Type 0
Rise low [] = Unit {0}
Rise low (e ∷ es) = (low ≤ e.0) × Rise (suc e.0) es

insert_rises : (low : ℕ) (es : List (ℕ × Text)) (k : ℕ) (v : Text) → low ≤ k → Rise low es → Rise low (insert_entry nat_cmp es k v)
insert_rises low [] k v from h = (from, tt)
insert_rises low (e ∷ es) k v from h = by (λ above. insert_rises (suc e.0) es k v above h.1) (nat_cmp k e.0) (ranks k e.0)
  where
    by : (suc e.0 ≤ k → Rise (suc e.0) (insert_entry nat_cmp es k v)) → (o : Ordering) → MatchOrdering o (k < e.0) (k ≡ e.0) (e.0 < k) → Rise low (match_ordering o ((k, v) ∷ (e ∷ es)) ((e.0, v) ∷ es) (e ∷ insert_entry nat_cmp es k v))
    by later Less l = (from, ((omega arith), h.1))
    by later Equal l = (h.0, h.1)
    by later Greater l = (h.0, later (omega arith))

all_rise : (shown held : List (ℕ × Text)) → Rise 0 held → Rise 0 (fold with_shown held shown)
all_rise [] held h = h
all_rise (r ∷ shown) held h = all_rise shown (with_shown held r) (insert_rises 0 held r.0 r.1 (omega arith) h)

rise_at : (low : ℕ) (es : List (ℕ × Text)) → Rise low es → (k : ℕ) → k + 1 < length (keys_of es) → slice_index (keys_of es) k < slice_index (keys_of es) (k + 1)
rise_at low [] h k below = absurd (omega arith)
rise_at low (e ∷ []) h k below = absurd (omega arith)
rise_at low (e ∷ (f ∷ es)) h zero below = h.1.0
rise_at low (e ∷ (f ∷ es)) h (suc k) below =
    let next : suc k + 1 ≡ suc (k + 1) = omega arith in
    subst (λ n. slice_index (keys_of (f ∷ es)) k < slice_index (keys_of (e ∷ (f ∷ es))) n) (sym next) (rise_at (suc e.0) (f ∷ es) h.1 k (omega arith))

pub shown_ascend : (shown : List (ℕ × Text)) → IsStrictlyIncreasing (keys_of (ascending shown))
shown_ascend shown = rise_at 0 (ascending shown) (all_rise shown [] tt)

-- ---- those that are shown have their text

insert_holds : (es : List (ℕ × Text)) (k : ℕ) (v : Text) (x : ℕ × Text) → Contains (insert_entry nat_cmp es k v) x → ((k, v) ≡ x) ⊎ Contains es x
insert_holds [] k v x h = has_first x (k, v) [] h
insert_holds (e ∷ es) k v x h = by (insert_holds es k v x) (nat_cmp k e.0) (ranks k e.0) h
  where
    under : ((k, v) ≡ x) ⊎ Contains es x → ((k, v) ≡ x) ⊎ Contains (e ∷ es) x
    under (inl a) = inl a
    under (inr a) = inr (has_more x e es a)

    first : (Contains (insert_entry nat_cmp es k v) x → ((k, v) ≡ x) ⊎ Contains es x) → (e ≡ x) ⊎ Contains (insert_entry nat_cmp es k v) x → ((k, v) ≡ x) ⊎ Contains (e ∷ es) x
    first later (inl a) = inr (subst (Contains (e ∷ es)) a (has_head e es))
    first later (inr a) = under (later a)

    replaced : k ≡ e.0 → ((e.0, v) ≡ x) ⊎ Contains es x → ((k, v) ≡ x) ⊎ Contains (e ∷ es) x
    replaced same (inl a) = inl (ap (λ n. (n, v)) same ∙ a)
    replaced same (inr a) = inr (has_more x e es a)

    by : (Contains (insert_entry nat_cmp es k v) x → ((k, v) ≡ x) ⊎ Contains es x) → (o : Ordering) → MatchOrdering o (k < e.0) (k ≡ e.0) (e.0 < k)
        → Contains (match_ordering o ((k, v) ∷ (e ∷ es)) ((e.0, v) ∷ es) (e ∷ insert_entry nat_cmp es k v)) x → ((k, v) ≡ x) ⊎ Contains (e ∷ es) x
    by later Less l a = has_first x (k, v) (e ∷ es) a
    by later Equal l a = replaced l (has_first x (e.0, v) es a)
    by later Greater l a = first later (has_first x e (insert_entry nat_cmp es k v) a)

all_hold : (shown held : List (ℕ × Text)) (x : ℕ × Text) → Contains (fold with_shown held shown) x → Contains shown x ⊎ Contains held x
all_hold [] held x h = inr h
all_hold (r ∷ shown) held x h = by (all_hold shown (with_shown held r) x h)
  where
    at : (r ≡ x) ⊎ Contains held x → Contains (r ∷ shown) x ⊎ Contains held x
    at (inl a) = inl (subst (Contains (r ∷ shown)) a (has_head r shown))
    at (inr a) = inr a

    by : Contains shown x ⊎ Contains (with_shown held r) x → Contains (r ∷ shown) x ⊎ Contains held x
    by (inl a) = inl (has_more x r shown a)
    by (inr a) = at (insert_holds held r.0 r.1 x a)

pub shown_are_theirs : (shown : List (ℕ × Text)) (id : ℕ) (v : Text) → Contains (ascending shown) (id, v) → Contains shown (id, v)
shown_are_theirs shown id v h = by (all_hold shown [] (id, v) h)
  where
    by : Contains shown (id, v) ⊎ Contains {X = ℕ × Text} [] (id, v) → Contains shown (id, v)
    by (inl a) = a
    by (inr a) = absurd (has_none {X = ℕ × Text} (id, v) a)

-- ---- those that have a text are shown

insert_keeps : (es : List (ℕ × Text)) (k : ℕ) (v : Text) (id : ℕ) → (k ≡ id) ⊎ Contains (keys_of es) id → Contains (keys_of (insert_entry nat_cmp es k v)) id
insert_keeps [] k v id (inl a) = subst (Contains (k ∷ [])) a (has_head k [])
insert_keeps [] k v id (inr a) = absurd (has_none id a)
insert_keeps (e ∷ es) k v id h = by (insert_keeps es k v id) (nat_cmp k e.0) (ranks k e.0)
  where
    in_front : (k ≡ id) ⊎ Contains (keys_of (e ∷ es)) id → Contains (k ∷ keys_of (e ∷ es)) id
    in_front (inl a) = subst (Contains (k ∷ keys_of (e ∷ es))) a (has_head k (keys_of (e ∷ es)))
    in_front (inr a) = has_more id k (keys_of (e ∷ es)) a

    at : k ≡ e.0 → (k ≡ id) ⊎ Contains (keys_of (e ∷ es)) id → Contains (keys_of (e ∷ es)) id
    at same (inl a) = subst (Contains (keys_of (e ∷ es))) (sym same ∙ a) (has_head e.0 (keys_of es))
    at same (inr a) = a

    behind_by : (Contains (keys_of es) id → Contains (keys_of (insert_entry nat_cmp es k v)) id) → (e.0 ≡ id) ⊎ Contains (keys_of es) id → Contains (e.0 ∷ keys_of (insert_entry nat_cmp es k v)) id
    behind_by later (inl a) = subst (Contains (e.0 ∷ keys_of (insert_entry nat_cmp es k v))) a (has_head e.0 (keys_of (insert_entry nat_cmp es k v)))
    behind_by later (inr a) = has_more id e.0 (keys_of (insert_entry nat_cmp es k v)) (later a)

    behind : ((k ≡ id) ⊎ Contains (keys_of es) id → Contains (keys_of (insert_entry nat_cmp es k v)) id) → (k ≡ id) ⊎ Contains (keys_of (e ∷ es)) id → Contains (e.0 ∷ keys_of (insert_entry nat_cmp es k v)) id
    behind later (inl a) = has_more id e.0 (keys_of (insert_entry nat_cmp es k v)) (later (inl a))
    behind later (inr a) = behind_by (λ c. later (inr c)) (has_first id e.0 (keys_of es) a)

    by : ((k ≡ id) ⊎ Contains (keys_of es) id → Contains (keys_of (insert_entry nat_cmp es k v)) id) → (o : Ordering) → MatchOrdering o (k < e.0) (k ≡ e.0) (e.0 < k)
        → Contains (keys_of (match_ordering o ((k, v) ∷ (e ∷ es)) ((e.0, v) ∷ es) (e ∷ insert_entry nat_cmp es k v))) id
    by later Less l = in_front h
    by later Equal l = at l h
    by later Greater l = behind later h

all_keep : (shown held : List (ℕ × Text)) (id : ℕ) → Contains (keys_of held) id → Contains (keys_of (fold with_shown held shown)) id
all_keep [] held id h = h
all_keep (r ∷ shown) held id h = all_keep shown (with_shown held r) id (insert_keeps held r.0 r.1 id (inr h))

held_now : (held : List (ℕ × Text)) (r : ℕ × Text) (id : ℕ) (v : Text) → r ≡ (id, v) → Contains (keys_of (with_shown held r)) id
held_now held r id v e = subst (λ (q : ℕ × Text). Contains (keys_of (with_shown held q)) id) (sym e) (insert_keeps held id v id (inl refl))

all_shown : (shown held : List (ℕ × Text)) (id : ℕ) (v : Text) → Contains shown (id, v) → Contains (keys_of (fold with_shown held shown)) id
all_shown [] held id v h = absurd (has_none (id, v) h)
all_shown (r ∷ shown) held id v h = by (all_shown shown (with_shown held r) id v) (has_first (id, v) r shown h)
  where
    by : (Contains shown (id, v) → Contains (keys_of (fold with_shown (with_shown held r) shown)) id) → (r ≡ (id, v)) ⊎ Contains shown (id, v) → Contains (keys_of (fold with_shown (with_shown held r) shown)) id
    by later (inl a) = all_keep shown (with_shown held r) id (held_now held r id v a)
    by later (inr a) = later a

pub texts_are_shown : (shown : List (ℕ × Text)) (id : ℕ) (v : Text) → Contains shown (id, v) → Contains (keys_of (ascending shown)) id
texts_are_shown shown id v h = all_shown shown [] id v h
