-- Spans in the order of their starts: no two have a byte in common where each ends before the next one.
use Rattle.std.proofs.Common.{◌≡◌, ◌≢◌, ◌∙◌, ℕ, zero, suc, ◌+◌, ◌<◌, ◌≤◌, ◌==◌, Bool, true, false, List, [], ◌∷◌, length, get_or, get_or-set_other, get_or-set_same, length-set, set, refl, sym, ap, arith, ltb}
use Rattle.std.proofs.lemmas.Bool.{and_parts, and_from}
use Rattle.std.specs.Prelude.{◌&&◌, ◌||◌, not, nat_le, if◌then◌else◌}
use Rattle.std.specs.List.{All, AllPass, filter, list_all, swap}
use Rattle.std.specs.List.Sorted.{IsNonDecreasingBy, IsPermutation}
use Rattle.std.proofs.lemmas.List.Edits.{swap_is}
use Rattle.std.proofs.lemmas.List.Elements.{All-cons, All-head, All-tail}
use Rattle.std.proofs.lemmas.List.Sorted.{All-permutation, IsPermutation-keeps, IsPermutation-sym}
use Rattle.std.proofs.lemmas.List.Sums.{AllPass-from_list_all, list_all-from_AllPass}
use Rattle.spv_types.specs.declared.spans.Span.{Span}
use Rattle.spv_types.specs.Layout.{EachEndsBeforeNext, IsForward, are_apart, ends_before, is_empty, none_overlap}

-- ---- two spans

apart_swaps : (s t : Span) → are_apart s t ≡ are_apart t s
apart_swaps s t = go (is_empty s) (is_empty t) (ends_before s t) (ends_before t s)
  where
    go : (a b c d : Bool) → ((a || b) || (c || d)) ≡ ((b || a) || (d || c))
    go true true c d = refl
    go true false c d = refl
    go false true c d = refl
    go false false true true = refl
    go false false true false = refl
    go false false false true = refl
    go false false false false = refl

apart_from_empty : (s t : Span) → is_empty t ≡ true → are_apart s t ≡ true
apart_from_empty s t e = rw e (go (is_empty s))
  where
    go : (a : Bool) → ((a || true) || (ends_before s t || ends_before t s)) ≡ true
    go true = refl
    go false = refl

-- ---- spans that are not empty

all_apart_filtered : (s : Span) (ss : List Span) → list_all (are_apart s) (filter (λ t. not (is_empty t)) ss) ≡ list_all (are_apart s) ss
all_apart_filtered s [] = refl
all_apart_filtered s (t ∷ ss) = go (is_empty t) refl (all_apart_filtered s ss)
  where
    go : (b : Bool) → is_empty t ≡ b → list_all (are_apart s) (filter (λ t. not (is_empty t)) ss) ≡ list_all (are_apart s) ss
        → list_all (are_apart s) (filter (λ t. not (is_empty t)) (t ∷ ss)) ≡ (are_apart s t && list_all (are_apart s) ss)
    go true e h =
        ap (λ (b : Bool). list_all (are_apart s) (if not b then t ∷ filter (λ t. not (is_empty t)) ss else filter (λ t. not (is_empty t)) ss)) e
        ∙ h ∙ sym (ap (λ (b : Bool). b && list_all (are_apart s) ss) (apart_from_empty s t e))
    go false e h =
        ap (λ (b : Bool). list_all (are_apart s) (if not b then t ∷ filter (λ t. not (is_empty t)) ss else filter (λ t. not (is_empty t)) ss)) e
        ∙ ap (λ (b : Bool). are_apart s t && b) h

all_apart_empty : (s : Span) (ss : List Span) → is_empty s ≡ true → list_all (are_apart s) ss ≡ true
all_apart_empty s [] e = refl
all_apart_empty s (t ∷ ss) e = and_from _ _ (rw e refl) (all_apart_empty s ss e)

pub overlap_filtered : (ss : List Span) → none_overlap (filter (λ t. not (is_empty t)) ss) ≡ none_overlap ss
unfolding none_overlap
overlap_filtered [] = refl
overlap_filtered (s ∷ ss) = go (is_empty s) refl (overlap_filtered ss)
  where
    go : (b : Bool) → is_empty s ≡ b → none_overlap (filter (λ t. not (is_empty t)) ss) ≡ none_overlap ss
        → none_overlap (filter (λ t. not (is_empty t)) (s ∷ ss)) ≡ (list_all (are_apart s) ss && none_overlap ss)
    go true e h = rw (e, all_apart_empty s ss e) h
    go false e h = rw (e, h, all_apart_filtered s ss) refl

-- a span with a byte, which does not end before it starts
pub record IsProper (s : Span) : Type 0 where
  pub forward : IsForward s
  pub some : is_empty s ≡ false

pub proper_filtered : (ss : List Span) → All IsForward ss → All IsProper (filter (λ t. not (is_empty t)) ss)
proper_filtered [] all = λ i d l. absurd (omega arith)
proper_filtered (s ∷ ss) all = go (is_empty s) refl (proper_filtered ss (All-tail IsForward s ss all))
  where
    go : (b : Bool) → is_empty s ≡ b → All IsProper (filter (λ t. not (is_empty t)) ss) → All IsProper (filter (λ t. not (is_empty t)) (s ∷ ss))
    go true e h = rw e h
    go false e h = rw e (All-cons IsProper s _ (record { forward = All-head IsForward s ss all; some = e }) h)

-- ---- pairs of spans

abbrev pub Pairs : List Span → Type 0
Pairs ss = (i j : ℕ) (d : Span) → i < length ss → j < length ss → i ≢ j → are_apart (get_or ss i d) (get_or ss j d) ≡ true

pub pairs_apart : (ss : List Span) → none_overlap ss ≡ true → Pairs ss
unfolding none_overlap
pairs_apart [] h = λ i j d l m ne. absurd (omega arith)
pairs_apart (s ∷ ss) h =
    let both = and_parts (list_all (are_apart s) ss) (none_overlap ss) h in
    let first : AllPass (are_apart s) ss = AllPass-from_list_all (are_apart s) ss both.0 in
    let rest : Pairs ss = pairs_apart ss both.1 in
    λ i j d. pair first rest i j d
  where
    pair : AllPass (are_apart s) ss → Pairs ss → (i j : ℕ) (d : Span) → i < suc (length ss) → j < suc (length ss) → i ≢ j → are_apart (get_or (s ∷ ss) i d) (get_or (s ∷ ss) j d) ≡ true
    pair first rest zero zero d l m ne = absurd (ne refl)
    pair first rest zero (suc j) d l m ne = first j d (omega arith)
    pair first rest (suc i) zero d l m ne = apart_swaps (get_or ss i d) s ∙ first i d (omega arith)
    pair first rest (suc i) (suc j) d l m ne = rest i j d (omega arith) (omega arith) (λ e. ne (ap suc e))

pub apart_pairs : (ss : List Span) → Pairs ss → none_overlap ss ≡ true
unfolding none_overlap
apart_pairs [] h = refl
apart_pairs (s ∷ ss) h =
    and_from _ _ (list_all-from_AllPass (are_apart s) ss (λ j d l. let ne : zero ≢ suc j = λ e. absurd (omega (arith, e)) in h zero (suc j) d (omega arith) (omega arith) ne))
    (apart_pairs ss (λ i j d l m ne. h (suc i) (suc j) d (omega arith) (omega arith) (λ e. let f : i ≡ j = omega (arith, e) in ne f)))

-- where an item of a list stands before two change places
moved : ℕ → ℕ → ℕ → ℕ
moved i j k = if k == j then i else (if k == i then j else k)

moved_below : (n i j k : ℕ) → i < n → j < n → k < n → moved i j k < n
unfolding moved
moved_below n i j k a b c = go (k == j) (k == i)
  where
    go : (p q : Bool) → (if p then i else (if q then j else k)) < n
    go true q = a
    go false true = b
    go false false = c

moved_apart : (i j k m : ℕ) → k ≢ m → moved i j k ≢ moved i j m
unfolding moved
moved_apart i j k m ne = go (k == j) refl (k == i) refl (m == j) refl (m == i) refl
  where
    go : (a : Bool) → (k == j) ≡ a → (b : Bool) → (k == i) ≡ b → (c : Bool) → (m == j) ≡ c → (d : Bool) → (m == i) ≡ d
        → (if a then i else (if b then j else k)) ≢ (if c then i else (if d then j else m))
    go true e b f true g d h = λ s. ne (let x : k ≡ j = grind arith in let y : m ≡ j = grind arith in x ∙ sym y)
    go true e b f false g true h = λ s. ne (let x : k ≡ j = grind arith in let y : m ≡ i = grind arith in x ∙ sym s ∙ sym y)
    go true e b f false g false h = λ s. let y : m ≢ i = grind arith in y (sym s)
    go false e true f true g d h = λ s. ne (let x : k ≡ i = grind arith in let y : m ≡ j = grind arith in x ∙ sym s ∙ sym y)
    go false e true f false g true h = λ s. ne (let x : k ≡ i = grind arith in let y : m ≡ i = grind arith in x ∙ sym y)
    go false e true f false g false h = λ s. let y : m ≢ j = grind arith in y (sym s)
    go false e false f true g d h = λ s. let y : k ≢ i = grind arith in y s
    go false e false f false g true h = λ s. let y : k ≢ j = grind arith in y s
    go false e false f false g false h = λ s. ne s

moved_is : (ss : List Span) (i j k : ℕ) (d : Span) → i < length ss → j < length ss → k < length ss → get_or (swap ss i j) k d ≡ get_or ss (moved i j k) d
unfolding moved
moved_is ss i j k d a b c = ap (λ (xs : List Span). get_or xs k d) (sym (swap_is ss i j d a b)) ∙ go (k == j) refl (k == i) refl
  where
    long : j < length (set ss i (get_or ss j d))
    long = omega (arith, length-set ss i (get_or ss j d))

    go : (p : Bool) → (k == j) ≡ p → (q : Bool) → (k == i) ≡ q → get_or (set (set ss i (get_or ss j d)) j (get_or ss i d)) k d ≡ get_or ss (if p then i else (if q then j else k)) d
    go true e q f = let x : k ≡ j = grind arith in rw x (get_or-set_same (set ss i (get_or ss j d)) j (get_or ss i d) d long)
    go false e true f =
        let y : k ≢ j = grind arith in
        let x : k ≡ i = grind arith in
        get_or-set_other (set ss i (get_or ss j d)) j k (get_or ss i d) d y ∙ rw x (get_or-set_same ss i (get_or ss j d) d a)
    go false e false f =
        let y : k ≢ j = grind arith in
        let x : k ≢ i = grind arith in
        get_or-set_other (set ss i (get_or ss j d)) j k (get_or ss i d) d y ∙ get_or-set_other ss i k (get_or ss j d) d x

length_swap : (ss : List Span) (i j : ℕ) (d : Span) → i < length ss → j < length ss → length (swap ss i j) ≡ length ss
length_swap ss i j d a b = ap length (sym (swap_is ss i j d a b)) ∙ length-set (set ss i (get_or ss j d)) j (get_or ss i d) ∙ length-set ss i (get_or ss j d)

pairs_swapped : (ss : List Span) (i j : ℕ) → i < length ss → j < length ss → Pairs ss → Pairs (swap ss i j)
pairs_swapped ss i j a b h = λ k m d l n ne.
    let inside : k < length ss = omega (arith, length_swap ss i j d a b) in
    let other : m < length ss = omega (arith, length_swap ss i j d a b) in
    rw (moved_is ss i j k d a b inside, moved_is ss i j m d a b other) (h (moved i j k) (moved i j m) d (moved_below (length ss) i j k a b inside) (moved_below (length ss) i j m a b other) (moved_apart i j k m ne))

pairs_permuted : (xs ys : List Span) → IsPermutation xs ys → Pairs xs → Pairs ys
pairs_permuted xs ys p h = IsPermutation-keeps xs Pairs h (λ l i j a b g. pairs_swapped l i j a b g) ys p

-- ---- spans in order

ends_later : (s t u : Span) → ends_before s t ≡ true → t.start ≤ u.start → ends_before s u ≡ true
ends_later s t u h l =
    let both = and_parts (not s.is_open) (nat_le s.end t.start) h in
    let e : s.end ≤ t.start = grind (arith, both.1) in
    and_from _ _ both.0 (grind arith)

order_apart : (ss : List Span) → IsNonDecreasingBy (λ (s : Span). s.start) ss → EachEndsBeforeNext ss → (i j : ℕ) (d : Span) → i < j → j < length ss → ends_before (get_or ss i d) (get_or ss j d) ≡ true
order_apart ss up each i j d l m = ends_later (get_or ss i d) (get_or ss (i + 1) d) (get_or ss j d) (each i d (omega arith)) (up (i + 1) j d (omega arith) m)

apart_by : (s t : Span) → ends_before s t ≡ true → are_apart s t ≡ true
apart_by s t h = rw h (go (is_empty s || is_empty t))
  where
    go : (a : Bool) → (a || true) ≡ true
    go true = refl
    go false = refl

pub ordered_pairs : (ss : List Span) → IsNonDecreasingBy (λ (s : Span). s.start) ss → EachEndsBeforeNext ss → Pairs ss
ordered_pairs ss up each i j d l m ne = go (ltb i j) refl
  where
    go : (b : Bool) → ltb i j ≡ b → are_apart (get_or ss i d) (get_or ss j d) ≡ true
    go true e = let less : i < j = grind arith in apart_by (get_or ss i d) (get_or ss j d) (order_apart ss up each i j d less m)
    go false e = let less : j < i = grind arith in apart_swaps (get_or ss i d) (get_or ss j d) ∙ apart_by (get_or ss j d) (get_or ss i d) (order_apart ss up each j i d less l)

next_by : (s t : Span) → IsProper s → IsProper t → s.start ≤ t.start → are_apart s t ≡ true → ends_before s t ≡ true
next_by s t p q l h = go (ends_before s t) refl (rw (p.some, q.some) at h)
  where
    bad : ends_before t s ≡ true → false ≡ true
    bad e =
        let both = and_parts (not t.is_open) (nat_le t.end s.start) e in
        let end : t.end ≤ s.start = grind (arith, both.1) in
        let f = q.forward in
        let same : (t.end == t.start) ≡ true = grind arith in
        sym q.some ∙ and_from _ _ both.0 same

    go : (b : Bool) → ends_before s t ≡ b → (b || ends_before t s) ≡ true → b ≡ true
    go true e k = refl
    go false e k = bad k

pub pairs_ordered : (ss : List Span) → IsNonDecreasingBy (λ (s : Span). s.start) ss → All IsProper ss → Pairs ss → EachEndsBeforeNext ss
pairs_ordered ss up all h k d l =
    let ne : k ≢ k + 1 = omega arith in
    next_by (get_or ss k d) (get_or ss (k + 1) d) (all k d (omega arith)) (all (k + 1) d l) (up k (k + 1) d (omega arith) l) (h k (k + 1) d (omega arith) l ne)

-- ---- together

pub overlap_by_order : (ss kept sorted : List Span) (answer : Bool) → All IsForward ss → kept ≡ filter (λ t. not (is_empty t)) ss → IsPermutation kept sorted → IsNonDecreasingBy (λ (s : Span). s.start) sorted
    → (answer ≡ true → EachEndsBeforeNext sorted) → (EachEndsBeforeNext sorted → answer ≡ true) → answer ≡ none_overlap ss
overlap_by_order ss kept sorted answer forward is moves up told tells = same answer (none_overlap ss) refl refl
  where
    proper : All IsProper sorted
    proper = All-permutation IsProper kept sorted moves (rw is (proper_filtered ss forward))

    whole : none_overlap kept ≡ none_overlap ss
    whole = ap none_overlap is ∙ overlap_filtered ss

    same : (a b : Bool) → answer ≡ a → none_overlap ss ≡ b → a ≡ b
    same true true e f = refl
    same false false e f = refl
    same true false e f =
        let pairs : Pairs kept = pairs_permuted sorted kept (IsPermutation-sym kept sorted moves) (ordered_pairs sorted up (told e)) in
        sym (apart_pairs kept pairs) ∙ whole ∙ f
    same false true e f =
        let pairs : Pairs sorted = pairs_permuted kept sorted moves (pairs_apart kept (whole ∙ f)) in
        sym e ∙ tells (pairs_ordered sorted up proper pairs)
