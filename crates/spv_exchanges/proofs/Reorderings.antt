-- Events that don't conflict may change places, whatever the machine: each event sees no more of a state than what it reads, and changes no
-- more than what it writes and what its own actor alone sees.
use Rattle.std.proofs.Common.{◌≡◌, ◌≢◌, ◌∙◌, ℕ, zero, suc, ◌+◌, ◌-◌, ◌≤◌, List, [], ◌∷◌, length, inl, inr, refl, sym, ap, subst, arith}
use Rattle.std.specs.Prelude.{⊤, ◌<◌, slice_index_or}
use Rattle.std.specs.List.{AllByRecursion}
use Rattle.std.proofs.lemmas.Bool.{cases_eq}
use Rattle.spv_order.specs.Exchanges.{exchanged, exchanged_at}

-- A machine: states and places; a state after the next event of an actor, what that reads and writes, and a condition on it. `Sees i r s t`:
-- actor i sees the same in s and t, but for what is in r. `own s k` is what k alone sees.
pub record Machine : Type 1 where
  pub State : Type 0
  pub Places : Type 0
  pub Own : Type 0
  pub next : State → ℕ → State
  pub reads_of : State → ℕ → Places
  pub writes_of : State → ℕ → Places
  pub Quiet : State → ℕ → Type 0
  pub Sees : ℕ → Places → State → State → Type 0
  pub Apart : Places → Places → Type 0
  pub own : State → ℕ → Own
  pub turned_apart : (r q : Places) → Apart r q → Apart q r
  pub turned : (i : ℕ) (r : Places) (s t : State) → Sees i r s t → Sees i r t s
  pub joined : (i : ℕ) (r : Places) (s t u : State) → Sees i r s t → Sees i r t u → Sees i r s u
  pub same_own : (i : ℕ) (r : Places) (s t : State) → Sees i r s t → own s i ≡ own t i
  pub same_reads : (i : ℕ) (r : Places) (s t : State) → Sees i r s t → Apart r (reads_of s i) → reads_of s i ≡ reads_of t i
  pub same_writes : (i : ℕ) (r : Places) (s t : State) → Sees i r s t → Apart r (reads_of s i) → writes_of s i ≡ writes_of t i
  pub still_quiet : (i : ℕ) (r : Places) (s t : State) → Sees i r s t → Apart r (reads_of s i) → Quiet s i → Quiet t i
  -- an event leaves the others all but what it writes, and makes states that look the same of such states
  pub left : (i j : ℕ) (s : State) → Quiet s i → i ≢ j → Sees j (writes_of s i) s (next s i)
  pub made : (i : ℕ) (r : Places) (s t : State) → Quiet s i → Sees i r s t → Apart r (reads_of s i) → Sees i r (next s i) (next t i)
  -- a state is what its actors see
  pub told : (i j : ℕ) (r q : Places) (s t : State) → Apart r q → Sees i r s t → Sees j q s t → ((k : ℕ) → own s k ≡ own t k) → s ≡ t

module _ (machine : Machine) where
  abbrev pub State : Type 0
  State = machine.State

  abbrev pub Places : Type 0
  Places = machine.Places

  abbrev pub next : State → ℕ → State
  next = machine.next

  abbrev pub reads_of : State → ℕ → Places
  reads_of = machine.reads_of

  abbrev pub writes_of : State → ℕ → Places
  writes_of = machine.writes_of

  abbrev pub Quiet : State → ℕ → Type 0
  Quiet = machine.Quiet

  abbrev pub Sees : ℕ → Places → State → State → Type 0
  Sees = machine.Sees

  abbrev pub Apart : Places → Places → Type 0
  Apart = machine.Apart

  -- two events of different actors, the second in the state after the first
  pub record Exchanged (s : State) (i j : ℕ) : Type 0 where
    pub state : next (next s i) j ≡ next (next s j) i
    pub first : Quiet s j
    pub second : Quiet (next s j) i
    pub reads_first : reads_of (next s i) j ≡ reads_of s j
    pub writes_first : writes_of (next s i) j ≡ writes_of s j
    pub reads_second : reads_of s i ≡ reads_of (next s j) i
    pub writes_second : writes_of s i ≡ writes_of (next s j) i

  module _ (s : State) (i j : ℕ) (other : i ≢ j) (quiet : Quiet s i) (then : Quiet (next s i) j)
      (seen : Apart (writes_of s i) (reads_of (next s i) j)) (written : Apart (writes_of (next s i) j) (writes_of s i)) (later : Apart (writes_of (next s i) j) (reads_of s i)) where
    abbrev s1 : State
    s1 = next s i

    abbrev s2 : State
    s2 = next s j

    abbrev s12 : State
    s12 = next s1 j

    abbrev s21 : State
    s21 = next s2 i

    -- j in s as after i
    back : Sees j (writes_of s i) s1 s
    back = machine.turned j (writes_of s i) s s1 (machine.left i j s quiet other)

    quiet_first : Quiet s j
    quiet_first = machine.still_quiet j (writes_of s i) s1 s back seen then

    same_first : writes_of s1 j ≡ writes_of s j
    same_first = machine.same_writes j (writes_of s i) s1 s back seen

    -- i after j as in s
    forth : Sees i (writes_of s1 j) s s2
    forth = subst (λ (r : Places). Sees i r s s2) (sym same_first) (machine.left j i s quiet_first (λ e. other (sym e)))

    quiet_second : Quiet s2 i
    quiet_second = machine.still_quiet i (writes_of s1 j) s s2 forth later quiet

    same_second : writes_of s i ≡ writes_of s2 i
    same_second = machine.same_writes i (writes_of s1 j) s s2 forth later

    -- i sees the same behind both, but for what j writes
    by_first : Sees i (writes_of s1 j) s12 s21
    by_first = machine.joined i (writes_of s1 j) s12 s1 s21 (machine.turned i (writes_of s1 j) s1 s12 (machine.left j i s1 then (λ e. other (sym e)))) (machine.made i (writes_of s1 j) s s2 quiet forth later)

    -- and j, but for what i writes
    to_last : Sees j (writes_of s i) s2 s21
    to_last = subst (λ (r : Places). Sees j r s2 s21) (sym same_second) (machine.left i j s2 quiet_second other)

    by_second : Sees j (writes_of s i) s12 s21
    by_second = machine.joined j (writes_of s i) s12 s2 s21 (machine.made j (writes_of s i) s1 s then back seen) to_last

    others : (k : ℕ) → i ≢ k → j ≢ k → machine.own s12 k ≡ machine.own s21 k
    others k a b =
        sym (machine.same_own k (writes_of s1 j) s1 s12 (machine.left j k s1 then b)) ∙ sym (machine.same_own k (writes_of s i) s s1 (machine.left i k s quiet a))
        ∙ machine.same_own k (writes_of s j) s s2 (machine.left j k s quiet_first b) ∙ machine.same_own k (writes_of s2 i) s2 s21 (machine.left i k s2 quiet_second a)

    each : (k : ℕ) → machine.own s12 k ≡ machine.own s21 k
    each k = elim (cases_eq i k) [
      | inl e ↦ subst (λ (m : ℕ). machine.own s12 m ≡ machine.own s21 m) e (machine.same_own i (writes_of s1 j) s12 s21 by_first)
      | inr a ↦ elim (cases_eq j k) [
        | inl e ↦ subst (λ (m : ℕ). machine.own s12 m ≡ machine.own s21 m) e (machine.same_own j (writes_of s i) s12 s21 by_second)
        | inr b ↦ others k a b
      ]
    ]

    pub pair_exchanged : Exchanged s i j
    pair_exchanged = record {
      state = machine.told i j (writes_of s1 j) (writes_of s i) s12 s21 written by_first by_second each;
      first = quiet_first;
      second = quiet_second;
      reads_first = machine.same_reads j (writes_of s i) s1 s back seen;
      writes_first = same_first;
      reads_second = machine.same_reads i (writes_of s1 j) s s2 forth later;
      writes_second = same_second;
    }

  -- ---- one after the other

  -- the state behind the first so many events of a list of actors
  abbrev pub after : ℕ → List ℕ → State → State
  after zero es s = s
  after (suc n) [] s = s
  after (suc n) (i ∷ is) s = after n is (next s i)

  abbrev pub AreQuiet : ℕ → List ℕ → State → Type 0
  AreQuiet zero es s = ⊤
  AreQuiet (suc n) [] s = ⊤
  AreQuiet (suc n) (i ∷ is) s = Quiet s i × AreQuiet n is (next s i)

  pub record Touch : Type 0 where
    pub actor : ℕ
    pub reads : Places
    pub writes : Places

  abbrev pub touch : State → ℕ → Touch
  touch s i = record { actor = i; reads = reads_of s i; writes = writes_of s i }

  abbrev pub touches : ℕ → List ℕ → State → List Touch
  touches zero es s = []
  touches (suc n) [] s = []
  touches (suc n) (i ∷ is) s = touch s i ∷ touches n is (next s i)

  -- two events are of one actor, or neither writes where the other reads or writes
  abbrev pub IsFree : Touch → Touch → Type 0
  IsFree t u = t.actor ≢ u.actor → (Apart t.writes u.reads) × (Apart u.writes t.writes) × (Apart u.writes t.reads)

  abbrev pub AreFree : List Touch → Type 0
  AreFree [] = ⊤
  AreFree (t ∷ ts) = AllByRecursion (IsFree t) ts × AreFree ts

  turned_free : (t u : Touch) → IsFree t u → IsFree u t
  turned_free t u free other = let f = free (λ e. other (sym e)) in (f.2, machine.turned_apart u.writes t.writes f.1, f.0)

  -- ---- by their places

  pub all_quiet : (n : ℕ) (es : List ℕ) (s : State) → ((k : ℕ) → k < n → k < length es → Quiet (after k es s) (slice_index_or es k 0)) → AreQuiet n es s
  all_quiet zero es s quiet = tt
  all_quiet (suc n) [] s quiet = tt
  all_quiet (suc n) (i ∷ is) s quiet = (quiet zero (omega arith) (omega arith), all_quiet n is (next s i) (λ k low within. quiet (suc k) (omega (arith, low)) (omega (arith, within))))

  -- what the event with a number touches
  abbrev pub touch_at : List ℕ → State → ℕ → Touch
  touch_at es s k = touch (after k es s) (slice_index_or es k 0)

  each_free : (t : Touch) (n : ℕ) (es : List ℕ) (s : State) → ((k : ℕ) → k < n → k < length es → IsFree t (touch_at es s k)) → AllByRecursion (IsFree t) (touches n es s)
  each_free t zero es s free = tt
  each_free t (suc n) [] s free = tt
  each_free t (suc n) (i ∷ is) s free = (free zero (omega arith) (omega arith), each_free t n is (next s i) (λ k low within. free (suc k) (omega (arith, low)) (omega (arith, within))))

  pub all_free : (n : ℕ) (es : List ℕ) (s : State) → ((j k : ℕ) → j < k → k < n → k < length es → IsFree (touch_at es s j) (touch_at es s k)) → AreFree (touches n es s)
  all_free zero es s free = tt
  all_free (suc n) [] s free = tt
  all_free (suc n) (i ∷ is) s free = (
    each_free (touch s i) n is (next s i) (λ k low within. free zero (suc k) (omega arith) (omega (arith, low)) (omega (arith, within))),
    all_free n is (next s i) (λ j k before low within. free (suc j) (suc k) (omega (arith, before)) (omega (arith, low)) (omega (arith, within))),
  )

  -- ---- one exchange

  pub record Reordered (k n : ℕ) (es : List ℕ) (s : State) : Type 0 where
    pub state : after n (exchanged_at k es) s ≡ after n es s
    pub quiet : AreQuiet n (exchanged_at k es) s
    pub each : (t : Touch) → AllByRecursion (IsFree t) (touches n es s) → AllByRecursion (IsFree t) (touches n (exchanged_at k es) s)
    pub free : AreFree (touches n (exchanged_at k es) s)

  -- of two events of one actor
  twins : (m x y : ℕ) (ys : List ℕ) (s : State) → x ≡ y → AreQuiet (suc (suc m)) (x ∷ y ∷ ys) s → AreFree (touches (suc (suc m)) (x ∷ y ∷ ys) s) → Reordered zero (suc (suc m)) (x ∷ y ∷ ys) s
  twins m x y ys s same quiet free =
      let list : x ∷ y ∷ ys ≡ y ∷ x ∷ ys = cc in
      record {
        state = ap (λ (es : List ℕ). after (suc (suc m)) es s) (sym list);
        quiet = subst (λ (es : List ℕ). AreQuiet (suc (suc m)) es s) list quiet;
        each = λ t h. subst (λ (es : List ℕ). AllByRecursion (IsFree t) (touches (suc (suc m)) es s)) list h;
        free = subst (λ (es : List ℕ). AreFree (touches (suc (suc m)) es s)) list free;
      }

  -- and of two
  module _ (m x y : ℕ) (ys : List ℕ) (s : State) (other : x ≢ y) (quiet : AreQuiet (suc (suc m)) (x ∷ y ∷ ys) s) (free : AreFree (touches (suc (suc m)) (x ∷ y ∷ ys) s)) where
    pair : Exchanged s x y
    pair = let f = free.0.0 other in pair_exchanged s x y other quiet.0 quiet.1.0 f.0 f.1 f.2

    behind : next (next s x) y ≡ next (next s y) x
    behind = pair.state

    first_touch : touch (next s x) y ≡ touch s y
    first_touch = ap (λ (r : Places). record { actor = y; reads = r; writes = writes_of (next s x) y }) pair.reads_first
        ∙ ap (λ (r : Places). record { actor = y; reads = reads_of s y; writes = r }) pair.writes_first

    second_touch : touch s x ≡ touch (next s y) x
    second_touch = ap (λ (r : Places). record { actor = x; reads = r; writes = writes_of s x }) pair.reads_second
        ∙ ap (λ (r : Places). record { actor = x; reads = reads_of (next s y) x; writes = r }) pair.writes_second

    abbrev rest : List Touch
    rest = touches m ys (next (next s x) y)

    list : touch (next s x) y ∷ touch s x ∷ rest ≡ touches (suc (suc m)) (y ∷ x ∷ ys) s
    list =
        ap (λ (t : Touch). t ∷ touch s x ∷ rest) first_touch ∙ ap (λ (t : Touch). touch s y ∷ t ∷ rest) second_touch
        ∙ ap (λ (u : State). touch s y ∷ touch (next s y) x ∷ touches m ys u) behind

    pair_reordered : Reordered zero (suc (suc m)) (x ∷ y ∷ ys) s
    pair_reordered = record {
      state = ap (after m ys) (sym behind);
      quiet = (pair.first, (pair.second, subst (AreQuiet m ys) behind quiet.1.1));
      each = λ t h. subst (AllByRecursion (IsFree t)) list (h.1.0, (h.0, h.1.1));
      free = subst AreFree list ((turned_free (touch s x) (touch (next s x) y) free.0.0, free.1.0), (free.0.1, free.1.1));
    }

  pub reordered : (k n : ℕ) (es : List ℕ) (s : State) → k + 2 ≤ n → n ≤ length es → AreQuiet n es s → AreFree (touches n es s) → Reordered k n es s
  reordered k zero es s low within quiet free = absurd (omega arith)
  reordered k (suc zero) es s low within quiet free = absurd (omega arith)
  reordered k (suc (suc m)) [] s low within quiet free = absurd (omega arith)
  reordered k (suc (suc m)) (x ∷ []) s low within quiet free = absurd (omega arith)
  reordered zero (suc (suc m)) (x ∷ y ∷ ys) s low within quiet free =
      elim (cases_eq x y) [ inl same ↦ twins m x y ys s same quiet free | inr other ↦ pair_reordered m x y ys s other quiet free ]
  reordered (suc k) (suc (suc m)) (x ∷ y ∷ ys) s low within quiet free =
      let r = reordered k (suc m) (y ∷ ys) (next s x) (omega arith) (omega arith) quiet.1 free.1 in
      record { state = r.state; quiet = (quiet.0, r.quiet); each = λ t h. (h.0, r.each t h.1); free = (r.each (touch s x) free.0, r.free) }

  -- ---- several

  exchanged_length : {X : Type 0} (k : ℕ) (xs : List X) → length (exchanged_at k xs) ≡ length xs
  exchanged_length k [] = refl
  exchanged_length k (x ∷ []) = refl
  exchanged_length zero (x ∷ y ∷ ys) = refl
  exchanged_length (suc k) (x ∷ y ∷ ys) = ap suc (exchanged_length k (y ∷ ys))

  -- the entries from a place on
  abbrev pub from_on : ℕ → List ℕ → List ℕ
  from_on zero es = es
  from_on (suc n) [] = []
  from_on (suc n) (x ∷ xs) = from_on n xs

  -- what stands before the exchange stays
  kept_before : (from k : ℕ) (es : List ℕ) (s : State) → from ≤ k → after from (exchanged_at k es) s ≡ after from es s
  kept_before zero k es s low = refl
  kept_before (suc from) k [] s low = refl
  kept_before (suc from) k (x ∷ []) s low = refl
  kept_before (suc from) zero (x ∷ y ∷ ys) s low = absurd (omega arith)
  kept_before (suc from) (suc k) (x ∷ y ∷ ys) s low = kept_before from k (y ∷ ys) (next s x) (omega arith)

  exchanged_behind : (from k : ℕ) (es : List ℕ) → from_on from (exchanged_at (from + k) es) ≡ exchanged_at k (from_on from es)
  exchanged_behind from k es = by from es (from + k) refl
    where
      nothing : (n k : ℕ) → from_on n [] ≡ exchanged_at k (from_on n [])
      nothing zero k = refl
      nothing (suc n) k = refl

      single : (n : ℕ) → from_on n [] ≡ []
      single zero = refl
      single (suc n) = refl

      by : (n : ℕ) (es : List ℕ) (m : ℕ) → n + k ≡ m → from_on n (exchanged_at m es) ≡ exchanged_at k (from_on n es)
      by zero es m e = let same : m ≡ k = omega arith in ap (λ (j : ℕ). exchanged_at j es) same
      by (suc n) [] m e = refl
      by (suc n) (x ∷ []) m e = nothing n k
      by (suc n) (x ∷ y ∷ ys) zero e = absurd (omega arith)
      by (suc n) (x ∷ y ∷ ys) (suc m) e = by n (y ∷ ys) m (omega arith)

  none_behind : (m : ℕ) (s : State) → s ≡ after m [] s
  none_behind zero s = refl
  none_behind (suc m) s = refl

  pub in_two : (from n : ℕ) (es : List ℕ) (s : State) → after (from + n) es s ≡ after n (from_on from es) (after from es s)
  in_two zero n es s = let same : 0 + n ≡ n = omega arith in ap (λ (m : ℕ). after m es s) same
  in_two (suc from) n [] s = let same : suc from + n ≡ suc (from + n) = omega arith in ap (λ (m : ℕ). after m [] s) same ∙ none_behind n s
  in_two (suc from) n (x ∷ xs) s = let same : suc from + n ≡ suc (from + n) = omega arith in ap (λ (m : ℕ). after m (x ∷ xs) s) same ∙ in_two from n xs (next s x)

  pub from_length : (from : ℕ) (es : List ℕ) → length es ≤ from + length (from_on from es)
  from_length zero es = omega arith
  from_length (suc from) [] = omega arith
  from_length (suc from) (x ∷ xs) = let less = from_length from xs in omega (arith, less)

  pub index_on : (from k : ℕ) (es : List ℕ) → slice_index_or es (from + k) 0 ≡ slice_index_or (from_on from es) k 0
  index_on zero k es = let same : 0 + k ≡ k = omega arith in ap (λ (m : ℕ). slice_index_or es m 0) same
  index_on (suc from) k [] = let same : suc from + k ≡ suc (from + k) = omega arith in ap (λ (m : ℕ). slice_index_or [] m 0) same
  index_on (suc from) k (x ∷ xs) = let same : suc from + k ≡ suc (from + k) = omega arith in ap (λ (m : ℕ). slice_index_or (x ∷ xs) m 0) same ∙ index_on from k xs

  -- exchanges among the events from a position on, so many
  abbrev pub AreAmong : (from n : ℕ) → List ℕ → Type 0
  AreAmong from n places = AllByRecursion (λ k. (from ≤ k) × (k + 2 ≤ from + n)) places

  pub all_reordered : (from n : ℕ) (places es : List ℕ) (s : State) → AreAmong from n places → from + n ≤ length es
      → AreQuiet n (from_on from es) (after from es s) → AreFree (touches n (from_on from es) (after from es s)) → after (from + n) (exchanged places es) s ≡ after (from + n) es s
  all_reordered from n [] es s among within quiet free = refl
  all_reordered from n (k ∷ ks) es s among within quiet free =
      let low = among.0.0 in
      let high = among.0.1 in
      let fs : List ℕ = exchanged_at k es in
      let same : from + (k - from) ≡ k = omega arith in
      let list : from_on from fs ≡ exchanged_at (k - from) (from_on from es)
      = ap (λ (j : ℕ). from_on from (exchanged_at j es)) (sym same) ∙ exchanged_behind from (k - from) es in
      let state : after from fs s ≡ after from es s = kept_before from k es s low in
      let less = from_length from es in
      let r = reordered (k - from) n (from_on from es) (after from es s) (omega arith) (omega arith) quiet free in
      let quiet_then : AreQuiet n (from_on from fs) (after from fs s) = rw (list, state) r.quiet in
      let free_then : AreFree (touches n (from_on from fs) (after from fs s)) = rw (list, state) r.free in
      let many : length fs ≡ length es = exchanged_length k es in
      all_reordered from n ks fs s among.1 (omega arith) quiet_then free_then
      ∙ in_two from n fs s ∙ ap (λ (gs : List ℕ). after n gs (after from fs s)) list ∙ ap (after n (exchanged_at (k - from) (from_on from es))) state
      ∙ r.state ∙ sym (in_two from n es s)
