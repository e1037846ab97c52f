-- Touches before a place of their list: how far they reach, and where two of them clash.
use Rattle.std.proofs.Common.{◌≡◌, ◌≢◌, ◌⊎◌, ◌+◌, ◌<◌, ◌≤◌, ℕ, zero, suc, true, false, max, List, length, get_or, inl, inr, refl, sym, ◌∙◌, ap, subst, arith}
use Rattle.std.proofs.lemmas.Bool.{cases_Bool, cases_lt}
use Rattle.std.proofs.lemmas.List.{get_or_default}
use Rattle.std.specs.List.{All, Contains}
use Rattle.std.specs.List.Sorted.{IsNonDecreasingBy}
use Rattle.spv_order.specs.Reaches.{part_of}
use Rattle.spv_order.specs.Sweep.{Clash, Clashes, IsChosen, IsFree}
use Rattle.spv_order.specs.declared.touches.Touch.{Touch}

same_place : (xs : List Touch) (k : ℕ) (s t : Touch) → k < length xs → s ≡ get_or xs k s → t ≡ get_or xs k t → s ≡ t
same_place xs k s t l a b = a ∙ get_or_default xs k s t l ∙ sym b

-- below k + 1 is below k, or k
pub before_or_here : (j k : ℕ) → j < k + 1 → (j < k) ⊎ (j ≡ k)
before_or_here j k l = elim (cases_lt j k) [ inl below ↦ inl below | inr from ↦ inr (omega (arith, l, from)) ]

pub clash_turned : (s t : Touch) (a : ℕ) → Clash s t a → Clash t s a
clash_turned s t a c = ((λ e. c.0 (sym e)), elim c.1 [ inl x ↦ inr x | inr x ↦ inl x ], c.4, c.5, c.2, c.3)

-- ---- reaches

-- how far the touches before k with P reach that are of others than i
pub record IsReach (P : Touch → Type 0) (xs : List Touch) (k i n : ℕ) : Type 0 where
  pub upper : (j : ℕ) (s : Touch) → j < k → s ≡ get_or xs j s → P s → s.invocation ≢ i → s.stop ≤ n
  pub attained : (m : ℕ) → m < n → (j : ℕ) × (s : Touch) × (j < k) × (s ≡ get_or xs j s) × P s × (s.invocation ≢ i) × (m < s.stop)

reach_none : (P : Touch → Type 0) (xs : List Touch) (i n : ℕ) → n ≡ 0 → IsReach P xs 0 i n
reach_none P xs i n e = record { upper = λ j s l at p ne. absurd (omega (arith, l)); attained = λ m l. absurd (omega (arith, l, e)) }

reach_past : (P : Touch → Type 0) (xs : List Touch) (k i n : ℕ) (t : Touch) → k < length xs → t ≡ get_or xs k t → (P t → ⊥) → IsReach P xs k i n → IsReach P xs (k + 1) i n
reach_past P xs k i n t within at un r = record {
  upper = λ j s l is p ne. elim (before_or_here j k l) [
    | inl below ↦ r.upper j s below is p ne
    | inr here ↦ absurd (un (subst P (same_place xs k s t within (subst (λ h. s ≡ get_or xs h s) here is) at) p))
  ];
  attained = λ m l. let found = r.attained m l in (found.0, found.1, omega (arith, found.2), found.3, found.4, found.5, found.6);
}

part_here : (v s i : ℕ) → v ≢ i → part_of v s i ≡ s
part_here v s i ne = grind arith

part_other : (v s i m : ℕ) → m < part_of v s i → v ≢ i
part_other v s i m l = grind arith

reach_more : (P : Touch → Type 0) (xs : List Touch) (k i n more : ℕ) (t : Touch) → k < length xs → t ≡ get_or xs k t → P t → more ≡ max n (part_of t.invocation t.stop i) → IsReach P xs k i n → IsReach P xs (k + 1) i more
reach_more P xs k i n more t within at p is r = record {
  upper = λ j s l there q ne. elim (before_or_here j k l) [
    | inl below ↦ let old = r.upper j s below there q ne in omega (arith, old, is)
    | inr here ↦
        let same = same_place xs k s t within (subst (λ h. s ≡ get_or xs h s) here there) at in
        let other : t.invocation ≢ i = subst (λ u. u.invocation ≢ i) same ne in
        let part = part_here t.invocation t.stop i other in
        let end : s.stop ≡ t.stop = ap (λ u. u.stop) same in
        omega (arith, part, is, end)
  ];
  attained = λ m l. elim (cases_lt m n) [
    | inl below ↦ let found = r.attained m below in (found.0, found.1, omega (arith, found.2), found.3, found.4, found.5, found.6)
    | inr from ↦
        let beyond : m < part_of t.invocation t.stop i = omega (arith, l, from, is) in
        let other = part_other t.invocation t.stop i m beyond in
        let part = part_here t.invocation t.stop i other in
        (k, t, omega arith, at, p, other, omega (arith, part, beyond))
  ];
}

-- ---- the sweep

-- what a loop over touches reads past their end
abbrev pub nothing : Touch
nothing = record { start = 0; stop = 0; event = 0; invocation = 0; writes = false }

pub IsWrite : (below also : ℕ) → Touch → Type 0
IsWrite below also t = IsChosen below also t × (t.writes ≡ true)

-- what is known of the touches before k
pub record Swept (xs : List Touch) (below also k : ℕ) (all written : ℕ → ℕ) : Type 0 where
  pub of_all : (i : ℕ) → IsReach (λ t. IsChosen below also t) xs k i (all i)
  pub of_written : (i : ℕ) → IsReach (λ t. IsChosen below also t × (t.writes ≡ true)) xs k i (written i)
  pub free : (i j a : ℕ) (s t : Touch) → i < k → j < k → s ≡ get_or xs i s → t ≡ get_or xs j t → IsChosen below also s → IsChosen below also t → Clash s t a → ⊥

pub swept_begins : (xs : List Touch) (below also : ℕ) (all written : ℕ → ℕ) → ((i : ℕ) → all i ≡ 0) → ((i : ℕ) → written i ≡ 0) → Swept xs below also 0 all written
swept_begins xs below also all written a w = record {
  of_all = λ i. reach_none _ xs i (all i) (a i);
  of_written = λ i. reach_none _ xs i (written i) (w i);
  free = λ i j a s t l. absurd (omega (arith, l));
}

pub swept_past : (xs : List Touch) (below also k : ℕ) (all written : ℕ → ℕ) (t : Touch) → k < length xs → t ≡ get_or xs k t → (IsChosen below also t → ⊥) → Swept xs below also k all written → Swept xs below also (k + 1) all written
swept_past xs below also k all written t within at un swept =
    record {
      of_all = λ i. reach_past _ xs k i (all i) t within at un (swept.of_all i);
      of_written = λ i. reach_past _ xs k i (written i) t within at (λ p. un p.0) (swept.of_written i);
      free = λ i j a s u li lj si uj ps pu clash. elim (before_or_here i k li) [
        | inl i_below ↦ elim (before_or_here j k lj) [
          | inl j_below ↦ swept.free i j a s u i_below j_below si uj ps pu clash
          | inr here ↦ un (subst (λ v. IsChosen below also v) (same_place xs k u t within (subst (λ h. u ≡ get_or xs h u) here uj) at) pu)
        ]
        | inr here ↦ un (subst (λ v. IsChosen below also v) (same_place xs k s t within (subst (λ h. s ≡ get_or xs h s) here si) at) ps)
      ];
    }

-- a touch clashes with none before it where they don't reach past its start
no_clash : (xs : List Touch) (below also k : ℕ) (all written : ℕ → ℕ) (t : Touch) (reach : ℕ) → Swept xs below also k all written
    → (t.writes ≡ true → reach ≡ all t.invocation) → (t.writes ≡ false → reach ≡ written t.invocation) → (t.start < t.stop → reach ≤ t.start)
    → (j a : ℕ) (s : Touch) → j < k → s ≡ get_or xs j s → IsChosen below also s → Clash s t a → ⊥
no_clash xs below also k all written t reach swept by_all by_written short j a s l at p (ne, one, s_from, s_to, t_from, t_to) =
    let low = short (omega (arith, t_from, t_to)) in
    elim (cases_Bool t.writes) [
      | inl w ↦ let far = (swept.of_all t.invocation).upper j s l at p ne in omega (arith, far, by_all w, low, s_to, t_from)
      | inr w ↦ elim one [
        | inl sw ↦ let far = (swept.of_written t.invocation).upper j s l at (p, sw) ne in omega (arith, far, by_written w, low, s_to, t_from)
        | inr tw ↦ absurd (cc)
      ]
    ]

not_itself : (t : Touch) (a : ℕ) → Clash t t a → ⊥
not_itself t a c = c.0 refl

unwritten : (t : Touch) → t.writes ≡ false → t.writes ≡ true → ⊥
unwritten t f w = absurd (cc)

pub swept_takes : (xs : List Touch) (below also k : ℕ) (all written more_all more_written : ℕ → ℕ) (t : Touch) (reach : ℕ) → k < length xs → t ≡ get_or xs k t → IsChosen below also t
    → (t.writes ≡ true → reach ≡ all t.invocation) → (t.writes ≡ false → reach ≡ written t.invocation) → (t.start < t.stop → reach ≤ t.start)
    → ((i : ℕ) → more_all i ≡ max (all i) (part_of t.invocation t.stop i))
    → (t.writes ≡ true → (i : ℕ) → more_written i ≡ max (written i) (part_of t.invocation t.stop i))
    → (t.writes ≡ false → (i : ℕ) → more_written i ≡ written i)
    → Swept xs below also k all written → Swept xs below also (k + 1) more_all more_written
swept_takes xs below also k all written more_all more_written t reach within at p by_all by_written short is_all is_written is_same swept =
    let apart = no_clash xs below also k all written t reach swept by_all by_written short in
    let here_is = λ (u : Touch) (j : ℕ) (here : j ≡ k) (is : u ≡ get_or xs j u). same_place xs k u t within (subst (λ h. u ≡ get_or xs h u) here is) at in
    record {
      of_all = λ i. reach_more _ xs k i (all i) (more_all i) t within at p (is_all i) (swept.of_all i);
      of_written = λ i. elim (cases_Bool t.writes) [
        | inl w ↦ reach_more _ xs k i (written i) (more_written i) t within at (p, w) (is_written w i) (swept.of_written i)
        | inr w ↦ subst (λ n. IsReach (λ u. IsChosen below also u × (u.writes ≡ true)) xs (k + 1) i n) (sym (is_same w i)) (reach_past _ xs k i (written i) t within at (λ q. unwritten t w q.1) (swept.of_written i))
      ];
      free = λ i j a s u li lj si uj ps pu clash. elim (before_or_here i k li) [
        | inl i_below ↦ elim (before_or_here j k lj) [
          | inl j_below ↦ swept.free i j a s u i_below j_below si uj ps pu clash
          | inr here ↦ apart i a s i_below si ps (subst (λ v. Clash s v a) (here_is u j here uj) clash)
        ]
        | inr i_here ↦ elim (before_or_here j k lj) [
          | inl j_below ↦ apart j a u j_below uj pu (subst (λ v. Clash u v a) (here_is s i i_here si) (clash_turned s u a clash))
          | inr here ↦ not_itself t a (subst (λ v. Clash v t a) (here_is s i i_here si) (subst (λ v. Clash s v a) (here_is u j here uj) clash))
        ]
      ];
    }

-- past every touch no two clash
pub swept_ends : (xs : List Touch) (below also k : ℕ) (all written : ℕ → ℕ) → length xs ≤ k → Swept xs below also k all written → (a : ℕ) → IsFree xs below also a
swept_ends xs below also k all written over swept a (s, t, (i, li, si), (j, lj, tj), ps, pt, clash) =
    swept.free i j a s t (omega (arith, li, over)) (omega (arith, lj, over)) (sym si) (sym tj) ps pt clash

in_order : (xs : List Touch) → IsNonDecreasingBy (λ (u : Touch). u.start) xs → (i j : ℕ) (s t : Touch) → i ≤ j → j < length xs → s ≡ get_or xs i s → t ≡ get_or xs j t → s.start ≤ t.start
in_order xs sorted i j s t le lt si tj =
    let one : s.start ≡ (get_or xs i t).start = ap (λ u. u.start) (si ∙ get_or_default xs i s t (omega (arith, le, lt))) in
    let other : t.start ≡ (get_or xs j t).start = ap (λ u. u.start) tj in
    omega (arith, one, other, sorted i j t le lt)

free_below : (xs : List Touch) (below also k : ℕ) (all written : ℕ → ℕ) (t : Touch) → IsNonDecreasingBy (λ (u : Touch). u.start) xs → k < length xs → t ≡ get_or xs k t → Swept xs below also k all written → (b : ℕ) → b < t.start → IsFree xs below also b
free_below xs below also k all written t sorted within at swept b low (s, u, (i, li, si), (j, lj, uj), ps, pu, clash) =
    elim (cases_lt i k) [
      | inl i_below ↦ elim (cases_lt j k) [
        | inl j_below ↦ swept.free i j b s u i_below j_below (sym si) (sym uj) ps pu clash
        | inr from ↦ let high = in_order xs sorted k j t u from lj at (sym uj) in absurd (omega (arith, high, low, clash.4))
      ]
      | inr from ↦ let high = in_order xs sorted k i t s from li at (sym si) in absurd (omega (arith, high, low, clash.2))
    ]

-- where they reach past a start, that is the first address at which two clash
pub swept_found : (xs : List Touch) (below also k : ℕ) (all written : ℕ → ℕ) (t : Touch) (reach : ℕ) → IsNonDecreasingBy (λ (u : Touch). u.start) xs → k < length xs → t ≡ get_or xs k t → IsChosen below also t
    → (t.writes ≡ true → reach ≡ all t.invocation) → (t.writes ≡ false → reach ≡ written t.invocation) → t.start < t.stop → t.start < reach
    → Swept xs below also k all written → Clashes xs below also t.start × ((b : ℕ) → b < t.start → IsFree xs below also b)
swept_found xs below also k all written t reach sorted within at p by_all by_written some past swept = (
  elim (cases_Bool t.writes) [
    | inl w ↦
        let f = (swept.of_all t.invocation).attained t.start (omega (arith, past, by_all w)) in
        (f.1, t, (f.0, omega (arith, f.2, within), sym f.3), (k, within, sym at), f.4, p, (f.5, inr w, in_order xs sorted f.0 k f.1 t (omega (arith, f.2)) within f.3 at, f.6, omega arith, some))
    | inr w ↦
        let f = (swept.of_written t.invocation).attained t.start (omega (arith, past, by_written w)) in
        (f.1, t, (f.0, omega (arith, f.2, within), sym f.3), (k, within, sym at), f.4.0, p, (f.5, inl f.4.1, in_order xs sorted f.0 k f.1 t (omega (arith, f.2)) within f.3 at, f.6, omega arith, some))
  ],
  λ b low c. free_below xs below also k all written t sorted within at swept b low c,
)

-- ---- halving

pub turns : (xs : List Touch) (high also : ℕ) → ((a : ℕ) → IsFree xs 0 also a) → (a : ℕ) × Clashes xs high also a → 0 < high
turns xs zero also free c = absurd (free c.0 c.1)
turns xs (suc high) also free c = omega arith

chosen_by : (b y n : ℕ) (s : Touch) → b ≡ y + 1 → (s.event ≡ n → ⊥) → IsChosen b n s → IsChosen y y s
chosen_by b y n s is un p = elim p [ inl l ↦ before_or_here s.event y (omega (arith, l, is)) | inr same ↦ absurd (un same) ]

event_at : (xs : List Touch) (n : ℕ) (s : Touch) → All (λ (t : Touch). t.event < n) xs → Contains xs s → s.event < n
event_at xs n s all (k, l, is) = subst (λ (t : Touch). t.event < n) is (all k s l)

-- what clashes of the events up to y, clashes of those before y and of y
pub clashes_by : (xs : List Touch) (n b y : ℕ) → All (λ (t : Touch). t.event < n) xs → b ≡ y + 1 → (a : ℕ) × Clashes xs b n a → (a : ℕ) × Clashes xs y y a
clashes_by xs n b y all is (a, (s, t, cs, ct, ps, pt, clash)) = (
  a,
  (
    s,
    t,
    cs,
    ct,
    chosen_by b y n s is (λ e. let l = event_at xs n s all cs in omega (arith, e, l)) ps,
    chosen_by b y n t is (λ e. let l = event_at xs n t all ct in omega (arith, e, l)) pt,
    clash,
  ),
)
