-- Barriers that open and close: which statuses there are then, and how many of each.
use Rattle.std.proofs.Common.{◌≡◌, ◌≢◌, ◌∙◌, ◌≤◌, ◌+◌, ◌-◌, ◌&&◌, ◌||◌, ℕ, Bool, true, false, cond, not, nat_eq, nat_lt, inl, inr, List, [], ◌∷◌, Option, Some, None, length, length-set, map, refl, sym, ap, subst, arith, slice_get, slice_set, slice_index_or}
use Rattle.std.specs.List.{count_by, list_all, list_any}
use Rattle.std.proofs.lemmas.Bool.{and_from, and_parts, and_right, cases_eq, eq-eqb, ne_eqb, or_left}
use Rattle.std.proofs.lemmas.List.Sums.{count_by-le-length}
use Rattle.spv_statuses.specs.declared.invocations.Status.{Status}
use Rattle.spv_statuses.specs.declared.invocations.Status.TheVariants.{Ready, Arrived, Passed, Finished}
use Rattle.spv_statuses.specs.Invocations.{is_finished, moves, once_closed, once_opened, passed_or_finished, waits_at, waits_or_finished}
use Rattle.spv_statuses.specs.Group.{AreCounted, closed, first_waiting, opened, opens_at}
use Rattle.spv_statuses.proofs.CountLemmas.{all_counted, any_counted, count_cons, count_has, count_set}

-- ---- where a test holds of each

-- another test holds of what each becomes
all_map : (t u : Status → Bool) (f : Status → Status) → ((s : Status) → t s ≡ true → u (f s) ≡ true) → (ss : List Status) → list_all t ss ≡ true → list_all u (map f ss) ≡ true
all_map t u f each [] h = refl
all_map t u f each (s ∷ ss) h =
    let both = and_parts (t s) (list_all t ss) h in
    and_from (u (f s)) (list_all u (map f ss)) (each s both.0) (all_map t u f each ss both.1)

all_same : (t u : Status → Bool) → ((s : Status) → t s ≡ true → u s ≡ true) → (ss : List Status) → list_all t ss ≡ true → list_all u ss ≡ true
all_same t u each [] h = refl
all_same t u each (s ∷ ss) h =
    let both = and_parts (t s) (list_all t ss) h in
    and_from (u s) (list_all u ss) (each s both.0) (all_same t u each ss both.1)

-- as many pass one test after as passed another before
count_map : (t p q : Status → Bool) (f : Status → Status) → ((s : Status) → t s ≡ true → p (f s) ≡ q s) → (ss : List Status) → list_all t ss ≡ true → count_by p (map f ss) ≡ count_by q ss
count_map t p q f each [] h = refl
count_map t p q f each (s ∷ ss) h =
    let both = and_parts (t s) (list_all t ss) h in
    let a : count_by p (map f (s ∷ ss)) ≡ cond (p (f s)) 1 0 + count_by p (map f ss) = count_cons p (f s) (map f ss) in
    let b : count_by q (s ∷ ss) ≡ cond (q s) 1 0 + count_by q ss = count_cons q s ss in
    let e : cond {A = ℕ} (p (f s)) 1 0 ≡ cond (q s) 1 0 = ap (λ (x : Bool). cond {A = ℕ} x 1 0) (each s both.0) in
    let r : count_by p (map f ss) ≡ count_by q ss = count_map t p q f each ss both.1 in
    omega (arith, a, b, e, r)

-- none passes a test
count_none : (t p : Status → Bool) → ((s : Status) → t s ≡ true → p s ≡ false) → (ss : List Status) → list_all t ss ≡ true → count_by p ss ≡ 0
count_none t p each [] h = refl
count_none t p each (s ∷ ss) h =
    let both = and_parts (t s) (list_all t ss) h in
    let a : count_by p (s ∷ ss) ≡ cond (p s) 1 0 + count_by p ss = count_cons p s ss in
    let e : cond {A = ℕ} (p s) 1 0 ≡ 0 = ap (λ (x : Bool). cond {A = ℕ} x 1 0) (each s both.0) in
    let r : count_by p ss ≡ 0 = count_none t p each ss both.1 in
    omega (arith, a, e, r)

-- ---- one status

at_word : (at word : ℕ) → (nat_eq at word || false) ≡ true → at ≡ word
at_word at word h = grind (arith, h)

-- waits elsewhere
elsewhere : (word other : ℕ) → other ≢ word → (s : Status) → waits_or_finished word s ≡ true → waits_at other s ≡ false
elsewhere word other ne Ready h = refl
elsewhere word other ne (Arrived at) h = let e = at_word at word h in ne_eqb at other (λ same. ne (sym same ∙ e))
elsewhere word other ne Passed h = refl
elsewhere word other ne Finished h = refl

no_wait : (word : ℕ) (s : Status) → passed_or_finished s ≡ true → waits_at word s ≡ false
no_wait word Ready h = absurd cc
no_wait word (Arrived at) h = absurd cc
no_wait word Passed h = refl
no_wait word Finished h = refl

no_move : (word : ℕ) (s : Status) → waits_or_finished word s ≡ true → moves s ≡ false
no_move word Ready h = absurd cc
no_move word (Arrived at) h = refl
no_move word Passed h = absurd cc
no_move word Finished h = refl

opened_passed : (word : ℕ) (s : Status) → waits_or_finished word s ≡ true → passed_or_finished (once_opened s) ≡ true
opened_passed word Ready h = absurd cc
opened_passed word (Arrived at) h = refl
opened_passed word Passed h = absurd cc
opened_passed word Finished h = refl

opened_moves : (word : ℕ) (s : Status) → waits_or_finished word s ≡ true → moves (once_opened s) ≡ waits_at word s
opened_moves word Ready h = absurd cc
opened_moves word (Arrived at) h = sym (eq-eqb at word (at_word at word h))
opened_moves word Passed h = absurd cc
opened_moves word Finished h = refl

opened_finished : (s : Status) → is_finished (once_opened s) ≡ is_finished s
opened_finished Ready = refl
opened_finished (Arrived at) = refl
opened_finished Passed = refl
opened_finished Finished = refl

closed_waits : (word : ℕ) (s : Status) → passed_or_finished s ≡ true → waits_or_finished word (once_closed word s) ≡ true
closed_waits word Ready h = absurd cc
closed_waits word (Arrived at) h = absurd cc
closed_waits word Passed h = or_left (nat_eq word word) false (eq-eqb word word refl)
closed_waits word Finished h = refl

closed_there : (word : ℕ) (s : Status) → passed_or_finished s ≡ true → waits_at word (once_closed word s) ≡ moves s
closed_there word Ready h = absurd cc
closed_there word (Arrived at) h = absurd cc
closed_there word Passed h = eq-eqb word word refl
closed_there word Finished h = refl

closed_finished : (word : ℕ) (s : Status) → is_finished (once_closed word s) ≡ is_finished s
closed_finished word Ready = refl
closed_finished word (Arrived at) = refl
closed_finished word Passed = refl
closed_finished word Finished = refl

back_again : (word : ℕ) (s : Status) → waits_or_finished word s ≡ true → once_closed word (once_opened s) ≡ s
back_again word Ready h = absurd cc
back_again word (Arrived at) h = ap Arrived (sym (at_word at word h))
back_again word Passed h = absurd cc
back_again word Finished h = refl

-- ---- what opens and closes

pub passed_opened : (word : ℕ) (ss : List Status) → list_all (waits_or_finished word) ss ≡ true → list_all passed_or_finished (opened ss) ≡ true
passed_opened word ss h = all_map (waits_or_finished word) passed_or_finished once_opened (opened_passed word) ss h

waits_closed : (word : ℕ) (ss : List Status) → list_all passed_or_finished ss ≡ true → list_all (waits_or_finished word) (closed word ss) ≡ true
waits_closed word ss h = all_map passed_or_finished (waits_or_finished word) (once_closed word) (closed_waits word) ss h

pub closed_opened : (word : ℕ) (ss : List Status) → list_all (waits_or_finished word) ss ≡ true → closed word (opened ss) ≡ ss
closed_opened word [] h = refl
closed_opened word (s ∷ ss) h =
    let both = and_parts (waits_or_finished word s) (list_all (waits_or_finished word) ss) h in
    ap (λ (x : Status). x ∷ closed word (opened ss)) (back_again word s both.0) ∙ ap (λ (xs : List Status). s ∷ xs) (closed_opened word ss both.1)

pub opens_waiting : (counts : Bool) (word : ℕ) (ss : List Status) → opens_at counts word ss ≡ true → list_all (waits_or_finished word) ss ≡ true
opens_waiting false word ss h = all_same (waits_at word) (waits_or_finished word) (λ s there. or_left (waits_at word s) (is_finished s) there) ss h
opens_waiting true word ss h = (and_parts (list_any (waits_at word) ss) (list_all (waits_or_finished word) ss) h).1

-- where one moves, none opens at which the others wait
moving_waits : (word : ℕ) (ss : List Status) → list_any moves ss ≡ true → list_all (waits_or_finished word) ss ≡ false
moving_waits word [] h = absurd cc
moving_waits word (Ready ∷ ss) h = refl
moving_waits word (Arrived at ∷ ss) h = and_right (waits_or_finished word (Arrived at)) (list_all (waits_or_finished word) ss) (moving_waits word ss h)
moving_waits word (Passed ∷ ss) h = refl
moving_waits word (Finished ∷ ss) h = moving_waits word ss h

pub no_moving_opens : (word : ℕ) (ss : List Status) → list_any moves ss ≡ true → opens_at true word ss ≡ false
no_moving_opens word ss h = and_right (list_any (waits_at word) ss) (list_all (waits_or_finished word) ss) (moving_waits word ss h)

-- ---- as the counts tell

apart_step : (word : ℕ) (s : Status) → cond {A = ℕ} (waits_or_finished word s) 1 0 ≡ cond (waits_at word s) 1 0 + cond (is_finished s) 1 0
apart_step word Ready = refl
apart_step word (Arrived at) = each (nat_eq at word)
  where
    each : (b : Bool) → cond {A = ℕ} (b || false) 1 0 ≡ cond b 1 0 + 0
    each true = refl
    each false = refl
apart_step word Passed = refl
apart_step word Finished = refl

both_counted : (word : ℕ) (ss : List Status) → count_by (waits_or_finished word) ss ≡ count_by (waits_at word) ss + count_by is_finished ss
both_counted word [] = refl
both_counted word (s ∷ ss) =
    let a : count_by (waits_or_finished word) (s ∷ ss) ≡ cond (waits_or_finished word s) 1 0 + count_by (waits_or_finished word) ss = count_cons (waits_or_finished word) s ss in
    let b : count_by (waits_at word) (s ∷ ss) ≡ cond (waits_at word s) 1 0 + count_by (waits_at word) ss = count_cons (waits_at word) s ss in
    let c : count_by is_finished (s ∷ ss) ≡ cond (is_finished s) 1 0 + count_by is_finished ss = count_cons is_finished s ss in
    let d = apart_step word s in
    let r = both_counted word ss in
    omega (arith, a, b, c, d, r)

pub counts_apart : (word : ℕ) (ss : List Status) → count_by (waits_at word) ss + count_by is_finished ss ≤ length ss
counts_apart word ss =
    let a = both_counted word ss in
    let b = count_by-le-length (waits_or_finished word) ss in
    omega (arith, a, b)

some_step : (n : ℕ) (b : Bool) → nat_eq n 0 ≡ not b → nat_lt 0 n ≡ b
some_step n true e = grind (arith, e)
some_step n false e = grind (arith, e)

pub opens_counted : (counts : Bool) (word : ℕ) (ss : List Status)
    → cond counts (nat_lt 0 (count_by (waits_at word) ss) && nat_eq (count_by (waits_at word) ss + count_by is_finished ss) (length ss)) (nat_eq (count_by (waits_at word) ss) (length ss)) ≡ opens_at counts word ss
opens_counted false word ss = all_counted (waits_at word) ss
opens_counted true word ss =
    let some : nat_lt 0 (count_by (waits_at word) ss) ≡ list_any (waits_at word) ss = some_step (count_by (waits_at word) ss) (list_any (waits_at word) ss) (any_counted (waits_at word) ss) in
    let all : nat_eq (count_by (waits_at word) ss + count_by is_finished ss) (length ss) ≡ list_all (waits_or_finished word) ss =
    ap (λ (n : ℕ). nat_eq n (length ss)) (sym (both_counted word ss)) ∙ all_counted (waits_or_finished word) ss in
    ap (λ (b : Bool). b && nat_eq (count_by (waits_at word) ss + count_by is_finished ss) (length ss)) some ∙ ap (λ (b : Bool). list_any (waits_at word) ss && b) all

-- ---- one more arrives

plus_step : (b : Bool) (c d : ℕ) → d + cond b 1 0 ≡ c + 1 → d ≡ c + cond (not b) 1 0
plus_step true c d e = omega (arith, e)
plus_step false c d e = omega (arith, e)

-- the counts of those that wait at a word and of those that are finished, once an invocation waits there: `more` wait, and `fewer` are finished
pub record Arriving (word : ℕ) (ss : List Status) (i waiting more finished fewer all : ℕ) : Type 0 where
  pub enough : fewer ≤ finished
  pub apart : waiting + more + (finished - fewer) ≤ all
  pub opens : (counts : Bool) → cond counts (nat_lt 0 (waiting + more) && nat_eq (waiting + more + (finished - fewer)) all) (nat_eq (waiting + more) all) ≡ opens_at counts word (slice_set ss i (Arrived word))

pub arriving : (word : ℕ) (ss : List Status) (i : ℕ) (old : Status) (waiting more finished fewer all : ℕ) → slice_get ss i ≡ Some old → waiting ≡ count_by (waits_at word) ss → more ≡ cond (not (waits_at word old)) 1 0
    → count_by is_finished ss ≡ finished → fewer ≡ cond (is_finished old) 1 0 → all ≡ length ss → Arriving word ss i waiting more finished fewer all
arriving word ss i old waiting more finished fewer all here wait plus ended minus long =
    let new = slice_set ss i (Arrived word) in
    let one : cond {A = ℕ} (waits_at word (Arrived word)) 1 0 ≡ 1 = ap (λ (b : Bool). cond {A = ℕ} b 1 0) (eq-eqb word word refl) in
    let waits : count_by (waits_at word) new + cond (waits_at word old) 1 0 ≡ count_by (waits_at word) ss + 1 = count_set (waits_at word) ss i old (Arrived word) here ∙ ap (λ (n : ℕ). count_by (waits_at word) ss + n) one in
    let ends : count_by is_finished new + cond (is_finished old) 1 0 ≡ count_by is_finished ss + 0 = count_set is_finished ss i old (Arrived word) here in
    let has = count_has is_finished ss i old here in
    let w : count_by (waits_at word) new ≡ waiting + more = plus_step (waits_at word old) (count_by (waits_at word) ss) (count_by (waits_at word) new) waits
    ∙ ap (λ (n : ℕ). n + cond (not (waits_at word old)) 1 0) (sym wait) ∙ ap (λ (n : ℕ). waiting + n) (sym plus) in
    let f : count_by is_finished new ≡ finished - fewer = omega (arith, ends, ended, minus, has) in
    let n : length new ≡ all = length-set ss i (Arrived word) ∙ sym long in
    let apart = counts_apart word new in
    record {
      enough = omega (arith, minus, has, ended);
      apart = omega (arith, apart, w, f, n);
      opens = λ counts. subst (λ (x : ℕ). cond counts (nat_lt 0 x && nat_eq (x + (finished - fewer)) all) (nat_eq x all) ≡ opens_at counts word new) w
          (subst (λ (x : ℕ). cond counts (nat_lt 0 (count_by (waits_at word) new) && nat_eq (count_by (waits_at word) new + x) all) (nat_eq (count_by (waits_at word) new) all) ≡ opens_at counts word new) f
          (subst (λ (x : ℕ). cond counts (nat_lt 0 (count_by (waits_at word) new) && nat_eq (count_by (waits_at word) new + count_by is_finished new) x) (nat_eq (count_by (waits_at word) new) x) ≡ opens_at counts word new) n
          (opens_counted counts word new)));
    }

-- ---- the first that waits

any_false : (n : ℕ) (b : Bool) → nat_eq n 0 ≡ not b → n ≡ 0 → b ≡ false
any_false n true e h = grind (arith, e, h)
any_false n false e h = refl

any_true : (n : ℕ) (b : Bool) → nat_eq n 0 ≡ not b → n ≢ 0 → b ≡ true
any_true n true e h = refl
any_true n false e h = absurd (h (grind (arith, e)))

pub first_where_none : (ss list : List Status) (moving : ℕ) (w : Option ℕ) → ss ≡ list → count_by moves ss ≡ moving → moving ≡ 0 → w ≡ first_waiting ss → w ≡ cond (list_any moves list) None (first_waiting list)
first_where_none ss list moving w same counted none is =
    let still : list_any moves ss ≡ false = any_false (count_by moves ss) (list_any moves ss) (any_counted moves ss) (counted ∙ none) in
    subst (λ (xs : List Status). w ≡ cond (list_any moves xs) None (first_waiting xs)) same (is ∙ sym (ap (λ (b : Bool). cond b None (first_waiting ss)) still))

pub none_where_some : (ss list : List Status) (moving : ℕ) → ss ≡ list → count_by moves ss ≡ moving → moving ≢ 0 → None ≡ cond (list_any moves list) None (first_waiting list)
none_where_some ss list moving same counted some =
    let move : list_any moves ss ≡ true = any_true (count_by moves ss) (list_any moves ss) (any_counted moves ss) (λ h. some (sym counted ∙ h)) in
    subst (λ (xs : List Status). None ≡ cond (list_any moves xs) None (first_waiting xs)) same (sym (ap (λ (b : Bool). cond {A = Option ℕ} b None (first_waiting ss)) move))

-- ---- the counts, once a barrier has opened or closed

-- by word, as many as before but at one
others_stay : (new : List ℕ) (word there : ℕ) (n : ℕ → ℕ) → slice_index_or new word 0 ≡ there → n word ≡ there → ((w : ℕ) → w ≢ word → slice_index_or new w 0 ≡ n w) → (w : ℕ) → slice_index_or new w 0 ≡ n w
others_stay new word there n here count others w = elim (cases_eq w word) [
  | inl same ↦ subst (λ (x : ℕ). slice_index_or new x 0 ≡ n x) (sym same) (here ∙ sym count)
  | inr ne ↦ others w ne
]

pub counted_open : (ss : List Status) (word moving finished : ℕ) (old new : List ℕ) → list_all (waits_or_finished word) ss ≡ true → moving ≡ slice_index_or old word 0 → count_by is_finished ss ≡ finished
    → ((w : ℕ) → slice_index_or old w 0 ≡ count_by (waits_at w) ss) → slice_index_or new word 0 ≡ 0 → ((w : ℕ) → w ≢ word → slice_index_or new w 0 ≡ slice_index_or old w 0)
    → AreCounted (opened ss) moving finished new
counted_open ss word moving finished old new all move ended counted here others =
    let passed = passed_opened word ss all in
    let none : (w : ℕ) → count_by (waits_at w) (opened ss) ≡ 0 = λ w. count_none passed_or_finished (waits_at w) (no_wait w) (opened ss) passed in
    let before : (w : ℕ) → w ≢ word → count_by (waits_at w) ss ≡ 0 = λ w ne. count_none (waits_or_finished word) (waits_at w) (elsewhere word w ne) ss all in (
      count_map (waits_or_finished word) moves (waits_at word) once_opened (opened_moves word) ss all ∙ sym (counted word) ∙ sym move,
      count_map (waits_or_finished word) is_finished is_finished once_opened (λ s h. opened_finished s) ss all ∙ ended,
      others_stay new word 0 (λ w. count_by (waits_at w) (opened ss)) here (none word) (λ w ne. others w ne ∙ counted w ∙ before w ne ∙ sym (none w)),
    )

pub counted_close : (ss : List Status) (word moving finished : ℕ) (old new : List ℕ) → list_all passed_or_finished ss ≡ true → count_by moves ss ≡ moving → count_by is_finished ss ≡ finished
    → ((w : ℕ) → slice_index_or old w 0 ≡ count_by (waits_at w) ss) → slice_index_or new word 0 ≡ moving → ((w : ℕ) → w ≢ word → slice_index_or new w 0 ≡ slice_index_or old w 0)
    → AreCounted (closed word ss) 0 finished new
counted_close ss word moving finished old new all move ended counted here others =
    let waits = waits_closed word ss all in
    let before : (w : ℕ) → count_by (waits_at w) ss ≡ 0 = λ w. count_none passed_or_finished (waits_at w) (no_wait w) ss all in
    let none : (w : ℕ) → w ≢ word → count_by (waits_at w) (closed word ss) ≡ 0 = λ w ne. count_none (waits_or_finished word) (waits_at w) (elsewhere word w ne) (closed word ss) waits in (
      count_none (waits_or_finished word) moves (no_move word) (closed word ss) waits,
      count_map passed_or_finished is_finished is_finished (once_closed word) (λ s h. closed_finished word s) ss all ∙ ended,
      others_stay new word moving (λ w. count_by (waits_at w) (closed word ss)) here (count_map passed_or_finished (waits_at word) moves (once_closed word) (closed_there word) ss all ∙ move)
          (λ w ne. others w ne ∙ counted w ∙ before w ∙ sym (none w ne)),
    )
