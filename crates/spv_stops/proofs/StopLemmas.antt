-- Lists of stops stay such lists, and keep those that they are to keep.
use Rattle.std.proofs.Common.{◌≡◌, ℕ, suc, ◌+◌, ◌<◌, ◌≤◌, Bool, true, false, not, cond, ◌||◌, nat_eq, nat_lt, List, [], ◌∷◌, ◌++◌, length, map, Some, None, refl, sym, ap, ◌∙◌, subst, arith}
use Rattle.std.specs.Prelude.{filter, remove}
use Rattle.std.specs.List.{list_any, position, position_or_len}
use Rattle.std.proofs.lemmas.List.{map-append, length-append}
use Rattle.std.proofs.lemmas.Bool.Decides.{nat_tests}
use Rattle.spv_base.proofs.Exports.{no_place, some_place}
use Rattle.spv_stops.specs.Stops.{Stops, number_of, has_number, with_stop, without_stop, Ascend, AreStops}

-- ---- one stop more

ascend_push : (low high : ℕ) (ks : List ℕ) → Ascend low ks high → Ascend low (ks ++ (high + 1) ∷ []) (high + 1)
ascend_push low high [] h = (omega (arith, h), omega arith)
ascend_push low high (k ∷ ks) h = (h.0, ascend_push k high ks h.1)

pub stops_push : {T : Type 0} (limit : ℕ) (stops : Stops T) (x : T) → AreStops limit stops → length stops.0 < limit → stops.1 < 4294967295 → AreStops limit (with_stop x stops)
stops_push limit stops x h room left = (
  omega (arith, length-append stops.0 ((stops.1 + 1, x) ∷ []), room),
  subst (λ ks. Ascend 0 ks (stops.1 + 1)) (sym (map-append number_of stops.0 ((stops.1 + 1, x) ∷ []))) (ascend_push 0 stops.1 (map number_of stops.0) h.1),
  omega (arith, left),
)

-- ---- one stop less

-- no stop has a number that is not above the first
keep_by : {T : Type 0} (b : Bool) (k : ℕ) (s : ℕ × T) (ss : List (ℕ × T)) → has_number k s ≡ b → b ≡ false → filter (λ (t : ℕ × T). not (has_number k t)) (s ∷ ss) ≡ s ∷ filter (λ (t : ℕ × T). not (has_number k t)) ss
keep_by b k s ss h e = ap (λ c. cond (not c) (s ∷ filter (λ t. not (has_number k t)) ss) (filter (λ t. not (has_number k t)) ss)) (h ∙ e)

all_above : {T : Type 0} (k low high : ℕ) (ss : List (ℕ × T)) → k ≤ low → Ascend low (map number_of ss) high → filter (λ (t : ℕ × T). not (has_number k t)) ss ≡ ss
all_above k low high [] le h = refl
all_above k low high (s ∷ ss) le h =
    let other : nat_eq s.0 k ≡ false = let above : low < s.0 = h.0 in grind (arith, nat_tests) in
    keep_by (nat_eq s.0 k) k s ss refl other ∙ ap (λ rest. s ∷ rest) (all_above k s.0 high ss (omega (arith, h.0)) h.1)

remove_by : {T : Type 0} (b : Bool) (k low high : ℕ) (s : ℕ × T) (ss : List (ℕ × T)) → has_number k s ≡ b → Ascend low (map number_of (s ∷ ss)) high → (position_or_len (has_number k) ss < length ss → remove ss (position_or_len (has_number k) ss) ≡ filter (λ (t : ℕ × T). not (has_number k t)) ss) → cond (not b) (1 + position_or_len (has_number k) ss) 0 < length (s ∷ ss) → remove (s ∷ ss) (cond (not b) (1 + position_or_len (has_number k) ss) 0) ≡ cond (not b) (s ∷ filter (λ (t : ℕ × T). not (has_number k t)) ss) (filter (λ (t : ℕ × T). not (has_number k t)) ss)
remove_by true k low high s ss h a ih l =
    let same : k ≡ s.0 = grind (arith, nat_tests) in
    sym (all_above k s.0 high ss (omega (arith, same)) a.1)
remove_by false k low high s ss h a ih l =
    let n = position_or_len (has_number k) ss in
    let e : 1 + n ≡ suc n = omega arith in
    let within : n < length ss = omega (arith, l) in
    ap (λ m. remove (s ∷ ss) m) e ∙ ap (λ rest. s ∷ rest) (ih within)

remove_at : {T : Type 0} (k low high : ℕ) (ss : List (ℕ × T)) → Ascend low (map number_of ss) high → position_or_len (has_number k) ss < length ss → remove ss (position_or_len (has_number k) ss) ≡ filter (λ (t : ℕ × T). not (has_number k t)) ss
remove_at k low high [] a l = absurd (omega (arith, l))
remove_at k low high (s ∷ ss) a l =
    remove_by (has_number k s) k low high s ss refl a (λ within. remove_at k s.0 high ss a.1 within) l

-- what is removed at the place of a number
pub removed_is : {T : Type 0} (k limit i : ℕ) (stops : Stops T) → AreStops limit stops → Some i ≡ position (has_number k) stops.0 → remove stops.0 i ≡ filter (λ (t : ℕ × T). not (has_number k t)) stops.0
removed_is k limit i stops h e =
    let at = some_place (position_or_len (has_number k) stops.0) (length stops.0) i e in
    ap (remove stops.0) at.0 ∙ remove_at k 0 stops.1 stops.0 h.1 at.1

ascend_down : (low lower high : ℕ) (ks : List ℕ) → lower ≤ low → Ascend low ks high → Ascend lower ks high
ascend_down low lower high [] le h = omega (arith, h, le)
ascend_down low lower high (k ∷ ks) le h = (omega (arith, h.0, le), h.1)

filter_by : {T : Type 0} (b : Bool) (low high : ℕ) (s : ℕ × T) (rest : List (ℕ × T)) → low < s.0 → Ascend s.0 (map number_of rest) high → Ascend low (map number_of (cond b (s ∷ rest) rest)) high
filter_by true low high s rest l h = (l, h)
filter_by false low high s rest l h = ascend_down s.0 low high (map number_of rest) (omega (arith, l)) h

ascend_filter : {T : Type 0} (p : ℕ × T → Bool) (low high : ℕ) (ss : List (ℕ × T)) → Ascend low (map number_of ss) high → Ascend low (map number_of (filter p ss)) high
ascend_filter p low high [] h = h
ascend_filter p low high (s ∷ ss) h = filter_by (p s) low high s (filter p ss) h.0 (ascend_filter p s.0 high ss h.1)

shorter_by : {T : Type 0} (b : Bool) (s : T) (rest ss : List T) → length rest ≤ length ss → length (cond b (s ∷ rest) rest) ≤ length (s ∷ ss)
shorter_by true s rest ss h = omega (arith, h)
shorter_by false s rest ss h = omega (arith, h)

shorter : {T : Type 0} (p : T → Bool) (ss : List T) → length (filter p ss) ≤ length ss
shorter p [] = omega arith
shorter p (s ∷ ss) = shorter_by (p s) s (filter p ss) ss (shorter p ss)

pub stops_without : {T : Type 0} (k limit : ℕ) (stops : Stops T) → AreStops limit stops → AreStops limit (without_stop k stops)
stops_without k limit stops h =
    (omega (arith, h.0, shorter (λ t. not (has_number k t)) stops.0), ascend_filter (λ t. not (has_number k t)) 0 stops.1 stops.0 h.1, h.2)

-- ---- whether a number is kept

any_by : (b c : Bool) (n m : ℕ) → (c ≡ nat_lt n m) → (b || c) ≡ nat_lt (cond (not b) (1 + n) 0) (suc m)
any_by true c n m h = sym (zero_below m)
  where
    zero_below : (m : ℕ) → nat_lt 0 (suc m) ≡ true
    zero_below m = grind (arith, nat_tests)
any_by false c n m h = h ∙ both_more n m
  where
    both_more : (n m : ℕ) → nat_lt n m ≡ nat_lt (1 + n) (suc m)
    both_more n m = grind (arith, nat_tests)

-- a place is found exactly where a stop is kept
any_place : {T : Type 0} (p : T → Bool) (ss : List T) → list_any p ss ≡ nat_lt (position_or_len p ss) (length ss)
any_place p [] = refl
any_place p (s ∷ ss) = any_by (p s) (list_any p ss) (position_or_len p ss) (length ss) (any_place p ss)

pub kept_where : {T : Type 0} (k i : ℕ) (ss : List (ℕ × T)) → Some i ≡ position (has_number k) ss → list_any (has_number k) ss ≡ true
kept_where k i ss e = let at = some_place (position_or_len (has_number k) ss) (length ss) i e in any_place (has_number k) ss ∙ lt_true (position_or_len (has_number k) ss) (length ss) at.1
  where
    lt_true : (n m : ℕ) → n < m → nat_lt n m ≡ true
    lt_true n m h = grind (arith, nat_tests)

pub kept_nowhere : {T : Type 0} (k : ℕ) (ss : List (ℕ × T)) → None ≡ position (has_number k) ss → list_any (has_number k) ss ≡ false
kept_nowhere k ss e = let past = no_place (position_or_len (has_number k) ss) (length ss) e in any_place (has_number k) ss ∙ lt_false (position_or_len (has_number k) ss) (length ss) past
  where
    lt_false : (n m : ℕ) → m ≤ n → nat_lt n m ≡ false
    lt_false n m h = grind (arith, nat_tests)
