-- Counts of elements that pass a test, and what they tell of all of them.
use Rattle.std.proofs.Common.{◌≡◌, ◌∙◌, ◌<◌, ◌≤◌, ◌+◌, ◌*◌, ◌&&◌, ◌||◌, ℕ, zero, suc, Bool, true, false, cond, not, nat_eq, nat_lt, List, [], ◌∷◌, Some, length, replicate, refl, sym, ap, subst, arith, slice_get, slice_set, slice_index_or}
use Rattle.std.specs.List.{count_by, list_all, list_any}
use Rattle.std.proofs.lemmas.List.Folds.{sum_by-replicate}
use Rattle.std.proofs.lemmas.List.Sums.{count_by-le-length, sum_by-cons}
use Rattle.spv_statuses.specs.declared.invocations.Status.{Status}
use Rattle.spv_statuses.specs.declared.invocations.Status.TheVariants.{Ready, Arrived, Passed, Finished}
use Rattle.spv_statuses.specs.Invocations.{IsWithin, is_finished, moves, waits, waits_at}
use Rattle.spv_statuses.specs.Group.{is_stuck}

pub count_cons : {X : Type 0} (p : X → Bool) (x : X) (xs : List X) → count_by p (x ∷ xs) ≡ cond (p x) 1 0 + count_by p xs
count_cons p x xs = sum_by-cons (λ y. cond (p y) 1 0) x xs

-- ---- all pass where as many pass as there are, and one does where the count isn't 0

all_step : (b r : Bool) (c n : ℕ) → c ≤ n → nat_eq c n ≡ r → nat_eq (cond b 1 0 + c) (suc n) ≡ (b && r)
all_step true r c n le e = grind arith
all_step false r c n le e = grind arith

pub all_counted : {X : Type 0} (p : X → Bool) (xs : List X) → nat_eq (count_by p xs) (length xs) ≡ list_all p xs
all_counted p [] = refl
all_counted p (x ∷ xs) =
    ap (λ (c : ℕ). nat_eq c (suc (length xs))) (count_cons p x xs) ∙ all_step (p x) (list_all p xs) (count_by p xs) (length xs) (count_by-le-length p xs) (all_counted p xs)

any_step : (b r : Bool) (c : ℕ) → nat_eq c 0 ≡ not r → nat_eq (cond b 1 0 + c) 0 ≡ not (b || r)
any_step true r c e = grind arith
any_step false r c e = grind arith

pub any_counted : {X : Type 0} (p : X → Bool) (xs : List X) → nat_eq (count_by p xs) 0 ≡ not (list_any p xs)
any_counted p [] = refl
any_counted p (x ∷ xs) = ap (λ (c : ℕ). nat_eq c 0) (count_cons p x xs) ∙ any_step (p x) (list_any p xs) (count_by p xs) (any_counted p xs)

-- ---- each invocation moves, waits or is finished

one_of : (s : Status) → cond (moves s) 1 0 + (cond (waits s) 1 0 + cond (is_finished s) 1 0) ≡ 1
one_of Ready = refl
one_of (Arrived word) = refl
one_of Passed = refl
one_of Finished = refl

pub each_counted : (ss : List Status) → count_by moves ss + (count_by waits ss + count_by is_finished ss) ≡ length ss
each_counted [] = refl
each_counted (s ∷ ss) =
    let a = count_cons moves s ss in
    let b = count_cons waits s ss in
    let c = count_cons is_finished s ss in
    let d = one_of s in
    let e = each_counted ss in
    omega arith

stuck_step : (m w f n : ℕ) (a b : Bool) → m + (w + f) ≡ n → nat_eq m 0 ≡ not a → nat_eq w 0 ≡ not b → m ≡ 0 → nat_lt f n ≡ (not a && b)
stuck_step m w f n true true e ea eb z = grind arith
stuck_step m w f n true false e ea eb z = grind arith
stuck_step m w f n false true e ea eb z = grind arith
stuck_step m w f n false false e ea eb z = grind arith

pub stuck_counted : (ss : List Status) (moving finished : ℕ) → count_by moves ss ≡ moving → count_by is_finished ss ≡ finished → moving ≡ 0 → nat_lt finished (length ss) ≡ is_stuck ss
stuck_counted ss moving finished em ef z =
    let e = each_counted ss in
    stuck_step moving (count_by waits ss) finished (length ss) (list_any moves ss) (list_any waits ss) (omega arith) (subst (λ (m : ℕ). nat_eq m 0 ≡ not (list_any moves ss)) em (any_counted moves ss)) (any_counted waits ss) z

moving_step : (m : ℕ) (a b : Bool) → nat_eq m 0 ≡ not a → nat_eq m 0 ≡ false → false ≡ (not a && b)
moving_step m true b e f = refl
moving_step m false b e f = grind arith

pub moving_counted : (ss : List Status) (moving : ℕ) → count_by moves ss ≡ moving → nat_eq moving 0 ≡ false → nat_eq moving 0 ≡ is_stuck ss
moving_counted ss moving e f = f ∙ moving_step moving (list_any moves ss) (list_any waits ss) (subst (λ (m : ℕ). nat_eq m 0 ≡ not (list_any moves ss)) e (any_counted moves ss)) f

-- ---- counts of a list of one status

pub count_replicate : {X : Type 0} (p : X → Bool) (n : ℕ) (x : X) → count_by p (replicate n x) ≡ n * cond (p x) 1 0
count_replicate p n x = sum_by-replicate (λ y. cond (p y) 1 0) n x

-- ---- one element changed

units_same : (a b : Bool) → a ≡ b → cond {A = ℕ} a 1 0 ≡ cond {A = ℕ} b 1 0
units_same a b e = ap (λ (d : Bool). cond {A = ℕ} d 1 0) e

pub count_set : {X : Type 0} (p : X → Bool) (xs : List X) (i : ℕ) (x y : X) → slice_get xs i ≡ Some x → count_by p (slice_set xs i y) + cond (p x) 1 0 ≡ count_by p xs + cond (p y) 1 0
count_set p [] i x y h = cc
count_set p (z ∷ zs) zero x y h =
    let e : z ≡ x = cc in
    let a : count_by p (z ∷ zs) ≡ cond (p z) 1 0 + count_by p zs = count_cons p z zs in
    let b : count_by p (slice_set (z ∷ zs) zero y) ≡ cond (p y) 1 0 + count_by p zs = count_cons p y zs in
    let c = units_same (p z) (p x) (ap p e) in
    omega (arith, a, b, c)
count_set p (z ∷ zs) (suc i) x y h =
    let r : count_by p (slice_set zs i y) + cond (p x) 1 0 ≡ count_by p zs + cond (p y) 1 0 = count_set p zs i x y h in
    let a : count_by p (z ∷ zs) ≡ cond (p z) 1 0 + count_by p zs = count_cons p z zs in
    let b : count_by p (slice_set (z ∷ zs) (suc i) y) ≡ cond (p z) 1 0 + count_by p (slice_set zs i y) = count_cons p z (slice_set zs i y) in
    omega (arith, r, a, b)

-- an element that passes is counted
pub count_has : {X : Type 0} (p : X → Bool) (xs : List X) (i : ℕ) (x : X) → slice_get xs i ≡ Some x → cond (p x) 1 0 ≤ count_by p xs
count_has p [] i x h = cc
count_has p (z ∷ zs) zero x h =
    let e : z ≡ x = cc in
    let a : count_by p (z ∷ zs) ≡ cond (p z) 1 0 + count_by p zs = count_cons p z zs in
    let c = units_same (p z) (p x) (ap p e) in
    omega (arith, a, c)
count_has p (z ∷ zs) (suc i) x h =
    let r : cond (p x) 1 0 ≤ count_by p zs = count_has p zs i x h in
    let a : count_by p (z ∷ zs) ≡ cond (p z) 1 0 + count_by p zs = count_cons p z zs in
    omega (arith, r, a)

-- where there is something, there is a place
pub has_place : (ns : List ℕ) (i : ℕ) → 1 ≤ slice_index_or ns i 0 → i < length ns
has_place [] i h = absurd (omega arith)
has_place (n ∷ ns) zero h = omega arith
has_place (n ∷ ns) (suc i) h = let r = has_place ns i h in omega arith

-- ---- places of barriers

pub same_word : (word : ℕ) → waits_at word (Arrived word) ≡ true
same_word word = grind arith

pub leaves_place : (ns : List ℕ) (word : ℕ) → ((w : ℕ) → cond (waits_at w (Arrived word)) 1 0 ≤ slice_index_or ns w 0) → word < length ns
leaves_place ns word h = has_place ns word (subst (λ (b : Bool). cond {A = ℕ} b 1 0 ≤ slice_index_or ns word 0) (same_word word) (h word))

-- an invocation waits where waiting ones are counted
pub within_counted : (ss : List Status) (i : ℕ) (s : Status) (ns : List ℕ) → slice_get ss i ≡ Some s → ((w : ℕ) → slice_index_or ns w 0 ≡ count_by (waits_at w) ss) → IsWithin (length ns) s
within_counted ss i Ready ns h e = tt
within_counted ss i (Arrived word) ns h e =
    leaves_place ns word (λ w. subst (λ (n : ℕ). cond (waits_at w (Arrived word)) 1 0 ≤ n) (sym (e w)) (count_has (waits_at w) ss i (Arrived word) h))
within_counted ss i Passed ns h e = tt
within_counted ss i Finished ns h e = tt
