-- What a kit has counted: of one event more, of one less, and with one probe less.
use Rattle.std.proofs.Common.{◌≡◌, ℕ, zero, suc, ◌+◌, ◌-◌, ◌<◌, ◌^◌, ◌==◌, ◌||◌, Bool, true, false, cond, List, [], ◌∷◌, ◌++◌, length, map, get_or, set, Option, Some, None, refl, sym, ap, ap₂, ◌∙◌, subst, arith}
use Rattle.std.specs.Prelude.{IfSome, All, IsTrue, is_some, count_by, option_map, if◌then◌else◌}
use Rattle.std.specs.List.{AllZip, list_any}
use Rattle.std.proofs.lemmas.List.Sums.{sum_by-append, count_by-le-length}
use Rattle.std.proofs.lemmas.List.Elements.{All-nil, All-cons, All-head, All-tail}
use Rattle.spv_base.specs.declared.happenings.Happening.{Happening}
use Rattle.spv_base.specs.Counting.{Counts, Uncounts}
use Rattle.spv_probe.specs.Kits.{place, tests_of, Alike, AllBelow, AllAbove, AllCount, AllUncount, HasCounted, Follows}

-- ---- lists of places

-- a relation over another, place by place
zip_over : {A B C : Type 0} (P : A → B → Type 0) (R : B → C → Type 0) (Q : A → C → Type 0) → ((a : A) (b : B) (c : C) → P a b → R b c → Q a c)
    → (xs : List A) (ys : List B) (zs : List C) → AllZip P xs ys → AllZip R ys zs → AllZip Q xs zs
zip_over P R Q f [] [] [] p r = tt
zip_over P R Q f [] [] (z ∷ zs) p r = elim r [ ]
zip_over P R Q f [] (y ∷ ys) zs p r = elim p [ ]
zip_over P R Q f (x ∷ xs) [] zs p r = elim p [ ]
zip_over P R Q f (x ∷ xs) (y ∷ ys) [] p r = elim r [ ]
zip_over P R Q f (x ∷ xs) (y ∷ ys) (z ∷ zs) p r = (f x y z p.0 r.0, zip_over P R Q f xs ys zs p.1 r.1)

alike_over : {A B C : Type 0} (P : A → B → Type 0) (R : B → C → Type 0) (Q : A → C → Type 0) → ((a : A) (b : B) (c : C) → P a b → R b c → Q a c)
    → (x : Option A) (y : Option B) (z : Option C) → Alike P x y → Alike R y z → Alike Q x z
alike_over P R Q f (Some x) (Some y) (Some z) p r = f x y z p r
alike_over P R Q f (Some x) (Some y) None p r = elim r [ ]
alike_over P R Q f (Some x) None z p r = elim p [ ]
alike_over P R Q f None (Some y) z p r = elim p [ ]
alike_over P R Q f None None (Some z) p r = elim r [ ]
alike_over P R Q f None None None p r = tt

zip_at : {A B : Type 0} (R : A → B → Type 0) (xs : List A) (ys : List B) (a : A) (b : B) (n : ℕ) → AllZip R xs ys → R a b → R (get_or xs n a) (get_or ys n b)
zip_at R [] [] a b n z r = r
zip_at R [] (y ∷ ys) a b n z r = elim z [ ]
zip_at R (x ∷ xs) [] a b n z r = elim z [ ]
zip_at R (x ∷ xs) (y ∷ ys) a b zero z r = z.0
zip_at R (x ∷ xs) (y ∷ ys) a b (suc n) z r = zip_at R xs ys a b n z.1 r

zip_set : {A B : Type 0} (R : A → B → Type 0) (xs : List A) (ys : List B) (a : A) (b : B) (n : ℕ) → AllZip R xs ys → R a b → AllZip R (set xs n a) (set ys n b)
zip_set R [] [] a b n z r = tt
zip_set R [] (y ∷ ys) a b n z r = elim z [ ]
zip_set R (x ∷ xs) [] a b n z r = elim z [ ]
zip_set R (x ∷ xs) (y ∷ ys) a b zero z r = (r, z.1)
zip_set R (x ∷ xs) (y ∷ ys) a b (suc n) z r = (z.0, zip_set R xs ys a b n z.1 r)

place_by : {A B : Type 0} (R : A → B → Type 0) (xs : List (Option A)) (ys : List (Option B)) (k : ℕ) (none : Bool) → AllZip (Alike R) xs ys → Alike R (if none then None else get_or xs (k - 1) None) (if none then None else get_or ys (k - 1) None)
place_by R xs ys k true z = tt
place_by R xs ys k false z = zip_at (Alike R) xs ys None None (k - 1) z tt

place_alike : {A B : Type 0} (R : A → B → Type 0) (xs : List (Option A)) (ys : List (Option B)) (k : ℕ) → AllZip (Alike R) xs ys → Alike R (place xs k) (place ys k)
place_alike R xs ys k z = place_by R xs ys k (k == 0) z

some_alike : {A B : Type 0} (R : A → B → Type 0) (P : B → Type 0) → ((a : A) (b : B) → R a b → P b) → (x : Option A) (y : Option B) → Alike R x y → IfSome y P
some_alike R P f (Some x) (Some y) r = f x y r
some_alike R P f (Some x) None r = tt
some_alike R P f None (Some y) r = elim r [ ]
some_alike R P f None None r = tt

-- what is so of each that is related to another
zip_each : {A B : Type 0} (R : A → B → Type 0) (P : B → Type 0) → ((a : A) (b : B) → R a b → P b) → (xs : List (Option A)) (ys : List (Option B)) → AllZip (Alike R) xs ys → All (λ y. IfSome y P) ys
zip_each R P f [] [] z = All-nil _
zip_each R P f [] (y ∷ ys) z = elim z [ ]
zip_each R P f (x ∷ xs) [] z = elim z [ ]
zip_each R P f (x ∷ xs) (y ∷ ys) z = All-cons (λ y. IfSome y P) y ys (some_alike R P f x y z.0) (zip_each R P f xs ys z.1)

-- ---- counts

counted_more : (hit : Happening → Bool) (events : List Happening) (h : Happening) → count_by hit (events ++ h ∷ []) ≡ count_by hit events + cond (hit h) 1 0
counted_more hit events h = let e = sum_by-append (λ (x : Happening). cond (hit x) 1 0) events (h ∷ []) in omega (arith, e)

more_by : (b : Bool) (t n m : ℕ) → n ≡ (if b then t + 1 else t) → t ≡ m → n ≡ m + cond b 1 0
more_by true t n m e s = omega arith
more_by false t n m e s = omega arith

less_by : (b : Bool) (t n m : ℕ) → n ≡ (if b then t - 1 else t) → t ≡ m + cond b 1 0 → n ≡ m
less_by true t n m e s = omega arith
less_by false t n m e s = omega arith

above_by : (b : Bool) (t m : ℕ) → t ≡ m + cond b 1 0 → IsTrue b → 0 < t
above_by true t m s i = omega arith
above_by false t m s i = absurd (grind arith)

module _ {P : Type 0} (tally : P → ℕ) (test : P → Happening → Bool) where
  one_more : (h : Happening) (events : List Happening) (hit : Happening → Bool) (p q : P) → HasCounted tally test events hit p → Counts tally test h p q → HasCounted tally test (events ++ h ∷ []) hit q
  one_more h events hit p q was is = record {
    tally_is = more_by (test p h) (tally p) (tally q) (count_by hit events) is.counted was.tally_is ∙ ap (λ b. count_by hit events + cond b 1 0) (was.test_is h) ∙ sym (counted_more hit events h);
    test_is = λ g. is.same_test g ∙ was.test_is g;
  }

  last_one : (h : Happening) (events : List Happening) (hit : Happening → Bool) (p : P) → HasCounted tally test (events ++ h ∷ []) hit p → tally p ≡ count_by hit events + cond (test p h) 1 0
  last_one h events hit p was = was.tally_is ∙ counted_more hit events h ∙ sym (ap (λ b. count_by hit events + cond b 1 0) (was.test_is h))

  one_less : (h : Happening) (events : List Happening) (hit : Happening → Bool) (p q : P) → HasCounted tally test (events ++ h ∷ []) hit p → Uncounts tally test h p q → HasCounted tally test events hit q
  one_less h events hit p q was is = record {
    tally_is = less_by (test p h) (tally p) (tally q) (count_by hit events) is.counted (last_one h events hit p was);
    test_is = λ g. is.same_test g ∙ was.test_is g;
  }

  -- ---- kits

  pub follows_forth : (h : Happening) (tests : List (Option (Happening → Bool))) (events : List Happening) (old new : List (Option P)) → AllCount tally test h old new → Follows tally test tests events old → Follows tally test tests (events ++ h ∷ []) new
  follows_forth h tests events old new z f =
      zip_over (Alike (HasCounted tally test events)) (Alike (Counts tally test h)) (Alike (HasCounted tally test (events ++ h ∷ [])))
      (alike_over (HasCounted tally test events) (Counts tally test h) (HasCounted tally test (events ++ h ∷ [])) (one_more h events)) tests old new f z

  pub follows_back : (h : Happening) (tests : List (Option (Happening → Bool))) (events : List Happening) (old new : List (Option P)) → AllUncount tally test h old new → Follows tally test tests (events ++ h ∷ []) old → Follows tally test tests events new
  follows_back h tests events old new z f =
      zip_over (Alike (HasCounted tally test (events ++ h ∷ []))) (Alike (Uncounts tally test h)) (Alike (HasCounted tally test events))
      (alike_over (HasCounted tally test (events ++ h ∷ [])) (Uncounts tally test h) (HasCounted tally test events) (one_less h events)) tests old new f z

  follows_all : (ps : List P) → All (λ p. tally p ≡ 0) ps → Follows tally test (map (λ p. Some (test p)) ps) [] (map Some ps)
  follows_all [] f = tt
  follows_all (p ∷ ps) f = (record { tally_is = All-head (λ p. tally p ≡ 0) p ps f; test_is = λ g. refl }, follows_all ps (All-tail (λ p. tally p ≡ 0) p ps f))

  pub follows_new : (ps : List P) (boxes : List (Option P)) → boxes ≡ map Some ps → All (λ p. tally p ≡ 0) ps → Follows tally test (map (λ p. Some (test p)) ps) [] boxes
  follows_new ps boxes is f = rw is (follows_all ps f)

  pub follows_drop : (k : ℕ) (old new : List (Option P)) → new ≡ set old k None → (tests : List (Option (Happening → Bool))) (events : List Happening) → Follows tally test tests events old → Follows tally test (set tests k None) events new
  follows_drop k old new is tests events f = rw is (zip_set (Alike (HasCounted tally test events)) tests old None None k f tt)

  count_alike : (events : List Happening) (hit : Option (Happening → Bool)) (p : Option P) → Alike (HasCounted tally test events) hit p → option_map tally p ≡ option_map (λ f. count_by f events) hit
  count_alike events (Some hit) (Some p) r = ap (λ (n : ℕ). Some n) r.tally_is
  count_alike events (Some hit) None r = elim r [ ]
  count_alike events None (Some p) r = elim r [ ]
  count_alike events None None r = refl

  hits_alike : (h : Happening) (events : List Happening) (hit : Option (Happening → Bool)) (p : Option P) → Alike (HasCounted tally test events) hit p → option_map (λ q. test q h) p ≡ option_map (λ f. f h) hit
  hits_alike h events (Some hit) (Some p) r = ap (λ (b : Bool). Some b) (r.test_is h)
  hits_alike h events (Some hit) None r = elim r [ ]
  hits_alike h events None (Some p) r = elim r [ ]
  hits_alike h events None None r = refl

  pub follows_count : (k : ℕ) (slots boxes : List (Option P)) (count : Option ℕ) → slots ≡ boxes → count ≡ option_map tally (place slots k) → (tests : List (Option (Happening → Bool))) (events : List Happening) → Follows tally test tests events boxes → count ≡ option_map (λ hit. count_by hit events) (place tests k)
  follows_count k slots boxes count same is tests events f = is ∙ ap (λ xs. option_map tally (place xs k)) same ∙ count_alike events (place tests k) (place boxes k) (place_alike (HasCounted tally test events) tests boxes k f)

  pub follows_hits : (h : Happening) (k : ℕ) (slots boxes : List (Option P)) (hits : Option Bool) → slots ≡ boxes → hits ≡ option_map (λ p. test p h) (place slots k) → (tests : List (Option (Happening → Bool))) (events : List Happening) → Follows tally test tests events boxes → hits ≡ option_map (λ hit. hit h) (place tests k)
  follows_hits h k slots boxes hits same is tests events f = is ∙ ap (λ xs. option_map (λ p. test p h) (place xs k)) same ∙ hits_alike h events (place tests k) (place boxes k) (place_alike (HasCounted tally test events) tests boxes k f)

  -- fewer events than the greatest u64 may be followed by one more
  pub follows_below : (tests : List (Option (Happening → Bool))) (events : List Happening) (boxes : List (Option P)) → length events < 2 ^ 64 - 1 → Follows tally test tests events boxes → AllBelow tally boxes
  follows_below tests events boxes l f =
      zip_each (HasCounted tally test events) (λ p. tally p < 2 ^ 64 - 1) (λ hit p was. let most = count_by-le-length hit events in let is = was.tally_is in omega arith) tests boxes f

  -- the last event may be taken back
  pub follows_above : (h : Happening) (tests : List (Option (Happening → Bool))) (events : List Happening) (boxes : List (Option P)) → Follows tally test tests (events ++ h ∷ []) boxes → AllAbove tally test h boxes
  follows_above h tests events boxes f =
      zip_each (HasCounted tally test (events ++ h ∷ [])) (λ p. IsTrue (test p h) → 0 < tally p) (λ hit p was. above_by (test p h) (tally p) (count_by hit events) (last_one h events hit p was)) tests boxes f

  -- ---- the tests of a kit

  same_test : (hit : Happening → Bool) (p : P) → ((h : Happening) → test p h ≡ hit h) → test p ≡ hit
  same_test hit p f = λ i. λ h. f h i

  test_alike : (events : List Happening) (hit : Option (Happening → Bool)) (p : Option P) → Alike (HasCounted tally test events) hit p → option_map test p ≡ hit
  test_alike events (Some hit) (Some p) r = ap (λ (f : Happening → Bool). Some f) (same_test hit p r.test_is)
  test_alike events (Some hit) None r = elim r [ ]
  test_alike events None (Some p) r = elim r [ ]
  test_alike events None None r = refl

  -- a kit that follows has these tests
  pub follows_tests : (tests : List (Option (Happening → Bool))) (events : List Happening) (boxes : List (Option P)) → Follows tally test tests events boxes → tests_of test boxes ≡ tests
  follows_tests [] events [] f = refl
  follows_tests [] events (b ∷ bs) f = elim f [ ]
  follows_tests (t ∷ ts) events [] f = elim f [ ]
  follows_tests (t ∷ ts) events (b ∷ bs) f = ap₂ (λ (x : Option (Happening → Bool)) (xs : List (Option (Happening → Bool))). x ∷ xs) (test_alike events t b f.0) (follows_tests ts events bs f.1)

  -- so a kit that follows others' tests follows its own
  pub follows_own : (tests : List (Option (Happening → Bool))) (events : List Happening) (boxes : List (Option P)) → Follows tally test tests events boxes → Follows tally test (tests_of test boxes) events boxes
  follows_own tests events boxes f = subst (λ (ts : List (Option (Happening → Bool))). Follows tally test ts events boxes) (sym (follows_tests tests events boxes f)) f

  -- where no probe is there, any events are followed
  none_alike : (events : List Happening) (p : Option P) → is_some p ≡ false → Alike (HasCounted tally test events) (option_map test p) p
  none_alike events (Some p) e = absurd (cc)
  none_alike events None e = tt

  either_none : (a b : Bool) → a || b ≡ false → (a ≡ false) × (b ≡ false)
  either_none true b e = absurd (cc)
  either_none false b e = (refl, e)

  pub follows_none : (boxes : List (Option P)) → list_any is_some boxes ≡ false → (events : List Happening) → Follows tally test (tests_of test boxes) events boxes
  follows_none [] e events = tt
  follows_none (b ∷ bs) e events = let both = either_none (is_some b) (list_any is_some bs) e in (none_alike events b both.0, follows_none bs both.1 events)

  any_test : (p : Option P) → is_some (option_map test p) ≡ is_some p
  any_test (Some p) = refl
  any_test None = refl

  pub any_tests : (boxes : List (Option P)) → list_any is_some (tests_of test boxes) ≡ list_any is_some boxes
  any_tests [] = refl
  any_tests (b ∷ bs) = ap₂ (λ (x y : Bool). x || y) (any_test b) (any_tests bs)
