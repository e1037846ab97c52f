-- Numbers under names, which are put in one after the other.
use Rattle.std.proofs.Common.{◌≡◌, ◌≢◌, ◌⊎◌, ◌∙◌, Bool, true, false, ℕ, zero, suc, ◌+◌, ◌-◌, ◌<◌, ◌≤◌, cond, List, [], ◌∷◌, map, take, length, get_or, slice_get, Option, Some, None, refl, sym, ap, subst, inl, inr, arith}
use Rattle.std.specs.Prelude.{find, if◌then◌else◌, nat_eq, Vec}
use Rattle.std.specs.Option.{is_some, option_and_then, option_eq, option_or}
use Rattle.std.specs.BTreeMap as tree
use Rattle.std.specs.BTreeMap.{BTreeMap}
use Rattle.std.specs.Cmp.{eq_by_cmp_equiv}
use Rattle.std.specs.Cmp.Lexicographic.{slice_cmp, nat_list_cmp_total, nat_list_eq_equiv, bytes_decides}
use Rattle.std.specs.Map.{AreApart, IsKeyTest, KeepsOthers, lookup}
use Rattle.std.specs.Ordering.{is_eq, nat_cmp}
use Rattle.std.specs.Str.{bytes_eq}
use Rattle.std.specs.declared.alloc.Global.{Global}
use Rattle.std.proofs.lemmas.Bool.{cases_Bool}
use Rattle.std.proofs.lemmas.Grind.{common_steps}
use Rattle.std.proofs.lemmas.Map.Text.{is_eq-slice_cmp}
use Rattle.spv_base.proofs.Exports.{none_of}
use Rattle.spv_base.specs.Entries.{reads}
use Rattle.spv_dbg.specs.Names.{number_from, number_under}
use Rattle.spv_index.specs.Places.{places_from}
use Rattle.spv_dbg.specs.Sources.{Strings, has_name}

-- ---- a map after a number was put under a name

abbrev pub Names : Type 0
Names = BTreeMap (Vec ℕ Global) ℕ

apart : (bs cs ks : List ℕ) → bytes_eq bs cs ≡ false → is_eq (slice_cmp nat_cmp bs ks) ≡ true → is_eq (slice_cmp nat_cmp cs ks) ≡ false
apart bs cs ks n y = is_eq-slice_cmp cs ks ∙ nat_list_eq_equiv.symm cs ks ∙ sym (nat_list_eq_equiv.congr bs ks cs (sym (is_eq-slice_cmp bs ks) ∙ y)) ∙ n

others : {K X : Type 0} (eq : K → K → Bool) (test : K → Bool) (old new : List (K × X)) → KeepsOthers eq test old new → (other : K → Bool) → IsKeyTest eq other → AreApart test other → lookup other new ≡ lookup other old
unfolding KeepsOthers
others eq test old new h = h

pub updated : (bs : List ℕ) (m n : Names) (w : Option ℕ) → tree.UpdatesBy (λ x y. slice_cmp nat_cmp x.items y.items) (λ k. slice_cmp nat_cmp bs k.items) m n w
    → (cs : List ℕ) → number_under n cs ≡ cond (bytes_eq bs cs) w (number_under m cs)
updated bs m n w h cs =
    elim (cases_Bool (bytes_eq bs cs)) [
      | inl y ↦ rw y (subst (λ (l : List ℕ). number_under n l ≡ w) ((bytes_decides bs cs).0 y) h.1)
      | inr e ↦ rw e (others _ _ _ _ h.3 _ (λ x y. (eq_by_cmp_equiv nat_list_cmp_total).congr cs x.items y.items) (λ k. apart bs cs k.items e))
    ]

or_none : (o : Option ℕ) → o ≡ option_or o None
or_none None = refl
or_none (Some n) = refl

or_some : (o p : Option ℕ) → is_some o ≡ true → o ≡ option_or o p
or_some None p h = absurd (cc)
or_some (Some n) p h = refl

-- what is put under the name with an id
abbrev pub with_name : Strings → ℕ → ℕ → List ℕ → Option ℕ
with_name strings id n file = if has_name strings file id then Some n else None

pub put_new : (strings : Strings) (id n : ℕ) (name file : List ℕ) (old new : Names) → reads id strings ≡ Some name → is_some (number_under old name) ≡ false
    → number_under new file ≡ cond (bytes_eq name file) (Some n) (number_under old file) → number_under new file ≡ option_or (number_under old file) (with_name strings id n file)
put_new strings id n name file old new h t e =
    elim (cases_Bool (bytes_eq name file)) [
      | inl y ↦
          let o : number_under old file ≡ None = subst (λ (l : List ℕ). number_under old l ≡ None) ((bytes_decides name file).0 y) (none_of (number_under old name) t) in
          let f = rw y at e in
          rw (h, y, o) f
      | inr d ↦ let f = rw d at e in rw (h, d) (f ∙ or_none (number_under old file))
    ]

-- ---- the numbers of the first keys that pass a test

pub numbered_more : (passes : ℕ → Bool) (k n : ℕ) (keys : List ℕ) → n < length keys
    → number_from k passes (take (suc n) keys) ≡ option_or (number_from k passes (take n keys)) (if passes (get_or keys n 0) then Some (k + n) else None)
numbered_more passes k n [] lt = absurd (omega arith)
numbered_more passes k zero (key ∷ keys) lt = grind (arith, common_steps)
numbered_more passes k (suc n) (key ∷ keys) lt = let e : k + suc n ≡ suc k + n = omega arith in by_first (rw e (numbered_more passes (suc k) n keys (omega arith))) (passes key)
  where
    by_first : number_from (suc k) passes (take (suc n) keys) ≡ option_or (number_from (suc k) passes (take n keys)) (if passes (get_or keys n 0) then Some (k + suc n) else None)
        → (b : Bool) → cond b (Some k) (number_from (suc k) passes (take (suc n) keys)) ≡ option_or (cond b (Some k) (number_from (suc k) passes (take n keys))) (if passes (get_or keys n 0) then Some (k + suc n) else None)
    by_first h true = refl
    by_first h false = h

-- a key that is not the first of its kind has the number of an earlier one
pub numbered_before : (passes : ℕ → Bool) (j k n place : ℕ) (keys : List ℕ) → n < length keys → place ≡ k + n → reads (get_or keys n 0) (places_from k keys) ≢ Some place → passes (get_or keys n 0) ≡ true
    → is_some (number_from j passes (take n keys)) ≡ true
numbered_before passes j k n place [] lt e h t = absurd (omega arith)
numbered_before passes j k zero place (key ∷ keys) lt e h t = grind (arith, common_steps)
numbered_before passes j k (suc n) place (key ∷ keys) lt e h t = grind (arith, common_steps, numbered_before passes (suc j) (suc k) n place keys)

-- ---- one more name

pub names_more : (strings : Strings) (ids : List ℕ) (n : ℕ) (old new : Option ℕ) (file : List ℕ) → n < length ids → old ≡ number_from 0 (has_name strings file) (take n ids)
    → new ≡ option_or old (with_name strings (get_or ids n 0) n file) → new ≡ number_from 0 (has_name strings file) (take (suc n) ids)
names_more strings ids n old new file lt e f =
    let z : 0 + n ≡ n = omega arith in
    let more = rw z at (numbered_more (has_name strings file) 0 n ids lt) in
    f ∙ ap (λ (o : Option ℕ). option_or o (with_name strings (get_or ids n 0) n file)) e ∙ sym more

pub names_same : (strings : Strings) (ids : List ℕ) (n : ℕ) (old : Option ℕ) (file : List ℕ) → n < length ids → old ≡ number_from 0 (has_name strings file) (take n ids)
    → reads (get_or ids n 0) (places_from 0 ids) ≢ Some n → old ≡ number_from 0 (has_name strings file) (take (suc n) ids)
names_same strings ids n old file lt e h = names_more strings ids n old old file lt e (by_name (cases_Bool (has_name strings file (get_or ids n 0))))
  where
    by_name : (has_name strings file (get_or ids n 0) ≡ true) ⊎ (has_name strings file (get_or ids n 0) ≡ false) → old ≡ option_or old (with_name strings (get_or ids n 0) n file)
    by_name (inl y) = or_some old _ (ap is_some e ∙ numbered_before (has_name strings file) 0 0 n n ids lt (omega arith) h y)
    by_name (inr d) = rw d (or_none old)

-- what is not Some n by its test
pub differ : (o there : Option ℕ) (n : ℕ) → o ≡ there → false ≡ option_eq nat_eq o (Some n) → there ≢ Some n
differ o there n e h s = let f : false ≡ option_eq nat_eq (Some n) (Some n) = subst (λ (p : Option ℕ). false ≡ option_eq nat_eq p (Some n)) (e ∙ s) h in grind (arith, common_steps)

-- ---- what is found by a number

module _ {T : Type 0} (f : T → ℕ) (passes : ℕ → Bool) where
  number_above : (k : ℕ) (xs : List T) (n : ℕ) → number_from k passes (map f xs) ≡ Some n → k ≤ n
  number_above k [] n e = absurd (cc)
  number_above k (x ∷ xs) n e = grind (arith, number_above (suc k) xs n)

  leads : (k : ℕ) (xs : List T) (n : ℕ) → number_from k passes (map f xs) ≡ Some n → slice_get xs (n - k) ≡ find (λ x. passes (f x)) xs
  leads k [] n e = absurd (cc)
  leads k (x ∷ xs) n e = grind (arith, common_steps, number_above (suc k) xs n, leads (suc k) xs n)

  misses : (k : ℕ) (xs : List T) → number_from k passes (map f xs) ≡ None → find (λ x. passes (f x)) xs ≡ None
  misses k [] e = refl
  misses k (x ∷ xs) e = grind (arith, misses (suc k) xs)

  pub numbered : (xs : List T) (number : Option ℕ) → number ≡ number_from 0 passes (map f xs) → option_and_then (slice_get xs) number ≡ find (λ x. passes (f x)) xs
  numbered xs None e = sym (misses 0 xs (sym e))
  numbered xs (Some n) e = let z : n - 0 ≡ n = omega arith in rw z at (leads 0 xs n (sym e))
