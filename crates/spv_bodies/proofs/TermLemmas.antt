-- Terms that nodes make.
use Rattle.std.proofs.Common.{◌≡◌, ◌↔◌, ◌⊎◌, ◌∙◌, inl, inr, ℕ, zero, suc, ◌==◌, Bool, true, false, cond, nat_cmp, List, [], ◌∷◌, ◌++◌, length, Option, Some, None, refl, sym, ap, arith}
use Rattle.std.specs.Prelude.{◌&&◌, slice_get}
use Rattle.std.proofs.lemmas.Bool.Decides.{Decides-and, Decides-like}
use Rattle.std.specs.Bool.{Decides}
use Rattle.std.specs.Ordering.{is_eq}
use Rattle.spv_index.specs.Keys.{pair_cmp}
use Rattle.spv_index.proofs.Exports.{same_pair}
use Rattle.spv_types.proofs.Exports.{impossible}
use Rattle.spv_bodies.specs.declared.terms.Node.{Node}
use Rattle.spv_bodies.specs.declared.terms.Node.TheVariants.{Number as Single, Pair as Double}
use Rattle.spv_bodies.specs.Matching.{Number, Pair, Term, same_term, same_terms}
use Rattle.spv_bodies.specs.Terms.{AreDistinct, Grows, IsClass, Makes}
use Rattle.spv_bodies.specs.Classes.{same_class}
use Rattle.spv_bodies.proofs.TestLemmas.{equal}
use Rattle.spv_base.proofs.Exports.{is_eq-nat_cmp}

-- ---- a node more

pub push_here : (xs : List Node) (x : Node) → slice_get (xs ++ x ∷ []) (length xs) ≡ Some x
push_here [] x = refl
push_here (y ∷ xs) x = push_here xs x

pub push_before : (xs : List Node) (x : Node) → Grows xs (xs ++ x ∷ [])
push_before [] x n k h = absurd (cc)
push_before (y ∷ xs) x zero k h = h
push_before (y ∷ xs) x (suc n) k h = push_before xs x n k h

-- what stands in the longer list stood there, or is the new one at its end
push_back : (xs : List Node) (x : Node) (n : ℕ) (k : Node) → slice_get (xs ++ x ∷ []) n ≡ Some k → (slice_get xs n ≡ Some k) ⊎ ((n ≡ length xs) × (x ≡ k))
push_back [] x zero k h = inr (refl, cc)
push_back [] x (suc n) k h = absurd (cc)
push_back (y ∷ xs) x zero k h = inl h
push_back (y ∷ xs) x (suc n) k h = later (push_back xs x n k h)
  where
    later : (slice_get xs n ≡ Some k) ⊎ ((n ≡ length xs) × (x ≡ k)) → (slice_get (y ∷ xs) (suc n) ≡ Some k) ⊎ ((suc n ≡ length (y ∷ xs)) × (x ≡ k))
    later (inl old) = inl old
    later (inr new) = inr (ap suc new.0, new.1)

-- look-ups of another kind
pub push_other : (xs : List Node) (x k : Node) (o : Option ℕ) (n : ℕ) → (x ≡ k → ⊥) → ((o ≡ Some n) ↔ (slice_get xs n ≡ Some k)) → ((o ≡ Some n) ↔ (slice_get (xs ++ x ∷ []) n ≡ Some k))
push_other xs x k o n apart old = (λ h. push_before xs x n k (old.0 h), λ h. back (push_back xs x n k h))
  where
    back : (slice_get xs n ≡ Some k) ⊎ ((n ≡ length xs) × (x ≡ k)) → o ≡ Some n
    back (inl there) = old.1 there
    back (inr new) = absurd (apart new.1)

-- look-ups of the node's kind, where it stood nowhere
pub push_same : (xs : List Node) (x k : Node) (b : Bool) (o : Option ℕ) (n m : ℕ) → m ≡ length xs → Decides b (x ≡ k) → ((j : ℕ) → (o ≡ Some j) ↔ (slice_get xs j ≡ Some k)) → (x ≡ k → o ≡ None)
    → ((cond b (Some m) o ≡ Some n) ↔ (slice_get (xs ++ x ∷ []) n ≡ Some k))
push_same xs x k true o n m e d old new =
    let same : x ≡ k = d.0 refl in
    let none : o ≡ None = new same in
    (λ h. let at : m ≡ n = cc in rw (← at, e, ← same) (push_here xs x), λ h. there none (push_back xs x n k h))
  where
    there : o ≡ None → (slice_get xs n ≡ Some k) ⊎ ((n ≡ length xs) × (x ≡ k)) → Some m ≡ Some n
    there none (inl was) = absurd (let g = (old n).1 was in cc)
    there none (inr is) = ap Some (e ∙ sym is.0)
push_same xs x k false o n m e d old new = push_other xs x k o n (λ same. let t = d.1 same in absurd (grind arith)) (old n)

pub singles : (a b : ℕ) → Decides (is_eq (nat_cmp a b)) (Single a ≡ Single b)
singles a b = rw (is_eq-nat_cmp a b) (λ h. ap Single ((equal a b).0 h), λ h. let e : a ≡ b = cc in (equal a b).1 e)

pub doubles : (a b x y : ℕ) → Decides (is_eq (pair_cmp (a, b) (x, y))) (Double a b ≡ Double x y)
doubles a b x y = rw (same_pair a b x y) (there (a == x) (b == y) refl refl, back)
  where
    there : (p q : Bool) → (a == x) ≡ p → (b == y) ≡ q → (p && q) ≡ true → Double a b ≡ Double x y
    there true true e f h = let s : a ≡ x = (equal a x).0 e in let t : b ≡ y = (equal b y).0 f in rw (s, t) refl
    there true false e f h = impossible h
    there false q e f h = impossible h

    back : Double a b ≡ Double x y → (a == x && b == y) ≡ true
    back h = let s : a ≡ x = cc in let t : b ≡ y = cc in rw ((equal a x).1 s, (equal b y).1 t) refl

pub none_single : (f : ℕ → Option ℕ) (a b : ℕ) → f a ≡ None → Single a ≡ Single b → f b ≡ None
none_single f a b h same = let e : a ≡ b = cc in rw (← e) h

pub none_double : (f : ℕ → ℕ → Option ℕ) (a b x y : ℕ) → f a b ≡ None → Double a b ≡ Double x y → f x y ≡ None
none_double f a b x y h same = let d : a ≡ x = cc in let e : b ≡ y = cc in rw (← d, ← e) h

-- nodes that are looked up differ
pub all_differ : (nodes : List Node) (f : ℕ → Option ℕ) (g : ℕ → ℕ → Option ℕ) → ((k n : ℕ) → (f k ≡ Some n) ↔ (slice_get nodes n ≡ Some (Single k))) → ((x y n : ℕ) → (g x y ≡ Some n) ↔ (slice_get nodes n ≡ Some (Double x y))) → AreDistinct nodes
all_differ nodes f g singles doubles = λ m n k. by_node k m n
  where
    by_node : (k : Node) (m n : ℕ) → slice_get nodes m ≡ Some k → slice_get nodes n ≡ Some k → m ≡ n
    by_node (Single k) m n a b = let x = (singles k m).1 a in let y = (singles k n).1 b in cc
    by_node (Double x y) m n a b = let u = (doubles x y m).1 a in let v = (doubles x y n).1 b in cc

-- ---- terms

pub makes_still : (old new : List Node) → Grows old new → (t : Term) (n : ℕ) → Makes old n t → Makes new n t
makes_still old new grows (Number k) n m = grows n (Single k) m
makes_still old new grows (Pair s t) n m = (m.0, m.1, grows n (Double m.0 m.1) m.2, makes_still old new grows s m.0 m.3, makes_still old new grows t m.1 m.4)

pub class_still : (old new : List Node) → Grows old new → (c : Option ℕ) (t : Option Term) → IsClass old c t → IsClass new c t
class_still old new grows None t is = is
class_still old new grows (Some n) t is = (is.0, is.1, makes_still old new grows is.0 n is.2)

-- a term stands at one place
pub one_place : (nodes : List Node) → AreDistinct nodes → (t : Term) (m n : ℕ) → Makes nodes m t → Makes nodes n t → m ≡ n
one_place nodes apart (Number k) m n a b = apart m n (Single k) a b
one_place nodes apart (Pair s t) m n a b =
    let e = one_place nodes apart s a.0 b.0 a.3 b.3 in
    let f = one_place nodes apart t a.1 b.1 a.4 b.4 in
    apart m n (Double b.0 b.1) (rw (← e, ← f) a.2) b.2

-- and a place has one term
pub one_term : (nodes : List Node) (s t : Term) (n : ℕ) → Makes nodes n s → Makes nodes n t → s ≡ t
one_term nodes (Number k) (Number l) n a b = let e : k ≡ l = cc in ap Number e
one_term nodes (Number k) (Pair u v) n a b = absurd (let c = b.2 in cc)
one_term nodes (Pair s t) (Number l) n a b = absurd (let c = a.2 in cc)
one_term nodes (Pair s t) (Pair u v) n a b =
    let c = a.2 in let d = b.2 in
    let e : a.0 ≡ b.0 = cc in
    let f : a.1 ≡ b.1 = cc in
    let g = one_term nodes s u b.0 (rw e at a.3) b.3 in
    let h = one_term nodes t v b.1 (rw f at a.4) b.4 in
    rw (g, h) refl

pairs_are : (s t u v : Term) → Decides (same_term s u) (s ≡ u) → Decides (same_term t v) (t ≡ v) → Decides (same_term s u && same_term t v) (Pair s t ≡ Pair u v)
pairs_are s t u v d e = Decides-like (same_term s u && same_term t v) there back (Decides-and (same_term s u) (same_term t v) d e)
  where
    there : (s ≡ u) × (t ≡ v) → Pair s t ≡ Pair u v
    there h = let x : s ≡ u = h.0 in let y : t ≡ v = h.1 in rw (x, y) refl

    back : Pair s t ≡ Pair u v → (s ≡ u) × (t ≡ v)
    back h = let x : s ≡ u = cc in let y : t ≡ v = cc in (x, y)

pub terms_are : (s t : Term) → Decides (same_term s t) (s ≡ t)
terms_are (Number n) (Number m) = (λ h. ap Number ((equal n m).0 h), λ h. let e : n ≡ m = cc in (equal n m).1 e)
terms_are (Number n) (Pair u v) = (λ h. impossible h, λ h. absurd (cc))
terms_are (Pair s t) (Number m) = (λ h. impossible h, λ h. absurd (cc))
terms_are (Pair s t) (Pair u v) = pairs_are s t u v (terms_are s u) (terms_are t v)

pub both_written : (o p : Option Term) → Decides (same_terms o p) ((t : Term) × (o ≡ Some t) × (p ≡ Some t))
both_written None p = (λ h. impossible h, λ r. none r)
  where
    none : (t : Term) × (None ≡ Some t) × (p ≡ Some t) → false ≡ true
    none r = absurd (let e = r.1 in cc)
both_written (Some s) None = (λ h. impossible h, λ r. none r)
  where
    none : (t : Term) × (Some s ≡ Some t) × (None ≡ Some t) → false ≡ true
    none r = absurd (let e = r.2 in cc)
both_written (Some s) (Some u) = (λ h. let e : s ≡ u = (terms_are s u).0 h in (s, refl, rw (← e) refl), λ r. there r)
  where
    there : (t : Term) × (Some s ≡ Some t) × (Some u ≡ Some t) → same_term s u ≡ true
    there r = let d : s ≡ r.0 = (let x = r.1 in cc) in let e : u ≡ r.0 = (let y = r.2 in cc) in rw (d, e) ((terms_are r.0 r.0).1 refl)

-- ---- classes

-- one class, where one way to write
pub classes_tell : (nodes : List Node) → AreDistinct nodes → (c d : Option ℕ) (s t : Option Term) → IsClass nodes c s → IsClass nodes d t → same_class c d ≡ same_terms s t
classes_tell nodes apart None d s t a b = rw a refl
classes_tell nodes apart (Some m) None s t a b = rw (a.1, b) refl
classes_tell nodes apart (Some m) (Some n) s t a b = rw (a.1, b.1) (tell (m == n) refl (same_term a.0 b.0) refl)
  where
    tell : (p : Bool) → (m == n) ≡ p → (q : Bool) → same_term a.0 b.0 ≡ q → p ≡ q
    tell true e true f = refl
    tell false e false f = refl
    tell true e false f =
        let at : m ≡ n = (equal m n).0 e in
        let is = one_term nodes a.0 b.0 n (rw at at a.2) b.2 in
        let g = (terms_are a.0 b.0).1 is in absurd (let w : true ≡ false = cc in grind arith)
    tell false e true f =
        let is = (terms_are a.0 b.0).0 f in
        let at = one_place nodes apart b.0 m n (rw is at a.2) b.2 in
        let g = (equal m n).1 at in absurd (let w : true ≡ false = cc in grind arith)
