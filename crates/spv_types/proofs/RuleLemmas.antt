-- The rules of members, one after another.
use Rattle.std.proofs.Common.{◌≡◌, ℕ, zero, suc, ◌+◌, ◌-◌, ◌<◌, ◌==◌, Bool, true, false, List, [], ◌∷◌, length, get_or, drop, Some, slice_get, refl, sym, ap, subst, ◌≢◌, arith}
use Rattle.std.specs.Prelude.{◌&&◌}
use Rattle.spv_types.specs.declared.forms.Member.{Member}
use Rattle.spv_types.specs.Types.{Types}
use Rattle.spv_types.specs.Rules.{keep_members, keeps_member, last_type}

pub last_type_is : (ms : List Member) (m : Member) → slice_get ms (length ms - 1) ≡ Some m → last_type ms ≡ Some m.ty
last_type_is [] m h = cc
last_type_is (x ∷ []) m h = let e : x ≡ m = cc in ap (λ (y : Member). Some y.ty) e
last_type_is (x ∷ y ∷ ms) m h = last_type_is (y ∷ ms) m (shift (length ms) x y ms m h)
  where
    shift : (k : ℕ) (x y : Member) (ms : List Member) (m : Member) → slice_get (x ∷ y ∷ ms) (suc (suc k) - 1) ≡ Some m → slice_get (y ∷ ms) (suc k - 1) ≡ Some m
    shift k x y ms m h =
        let e : suc (suc k) - 1 ≡ suc k = omega arith in
        let f : suc k - 1 ≡ k = omega arith in
        let P : ℕ → Type 0 = λ j. slice_get (x ∷ y ∷ ms) j ≡ Some m in
        let Q : ℕ → Type 0 = λ j. slice_get (y ∷ ms) j ≡ Some m in
        subst Q (sym f) (subst P e h)

pub no_members : (ts : Types) (block : Bool) → true ≡ keep_members ts block []
unfolding keep_members
no_members ts block = refl

same_suc : (a b : ℕ) → (suc a == suc b) ≡ (a == b)
same_suc a b = go (suc a == suc b) (a == b) refl refl
  where
    go : (p q : Bool) → (suc a == suc b) ≡ p → (a == b) ≡ q → p ≡ q
    go true true e f = refl
    go false false e f = refl
    go true false e f = let g : suc a ≡ suc b = grind arith in let h : a ≢ b = grind arith in absurd (omega arith)
    go false true e f = let g : suc a ≢ suc b = grind arith in let h : a ≡ b = grind arith in absurd (omega arith)

swapped : (k : ℕ) → (0 == k) ≡ (k == 0)
swapped zero = refl
swapped (suc k) = let e : (0 == suc k) ≡ false = grind arith in let f : (suc k == 0) ≡ false = grind arith in rw (e, f) refl

pub members_at : (ts : Types) (block : Bool) (ms : List Member) (n : ℕ) (d : Member) → n < length ms → keep_members ts block (drop n ms) ≡ (keeps_member ts block (n + 1 == length ms) (get_or ms n d).ty && keep_members ts block (drop (n + 1) ms))
unfolding keep_members
members_at ts block [] n d l = absurd (omega arith)
members_at ts block (m ∷ ms) zero d l = let z : 0 + 1 ≡ suc 0 = omega arith in rw (z, same_suc 0 (length ms), swapped (length ms)) refl
members_at ts block (m ∷ ms) (suc n) d l =
    let z : suc n + 1 ≡ suc (n + 1) = omega arith in
    rw (z, same_suc (n + 1) (length ms)) (members_at ts block ms n d (omega arith))

pub member_kept : (b c : Bool) → true ≡ b → (b && c) ≡ c
member_kept true c h = refl
member_kept false c h = cc

pub member_broken : (b c : Bool) → false ≡ b → (b && c) ≡ false
member_broken false c h = refl
member_broken true c h = cc
