-- Tests: what they tell, and when they hold.
use Rattle.std.proofs.Common.{◌≡◌, ◌≢◌, ◌<◌, ◌≤◌, ◌==◌, ◌&&◌, ℕ, Bool, true, false, cond, nat_le, nat_lt, Some, None, Decides, arith}

pub itself : (b : Bool) → Decides b (b ≡ true)
itself b = (λ h. h, λ h. h)

pub at_most : (n m : ℕ) → Decides (nat_le n m) (n ≤ m)
at_most n m = (λ h. grind arith, λ h. grind arith)

pub opposite : (b : Bool) → b ≡ true → b ≡ false → ⊥
opposite true h k = absurd (cc)
opposite false h k = absurd (cc)

pub same_number : (n : ℕ) → (n == n) ≡ true
same_number n = grind arith

pub not_same : (a b : ℕ) → a ≢ b → (a == b) ≡ false
not_same a b h = grind arith

pub not_below : (m n : ℕ) → n ≤ m → nat_lt m n ≡ false
not_below m n h = grind arith

pub no_place : (n m : ℕ) → None ≡ cond (nat_lt n m) (Some n) None → m ≤ n
no_place n m h = grind arith

pub some_place : (n m k : ℕ) → Some k ≡ cond (nat_lt n m) (Some n) None → (k ≡ n) × (n < m)
some_place n m k h = (grind arith, grind arith)

pub second_false : (p q : Bool) → p ≡ true → (p && q) ≡ false → q ≡ false
second_false true q is h = h
second_false false q is h = absurd (cc)
