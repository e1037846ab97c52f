-- Halts that are set and taken away, and what is read then.
use Rattle.std.proofs.Common.{◌≡◌, ◌≢◌, ℕ, suc, ◌+◌, ◌<◌, Bool, true, false, not, cond, ◌==◌, [], ◌∷◌, ◌++◌, length, set, Some, None, refl, sym, ap, ◌∙◌, arith}
use Rattle.std.specs.List.{list_any, position, position_or_len}
use Rattle.std.proofs.lemmas.Bool.{eqb-true}
use Rattle.std.proofs.lemmas.Bool.Decides.{nat_tests}
use Rattle.std.proofs.lemmas.List.Elements.{recursion_from_All}
use Rattle.spv_base.specs.Entries.{reads, writes}
use Rattle.spv_base.proofs.Exports.{reads_each, reads_other, some_place}
use Rattle.spv_stops.specs.Stops.{has_number}
use Rattle.spv_stops.specs.Halts.{Halts, AreHalts, with_halt, without_halt}
use Rattle.spv_stops.proofs.StopLemmas.{kept_where, kept_nowhere}

-- no halt that is read asks for multiples of 0
pub asks_some : (k n : ℕ) (halts : Halts) → AreHalts halts → reads k halts ≡ Some n → 0 < n
asks_some k n halts are at = reads_each (λ _ m. 0 < m) k n halts (recursion_from_All (λ (halt : ℕ × ℕ). 0 < halt.1) halts are) at

-- ---- the code's changes

set_by : (b : Bool) (k n : ℕ) (halt : ℕ × ℕ) (halts : Halts) → has_number k halt ≡ b → (position_or_len (has_number k) halts < length halts → set halts (position_or_len (has_number k) halts) (k, n) ≡ writes k n halts)
    → cond (not b) (1 + position_or_len (has_number k) halts) 0 < length (halt ∷ halts) → set (halt ∷ halts) (cond (not b) (1 + position_or_len (has_number k) halts) 0) (k, n) ≡ cond b ((halt.0, n) ∷ halts) (halt ∷ writes k n halts)
set_by true k n halt halts is rest l = ap (λ (m : ℕ). (m, n) ∷ halts) (sym (eqb-true halt.0 k is))
set_by false k n halt halts is rest l =
    let e : 1 + position_or_len (has_number k) halts ≡ suc (position_or_len (has_number k) halts) = omega arith in
    let within : position_or_len (has_number k) halts < length halts = omega (arith, l) in
    ap (λ m. set (halt ∷ halts) m (k, n)) e ∙ ap (λ hs. halt ∷ hs) (rest within)

set_at : (k n : ℕ) (halts : Halts) → position_or_len (has_number k) halts < length halts → set halts (position_or_len (has_number k) halts) (k, n) ≡ writes k n halts
set_at k n [] l = absurd (omega (arith, l))
set_at k n (halt ∷ halts) l = set_by (has_number k halt) k n halt halts refl (set_at k n halts) l

pub replaced : (k n i : ℕ) (halts : Halts) → Some i ≡ position (has_number k) halts → set halts i (k, n) ≡ with_halt k n halts
replaced k n i halts at =
    let there = some_place (position_or_len (has_number k) halts) (length halts) i at in
    ap (λ m. set halts m (k, n)) there.0 ∙ set_at k n halts there.1 ∙ sym (ap (λ b. cond b (writes k n halts) (halts ++ (k, n) ∷ [])) (kept_where k i halts at))

pub added : (k n : ℕ) (halts : Halts) → None ≡ position (has_number k) halts → halts ++ (k, n) ∷ [] ≡ with_halt k n halts
added k n halts at = sym (ap (λ b. cond b (writes k n halts) (halts ++ (k, n) ∷ [])) (kept_nowhere k halts at))

-- ---- what is read then

reads_written : (k n : ℕ) (halts : Halts) → list_any (has_number k) halts ≡ true → reads k (writes k n halts) ≡ Some n
reads_written k n [] is = cc
reads_written k n (halt ∷ halts) is = grind (arith, nat_tests, reads_written k n halts)

reads_added : (k n : ℕ) (halts : Halts) → list_any (has_number k) halts ≡ false → reads k (halts ++ (k, n) ∷ []) ≡ Some n
reads_added k n [] is = grind (arith, nat_tests)
reads_added k n (halt ∷ halts) is = grind (arith, nat_tests, reads_added k n halts)

other_added : (j k n : ℕ) (halts : Halts) → j ≢ k → reads j (halts ++ (k, n) ∷ []) ≡ reads j halts
other_added j k n [] other = grind (arith, nat_tests)
other_added j k n (halt ∷ halts) other = grind (arith, nat_tests, other_added j k n halts other)

pub reads_with : (k n : ℕ) (halts : Halts) → reads k (with_halt k n halts) ≡ Some n
reads_with k n halts = by (list_any (has_number k) halts) refl
  where
    by : (b : Bool) → list_any (has_number k) halts ≡ b → reads k (cond b (writes k n halts) (halts ++ (k, n) ∷ [])) ≡ Some n
    by true is = reads_written k n halts is
    by false is = reads_added k n halts is

pub reads_with_other : (j k n : ℕ) (halts : Halts) → j ≢ k → reads j (with_halt k n halts) ≡ reads j halts
reads_with_other j k n halts other = by (list_any (has_number k) halts)
  where
    by : (b : Bool) → reads j (cond b (writes k n halts) (halts ++ (k, n) ∷ [])) ≡ reads j halts
    by true = reads_other j k n halts other
    by false = other_added j k n halts other

pub reads_without : (k : ℕ) (halts : Halts) → reads k (without_halt k halts) ≡ None
reads_without k [] = refl
reads_without k (halt ∷ halts) = by (has_number k halt) refl (reads_without k halts)
  where
    by : (b : Bool) → has_number k halt ≡ b → reads k (without_halt k halts) ≡ None → reads k (cond (not b) (halt ∷ without_halt k halts) (without_halt k halts)) ≡ None
    by true is rest = rest
    by false is rest = ap (λ b. cond b (Some halt.1) (reads k (without_halt k halts))) is ∙ rest

pub reads_without_other : (j k : ℕ) (halts : Halts) → j ≢ k → reads j (without_halt k halts) ≡ reads j halts
reads_without_other j k [] other = refl
reads_without_other j k (halt ∷ halts) other = by (has_number k halt) refl (reads_without_other j k halts other)
  where
    by : (b : Bool) → has_number k halt ≡ b → reads j (without_halt k halts) ≡ reads j halts → reads j (cond (not b) (halt ∷ without_halt k halts) (without_halt k halts)) ≡ reads j (halt ∷ halts)
    by true is rest = rest ∙ grind (arith, nat_tests)
    by false is rest = ap (λ o. cond (halt.0 == j) (Some halt.1) o) rest
