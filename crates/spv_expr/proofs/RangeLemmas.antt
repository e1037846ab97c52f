-- Ranges of bits, and bits that are put where they meet.
use Rattle.std.proofs.Common.{◌≡◌, ◌∙◌, ℕ, ◌+◌, ◌-◌, ◌<◌, ◌≤◌, ◌&&◌, ◌||◌, nat_le, nat_lt, Bool, true, false, List, [], ◌∷◌, length, get_or, take, refl, sym, arith}
use Rattle.std.specs.Prelude.{if◌then◌else◌}
use Rattle.std.proofs.lemmas.List.Folds.{list_any_more}
use Rattle.spv_base.specs.Cell.{Cell}
use Rattle.spv_dbg.specs.declared.frames.Bit.{Bit}
use Rattle.spv_expr.specs.declared.ranges.Range.{Range}
use Rattle.spv_expr.specs.Bits.{bits_of, shown}
use Rattle.spv_expr.specs.Kept.{is_in, is_in_any}
use Rattle.spv_expr.specs.Rests.{ArePut, ArePutIn, AreWithin, bit_in}

both_true : (a b : Bool) → (a && b) ≡ true → (a ≡ true) × (b ≡ true)
both_true true b h = (refl, h)
both_true false b h = absurd (cc)

pub in_is : (j : ℕ) (r : Range) → is_in j r ≡ true → (r.start ≤ j) × (j < r.end)
in_is j r h = let p = both_true (nat_le r.start j) (nat_lt j r.end) h in (grind (arith, p.0), grind (arith, p.1))

pub is_in_at : (j : ℕ) (r : Range) → r.start ≤ j → j < r.end → is_in j r ≡ true
is_in_at j r le lt = grind arith

-- where two ranges meet within some bits
pub record Meet (first : ℕ) (bits : List Bit) (range both : Range) : Type 0 where
  pub above : first ≤ both.start
  pub below : both.end ≤ first + length bits
  pub begun : range.start ≤ both.start
  pub some : both.start < both.end

pub meet : (first : ℕ) (bits : List Bit) (span range both : Range) → AreWithin first bits (span ∷ []) → ((j : ℕ) → is_in j both ≡ (is_in j span && is_in j range))
    → nat_le both.end both.start ≡ false → Meet first bits range both
meet first bits span range both within same some =
    let lt : both.start < both.end = grind arith in
    let inside : (j : ℕ) → both.start ≤ j → j < both.end → (first ≤ j) × (j < first + length bits) × (range.start ≤ j) = λ j le less.
    let p = both_true (is_in j span) (is_in j range) (sym (same j) ∙ is_in_at j both le less) in
    let r = in_is j range p.1 in
    let any : (is_in j span || false) ≡ true = rw p.0 refl in
    let q = both_true (nat_le first j) (nat_lt j (first + length bits)) (within j any) in
    (grind (arith, q.0), grind (arith, q.1), r.0) in
    let low = inside both.start (omega arith) lt in
    let high = inside (both.end - 1) (omega arith) (omega arith) in
    record { above = low.0; below = omega (arith, high.1, lt); begun = low.2; some = lt }

shifted_le : (k s f : ℕ) → f ≤ s → nat_le (s - f) k ≡ nat_le s (f + k)
shifted_le k s f le = grind arith

shifted_lt : (k e f : ℕ) → f ≤ e → nat_lt k (e - f) ≡ nat_lt (f + k) e
shifted_lt k e f le = grind arith

-- bits that are put there
pub put_there : (cells : List Cell) (first : ℕ) (old new : List Bit) (span range both : Range) → ((j : ℕ) → is_in j both ≡ (is_in j span && is_in j range)) → Meet first old range both
    → ArePut cells (both.start - range.start) old (both.start - first) (both.end - first) new → ArePutIn cells range (span ∷ []) first old new
put_there cells first old new span range both same meets put k lt =
    let place : (nat_le (both.start - first) k && nat_lt k (both.end - first)) ≡ is_in (first + k) both =
    let ended : first ≤ both.end = omega (arith, meets.above, meets.some) in
    rw (shifted_le k both.start first meets.above, shifted_lt k both.end first ended) refl in
    put k ∙ by (is_in (first + k) both) refl (is_in (first + k) span) (is_in (first + k) range) (same (first + k)) place
  where
    by : (b : Bool) → is_in (first + k) both ≡ b → (s r : Bool) → is_in (first + k) both ≡ (s && r) → (nat_le (both.start - first) k && nat_lt k (both.end - first)) ≡ is_in (first + k) both
        → (if nat_le (both.start - first) k && nat_lt k (both.end - first) then shown (bits_of cells) (both.start - range.start + (k - (both.start - first))) else bit_in old k)
        ≡ (if (s || false) && r then shown (bits_of cells) (first + k - range.start) else bit_in old k)
    by b is true true e place =
        let i = in_is (first + k) both e in
        let n : both.start - range.start + (k - (both.start - first)) ≡ first + k - range.start = omega (arith, i.0, meets.above, meets.begun) in
        rw (place, e, n) refl
    by b is true false e place = rw (place, e) refl
    by b is false r e place = rw (place, e) refl

choose : (a s r : Bool) (new x y old : Bit) → x ≡ (if (s || false) && r then new else y) → y ≡ (if a && r then new else old) → x ≡ (if (a || s) && r then new else old)
choose true s true new x y old e f = choose_put s new x y e f
  where
    choose_put : (s : Bool) (new x y : Bit) → x ≡ (if (s || false) && true then new else y) → y ≡ new → x ≡ new
    choose_put true new x y e f = e
    choose_put false new x y e f = e ∙ f
choose true true false new x y old e f = e ∙ f
choose true false false new x y old e f = e ∙ f
choose false true true new x y old e f = e
choose false true false new x y old e f = e ∙ f
choose false false r new x y old e f = e ∙ f

-- one range more
pub put_one_more : (cells : List Cell) (range : Range) (gaps : List Range) (i : ℕ) (d : Range) (first : ℕ) (old mid new : List Bit) → i < length gaps → length mid ≡ length old
    → ArePutIn cells range (take i gaps) first old mid → ArePutIn cells range (get_or gaps i d ∷ []) first mid new → ArePutIn cells range (take (i + 1) gaps) first old new
put_one_more cells range gaps i d first old mid new lt long before one k less =
    let span = get_or gaps i d in
    let short : k < length mid = omega arith in
    rw (list_any_more (is_in (first + k)) gaps i d lt)
    (choose (is_in_any (first + k) (take i gaps)) (is_in (first + k) span) (is_in (first + k) range) (shown (bits_of cells) (first + k - range.start)) (bit_in new k) (bit_in mid k) (bit_in old k) (one k short) (before k less))
