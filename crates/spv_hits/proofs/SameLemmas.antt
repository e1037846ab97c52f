-- Bits are the same as themselves, and either way round.
use Rattle.std.proofs.Common.{◌≡◌, ◌∙◌, ◌&&◌, not, Bool, true, false, List, [], ◌∷◌, Option, Some, None, refl, ap}
use Rattle.std.specs.Cmp.Lexicographic.{pointwise}
use Rattle.spv_dbg.specs.declared.frames.Bit.{Bit}
use Rattle.spv_hits.specs.Watches.{same_mark, same_bit, same_bits}

both_true : (a b : Bool) → a ≡ true → b ≡ true → (a && b) ≡ true
both_true a b e f = ap (λ x. x && b) e ∙ f

both_same : (a b c d : Bool) → a ≡ c → b ≡ d → (a && b) ≡ (c && d)
both_same a b c d e f = ap (λ x. x && b) e ∙ ap (λ x. c && x) f

mark_itself : (a : Bool) → same_mark a a ≡ true
mark_itself true = refl
mark_itself false = refl

mark_turned : (a b : Bool) → same_mark a b ≡ same_mark b a
mark_turned true true = refl
mark_turned true false = refl
mark_turned false true = refl
mark_turned false false = refl

bit_itself : (a : Bit) → same_bit a a ≡ true
bit_itself a = both_true _ _ (mark_itself a.bound) (both_true _ _ (mark_itself a.defined) (mark_itself a.one))

bit_turned : (a b : Bit) → same_bit a b ≡ same_bit b a
bit_turned a b = both_same _ _ _ _ (mark_turned a.bound b.bound) (both_same _ _ _ _ (mark_turned a.defined b.defined) (mark_turned a.one b.one))

list_itself : (xs : List Bit) → pointwise same_bit xs xs ≡ true
list_itself [] = refl
list_itself (a ∷ xs) = both_true _ _ (bit_itself a) (list_itself xs)

list_turned : (xs bs : List Bit) → pointwise same_bit xs bs ≡ pointwise same_bit bs xs
list_turned [] [] = refl
list_turned [] (b ∷ bs) = refl
list_turned (a ∷ xs) [] = refl
list_turned (a ∷ xs) (b ∷ bs) = both_same _ _ _ _ (bit_turned a b) (list_turned xs bs)

pub bits_itself : (xs : Option (List Bit)) → same_bits xs xs ≡ true
bits_itself None = refl
bits_itself (Some xs) = list_itself xs

pub bits_turned : (xs bs : Option (List Bit)) → same_bits xs bs ≡ same_bits bs xs
bits_turned None None = refl
bits_turned None (Some bs) = refl
bits_turned (Some xs) None = refl
bits_turned (Some xs) (Some bs) = list_turned xs bs

-- ---- bits that are the same are equal

both_hold : (a b : Bool) → (a && b) ≡ true → (a ≡ true) × (b ≡ true)
both_hold true b e = (refl, e)
both_hold false b e = absurd (cc)

mark_equal : (a b : Bool) → same_mark a b ≡ true → a ≡ b
mark_equal true true e = refl
mark_equal true false e = absurd (cc)
mark_equal false true e = absurd (cc)
mark_equal false false e = refl

bit_equal : (a b : Bit) → same_bit a b ≡ true → a ≡ b
bit_equal a b e =
    let first = both_hold (same_mark a.bound b.bound) (same_mark a.defined b.defined && same_mark a.one b.one) e in
    let rest = both_hold (same_mark a.defined b.defined) (same_mark a.one b.one) first.1 in
    ap (λ (x : Bool). record { bound = x; defined = a.defined; one = a.one }) (mark_equal a.bound b.bound first.0)
    ∙ ap (λ (x : Bool). record { bound = b.bound; defined = x; one = a.one }) (mark_equal a.defined b.defined rest.0)
    ∙ ap (λ (x : Bool). record { bound = b.bound; defined = b.defined; one = x }) (mark_equal a.one b.one rest.1)

list_equal : (xs bs : List Bit) → pointwise same_bit xs bs ≡ true → xs ≡ bs
list_equal [] [] e = refl
list_equal [] (b ∷ bs) e = absurd (cc)
list_equal (a ∷ xs) [] e = absurd (cc)
list_equal (a ∷ xs) (b ∷ bs) e =
    let both = both_hold (same_bit a b) (pointwise same_bit xs bs) e in
    ap (λ x. x ∷ xs) (bit_equal a b both.0) ∙ ap (λ ys. b ∷ ys) (list_equal xs bs both.1)

pub bits_equal : (xs bs : Option (List Bit)) → not (same_bits xs bs) ≡ false → xs ≡ bs
bits_equal None None e = refl
bits_equal None (Some bs) e = absurd (cc)
bits_equal (Some xs) None e = absurd (cc)
bits_equal (Some xs) (Some bs) e = ap Some (list_equal xs bs (not_false (pointwise same_bit xs bs) e))
  where
    not_false : (b : Bool) → not b ≡ false → b ≡ true
    not_false true e = refl
    not_false false e = absurd (cc)
