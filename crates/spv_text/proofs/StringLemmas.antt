-- How the bytes of a string are written: in one way each.
use Rattle.std.proofs.Common.{◌≡◌, ◌≢◌, ℕ, ◌/◌, ◌%◌, ◌<◌, ◌≤◌, nat_eq, Bool, true, false, List, [], ◌∷◌, ◌++◌, get_or, drop, refl, sym, ap, append_assoc, ◌∙◌, arith, subst, ◌⊎◌, inl, inr}
use Rattle.std.specs.List.{flat_map, AllByRecursion}
use Rattle.std.proofs.lemmas.Bool.Decides.{nat_tests}
use Rattle.std.proofs.lemmas.Bool.{cases_lt}
use Rattle.std.proofs.lemmas.Grind.{flat_map-append}
use Rattle.std.proofs.lemmas.List.{append-nil}
use Rattle.spv_text.specs.Spelling.{byte_text, quoted, hex_digit}
use Rattle.spv_text.specs.Lines.{IsByte, Lacks, Any}

-- ---- digits of base 16

pub one_digit : (m n : ℕ) → m < 16 → n < 16 → hex_digit m ≡ hex_digit n → m ≡ n
one_digit m n h k e = grind (arith, nat_tests)

-- ---- the four ways

pub data Written (b : ℕ) : Type 0 where
  quote : b ≡ 34 → byte_text b ≡ 92 ∷ 34 ∷ [] → Written b
  backslash : b ≡ 92 → byte_text b ≡ 92 ∷ 92 ∷ [] → Written b
  itself : 32 ≤ b → b ≤ 126 → b ≢ 34 → b ≢ 92 → byte_text b ≡ b ∷ [] → Written b
  hex : (b < 32) ⊎ (126 < b) → byte_text b ≡ 92 ∷ 120 ∷ hex_digit (b / 16) ∷ hex_digit (b % 16) ∷ [] → Written b

written_quote : (b : ℕ) → b ≡ 34 → Written b
written_quote b e = subst Written (sym e) (quote refl refl)

written_backslash : (b : ℕ) → b ≡ 92 → Written b
written_backslash b e = subst Written (sym e) (backslash refl refl)

itself_text : (b : ℕ) → 32 ≤ b → b ≤ 126 → b ≢ 34 → b ≢ 92 → byte_text b ≡ b ∷ []
itself_text b l h p q = grind (arith, nat_tests)

pub hex_text : (b : ℕ) → (b < 32) ⊎ (126 < b) → byte_text b ≡ 92 ∷ 120 ∷ hex_digit (b / 16) ∷ hex_digit (b % 16) ∷ []
hex_text b o = grind (arith, nat_tests)

written_by : (b : ℕ) → (b < 32) ⊎ (32 ≤ b) → (b < 127) ⊎ (127 ≤ b) → (p q : Bool) → nat_eq b 34 ≡ p → nat_eq b 92 ≡ q → Written b
written_by b low high true q e f = written_quote b (grind (arith, nat_tests))
written_by b low high false true e f = written_backslash b (grind (arith, nat_tests))
written_by b (inl l) high false false e f = hex (inl l) (hex_text b (inl l))
written_by b (inr l) (inr h) false false e f = hex (inr (omega arith)) (hex_text b (inr (omega arith)))
written_by b (inr l) (inl h) false false e f =
    let p : b ≢ 34 = λ g. grind (arith, nat_tests) in
    let q : b ≢ 92 = λ g. grind (arith, nat_tests) in
    let k : b ≤ 126 = omega arith in
    itself l k p q (itself_text b l k p q)

pub written : (b : ℕ) → Written b
written b = written_by b (cases_lt b 32) (cases_lt b 127) (nat_eq b 34) (nat_eq b 92) refl refl

-- the two texts, with their bytes as they are written
as_written : (x y u v r s : List ℕ) → x ≡ u → y ≡ v → x ++ r ≡ y ++ s → u ++ r ≡ v ++ s
as_written x y u v r s p q e = sym (ap (λ t. t ++ r) p) ∙ e ∙ ap (λ t. t ++ s) q

pub head_is : {x y : ℕ} {r s : List ℕ} → x ∷ r ≡ y ∷ s → x ≡ y
head_is e = ap (λ l. get_or l 0 0) e

pub tail_is : {x y : ℕ} {r s : List ℕ} → x ∷ r ≡ y ∷ s → r ≡ s
tail_is e = ap (drop 1) e

unequal : (x y : ℕ) → x ≡ y → nat_eq x y ≡ false → ⊥
unequal x y e f = grind (arith, nat_tests)

-- texts with different first bytes
pub differ : {x y : ℕ} {r s : List ℕ} → nat_eq x y ≡ false → x ∷ r ≡ y ∷ s → ⊥
differ {x} {y} f e = unequal x y (head_is e) f

hex_parts : (a b : ℕ) → a < 256 → b < 256 → hex_digit (a / 16) ≡ hex_digit (b / 16) → hex_digit (a % 16) ≡ hex_digit (b % 16) → a ≡ b
hex_parts a b k l e f =
    let m : a / 16 < 16 = omega arith in
    let n : b / 16 < 16 = omega arith in
    let o : a % 16 < 16 = omega arith in
    let p : b % 16 < 16 = omega arith in
    let high : a / 16 ≡ b / 16 = one_digit (a / 16) (b / 16) m n e in
    let low : a % 16 ≡ b % 16 = one_digit (a % 16) (b % 16) o p f in
    omega arith

abbrev Same : ℕ → ℕ → List ℕ → List ℕ → Type 0
Same a b r s = (a ≡ b) × (r ≡ s)

both_hex : (a b h l k m : ℕ) (r s : List ℕ) → a < 256 → b < 256 → h ≡ hex_digit (a / 16) → l ≡ hex_digit (a % 16) → k ≡ hex_digit (b / 16) → m ≡ hex_digit (b % 16)
    → h ∷ l ∷ r ≡ k ∷ m ∷ s → Same a b r s
both_hex a b h l k m r s x y p q u v e =
    (hex_parts a b x y (sym p ∙ head_is e ∙ u) (sym q ∙ head_is (tail_is e) ∙ v), tail_is (tail_is e))

same_by : (a b : ℕ) (r s : List ℕ) → a < 256 → b < 256 → Written a → Written b → byte_text a ++ r ≡ byte_text b ++ s → Same a b r s
same_by a b r s x y (quote k p) (quote l q) e = (k ∙ sym l, tail_is (tail_is (as_written _ _ _ _ r s p q e)))
same_by a b r s x y (quote k p) (backslash l q) e = absurd (differ refl (tail_is (as_written _ _ _ _ r s p q e)))
same_by a b r s x y (quote k p) (itself l h m n q) e = absurd (n (sym (head_is (as_written _ _ _ _ r s p q e))))
same_by a b r s x y (quote k p) (hex o q) e = absurd (differ refl (tail_is (as_written _ _ _ _ r s p q e)))
same_by a b r s x y (backslash k p) (quote l q) e = absurd (differ refl (tail_is (as_written _ _ _ _ r s p q e)))
same_by a b r s x y (backslash k p) (backslash l q) e = (k ∙ sym l, tail_is (tail_is (as_written _ _ _ _ r s p q e)))
same_by a b r s x y (backslash k p) (itself l h m n q) e = absurd (n (sym (head_is (as_written _ _ _ _ r s p q e))))
same_by a b r s x y (backslash k p) (hex o q) e = absurd (differ refl (tail_is (as_written _ _ _ _ r s p q e)))
same_by a b r s x y (itself l h m n p) (quote k q) e = absurd (n (head_is (as_written _ _ _ _ r s p q e)))
same_by a b r s x y (itself l h m n p) (backslash k q) e = absurd (n (head_is (as_written _ _ _ _ r s p q e)))
same_by a b r s x y (itself l h m n p) (itself l' h' m' n' q) e = (head_is (as_written _ _ _ _ r s p q e), tail_is (as_written _ _ _ _ r s p q e))
same_by a b r s x y (itself l h m n p) (hex o q) e = absurd (n (head_is (as_written _ _ _ _ r s p q e)))
same_by a b r s x y (hex o p) (quote k q) e = absurd (differ refl (tail_is (as_written _ _ _ _ r s p q e)))
same_by a b r s x y (hex o p) (backslash k q) e = absurd (differ refl (tail_is (as_written _ _ _ _ r s p q e)))
same_by a b r s x y (hex o p) (itself l h m n q) e = absurd (n (sym (head_is (as_written _ _ _ _ r s p q e))))
same_by a b r s x y (hex o p) (hex o' q) e = both_hex a b _ _ _ _ r s x y refl refl refl refl (tail_is (tail_is (as_written _ _ _ _ r s p q e)))

-- a text begins with one byte of a string at most
pub one_byte : (a b : ℕ) (r s : List ℕ) → IsByte a → IsByte b → byte_text a ++ r ≡ byte_text b ++ s → (a ≡ b) × (r ≡ s)
one_byte a b r s h k e = same_by a b r s h.1 k.1 (written a) (written b) e

-- a byte of a string doesn't begin with a quote
quote_by : (b : ℕ) (r s : List ℕ) → Written b → byte_text b ++ r ≡ 34 ∷ s → ⊥
quote_by b r s (quote k p) e = differ refl (sym (ap (λ t. t ++ r) p) ∙ e)
quote_by b r s (backslash k p) e = differ refl (sym (ap (λ t. t ++ r) p) ∙ e)
quote_by b r s (itself l h m n p) e = m (head_is (sym (ap (λ t. t ++ r) p) ∙ e))
quote_by b r s (hex o p) e = differ refl (sym (ap (λ t. t ++ r) p) ∙ e)

pub no_quote : (b : ℕ) (r s : List ℕ) → byte_text b ++ r ≡ 34 ∷ s → ⊥
no_quote b r s e = quote_by b r s (written b) e

-- ---- strings behind their first quote

-- what is left of a string, behind its first byte
pub string_goes_on : (rest more cs r : List ℕ) (b : ℕ) → IsByte b → rest ≡ byte_text b ++ more → AllByRecursion IsByte cs → rest ≡ flat_map byte_text cs ++ 34 ∷ r
    → (ds : List ℕ) × AllByRecursion IsByte ds × (more ≡ flat_map byte_text ds ++ 34 ∷ r)
string_goes_on rest more [] r b h e all f = absurd (no_quote b more r (sym e ∙ f))
string_goes_on rest more (c ∷ cs) r b h e all f =
    let one = one_byte b c more (flat_map byte_text cs ++ 34 ∷ r) h all.0 (sym e ∙ f ∙ append_assoc (byte_text c) (flat_map byte_text cs) (34 ∷ r)) in
    (cs, all.1, one.1)

-- a text begins with one string at most
pub one_string : (bs cs r s : List ℕ) → AllByRecursion IsByte bs → AllByRecursion IsByte cs → flat_map byte_text bs ++ 34 ∷ r ≡ flat_map byte_text cs ++ 34 ∷ s → (bs ≡ cs) × (r ≡ s)
one_string [] [] r s h k e = (refl, ap (drop 1) e)
one_string [] (c ∷ cs) r s h k e = absurd (no_quote c (flat_map byte_text cs ++ 34 ∷ s) r (sym (e ∙ append_assoc (byte_text c) (flat_map byte_text cs) (34 ∷ s))))
one_string (b ∷ bs) [] r s h k e = absurd (no_quote b (flat_map byte_text bs ++ 34 ∷ r) s (sym (append_assoc (byte_text b) (flat_map byte_text bs) (34 ∷ r)) ∙ e))
one_string (b ∷ bs) (c ∷ cs) r s h k e =
    let one = one_byte b c (flat_map byte_text bs ++ 34 ∷ r) (flat_map byte_text cs ++ 34 ∷ s) h.0 k.0 (sym (append_assoc (byte_text b) (flat_map byte_text bs) (34 ∷ r)) ∙ e ∙ append_assoc (byte_text c) (flat_map byte_text cs) (34 ∷ s)) in
    let more = one_string bs cs r s h.1 k.1 one.1 in
    (ap (λ x. x ∷ bs) one.0 ∙ ap (λ xs. c ∷ xs) more.0, more.1)

-- no string stands behind the bytes that were read, where no quote does
pub no_string : (text rest : List ℕ) → Lacks byte_text IsByte Any rest → ((r : List ℕ) → rest ≡ 34 ∷ r → ⊥)
    → ((bs r : List ℕ) → AllByRecursion IsByte bs → text ≡ flat_map byte_text bs ++ 34 ∷ r → (cs : List ℕ) × AllByRecursion IsByte cs × (rest ≡ flat_map byte_text cs ++ 34 ∷ r))
    → Lacks quoted (AllByRecursion IsByte) Any text
no_string text rest none apart left bs r all e follows =
    let it = left bs r all (e ∙ append_assoc (flat_map byte_text bs) (34 ∷ []) r) in
    no_more rest r it.0 none apart it.1 it.2
  where
    no_more : (rest r cs : List ℕ) → Lacks byte_text IsByte Any rest → ((s : List ℕ) → rest ≡ 34 ∷ s → ⊥) → AllByRecursion IsByte cs → rest ≡ flat_map byte_text cs ++ 34 ∷ r → ⊥
    no_more rest r [] none apart all e = apart r e
    no_more rest r (c ∷ cs) none apart all e = none c (flat_map byte_text cs ++ 34 ∷ r) all.0 (e ∙ append_assoc (byte_text c) (flat_map byte_text cs) (34 ∷ r)) tt

pub bytes_more : (text rest more bytes : List ℕ) (b : ℕ) → text ≡ flat_map byte_text bytes ++ rest → rest ≡ byte_text b ++ more → text ≡ flat_map byte_text (bytes ++ b ∷ []) ++ more
bytes_more text rest more bytes b e f =
    e ∙ ap (λ r. flat_map byte_text bytes ++ r) f ∙ sym (append_assoc (flat_map byte_text bytes) (byte_text b) more) ∙ ap (λ l. l ++ more) (sym (flat_map-append byte_text bytes (b ∷ []) ∙ ap (λ l. flat_map byte_text bytes ++ l) (append-nil (byte_text b))))

pub all_more : (bytes : List ℕ) (b : ℕ) → AllByRecursion IsByte bytes → IsByte b → AllByRecursion IsByte (bytes ++ b ∷ [])
all_more [] b h k = (k, tt)
all_more (c ∷ bytes) b h k = (h.0, all_more bytes b h.1 k)
