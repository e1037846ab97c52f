-- The parts of a line are written in one way each.
use Rattle.std.proofs.Common.{◌≡◌, ℕ, true, false, List, [], ◌∷◌, ◌++◌, codes, decimal, get_or, refl, sym, ap, append_assoc, ◌∙◌, subst}
use Rattle.std.specs.List.{AllByRecursion}
use Rattle.std.proofs.lemmas.Grind.{flat_map-append}
use Rattle.std.proofs.lemmas.List.{append-nil}
use Rattle.spv_base.specs.declared.instructions.Operand.TheVariants.{Id, Lit, Text}
use Rattle.spv_text.specs.declared.lines.Part.{Part}
use Rattle.spv_text.specs.declared.lines.Part.TheVariants as part
use Rattle.spv_text.specs.declared.parts.Mark.{Mark}
use Rattle.spv_text.specs.declared.parts.Mark.TheVariants as mark
use Rattle.spv_text.specs.Spelling.{ended, part_text, parts_text, quoted}
use Rattle.spv_text.specs.Lines.{Any, HasNoDigit, HasNoNameByte, IsByte, IsNumber, IsPart, Lacks}
use Rattle.spv_text.specs.Marks.{mark_text, numbered, EndsBefore, MayFollow}
use Rattle.spv_text.proofs.DigitLemmas.{decimal_leads, one_number}
use Rattle.spv_text.proofs.StringLemmas.{differ, tail_is, one_string}
use Rattle.spv_line.specs.Numbers.{is_digit}

-- ---- marks

-- no digit is the first byte of a mark
no_digit : (x : ℕ) (r s : List ℕ) → is_digit x ≡ false → is_digit (get_or s 0 0) ≡ true → x ∷ r ≡ s → ⊥
no_digit x r s f t e = let g : is_digit x ≡ true = ap (λ l. is_digit (get_or l 0 0)) e ∙ t in absurd (cc)

-- a text begins with one mark at most
pub one_mark : (k m : Mark) (r s : List ℕ) → MayFollow k r → MayFollow m s → mark_text k ++ r ≡ mark_text m ++ s → (k ≡ m) × (r ≡ s)
one_mark mark.ResultType mark.ResultType r s h g e = (refl, tail_is (tail_is (tail_is (tail_is (tail_is (tail_is e))))))
one_mark mark.ResultType mark.ResultId r s h g e = absurd (differ refl e)
one_mark mark.ResultType mark.Id r s h g e = absurd (differ refl e)
one_mark mark.ResultType mark.Literal r s h g e = absurd (no_digit _ _ s refl g e)
one_mark mark.ResultId mark.ResultType r s h g e = absurd (differ refl e)
one_mark mark.ResultId mark.ResultId r s h g e = (refl, tail_is (tail_is (tail_is (tail_is e))))
one_mark mark.ResultId mark.Id r s h g e = absurd (differ refl e)
one_mark mark.ResultId mark.Literal r s h g e = absurd (no_digit _ _ s refl g e)
one_mark mark.Id mark.ResultType r s h g e = absurd (differ refl e)
one_mark mark.Id mark.ResultId r s h g e = absurd (differ refl e)
one_mark mark.Id mark.Id r s h g e = (refl, tail_is e)
one_mark mark.Id mark.Literal r s h g e = absurd (no_digit _ _ s refl g e)
one_mark mark.Literal mark.ResultType r s h g e = absurd (no_digit _ _ r refl h (sym e))
one_mark mark.Literal mark.ResultId r s h g e = absurd (no_digit _ _ r refl h (sym e))
one_mark mark.Literal mark.Id r s h g e = absurd (no_digit _ _ r refl h (sym e))
one_mark mark.Literal mark.Literal r s h g e = (refl, e)

-- ---- parts with a number

pub numbered_text : (k : Mark) (n : ℕ) → part_text (numbered k n) ≡ mark_text k ++ decimal n
numbered_text mark.ResultType n = refl
numbered_text mark.ResultId n = refl
numbered_text mark.Id n = refl
numbered_text mark.Literal n = refl

pub numbered_number : (k : Mark) (n : ℕ) → IsPart (numbered k n) → IsNumber n
numbered_number mark.ResultType n h = h
numbered_number mark.ResultId n h = h
numbered_number mark.Id n h = h
numbered_number mark.Literal n h = h

pub ends_numbered : (k : Mark) (n : ℕ) (r : List ℕ) → EndsBefore (numbered k n) r → HasNoDigit r
ends_numbered mark.ResultType n r h = h
ends_numbered mark.ResultId n r h = h
ends_numbered mark.Id n r h = h
ends_numbered mark.Literal n r h = h

-- a number may follow each mark
pub number_follows : (k : Mark) (n : ℕ) (r : List ℕ) → IsNumber n → MayFollow k (decimal n ++ r)
number_follows mark.ResultType n r h = tt
number_follows mark.ResultId n r h = tt
number_follows mark.Id n r h = tt
number_follows mark.Literal n r h = decimal_leads n r h

-- a text begins with one such part at most
pub one_numbered : (k m : Mark) (a b : ℕ) (r s : List ℕ) → IsNumber a → IsNumber b → HasNoDigit r → HasNoDigit s → part_text (numbered k a) ++ r ≡ part_text (numbered m b) ++ s → (numbered k a ≡ numbered m b) × (r ≡ s)
one_numbered k m a b r s h g c d e =
    let f = sym (append_assoc (mark_text k) (decimal a) r) in
    let same = one_mark k m (decimal a ++ r) (decimal b ++ s) (number_follows k a r h) (number_follows m b s g)
    (sym (append_assoc (mark_text k) (decimal a) r) ∙ ap (λ t. t ++ r) (sym (numbered_text k a)) ∙ e ∙ ap (λ t. t ++ s) (numbered_text m b) ∙ append_assoc (mark_text m) (decimal b) s) in
    let one = one_number a b r s h g c d same.1 in
    (ap (λ x. numbered x a) same.0 ∙ ap (λ x. numbered m x) one.0, one.1)

pub no_numbered : (k : Mark) (text digits : List ℕ) → ((m : Mark) (s : List ℕ) → MayFollow m s → text ≡ mark_text m ++ s → (m ≡ k) × (s ≡ digits)) → Lacks decimal IsNumber HasNoDigit digits
    → (m : Mark) (n : ℕ) (rest : List ℕ) → IsNumber n → HasNoDigit rest → text ≡ part_text (numbered m n) ++ rest → ⊥
no_numbered k text digits only none m n rest h g e =
    let it = only m (decimal n ++ rest) (number_follows m n rest h) (e ∙ ap (λ t. t ++ rest) (numbered_text m n) ∙ append_assoc (mark_text m) (decimal n) rest) in
    none n rest h (sym it.1) g

-- ---- parts

-- a part has a mark and a number, or is a string
pub data Cases (p : Part) : Type 0 where
  number : (k : Mark) (n : ℕ) → p ≡ numbered k n → Cases p
  string : (bs : List ℕ) → p ≡ part.Operand (Text bs) → Cases p

pub view : (p : Part) → Cases p
view (part.ResultType n) = number mark.ResultType n refl
view (part.ResultId n) = number mark.ResultId n refl
view (part.Operand (Id n)) = number mark.Id n refl
view (part.Operand (Lit n)) = number mark.Literal n refl
view (part.Operand (Text bs)) = string bs refl

-- no string begins with a mark or a digit
not_string : (k : Mark) (n : ℕ) (r s : List ℕ) → IsNumber n → part_text (numbered k n) ++ r ≡ 34 ∷ s → ⊥
not_string mark.ResultType n r s h e = differ refl e
not_string mark.ResultId n r s h e = differ refl e
not_string mark.Id n r s h e = differ refl e
not_string mark.Literal n r s h e = no_digit 34 s (decimal n ++ r) refl (decimal_leads n r h) (sym e)

pub not_quoted : (p : Part) (text rest : List ℕ) → Cases p → IsPart p → HasNoDigit rest → text ≡ part_text p ++ rest → ((r : List ℕ) → text ≡ codes "\"" ++ r → ⊥)
    → ((m : Mark) (n : ℕ) (rest : List ℕ) → IsNumber n → HasNoDigit rest → text ≡ part_text (numbered m n) ++ rest → ⊥) → ⊥
not_quoted p text rest (number k n e) h g f apart none =
    none k n rest (numbered_number k n (subst IsPart e h)) g (f ∙ ap (λ q. part_text q ++ rest) e)
not_quoted p text rest (string bs e) h g f apart none = apart (quoted bs ++ rest) (f ∙ ap (λ q. part_text q ++ rest) e)

pub no_part : (text : List ℕ) → ((r : List ℕ) → text ≡ codes "\"" ++ r → ⊥)
    → ((m : Mark) (n : ℕ) (rest : List ℕ) → IsNumber n → HasNoDigit rest → text ≡ part_text (numbered m n) ++ rest → ⊥) → Lacks part_text IsPart HasNoDigit text
no_part text apart none p rest h e g = not_quoted p text rest (view p) h g e apart none

in_string : (p : Part) (text bytes rest : List ℕ) → Cases p → IsPart p → text ≡ codes "\"" ++ bytes → text ≡ part_text p ++ rest → Lacks quoted (AllByRecursion IsByte) Any bytes → ⊥
in_string p text bytes rest (number k n e) h f g none =
    not_string k n rest bytes (numbered_number k n (subst IsPart e h)) (ap (λ q. part_text q ++ rest) (sym e) ∙ sym g ∙ f)
in_string p text bytes rest (string bs e) h f g none =
    none bs rest (subst IsPart e h) (tail_is (sym f ∙ g ∙ ap (λ q. part_text q ++ rest) e)) tt

pub no_string_part : (text bytes : List ℕ) → text ≡ codes "\"" ++ bytes → Lacks quoted (AllByRecursion IsByte) Any bytes → Lacks part_text IsPart HasNoDigit text
no_string_part text bytes f none p rest h e g = in_string p text bytes rest (view p) h f e none

by_views : (p q : Part) (r s : List ℕ) → Cases p → Cases q → IsPart p → IsPart q → EndsBefore p r → HasNoDigit s → part_text p ++ r ≡ part_text q ++ s → (p ≡ q) × (r ≡ s)
by_views p q r s (number k a e) (number m b f) h g c d i =
    let one = one_numbered k m a b r s (numbered_number k a (subst IsPart e h)) (numbered_number m b (subst IsPart f g)) (ends_numbered k a r (subst (λ x. EndsBefore x r) e c)) d
    (ap (λ x. part_text x ++ r) (sym e) ∙ i ∙ ap (λ x. part_text x ++ s) f) in
    (e ∙ one.0 ∙ sym f, one.1)
by_views p q r s (number k a e) (string bs f) h g c d i =
    absurd (not_string k a r (quoted bs ++ s) (numbered_number k a (subst IsPart e h)) (ap (λ x. part_text x ++ r) (sym e) ∙ i ∙ ap (λ x. part_text x ++ s) f))
by_views p q r s (string bs e) (number m b f) h g c d i =
    absurd (not_string m b s (quoted bs ++ r) (numbered_number m b (subst IsPart f g)) (ap (λ x. part_text x ++ s) (sym f) ∙ sym i ∙ ap (λ x. part_text x ++ r) e))
by_views p q r s (string bs e) (string cs f) h g c d i =
    let one = one_string bs cs r s (subst IsPart e h) (subst IsPart f g)
    (sym (append_assoc _ (34 ∷ []) r) ∙ tail_is (ap (λ x. part_text x ++ r) (sym e) ∙ i ∙ ap (λ x. part_text x ++ s) f) ∙ append_assoc _ (34 ∷ []) s) in
    (e ∙ ap (λ x. part.Operand (Text x)) one.0 ∙ sym f, one.1)

-- a text begins with one part at most
pub one_part : (p q : Part) (r s : List ℕ) → IsPart p → IsPart q → EndsBefore p r → HasNoDigit s → part_text p ++ r ≡ part_text q ++ s → (p ≡ q) × (r ≡ s)
one_part p q r s h g c d e = by_views p q r s (view p) (view q) h g c d e

-- ---- all parts of a line

-- no digit, and no letter, stands behind the last part
pub behind : (ps : List Part) (r : List ℕ) → HasNoNameByte (parts_text ps ++ 10 ∷ r)
behind [] r = refl
behind (p ∷ ps) r = refl

pub no_digit_behind : (ps : List Part) (r : List ℕ) → HasNoDigit (parts_text ps ++ 10 ∷ r)
no_digit_behind [] r = refl
no_digit_behind (p ∷ ps) r = refl

ends_before : (p : Part) (r : List ℕ) → HasNoDigit r → EndsBefore p r
ends_before (part.ResultType n) r h = h
ends_before (part.ResultId n) r h = h
ends_before (part.Operand (Id n)) r h = h
ends_before (part.Operand (Lit n)) r h = h
ends_before (part.Operand (Text bs)) r h = tt

-- what is left of the parts, behind the first
pub parts_go_on : (rest spaced more r : List ℕ) (p : Part) (qs : List Part) → IsPart p → rest ≡ codes " " ++ spaced → spaced ≡ part_text p ++ more → EndsBefore p more
    → AllByRecursion IsPart qs → rest ≡ parts_text qs ++ 10 ∷ r → (ds : List Part) × AllByRecursion IsPart ds × (more ≡ parts_text ds ++ 10 ∷ r)
parts_go_on rest spaced more r p [] h e f g all i = absurd (differ refl (sym e ∙ i))
parts_go_on rest spaced more r p (q ∷ qs) h e f g all i =
    let one = one_part p q more (parts_text qs ++ 10 ∷ r) h all.0 g (no_digit_behind qs r) (sym f ∙ tail_is (sym e ∙ i) ∙ append_assoc (part_text q) (parts_text qs) (10 ∷ r)) in
    (qs, all.1, one.1)

-- no parts stand behind those that were read, where no part does, or neither a space nor the end of the line
none_spaced : (rest spaced r : List ℕ) (qs : List Part) → rest ≡ codes " " ++ spaced → Lacks part_text IsPart HasNoDigit spaced → AllByRecursion IsPart qs → rest ≡ parts_text qs ++ 10 ∷ r → ⊥
none_spaced rest spaced r [] e none all f = differ refl (sym e ∙ f)
none_spaced rest spaced r (q ∷ qs) e none all f =
    none q (parts_text qs ++ 10 ∷ r) all.0 (tail_is (sym e ∙ f) ∙ append_assoc (part_text q) (parts_text qs) (10 ∷ r)) (no_digit_behind qs r)

pub no_parts_spaced : (text rest spaced : List ℕ) → rest ≡ codes " " ++ spaced → Lacks part_text IsPart HasNoDigit spaced
    → ((ps : List Part) (r : List ℕ) → AllByRecursion IsPart ps → text ≡ parts_text ps ++ 10 ∷ r → (qs : List Part) × AllByRecursion IsPart qs × (rest ≡ parts_text qs ++ 10 ∷ r))
    → Lacks ended (AllByRecursion IsPart) Any text
no_parts_spaced text rest spaced e none left ps r all f follows =
    let it = left ps r all (f ∙ append_assoc (parts_text ps) (10 ∷ []) r) in
    none_spaced rest spaced r it.0 e none it.1 it.2

none_ended : (rest r : List ℕ) (qs : List Part) → ((s : List ℕ) → rest ≡ codes " " ++ s → ⊥) → ((s : List ℕ) → rest ≡ 10 ∷ s → ⊥) → rest ≡ parts_text qs ++ 10 ∷ r → ⊥
none_ended rest r [] a b f = b r f
none_ended rest r (q ∷ qs) a b f = a ((part_text q ++ parts_text qs) ++ 10 ∷ r) f

pub no_parts_ended : (text rest : List ℕ) → ((s : List ℕ) → rest ≡ codes " " ++ s → ⊥) → ((s : List ℕ) → rest ≡ 10 ∷ s → ⊥)
    → ((ps : List Part) (r : List ℕ) → AllByRecursion IsPart ps → text ≡ parts_text ps ++ 10 ∷ r → (qs : List Part) × AllByRecursion IsPart qs × (rest ≡ parts_text qs ++ 10 ∷ r))
    → Lacks ended (AllByRecursion IsPart) Any text
no_parts_ended text rest a b left ps r all f follows =
    let it = left ps r all (f ∙ append_assoc (parts_text ps) (10 ∷ []) r) in
    none_ended rest r it.0 a b it.2

pub parts_more : (text rest spaced more : List ℕ) (ps : List Part) (p : Part) → text ≡ parts_text ps ++ rest → rest ≡ codes " " ++ spaced → spaced ≡ part_text p ++ more → text ≡ parts_text (ps ++ p ∷ []) ++ more
parts_more text rest spaced more ps p e f g =
    e ∙ ap (λ r. parts_text ps ++ r) (f ∙ ap (λ r. 32 ∷ r) g) ∙ sym (append_assoc (parts_text ps) (32 ∷ part_text p) more)
    ∙ ap (λ l. l ++ more) (sym (flat_map-append (λ q. 32 ∷ part_text q) ps (p ∷ []) ∙ ap (λ l. parts_text ps ++ 32 ∷ l) (append-nil (part_text p))))

pub parts_all : (ps : List Part) (p : Part) → AllByRecursion IsPart ps → IsPart p → AllByRecursion IsPart (ps ++ p ∷ [])
parts_all [] p h k = (k, tt)
parts_all (q ∷ ps) p h k = (h.0, parts_all ps p h.1 k)

-- a text begins with one list of parts at most, up to the end of a line
pub one_parts : (ps qs : List Part) (r s : List ℕ) → AllByRecursion IsPart ps → AllByRecursion IsPart qs → parts_text ps ++ 10 ∷ r ≡ parts_text qs ++ 10 ∷ s → (ps ≡ qs) × (r ≡ s)
one_parts [] [] r s h k e = (refl, tail_is e)
one_parts [] (q ∷ qs) r s h k e = absurd (differ refl e)
one_parts (p ∷ ps) [] r s h k e = absurd (differ refl e)
one_parts (p ∷ ps) (q ∷ qs) r s h k e =
    let one = one_part p q (parts_text ps ++ 10 ∷ r) (parts_text qs ++ 10 ∷ s) h.0 k.0 (ends_before p (parts_text ps ++ 10 ∷ r) (no_digit_behind ps r)) (no_digit_behind qs s)
    (sym (append_assoc (part_text p) (parts_text ps) (10 ∷ r)) ∙ tail_is e ∙ append_assoc (part_text q) (parts_text qs) (10 ∷ s)) in
    let more = one_parts ps qs r s h.1 k.1 one.1 in
    (ap (λ x. x ∷ ps) one.0 ∙ ap (λ xs. q ∷ xs) more.0, more.1)
