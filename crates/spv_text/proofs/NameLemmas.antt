-- The names of the opcodes are apart, and of letters and digits.
use Rattle.std.proofs.Common.{Bor, ◌≡◌, ◌≢◌, ℕ, nat_eq, Bool, true, false, not, cond, ◌&&◌, List, [], ◌∷◌, ◌++◌, Option, Some, None, unwrap_or, codes, zero, suc, get_or, length, map, drop, ◌<◌, refl, sym, ap, ◌∙◌, subst, inl, inr, arith}
use Rattle.std.proofs.lemmas.Bool.{and_parts, and_from, not-true}
use Rattle.std.specs.Prelude.{IsSome, MatchOption}
use Rattle.spv_ops.specs.declared.grammar.Head.{Head}
use Rattle.spv_ops.specs.declared.grammar.Part.{Part}
use Rattle.spv_ops.specs.declared.grammar.Rest.{Rest}
use Rattle.std.specs.Option.{option_map}
use Rattle.std.specs.List.{list_all, AllByRecursion}
use Rattle.std.proofs.lemmas.Bool.Decides.{nat_tests}
use Rattle.spv_base.proofs.Exports.{opposite}
use Rattle.spv_ops.specs.Opcodes.{Row, table}
use Rattle.spv_ops.specs.Grammar.{row_with, row_of}
use Rattle.spv_text.specs.Lines.{is_name_byte, IsName}
use Rattle.spv_text.specs.Listing.{name_of}
use Rattle.spv_text.specs.Names.{IsAmong}
use Rattle.spv_text.specs.Reading.{IsOpcode}

-- ---- tests of tables

same : List ℕ → List ℕ → Bool
same [] [] = true
same [] (y ∷ ys) = false
same (x ∷ xs) [] = false
same (x ∷ xs) (y ∷ ys) = nat_eq x y && same xs ys

-- each line has another number and another name than those behind it
apart : List Row → Bool
apart [] = true
apart (row ∷ rows) = list_all (λ other. not (nat_eq row.0 other.0) && not (same row.1 other.1)) rows && apart rows

abbrev named : List Row → Bool
named rows = list_all (λ row. list_all is_name_byte row.1) rows

table_apart : apart table ≡ true
unfolding table same apart
table_apart = refl

table_named : named table ≡ true
unfolding table
table_named = refl

same_self : (xs : List ℕ) → same xs xs ≡ true
unfolding same
same_self [] = refl
same_self (x ∷ xs) = and_from _ _ (grind (arith, nat_tests)) (same_self xs)

number_self : (n : ℕ) → nat_eq n n ≡ true
number_self n = grind (arith, nat_tests)

-- what holds of each line holds of a line among them
each_is : (p : Row → Bool) (rows : List Row) (row : Row) → list_all p rows ≡ true → IsAmong row rows → p row ≡ true
each_is p [] row h i = elim i [ ]
each_is p (first ∷ rows) row h (inl e) = ap p e ∙ (and_parts (p first) (list_all p rows) h).0
each_is p (first ∷ rows) row h (inr i) = each_is p rows row (and_parts (p first) (list_all p rows) h).1 i

tests_of : (first other : Row) → (not (nat_eq first.0 other.0) && not (same first.1 other.1)) ≡ true → (nat_eq first.0 other.0 ≡ false) × (same first.1 other.1 ≡ false)
tests_of first other h = let both = and_parts _ _ h in (not-true _ both.0, not-true _ both.1)

apart_first : (first : Row) (rows : List Row) → apart (first ∷ rows) ≡ true
    → ((other : Row) → IsAmong other rows → (nat_eq first.0 other.0 ≡ false) × (same first.1 other.1 ≡ false)) × (apart rows ≡ true)
unfolding apart
apart_first first rows h =
    let both = and_parts _ (apart rows) h in
    (λ other i. tests_of first other (each_is (λ o. not (nat_eq first.0 o.0) && not (same first.1 o.1)) rows other both.0 i), both.1)

-- ---- a line among them is the line of its number

head_with : (b : Bool) (first : Row) (found : Option Row) → b ≡ true → cond b (Some first) found ≡ Some first
head_with b first found h = ap (λ x. cond x (Some first) found) h

tail_with : (b : Bool) (first : Row) (found : Option Row) → b ≡ false → cond b (Some first) found ≡ found
tail_with b first found h = ap (λ x. cond x (Some first) found) h

with_number : (rows : List Row) (row : Row) → apart rows ≡ true → IsAmong row rows → row_with row.0 rows ≡ Some row
with_number [] row h i = elim i [ ]
with_number (first ∷ rows) row h (inl e) =
    subst (λ (r : Row). row_with r.0 (first ∷ rows) ≡ Some r) (sym e) (head_with (nat_eq first.0 first.0) first (row_with first.0 rows) (number_self first.0))
with_number (first ∷ rows) row h (inr i) =
    let it = apart_first first rows h in
    tail_with (nat_eq first.0 row.0) first (row_with row.0 rows) (it.0 row i).0 ∙ with_number rows row it.1 i

-- what is found is among them, with the number
found_by : (b : Bool) (n : ℕ) (first : Row) (rows : List Row) (row : Row) → nat_eq first.0 n ≡ b → cond b (Some first) (row_with n rows) ≡ Some row
    → (row_with n rows ≡ Some row → IsAmong row rows × (row.0 ≡ n)) → IsAmong row (first ∷ rows) × (row.0 ≡ n)
found_by true n first rows row t e more =
    let is : first ≡ row = cc in
    let number : first.0 ≡ n = grind (arith, nat_tests) in
    (inl (sym is), ap (λ (r : Row). r.0) (sym is) ∙ number)
found_by false n first rows row t e more = let it = more e in (inr it.0, it.1)

pub found_with : (n : ℕ) (rows : List Row) (row : Row) → row_with n rows ≡ Some row → IsAmong row rows × (row.0 ≡ n)
found_with n [] row e = absurd (cc)
found_with n (first ∷ rows) row e = found_by (nat_eq first.0 n) n first rows row refl e (found_with n rows row)

-- ---- two lines with one name are one

name_apart : (a b : Row) → same a.1 b.1 ≡ false → a.1 ≡ b.1 → ⊥
name_apart a b h e = opposite (same a.1 b.1) (ap (λ n. same a.1 n) (sym e) ∙ same_self a.1) h

one_named : (rows : List Row) (a b : Row) → apart rows ≡ true → IsAmong a rows → IsAmong b rows → a.1 ≡ b.1 → a ≡ b
one_named [] a b h i j g = elim i [ ]
one_named (first ∷ rows) a b h (inl e) (inl f) g = e ∙ sym f
one_named (first ∷ rows) a b h (inl e) (inr j) g =
    absurd (name_apart first b ((apart_first first rows h).0 b j).1 (ap (λ (r : Row). r.1) (sym e) ∙ g))
one_named (first ∷ rows) a b h (inr i) (inl f) g =
    absurd (name_apart first a ((apart_first first rows h).0 a i).1 (ap (λ (r : Row). r.1) (sym f) ∙ sym g))
one_named (first ∷ rows) a b h (inr i) (inr j) g = one_named rows a b (apart_first first rows h).1 i j g

-- ---- opcodes

pub row_among : (op : ℕ) (row : Row) → row_of op ≡ Some row → IsAmong row table × (row.0 ≡ op)
unfolding row_of
row_among op row e = found_with op table row e

pub among_row : (row : Row) → IsAmong row table → row_of row.0 ≡ Some row
unfolding row_of
among_row row i = with_number table row table_apart i

pub name_is : (op : ℕ) (row : Row) → row_of op ≡ Some row → name_of op ≡ codes "Op" ++ row.1
name_is op row e = ap (λ (r : Option Row). codes "Op" ++ unwrap_or (option_map (λ (x : Row). x.1) r) []) e

some_row : (o : Option Row) → IsSome o → (row : Row) × (o ≡ Some row)
some_row None h = absurd (cc)
some_row (Some row) h = (row, refl)

pub row_is : (op : ℕ) → IsSome (row_of op) → (row : Row) × (row_of op ≡ Some row)
row_is op h = some_row (row_of op) h

short_names : (a b : List ℕ) → codes "Op" ++ a ≡ codes "Op" ++ b → a ≡ b
short_names a b e = ap (drop 2) e

-- two opcodes with one name are one
pub one_opcode : (a b : ℕ) (name : List ℕ) → IsOpcode a name → IsOpcode b name → a ≡ b
one_opcode a b name h k =
    let p = row_is a h.0 in
    let q = row_is b k.0 in
    let i = row_among a p.0 p.1 in
    let j = row_among b q.0 q.1 in
    let names : p.0.1 ≡ q.0.1 = short_names _ _ (sym (name_is a p.0 p.1) ∙ sym h.1 ∙ k.1 ∙ name_is b q.0 q.1) in
    sym i.1 ∙ ap (λ (r : Row). r.0) (one_named table p.0 q.0 table_apart i.0 j.0 names) ∙ j.1

-- the opcode of a line that was found by its name
pub opcode_is : (row : Row) (name short : List ℕ) → IsAmong row table → row.1 ≡ short → name ≡ codes "Op" ++ short → (row_of row.0 ≡ Some row) × IsOpcode row.0 name
opcode_is row name short i e f =
    let is = among_row row i in
    (is, (subst IsSome (sym is) refl, f ∙ ap (λ n. codes "Op" ++ n) (sym e) ∙ sym (name_is row.0 row is)))

none_among : (rows : List Row) (row : Row) (short : List ℕ) → AllByRecursion (λ (r : Row). r.1 ≢ short) rows → IsAmong row rows → row.1 ≡ short → ⊥
none_among [] row short h i f = elim i [ ]
none_among (first ∷ rows) row short h (inl e) f = h.0 (ap (λ (r : Row). r.1) (sym e) ∙ f)
none_among (first ∷ rows) row short h (inr i) f = none_among rows row short h.1 i f

pub no_opcode : (name short : List ℕ) → AllByRecursion (λ (r : Row). r.1 ≢ short) table → name ≡ codes "Op" ++ short → (op : ℕ) → IsOpcode op name → ⊥
no_opcode name short h f op k =
    let p = row_is op k.0 in
    none_among table p.0 short h (row_among op p.0 p.1).0 (short_names _ _ (sym (name_is op p.0 p.1) ∙ sym k.1 ∙ f))

-- the name of an opcode is of letters and digits
pub opcode_name : (op : ℕ) → IsSome (row_of op) → IsName (name_of op)
opcode_name op h =
    let p = row_is op h in
    subst IsName (sym (name_is op p.0 p.1)) (each_is (λ (row : Row). list_all is_name_byte row.1) table p.0 table_named (row_among op p.0 p.1).0, omega arith)

-- ---- the search

abbrev Entry : Type 0
Entry = ℕ × Bor (List ℕ) × Head × Bor (List Part) × Rest

abbrev row_at : Entry → Row
row_at o = (o.0, o.1.now, o.2, o.3.now, o.4)

pub among_at : (entries : List Entry) (i : ℕ) (d : Entry) → i < length entries → IsAmong (row_at (get_or entries i d)) (map row_at entries)
among_at [] i d h = absurd (omega arith)
among_at (first ∷ entries) zero d h = inl refl
among_at (first ∷ entries) (suc i) d h = inr (among_at entries i d (omega arith))

pub found : (name short : List ℕ) (rows : List Row) (o : Option Entry) → rows ≡ table → name ≡ codes "Op" ++ short
    → MatchOption o (AllByRecursion (λ (row : Row). row.1 ≢ short) rows) (λ it. IsAmong (row_at it) rows × (it.1.now ≡ short))
    → MatchOption o ((op : ℕ) → IsOpcode op name → ⊥) (λ it. (row_of it.0 ≡ Some (row_at it)) × IsOpcode it.0 name)
found name short rows None t e h = no_opcode name short (subst (λ (rows : List Row). AllByRecursion (λ (row : Row). row.1 ≢ short) rows) t h) e
found name short rows (Some it) t e h = opcode_is (row_at it) name short (subst (λ (rows : List Row). IsAmong (row_at it) rows) t h.0) h.1 e
