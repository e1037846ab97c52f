-- Parts, elements and members, one after another.
use Rattle.std.proofs.Common.{◌≡◌, ◌∙◌, ℕ, zero, suc, ◌+◌, ◌-◌, ◌<◌, ◌≤◌, ◌==◌, ◌&&◌, inl, inr, Bool, true, false, List, [], ◌∷◌, length, drop, get_or, Some, None, refl, sym, ap, subst, arith}
use Rattle.std.proofs.lemmas.Bool.{eq-eqb}
use Rattle.std.proofs.lemmas.Bool.Decides.{eqb_tells}
use Rattle.std.proofs.lemmas.List.{at_drop_all, drop_more, length-drop}
use Rattle.spv_dbg.specs.Tables.{Tables}
use Rattle.spv_parts.specs.Arrays.{as_array}
use Rattle.spv_parts.specs.Parts.{TypePart}
use Rattle.spv_print.specs.declared.pieces.Piece.TheVariants.{OpenList, CloseList, OpenStruct, CloseStruct, Name}
use Rattle.spv_print.specs.Layouts.{Change, Written, is_full, put, put_array, put_elements, put_list, put_members, put_part, put_plain, put_rest, put_separator, put_struct, put_unavailable}

-- ---- parts

pub array_put : (t : Tables) (size n : ℕ) (last : Bool) (p a : TypePart) (s : Written) → 0 < n → as_array t p ≡ Some a
    → put_part t size n last p s ≡ put_array t size (put_part t size (n - 1)) last a.base a.counts s
unfolding put_part
array_put t size zero last p a s some is = absurd (omega (arith, some))
array_put t size (suc n) last p a s some is = let one : suc n - 1 ≡ n = omega arith in rw (one, is) refl

pub plain_put : (t : Tables) (size n : ℕ) (last : Bool) (p : TypePart) (s : Written) → 0 < n → as_array t p ≡ None
    → put_part t size n last p s ≡ put_plain t size (put_part t size (n - 1)) last p s
unfolding put_part
plain_put t size zero last p s some is = absurd (omega (arith, some))
plain_put t size (suc n) last p s some is = let one : suc n - 1 ≡ n = omega arith in rw (one, is) refl

pub none_put : (t : Tables) (size n : ℕ) (last : Bool) (p : TypePart) (s : Written) → n ≡ 0 → put_part t size n last p s ≡ put_unavailable s
unfolding put_part
none_put t size zero last p s none = refl
none_put t size (suc n) last p s none = absurd cc

-- ---- elements

pub list_is : (e : Bool → Change) (last : Bool) (count : ℕ) (s : Written) → 0 < count → put_list e last count s ≡ put CloseList (put_elements e last 0 count (put OpenList s))
list_is e last zero s some = absurd (omega (arith, some))
list_is e last (suc n) s some = refl

-- the last of so many is the one with none behind it
last_is : (number count more : ℕ) → count ≡ number + suc more → (number + 1 == count) ≡ (more == 0)
last_is number count more e = elim (eqb_tells more 0) [
  | inl none ↦ eq-eqb (number + 1) count (omega (arith, none.1, e)) ∙ sym none.0
  | inr some ↦ elim (eqb_tells (number + 1) count) [
    | inl end ↦ absurd (some.1 (omega (arith, end.1, e)))
    | inr before ↦ before.0 ∙ sym some.0
  ]
]

more_left : (number count : ℕ) → number < count → count - number ≡ suc (count - (number + 1))
more_left number count lt = omega (arith, lt)

pub elements_next : (e : Bool → Change) (last at_end : Bool) (count number : ℕ) (s t u whole : Written) → number < count → is_full s ≡ false → t ≡ put_separator number s
    → at_end ≡ (last && (number + 1 == count)) → u ≡ e at_end t
    → put_elements e last number (count - number) s ≡ whole → put_elements e last (number + 1) (count - (number + 1)) u ≡ whole
elements_next e last at_end count number s t u whole lt room apart end is before =
    let more = more_left number count lt in
    let same : (number + 1 == count) ≡ (count - (number + 1) == 0) = last_is number count (count - (number + 1)) (omega (arith, lt)) in
    let from : u ≡ e (last && (count - (number + 1) == 0)) (put_separator number s) = is ∙ ap (e at_end) apart ∙ ap (λ b. e b (put_separator number s)) (end ∙ ap (λ b. last && b) same) in
    let first : put_elements e last number (suc (count - (number + 1))) s ≡ whole = subst (λ k. put_elements e last number k s ≡ whole) more before in
    rw from (rw room at first)

pub elements_rest : (e : Bool → Change) (last : Bool) (count number : ℕ) (s whole : Written) → number < count → is_full s ≡ true → put_elements e last number (count - number) s ≡ whole → put_rest number s ≡ whole
elements_rest e last count number s whole lt full before =
    let first : put_elements e last number (suc (count - (number + 1))) s ≡ whole = subst (λ k. put_elements e last number k s ≡ whole) (more_left number count lt) before in
    rw full at first

pub elements_done : (e : Bool → Change) (last : Bool) (count number : ℕ) (s whole : Written) → count ≤ number → put_elements e last number (count - number) s ≡ whole → s ≡ whole
elements_done e last count number s whole all before =
    let none : count - number ≡ 0 = omega (arith, all) in
    subst (λ k. put_elements e last number k s ≡ whole) none before

-- ---- members

pub struct_is : (m : ℕ → Bool → Change) (last : Bool) (ids : List ℕ) (s : Written) → 0 < length ids → put_struct m last ids s ≡ put CloseStruct (put_members m last 0 ids (put OpenStruct s))
struct_is m last [] s some = absurd (omega (arith, some))
struct_is m last (id ∷ ids) s some = refl

pub members_next : (m : ℕ → Bool → Change) (last at_end : Bool) (ids : List ℕ) (number d : ℕ) (s t u whole : Written) → number < length ids → is_full s ≡ false
    → t ≡ put (Name (get_or ids number d)) (put_separator number s) → at_end ≡ (last && (number + 1 == length ids)) → u ≡ m (get_or ids number d) at_end t
    → put_members m last number (drop number ids) s ≡ whole → put_members m last (number + 1) (drop (number + 1) ids) u ≡ whole
members_next m last at_end ids number d s t u whole lt room apart end is before =
    let id = get_or ids number d in
    let rest = drop (number + 1) ids in
    let same : (number + 1 == length ids) ≡ (length rest == 0) = last_is number (length ids) (length rest) (omega (arith, lt, length-drop (number + 1) ids)) in
    let from : u ≡ m id (last && (length rest == 0)) (put (Name id) (put_separator number s)) = is ∙ ap (m id at_end) apart ∙ ap (λ b. m id b (put (Name id) (put_separator number s))) (end ∙ ap (λ b. last && b) same) in
    let first : put_members m last number (id ∷ rest) s ≡ whole = subst (λ xs. put_members m last number xs s ≡ whole) (drop_more ids number d lt) before in
    rw from (rw room at first)

pub members_rest : (m : ℕ → Bool → Change) (last : Bool) (ids : List ℕ) (number : ℕ) (s whole : Written) → number < length ids → is_full s ≡ true → put_members m last number (drop number ids) s ≡ whole → put_rest number s ≡ whole
members_rest m last ids number s whole lt full before =
    let first : put_members m last number (get_or ids number 0 ∷ drop (number + 1) ids) s ≡ whole = subst (λ xs. put_members m last number xs s ≡ whole) (drop_more ids number 0 lt) before in
    rw full at first

pub members_done : (m : ℕ → Bool → Change) (last : Bool) (ids : List ℕ) (number : ℕ) (s whole : Written) → length ids ≤ number → put_members m last number (drop number ids) s ≡ whole → s ≡ whole
members_done m last ids number s whole all before = sym (at_drop_all (λ (rest : List ℕ). put_members m last number rest s) ids number all) ∙ before
