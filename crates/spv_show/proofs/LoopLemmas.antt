-- One more element of a list, and the elements that are left.
use Rattle.std.proofs.Common.{◌≡◌, ◌∙◌, ℕ, zero, suc, ◌+◌, ◌<◌, ◌≤◌, true, false, List, [], ◌∷◌, length, drop, get_or, replicate, refl, sym, ap, arith}
use Rattle.std.proofs.lemmas.List.{at_drop_all, drop_more, get_or-replicate, length-replicate}
use Rattle.spv_types.specs.declared.forms.Member.{Member}
use Rattle.spv_show.specs.Lists.{separator}
use Rattle.spv_show.specs.Sheets.{Change, Written, is_full, put, put_elements, put_members, put_named, put_rest}

-- ---- any elements

one_more : (cs : List Change) (c : Change) (number : ℕ) (s : Written) → number < length cs → get_or cs number c ≡ c → is_full s ≡ false
    → put_elements number (drop number cs) s ≡ put_elements (number + 1) (drop (number + 1) cs) (c (put (separator number) s))
one_more cs c number s within is room = rw (drop_more cs number c within, is, room) refl

pub rest_is : (cs : List Change) (number : ℕ) (s : Written) → number < length cs → is_full s ≡ true → put_elements number (drop number cs) s ≡ put_rest number s
rest_is cs number s within full = rw (drop_more cs number (λ t. t) within, full) refl

pub done : (cs : List Change) (number : ℕ) (s : Written) → length cs ≤ number → put_elements number (drop number cs) s ≡ s
done cs number s all = at_drop_all (λ (rest : List Change). put_elements number rest s) cs number all

-- ---- elements of one type

pub row_next : (c : Change) (count number : ℕ) (s t u whole : Written) → number < count → is_full s ≡ false → t ≡ put (separator number) s → u ≡ c t
    → put_elements number (drop number (replicate count c)) s ≡ whole → put_elements (number + 1) (drop (number + 1) (replicate count c)) u ≡ whole
row_next c count number s t u whole below room apart is before =
    let long = length-replicate count c in
    let more = one_more (replicate count c) c number s (omega (arith, long, below)) (get_or-replicate count number c c below) room in
    let from : u ≡ c (put (separator number) s) = is ∙ ap c apart in
    rw from (sym more ∙ before)

pub row_rest : (c : Change) (count number : ℕ) (s whole : Written) → number < count → is_full s ≡ true → put_elements number (drop number (replicate count c)) s ≡ whole → put_rest number s ≡ whole
row_rest c count number s whole below full before =
    let long = length-replicate count c in
    sym (rest_is (replicate count c) number s (omega (arith, long, below)) full) ∙ before

-- ---- members

members_long : (change : ℕ → Change) (number : ℕ) (ms : List Member) → length (put_members change number ms) ≡ length ms
members_long change number [] = refl
members_long change number (m ∷ ms) = ap suc (members_long change (number + 1) ms)

member_at : (change : ℕ → Change) (first i : ℕ) (ms : List Member) (d : Member) (e : Change) → i < length ms → get_or (put_members change first ms) i e ≡ put_named (first + i) (change (get_or ms i d).ty)
member_at change first i [] d e below = absurd (omega (arith, below))
member_at change first zero (m ∷ ms) d e below = let same : first + 0 ≡ first = omega arith in rw same refl
member_at change first (suc i) (m ∷ ms) d e below =
    let same : first + suc i ≡ first + 1 + i = omega arith in
    rw same (member_at change (first + 1) i ms d e (omega (arith, below)))

pub members_next : (change : ℕ → Change) (ms : List Member) (d : Member) (number : ℕ) (s t u whole : Written) → number < length ms → is_full s ≡ false
    → t ≡ put_named number (λ r. r) (put (separator number) s) → u ≡ change (get_or ms number d).ty t
    → put_elements number (drop number (put_members change 0 ms)) s ≡ whole → put_elements (number + 1) (drop (number + 1) (put_members change 0 ms)) u ≡ whole
members_next change ms d number s t u whole below room apart is before =
    let cs = put_members change 0 ms in
    let c : Change = put_named number (change (get_or ms number d).ty) in
    let long = members_long change 0 ms in
    let same : 0 + number ≡ number = omega arith in
    let got : get_or cs number c ≡ c = member_at change 0 number ms d c below ∙ ap (λ (k : ℕ). put_named k (change (get_or ms number d).ty)) same in
    let more = one_more cs c number s (omega (arith, long, below)) got room in
    let from : u ≡ c (put (separator number) s) = is ∙ ap (change (get_or ms number d).ty) apart in
    rw from (sym more ∙ before)

pub members_rest : (change : ℕ → Change) (ms : List Member) (number : ℕ) (s whole : Written) → number < length ms → is_full s ≡ true → put_elements number (drop number (put_members change 0 ms)) s ≡ whole → put_rest number s ≡ whole
members_rest change ms number s whole below full before =
    let long = members_long change 0 ms in
    sym (rest_is (put_members change 0 ms) number s (omega (arith, long, below)) full) ∙ before

pub members_done : (change : ℕ → Change) (ms : List Member) (number : ℕ) (s whole : Written) → length ms ≤ number → put_elements number (drop number (put_members change 0 ms)) s ≡ whole → s ≡ whole
members_done change ms number s whole all before =
    let long = members_long change 0 ms in
    sym (done (put_members change 0 ms) number s (omega (arith, long, all))) ∙ before
