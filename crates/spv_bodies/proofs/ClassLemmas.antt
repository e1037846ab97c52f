-- The classes of types, each by those of its parts.
use Rattle.std.proofs.Common.{◌≡◌, ◌≢◌, ℕ, zero, suc, ◌+◌, ◌<◌, ◌≤◌, ◌==◌, Bool, true, false, List, [], ◌∷◌, ◌++◌, length, get_or, drop, drop_of_length-le, Option, Some, None, refl, sym, ap, subst, arith}
use Rattle.std.specs.Prelude.{if◌then◌else◌, slice_get, slice_index_or, nat_lt}
use Rattle.spv_types.specs.declared.forms.Form.TheVariants.{Void}
use Rattle.std.specs.Option.{option_and_then, option_map, option_map_or}
use Rattle.spv_types.specs.declared.forms.Form.{Form}
use Rattle.spv_types.specs.declared.forms.Member.{Member}
use Rattle.spv_types.specs.Queries.{member_type}
use Rattle.spv_types.specs.Types.{Types, form_at, form_of, found_among, number_of}
use Rattle.spv_types.proofs.Exports.{in_first-is, number_form}
use Rattle.spv_bodies.specs.declared.terms.Node.{Node}
use Rattle.spv_bodies.specs.declared.terms.Node.TheVariants.{Number as Single, Pair as Double}
use Rattle.spv_bodies.specs.Matching.{Number, Pair, Term, form_term, members_term, repeated, term_among}
use Rattle.spv_bodies.specs.Terms.{AreDistinct, Grows, IsClass, Makes}
use Rattle.spv_bodies.specs.Classes.{AreClasses, HaveClasses, class_among}
use Rattle.spv_bodies.proofs.TermLemmas.{class_still, classes_tell, makes_still}

pub grows_on : (a b c : List Node) → Grows a b → Grows b c → Grows a c
grows_on a b c f g = λ n k h. g n k (f n k h)

-- a class of parts, under the opcode and the count that stand at places
pub repeated_is : (a b c d e : List Node) (part count rest opcode whole : ℕ) (op n : ℕ) → Grows a b → Grows b c → Grows c d → Grows d e
    → slice_get b count ≡ Some (Single n) → slice_get c rest ≡ Some (Double part count) → slice_get d opcode ≡ Some (Single op) → slice_get e whole ≡ Some (Double opcode rest)
    → (t : Option Term) → IsClass a (Some part) t → IsClass e (Some whole) (option_map (repeated op n) t)
repeated_is a b c d e part count rest opcode whole op n f g h i there pair kind top t is =
    let j = grows_on b c e g (grows_on c d e h i) in
    let k = grows_on c d e h i in
    let l = grows_on a b e f j in
    let m : Makes e whole (repeated op n is.0) = (opcode, rest, top, i opcode (Single op) kind, (part, count, k rest (Double part count) pair, makes_still a e l is.0 part is.2, j count (Single n) there)) in
    rw (is.1) (repeated op n is.0, refl, m)

pub struct_is : (a b c : List Node) (members opcode whole : ℕ) → Grows a b → Grows b c → slice_get b opcode ≡ Some (Single 30) → slice_get c whole ≡ Some (Double opcode members)
    → (t : Option Term) → IsClass a (Some members) t → IsClass c (Some whole) (option_map (Pair (Number 30)) t)
struct_is a b c members opcode whole f g kind top t is =
    let m : Makes c whole (Pair (Number 30) is.0) = (opcode, members, top, g opcode (Single 30) kind, makes_still a c (grows_on a b c f g) is.0 members is.2) in
    rw (is.1) (Pair (Number 30) is.0, refl, m)

-- ---- types

term_is : (ts : Types) (n id : ℕ) → term_among ts n id ≡ option_map_or (λ (f : ℕ × Form). form_term (term_among ts f.0) f.1) (found_among ts n id) None
unfolding term_among
term_is ts n id = in_first-is None form_term ts n id

-- what is found among the first types stands before their end, with the form of its number
found_at : (ts : Types) (n id m : ℕ) (f : Form) → found_among ts n id ≡ Some (m, f) → (m < n) × (form_at ts m ≡ f)
found_at ts n id m f h = go (number_of ts id) refl h
  where
    below : (k l : ℕ) → nat_lt k l ≡ true → k < l
    below k l h = grind arith

    inner : (k : ℕ) (b : Bool) → nat_lt k n ≡ b → number_of ts id ≡ Some k → (if b then option_map {U = ℕ × Form} (λ (g : Form). (k, g)) (form_of ts id) else None) ≡ Some (m, f) → (m < n) × (form_at ts m ≡ f)
    inner k false e at h = absurd (cc)
    inner k true e at h =
        let there = number_form ts id k (0, Void) at in
        let h' = rw there at h in
        let pair : (k, (get_or ts k (0, Void)).1) ≡ (m, f) = cc in
        let same : k ≡ m = ap (λ (p : ℕ × Form). p.0) pair in
        let form : (get_or ts k (0, Void)).1 ≡ f = ap (λ (p : ℕ × Form). p.1) pair in
        let less : k < n = below k n e in
        (rw (← same) less, rw (← same) form)

    go : (o : Option ℕ) → number_of ts id ≡ o → option_and_then (λ k. if nat_lt k n then option_map {U = ℕ × Form} (λ (g : Form). (k, g)) (form_of ts id) else None) o ≡ Some (m, f) → (m < n) × (form_at ts m ≡ f)
    go None at h = absurd (cc)
    go (Some k) at h = inner k (nat_lt k n) refl at h

-- a type among the first n types has its class
pub class_has : (nodes : List Node) (ts : Types) (classes : List (Option ℕ)) (n id : ℕ) → HaveClasses nodes ts classes n → IsClass nodes (class_among ts classes n id) (term_among ts n id)
class_has nodes ts classes n id have = rw (term_is ts n id) (go (found_among ts n id) refl)
  where
    go : (o : Option (ℕ × Form)) → found_among ts n id ≡ o → IsClass nodes (option_and_then (λ (f : ℕ × Form). slice_index_or classes f.0 None) o) (option_map_or (λ (f : ℕ × Form). form_term (term_among ts f.0) f.1) o None)
    go None at = refl
    go (Some f) at =
        let is = found_at ts n id f.0 f.1 at in
        subst (λ (g : Form). IsClass nodes (slice_index_or classes f.0 None) (form_term (term_among ts f.0) g)) is.1 (have f.0 is.0)

at_end : (classes : List (Option ℕ)) (c : Option ℕ) → slice_index_or (classes ++ c ∷ []) (length classes) None ≡ c
at_end [] c = refl
at_end (d ∷ classes) c = at_end classes c

before_end : (classes : List (Option ℕ)) (c : Option ℕ) (m : ℕ) → m < length classes → slice_index_or (classes ++ c ∷ []) m None ≡ slice_index_or classes m None
before_end [] c m l = absurd (omega arith)
before_end (d ∷ classes) c zero l = refl
before_end (d ∷ classes) c (suc m) l = before_end classes c m (omega arith)

longer : (classes : List (Option ℕ)) (c : Option ℕ) → length (classes ++ c ∷ []) ≡ suc (length classes)
longer [] c = refl
longer (d ∷ classes) c = ap suc (longer classes c)

pub one_longer : (classes : List (Option ℕ)) (c : Option ℕ) (n : ℕ) → length classes ≡ n → length (classes ++ c ∷ []) ≡ n + 1
one_longer classes c n e = let l = longer classes c in omega arith

-- one type more
pub one_has : (old new : List Node) (ts : Types) (classes : List (Option ℕ)) (n : ℕ) (c : Option ℕ) (f : Form) → Grows old new → length classes ≡ n → f ≡ form_at ts n
    → HaveClasses old ts classes n → IsClass new c (form_term (term_among ts n) f) → HaveClasses new ts (classes ++ c ∷ []) (n + 1)
one_has old new ts classes n c f grows e form have is = λ m l. by_place m l (m == n) refl
  where
    same : (a b : ℕ) → (a == b) ≡ true → a ≡ b
    same a b h = grind arith

    less : (a b : ℕ) → a < b + 1 → (a == b) ≡ false → a < b
    less a b l h = let apart : a ≢ b = grind arith in omega arith

    by_place : (m : ℕ) → m < n + 1 → (b : Bool) → (m == n) ≡ b → IsClass new (slice_index_or (classes ++ c ∷ []) m None) (form_term (term_among ts m) (form_at ts m))
    by_place m l true h =
        let at : m ≡ n = same m n h in
        let end : slice_index_or (classes ++ c ∷ []) n None ≡ c = rw (← e) (at_end classes c) in
        rw (at, end, ← form) is
    by_place m l false h =
        let below : m < n = less m n l h in
        let within : m < length classes = omega arith in
        rw (before_end classes c m within) (class_still old new grows (slice_index_or classes m None) (form_term (term_among ts m) (form_at ts m)) (have m below))

pub classes_are : (nodes : List Node) (ts : Types) (classes : List (Option ℕ)) (n : ℕ) → AreDistinct nodes → n ≡ length ts → HaveClasses nodes ts classes n → AreClasses ts classes
classes_are nodes ts classes n apart e have = λ a b.
    classes_tell nodes apart _ _ _ _ (class_has nodes ts classes (length ts) a (rw (← e) have)) (class_has nodes ts classes (length ts) b (rw (← e) have))

-- the same nodes as before, and more
pub have_still : (old new : List Node) (ts : Types) (classes : List (Option ℕ)) (n : ℕ) → Grows old new → HaveClasses old ts classes n → HaveClasses new ts classes n
have_still old new ts classes n grows have = λ m l. class_still old new grows (slice_index_or classes m None) (form_term (term_among ts m) (form_at ts m)) (have m l)

-- ---- members

pub no_members : (a : List Node) (term : ℕ → Option Term) (ms : List Member) (n : ℕ) → slice_get a n ≡ Some (Single 0) → IsClass a (Some n) (members_term term (drop (length ms) ms))
no_members a term ms n h = let l : length ms ≤ length ms = omega arith in rw (drop_of_length-le ms l) (Number 0, refl, h)

drop_member : (ms : List Member) (n ty : ℕ) → member_type ms n ≡ Some ty → (m : Member) × (drop n ms ≡ m ∷ drop (suc n) ms) × (m.ty ≡ ty)
drop_member [] n ty h = absurd (cc)
drop_member (m ∷ ms) zero ty h = let e : m.ty ≡ ty = cc in (m, refl, e)
drop_member (m ∷ ms) (suc n) ty h = drop_member ms n ty h

-- one member more, before others
pub member_more : (b c : List Node) (ts : Types) (classes : List (Option ℕ)) (limit : ℕ) (ms : List Member) (n k class rest whole : ℕ) → n ≡ suc k → Grows b c → HaveClasses b ts classes limit
    → Some class ≡ option_and_then (class_among ts classes limit) (member_type ms k) → IsClass b (Some rest) (members_term (term_among ts limit) (drop n ms)) → slice_get c whole ≡ Some (Double class rest)
    → IsClass c (Some whole) (members_term (term_among ts limit) (drop k ms))
member_more b c ts classes limit ms n k class rest whole e g have is others top = go (member_type ms k) refl is
  where
    go : (o : Option ℕ) → member_type ms k ≡ o → Some class ≡ option_and_then (class_among ts classes limit) o → IsClass c (Some whole) (members_term (term_among ts limit) (drop k ms))
    go None at h = absurd (cc)
    go (Some ty) at h =
        let d = drop_member ms k ty at in
        let first = subst (λ (o : Option ℕ). IsClass b o (term_among ts limit ty)) (sym h) (class_has b ts classes limit ty have) in
        let later = others.1 in
        let made : Makes c whole (Pair first.0 others.0) = (class, rest, top, makes_still b c g first.0 class first.2, makes_still b c g others.0 rest others.2) in
        let o : members_term (term_among ts limit) (drop (suc k) ms) ≡ Some others.0 = rw (← e) later in
        rw (d.1, d.2, first.1, o) (Pair first.0 others.0, refl, made)

none_at : (term : ℕ → Option Term) (ms : List Member) (n : ℕ) → n < length ms → ((ty : ℕ) → member_type ms n ≡ Some ty → term ty ≡ None) → members_term term ms ≡ None
none_at term [] n l h = absurd (omega arith)
none_at term (m ∷ ms) zero l h = let e : term m.ty ≡ None = h m.ty refl in rw e refl
none_at term (m ∷ ms) (suc n) l h = let less : n < length ms = omega arith in let e : members_term term ms ≡ None = none_at term ms n less h in rw e (go (term m.ty))
  where
    go : (o : Option Term) → option_and_then (λ t. option_map (Pair t) None) o ≡ None
    go None = refl
    go (Some t) = refl

-- a member that is not written out
pub member_none : (b : List Node) (ts : Types) (classes : List (Option ℕ)) (limit : ℕ) (ms : List Member) (n : ℕ) → n < length ms → HaveClasses b ts classes limit
    → None ≡ option_and_then (class_among ts classes limit) (member_type ms n) → members_term (term_among ts limit) ms ≡ None
member_none b ts classes limit ms n l have none = none_at (term_among ts limit) ms n l (λ ty at. by_type ty (rw at at none))
  where
    by_type : (ty : ℕ) → None ≡ class_among ts classes limit ty → term_among ts limit ty ≡ None
    by_type ty h = subst (λ (o : Option ℕ). IsClass b o (term_among ts limit ty)) (sym h) (class_has b ts classes limit ty have)
