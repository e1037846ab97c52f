-- The members of a struct, and ids in operands, one after another.
use Rattle.std.proofs.Common.{◌≡◌, ◌∙◌, ℕ, suc, ◌+◌, ◌<◌, ◌≤◌, List, [], ◌∷◌, ◌++◌, length, get_or, drop, drop-cons, drop_of_length-le, append_assoc, append-nil, Option, Some, None, refl, sym, ap, arith}
use Rattle.std.specs.Option.{option_map}
use Rattle.spv_base.specs.declared.instructions.Inst.{Inst}
use Rattle.spv_base.specs.declared.instructions.Operand.{Operand}
use Rattle.spv_types.specs.declared.forms.Member.{Member}
use Rattle.spv_index.specs.Definitions.{member_decoration}
use Rattle.spv_index.specs.Operands.{id_in}
use Rattle.spv_types.specs.Typing.{ids_in, members_from, of_both}

-- ---- lists of which some elements are known

-- what some first elements and the rest make, where the rest is there
abbrev pub behind : {X : Type 0} → List X → Option (List X) → Option (List X)
behind xs rest = option_map (λ ys. xs ++ ys) rest

nothing_first : {X : Type 0} (o : Option (List X)) → o ≡ behind [] o
nothing_first None = refl
nothing_first (Some xs) = refl

one_more : {X : Type 0} (xs : List X) (x : X) (o : Option (List X)) → behind xs (option_map (λ ys. x ∷ ys) o) ≡ behind (xs ++ x ∷ []) o
one_more xs x None = refl
one_more xs x (Some ys) = ap Some (sym (append_assoc xs (x ∷ []) ys))

-- ---- members

pub members_none : (all : List Inst) (id : ℕ) (os : List Operand) → members_from all id 0 os ≡ behind [] (members_from all id 0 (drop 0 os))
members_none all id os = nothing_first (members_from all id 0 os)

members_at : (all : List Inst) (id : ℕ) (os : List Operand) (n : ℕ) (o : Operand) → n < length os → o ≡ get_or os n o
    → members_from all id n (drop n os) ≡ of_both (λ ty ms. record { ty = ty; offset = member_decoration all id n 35 } ∷ ms) (id_in o) (members_from all id (suc n) (drop (suc n) os))
unfolding members_from
members_at all id os n o l e = rw (drop-cons os n o l, ← e) refl

pub members_next : (all : List Inst) (id : ℕ) (os : List Operand) (n ty : ℕ) (o : Operand) (ms : List Member) → n < length os → o ≡ get_or os n o → id_in o ≡ Some ty
    → members_from all id 0 os ≡ behind ms (members_from all id n (drop n os))
    → members_from all id 0 os ≡ behind (ms ++ record { ty = ty; offset = member_decoration all id n 35 } ∷ []) (members_from all id (n + 1) (drop (n + 1) os))
members_next all id os n ty o ms l e is old =
    let z : n + 1 ≡ suc n = omega arith in
    rw z (old ∙ ap (λ r. behind ms r) (members_at all id os n o l e ∙ rw is (made (members_from all id (suc n) (drop (suc n) os)))) ∙ one_more ms _ (members_from all id (suc n) (drop (suc n) os)))
  where
    made : (r : Option (List Member)) → of_both (λ ty ms. record { ty = ty; offset = member_decoration all id n 35 } ∷ ms) (Some ty) r ≡ option_map (λ ms. record { ty = ty; offset = member_decoration all id n 35 } ∷ ms) r
    made None = refl
    made (Some ms) = refl

pub members_broken : (all : List Inst) (id : ℕ) (os : List Operand) (n : ℕ) (o : Operand) (ms : List Member) → n < length os → o ≡ get_or os n o → id_in o ≡ None
    → members_from all id 0 os ≡ behind ms (members_from all id n (drop n os)) → None ≡ members_from all id 0 os
members_broken all id os n o ms l e is old = sym (old ∙ rw (members_at all id os n o l e, is) refl)

pub members_done : (all : List Inst) (id : ℕ) (os : List Operand) (n : ℕ) (ms : List Member) → length os ≤ n
    → members_from all id 0 os ≡ behind ms (members_from all id n (drop n os)) → Some ms ≡ members_from all id 0 os
unfolding members_from
members_done all id os n ms l old = sym (old ∙ rw (drop_of_length-le os l) (ap Some (append-nil ms)))

-- ---- ids

pub ids_none : (os : List Operand) → ids_in os ≡ behind [] (ids_in (drop 0 os))
ids_none os = nothing_first (ids_in os)

ids_at : (os : List Operand) (n : ℕ) (o : Operand) → n < length os → o ≡ get_or os n o → ids_in (drop n os) ≡ of_both (λ id ids. id ∷ ids) (id_in o) (ids_in (drop (suc n) os))
unfolding ids_in
ids_at os n o l e = rw (drop-cons os n o l, ← e) refl

pub ids_next : (os : List Operand) (n id : ℕ) (o : Operand) (ids : List ℕ) → n < length os → o ≡ get_or os n o → id_in o ≡ Some id
    → ids_in os ≡ behind ids (ids_in (drop n os)) → ids_in os ≡ behind (ids ++ id ∷ []) (ids_in (drop (n + 1) os))
ids_next os n id o ids l e is old =
    let z : n + 1 ≡ suc n = omega arith in
    rw z (old ∙ ap (λ r. behind ids r) (ids_at os n o l e ∙ rw is (made (ids_in (drop (suc n) os)))) ∙ one_more ids id (ids_in (drop (suc n) os)))
  where
    made : (r : Option (List ℕ)) → of_both (λ id ids. id ∷ ids) (Some id) r ≡ option_map (λ ids. id ∷ ids) r
    made None = refl
    made (Some ids) = refl

pub ids_broken : (os : List Operand) (n : ℕ) (o : Operand) (ids : List ℕ) → n < length os → o ≡ get_or os n o → id_in o ≡ None
    → ids_in os ≡ behind ids (ids_in (drop n os)) → None ≡ ids_in os
ids_broken os n o ids l e is old = sym (old ∙ rw (ids_at os n o l e, is) refl)

pub ids_done : (os : List Operand) (n : ℕ) (ids : List ℕ) → length os ≤ n → ids_in os ≡ behind ids (ids_in (drop n os)) → Some ids ≡ ids_in os
unfolding ids_in
ids_done os n ids l old = sym (old ∙ rw (drop_of_length-le os l) (ap Some (append-nil ids)))
