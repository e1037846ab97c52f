-- Types seen through others, members and Indexes, where numbers of bits stop at the greatest of 64 bits.
use Rattle.std.proofs.Common.{◌≡◌, ◌∙◌, ℕ, suc, ◌+◌, ◌-◌, ◌*◌, ◌^◌, ◌<◌, ◌≤◌, true, false, List, [], ◌∷◌, length, get_or, drop, take, slice_get, Option, Some, None, refl, sym, ap, subst, arith}
use Rattle.std.specs.Prelude.{filter, min, option_map}
use Rattle.std.specs.Option.{option_and_then, option_map_or}
use Rattle.std.proofs.Math.ListN.{drop_of_length-le}
use Rattle.std.proofs.lemmas.List.{drop_more}
use Rattle.spv_base.specs.Saturation.{saturated}
use Rattle.spv_base.proofs.Exports.{saturated-mul, unsaturated}
use Rattle.spv_dbg.specs.Tables.{Tables, with_id}
use Rattle.spv_parts.specs.Kept.{saturated_place}
use Rattle.spv_parts.specs.Parts.{TypePart, base_in, is_member, literal, member, member_type, members_bits, part_at, reached, seen_through, type_bits, whole}

-- ---- through TypeQualifiers and Typedefs

pub plain_step : (t : Tables) (len n id base result : ℕ) → n < len → option_and_then base_in (with_id t id) ≡ Some base → seen_through (len - n) t id ≡ result
    → seen_through (len - (n + 1)) t base ≡ result
plain_step t len n id base result lt is e = let one : len - n ≡ suc (len - (n + 1)) = omega arith in rw is at (rw one at e)

-- ---- elements

pub scaled : (a n p : ℕ) → p ≡ saturated a → min (p * n) (2 ^ 64 - 1) ≡ saturated (a * n)
scaled a n p e = rw e (saturated-mul a n)

-- ---- members

-- a part with some more bits before it
abbrev pub after : ℕ → Option (ℕ × TypePart) → Option (ℕ × TypePart)
after start p = option_map (λ (q : ℕ × TypePart). (start + q.0, q.1)) p

twice : (a b : ℕ) (p : Option (ℕ × TypePart)) → option_map saturated_place (after a (after b p)) ≡ option_map saturated_place (after (min (a + b) (2 ^ 64 - 1)) p)
twice a b None = refl
twice a b (Some q) = ap (λ (n : ℕ). Some (n, q.1)) (omega arith)

next : (t : Tables) (id : ℕ) (ms : List ℕ) (i : ℕ) → member t (id ∷ ms) (suc i) ≡ after (type_bits t id) (member t ms i)
next t id ms i = by (slice_get ms i)
  where
    by : (o : Option ℕ) → option_map (λ (m : ℕ). (members_bits t (take (suc i) (id ∷ ms)), whole (member_type t m))) o
        ≡ after (type_bits t id) (option_map (λ (m : ℕ). (members_bits t (take i ms), whole (member_type t m))) o)
    by None = refl
    by (Some m) = refl

module _ (t : Tables) (n : ℕ) (ids : List ℕ) (i : ℕ) (lt : i < length ids) where
  left_of : ℕ → List ℕ → ℕ → Option (ℕ × TypePart)
  left_of start rest left = option_map saturated_place (after start (member t (filter (is_member t n) rest) left))

  split : drop i ids ≡ get_or ids i 0 ∷ drop (i + 1) ids
  split = drop_more ids i 0 lt

  pub member_skipped : (start left : ℕ) (result : Option (ℕ × TypePart)) → is_member t n (get_or ids i 0) ≡ false
      → option_map saturated_place (after start (member t (filter (is_member t n) (drop i ids)) left)) ≡ result
      → option_map saturated_place (after start (member t (filter (is_member t n) (drop (i + 1) ids)) left)) ≡ result
  member_skipped start left result isnt e = rw isnt at (rw split at e)

  pub member_found : (start : ℕ) (result : Option (ℕ × TypePart)) → start < 2 ^ 64 → is_member t n (get_or ids i 0) ≡ true
      → option_map saturated_place (after start (member t (filter (is_member t n) (drop i ids)) 0)) ≡ result
      → Some (start, whole (member_type t (get_or ids i 0))) ≡ result
  member_found start result small is e =
      let f = rw is at (rw split at e) in
      let same : saturated (start + 0) ≡ start = omega arith in
      ap (λ (k : ℕ). Some (k, whole (member_type t (get_or ids i 0)))) (sym same) ∙ f

  pub member_passed : (start left : ℕ) (result : Option (ℕ × TypePart)) → is_member t n (get_or ids i 0) ≡ true → 0 < left
      → option_map saturated_place (after start (member t (filter (is_member t n) (drop i ids)) left)) ≡ result
      → option_map saturated_place (after (min (start + type_bits t (get_or ids i 0)) (2 ^ 64 - 1)) (member t (filter (is_member t n) (drop (i + 1) ids)) (left - 1))) ≡ result
  member_passed start left result is some e =
      let rest = filter (is_member t n) (drop (i + 1) ids) in
      let id = get_or ids i 0 in
      let one : left ≡ suc (left - 1) = omega arith in
      let f : option_map saturated_place (after start (member t (id ∷ rest) left)) ≡ result = rw is at (rw split at e) in
      let g : option_map saturated_place (after start (member t (id ∷ rest) (suc (left - 1)))) ≡ result = subst (λ (k : ℕ). option_map saturated_place (after start (member t (id ∷ rest) k)) ≡ result) one f in
      sym (twice start (type_bits t id) (member t rest (left - 1))) ∙ ap (λ (p : Option (ℕ × TypePart)). option_map saturated_place (after start p)) (sym (next t id rest (left - 1))) ∙ g

-- ---- Indexes

shifted : (a b x : ℕ) → saturated a ≡ saturated b → saturated (a + x) ≡ saturated (b + x)
shifted a b x e = omega arith

pub reached_saturated : (t : Tables) (a b : ℕ) (p : TypePart) (is : List ℕ) → saturated a ≡ saturated b
    → option_map saturated_place (reached t (a, p) is) ≡ option_map saturated_place (reached t (b, p) is)
reached_saturated t a b p [] e = ap (λ (n : ℕ). Some (n, p)) e
reached_saturated t a b p (i ∷ is) e = by (λ (q : ℕ × TypePart). reached_saturated t (a + q.0) (b + q.0) q.1 is (shifted a b q.0 e)) (part_at t p (literal t i))
  where
    by : ((q : ℕ × TypePart) → option_map saturated_place (reached t (a + q.0, q.1) is) ≡ option_map saturated_place (reached t (b + q.0, q.1) is)) → (o : Option (ℕ × TypePart)) → option_map saturated_place (option_and_then (λ (q : ℕ × TypePart). reached t (a + q.0, q.1) is) o)
        ≡ option_map saturated_place (option_and_then (λ (q : ℕ × TypePart). reached t (b + q.0, q.1) is) o)
    by each None = refl
    by each (Some q) = each q

module _ (t : Tables) (indexes : List ℕ) (i : ℕ) (start : ℕ) (p : TypePart) (result : Option (ℕ × TypePart)) where
  pub reached_step : i < length indexes → (inner : ℕ) (q : TypePart) → Some (inner, q) ≡ option_map saturated_place (part_at t p (literal t (get_or indexes i 0)))
      → option_map saturated_place (reached t (start, p) (drop i indexes)) ≡ result
      → option_map saturated_place (reached t (min (start + inner) (2 ^ 64 - 1), q) (drop (i + 1) indexes)) ≡ result
  reached_step lt inner q is e = by (part_at t p (literal t (get_or indexes i 0))) refl is
    where
      rest : List ℕ
      rest = drop (i + 1) indexes

      f : option_map saturated_place (reached t (start, p) (get_or indexes i 0 ∷ rest)) ≡ result
      f = rw (drop_more indexes i 0 lt) at e

      by : (o : Option (ℕ × TypePart)) → part_at t p (literal t (get_or indexes i 0)) ≡ o → Some (inner, q) ≡ option_map saturated_place o
          → option_map saturated_place (reached t (min (start + inner) (2 ^ 64 - 1), q) rest) ≡ result
      by None a g = absurd (cc)
      by (Some x) a g =
          let same : q ≡ x.1 = ap (λ (y : Option (ℕ × TypePart)). option_map_or (λ (z : ℕ × TypePart). z.1) y q) g in
          let stopped : inner ≡ saturated x.0 = ap (λ (y : Option (ℕ × TypePart)). option_map_or (λ (z : ℕ × TypePart). z.0) y inner) g in
          let sums : saturated (min (start + inner) (2 ^ 64 - 1)) ≡ saturated (start + x.0) = omega (arith, stopped) in
          let h : option_map saturated_place (reached t (start + x.0, x.1) rest) ≡ result = rw a at f in
          ap (λ (y : TypePart). option_map saturated_place (reached t (min (start + inner) (2 ^ 64 - 1), y) rest)) same
          ∙ reached_saturated t (min (start + inner) (2 ^ 64 - 1)) (start + x.0) x.1 rest sums ∙ h

  pub reached_none : i < length indexes → None ≡ option_map saturated_place (part_at t p (literal t (get_or indexes i 0)))
      → option_map saturated_place (reached t (start, p) (drop i indexes)) ≡ result → None ≡ result
  reached_none lt is e = by (part_at t p (literal t (get_or indexes i 0))) refl is
    where
      f : option_map saturated_place (reached t (start, p) (get_or indexes i 0 ∷ drop (i + 1) indexes)) ≡ result
      f = rw (drop_more indexes i 0 lt) at e

      by : (o : Option (ℕ × TypePart)) → part_at t p (literal t (get_or indexes i 0)) ≡ o → None ≡ option_map saturated_place o → None ≡ result
      by None a g = rw a at f
      by (Some x) a g = absurd (cc)

  pub reached_all : length indexes ≤ i → start < 2 ^ 64 → option_map saturated_place (reached t (start, p) (drop i indexes)) ≡ result → Some (start, p) ≡ result
  reached_all le small e =
      let none : drop i indexes ≡ [] = drop_of_length-le indexes le in
      let f : Some (saturated start, p) ≡ result = rw none at e in
      ap (λ (n : ℕ). Some (n, p)) (sym (unsaturated start small)) ∙ f
