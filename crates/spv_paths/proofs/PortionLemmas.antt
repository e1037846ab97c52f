-- Portions by their bits, where numbers of bits stop at the greatest of 64 bits.
use Rattle.std.proofs.Common.{◌≡◌, ◌∙◌, ℕ, zero, suc, ◌+◌, ◌-◌, ◌*◌, ◌/◌, ◌^◌, ◌<◌, ◌≤◌, ◌==◌, ◌&&◌, nat_lt, Bool, true, false, List, length, get_or, drop, Option, Some, None, refl, sym, ap, eqb-true, arith}
use Rattle.std.specs.Prelude.{if◌then◌else◌, min, option_map}
use Rattle.std.specs.Option.{option_and_then, option_map_or, option_or}
use Rattle.std.proofs.Math.Nat.{div-div-eq-div-mul, div-one, div-zero}
use Rattle.std.proofs.lemmas.Bool.{lt-ltb}
use Rattle.std.proofs.lemmas.List.{drop_more}
use Rattle.spv_base.specs.Saturation.{saturated}
use Rattle.spv_base.proofs.Exports.{saturated-mul}
use Rattle.spv_dbg.specs.Tables.{Tables}
use Rattle.spv_parts.specs.Arrays.{as_array}
use Rattle.spv_parts.specs.Composites.{last_member, member_named, members}
use Rattle.spv_parts.specs.Parts.{TypePart, literal, part_at, part_bits, product}
use Rattle.spv_paths.specs.Kept.{saturated_portion}
use Rattle.spv_paths.specs.Portions.{Portion, element, element_of, elements, end_of, end_within, inner, last_element, last_part, member, member_at, outermost, plain_end, whole_elements, within}

-- ---- whole elements, by one Count after the other

whole_is : (bits each : ℕ) → whole_elements bits each ≡ bits / each
whole_is bits each = by (each == 0) refl
  where
    by : (b : Bool) → (each == 0) ≡ b → whole_elements bits each ≡ bits / each
    by true e = let none : each ≡ 0 = eqb-true each 0 e in rw (none) (sym (div-zero bits))
    by false e = rw e refl

pub whole_twice : (bits a b : ℕ) → whole_elements (whole_elements bits a) b ≡ whole_elements bits (a * b)
whole_twice bits a b = whole_is (whole_elements bits a) b ∙ ap (λ (k : ℕ). k / b) (whole_is bits a) ∙ div-div-eq-div-mul bits a b ∙ sym (whole_is bits (a * b))

pub whole_more : (t : Tables) (whole i : ℕ) (ids : List ℕ) (result : ℕ) → i < length ids → whole_elements whole (product t (drop i ids)) ≡ result
    → whole_elements (whole_elements whole (literal t (get_or ids i 0))) (product t (drop (i + 1) ids)) ≡ result
whole_more t whole i ids result lt e = whole_twice whole (literal t (get_or ids i 0)) (product t (drop (i + 1) ids)) ∙ rw (drop_more ids i 0 lt) at e

pub whole_one : (bits : ℕ) → whole_elements bits 1 ≡ bits
whole_one bits = whole_is bits 1 ∙ div-one bits

-- ---- an element

pub element_found : (t : Tables) (p : Portion) (array : TypePart) (count k bits before start : ℕ) (part : TypePart) (last : Bool) → k < count → part ≡ inner array → bits ≡ saturated (part_bits t part)
    → before ≡ min (bits * k) (2 ^ 64 - 1) → start ≡ min (p.start + before) (2 ^ 64 - 1) → last ≡ (p.last && (k + 1 == count))
    → Some (record { start = start; part = part; last = last }) ≡ option_map saturated_portion (element_of t p array count k)
element_found t p array count k bits before start part last lt is are so_far begins ends =
    let each = part_bits t (inner array) in
    let same : bits ≡ saturated each = are ∙ ap (λ (x : TypePart). saturated (part_bits t x)) is in
    let passed : before ≡ saturated (each * k) = so_far ∙ ap (λ (n : ℕ). min (n * k) (2 ^ 64 - 1)) same ∙ saturated-mul each k in
    let sum : saturated (p.start + saturated (each * k)) ≡ saturated (p.start + each * k) = shifted p.start (each * k) in
    let there : start ≡ saturated (p.start + each * k) = begins ∙ ap (λ (n : ℕ). saturated (p.start + n)) passed ∙ sum in
    rw (lt-ltb k count lt, there, is, ends) refl
  where
    shifted : (a b : ℕ) → saturated (a + saturated b) ≡ saturated (a + b)
    shifted a b = omega arith

-- ---- from a start that stops at the greatest of 64 bits

again : (n : ℕ) → saturated (saturated n) ≡ saturated n
again n = omega arith

added : (a b : ℕ) → saturated (saturated a + b) ≡ saturated (a + b)
added a b = omega arith

left_same : (bits start : ℕ) → bits < 2 ^ 64 → bits - saturated start ≡ bits - start
left_same bits start small = omega arith

pub same_portions : (x y : Portion) → Some (saturated_portion x) ≡ Some (saturated_portion y) → saturated_portion x ≡ saturated_portion y
same_portions x y e = ap (λ (o : Option Portion). option_map_or (λ (p : Portion). p) o (saturated_portion x)) e

or_same : (a b x y : Option Portion) → option_map saturated_portion a ≡ option_map saturated_portion x → option_map saturated_portion b ≡ option_map saturated_portion y
    → option_map saturated_portion (option_or a b) ≡ option_map saturated_portion (option_or x y)
or_same None b None y e f = f
or_same None b (Some x) y e f = absurd (cc)
or_same (Some a) b None y e f = absurd (cc)
or_same (Some a) b (Some x) y e f = e

none_ends : (f : Portion → ℕ) (d result : ℕ) (b : Bool) (o : Option Portion) → None ≡ option_map saturated_portion o → saturated (if b then option_map_or f o d else d) ≡ result → saturated d ≡ result
none_ends f d result b (Some x) g e = absurd (cc)
none_ends f d result true None g e = e
none_ends f d result false None g e = e

some_ends : (f : Portion → ℕ) (d result : ℕ) (b : Bool) (o : Option Portion) (q : Portion) → b ≡ true → Some q ≡ option_map saturated_portion o → saturated (if b then option_map_or f o d else d) ≡ result
    → (x : Portion) × (q ≡ saturated_portion x) × (saturated (f x) ≡ result)
some_ends f d result false o q is g e = absurd (cc)
some_ends f d result true None q is g e = absurd (cc)
some_ends f d result true (Some x) q is g e = (x, ap (λ (o : Option Portion). option_map_or (λ (p : Portion). p) o q) g, e)

module _ (t : Tables) (bits : ℕ) (small : bits < 2 ^ 64) where
  elements_same : (p : Portion) (array : TypePart) → elements t bits (saturated_portion p) array ≡ elements t bits p array
  elements_same p array = ap (λ (left : ℕ). if outermost t array == 0 && p.last then whole_elements left (part_bits t (inner array)) else outermost t array) (left_same bits p.start small)

  element_of_same : (p : Portion) (array : TypePart) (count k : ℕ) → option_map saturated_portion (element_of t (saturated_portion p) array count k) ≡ option_map saturated_portion (element_of t p array count k)
  element_of_same p array count k = by (nat_lt k count)
    where
      by : (b : Bool) → option_map saturated_portion (if b then Some (record { start = saturated p.start + part_bits t (inner array) * k; part = inner array; last = p.last && (k + 1 == count) }) else None)
          ≡ option_map saturated_portion (if b then Some (record { start = p.start + part_bits t (inner array) * k; part = inner array; last = p.last && (k + 1 == count) }) else None)
      by true = ap (λ (n : ℕ). Some (record { start = n; part = inner array; last = p.last && (k + 1 == count) })) (added p.start (part_bits t (inner array) * k))
      by false = refl

  -- an element, whose number the count may tell
  elements_of_same : (p : Portion) (number : ℕ → ℕ) (o : Option TypePart)
      → option_map saturated_portion (option_and_then (λ (array : TypePart). element_of t (saturated_portion p) array (elements t bits (saturated_portion p) array) (number (elements t bits (saturated_portion p) array))) o)
      ≡ option_map saturated_portion (option_and_then (λ (array : TypePart). element_of t p array (elements t bits p array) (number (elements t bits p array))) o)
  elements_of_same p number None = refl
  elements_of_same p number (Some array) =
      ap (λ (n : ℕ). option_map saturated_portion (element_of t (saturated_portion p) array n (number n))) (elements_same p array) ∙ element_of_same p array (elements t bits p array) (number (elements t bits p array))

  pub element_same : (p : Portion) (k : ℕ) → option_map saturated_portion (element t bits (saturated_portion p) k) ≡ option_map saturated_portion (element t bits p k)
  element_same p k = elements_of_same p (λ (n : ℕ). k) (as_array t p.part)

  within_same : (p : Portion) (last : Bool) (o : Option (ℕ × TypePart)) → option_map saturated_portion (option_map (within (saturated_portion p) last) o) ≡ option_map saturated_portion (option_map (within p last) o)
  within_same p last None = refl
  within_same p last (Some q) = ap (λ (n : ℕ). Some (record { start = n; part = q.1; last = p.last && last })) (added p.start q.0)

  pub member_same : (p : Portion) (name : List ℕ) → option_map saturated_portion (member t (saturated_portion p) name) ≡ option_map saturated_portion (member t p name)
  member_same p name = by (member_named t p.part name)
    where
      by : (o : Option ℕ) → option_map saturated_portion (option_and_then (member_at t (saturated_portion p)) o) ≡ option_map saturated_portion (option_and_then (member_at t p) o)
      by None = refl
      by (Some i) = within_same p (i + 1 == length (members t p.part)) (part_at t p.part i)

  last_part_same : (p : Portion) → option_map saturated_portion (last_part t bits (saturated_portion p)) ≡ option_map saturated_portion (last_part t bits p)
  last_part_same p = or_same (last_element t bits (saturated_portion p)) (option_map (within (saturated_portion p) true) (last_member t p.part)) (last_element t bits p) (option_map (within p true) (last_member t p.part))
      (elements_of_same p (λ (n : ℕ). n - 1) (as_array t p.part)) (within_same p true (last_member t p.part))

  -- ---- the end

  plain_same : (p : Portion) → saturated (plain_end t (saturated_portion p)) ≡ saturated (plain_end t p)
  plain_same p = added p.start (part_bits t p.part)

  ends_same : (k : ℕ) (p : Portion) → ((q : Portion) → saturated (end_within k t bits (saturated_portion q)) ≡ saturated (end_within k t bits q)) → (a b : Option Portion) → option_map saturated_portion a ≡ option_map saturated_portion b
      → saturated (option_map_or (end_within k t bits) a (plain_end t (saturated_portion p))) ≡ saturated (option_map_or (end_within k t bits) b (plain_end t p))
  ends_same k p same None None e = plain_same p
  ends_same k p same None (Some y) e = absurd (cc)
  ends_same k p same (Some x) None e = absurd (cc)
  ends_same k p same (Some x) (Some y) e = sym (same x) ∙ ap (λ (q : Portion). saturated (end_within k t bits q)) (same_portions x y e) ∙ same y

  end_same : (k : ℕ) (p : Portion) → saturated (end_within k t bits (saturated_portion p)) ≡ saturated (end_within k t bits p)
  end_same zero p = plain_same p
  end_same (suc k) p = by p.last (ends_same k p (λ (q : Portion). end_same k q) (last_part t bits (saturated_portion p)) (last_part t bits p) (last_part_same p))
    where
      by : (b : Bool) → saturated (option_map_or (end_within k t bits) (last_part t bits (saturated_portion p)) (plain_end t (saturated_portion p))) ≡ saturated (option_map_or (end_within k t bits) (last_part t bits p) (plain_end t p))
          → saturated (if b then option_map_or (end_within k t bits) (last_part t bits (saturated_portion p)) (plain_end t (saturated_portion p)) else plain_end t (saturated_portion p))
          ≡ saturated (if b then option_map_or (end_within k t bits) (last_part t bits p) (plain_end t p) else plain_end t p)
      by true e = e
      by false e = plain_same p

  pub end_of_same : (p : Portion) → saturated (end_of t bits (saturated_portion p)) ≡ saturated (end_of t bits p)
  unfolding end_of
  end_of_same p = end_same 64 p

  module _ (n : ℕ) (p : Portion) (result : ℕ) (lt : n < 64) (e : (left : ℕ) → left ≡ 64 - n → saturated (end_within left t bits p) ≡ result) where
    unfolded : saturated (if p.last then option_map_or (end_within (63 - n) t bits) (last_part t bits p) (plain_end t p) else plain_end t p) ≡ result
    unfolded = e (suc (63 - n)) (omega arith)

    pub end_inner : p.last ≡ false → saturated (plain_end t p) ≡ result
    end_inner is = by p.last is unfolded
      where
        by : (b : Bool) → b ≡ false → saturated (if b then option_map_or (end_within (63 - n) t bits) (last_part t bits p) (plain_end t p) else plain_end t p) ≡ result → saturated (plain_end t p) ≡ result
        by true f g = absurd (cc)
        by false f g = g

    pub end_empty : None ≡ option_map saturated_portion (last_part t bits p) → saturated (plain_end t p) ≡ result
    end_empty none = none_ends (end_within (63 - n) t bits) (plain_end t p) result p.last (last_part t bits p) none unfolded

    pub end_next : p.last ≡ true → (q : Portion) → Some q ≡ option_map saturated_portion (last_part t bits p) → (left : ℕ) → left ≡ 64 - (n + 1) → saturated (end_within left t bits q) ≡ result
    end_next is q there left sum =
        let x = some_ends (end_within left t bits) (plain_end t p) result p.last (last_part t bits p) q is there (e (suc left) (omega (arith, sum))) in
        ap (λ (y : Portion). saturated (end_within left t bits y)) x.1 ∙ end_same left x.0 ∙ x.2

pub end_first : (t : Tables) (bits : ℕ) (p : Portion) (left : ℕ) → left ≡ 64 - 0 → saturated (end_within left t bits p) ≡ saturated (end_of t bits p)
unfolding end_of
end_first t bits p left sum = let all : left ≡ 64 = omega (arith, sum) in ap (λ (k : ℕ). saturated (end_within k t bits p)) all

pub end_all : (t : Tables) (bits n : ℕ) (p : Portion) (result : ℕ) → 64 ≤ n → ((left : ℕ) → left ≡ 64 - n → saturated (end_within left t bits p) ≡ result) → saturated (plain_end t p) ≡ result
end_all t bits n p result least e = e 0 (omega (arith, least))
