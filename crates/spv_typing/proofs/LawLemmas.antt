-- The tests of operand types against what they say.
use Rattle.std.proofs.Common.{◌≡◌, ◌∙◌, ℕ, ◌*◌, ◌≤◌, ◌==◌, Bool, true, false, [], ◌∷◌, Option, Some, None, refl, sym, ap, arith, inl, inr}
use Rattle.std.specs.Prelude.{◌&&◌, ◌||◌, not, nat_le, ◌↔◌}
use Rattle.std.specs.Option.{option_and_then, option_map_or}
use Rattle.spv_types.specs.declared.forms.Form.{Form}
use Rattle.spv_types.specs.declared.forms.Form.TheVariants.{Void, Bool as FormBool, Int as FormInt, Vector, Array, Runtime, Struct, Pointer, Function}
use Rattle.spv_types.specs.declared.forms.Member.{Member}
use Rattle.spv_types.specs.Types.{Types, form_of}
use Rattle.spv_types.proofs.Exports.{impossible}
use Rattle.std.proofs.lemmas.Bool.{and_from, leb-true, eqb-true, and_parts, or_right, le-leb, eq-eqb, or_cases}
use Rattle.spv_base.proofs.Exports.{same_number, holds_is}
use Rattle.spv_base.specs.Options.{holds as is_held}
use Rattle.spv_typing.specs.declared.lanes.Element.{Element}
use Rattle.spv_typing.specs.declared.lanes.Element.TheVariants.{Bool as Boolean, Int}
use Rattle.spv_typing.specs.declared.lanes.Lanes.{Lanes}
use Rattle.spv_typing.specs.Lanes.{lanes_at, lanes_of, are_booleans, are_integers, are_several, is_boolean, is_integer, is_single, repeated, same_count, same_element, same_lanes, same_size}
use Rattle.spv_typing.specs.Fitting.{fits, fits_rule, is_selectable, are_counted, fits_bitcast, fits_boolean, fits_booleans, fits_clamp, fits_compare, fits_convert, fits_extended, fits_integer, fits_integers, fits_reduce, fits_shift, is_condition, is_boolean_vector, is_field, is_one_boolean, is_one_integer, is_pair_of}
use Rattle.spv_typing.specs.declared.rules.Rule.{Rule}
use Rattle.spv_typing.specs.declared.rules.Rule.TheVariants.{Convert, Bitcast, Integer, Integers, Clamp, Shift, Boolean as OneBoolean, Booleans, Reduce, Compare, Extended, Select, InsertField, ExtractField}
use Rattle.spv_typing.specs.Rules.{is_constant_operation, is_constant_rule, operand_count, rule_count, rule_of}
use Rattle.spv_typing.specs.Glsl.{fits_glsl, glsl_rule}
use Rattle.spv_typing.specs.Laws.{IsCondition, IsTyped, booleans, integers}
use Rattle.spv_typing.specs.Operands.{operand_type, types_by}

-- ---- tests and numbers

-- ---- lanes

element_is : (e f : Element) → same_element e f ≡ true → e ≡ f
element_is Boolean Boolean h = refl
element_is Boolean (Int width) h = cc
element_is (Int width) Boolean h = cc
element_is (Int width) (Int other) h = ap Int (eqb-true width other h)

lanes_are : (n m : ℕ) (e f : Element) → n ≡ m → e ≡ f → repeated n e ≡ repeated m f
lanes_are n m e f p q = rw (p, q) refl

same_are : (a b : Option Lanes) → same_lanes a b ≡ true → a ≡ b
same_are None b h = cc
same_are (Some a) None h = cc
same_are (Some a) (Some b) h =
    let p = and_parts (a.count == b.count) (same_element a.element b.element) h in
    ap Some (lanes_are a.count b.count a.element b.element (eqb-true a.count b.count p.0) (element_is a.element b.element p.1))

integers_same : (n w : ℕ) → same_lanes (integers n w) (integers n w) ≡ true
integers_same n w = and_from (n == n) (w == w) (same_number n) (same_number w)

booleans_same : (n : ℕ) → same_lanes (booleans n) (booleans n) ≡ true
booleans_same n = and_from (n == n) true (same_number n) refl

are_ints : (a : Option Lanes) → are_integers a ≡ true → (n : ℕ) × (w : ℕ) × (a ≡ integers n w)
are_ints None h = (0, 0, cc)
are_ints (Some a) h = element a.count a.element h
  where
    element : (n : ℕ) (e : Element) → is_integer e ≡ true → (m : ℕ) × (w : ℕ) × (Some (repeated n e) ≡ integers m w)
    element n Boolean h = (n, n, cc)
    element n (Int width) h = (n, width, refl)

are_bools : (a : Option Lanes) → are_booleans a ≡ true → (n : ℕ) × (a ≡ booleans n)
are_bools None h = (0, cc)
are_bools (Some a) h = element a.count a.element h
  where
    element : (n : ℕ) (e : Element) → is_boolean e ≡ true → (m : ℕ) × (Some (repeated n e) ≡ booleans m)
    element n Boolean h = (n, refl)
    element n (Int width) h = (n, cc)

counted_is : (n : ℕ) (e : Element) (a : Option Lanes) → are_counted (Some (repeated n e)) a ≡ true → (v : ℕ) × (a ≡ integers n v)
counted_is n e a h =
    let p = and_parts (are_integers a) (same_count a (Some (repeated n e))) h in
    let q = are_ints a p.0 in
    (q.1, as_many q.0 q.1 a q.2 p.1)
  where
    as_many : (m v : ℕ) (a : Option Lanes) → a ≡ integers m v → same_count a (Some (repeated n e)) ≡ true → a ≡ integers n v
    as_many m v a f h = f ∙ ap (λ k. integers k v) (eqb-true m n (rw f at h))

counted_by : (n w : ℕ) (r a : Option Lanes) → r ≡ integers n w → are_counted r a ≡ true → (v : ℕ) × (a ≡ integers n v)
counted_by n w r a e h = counted_is n (Int w) a (rw e at h)

single_is : (n : ℕ) (e : Element) (a : Option Lanes) → a ≡ Some (repeated n e) → is_single a ≡ true → n ≡ 1
single_is n e a f h = eqb-true n 1 (rw f at h)

several_are : (n : ℕ) (e : Element) (a : Option Lanes) → a ≡ Some (repeated n e) → are_several a ≡ true → 2 ≤ n
several_are n e a f h = leb-true 2 n (rw f at h)

one_boolean : (a : Option Lanes) → is_one_boolean a ≡ true → a ≡ booleans 1
one_boolean a h =
    let p = and_parts (are_booleans a) (is_single a) h in
    let q = are_bools a p.0 in
    q.1 ∙ ap booleans (single_is q.0 Boolean a q.1 p.1)

one_integer : (a : Option Lanes) → is_one_integer a ≡ true → (w : ℕ) × (a ≡ integers 1 w)
one_integer a h =
    let p = and_parts (are_integers a) (is_single a) h in
    let q = are_ints a p.0 in
    (q.1, q.2 ∙ ap (λ k. integers k q.1) (single_is q.0 (Int q.1) a q.2 p.1))

boolean_vector : (a : Option Lanes) → is_boolean_vector a ≡ true → (n : ℕ) × (2 ≤ n) × (a ≡ booleans n)
boolean_vector a h =
    let p = and_parts (are_booleans a) (are_several a) h in
    let q = are_bools a p.0 in
    (q.0, several_are q.0 Boolean a q.1 p.1, q.1)

as_many_as : (n : ℕ) (r : Option Lanes) → same_count (booleans n) r ≡ true → (e : Element) × (r ≡ Some (repeated n e))
as_many_as n None h = (Boolean, cc)
as_many_as n (Some r) h = (r.element, ap Some (lanes_are r.count n r.element r.element (sym (eqb-true n r.count h)) refl))

-- ---- what each test says

convert_says : (r a : Option Lanes) → fits_convert r a ≡ true → (n : ℕ) × (w : ℕ) × (v : ℕ) × (r ≡ integers n w) × (a ≡ integers n v)
convert_says r a h =
    let p = and_parts (are_integers r) (are_counted r a) h in
    let q = are_ints r p.0 in
    let c = counted_by q.0 q.1 r a q.2 p.1 in
    (q.0, q.1, c.0, q.2, c.1)

bitcast_says : (r a : Option Lanes) → fits_bitcast r a ≡ true → (n : ℕ) × (w : ℕ) × (m : ℕ) × (v : ℕ) × (r ≡ integers n w) × (a ≡ integers m v) × (m * v ≡ n * w)
bitcast_says r a h =
    let p = and_parts (are_integers r && are_integers a) (same_size a r) h in
    let k = and_parts (are_integers r) (are_integers a) p.0 in
    let q = are_ints r k.0 in
    let s = are_ints a k.1 in
    (q.0, q.1, s.0, s.1, q.2, s.2, size q.0 q.1 s.0 s.1 r a q.2 s.2 p.1)
  where
    size : (n w m v : ℕ) (r a : Option Lanes) → r ≡ integers n w → a ≡ integers m v → same_size a r ≡ true → m * v ≡ n * w
    size n w m v r a e f h = eqb-true (m * v) (n * w) (rw (e, f) at h)

integer_says : (r a : Option Lanes) → fits_integer r a ≡ true → (n : ℕ) × (w : ℕ) × (r ≡ integers n w) × (a ≡ integers n w)
integer_says r a h =
    let p = and_parts (are_integers r) (same_lanes a r) h in
    let q = are_ints r p.0 in
    (q.0, q.1, q.2, same_are a r p.1 ∙ q.2)

integers_say : (r a b : Option Lanes) → fits_integers r a b ≡ true → (n : ℕ) × (w : ℕ) × (r ≡ integers n w) × (a ≡ integers n w) × (b ≡ integers n w)
integers_say r a b h =
    let p = and_parts (fits_integer r a) (same_lanes b r) h in
    let q = integer_says r a p.0 in
    (q.0, q.1, q.2, q.3, same_are b r p.1 ∙ q.2)

clamp_says : (r a b c : Option Lanes) → fits_clamp r a b c ≡ true → (n : ℕ) × (w : ℕ) × (r ≡ integers n w) × (a ≡ integers n w) × (b ≡ integers n w) × (c ≡ integers n w)
clamp_says r a b c h =
    let p = and_parts (fits_integers r a b) (same_lanes c r) h in
    let q = integers_say r a b p.0 in
    (q.0, q.1, q.2, q.3, q.4, same_are c r p.1 ∙ q.2)

shift_says : (r a b : Option Lanes) → fits_shift r a b ≡ true → (n : ℕ) × (w : ℕ) × (v : ℕ) × (r ≡ integers n w) × (a ≡ integers n w) × (b ≡ integers n v)
shift_says r a b h =
    let p = and_parts (fits_integer r a) (are_counted r b) h in
    let q = integer_says r a p.0 in
    let c = counted_by q.0 q.1 r b q.2 p.1 in
    (q.0, q.1, c.0, q.2, q.3, c.1)

boolean_says : (r a : Option Lanes) → fits_boolean r a ≡ true → (n : ℕ) × (r ≡ booleans n) × (a ≡ booleans n)
boolean_says r a h =
    let p = and_parts (are_booleans r) (same_lanes a r) h in
    let q = are_bools r p.0 in
    (q.0, q.1, same_are a r p.1 ∙ q.1)

booleans_say : (r a b : Option Lanes) → fits_booleans r a b ≡ true → (n : ℕ) × (r ≡ booleans n) × (a ≡ booleans n) × (b ≡ booleans n)
booleans_say r a b h =
    let p = and_parts (fits_boolean r a) (same_lanes b r) h in
    let q = boolean_says r a p.0 in
    (q.0, q.1, q.2, same_are b r p.1 ∙ q.1)

reduce_says : (r a : Option Lanes) → fits_reduce r a ≡ true → (n : ℕ) × (2 ≤ n) × (r ≡ booleans 1) × (a ≡ booleans n)
reduce_says r a h =
    let p = and_parts (is_one_boolean r) (is_boolean_vector a) h in
    let q = boolean_vector a p.1 in
    (q.0, q.1, one_boolean r p.0, q.2)

compare_says : (r a b : Option Lanes) → fits_compare r a b ≡ true → (n : ℕ) × (w : ℕ) × (r ≡ booleans n) × (a ≡ integers n w) × (b ≡ integers n w)
compare_says r a b h =
    let p = and_parts (are_booleans r) (are_counted r a && same_lanes b a) h in
    let k = and_parts (are_counted r a) (same_lanes b a) p.1 in
    let q = are_bools r p.0 in
    let c = counted q.0 r a q.1 k.0 in
    (q.0, c.0, q.1, c.1, same_are b a k.1 ∙ c.1)
  where
    counted : (n : ℕ) (r a : Option Lanes) → r ≡ booleans n → are_counted r a ≡ true → (v : ℕ) × (a ≡ integers n v)
    counted n r a e h = counted_is n Boolean a (rw e at h)

condition_says : (r c : Option Lanes) → is_condition r c ≡ true → IsCondition r c
condition_says r c h = elim (or_cases (is_one_boolean c) (is_boolean_vector c && same_count c r) h) [ inl one ↦ inl (one_boolean c one) | inr each ↦ inr (by_components each) ]
  where
    counted : (n : ℕ) → c ≡ booleans n → same_count c r ≡ true → (e : Element) × (r ≡ Some (repeated n e))
    counted n e h = as_many_as n r (rw e at h)

    by_components : (is_boolean_vector c && same_count c r) ≡ true → (n : ℕ) × (e : Element) × (2 ≤ n) × (c ≡ booleans n) × (r ≡ Some (repeated n e))
    by_components h =
        let p = and_parts (is_boolean_vector c) (same_count c r) h in
        let q = boolean_vector c p.0 in
        let k = counted q.0 q.2 p.1 in
        (q.0, k.0, q.1, q.2, k.1)

pair_says : (ty : ℕ) (f : Option Form) → is_pair_of ty f ≡ true → (a : Member) × (b : Member) × (block : Bool) × (f ≡ Some (Struct (a ∷ b ∷ []) block)) × (a.ty ≡ ty) × (b.ty ≡ ty)
pair_says ty None h = impossible h
pair_says ty (Some Void) h = impossible h
pair_says ty (Some FormBool) h = impossible h
pair_says ty (Some (FormInt width sign)) h = impossible h
pair_says ty (Some (Vector component count)) h = impossible h
pair_says ty (Some (Array element length stride)) h = impossible h
pair_says ty (Some (Runtime element stride)) h = impossible h
pair_says ty (Some (Struct [] block)) h = impossible h
pair_says ty (Some (Struct (a ∷ []) block)) h = impossible h
pair_says ty (Some (Struct (a ∷ b ∷ []) block)) h =
    let p = and_parts (a.ty == ty) (b.ty == ty) h in
    (a, b, block, refl, eqb-true a.ty ty p.0, eqb-true b.ty ty p.1)
pair_says ty (Some (Struct (a ∷ b ∷ c ∷ ms) block)) h = impossible h
pair_says ty (Some (Pointer class target)) h = impossible h
pair_says ty (Some (Function returns parameters)) h = impossible h

holding : (t : ℕ) (o : Option ℕ) → o ≡ Some t → is_held t o ≡ true
holding t o e = rw e (same_number t)

extended_says : (ts : Types) (r : ℕ) (x y : Option ℕ) → fits_extended ts r x y ≡ true
    → (t : ℕ) × (n : ℕ) × (w : ℕ) × (a : Member) × (b : Member) × (block : Bool) × (x ≡ Some t) × (lanes_of ts t ≡ integers n w) × (y ≡ Some t) × (form_of ts r ≡ Some (Struct (a ∷ b ∷ []) block)) × (a.ty ≡ t) × (b.ty ≡ t)
extended_says ts r None y h = impossible h
extended_says ts r (Some t) y h =
    let p = and_parts (are_integers (lanes_of ts t) && is_held t y) (is_pair_of t (form_of ts r)) h in
    let k = and_parts (are_integers (lanes_of ts t)) (is_held t y) p.0 in
    let q = are_ints (lanes_of ts t) k.0 in
    let s = pair_says t (form_of ts r) p.1 in
    (t, q.0, q.1, s.0, s.1, s.2, refl, q.2, holds_is t y k.1, s.3, s.4, s.5)

-- ---- what gives each test

convert_holds : (n w v : ℕ) (r a : Option Lanes) → r ≡ integers n w → a ≡ integers n v → fits_convert r a ≡ true
convert_holds n w v r a e f = rw (e, f) (same_number n)

bitcast_holds : (n w m v : ℕ) (r a : Option Lanes) → r ≡ integers n w → a ≡ integers m v → m * v ≡ n * w → fits_bitcast r a ≡ true
bitcast_holds n w m v r a e f g = rw (e, f) (eq-eqb (m * v) (n * w) g)

integer_holds : (n w : ℕ) (r a : Option Lanes) → r ≡ integers n w → a ≡ integers n w → fits_integer r a ≡ true
integer_holds n w r a e f = rw (e, f) (integers_same n w)

integers_hold : (n w : ℕ) (r a b : Option Lanes) → r ≡ integers n w → a ≡ integers n w → b ≡ integers n w → fits_integers r a b ≡ true
integers_hold n w r a b e f g = and_from (fits_integer r a) (same_lanes b r) (integer_holds n w r a e f) (rw (e, g) (integers_same n w))

clamp_holds : (n w : ℕ) (r a b c : Option Lanes) → r ≡ integers n w → a ≡ integers n w → b ≡ integers n w → c ≡ integers n w → fits_clamp r a b c ≡ true
clamp_holds n w r a b c e f g h = and_from (fits_integers r a b) (same_lanes c r) (integers_hold n w r a b e f g) (rw (e, h) (integers_same n w))

shift_holds : (n w v : ℕ) (r a b : Option Lanes) → r ≡ integers n w → a ≡ integers n w → b ≡ integers n v → fits_shift r a b ≡ true
shift_holds n w v r a b e f g = and_from (fits_integer r a) (are_counted r b) (integer_holds n w r a e f) (rw (e, g) (same_number n))

boolean_holds : (n : ℕ) (r a : Option Lanes) → r ≡ booleans n → a ≡ booleans n → fits_boolean r a ≡ true
boolean_holds n r a e f = rw (e, f) (booleans_same n)

booleans_hold : (n : ℕ) (r a b : Option Lanes) → r ≡ booleans n → a ≡ booleans n → b ≡ booleans n → fits_booleans r a b ≡ true
booleans_hold n r a b e f g = and_from (fits_boolean r a) (same_lanes b r) (boolean_holds n r a e f) (rw (e, g) (booleans_same n))

reduce_holds : (n : ℕ) (r a : Option Lanes) → 2 ≤ n → r ≡ booleans 1 → a ≡ booleans n → fits_reduce r a ≡ true
reduce_holds n r a l e f = rw (e, f) (le-leb 2 n l)

compare_holds : (n w : ℕ) (r a b : Option Lanes) → r ≡ booleans n → a ≡ integers n w → b ≡ integers n w → fits_compare r a b ≡ true
compare_holds n w r a b e f g = rw (e, f, g) (and_from (n == n) (same_lanes (integers n w) (integers n w)) (same_number n) (integers_same n w))

condition_holds : (r c : Option Lanes) → IsCondition r c → is_condition r c ≡ true
condition_holds r c (inl one) = rw one refl
condition_holds r c (inr each) = or_right (is_one_boolean c) (is_boolean_vector c && same_count c r) (by_components each.0 each.1 each.2 each.3 each.4)
  where
    by_components : (n : ℕ) (e : Element) → 2 ≤ n → c ≡ booleans n → r ≡ Some (repeated n e) → (is_boolean_vector c && same_count c r) ≡ true
    by_components n e l f g = rw (f, g) (and_from (nat_le 2 n) (n == n) (le-leb 2 n l) (same_number n))

pair_holds : (ty : ℕ) (f : Option Form) (a b : Member) (block : Bool) → f ≡ Some (Struct (a ∷ b ∷ []) block) → a.ty ≡ ty → b.ty ≡ ty → is_pair_of ty f ≡ true
pair_holds ty f a b block e g h = rw e (and_from (a.ty == ty) (b.ty == ty) (eq-eqb a.ty ty g) (eq-eqb b.ty ty h))

field_holds : (w v : ℕ) (a b : Option Lanes) → a ≡ integers 1 w → b ≡ integers 1 v → is_field a b ≡ true
field_holds w v a b e f = rw (e, f) refl

-- ---- the rules

says : (ts : Types) (rule : Rule) (r : ℕ) (ty : ℕ → Option ℕ) → fits_rule ts rule r ty ≡ true → IsTyped ts rule r ty
says ts Convert r ty h = convert_says (lanes_of ts r) (lanes_at ts (ty 0)) h
says ts Bitcast r ty h = bitcast_says (lanes_of ts r) (lanes_at ts (ty 0)) h
says ts Integer r ty h = integer_says (lanes_of ts r) (lanes_at ts (ty 0)) h
says ts Integers r ty h = integers_say (lanes_of ts r) (lanes_at ts (ty 0)) (lanes_at ts (ty 1)) h
says ts Clamp r ty h = clamp_says (lanes_of ts r) (lanes_at ts (ty 0)) (lanes_at ts (ty 1)) (lanes_at ts (ty 2)) h
says ts Shift r ty h = shift_says (lanes_of ts r) (lanes_at ts (ty 0)) (lanes_at ts (ty 1)) h
says ts OneBoolean r ty h = boolean_says (lanes_of ts r) (lanes_at ts (ty 0)) h
says ts Booleans r ty h = booleans_say (lanes_of ts r) (lanes_at ts (ty 0)) (lanes_at ts (ty 1)) h
says ts Reduce r ty h = reduce_says (lanes_of ts r) (lanes_at ts (ty 0)) h
says ts Compare r ty h = compare_says (lanes_of ts r) (lanes_at ts (ty 0)) (lanes_at ts (ty 1)) h
says ts Extended r ty h = extended_says ts r (ty 0) (ty 1) h
says ts Select r ty h =
    let p = and_parts (is_selectable (form_of ts r) && (is_held r (ty 1) && is_held r (ty 2))) (is_condition (lanes_of ts r) (lanes_at ts (ty 0))) h in
    let k = and_parts (is_selectable (form_of ts r)) (is_held r (ty 1) && is_held r (ty 2)) p.0 in
    let q = and_parts (is_held r (ty 1)) (is_held r (ty 2)) k.1 in
    (k.0, holds_is r (ty 1) q.0, holds_is r (ty 2) q.1, condition_says (lanes_of ts r) (lanes_at ts (ty 0)) p.1)
says ts InsertField r ty h =
    let p = and_parts (fits_integers (lanes_of ts r) (lanes_at ts (ty 0)) (lanes_at ts (ty 1))) (is_field (lanes_at ts (ty 2)) (lanes_at ts (ty 3))) h in
    let q = integers_say (lanes_of ts r) (lanes_at ts (ty 0)) (lanes_at ts (ty 1)) p.0 in
    let k = and_parts (is_one_integer (lanes_at ts (ty 2))) (is_one_integer (lanes_at ts (ty 3))) p.1 in
    let v = one_integer (lanes_at ts (ty 2)) k.0 in
    let u = one_integer (lanes_at ts (ty 3)) k.1 in
    (q.0, q.1, v.0, u.0, q.2, q.3, q.4, v.1, u.1)
says ts ExtractField r ty h =
    let p = and_parts (fits_integer (lanes_of ts r) (lanes_at ts (ty 0))) (is_field (lanes_at ts (ty 1)) (lanes_at ts (ty 2))) h in
    let q = integer_says (lanes_of ts r) (lanes_at ts (ty 0)) p.0 in
    let k = and_parts (is_one_integer (lanes_at ts (ty 1))) (is_one_integer (lanes_at ts (ty 2))) p.1 in
    let v = one_integer (lanes_at ts (ty 1)) k.0 in
    let u = one_integer (lanes_at ts (ty 2)) k.1 in
    (q.0, q.1, v.0, u.0, q.2, q.3, v.1, u.1)

holds : (ts : Types) (rule : Rule) (r : ℕ) (ty : ℕ → Option ℕ) → IsTyped ts rule r ty → fits_rule ts rule r ty ≡ true
holds ts Convert r ty t = convert_holds t.0 t.1 t.2 (lanes_of ts r) (lanes_at ts (ty 0)) t.3 t.4
holds ts Bitcast r ty t = bitcast_holds t.0 t.1 t.2 t.3 (lanes_of ts r) (lanes_at ts (ty 0)) t.4 t.5 t.6
holds ts Integer r ty t = integer_holds t.0 t.1 (lanes_of ts r) (lanes_at ts (ty 0)) t.2 t.3
holds ts Integers r ty t = integers_hold t.0 t.1 (lanes_of ts r) (lanes_at ts (ty 0)) (lanes_at ts (ty 1)) t.2 t.3 t.4
holds ts Clamp r ty t = clamp_holds t.0 t.1 (lanes_of ts r) (lanes_at ts (ty 0)) (lanes_at ts (ty 1)) (lanes_at ts (ty 2)) t.2 t.3 t.4 t.5
holds ts Shift r ty t = shift_holds t.0 t.1 t.2 (lanes_of ts r) (lanes_at ts (ty 0)) (lanes_at ts (ty 1)) t.3 t.4 t.5
holds ts OneBoolean r ty t = boolean_holds t.0 (lanes_of ts r) (lanes_at ts (ty 0)) t.1 t.2
holds ts Booleans r ty t = booleans_hold t.0 (lanes_of ts r) (lanes_at ts (ty 0)) (lanes_at ts (ty 1)) t.1 t.2 t.3
holds ts Reduce r ty t = reduce_holds t.0 (lanes_of ts r) (lanes_at ts (ty 0)) t.1 t.2 t.3
holds ts Compare r ty t = compare_holds t.0 t.1 (lanes_of ts r) (lanes_at ts (ty 0)) (lanes_at ts (ty 1)) t.2 t.3 t.4
holds ts Extended r ty t = rw t.6 (and_from (are_integers (lanes_of ts t.0) && is_held t.0 (ty 1)) (is_pair_of t.0 (form_of ts r))
    (and_from (are_integers (lanes_of ts t.0)) (is_held t.0 (ty 1)) (rw t.7 refl) (holding t.0 (ty 1) t.8))
    (pair_holds t.0 (form_of ts r) t.3 t.4 t.5 t.9 t.10 t.11))
holds ts Select r ty t =
    and_from (is_selectable (form_of ts r) && (is_held r (ty 1) && is_held r (ty 2))) (is_condition (lanes_of ts r) (lanes_at ts (ty 0)))
    (and_from (is_selectable (form_of ts r)) (is_held r (ty 1) && is_held r (ty 2)) t.0 (and_from (is_held r (ty 1)) (is_held r (ty 2)) (holding r (ty 1) t.1) (holding r (ty 2) t.2)))
    (condition_holds (lanes_of ts r) (lanes_at ts (ty 0)) t.3)
holds ts InsertField r ty t =
    and_from (fits_integers (lanes_of ts r) (lanes_at ts (ty 0)) (lanes_at ts (ty 1))) (is_field (lanes_at ts (ty 2)) (lanes_at ts (ty 3)))
    (integers_hold t.0 t.1 (lanes_of ts r) (lanes_at ts (ty 0)) (lanes_at ts (ty 1)) t.4 t.5 t.6)
    (field_holds t.2 t.3 (lanes_at ts (ty 2)) (lanes_at ts (ty 3)) t.7 t.8)
holds ts ExtractField r ty t =
    and_from (fits_integer (lanes_of ts r) (lanes_at ts (ty 0))) (is_field (lanes_at ts (ty 1)) (lanes_at ts (ty 2)))
    (integer_holds t.0 t.1 (lanes_of ts r) (lanes_at ts (ty 0)) t.4 t.5)
    (field_holds t.2 t.3 (lanes_at ts (ty 1)) (lanes_at ts (ty 2)) t.6 t.7)

pub rule_is : (ts : Types) (op r : ℕ) (ty : ℕ → Option ℕ) → (fits ts op r ty ≡ true) ↔ ((rule : Rule) × (rule_of op ≡ Some rule) × IsTyped ts rule r ty)
rule_is ts op r ty = (found (rule_of op), back)
  where
    found : (o : Option Rule) → option_map_or (λ rule. fits_rule ts rule r ty) o false ≡ true → (rule : Rule) × (o ≡ Some rule) × IsTyped ts rule r ty
    found None h = impossible h
    found (Some rule) h = (rule, refl, says ts rule r ty h)

    back : (rule : Rule) × (rule_of op ≡ Some rule) × IsTyped ts rule r ty → fits ts op r ty ≡ true
    back t = rw t.1 (holds ts t.0 r ty t.2)

pub glsl_rule_is : (ts : Types) (number count r : ℕ) (ty : ℕ → Option ℕ) → (fits_glsl ts number count r ty ≡ true) ↔ ((rule : Rule) × (glsl_rule number ≡ Some rule) × (rule_count rule ≡ Some count) × IsTyped ts rule r ty)
glsl_rule_is ts number count r ty = (found (glsl_rule number), back)
  where
    found : (o : Option Rule) → option_map_or (λ rule. is_held count (rule_count rule) && fits_rule ts rule r ty) o false ≡ true → (rule : Rule) × (o ≡ Some rule) × (rule_count rule ≡ Some count) × IsTyped ts rule r ty
    found None h = impossible h
    found (Some rule) h =
        let p = and_parts (is_held count (rule_count rule)) (fits_rule ts rule r ty) h in
        (rule, refl, holds_is count (rule_count rule) p.0, says ts rule r ty p.1)

    back : (rule : Rule) × (glsl_rule number ≡ Some rule) × (rule_count rule ≡ Some count) × IsTyped ts rule r ty → fits_glsl ts number count r ty ≡ true
    back t = rw t.1 (and_from (is_held count (rule_count t.0)) (fits_rule ts t.0 r ty) (holding count (rule_count t.0) t.2) (holds ts t.0 r ty t.3))

pub constants_have_operands : (op : ℕ) → is_constant_operation op ≡ true → (n : ℕ) × (operand_count op ≡ Some n) × (1 ≤ n) × (n ≤ 3)
constants_have_operands op h = counted (rule_of op) (and_parts (option_map_or is_constant_rule (rule_of op) false) (not (op == 204 || op == 205)) h).0
  where
    counted : (o : Option Rule) → option_map_or is_constant_rule o false ≡ true → (n : ℕ) × (option_and_then rule_count o ≡ Some n) × (1 ≤ n) × (n ≤ 3)
    counted None h = impossible h
    counted (Some Convert) h = (1, refl, omega arith, omega arith)
    counted (Some Bitcast) h = impossible h
    counted (Some Integer) h = (1, refl, omega arith, omega arith)
    counted (Some Integers) h = (2, refl, omega arith, omega arith)
    counted (Some Clamp) h = impossible h
    counted (Some Shift) h = (2, refl, omega arith, omega arith)
    counted (Some OneBoolean) h = (1, refl, omega arith, omega arith)
    counted (Some Booleans) h = (2, refl, omega arith, omega arith)
    counted (Some Reduce) h = impossible h
    counted (Some Compare) h = (2, refl, omega arith, omega arith)
    counted (Some Extended) h = impossible h
    counted (Some Select) h = (3, refl, omega arith, omega arith)
    counted (Some InsertField) h = impossible h
    counted (Some ExtractField) h = impossible h

-- ---- only the first four operands are asked for

rule_by : (ts : Types) (rule : Rule) (r : ℕ) (ty : ℕ → Option ℕ) → fits_rule ts rule r (operand_type (types_by ty)) ≡ fits_rule ts rule r ty
rule_by ts rule r ty = grind arith

pub fits_by : (ts : Types) (op r : ℕ) (ty : ℕ → Option ℕ) → fits ts op r (operand_type (types_by ty)) ≡ fits ts op r ty
fits_by ts op r ty = found (rule_of op)
  where
    found : (o : Option Rule) → option_map_or (λ rule. fits_rule ts rule r (operand_type (types_by ty))) o false ≡ option_map_or (λ rule. fits_rule ts rule r ty) o false
    found None = refl
    found (Some rule) = rule_by ts rule r ty

pub fits_glsl_by : (ts : Types) (number count r : ℕ) (ty : ℕ → Option ℕ) → fits_glsl ts number count r (operand_type (types_by ty)) ≡ fits_glsl ts number count r ty
fits_glsl_by ts number count r ty = found (glsl_rule number)
  where
    found : (o : Option Rule) → option_map_or (λ rule. is_held count (rule_count rule) && fits_rule ts rule r (operand_type (types_by ty))) o false ≡ option_map_or (λ rule. is_held count (rule_count rule) && fits_rule ts rule r ty) o false
    found None = refl
    found (Some rule) = rw (rule_by ts rule r ty) refl
