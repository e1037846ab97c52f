-- How long the rows of values are.
use Rattle.std.proofs.Common.{◌≡◌, ◌∙◌, ℕ, zero, suc, ◌+◌, ◌*◌, ◌<◌, ◌≤◌, ◌==◌, Bool, List, [], ◌∷◌, ◌++◌, length, take, drop, Option, Some, None, refl, sym, ap, subst, arith, slice_get, get_or, append_assoc, append-nil, length-append, inl, inr, ◌⊎◌}
use Rattle.std.specs.Prelude.{if◌then◌else◌, ◌/◌}
use Rattle.std.specs.Option.{IfSome, IsSomeAnd}
use Rattle.std.specs.List.{All, AllZip}
use Rattle.std.proofs.lemmas.Bool.{cases_eq, cases_lt}
use Rattle.std.proofs.lemmas.List.{get_or_append_left, get_or_past, length-take-le, take-append-le, take_all}
use Rattle.std.proofs.lemmas.List.Elements.{All-head, All-tail, All-take}
use Rattle.std.proofs.lemmas.Slice.Zip.{AllZip-long}
use Rattle.std.proofs.Math.Nat.{mul-div_cancel_left}
use Rattle.std.proofs.lemmas.Grind.{flat_map-append}
use Rattle.std.proofs.Math.ListN.{drop_of_length-le}
use Rattle.std.proofs.Math.Seq.{get_or-append_seam, take-append-add}
use Rattle.spv_base.specs.Bits.{cell_bits}
use Rattle.spv_base.specs.Cell.{Cell, IsCell}
use Rattle.spv_base.specs.declared.values.Value.{Value, out-Value}
use Rattle.spv_base.specs.declared.values.Value.TheOpen.{Value-F}
use Rattle.spv_types.proofs.Exports.{scalar_row, many_row, many_is, number_form, found_at}
use Rattle.spv_types.specs.Laws.{AreByForms}
use Rattle.spv_types.specs.Rows.{leaves, no_roots}
use Rattle.spv_types.specs.Shapes.{HasShape, IsScalar, scalar_in}
use Rattle.spv_types.specs.Types.{Types, form_at, form_of, found_among, number_of}
use Rattle.spv_types.specs.declared.forms.Form.{Form}
use Rattle.spv_types.specs.declared.forms.Form.TheVariants.{Void, Bool as Boolean, Int, Vector, Array, Runtime, Struct}
use Rattle.spv_types.specs.declared.forms.Member.{Member}
use Rattle.spv_expr.specs.Bits.{bits_of}
use Rattle.spv_expr.specs.Sizes.{AreOf, AreSized, AreSizes, IsFormFront, IsFormSize, IsFront, IsLong, IsMemberLong, IsMembersFront, IsMore, IsRowFront, IsRowSize, IsSize, IsTypeFront, row_of}
use Rattle.spv_expr.specs.declared.sizes.Stretch.{Stretch}
use Rattle.spv_expr.proofs.CellLemmas.{cell_count}

-- ---- rows

pub bits_append : (xs ys : List Cell) → bits_of (xs ++ ys) ≡ bits_of xs ++ bits_of ys
bits_append xs ys = flat_map-append cell_bits xs ys

pub bits_length : (xs ys : List Cell) → length (bits_of (xs ++ ys)) ≡ length (bits_of xs) + length (bits_of ys)
bits_length xs ys = ap length (bits_append xs ys) ∙ length-append (bits_of xs) (bits_of ys)

-- a row behind another one
pub long_append : (xs ys : List Cell) (a b s : Stretch) → IsLong xs a → IsLong ys b → s.leaves ≡ a.leaves + b.leaves → s.bits ≡ a.bits + b.bits → IsLong (xs ++ ys) s
long_append xs ys a b s x y l m = record {
  leaves_are = omega (arith, length-append xs ys, x.leaves_are, y.leaves_are, l);
  bits_are = omega (arith, bits_length xs ys, x.bits_are, y.bits_are, m);
}

-- the front of a row behind another row, and before a third
pub front_within : (xs ys zs : List Cell) (a b s : Stretch) → IsLong xs a → IsFront ys b → s.leaves ≡ a.leaves + b.leaves → s.bits ≡ a.bits + b.bits → IsFront (xs ++ (ys ++ zs)) s
front_within xs ys zs a b s x y l m =
    let at : s.leaves ≡ length xs + b.leaves = omega (arith, x.leaves_are, l) in
    let cut : take s.leaves (xs ++ (ys ++ zs)) ≡ xs ++ take b.leaves ys =
    ap (λ (n : ℕ). take n (xs ++ (ys ++ zs))) at ∙ take-append-add xs (ys ++ zs) b.leaves ∙ ap (λ (r : List Cell). xs ++ r) (take-append-le b.leaves ys zs y.within) in
    record {
      within = omega (arith, length-append xs (ys ++ zs), length-append ys zs, y.within, at);
      bits_are = ap (λ (r : List Cell). length (bits_of r)) cut ∙ omega (arith, bits_length xs (take b.leaves ys), x.bits_are, y.bits_are, m);
    }

-- a row is its own front, where it stands before another one
pub front_long : (xs zs : List Cell) (a : Stretch) → IsLong xs a → IsFront (xs ++ zs) a
front_long xs zs a x =
    let cut : take a.leaves (xs ++ zs) ≡ xs = ap (λ (n : ℕ). take n (xs ++ zs)) (let e : a.leaves ≡ length xs + 0 = omega (arith, x.leaves_are) in e) ∙ take-append-add xs zs 0 ∙ append-nil xs in
    record {
      within = omega (arith, length-append xs zs, x.leaves_are);
      bits_are = ap (λ (r : List Cell). length (bits_of r)) cut ∙ x.bits_are;
    }

pub front_none : (xs : List Cell) (s : Stretch) → s.leaves ≡ 0 → s.bits ≡ 0 → IsFront xs s
front_none xs s l m = record {
  within = omega arith;
  bits_are = rw l (sym m);
}

-- ---- values one after another

-- those before one, it, and those behind it
pub row_split : (vs : List Value) (k : ℕ) (v : Value) → slice_get vs k ≡ Some v → row_of vs ≡ row_of (take k vs) ++ (leaves v ++ row_of (drop (suc k) vs))
row_split [] k v h = absurd (cc)
row_split (u ∷ vs) zero v h = let e : u ≡ v = cc in rw e refl
row_split (u ∷ vs) (suc k) v h = rw (row_split vs k v h) (sym (append_assoc (leaves u) (row_of (take k vs)) (leaves v ++ row_of (drop (suc k) vs))))

pub row_rest : (vs : List Value) (k : ℕ) → row_of vs ≡ row_of (take k vs) ++ row_of (drop k vs)
row_rest [] zero = refl
row_rest [] (suc k) = refl
row_rest (u ∷ vs) zero = refl
row_rest (u ∷ vs) (suc k) = rw (row_rest vs k) (sym (append_assoc (leaves u) (row_of (take k vs)) (row_of (drop k vs))))

pub row_more : (vs : List Value) (k : ℕ) (v : Value) → slice_get vs k ≡ Some v → row_of (take (suc k) vs) ≡ row_of (take k vs) ++ leaves v
row_more [] k v h = absurd (cc)
row_more (u ∷ vs) zero v h = let e : u ≡ v = cc in rw e (append-nil (leaves v))
row_more (u ∷ vs) (suc k) v h = rw (row_more vs k v h) (sym (append_assoc (leaves u) (row_of (take k vs)) (leaves v)))

-- ---- one of them

pub all_at : (P : Value → Type 0) (vs : List Value) (k : ℕ) → All P vs → k < length vs → (v : Value) × (slice_get vs k ≡ Some v) × P v
all_at P [] k all lt = absurd (omega arith)
all_at P (v ∷ vs) zero all lt = (v, refl, All-head P v vs all)
all_at P (v ∷ vs) (suc k) all lt = all_at P vs k (All-tail P v vs all) (omega arith)

pub zip_at : (R : Member → Value → Type 0) (ms : List Member) (vs : List Value) (k : ℕ) (d : Member) → AllZip R ms vs → k < length ms → (v : Value) × (slice_get vs k ≡ Some v) × R (get_or ms k d) v
zip_at R [] vs k d all lt = absurd (omega arith)
zip_at R (m ∷ ms) [] k d all lt = absurd all
zip_at R (m ∷ ms) (v ∷ vs) zero d all lt = (v, refl, all.0)
zip_at R (m ∷ ms) (v ∷ vs) (suc k) d all lt = zip_at R ms vs k d all.1 (omega arith)

-- values that are alike
pub long_alike : (P : Value → Type 0) (s : Stretch) (vs : List Value) → ((v : Value) → P v → IsLong (leaves v) s) → All P vs
    → (length (row_of vs) ≡ s.leaves * length vs) × (length (bits_of (row_of vs)) ≡ s.bits * length vs)
long_alike P s [] each all = (omega arith, omega arith)
long_alike P s (v ∷ vs) each all =
    let one = each v (All-head P v vs all) in
    let rest = long_alike P s vs each (All-tail P v vs all) in
    (omega (arith, length-append (leaves v) (row_of vs), one.leaves_are, rest.0), omega (arith, bits_length (leaves v) (row_of vs), one.bits_are, rest.1))

-- ---- scalars

pub scalar_long : (width bits : ℕ) → bits ≡ (if width == 1 then 32 else width) → (c : Cell) → c.width ≡ width → IsLong (c ∷ []) (record { leaves = 1; bits = bits })
scalar_long width bits e c w = record {
  leaves_are = refl;
  bits_are = ap length (append-nil (cell_bits c)) ∙ cell_count c ∙ ap (λ (n : ℕ). if n == 1 then 32 else n) w ∙ sym e;
}

pub scalar_value : (width : ℕ) (s : Stretch) (v : Value) → ((c : Cell) → c.width ≡ width → IsLong (c ∷ []) s) → IsScalar width v → IsLong (leaves v) s
scalar_value width s v each h = level (out-Value v) refl h
  where
    level : (l : Value-F Value) → out-Value v ≡ l → IsSomeAnd (scalar_in l) (λ c. (c.width ≡ width) × IsCell c) → IsLong (leaves v) s
    level (Value-F.Scalar c) e h = subst (λ (row : List Cell). IsLong row s) (sym (scalar_row v c e)) (each c h.0)
    level (Value-F.List vs) e h = absurd h
    level (Value-F.Ptr p) e h = absurd h

-- ---- sizes

module _ (ts : Types) where
  -- so many values of a type
  pub row_sized : (id count : ℕ) (one all : Stretch) → IsSize ts id one → all.leaves ≡ one.leaves * count → all.bits ≡ one.bits * count → IsRowSize ts id count all
  row_sized id count one all size l m = record {
    each = λ forms vs long of.
        let r = long_alike (HasShape ts no_roots id) one vs (λ v h. size.each forms v h) of in
        record { leaves_are = r.0 ∙ ap (λ (n : ℕ). one.leaves * n) long ∙ sym l; bits_are = r.1 ∙ ap (λ (n : ℕ). one.bits * n) long ∙ sym m };
  }

  -- the values of no members, and of one more
  pub none_sized : (ms : List Member) (s : Stretch) → s.leaves ≡ 0 → s.bits ≡ 0 → AreSized ts ms 0 s
  none_sized ms s l m = record { each = λ forms vs are. record { leaves_are = sym l; bits_are = sym m } }

  pub one_sized : (ms : List Member) (k : ℕ) (d : Member) (total room all : Stretch) → k < length ms → IsMore ts (get_or ms k d).ty total room all → AreSized ts ms k total → AreSized ts ms (suc k) all
  one_sized ms k d total room all lt more sized = record {
    each = λ forms vs are.
        let at = zip_at (λ (m : Member). HasShape ts no_roots m.ty) ms vs k d are lt in
        subst (λ (row : List Cell). IsLong row all) (sym (row_more vs k at.0 at.1))
        (long_append (row_of (take k vs)) (leaves at.0) total more.size all (sized.each forms vs are) (more.is.each forms at.0 at.2) more.leaves_are more.bits_are);
  }

  -- ---- sizes of forms

  pub boolean_size : (s : Stretch) → ((c : Cell) → c.width ≡ 1 → IsLong (c ∷ []) s) → IsFormSize ts Boolean s
  boolean_size s each = record { each = λ forms v h. scalar_value 1 s v each h }

  pub int_size : (width sign : ℕ) (s : Stretch) → ((c : Cell) → c.width ≡ width → IsLong (c ∷ []) s) → IsFormSize ts (Int width sign) s
  int_size width sign s each = record { each = λ forms v h. scalar_value width s v each h }

  as_row : (v : Value) (vs : List Value) (s : Stretch) → out-Value v ≡ Value-F.List vs → IsLong (row_of vs) s → IsLong (leaves v) s
  as_row v vs s e long = subst (λ (row : List Cell). IsLong row s) (sym (many_row v vs e)) long

  pub vector_size : (component count : ℕ) (s : Stretch) → IsRowSize ts component count s → IsFormSize ts (Vector component count) s
  vector_size component count s size = record {
    each = λ forms v h. let many = many_is _ v h in as_row v many.0 s many.1 (size.each forms many.0 many.2.0 many.2.1);
  }

  pub array_size : (element count : ℕ) (n stride : Option ℕ) (s : Stretch) → n ≡ Some count → IsRowSize ts element count s → IsFormSize ts (Array element n stride) s
  array_size element count n stride s is size = record {
    each = λ forms v h.
        let many = many_is _ v h in
        let long : length many.0 ≡ count = let e = many.2.0 in cc in
        as_row v many.0 s many.1 (size.each forms many.0 long many.2.1);
  }

  pub struct_size : (ms : List Member) (block : Bool) (s : Stretch) → AreSized ts ms (length ms) s → IsFormSize ts (Struct ms block) s
  struct_size ms block s sized = record {
    each = λ forms v h.
        let many = many_is _ v h in
        let all : take (length ms) many.0 ≡ many.0 = take_all (length ms) many.0 (omega (arith, AllZip-long _ ms many.0 many.2)) in
        as_row v many.0 s many.1 (subst (λ (vs : List Value). IsLong (row_of vs) s) all (sized.each forms many.0 many.2));
  }

  -- a type is so long as its form
  by_form : (id n : ℕ) (s : Stretch) → number_of ts id ≡ Some n → IsFormSize ts (form_at ts n) s → IsSize ts id s
  by_form id n s number size =
      let is : form_of ts id ≡ Some (form_at ts n) = number_form ts id n (0, Void) number in
      record { each = λ forms v h. size.each forms v ((forms id (form_at ts n) v is).0 h) }

  pub none_known : AreSizes ts []
  none_known = record { sizes_are = λ n id s number there. absurd (cc) }

  -- the size of one type more
  pub sizes_more : (sizes : List (Option Stretch)) (size : Option Stretch) (k : ℕ) → length sizes ≡ k → IfSome size (λ s. IsFormSize ts (form_at ts k) s) → AreSizes ts sizes → AreSizes ts (sizes ++ size ∷ [])
  sizes_more sizes size k long sized are = record { sizes_are = λ n id s number there. place n id s number there (cases_lt n (length sizes)) }
    where
      last : (o : Option Stretch) (n id : ℕ) (s : Stretch) → number_of ts id ≡ Some n → n ≡ k → o ≡ Some s → IfSome o (λ s. IsFormSize ts (form_at ts k) s) → IsSize ts id s
      last None n id s number e h size = absurd (cc)
      last (Some x) n id s number e h size =
          let same : x ≡ s = cc in
          by_form id n s number (subst (λ (m : ℕ). IsFormSize ts (form_at ts m) s) (sym e) (subst (IsFormSize ts (form_at ts k)) same size))

      place : (n id : ℕ) (s : Stretch) → number_of ts id ≡ Some n → get_or (sizes ++ size ∷ []) n None ≡ Some s → (n < length sizes) ⊎ (length sizes ≤ n) → IsSize ts id s
      place n id s number there (inl lt) = are.sizes_are n id s number (sym (get_or_append_left sizes (size ∷ []) None n lt) ∙ there)
      place n id s number there (inr le) = elim (cases_eq n (length sizes)) [
        | inl same ↦
            let at : get_or (sizes ++ size ∷ []) n None ≡ size = ap (λ (m : ℕ). get_or (sizes ++ size ∷ []) m None) same ∙ get_or-append_seam sizes size [] None in
            last size n id s number (same ∙ long) (sym at ∙ there) sized
        | inr other ↦
            let past : length (sizes ++ size ∷ []) ≤ n = omega (arith, length-append sizes (size ∷ [])) in
            let none : get_or (sizes ++ size ∷ []) n None ≡ None = get_or_past (sizes ++ size ∷ []) n None past in
            absurd (cc)
      ]

  -- ---- fronts

  pub no_type_front : (id n : ℕ) (s : Stretch) → s.leaves ≡ 0 → s.bits ≡ 0 → IsTypeFront ts id n s
  no_type_front id n s l m = record { each = λ forms v h long. front_none (leaves v) s l m }

  pub no_form_front : (f : Form) (n : ℕ) (s : Stretch) → s.leaves ≡ 0 → s.bits ≡ 0 → IsFormFront ts f n s
  no_form_front f n s l m = record { each = λ forms v h long. front_none (leaves v) s l m }

  pub no_row_front : (id n : ℕ) (s : Stretch) → s.leaves ≡ 0 → s.bits ≡ 0 → IsRowFront ts id n s
  no_row_front id n s l m = record { each = λ forms vs h long. front_none (row_of vs) s l m }

  -- by the form of a type
  pub type_front : (limit id number n : ℕ) (f : Form) (s : Stretch) → found_among ts limit id ≡ Some (number, f) → IsFormFront ts f n s → IsTypeFront ts id n s
  type_front limit id number n f s found front =
      let at = found_at ts limit id number f found in
      let is : form_of ts id ≡ Some f = number_form ts id number (0, Void) at.number ∙ ap Some at.form in
      record { each = λ forms v h long. front.each forms v ((forms id f v is).0 h) long }

  row_as : (v : Value) (vs : List Value) (n : ℕ) (s : Stretch) → out-Value v ≡ Value-F.List vs → length (leaves v) ≡ n → (length (row_of vs) ≡ n → IsFront (row_of vs) s) → IsFront (leaves v) s
  row_as v vs n s e long front = subst (λ (row : List Cell). IsFront row s) (sym (many_row v vs e)) (front (sym (ap length (many_row v vs e)) ∙ long))

  pub vector_front : (component count n : ℕ) (s : Stretch) → IsRowFront ts component n s → IsFormFront ts (Vector component count) n s
  vector_front component count n s front = record {
    each = λ forms v h long. let many = many_is _ v h in row_as v many.0 n s many.1 long (λ l. front.each forms many.0 many.2.1 l);
  }

  pub array_front : (element : ℕ) (count stride : Option ℕ) (n : ℕ) (s : Stretch) → IsRowFront ts element n s → IsFormFront ts (Array element count stride) n s
  array_front element count stride n s front = record {
    each = λ forms v h long. let many = many_is _ v h in row_as v many.0 n s many.1 long (λ l. front.each forms many.0 many.2.1 l);
  }

  pub runtime_front : (element : ℕ) (stride : Option ℕ) (n : ℕ) (s : Stretch) → IsRowFront ts element n s → IsFormFront ts (Runtime element stride) n s
  runtime_front element stride n s front = record {
    each = λ forms v h long. let many = many_is _ v h in row_as v many.0 n s many.1 long (λ l. front.each forms many.0 many.2 l);
  }

  pub struct_front : (ms : List Member) (block : Bool) (n : ℕ) (s : Stretch) → IsMembersFront ts ms n s → IsFormFront ts (Struct ms block) n s
  struct_front ms block n s front = record {
    each = λ forms v h long. let many = many_is _ v h in row_as v many.0 n s many.1 long (λ l. front.each forms many.0 many.2 l);
  }

  -- ---- fronts of rows

  -- how many values of a type there are in so many leaves
  counted : (id n : ℕ) (size : Stretch) (vs : List Value) → IsSize ts id size → AreByForms ts no_roots → AreOf ts id vs → length (row_of vs) ≡ n → 0 < size.leaves → n / size.leaves ≡ length vs
  counted id n size vs is forms of long some =
      let r = long_alike (HasShape ts no_roots id) size vs (λ v h. is.each forms v h) of in
      ap (λ (x : ℕ). x / size.leaves) (sym long ∙ r.0) ∙ mul-div_cancel_left (length vs) some

  -- the first of them together
  first_long : (id whole : ℕ) (size start : Stretch) (vs : List Value) → IsSize ts id size → AreByForms ts no_roots → AreOf ts id vs → whole ≤ length vs
      → start.leaves ≡ size.leaves * whole → start.bits ≡ size.bits * whole → IsLong (row_of (take whole vs)) start
  first_long id whole size start vs is forms of le l m =
      let r = long_alike (HasShape ts no_roots id) size (take whole vs) (λ v h. is.each forms v h) (All-take (HasShape ts no_roots id) whole vs of) in
      let long : length (take whole vs) ≡ whole = length-take-le whole vs le in
      record { leaves_are = r.0 ∙ ap (λ (n : ℕ). size.leaves * n) long ∙ sym l; bits_are = r.1 ∙ ap (λ (n : ℕ). size.bits * n) long ∙ sym m }

  pub whole_front : (id n whole : ℕ) (size start : Stretch) → IsSize ts id size → 0 < size.leaves → whole ≤ n / size.leaves → start.leaves ≡ size.leaves * whole → start.bits ≡ size.bits * whole
      → IsRowFront ts id n start
  whole_front id n whole size start is some le l m = record {
    each = λ forms vs of long.
        let count : n / size.leaves ≡ length vs = counted id n size vs is forms of long some in
        let first = first_long id whole size start vs is forms of (omega (arith, le, count)) l m in
        subst (λ (row : List Cell). IsFront row start) (sym (row_rest vs whole)) (front_long (row_of (take whole vs)) (row_of (drop whole vs)) start first);
  }

  pub within_front : (id n whole : ℕ) (size start within s : Stretch) → IsSize ts id size → 0 < size.leaves → whole < n / size.leaves → start.leaves ≡ size.leaves * whole → start.bits ≡ size.bits * whole
      → IsTypeFront ts id size.leaves within → s.leaves ≡ start.leaves + within.leaves → s.bits ≡ start.bits + within.bits → IsRowFront ts id n s
  within_front id n whole size start within s is some lt l m front sl sm = record {
    each = λ forms vs of long.
        let count : n / size.leaves ≡ length vs = counted id n size vs is forms of long some in
        let below : whole < length vs = omega (arith, lt, count) in
        let first = first_long id whole size start vs is forms of (omega (arith, below)) l m in
        let at = all_at (HasShape ts no_roots id) vs whole of below in
        let inner = front.each forms at.0 at.2 (is.each forms at.0 at.2).leaves_are in
        subst (λ (row : List Cell). IsFront row s) (sym (row_split vs whole at.0 at.1))
        (front_within (row_of (take whole vs)) (leaves at.0) (row_of (drop (suc whole) vs)) start within s first inner sl sm);
  }

  -- ---- fronts of members

  pub members_begun : (ms : List Member) (k n : ℕ) (start : Stretch) → AreSized ts ms k start → IsMembersFront ts ms n start
  members_begun ms k n start sized = record {
    each = λ forms vs are long. subst (λ (row : List Cell). IsFront row start) (sym (row_rest vs k)) (front_long (row_of (take k vs)) (row_of (drop k vs)) start (sized.each forms vs are));
  }

  pub members_within : (ms : List Member) (k : ℕ) (d : Member) (n left count : ℕ) (start within s : Stretch) → k < length ms → AreSized ts ms k start → start.leaves + left ≡ n → IsMemberLong ts ms k left count
      → IsTypeFront ts (get_or ms k d).ty count within → s.leaves ≡ start.leaves + within.leaves → s.bits ≡ start.bits + within.bits → IsMembersFront ts ms n s
  members_within ms k d n left count start within s lt sized rest long front sl sm = record {
    each = λ forms vs are total.
        let at = zip_at (λ (m : Member). HasShape ts no_roots m.ty) ms vs k d are lt in
        let first = sized.each forms vs are in
        let count_is : length (leaves at.0) ≡ count = long.each forms vs at.0 are at.1 (omega (arith, first.leaves_are, rest, total)) in
        subst (λ (row : List Cell). IsFront row s) (sym (row_split vs k at.0 at.1))
        (front_within (row_of (take k vs)) (leaves at.0) (row_of (drop (suc k) vs)) start within s first (front.each forms at.0 at.2 count_is) sl sm);
  }

  -- the leaves of one member
  pub known_long : (ms : List Member) (k : ℕ) (d : Member) (left : ℕ) (size : Stretch) → k < length ms → IsSize ts (get_or ms k d).ty size → IsMemberLong ts ms k left size.leaves
  known_long ms k d left size lt is = record {
    each = λ forms vs v are there total.
        let at = zip_at (λ (m : Member). HasShape ts no_roots m.ty) ms vs k d are lt in
        let same : at.0 ≡ v = let e = at.1 in cc in
        ap (λ (u : Value). length (leaves u)) (sym same) ∙ (is.each forms at.0 at.2).leaves_are;
  }

  pub last_long : (ms : List Member) (k left : ℕ) → k + 1 ≡ length ms → IsMemberLong ts ms k left left
  last_long ms k left last = record {
    each = λ forms vs v are there total.
        let long : length vs ≡ suc k = omega (arith, AllZip-long _ ms vs are, last) in
        let short : length vs ≤ suc k = omega (arith, long) in
        let none : drop (suc k) vs ≡ [] = drop_of_length-le vs short in
        let split : row_of vs ≡ row_of (take k vs) ++ (leaves v ++ []) = row_split vs k v there ∙ ap (λ (us : List Value). row_of (take k vs) ++ (leaves v ++ row_of us)) none in
        omega (arith, total, ap length split, length-append (row_of (take k vs)) (leaves v ++ []), length-append (leaves v) []);
  }
