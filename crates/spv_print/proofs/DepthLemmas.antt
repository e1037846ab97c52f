-- A type is laid out whole where as many levels are gone down as it is nested deep: more change nothing.
use Rattle.std.proofs.Common.{◌≡◌, ◌∙◌, ℕ, zero, suc, ◌+◌, ◌-◌, ◌≤◌, ◌==◌, ◌&&◌, Bool, true, false, List, [], ◌∷◌, length, Option, Some, None, refl, ap, arith}
use Rattle.std.specs.Prelude.{slice_index}
use Rattle.std.specs.Option.{option_map_or}
use Rattle.std.proofs.lemmas.Bool.{eqb-true}
use Rattle.spv_dbg.specs.declared.insts.DebugInst.{DebugInst}
use Rattle.spv_dbg.specs.Records.{AreRecords}
use Rattle.spv_dbg.specs.Tables.{Tables, with_id}
use Rattle.spv_parts.specs.Arrays.{as_array}
use Rattle.spv_parts.specs.Composites.{members}
use Rattle.spv_parts.specs.Parts.{TypePart, member_type, members_of, plain, whole}
use Rattle.spv_print.specs.declared.pieces.Piece.TheVariants.{CloseList, OpenList, CloseStruct, OpenStruct, Name}
use Rattle.spv_print.specs.Layouts.{Change, Written, basic_of, count_at, is_full, put, put_array, put_elements, put_enum, put_list, put_members, put_name, put_part, put_plain, put_separator, put_struct, put_type, put_unavailable}
use Rattle.spv_print.specs.Nesting.{nesting, type_nesting}
use Rattle.spv_print.proofs.RecordLemmas.{EachWithin, as_array_below, basic_nesting, composite_nesting, composite_within, enum_nesting, found_record, plain_below}

-- ---- lists of elements that are laid out in the same way

same_elements : (e g : Bool → Change) (last : Bool) → ((l : Bool) (s : Written) → e l s ≡ g l s) → (more number : ℕ) (s : Written) → put_elements e last number more s ≡ put_elements g last number more s
same_elements e g last same zero number s = refl
same_elements e g last same (suc more) number s = by (same_elements e g last same more (number + 1)) (is_full s) refl
  where
    by : ((u : Written) → put_elements e last (number + 1) more u ≡ put_elements g last (number + 1) more u) → (full : Bool) → is_full s ≡ full → put_elements e last number (suc more) s ≡ put_elements g last number (suc more) s
    by others true is = rw is refl
    by others false is = rw (is, same (last && more == 0) (put_separator number s)) (others (g (last && more == 0) (put_separator number s)))

same_list : (e g : Bool → Change) (last : Bool) → ((l : Bool) (s : Written) → e l s ≡ g l s) → (count : ℕ) (s : Written) → put_list e last count s ≡ put_list g last count s
same_list e g last same zero s = refl
same_list e g last same (suc more) s = ap (put CloseList) (same_elements e g last same (suc more) 0 (put OpenList s))

-- parts nested at most so deep are laid out in the same way
abbrev SameWithin : Tables → ℕ → (Bool → TypePart → Change) → (Bool → TypePart → Change) → Type 0
SameWithin t depth F G = (p : TypePart) (last : Bool) (s : Written) → nesting t p ≤ depth → F last p s ≡ G last p s

module _ (t : Tables) (size : ℕ) (F G : Bool → TypePart → Change) where
  same_array : (depth : ℕ) → SameWithin t depth F G → (last : Bool) (base : ℕ) (counts : List ℕ) (s : Written) → type_nesting t base + length counts ≤ suc depth
      → put_array t size F last base counts s ≡ put_array t size G last base counts s
  same_array depth same last base [] s le = refl
  same_array depth same last base (count ∷ counts) s le =
      same_list (λ l. F l (record { base = base; counts = counts })) (λ l. G l (record { base = base; counts = counts })) last (λ l u. same (record { base = base; counts = counts }) l u (omega (arith, le)))
      (count_at t size last count (record { base = base; counts = counts }) s) s

  same_members : (depth : ℕ) → SameWithin t depth F G → (last : Bool) (ids : List ℕ) → EachWithin t depth ids → (number : ℕ) (s : Written)
      → put_members (λ id l. F l (whole (member_type t id))) last number ids s ≡ put_members (λ id l. G l (whole (member_type t id))) last number ids s
  same_members depth same last [] within number s = refl
  same_members depth same last (id ∷ ids) within number s = by (same_members depth same last ids within.1 (number + 1)) (is_full s) refl
    where
      begun : Written
      begun = put (Name id) (put_separator number s)

      by : ((u : Written) → put_members (λ id l. F l (whole (member_type t id))) last (number + 1) ids u ≡ put_members (λ id l. G l (whole (member_type t id))) last (number + 1) ids u) → (full : Bool)
          → is_full s ≡ full
          → put_members (λ id l. F l (whole (member_type t id))) last number (id ∷ ids) s ≡ put_members (λ id l. G l (whole (member_type t id))) last number (id ∷ ids) s
      by others true is = rw is refl
      by others false is =
          let one : F (last && length ids == 0) (whole (member_type t id)) begun ≡ G (last && length ids == 0) (whole (member_type t id)) begun = same (whole (member_type t id)) (last && length ids == 0) begun (omega (arith, within.0)) in
          rw (is, one) (others (G (last && length ids == 0) (whole (member_type t id)) begun))

  same_struct : (depth : ℕ) → SameWithin t depth F G → (last : Bool) (ids : List ℕ) (s : Written) → EachWithin t depth ids
      → put_struct (λ id l. F l (whole (member_type t id))) last ids s ≡ put_struct (λ id l. G l (whole (member_type t id))) last ids s
  same_struct depth same last [] s within = refl
  same_struct depth same last (id ∷ ids) s within = ap (put CloseStruct) (same_members depth same last (id ∷ ids) within 0 (put OpenStruct s))

  same_enum : (depth : ℕ) → SameWithin t depth F G → (last : Bool) (type underlying : ℕ) (s : Written) → type_nesting t underlying ≤ depth
      → put_enum t size F last type underlying s ≡ put_enum t size G last type underlying s
  same_enum depth same last type underlying s le = by (basic_of t underlying)
    where
      by : (o : Option DebugInst) → option_map_or {U = Change} (put_name t size type) o (F last (whole underlying)) s ≡ option_map_or {U = Change} (put_name t size type) o (G last (whole underlying)) s
      by None = same (whole underlying) last s (omega (arith, le))
      by (Some d) = refl

-- ---- one level

-- the members of a part that is a TypeComposite
members_are : (t : Tables) (p : TypePart) (d : DebugInst) → with_id t (plain t p.base) ≡ Some d → d.number ≡ 10 → length p.counts ≡ 0 → members t p ≡ members_of t d
members_are t p d e ten none = rw (none, e, ten) refl

-- a part that is no array has no Counts
no_counts : (t : Tables) (p : TypePart) → as_array t p ≡ None → length p.counts ≡ 0
no_counts t p none = by (length p.counts == 0) refl
  where
    by : (x : Bool) → (length p.counts == 0) ≡ x → length p.counts ≡ 0
    by true e = eqb-true (length p.counts) 0 e
    by false e = absurd (let n = none in let m = rw e at n in cc)

module _ (t : Tables) (records : AreRecords t) (size : ℕ) where
  -- at the type that a part is
  same_type : (F G : Bool → TypePart → Change) (depth : ℕ) → SameWithin t depth F G → (last : Bool) (p : TypePart) (d : DebugInst) (s : Written) → as_array t p ≡ None → with_id t (plain t p.base) ≡ Some d
      → type_nesting t (plain t p.base) ≤ suc depth → put_type t size F last p d s ≡ put_type t size G last p d s
  same_type F G depth same last p d s none e le = two (d.number == 2) refl
    where
      id : ℕ
      id = plain t p.base

      ten : (x : Bool) → (d.number == 10) ≡ x → (d.number == 2) ≡ false → (d.number == 9) ≡ false → put_type t size F last p d s ≡ put_type t size G last p d s
      ten false c n b = rw (b, n, c) refl
      ten true c n b =
          let is : d.number ≡ 10 = eqb-true d.number 10 c in
          let within : EachWithin t (type_nesting t id - 1) (members t p) = composite_within t records id d e is (members t p) (members_are t p d e is (no_counts t p none)) in
          rw (b, n, c) (same_struct t size F G (type_nesting t id - 1) (λ q l u le2. same q l u (omega (arith, le, le2))) last (members t p) s within)

      nine : (x : Bool) → (d.number == 9) ≡ x → (d.number == 2) ≡ false → put_type t size F last p d s ≡ put_type t size G last p d s
      nine false n b = ten (d.number == 10) refl b n
      nine true n b =
          let deep = enum_nesting t id d (found_record t records id d e) (eqb-true d.number 9 n) in
          rw (b, n) (same_enum t size F G depth same last id (slice_index d.operands 1) s (omega (arith, deep, le)))

      two : (x : Bool) → (d.number == 2) ≡ x → put_type t size F last p d s ≡ put_type t size G last p d s
      two true b = rw b refl
      two false b = nine (d.number == 9) refl b

  same_plain : (F G : Bool → TypePart → Change) (depth : ℕ) → SameWithin t depth F G → (last : Bool) (p : TypePart) (s : Written) → as_array t p ≡ None → nesting t p ≤ suc depth
      → put_plain t size F last p s ≡ put_plain t size G last p s
  same_plain F G depth same last p s none le = by (with_id t (plain t p.base)) refl
    where
      by : (o : Option DebugInst) → with_id t (plain t p.base) ≡ o → put_plain t size F last p s ≡ put_plain t size G last p s
      by None e = rw e refl
      by (Some d) e = rw e (same_type F G depth same last p d s none e (omega (arith, le, plain_below t records p.base)))

  -- what is nested 0 deep is no type
  nothing_plain : (F : Bool → TypePart → Change) (last : Bool) (p : TypePart) (s : Written) → nesting t p ≤ 0 → put_plain t size F last p s ≡ put_unavailable s
  nothing_plain F last p s le = by (with_id t (plain t p.base)) refl
    where
      id : ℕ
      id = plain t p.base

      flat : type_nesting t id ≤ 0
      flat = omega (arith, le, plain_below t records p.base)

      by : (o : Option DebugInst) → with_id t id ≡ o → put_plain t size F last p s ≡ put_unavailable s
      by None e = rw e refl
      by (Some d) e = rw e (two (d.number == 2) refl)
        where
          ten : (x : Bool) → (d.number == 10) ≡ x → (d.number == 2) ≡ false → (d.number == 9) ≡ false → put_type t size F last p d s ≡ put_unavailable s
          ten false c b n = rw (b, n, c) refl
          ten true c b n = absurd (omega (arith, flat, composite_nesting t id d (found_record t records id d e) (eqb-true d.number 10 c)))

          nine : (x : Bool) → (d.number == 9) ≡ x → (d.number == 2) ≡ false → put_type t size F last p d s ≡ put_unavailable s
          nine false n b = ten (d.number == 10) refl b n
          nine true n b = absurd (omega (arith, flat, enum_nesting t id d (found_record t records id d e) (eqb-true d.number 9 n)))

          two : (x : Bool) → (d.number == 2) ≡ x → put_type t size F last p d s ≡ put_unavailable s
          two false b = nine (d.number == 9) refl b
          two true b = absurd (omega (arith, flat, basic_nesting t id d (found_record t records id d e) (eqb-true d.number 2 b)))

  -- ---- all levels

  one_level : (p : TypePart) (last : Bool) (s : Written) → nesting t p ≤ 0 → put_part t size 1 last p s ≡ put_part t size 0 last p s
  unfolding put_part
  one_level p last s le = by (as_array t p) refl
    where
      array : (a : TypePart) → nesting t a ≤ 0 → (counts : List ℕ) → a.counts ≡ counts → put_array t size (put_part t size 0) last a.base a.counts s ≡ put_unavailable s
      array a flat [] e = rw e refl
      array a flat (c ∷ cs) e = absurd (let f = flat in let g = rw e at f in omega (arith, g))

      by : (o : Option TypePart) → as_array t p ≡ o
          → option_map_or {U = Change} (λ (a : TypePart). put_array t size (put_part t size 0) last a.base a.counts) (as_array t p) (put_plain t size (put_part t size 0) last p) s ≡ put_unavailable s
      by None e = rw e (nothing_plain (put_part t size 0) last p s le)
      by (Some a) e = rw e (array a (omega (arith, le, as_array_below t records p a e)) a.counts refl)

  next_level : (n : ℕ) → SameWithin t n (put_part t size (suc n)) (put_part t size n) → SameWithin t (suc n) (put_part t size (suc (suc n))) (put_part t size (suc n))
  unfolding put_part
  next_level n same p last s le = by (as_array t p) refl
    where
      by : (o : Option TypePart) → as_array t p ≡ o
          → option_map_or {U = Change} (λ (a : TypePart). put_array t size (put_part t size (suc n)) last a.base a.counts) (as_array t p) (put_plain t size (put_part t size (suc n)) last p) s
          ≡ option_map_or {U = Change} (λ (a : TypePart). put_array t size (put_part t size n) last a.base a.counts) (as_array t p) (put_plain t size (put_part t size n) last p) s
      by None e = let same_here = same_plain (put_part t size (suc n)) (put_part t size n) n same last p s e le in rw e same_here
      by (Some a) e = rw e (same_array t size (put_part t size (suc n)) (put_part t size n) n same last a.base a.counts s (omega (arith, le, as_array_below t records p a e)))

  stable : (n : ℕ) → SameWithin t n (put_part t size (suc n)) (put_part t size n)
  stable zero = one_level
  stable (suc n) = next_level n (stable n)

  -- as many levels as it is nested deep, and some more
  pub more_levels : (more n : ℕ) (p : TypePart) (last : Bool) (s : Written) → nesting t p ≤ n → put_part t size (more + n) last p s ≡ put_part t size n last p s
  more_levels zero n p last s le = let none : zero + n ≡ n = omega arith in rw none refl
  more_levels (suc more) n p last s le =
      let one : suc more + n ≡ suc (more + n) = omega arith in
      rw one (stable (more + n) p last s (omega (arith, le)) ∙ more_levels more n p last s le)
