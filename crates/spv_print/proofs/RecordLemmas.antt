-- The nesting of a record by those of its parts, which stand before it.
use Rattle.std.proofs.Common.{◌≡◌, ◌∙◌, ℕ, zero, suc, ◌+◌, ◌-◌, ◌<◌, ◌≤◌, ◌==◌, ◌&&◌, Bool, true, false, List, [], ◌∷◌, length, drop, take, Option, Some, None, refl, sym, ap, subst, arith}
use Rattle.std.specs.Prelude.{filter, if◌then◌else◌, nat_lt, slice_get, slice_index}
use Rattle.std.specs.List.{find, position, position_or_len}
use Rattle.std.specs.Option.{option_and_then, option_map_or}
use Rattle.std.proofs.lemmas.Bool.{eqb-true, lt-ltb}
use Rattle.std.proofs.lemmas.List.{length-take}
use Rattle.std.proofs.lemmas.List.Folds.{find_at}
use Rattle.std.proofs.lemmas.List.Sums.{passes_at_first}
use Rattle.std.proofs.lemmas.Option.{get_or_from_slice_get, slice_get_within}
use Rattle.spv_base.specs.Entries.{reads}
use Rattle.spv_dbg.specs.declared.insts.DebugInst.{DebugInst}
use Rattle.spv_dbg.specs.declared.kinds.More.{More}
use Rattle.spv_dbg.specs.declared.kinds.More.TheVariants.{Nothing, Many, Pairs}
use Rattle.spv_dbg.specs.declared.kinds.Role.{Role}
use Rattle.spv_dbg.specs.declared.kinds.Role.TheVariants.{Any, Literal, Text, DebugType}
use Rattle.spv_dbg.specs.declared.marks.Mark.{Mark}
use Rattle.spv_dbg.specs.declared.measures.Measure.{Measure}
use Rattle.spv_dbg.specs.Forming.{marked}
use Rattle.spv_dbg.specs.Kinds.{kinds}
use Rattle.spv_dbg.specs.Marks.{measure_in, measure_of, member, member_in, members, nothing, part}
use Rattle.spv_dbg.specs.Records.{AreRecords, IsRecord, Leads, kept_before, measured_in, opcode_in}
use Rattle.spv_dbg.specs.Tables.{Tables, number_in, number_of, with_id}
use Rattle.spv_dbg.specs.Wellformed.{AllFit}
use Rattle.spv_dbg.proofs.Exports.{leads_kept}
use Rattle.spv_parts.specs.Arrays.{array_in, as_array}
use Rattle.spv_parts.specs.Parts.{TypePart, base_in, is_member, member_type, members_of, plain, seen_through, whole}
use Rattle.spv_print.specs.Nesting.{nesting, type_nesting}

-- ---- the record with an id

found : (has : DebugInst → Bool) (ds : List DebugInst) (d : DebugInst) → find has ds ≡ Some d → (n : ℕ) × (position has ds ≡ Some n) × (slice_get ds n ≡ Some d) × (has d ≡ true)
found has ds d e =
    let n = position_or_len has ds in
    let at : slice_get ds n ≡ Some d = sym (find_at has ds) ∙ e in
    let lt : n < length ds = slice_get_within ds n d at in
    (n, rw (lt-ltb n (length ds) lt) refl, at, subst (λ x. has x ≡ true) (get_or_from_slice_get ds n d d at) (passes_at_first has ds d lt))

-- a record with its number
pub record Found (t : Tables) (id : ℕ) (d : DebugInst) : Type 0 where
  pub n : ℕ
  pub is_number : number_in t id ≡ Some n
  pub is_record : IsRecord t n d
  pub kept : reads id t.marks ≡ Some (marked d.number (measured_in t n d))

pub found_record : (t : Tables) → AreRecords t → (id : ℕ) (d : DebugInst) → with_id t id ≡ Some d → Found t id d
found_record t records id d e =
    let place = found (λ (x : DebugInst). x.id == id) t.insts d e in
    let is = records.each place.0 d place.2 in
    let same : d.id ≡ id = eqb-true d.id id place.3 in
    record { n = place.0; is_number = place.1; is_record = is; kept = subst (λ (k : ℕ). reads k t.marks ≡ Some (marked d.number (measured_in t place.0 d))) same is.kept }

kept_nesting : (t : Tables) (id : ℕ) (d : DebugInst) (f : Found t id d) → type_nesting t id ≡ (measured_in t f.n d).nesting
kept_nesting t id d f = ap (λ (o : Option Mark). option_map_or (λ (k : Mark). k.nesting) o 0) f.kept

-- at a number that is known
numbered : (t : Tables) (id : ℕ) (d : DebugInst) (f : Found t id d) (number : ℕ) → d.number ≡ number → type_nesting t id ≡ (measure_of (number_of t) (kept_before t f.n) number d.operands).nesting
numbered t id d f number e = kept_nesting t id d f ∙ ap (λ (k : ℕ). (measure_of (number_of t) (kept_before t f.n) k d.operands).nesting) e

-- ---- what operands lead to

leads_nesting : (t : Tables) (n : ℕ) (role : Role) (id : ℕ) → Leads t n role id → (part (kept_before t n) id).nesting ≡ type_nesting t id
leads_nesting t n role id l = ap (λ (o : Option Mark). (option_map_or measure_in o nothing).nesting) (leads_kept t n role id l) ∙ by (reads id t.marks)
  where
    by : (o : Option Mark) → (option_map_or measure_in o nothing).nesting ≡ option_map_or (λ (k : Mark). k.nesting) o 0
    by None = refl
    by (Some k) = refl

-- the operands of a record are those of the row of its number
abbrev Fit : Tables → ℕ → List Role → List ℕ → Type 0
Fit t n roles ids = AllFit (Leads t n) (number_of t) (λ id. reads id t.strings) (opcode_in t) roles ids

fit : (t : Tables) (id : ℕ) (d : DebugInst) (f : Found t id d) (number : ℕ) (roles : List Role) (more : More) → d.number ≡ number → reads number kinds ≡ Some (roles, more) → Fit t f.n roles d.operands
fit t id d f number roles more e row =
    let o = f.is_record.operands in
    let is : Some o.kind ≡ Some (roles, more) = sym o.is_kind ∙ ap (λ (k : ℕ). reads k kinds) e ∙ row in
    let same : o.kind ≡ (roles, more) = cc in
    subst (λ (k : List Role × More). Fit t f.n k.0 d.operands) same o.operands

first_leads : (t : Tables) (n : ℕ) (roles : List Role) (ids : List ℕ) → Fit t n (DebugType ∷ roles) ids → (part (kept_before t n) (slice_index ids 0)).nesting ≡ type_nesting t (slice_index ids 0)
first_leads t n roles [] h = absurd h
first_leads t n roles (id ∷ ids) h = leads_nesting t n DebugType id h.0

second_leads : (t : Tables) (n : ℕ) (role : Role) (roles : List Role) (ids : List ℕ) → Fit t n (role ∷ DebugType ∷ roles) ids → (part (kept_before t n) (slice_index ids 1)).nesting ≡ type_nesting t (slice_index ids 1)
second_leads t n role roles [] h = absurd h
second_leads t n role roles (a ∷ []) h = absurd h.1
second_leads t n role roles (a ∷ id ∷ ids) h = leads_nesting t n DebugType id h.1.0

-- ---- by numbers

module _ (t : Tables) (id : ℕ) (d : DebugInst) (f : Found t id d) where
  pub basic_nesting : d.number ≡ 2 → type_nesting t id ≡ 1
  unfolding measure_of
  basic_nesting e = numbered t id d f 2 e

  qualifier_nesting : d.number ≡ 4 → type_nesting t id ≡ type_nesting t (slice_index d.operands 0) + 1
  unfolding measure_of kinds
  qualifier_nesting e = numbered t id d f 4 e ∙ ap (λ (k : ℕ). k + 1) (first_leads t f.n (Any ∷ []) d.operands (fit t id d f 4 (DebugType ∷ Any ∷ []) Nothing e refl))

  array_nesting : d.number ≡ 5 → type_nesting t id ≡ type_nesting t (slice_index d.operands 0) + length (drop 1 d.operands)
  unfolding measure_of kinds
  array_nesting e = numbered t id d f 5 e ∙ ap (λ (k : ℕ). k + length (drop 1 d.operands)) (first_leads t f.n (Literal ∷ []) d.operands (fit t id d f 5 (DebugType ∷ Literal ∷ []) (Many Literal) e refl))

  vector_nesting : d.number ≡ 6 → type_nesting t id ≡ type_nesting t (slice_index d.operands 0) + 1
  unfolding measure_of kinds
  vector_nesting e = numbered t id d f 6 e ∙ ap (λ (k : ℕ). k + 1) (first_leads t f.n (Literal ∷ []) d.operands (fit t id d f 6 (DebugType ∷ Literal ∷ []) Nothing e refl))

  matrix_nesting : d.number ≡ 108 → type_nesting t id ≡ type_nesting t (slice_index d.operands 0) + 1
  unfolding measure_of kinds
  matrix_nesting e = numbered t id d f 108 e ∙ ap (λ (k : ℕ). k + 1) (first_leads t f.n (Literal ∷ Any ∷ []) d.operands (fit t id d f 108 (DebugType ∷ Literal ∷ Any ∷ []) Nothing e refl))

  typedef_nesting : d.number ≡ 7 → type_nesting t id ≡ type_nesting t (slice_index d.operands 1) + 1
  unfolding measure_of kinds
  typedef_nesting e = numbered t id d f 7 e ∙ ap (λ (k : ℕ). k + 1) (second_leads t f.n Any (Any ∷ Any ∷ Any ∷ Any ∷ []) d.operands (fit t id d f 7 (Any ∷ DebugType ∷ Any ∷ Any ∷ Any ∷ Any ∷ []) Nothing e refl))

  pub enum_nesting : d.number ≡ 9 → type_nesting t id ≡ type_nesting t (slice_index d.operands 1) + 1
  unfolding measure_of kinds
  enum_nesting e =
      numbered t id d f 9 e ∙ ap (λ (k : ℕ). k + 1)
      (second_leads t f.n Any (Any ∷ Any ∷ Any ∷ Any ∷ Any ∷ Any ∷ []) d.operands (fit t id d f 9 (Any ∷ DebugType ∷ Any ∷ Any ∷ Any ∷ Any ∷ Any ∷ Any ∷ []) (Pairs Literal Text) e refl))

  pub composite_nesting : d.number ≡ 10 → type_nesting t id ≡ (members (kept_before t f.n) (drop 9 d.operands)).nesting + 1
  unfolding measure_of
  composite_nesting e = numbered t id d f 10 e

  member_nesting : d.number ≡ 11 → type_nesting t id ≡ type_nesting t (slice_index d.operands 1)
  unfolding measure_of kinds
  member_nesting e =
      numbered t id d f 11 e
      ∙ second_leads t f.n Text (Any ∷ Any ∷ Any ∷ Any ∷ Any ∷ Any ∷ []) d.operands (fit t id d f 11 (Text ∷ DebugType ∷ Any ∷ Any ∷ Any ∷ Any ∷ Any ∷ Any ∷ []) Nothing e refl)

both_true : (a b : Bool) → (a && b) ≡ true → (a ≡ true) × (b ≡ true)
both_true true b e = (refl, e)
both_true false b e = absurd cc

own_nesting : (o : Option Mark) (number : ℕ) (m : Measure) → o ≡ Some (marked number m) → number ≡ 11 → (option_map_or member_in o nothing).nesting ≡ m.nesting
own_nesting o number m e eleven = rw (e, eleven) refl

-- ---- the Types of members

-- types are nested no deeper than so much
abbrev pub EachWithin : Tables → ℕ → List ℕ → Type 0
EachWithin t depth [] = Unit {0}
EachWithin t depth (id ∷ ids) = (type_nesting t (member_type t id) ≤ depth) × EachWithin t depth ids

module _ (t : Tables) (records : AreRecords t) where
  one_member : (n id : ℕ) → is_member t n id ≡ true → type_nesting t (member_type t id) ≤ (member (kept_before t n) id).nesting
  one_member n id is = by_record (with_id t id) refl is
    where
      test : Option DebugInst → Bool
      test o = option_map_or (λ (d : DebugInst). d.number == 11) o false && option_map_or (λ k. nat_lt k n) (number_in t id) false

      by_record : (o : Option DebugInst) → with_id t id ≡ o → test o ≡ true → type_nesting t (member_type t id) ≤ (member (kept_before t n) id).nesting
      by_record None e holds = absurd cc
      by_record (Some d) e holds =
          let f = found_record t records id d e in
          let both = both_true (d.number == 11) (option_map_or (λ k. nat_lt k n) (number_in t id) false) holds in
          let eleven : d.number ≡ 11 = eqb-true d.number 11 both.0 in
          let early : nat_lt f.n n ≡ true = sym (ap (λ (o : Option ℕ). option_map_or (λ k. nat_lt k n) o false) f.is_number) ∙ both.1 in
          let kept : kept_before t n id ≡ Some (marked d.number (measured_in t f.n d)) =
          ap (λ (o : Option ℕ). option_and_then (λ (k : ℕ). if nat_lt k n then reads id t.marks else None) o) f.is_number ∙ (rw early f.kept) in
          let own : (member (kept_before t n) id).nesting ≡ (measured_in t f.n d).nesting = own_nesting (kept_before t n id) d.number (measured_in t f.n d) kept eleven in
          let type : member_type t id ≡ slice_index d.operands 1 = ap (λ (o : Option DebugInst). option_map_or (λ (x : DebugInst). slice_index x.operands 1) o 0) e in
          let deep : type_nesting t id ≡ type_nesting t (slice_index d.operands 1) = member_nesting t id d f eleven in
          omega (arith, own, ap (type_nesting t) type, deep, kept_nesting t id d f)

  pub members_within : (n depth : ℕ) (ids : List ℕ) → (members (kept_before t n) ids).nesting ≤ depth → EachWithin t depth (filter (is_member t n) ids)
  members_within n depth [] le = tt
  members_within n depth (id ∷ ids) le = by (members_within n depth ids (omega (arith, le))) (is_member t n id) refl
    where
      by : EachWithin t depth (filter (is_member t n) ids) → (b : Bool) → is_member t n id ≡ b → EachWithin t depth (filter (is_member t n) (id ∷ ids))
      by others true is = rw is (omega (arith, le, one_member n id is), others)
      by others false is = rw is others

  -- those of a TypeComposite
  pub composite_within : (id : ℕ) (d : DebugInst) → with_id t id ≡ Some d → d.number ≡ 10 → (ids : List ℕ) → ids ≡ members_of t d → EachWithin t (type_nesting t id - 1) ids
  composite_within id d e ten ids same =
      let f = found_record t records id d e in
      let number : number_in t d.id ≡ Some f.n = f.is_record.is_alone in
      let whole = composite_nesting t id d f ten in
      let within = members_within f.n (type_nesting t id - 1) (drop 9 d.operands) (omega (arith, whole)) in
      rw (same, number) within

  -- ---- types seen through others

  base_below : (id b : ℕ) → option_and_then base_in (with_id t id) ≡ Some b → type_nesting t b ≤ type_nesting t id
  base_below id b is = by_record (with_id t id) refl is
    where
      by_record : (o : Option DebugInst) → with_id t id ≡ o → option_and_then base_in o ≡ Some b → type_nesting t b ≤ type_nesting t id
      by_record None e i = absurd cc
      by_record (Some d) e i = four (d.number == 4) refl
        where
          f : Found t id d
          f = found_record t records id d e

          seven : (x : Bool) → (d.number == 7) ≡ x → d.number == 4 ≡ false → type_nesting t b ≤ type_nesting t id
          seven true s n =
              let same : b ≡ slice_index d.operands 1 = let j = i in let k = rw (n, s) at j in cc in
              omega (arith, ap (type_nesting t) same, typedef_nesting t id d f (eqb-true d.number 7 s))
          seven false s n = absurd (let j = i in let k = rw (n, s) at j in cc)

          four : (x : Bool) → (d.number == 4) ≡ x → type_nesting t b ≤ type_nesting t id
          four true n =
              let same : b ≡ slice_index d.operands 0 = let j = i in let k = rw n at j in cc in
              omega (arith, ap (type_nesting t) same, qualifier_nesting t id d f (eqb-true d.number 4 n))
          four false n = seven (d.number == 7) refl n

  seen_below : (n id : ℕ) → type_nesting t (seen_through n t id) ≤ type_nesting t id
  seen_below zero id = omega arith
  seen_below (suc n) id = by (λ b. seen_below n b) (option_and_then base_in (with_id t id)) refl
    where
      by : ((b : ℕ) → type_nesting t (seen_through n t b) ≤ type_nesting t b) → (o : Option ℕ) → option_and_then base_in (with_id t id) ≡ o → type_nesting t (seen_through (suc n) t id) ≤ type_nesting t id
      by below None e = rw e (omega arith)
      by below (Some b) e = rw e (omega (arith, below b, base_below id b e))

  pub plain_below : (id : ℕ) → type_nesting t (plain t id) ≤ type_nesting t id
  plain_below id = seen_below (length t.insts) id

  -- ---- arrays

  array_below : (id : ℕ) (d : DebugInst) (a : TypePart) → with_id t id ≡ Some d → array_in d ≡ Some a → nesting t a ≤ type_nesting t id
  array_below id d a e is = five (d.number == 5) refl
    where
      f : Found t id d
      f = found_record t records id d e

      one : length (take 1 (drop 1 d.operands)) ≤ 1
      one = omega (arith, length-take 1 (drop 1 d.operands))

      last : (x : Bool) → (d.number == 108) ≡ x → (d.number == 5) ≡ false → (d.number == 6) ≡ false → nesting t a ≤ type_nesting t id
      last true m n v =
          let same : a ≡ record { base = slice_index d.operands 0; counts = take 1 (drop 1 d.operands) } = let j = is in let k = rw (n, v, m) at j in cc in
          rw same (omega (arith, one, matrix_nesting t id d f (eqb-true d.number 108 m)))
      last false m n v = absurd (let j = is in let k = rw (n, v, m) at j in cc)

      six : (x : Bool) → (d.number == 6) ≡ x → (d.number == 5) ≡ false → nesting t a ≤ type_nesting t id
      six true v n =
          let same : a ≡ record { base = slice_index d.operands 0; counts = take 1 (drop 1 d.operands) } = let j = is in let k = rw (n, v) at j in cc in
          rw same (omega (arith, one, vector_nesting t id d f (eqb-true d.number 6 v)))
      six false v n = last (d.number == 108) refl n v

      five : (x : Bool) → (d.number == 5) ≡ x → nesting t a ≤ type_nesting t id
      five true n =
          let same : a ≡ record { base = slice_index d.operands 0; counts = drop 1 d.operands } = let j = is in let k = rw n at j in cc in
          rw same (omega (arith, array_nesting t id d f (eqb-true d.number 5 n)))
      five false n = six (d.number == 6) refl n

  pub as_array_below : (p a : TypePart) → as_array t p ≡ Some a → nesting t a ≤ nesting t p
  as_array_below p a is = by (length p.counts == 0) refl
    where
      by_record : (o : Option DebugInst) → with_id t (plain t p.base) ≡ o → option_and_then array_in o ≡ Some a → nesting t a ≤ nesting t p
      by_record None e i = absurd cc
      by_record (Some d) e i = omega (arith, array_below (plain t p.base) d a e i, plain_below p.base)

      by : (x : Bool) → (length p.counts == 0) ≡ x → nesting t a ≤ nesting t p
      by true none = by_record (with_id t (plain t p.base)) refl (let j = is in rw none at j)
      by false some = let same : p ≡ a = let j = is in let k = rw some at j in cc in rw same (omega arith)

-- no type is nested deeper than 64
pub type_within : (t : Tables) → AreRecords t → (id : ℕ) (d : DebugInst) → with_id t id ≡ Some d → nesting t (whole id) ≤ 64
type_within t records id d e = let f = found_record t records id d e in omega (arith, kept_nesting t id d f, f.is_record.nesting)
