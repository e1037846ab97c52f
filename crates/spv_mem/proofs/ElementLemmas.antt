-- What is put in the place of a part, of the part's type, has as many leaves, and leaves the number of elements of the runtime array.
use Rattle.std.proofs.Common.{◌≡◌, ◌∙◌, ◌⊎◌, ℕ, zero, suc, ◌≤◌, Bool, true, false, List, [], ◌∷◌, length, length-set, length-take-le, length-drop, inl, inr, Option, Some, None, drop, slice_get, slice_set, refl, sym, ap, subst, arith}
use Rattle.std.specs.Prelude.{IsSome}
use Rattle.std.specs.Option.{IsSomeAnd, option_map_or}
use Rattle.std.specs.List.{All, AllZip}
use Rattle.std.proofs.Math.Logic.{∥∥₁_elim}
use Rattle.std.proofs.Props.{props}
use Rattle.std.proofs.lemmas.List.Elements.{All-head, All-tail}
use Rattle.spv_base.specs.Cell.{Cell}
use Rattle.spv_base.specs.Parts.{part_at, parts_in, with_part}
use Rattle.spv_base.specs.declared.values.Pointer.{Pointer as Reference}
use Rattle.spv_base.specs.declared.values.Root.{Root}
use Rattle.spv_base.specs.declared.values.Value.{Value, out-Value}
use Rattle.spv_base.specs.declared.values.Value.TheOpen.{Value-F}
use Rattle.spv_base.proofs.Exports.{out_many, some_at}
use Rattle.spv_types.specs.declared.forms.Form.{Form}
use Rattle.spv_types.specs.declared.forms.Form.TheVariants.{Void, Bool as Boolean, Int, Vector, Array, Runtime, Struct, Pointer, Function}
use Rattle.spv_types.specs.declared.forms.Member.{Member}
use Rattle.spv_types.specs.Types.{Types, form_of}
use Rattle.spv_types.specs.Cells.{cells_of, cells_step, members_cells}
use Rattle.spv_types.specs.Laws.{AreSound}
use Rattle.spv_types.specs.Rows.{leaves, no_roots}
use Rattle.spv_types.specs.Shapes.{HasShape, pointer_in, reached_type, scalar_in, shape_step}
use Rattle.spv_types.proofs.Exports.{added_is, many_is, shapes_count, times_is, changed, has_part, shapes_keep, shapes_are_by_forms, shape_formed, cells_by_form}
use Rattle.spv_values.specs.Places.{IsRowAt}
use Rattle.spv_mem.specs.Targets.{Fits, MayBePut, count_in, elements_in, is_counted, is_past, last_of}
use Rattle.spv_mem.proofs.CountLemmas.{is_counted_by}
use Rattle.spv_mem.proofs.PartLemmas.{Found, NotFound, names}

-- ---- how many values a list has

many_count : (v : Value) (vs : List Value) → out-Value v ≡ Value-F.List vs → count_in v ≡ length vs
many_count v vs e = rw e refl

scalar_count : (P : Cell → Type 0) (v : Value) → IsSomeAnd (scalar_in (out-Value v)) P → count_in v ≡ 0
scalar_count P v h = level (out-Value v) refl h
  where
    level : (l : Value-F Value) → out-Value v ≡ l → IsSomeAnd (scalar_in l) P → option_map_or length (parts_in l) 0 ≡ 0
    level (Value-F.Scalar c) e h = refl
    level (Value-F.List vs) e h = absurd h
    level (Value-F.Ptr p) e h = refl

pointer_count : (P : Reference → Type 0) (v : Value) → IsSomeAnd (pointer_in (out-Value v)) P → count_in v ≡ 0
pointer_count P v h = level (out-Value v) refl h
  where
    level : (l : Value-F Value) → out-Value v ≡ l → IsSomeAnd (pointer_in l) P → option_map_or length (parts_in l) 0 ≡ 0
    level (Value-F.Scalar c) e h = refl
    level (Value-F.List vs) e h = absurd h
    level (Value-F.Ptr p) e h = refl

zip_length : (P : Member → Value → Type 0) (ms : List Member) (vs : List Value) → AllZip P ms vs → length vs ≡ length ms
zip_length P [] [] all = refl
zip_length P [] (v ∷ vs) all = absurd all
zip_length P (m ∷ ms) [] all = absurd all
zip_length P (m ∷ ms) (v ∷ vs) all = omega (arith, zip_length P ms vs all.1)

-- the values of the last of some values
abbrev last_count : List Value → ℕ
last_count vs = option_map_or count_in (last_of vs) 0

many_elements : (v : Value) (vs : List Value) → out-Value v ≡ Value-F.List vs → elements_in v ≡ last_count vs
many_elements v vs e = rw e refl

scalar_elements : (P : Cell → Type 0) (v : Value) → IsSomeAnd (scalar_in (out-Value v)) P → elements_in v ≡ 0
scalar_elements P v h = level (out-Value v) refl h
  where
    level : (l : Value-F Value) → out-Value v ≡ l → IsSomeAnd (scalar_in l) P → option_map_or last_count (parts_in l) 0 ≡ 0
    level (Value-F.Scalar c) e h = refl
    level (Value-F.List vs) e h = absurd h
    level (Value-F.Ptr p) e h = refl

pointer_elements : (P : Reference → Type 0) (v : Value) → IsSomeAnd (pointer_in (out-Value v)) P → elements_in v ≡ 0
pointer_elements P v h = level (out-Value v) refl h
  where
    level : (l : Value-F Value) → out-Value v ≡ l → IsSomeAnd (pointer_in l) P → option_map_or last_count (parts_in l) 0 ≡ 0
    level (Value-F.Scalar c) e h = refl
    level (Value-F.List vs) e h = absurd h
    level (Value-F.Ptr p) e h = refl

alike_last : (P : Value → Type 0) (vs us : List Value) → ((x y : Value) → P x → P y → count_in x ≡ count_in y) → All P vs → All P us → length vs ≡ length us → last_count vs ≡ last_count us
alike_last P [] [] same a b h = refl
alike_last P [] (u ∷ us) same a b h = absurd (omega (arith, h))
alike_last P (v ∷ vs) [] same a b h = absurd (omega (arith, h))
alike_last P (v ∷ []) (u ∷ []) same a b h = same v u (All-head P v [] a) (All-head P u [] b)
alike_last P (v ∷ []) (u ∷ w ∷ us) same a b h = absurd (omega (arith, h))
alike_last P (v ∷ x ∷ vs) (u ∷ []) same a b h = absurd (omega (arith, h))
alike_last P (v ∷ x ∷ vs) (u ∷ w ∷ us) same a b h =
    let less : length (x ∷ vs) ≡ length (w ∷ us) = omega (arith, h) in
    alike_last P (x ∷ vs) (w ∷ us) same (All-tail P v (x ∷ vs) a) (All-tail P u (w ∷ us) b) less

set_last : (vs : List Value) (k : ℕ) (x y : Value) → slice_get vs k ≡ Some x → count_in y ≡ count_in x → last_count (slice_set vs k y) ≡ last_count vs
set_last [] k x y g h = absurd cc
set_last (v ∷ []) zero x y g h = let e : v ≡ x = cc in h ∙ ap count_in (sym e)
set_last (v ∷ []) (suc k) x y g h = absurd cc
set_last (v ∷ w ∷ vs) zero x y g h = refl
set_last (v ∷ w ∷ vs) (suc zero) x y g h = set_last (w ∷ vs) zero x y g h
set_last (v ∷ w ∷ vs) (suc (suc k)) x y g h = set_last (w ∷ vs) (suc k) x y g h

module _ (ts : Types) (roots : Root → Option ℕ) (sound : AreSound ts) where
  counted_form : (t : ℕ) (f : Form) → form_of ts t ≡ Some f → is_counted ts t ≡ true → (n : ℕ) × (cells_step (cells_of ts) f ≡ Some n)
  counted_form t f e h = let n = some_at (cells_of ts t) h in (n.0, sym (cells_by_form ts sound t f e) ∙ n.1)

  count_alike : (f : Form) (n : ℕ) (a b : Value) → cells_step (cells_of ts) f ≡ Some n → shape_step ts roots (HasShape ts roots) f a → shape_step ts roots (HasShape ts roots) f b → count_in a ≡ count_in b
  count_alike Void n a b c s t = absurd s
  count_alike Boolean n a b c s t = scalar_count _ a s ∙ sym (scalar_count _ b t)
  count_alike (Int width sign) n a b c s t = scalar_count _ a s ∙ sym (scalar_count _ b t)
  count_alike (Vector component size) n a b c s t =
      let x = many_is _ a s in
      let y = many_is _ b t in
      many_count a x.0 x.1 ∙ x.2.0 ∙ sym (many_count b y.0 y.1 ∙ y.2.0)
  count_alike (Array element None stride) n a b c s t = absurd cc
  count_alike (Array element (Some size) stride) n a b c s t =
      let x = many_is _ a s in
      let y = many_is _ b t in
      let one : length x.0 ≡ size = let e = x.2.0 in cc in
      let other : length y.0 ≡ size = let e = y.2.0 in cc in
      many_count a x.0 x.1 ∙ one ∙ sym (many_count b y.0 y.1 ∙ other)
  count_alike (Runtime element stride) n a b c s t = absurd cc
  count_alike (Struct members block) n a b c s t =
      let x = many_is _ a s in
      let y = many_is _ b t in
      many_count a x.0 x.1 ∙ zip_length _ members x.0 x.2 ∙ sym (many_count b y.0 y.1 ∙ zip_length _ members y.0 y.2)
  count_alike (Pointer class target) n a b c s t = pointer_count _ a s ∙ sym (pointer_count _ b t)
  count_alike (Function returns parameters) n a b c s t = absurd s

  count_same : (t : ℕ) (a b : Value) → is_counted ts t ≡ true → HasShape ts roots t a → HasShape ts roots t b → count_in a ≡ count_in b
  count_same t a b h s r =
      let f = shape_formed ts roots t a s in
      let n = counted_form t f.0 f.1 h in
      count_alike f.0 n.0 a b n.1 ((shapes_are_by_forms ts roots sound t f.0 a f.1).0 s) ((shapes_are_by_forms ts roots sound t f.0 b f.1).0 r)

  zip_last : (ms : List Member) (vs us : List Value) (n : ℕ) → members_cells (cells_of ts) ms ≡ Some n
      → AllZip (λ (m : Member). HasShape ts roots m.ty) ms vs → AllZip (λ (m : Member). HasShape ts roots m.ty) ms us → last_count vs ≡ last_count us
  unfolding members_cells
  zip_last [] [] [] n h a b = refl
  zip_last [] [] (u ∷ us) n h a b = absurd b
  zip_last [] (v ∷ vs) us n h a b = absurd a
  zip_last (m ∷ ms) [] us n h a b = absurd a
  zip_last (m ∷ ms) (v ∷ vs) [] n h a b = absurd b
  zip_last (m ∷ []) (v ∷ x ∷ vs) (u ∷ us) n h a b = absurd a.1
  zip_last (m ∷ []) (v ∷ []) (u ∷ w ∷ us) n h a b = absurd b.1
  zip_last (m ∷ []) (v ∷ []) (u ∷ []) n h a b =
      let sum = added_is (cells_of ts m.ty) (members_cells (cells_of ts) []) n h in
      count_same m.ty v u (is_counted_by (cells_of ts m.ty) sum.0 sum.2) a.0 b.0
  zip_last (m ∷ k ∷ ms) (v ∷ []) (u ∷ us) n h a b = absurd a.1
  zip_last (m ∷ k ∷ ms) (v ∷ x ∷ vs) (u ∷ []) n h a b = absurd b.1
  zip_last (m ∷ k ∷ ms) (v ∷ x ∷ vs) (u ∷ w ∷ us) n h a b =
      let sum = added_is (cells_of ts m.ty) (members_cells (cells_of ts) (k ∷ ms)) n h in
      zip_last (k ∷ ms) (x ∷ vs) (w ∷ us) sum.1 sum.3 a.1 b.1

  elements_alike : (f : Form) (n : ℕ) (a b : Value) → cells_step (cells_of ts) f ≡ Some n → shape_step ts roots (HasShape ts roots) f a → shape_step ts roots (HasShape ts roots) f b → elements_in a ≡ elements_in b
  elements_alike Void n a b c s t = absurd s
  elements_alike Boolean n a b c s t = scalar_elements _ a s ∙ sym (scalar_elements _ b t)
  elements_alike (Int width sign) n a b c s t = scalar_elements _ a s ∙ sym (scalar_elements _ b t)
  elements_alike (Vector component size) n a b c s t =
      let x = many_is _ a s in
      let y = many_is _ b t in
      let k = times_is (cells_of ts component) size n c in
      many_elements a x.0 x.1 ∙ alike_last (HasShape ts roots component) x.0 y.0 (λ p q. count_same component p q (is_counted_by (cells_of ts component) k.0 k.1)) x.2.1 y.2.1 (x.2.0 ∙ sym y.2.0) ∙ sym (many_elements b y.0 y.1)
  elements_alike (Array element None stride) n a b c s t = absurd cc
  elements_alike (Array element (Some size) stride) n a b c s t =
      let x = many_is _ a s in
      let y = many_is _ b t in
      let k = times_is (cells_of ts element) size n c in
      let same : length x.0 ≡ length y.0 = let e = x.2.0 in let g = y.2.0 in cc in
      many_elements a x.0 x.1 ∙ alike_last (HasShape ts roots element) x.0 y.0 (λ p q. count_same element p q (is_counted_by (cells_of ts element) k.0 k.1)) x.2.1 y.2.1 same ∙ sym (many_elements b y.0 y.1)
  elements_alike (Runtime element stride) n a b c s t = absurd cc
  elements_alike (Struct members block) n a b c s t =
      let x = many_is _ a s in
      let y = many_is _ b t in
      many_elements a x.0 x.1 ∙ zip_last members x.0 y.0 n c x.2 y.2 ∙ sym (many_elements b y.0 y.1)
  elements_alike (Pointer class target) n a b c s t = pointer_elements _ a s ∙ sym (pointer_elements _ b t)
  elements_alike (Function returns parameters) n a b c s t = absurd s

  elements_same : (t : ℕ) (a b : Value) → is_counted ts t ≡ true → HasShape ts roots t a → HasShape ts roots t b → elements_in a ≡ elements_in b
  elements_same t a b h s r =
      let f = shape_formed ts roots t a s in
      let n = counted_form t f.0 f.1 h in
      elements_alike f.0 n.0 a b n.1 ((shapes_are_by_forms ts roots sound t f.0 a f.1).0 s) ((shapes_are_by_forms ts roots sound t f.0 b f.1).0 r)

  part_counts : (path : List ℕ) (t : ℕ) (x w u : Value) → part_at x path ≡ Some w → is_counted ts t ≡ true → HasShape ts roots t w → HasShape ts roots t u → count_in (with_part x path u) ≡ count_in x
  part_counts [] t x w u g counted s r = let e : x ≡ w = cc in count_same t u w counted r s ∙ ap count_in (sym e)
  part_counts (i ∷ path) t x w u g counted s r =
      let p = has_part x i path w g in
      ap count_in (changed x i path p.values p.part u p.is p.at) ∙ many_count _ (slice_set p.values i (with_part p.part path u)) (out_many (slice_set p.values i (with_part p.part path u)))
      ∙ length-set p.values i (with_part p.part path u) ∙ sym (many_count x p.values p.is)

  pub elements_kept : (path : List ℕ) (id t : ℕ) (v w u : Value) → HasShape ts roots id v → reached_type ts id path ≡ Some t → part_at v path ≡ Some w → is_counted ts t ≡ true → HasShape ts roots t u
      → elements_in (with_part v path u) ≡ elements_in v
  unfolding reached_type
  elements_kept [] id t v w u shape r g counted s =
      let e : id ≡ t = cc in
      elements_same t u v counted s (subst (λ (k : ℕ). HasShape ts roots k v) e shape)
  elements_kept (k ∷ path) id t v w u shape r g counted s =
      let p = has_part v k path w g in
      let new : Value = with_part p.part path u in
      let here = (shapes_keep ts roots sound (k ∷ path) id t v w u shape r g).0 in
      ap elements_in (changed v k path p.values p.part u p.is p.at) ∙ many_elements _ (slice_set p.values k new) (out_many (slice_set p.values k new))
      ∙ set_last p.values k p.part new p.at (part_counts path t p.part w u p.rest counted here s) ∙ sym (many_elements v p.values p.is)

-- ---- what is put in a variable

-- the part that is there, with its type, and what is put in its place
pub record Put (ts : Types) (id : ℕ) (v : Value) (path : List ℕ) (w u : Value) : Type 0 where
  pub type : ℕ
  pub typed : reached_type ts id path ≡ Some type
  pub counted : is_counted ts type ≡ true
  pub old : HasShape ts no_roots type w
  pub new : HasShape ts no_roots type u

pub put_is : (ts : Types) (id : ℕ) (v : Value) (path : List ℕ) (w u : Value) → Fits ts id v → MayBePut ts id v path u → part_at v path ≡ Some w → Put ts id v path w u
put_is ts id v path w u f may is = go (is_past ts (elements_in v) id path) refl
  where
    found : NotFound ts id path v ⊎ Found ts id path v → Put ts id v path w u
    found k = elim k [
      | inl none ↦ absurd (let e = none.1 in cc)
      | inr at ↦
          let has = may at.type w at.typed is in
          record { type = at.type; typed = at.typed; counted = has.0; old = (shapes_keep ts no_roots f.sound path id at.type v w w f.shape at.typed is).0; new = has.1 }
    ]

    go : (b : Bool) → is_past ts (elements_in v) id path ≡ b → Put ts id v path w u
    go true e = absurd (let n = (names ts no_roots f.sound path id v f.may f.shape).0 e in cc)
    go false e = found ((names ts no_roots f.sound path id v f.may f.shape).1 e)

some_is : (o : Option Value) → IsSome o → (w : Value) × (o ≡ Some w)
some_is None h = absurd cc
some_is (Some w) h = (w, refl)

row_length : (v w : Value) (path : List ℕ) (n k : ℕ) → IsRowAt v path n k → part_at v path ≡ Some w → length (leaves w) ≡ k
row_length v w path n k at is =
    let within = at.within in
    let left : k ≤ length (drop n (leaves v)) = let d = length-drop n (leaves v) in omega (arith, d, within) in
    ap length (sym (at.row w is)) ∙ length-take-le k (drop n (leaves v)) left

new_length : (ts : Types) (id : ℕ) (v : Value) (path : List ℕ) (u : Value) (n k : ℕ) → IsRowAt v path n k → Fits ts id v → MayBePut ts id v path u → k ≡ length (leaves u)
new_length ts id v path u n k at f may =
    let w = some_is (part_at v path) at.there in
    let p = put_is ts id v path w.0 u f may w.1 in
    let c = some_at (cells_of ts p.type) p.counted in
    sym (row_length v w.0 path n k at w.1) ∙ shapes_count ts no_roots p.type w.0 c.0 p.old c.1 ∙ sym (shapes_count ts no_roots p.type u c.0 p.new c.1)

pub row_for : (ts : Types) (id : ℕ) (v : Value) (path : List ℕ) (u : Value) (n k : ℕ) → IsRowAt v path n k → ∥ Fits ts id v ∥₁ → ∥ MayBePut ts id v path u ∥₁ → IsRowAt v path n (length (leaves u))
row_for ts id v path u n k at fits may =
    let same : k ≡ length (leaves u) = ∥∥₁_elim fits (hlevel props) (λ (f : Fits ts id v). ∥∥₁_elim may (hlevel props) (λ (m : MayBePut ts id v path u). new_length ts id v path u n k at f m)) in
    subst (λ (j : ℕ). IsRowAt v path n j) same at

pub elements_stay : (ts : Types) (id : ℕ) (v : Value) (path : List ℕ) (u : Value) (n k : ℕ) → IsRowAt v path n k → ∥ Fits ts id v ∥₁ → ∥ MayBePut ts id v path u ∥₁ → elements_in (with_part v path u) ≡ elements_in v
elements_stay ts id v path u n k at fits may =
    ∥∥₁_elim fits (hlevel props) (λ (f : Fits ts id v). ∥∥₁_elim may (hlevel props) (λ (m : MayBePut ts id v path u). stay f m))
  where
    stay : Fits ts id v → MayBePut ts id v path u → elements_in (with_part v path u) ≡ elements_in v
    stay f m =
        let w = some_is (part_at v path) at.there in
        let p = put_is ts id v path w.0 u f m w.1 in
        elements_kept ts no_roots f.sound path id p.type v w.0 u f.shape p.typed w.1 p.counted p.new
