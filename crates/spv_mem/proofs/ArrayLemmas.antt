-- A block with a runtime array in it is a whole variable, and the array is its last member.
use Rattle.std.proofs.Common.{◌≡◌, ◌∙◌, ◌⊎◌, ℕ, zero, suc, Bool, true, false, List, [], ◌∷◌, ◌++◌, slice_get, Option, Some, None, inl, inr, refl, sym, ap, subst}
use Rattle.std.proofs.Math.Logic.{∥∥₁_elim}
use Rattle.std.proofs.Props.{props}
use Rattle.std.specs.List.{AllZip}
use Rattle.std.specs.Option.{option_map, option_map_or, option_and_then}
use Rattle.spv_base.specs.Parts.{part_at}
use Rattle.spv_base.specs.declared.values.Value.{Value, out-Value}
use Rattle.spv_base.specs.declared.values.Value.TheOpen.{Value-F}
use Rattle.spv_base.specs.Entries.{reads}
use Rattle.spv_base.specs.declared.values.Pointer.{Pointer as Reference}
use Rattle.spv_base.specs.declared.values.Root.{Root}
use Rattle.spv_base.specs.declared.values.Root.TheVariants.{Shared}
use Rattle.spv_types.specs.declared.forms.Form.{Form}
use Rattle.spv_types.specs.declared.forms.Form.TheVariants.{Void, Bool as Boolean, Int, Vector, Array, Runtime, Struct, Pointer, Function}
use Rattle.spv_types.specs.declared.forms.Member.{Member}
use Rattle.spv_types.specs.Types.{Types, form_of}
use Rattle.spv_types.specs.Cells.{cells_of, cells_step, members_cells}
use Rattle.spv_types.specs.Laws.{AreSound}
use Rattle.spv_types.specs.Rows.{no_roots}
use Rattle.spv_types.specs.Rules.{is_runtime}
use Rattle.spv_types.specs.Shapes.{HasShape, part_type, reached_type}
use Rattle.spv_types.proofs.Exports.{added_is, many_is, times_is, shapes_are_by_forms, cells_by_form}
use Rattle.spv_mem.specs.Targets.{Fits, count_in, elements_in, end_open, is_array_at, is_counted, is_open_array, last_of}
use Rattle.spv_mem.specs.Memory.{Held, IsMemory, NamesArray, load_of, member_of}
use Rattle.spv_mem.specs.Roots.{AreFit}
use Rattle.spv_mem.proofs.MemoryLemmas.{fits_in}
use Rattle.spv_mem.proofs.CountLemmas.{is_counted_by, open_member}
use Rattle.spv_mem.proofs.PartLemmas.{array_is, block_is, counted_no_array, open_target, part_cons}
use Rattle.std.proofs.lemmas.Bool.{and_parts}
use Rattle.spv_base.proofs.Exports.{some_at}
use Rattle.spv_base.specs.Variables.{root_id}

-- the last of some values counts, whatever the part of the value that has them
last_counts : (v u : Value) (vs : List Value) → out-Value v ≡ Value-F.List vs → last_of vs ≡ Some u → elements_in v ≡ count_in u
last_counts v u vs e l = rw (e, l) refl

module _ (ts : Types) (sound : AreSound ts) where
  -- ---- types with numbers of leaves have parts with numbers of leaves

  member_counted : (ms : List Member) (i n : ℕ) (m : Member) → members_cells (cells_of ts) ms ≡ Some n → slice_get ms i ≡ Some m → is_counted ts m.ty ≡ true
  unfolding members_cells
  member_counted [] i n m h g = absurd cc
  member_counted (k ∷ ms) zero n m h g =
      let sum = added_is (cells_of ts k.ty) (members_cells (cells_of ts) ms) n h in
      let e : k ≡ m = cc in
      subst (λ (x : Member). is_counted ts x.ty ≡ true) e (is_counted_by (cells_of ts k.ty) sum.0 sum.2)
  member_counted (k ∷ ms) (suc i) n m h g =
      let sum = added_is (cells_of ts k.ty) (members_cells (cells_of ts) ms) n h in
      member_counted ms i sum.1 m sum.3 g

  member_is : (ms : List Member) (i t : ℕ) → option_map (λ (m : Member). m.ty) (slice_get ms i) ≡ Some t → (m : Member) × (slice_get ms i ≡ Some m) × (m.ty ≡ t)
  member_is ms i t h = go (slice_get ms i) refl h
    where
      go : (o : Option Member) → slice_get ms i ≡ o → option_map (λ (m : Member). m.ty) o ≡ Some t → (m : Member) × (slice_get ms i ≡ Some m) × (m.ty ≡ t)
      go None e h = absurd cc
      go (Some m) e h = let same : m.ty ≡ t = cc in (m, e, same)

  part_counted : (f : Form) (i n t : ℕ) → cells_step (cells_of ts) f ≡ Some n → part_type f i ≡ Some t → is_counted ts t ≡ true
  part_counted Void i n t h g = absurd cc
  part_counted Boolean i n t h g = absurd cc
  part_counted (Int width sign) i n t h g = absurd cc
  part_counted (Vector component count) i n t h g =
      let k = times_is (cells_of ts component) count n h in
      let e : component ≡ t = cc in
      subst (λ (x : ℕ). is_counted ts x ≡ true) e (is_counted_by (cells_of ts component) k.0 k.1)
  part_counted (Array element None stride) i n t h g = absurd cc
  part_counted (Array element (Some size) stride) i n t h g =
      let k = times_is (cells_of ts element) size n h in
      let e : element ≡ t = cc in
      subst (λ (x : ℕ). is_counted ts x ≡ true) e (is_counted_by (cells_of ts element) k.0 k.1)
  part_counted (Runtime element stride) i n t h g = absurd cc
  part_counted (Struct members block) i n t h g =
      let m = member_is members i t g in
      subst (λ (x : ℕ). is_counted ts x ≡ true) m.2 (member_counted members i n m.0 h m.1)
  part_counted (Pointer class target) i n t h g = absurd cc
  part_counted (Function returns parameters) i n t h g = absurd cc

  -- ---- paths, an index at a time

  record Step (t i b : ℕ) (path : List ℕ) : Type 0 where
    form : Form
    type : ℕ
    is : form_of ts t ≡ Some form
    part : part_type form i ≡ Some type
    rest : reached_type ts type path ≡ Some b

  step_is : (t i b : ℕ) (path : List ℕ) → reached_type ts t (i ∷ path) ≡ Some b → Step t i b path
  unfolding reached_type
  step_is t i b path h = outer (form_of ts t) refl h
    where
      inner : (f : Form) → form_of ts t ≡ Some f → (o : Option ℕ) → part_type f i ≡ o → option_and_then (λ p. reached_type ts p path) o ≡ Some b → Step t i b path
      inner f e None g h = absurd cc
      inner f e (Some p) g h = record { form = f; type = p; is = e; part = g; rest = h }

      outer : (o : Option Form) → form_of ts t ≡ o → option_and_then (λ p. reached_type ts p path) (option_and_then (λ f. part_type f i) o) ≡ Some b → Step t i b path
      outer None e h = absurd cc
      outer (Some f) e h = inner f e (part_type f i) refl h

  reached_nil : (t b : ℕ) → reached_type ts t [] ≡ Some b → t ≡ b
  unfolding reached_type
  reached_nil t b h = cc

  reached_counted : (path : List ℕ) (t b : ℕ) → is_counted ts t ≡ true → reached_type ts t path ≡ Some b → is_counted ts b ≡ true
  reached_counted [] t b h g = subst (λ (x : ℕ). is_counted ts x ≡ true) (reached_nil t b g) h
  reached_counted (i ∷ path) t b h g =
      let s = step_is t i b path g in
      let n = some_at (cells_of ts t) h in
      reached_counted path s.type b (part_counted s.form i n.0 s.type (sym (cells_by_form ts sound t s.form s.is) ∙ n.1) s.part) s.rest

  -- ---- blocks with a runtime array

  record ArrayAt (o : Option Form) (k : ℕ) : Type 0 where
    members : List Member
    block : Bool
    member : Member
    form : o ≡ Some (Struct members block)
    is : slice_get members k ≡ Some member
    array : is_runtime (form_of ts member.ty) ≡ true

  array_at : (o : Option Form) (k : ℕ) → is_array_at ts o k ≡ true → ArrayAt o k
  array_at None k h = absurd cc
  array_at (Some Void) k h = absurd cc
  array_at (Some Boolean) k h = absurd cc
  array_at (Some (Int width sign)) k h = absurd cc
  array_at (Some (Vector component count)) k h = absurd cc
  array_at (Some (Array element length stride)) k h = absurd cc
  array_at (Some (Runtime element stride)) k h = absurd cc
  array_at (Some (Struct members block)) k h = go (slice_get members k) refl h
    where
      go : (o : Option Member) → slice_get members k ≡ o → option_map_or (λ (m : Member). is_runtime (form_of ts m.ty)) o false ≡ true → ArrayAt (Some (Struct members block)) k
      go None e h = absurd cc
      go (Some m) e h = record { members = members; block = block; member = m; form = refl; is = e; array = h }
  array_at (Some (Pointer class target)) k h = absurd cc
  array_at (Some (Function returns parameters)) k h = absurd cc

  no_block : (b k : ℕ) → is_counted ts b ≡ true → is_array_at ts (form_of ts b) k ≡ true → ⊥
  no_block b k h array =
      let a = array_at (form_of ts b) k array in
      let n = some_at (cells_of ts b) h in
      let counted = member_counted a.members k n.0 a.member (sym (cells_by_form ts sound b (Struct a.members a.block) a.form) ∙ n.1) a.is in
      let not = counted_no_array ts no_roots sound a.member.ty counted in
      let is = a.array in
      absurd cc

  member_kind : (ms : List Member) (i : ℕ) (m : Member) → end_open ts ms ≡ true → slice_get ms i ≡ Some m → (is_counted ts m.ty ≡ true) ⊎ (is_open_array ts (form_of ts m.ty) ≡ true)
  member_kind [] i m h g = absurd cc
  member_kind (k ∷ []) zero m h g = let e : k ≡ m = cc in inr (subst (λ (x : Member). is_open_array ts (form_of ts x.ty) ≡ true) e h)
  member_kind (k ∷ []) (suc i) m h g = absurd cc
  member_kind (k ∷ l ∷ ms) zero m h g =
      let both = and_parts (is_counted ts k.ty) (end_open ts (l ∷ ms)) h in
      let e : k ≡ m = cc in
      inl (subst (λ (x : Member). is_counted ts x.ty ≡ true) e both.0)
  member_kind (k ∷ l ∷ ms) (suc i) m h g = member_kind (l ∷ ms) i m (and_parts (is_counted ts k.ty) (end_open ts (l ∷ ms)) h).1 g

  -- no block with a runtime array lies in the runtime array of another
  no_block_in : (path : List ℕ) (t b k : ℕ) → is_open_array ts (form_of ts t) ≡ true → reached_type ts t path ≡ Some b → is_array_at ts (form_of ts b) k ≡ true → ⊥
  no_block_in [] t b k opens g array =
      let a = array_is ts no_roots sound t opens in
      let e = reached_nil t b g in
      let r = array_at (form_of ts b) k array in
      let f = a.form in
      let s = r.form in
      absurd cc
  no_block_in (i ∷ path) t b k opens g array =
      let a = array_is ts no_roots sound t opens in
      let s = step_is t i b path g in
      let f = a.form in
      let is = s.is in
      let form : s.form ≡ Runtime a.element a.stride = cc in
      let type : Some a.element ≡ Some s.type = sym (ap (λ (x : Form). part_type x i) form) ∙ s.part in
      let same : a.element ≡ s.type = cc in
      no_block b k (reached_counted path s.type b (subst (λ (x : ℕ). is_counted ts x ≡ true) same a.counted) s.rest) array

-- the elements of the runtime array that a block has
count_at : (ts : Types) (path : List ℕ) (id b k : ℕ) (v : Value) → Fits ts id v → reached_type ts id path ≡ Some b → is_array_at ts (form_of ts b) k ≡ true
    → option_map count_in (part_at v (path ++ k ∷ [])) ≡ Some (elements_in v)
count_at ts path id b k v f r array = go (is_counted ts id) refl
  where
    whole : (path : List ℕ) → is_counted ts id ≡ false → reached_type ts id path ≡ Some b → option_map count_in (part_at v (path ++ k ∷ [])) ≡ Some (elements_in v)
    whole [] e r =
        let o = block_is ts no_roots f.sound id (open_target ts no_roots f.sound id e f.may) in
        let many = many_is (AllZip (λ (m : Member). HasShape ts no_roots m.ty) o.members) v ((shapes_are_by_forms ts no_roots f.sound id (Struct o.members o.block) v o.form).0 f.shape) in
        let a = array_at ts f.sound (form_of ts b) k array in
        let same = reached_nil ts f.sound id b r in
        let one : Some (Struct o.members o.block) ≡ Some (Struct a.members a.block) = sym o.form ∙ ap (form_of ts) same ∙ a.form in
        let members : o.members ≡ a.members = cc in
        let member : slice_get o.members k ≡ Some a.member = ap (λ (ms : List Member). slice_get ms k) members ∙ a.is in
        elim (open_member ts no_roots o.members many.0 k many.2 o.ended) [
          | inl none ↦ absurd (let n = none.0 in cc)
          | inr at ↦
              let is : at.member ≡ a.member = let m = at.is in cc in
              elim at.kind [
                | inl counted ↦ absurd (let not = counted_no_array ts no_roots f.sound at.member.ty counted in let yes = a.array in cc)
                | inr last ↦ ap (option_map count_in) (part_cons v at.part many.0 k [] many.1 at.found) ∙ ap Some (sym (last_counts v at.part many.0 many.1 last.1))
              ]
        ]
    whole (i ∷ path) e r =
        let o = block_is ts no_roots f.sound id (open_target ts no_roots f.sound id e f.may) in
        let s = step_is ts f.sound id i b path r in
        let is : Some s.form ≡ Some (Struct o.members o.block) = sym s.is ∙ o.form in
        let form : s.form ≡ Struct o.members o.block = cc in
        let m = member_is ts f.sound o.members i s.type (sym (ap (λ (x : Form). part_type x i) form) ∙ s.part) in
        elim (member_kind ts f.sound o.members i m.0 o.ended m.1) [
          | inl counted ↦ absurd (no_block ts f.sound b k (reached_counted ts f.sound path s.type b (subst (λ (x : ℕ). is_counted ts x ≡ true) m.2 counted) s.rest) array)
          | inr opens ↦ absurd (no_block_in ts f.sound path s.type b k (subst (λ (x : ℕ). is_open_array ts (form_of ts x) ≡ true) m.2 opens) s.rest array)
        ]

    go : (c : Bool) → is_counted ts id ≡ c → option_map count_in (part_at v (path ++ k ∷ [])) ≡ Some (elements_in v)
    go true e = absurd (no_block ts f.sound b k (reached_counted ts f.sound path id b e r) array)
    go false e = whole path e r

pub counts_at : (m : Held) (p : Reference) (k i : ℕ) → ∥ IsMemory m ∥₁ → ∥ NamesArray m p k ∥₁
    → option_map count_in (load_of m i (member_of p k)) ≡ Some (option_map_or elements_in (reads (root_id p.root) m.shared) 0)
counts_at m p k i is names = ∥∥₁_elim names (hlevel props) (λ (n : NamesArray m p k). named n)
  where
    named : NamesArray m p k → option_map count_in (load_of m i (member_of p k)) ≡ Some (option_map_or elements_in (reads (root_id p.root) m.shared) 0)
    named n = ∥∥₁_elim (fits_in m i (Shared n.id) m.shared n.type n.id is refl n.named) (hlevel props) (λ (fit : AreFit m.types n.type n.id m.shared).
        subst (λ (r : Root). option_map count_in (load_of m i (record { root = r; path = p.path ++ k ∷ [] })) ≡ Some (option_map_or elements_in (reads (root_id r) m.shared) 0)) (sym n.shared)
        (rw (n.there) (count_at m.types p.path n.type n.block k n.value (fit n.value n.there) n.leads n.array)))
