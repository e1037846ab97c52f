-- What a path names in a value of a variable: the part, its type and the leaves before it, or nothing.
use Rattle.std.proofs.Common.{◌≡◌, ◌∙◌, ◌⊎◌, ℕ, ◌+◌, ◌*◌, ◌<◌, ◌≤◌, ◌||◌, nat_le, Bool, true, false, List, [], ◌∷◌, length, take, slice_get, Option, Some, None, nat_lt, refl, sym, ap, subst, inl, inr, arith}
use Rattle.std.specs.Prelude.{if◌then◌else◌}
use Rattle.std.specs.Option.{IsSomeAnd, option_map, option_map_or, option_and_then}
use Rattle.std.specs.List.{All, AllZip, flat_map}
use Rattle.spv_base.specs.Cell.{Cell}
use Rattle.spv_base.specs.Parts.{part_at, parts_in}
use Rattle.spv_base.specs.declared.values.Pointer.{Pointer as Reference}
use Rattle.spv_base.specs.declared.values.Root.{Root}
use Rattle.spv_base.specs.declared.values.Value.{Value, out-Value}
use Rattle.spv_base.specs.declared.values.Value.TheOpen.{Value-F}
use Rattle.spv_types.specs.declared.forms.Form.{Form}
use Rattle.spv_types.specs.declared.forms.Form.TheVariants.{Void, Bool as Boolean, Int, Vector, Array, Runtime, Struct, Pointer, Function}
use Rattle.spv_types.specs.declared.forms.Member.{Member}
use Rattle.spv_types.specs.Types.{Types, form_of}
use Rattle.spv_types.specs.Cells.{cells_of, cells_step, members_cells}
use Rattle.spv_types.specs.Laws.{AreSound}
use Rattle.spv_types.specs.Leaves.{element_part, leaf_of, member_part, part_of}
use Rattle.spv_types.specs.Rows.{leaves}
use Rattle.spv_types.specs.Rules.{is_runtime}
use Rattle.spv_types.specs.Shapes.{HasShape, part_type, pointer_in, reached_type, scalar_in, shape_step}
use Rattle.spv_types.proofs.Exports.{many_is, times_is, many_row, shapes_are_by_forms, shape_formed, cells_by_form}
use Rattle.spv_mem.specs.Targets.{element_index, elements_in, end_open, is_array_at, is_counted, is_open_array, is_open_block, is_past, last_of, may_be_target}
use Rattle.spv_mem.proofs.CountLemmas.{MemberAt, NoMember, NoPart, PartIs, all_at, at_index, counted_member, is_counted_by, item_at, open_member}
use Rattle.std.proofs.lemmas.Bool.{lt-ltb}
use Rattle.spv_base.proofs.Exports.{some_at, not_below}

-- ---- paths, an index at a time

leaf_cons : (ts : Types) (id i b t : ℕ) (f : Form) (path : List ℕ) → form_of ts id ≡ Some f → part_of (cells_of ts) f i ≡ Some (b, t)
    → leaf_of ts id (i ∷ path) ≡ option_map (λ n. b + n) (leaf_of ts t path)
unfolding leaf_of
leaf_cons ts id i b t f path is at = rw (is, at) refl

leaf_none : (ts : Types) (id i : ℕ) (f : Form) (path : List ℕ) → form_of ts id ≡ Some f → part_of (cells_of ts) f i ≡ None → leaf_of ts id (i ∷ path) ≡ None
unfolding leaf_of
leaf_none ts id i f path is at = rw (is, at) refl

leaf_nil : (ts : Types) (id : ℕ) → leaf_of ts id [] ≡ Some 0
unfolding leaf_of
leaf_nil ts id = refl

reached_cons : (ts : Types) (id i t : ℕ) (f : Form) (path : List ℕ) → form_of ts id ≡ Some f → part_type f i ≡ Some t → reached_type ts id (i ∷ path) ≡ reached_type ts t path
unfolding reached_type
reached_cons ts id i t f path is at = rw (is, at) refl

reached_nil : (ts : Types) (id : ℕ) → reached_type ts id [] ≡ Some id
unfolding reached_type
reached_nil ts id = refl

pub part_cons : (v u : Value) (vs : List Value) (i : ℕ) (path : List ℕ) → out-Value v ≡ Value-F.List vs → slice_get vs i ≡ Some u → part_at v (i ∷ path) ≡ part_at u path
part_cons v u vs i path e g = rw (e, g) refl

part_none : (v : Value) (i : ℕ) (path : List ℕ) → item_at v i ≡ None → part_at v (i ∷ path) ≡ None
part_none v i path h = rw h refl

no_item : (v : Value) (vs : List Value) (i : ℕ) → out-Value v ≡ Value-F.List vs → slice_get vs i ≡ None → item_at v i ≡ None
no_item v vs i e g = rw (e, g) refl

scalar_none : (P : Cell → Type 0) (v : Value) (i : ℕ) → IsSomeAnd (scalar_in (out-Value v)) P → item_at v i ≡ None
scalar_none P v i h = level (out-Value v) refl h
  where
    level : (l : Value-F Value) → out-Value v ≡ l → IsSomeAnd (scalar_in l) P → option_and_then (λ vs. slice_get vs i) (parts_in l) ≡ None
    level (Value-F.Scalar c) e h = refl
    level (Value-F.List vs) e h = absurd h
    level (Value-F.Ptr p) e h = refl

pointer_none : (P : Reference → Type 0) (v : Value) (i : ℕ) → IsSomeAnd (pointer_in (out-Value v)) P → item_at v i ≡ None
pointer_none P v i h = level (out-Value v) refl h
  where
    level : (l : Value-F Value) → out-Value v ≡ l → IsSomeAnd (pointer_in l) P → option_and_then (λ vs. slice_get vs i) (parts_in l) ≡ None
    level (Value-F.Scalar c) e h = refl
    level (Value-F.List vs) e h = absurd h
    level (Value-F.Ptr p) e h = refl

-- ---- values of types with numbers of leaves

-- what a path names: the leaves before the part, its type, and the part
pub record Found (ts : Types) (id : ℕ) (path : List ℕ) (v : Value) : Type 0 where
  pub before : ℕ
  pub type : ℕ
  pub part : Value
  pub leaf : leaf_of ts id path ≡ Some before
  pub typed : reached_type ts id path ≡ Some type
  pub is : part_at v path ≡ Some part
  pub size : (is_counted ts type ≡ true) ⊎ (before + length (leaves part) ≡ length (leaves v))

abbrev pub NotFound : Types → ℕ → List ℕ → Value → Type 0
NotFound ts id path v = (leaf_of ts id path ≡ None) × (part_at v path ≡ None)

-- the same, where the part's type has a number of leaves
pub record FoundWhole (ts : Types) (id : ℕ) (path : List ℕ) (v : Value) : Type 0 where
  pub before : ℕ
  pub type : ℕ
  pub part : Value
  pub leaf : leaf_of ts id path ≡ Some before
  pub typed : reached_type ts id path ≡ Some type
  pub is : part_at v path ≡ Some part
  pub counted : is_counted ts type ≡ true

module _ (ts : Types) (roots : Root → Option ℕ) (sound : AreSound ts) where
  -- elements of an array or vector
  elements : (f : Form) (element i c count : ℕ) (v : Value) (vs : List Value) → cells_of ts element ≡ Some c
      → part_of (cells_of ts) f i ≡ (if nat_lt i count then element_part (cells_of ts) element i else None) → part_type f i ≡ Some element
      → out-Value v ≡ Value-F.List vs → length vs ≡ count → All (HasShape ts roots element) vs → NoPart ts f v i ⊎ PartIs ts roots f v i
  elements f element i c count v vs h same typed e long all = elim (at_index vs i) [
    | inl at ↦ inr (record {
      before = c * i;
      type = element;
      values = vs;
      part = at.0;
      at = same ∙ rw (lt-ltb i count (subst (λ (n : ℕ). i < n) long at.1), h) refl;
      typed = typed;
      is = e;
      found = at.2;
      shape = all_at (HasShape ts roots element) vs i at.0 all at.2;
      counted = is_counted_by (cells_of ts element) c h;
    })
    | inr past ↦ inl (same ∙ rw (not_below i count (subst (λ (n : ℕ). n ≤ i) long past.0)) refl, no_item v vs i e past.1)
  ]

  -- a member of a struct
  member_step : (members : List Member) (block : Bool) (v : Value) (vs : List Value) (i : ℕ) → out-Value v ≡ Value-F.List vs → NoMember members vs i
      → NoPart ts (Struct members block) v i
  member_step members block v vs i e none = (rw (none.0) refl, no_item v vs i e none.1)

  member_part_is : (members : List Member) (i b : ℕ) (m : Member) → slice_get members i ≡ Some m → members_cells (cells_of ts) (take i members) ≡ Some b
      → member_part (cells_of ts) members i ≡ Some (b, m.ty)
  member_part_is members i b m h g = rw (h, g) refl

  member_type_is : (members : List Member) (block : Bool) (i : ℕ) (m : Member) → slice_get members i ≡ Some m → part_type (Struct members block) i ≡ Some m.ty
  member_type_is members block i m h = rw h refl

  part_step : (f : Form) (v : Value) (i n : ℕ) → cells_step (cells_of ts) f ≡ Some n → shape_step ts roots (HasShape ts roots) f v → NoPart ts f v i ⊎ PartIs ts roots f v i
  part_step Void v i n h s = absurd s
  part_step Boolean v i n h s = inl (refl, scalar_none _ v i s)
  part_step (Int width sign) v i n h s = inl (refl, scalar_none _ v i s)
  part_step (Vector component count) v i n h s =
      let times = times_is (cells_of ts component) count n h in
      let many = many_is _ v s in
      elements (Vector component count) component i times.0 count v many.0 times.1 refl refl many.1 many.2.0 many.2.1
  part_step (Array element None stride) v i n h s = absurd cc
  part_step (Array element (Some size) stride) v i n h s =
      let times = times_is (cells_of ts element) size n h in
      let many = many_is _ v s in
      let long : length many.0 ≡ size = let e = many.2.0 in cc in
      elements (Array element (Some size) stride) element i times.0 size v many.0 times.1 refl refl many.1 long many.2.1
  part_step (Runtime element stride) v i n h s = absurd cc
  part_step (Struct members block) v i n h s =
      let many = many_is _ v s in
      elim (counted_member ts roots members many.0 i n many.2 h) [
        | inl none ↦ inl (member_step members block v many.0 i many.1 none)
        | inr at ↦ inr (whole members block v many.0 i many.1 at.0 at.1)
      ]
    where
      whole : (members : List Member) (block : Bool) (v : Value) (vs : List Value) (i : ℕ) → out-Value v ≡ Value-F.List vs → (at : MemberAt ts roots members vs i) → is_counted ts at.member.ty ≡ true
          → PartIs ts roots (Struct members block) v i
      whole members block v vs i e at counted =
          record {
            before = at.before;
            type = at.member.ty;
            values = vs;
            part = at.part;
            at = member_part_is members i at.before at.member at.is at.sum;
            typed = member_type_is members block i at.member at.is;
            is = e;
            found = at.found;
            shape = at.shape;
            counted = counted;
          }
  part_step (Pointer class target) v i n h s = inl (refl, pointer_none _ v i s)
  part_step (Function returns parameters) v i n h s = absurd s

  -- ---- paths

  cons_found : (id i : ℕ) (path : List ℕ) (v : Value) (f : Form) → form_of ts id ≡ Some f → (p : PartIs ts roots f v i) → FoundWhole ts p.type path p.part → FoundWhole ts id (i ∷ path) v
  cons_found id i path v f is p inner = record {
    before = p.before + inner.before;
    type = inner.type;
    part = inner.part;
    leaf = leaf_cons ts id i p.before p.type f path is p.at ∙ ap (option_map (λ n. p.before + n)) inner.leaf;
    typed = reached_cons ts id i p.type f path is p.typed ∙ inner.typed;
    is = part_cons v p.part p.values i path p.is p.found ∙ inner.is;
    counted = inner.counted;
  }

  cons_not : (id i : ℕ) (path : List ℕ) (v : Value) (f : Form) → form_of ts id ≡ Some f → (p : PartIs ts roots f v i) → NotFound ts p.type path p.part → NotFound ts id (i ∷ path) v
  cons_not id i path v f is p none =
      (leaf_cons ts id i p.before p.type f path is p.at ∙ ap (option_map (λ n. p.before + n)) none.0, part_cons v p.part p.values i path p.is p.found ∙ none.1)

  pub counted_path : (path : List ℕ) (id : ℕ) (v : Value) → is_counted ts id ≡ true → HasShape ts roots id v → NotFound ts id path v ⊎ FoundWhole ts id path v
  counted_path [] id v counted shape = inr (record { before = 0; type = id; part = v; leaf = leaf_nil ts id; typed = reached_nil ts id; is = refl; counted = counted })
  counted_path (i ∷ path) id v counted shape =
      let f = shape_formed ts roots id v shape in
      let n = some_at (cells_of ts id) counted in
      let step : shape_step ts roots (HasShape ts roots) f.0 v = (shapes_are_by_forms ts roots sound id f.0 v f.1).0 shape in
      elim (part_step f.0 v i n.0 (sym (cells_by_form ts sound id f.0 f.1) ∙ n.1) step) [
        | inl none ↦ inl (leaf_none ts id i f.0 path f.1 none.0, part_none v i path none.1)
        | inr p ↦ elim (counted_path path p.type p.part p.counted p.shape) [
          | inl none ↦ inl (cons_not id i path v f.0 f.1 p none)
          | inr found ↦ inr (cons_found id i path v f.0 f.1 p found)
        ]
      ]

  -- ---- blocks that end in a runtime array

  pub counted_no_array : (t : ℕ) → is_counted ts t ≡ true → is_runtime (form_of ts t) ≡ false
  counted_no_array t h = go (form_of ts t) refl
    where
      go : (o : Option Form) → form_of ts t ≡ o → is_runtime o ≡ false
      go None e = refl
      go (Some Void) e = refl
      go (Some Boolean) e = refl
      go (Some (Int width sign)) e = refl
      go (Some (Vector component count)) e = refl
      go (Some (Array element length stride)) e = refl
      go (Some (Runtime element stride)) e =
          let none : cells_of ts t ≡ None = cells_by_form ts sound t (Runtime element stride) e in
          absurd (let n = some_at (cells_of ts t) h in let i = n.1 in cc)
      go (Some (Struct members block)) e = refl
      go (Some (Pointer class target)) e = refl
      go (Some (Function returns parameters)) e = refl

  -- a part of a member, of the member's part
  member_found : (id k : ℕ) (path : List ℕ) (v : Value) (vs : List Value) (members : List Member) (block : Bool) → form_of ts id ≡ Some (Struct members block) → out-Value v ≡ Value-F.List vs
      → (at : MemberAt ts roots members vs k) → FoundWhole ts at.member.ty path at.part → Found ts id (k ∷ path) v
  member_found id k path v vs members block is e at inner = record {
    before = at.before + inner.before;
    type = inner.type;
    part = inner.part;
    leaf = leaf_cons ts id k at.before at.member.ty (Struct members block) path is (member_part_is members k at.before at.member at.is at.sum) ∙ ap (option_map (λ n. at.before + n)) inner.leaf;
    typed = reached_cons ts id k at.member.ty (Struct members block) path is (member_type_is members block k at.member at.is) ∙ inner.typed;
    is = part_cons v at.part vs k path e at.found ∙ inner.is;
    size = inl inner.counted;
  }

  member_not : (id k : ℕ) (path : List ℕ) (v : Value) (vs : List Value) (members : List Member) (block : Bool) → form_of ts id ≡ Some (Struct members block) → out-Value v ≡ Value-F.List vs
      → (at : MemberAt ts roots members vs k) → NotFound ts at.member.ty path at.part → NotFound ts id (k ∷ path) v
  member_not id k path v vs members block is e at none = (
    leaf_cons ts id k at.before at.member.ty (Struct members block) path is (member_part_is members k at.before at.member at.is at.sum) ∙ ap (option_map (λ n. at.before + n)) none.0,
    part_cons v at.part vs k path e at.found ∙ none.1,
  )

  -- the runtime array itself
  array_found : (id k : ℕ) (v : Value) (vs : List Value) (members : List Member) (block : Bool) → form_of ts id ≡ Some (Struct members block) → out-Value v ≡ Value-F.List vs
      → (at : MemberAt ts roots members vs k) → at.before + length (leaves at.part) ≡ length (flat_map leaves vs) → Found ts id (k ∷ []) v
  array_found id k v vs members block is e at sum = record {
    before = at.before + 0;
    type = at.member.ty;
    part = at.part;
    leaf = leaf_cons ts id k at.before at.member.ty (Struct members block) [] is (member_part_is members k at.before at.member at.is at.sum) ∙ ap (option_map (λ n. at.before + n)) (leaf_nil ts at.member.ty);
    typed = reached_cons ts id k at.member.ty (Struct members block) [] is (member_type_is members block k at.member at.is) ∙ reached_nil ts at.member.ty;
    is = part_cons v at.part vs k [] e at.found;
    size = inr (let row = ap length (many_row v vs e) in omega (arith, sum));
  }

  -- an element of it, and a part of an element
  pub record ArrayIs (t : ℕ) : Type 0 where
    pub element : ℕ
    pub stride : Option ℕ
    pub form : form_of ts t ≡ Some (Runtime element stride)
    pub counted : is_counted ts element ≡ true

  pub array_is : (t : ℕ) → is_open_array ts (form_of ts t) ≡ true → ArrayIs t
  array_is t h = go (form_of ts t) refl h
    where
      go : (o : Option Form) → form_of ts t ≡ o → is_open_array ts o ≡ true → ArrayIs t
      go None e h = absurd cc
      go (Some Void) e h = absurd cc
      go (Some Boolean) e h = absurd cc
      go (Some (Int width sign)) e h = absurd cc
      go (Some (Vector component count)) e h = absurd cc
      go (Some (Array element length stride)) e h = absurd cc
      go (Some (Runtime element stride)) e h = record { element = element; stride = stride; form = e; counted = h }
      go (Some (Struct members block)) e h = absurd cc
      go (Some (Pointer class target)) e h = absurd cc
      go (Some (Function returns parameters)) e h = absurd cc

  runtime_part : (element : ℕ) (stride : Option ℕ) (i c : ℕ) → cells_of ts element ≡ Some c → part_of (cells_of ts) (Runtime element stride) i ≡ Some (c * i, element)
  runtime_part element stride i c h = rw h refl

  element_found : (t i : ℕ) (path : List ℕ) (u : Value) (us : List Value) (a : ArrayIs t) (w : Value) → out-Value u ≡ Value-F.List us → slice_get us i ≡ Some w
      → FoundWhole ts a.element path w → FoundWhole ts t (i ∷ path) u
  element_found t i path u us a w e g inner =
      let c = some_at (cells_of ts a.element) a.counted in
      let at = runtime_part a.element a.stride i c.0 c.1 in record {
        before = c.0 * i + inner.before;
        type = inner.type;
        part = inner.part;
        leaf = leaf_cons ts t i (c.0 * i) a.element (Runtime a.element a.stride) path a.form at ∙ ap (option_map (λ n. c.0 * i + n)) inner.leaf;
        typed = reached_cons ts t i a.element (Runtime a.element a.stride) path a.form refl ∙ inner.typed;
        is = part_cons u w us i path e g ∙ inner.is;
        counted = inner.counted;
      }

  element_not : (t i : ℕ) (path : List ℕ) (u : Value) (us : List Value) (a : ArrayIs t) (w : Value) → out-Value u ≡ Value-F.List us → slice_get us i ≡ Some w
      → NotFound ts a.element path w → NotFound ts t (i ∷ path) u
  element_not t i path u us a w e g none =
      let c = some_at (cells_of ts a.element) a.counted in
      let at = runtime_part a.element a.stride i c.0 c.1 in
      (leaf_cons ts t i (c.0 * i) a.element (Runtime a.element a.stride) path a.form at ∙ ap (option_map (λ n. c.0 * i + n)) none.0, part_cons u w us i path e g ∙ none.1)

  elements_are : (v u : Value) (vs us : List Value) → out-Value v ≡ Value-F.List vs → last_of vs ≡ Some u → out-Value u ≡ Value-F.List us → elements_in v ≡ length us
  elements_are v u vs us e l g = rw (e, l, g) refl

  array_at_is : (members : List Member) (block : Bool) (k : ℕ) (m : Member) → slice_get members k ≡ Some m → is_array_at ts (Some (Struct members block)) k ≡ is_runtime (form_of ts m.ty)
  array_at_is members block k m h = rw h refl

  -- whether a path leads past the end of the array, where there are n elements
  abbrev past_end : ℕ → ℕ → List ℕ → Bool
  past_end n id path = option_map_or (λ i. nat_le n i) (element_index ts id path) false

  -- what a path names
  abbrev Names : Bool → ℕ → List ℕ → Value → Type 0
  Names past id path v = (past ≡ true → part_at v path ≡ None) × (past ≡ false → NotFound ts id path v ⊎ Found ts id path v)

  within_names : (past : Bool) (id : ℕ) (path : List ℕ) (v : Value) → past ≡ false → NotFound ts id path v ⊎ Found ts id path v → Names past id path v
  within_names past id path v not named = (λ is. absurd cc, λ is. named)

  -- a path into a member that is no array
  counted_within : (n id k : ℕ) (path : List ℕ) (members : List Member) (block : Bool) (m : Member) → form_of ts id ≡ Some (Struct members block) → slice_get members k ≡ Some m → is_counted ts m.ty ≡ true
      → past_end n id (k ∷ path) ≡ false
  counted_within n id k [] members block m is at counted = refl
  counted_within n id k (i ∷ path) members block m is at counted = rw (is, array_at_is members block k m at, counted_no_array m.ty counted) refl

  array_runtime : (t : ℕ) → (a : ArrayIs t) → is_runtime (form_of ts t) ≡ true
  array_runtime t a = rw (a.form) refl

  array_past : (n id k i : ℕ) (path : List ℕ) (members : List Member) (block : Bool) (m : Member) → form_of ts id ≡ Some (Struct members block) → slice_get members k ≡ Some m → is_runtime (form_of ts m.ty) ≡ true
      → past_end n id (k ∷ i ∷ path) ≡ nat_le n i
  array_past n id k i path members block m is at runtime = rw (is, array_at_is members block k m at, runtime) refl

  le_is : (n i : ℕ) → n ≤ i → nat_le n i ≡ true
  le_is n i h = grind arith

  lt_not : (n i : ℕ) → i < n → nat_le n i ≡ false
  lt_not n i h = grind arith

  -- into the runtime array
  array_names : (id k i : ℕ) (path : List ℕ) (v : Value) (vs us : List Value) (members : List Member) (block : Bool) → form_of ts id ≡ Some (Struct members block) → out-Value v ≡ Value-F.List vs
      → (at : MemberAt ts roots members vs k) → (a : ArrayIs at.member.ty) → last_of vs ≡ Some at.part → out-Value at.part ≡ Value-F.List us → All (HasShape ts roots a.element) us
      → Names (past_end (elements_in v) id (k ∷ i ∷ path)) id (k ∷ i ∷ path) v
  array_names id k i path v vs us members block is e at a l g all =
      let end = array_past (elements_in v) id k i path members block at.member is at.is (array_runtime at.member.ty a) in
      let count = elements_are v at.part vs us e l g in
      elim (at_index us i) [
        | inl w ↦
            let not = end ∙ lt_not (elements_in v) i (subst (λ (n : ℕ). i < n) (sym count) w.1) in
            within_names _ id (k ∷ i ∷ path) v not (elim (counted_path path a.element w.0 a.counted (all_at (HasShape ts roots a.element) us i w.0 all w.2)) [
              | inl none ↦ inl (member_not id k (i ∷ path) v vs members block is e at (element_not at.member.ty i path at.part us a w.0 g w.2 none))
              | inr found ↦ inr (member_found id k (i ∷ path) v vs members block is e at (element_found at.member.ty i path at.part us a w.0 g w.2 found))
            ])
        | inr w ↦
            let is-past = end ∙ le_is (elements_in v) i (subst (λ (n : ℕ). n ≤ i) (sym count) w.0) in
            (λ h. part_cons v at.part vs k (i ∷ path) e at.found ∙ part_none at.part i path (no_item at.part us i g w.1), λ n. absurd cc)
      ]

  open_path : (path : List ℕ) (id : ℕ) (v : Value) (vs : List Value) (members : List Member) (block : Bool) → form_of ts id ≡ Some (Struct members block) → out-Value v ≡ Value-F.List vs
      → AllZip (λ (m : Member). HasShape ts roots m.ty) members vs → end_open ts members ≡ true → Names (past_end (elements_in v) id path) id path v
  open_path [] id v vs members block is e all h = within_names _ id [] v refl (inr (record { before = 0; type = id; part = v; leaf = leaf_nil ts id; typed = reached_nil ts id; is = refl; size = inr (omega arith) }))
  open_path (k ∷ path) id v vs members block is e all h =
      elim (open_member ts roots members vs k all h) [
        | inl none ↦
            let gone = part_none v k path (no_item v vs k e none.1) in
            (λ y. gone, λ n. inl (leaf_none ts id k (Struct members block) path is (member_step members block v vs k e none).0, gone))
        | inr at ↦ elim at.kind [
          | inl counted ↦
              within_names _ id (k ∷ path) v (counted_within (elements_in v) id k path members block at.member is at.is counted)
              (elim (counted_path path at.member.ty at.part counted at.shape) [
                | inl none ↦ inl (member_not id k path v vs members block is e at none)
                | inr found ↦ inr (member_found id k path v vs members block is e at found)
              ])
          | inr o ↦ into path at (array_is at.member.ty o.0) o.1 o.2
        ]
      ]
    where
      into : (path : List ℕ) (at : MemberAt ts roots members vs k) → ArrayIs at.member.ty → last_of vs ≡ Some at.part → at.before + length (leaves at.part) ≡ length (flat_map leaves vs)
          → Names (past_end (elements_in v) id (k ∷ path)) id (k ∷ path) v
      into [] at a l sum = within_names _ id (k ∷ []) v refl (inr (array_found id k v vs members block is e at sum))
      into (i ∷ path) at a l sum =
          let many = many_is (All (HasShape ts roots a.element)) at.part ((shapes_are_by_forms ts roots sound at.member.ty (Runtime a.element a.stride) at.part a.form).0 at.shape) in
          array_names id k i path v vs many.0 members block is e at a l many.1 many.2

  whole_found : (id : ℕ) (path : List ℕ) (v : Value) → FoundWhole ts id path v → Found ts id path v
  whole_found id path v f = record { before = f.before; type = f.type; part = f.part; leaf = f.leaf; typed = f.typed; is = f.is; size = inl f.counted }

  pub record BlockIs (id : ℕ) : Type 0 where
    pub members : List Member
    pub block : Bool
    pub form : form_of ts id ≡ Some (Struct members block)
    pub ended : end_open ts members ≡ true

  pub block_is : (id : ℕ) → is_open_block ts (form_of ts id) ≡ true → BlockIs id
  block_is id h = go (form_of ts id) refl h
    where
      go : (o : Option Form) → form_of ts id ≡ o → is_open_block ts o ≡ true → BlockIs id
      go None e h = absurd cc
      go (Some Void) e h = absurd cc
      go (Some Boolean) e h = absurd cc
      go (Some (Int width sign)) e h = absurd cc
      go (Some (Vector component count)) e h = absurd cc
      go (Some (Array element length stride)) e h = absurd cc
      go (Some (Runtime element stride)) e h = absurd cc
      go (Some (Struct members block)) e h = record { members = members; block = block; form = e; ended = h }
      go (Some (Pointer class target)) e h = absurd cc
      go (Some (Function returns parameters)) e h = absurd cc

  past_counted : (n id : ℕ) (path : List ℕ) → is_counted ts id ≡ true → is_past ts n id path ≡ false
  past_counted n id path h = rw h refl

  past_open : (n id : ℕ) (path : List ℕ) → is_counted ts id ≡ false → is_past ts n id path ≡ past_end n id path
  past_open n id path h = rw h refl

  pub open_target : (id : ℕ) → is_counted ts id ≡ false → may_be_target ts id ≡ true → is_open_block ts (form_of ts id) ≡ true
  open_target id not h = go (is_counted ts id) not h
    where
      go : (b : Bool) → b ≡ false → (b || is_open_block ts (form_of ts id)) ≡ true → is_open_block ts (form_of ts id) ≡ true
      go true e h = absurd cc
      go false e h = h

  pub names : (path : List ℕ) (id : ℕ) (v : Value) → may_be_target ts id ≡ true → HasShape ts roots id v → Names (is_past ts (elements_in v) id path) id path v
  names path id v may shape = go (is_counted ts id) refl
    where
      go : (b : Bool) → is_counted ts id ≡ b → Names (is_past ts (elements_in v) id path) id path v
      go true e = within_names _ id path v (past_counted (elements_in v) id path e) (elim (counted_path path id v e shape) [
        | inl none ↦ inl none
        | inr found ↦ inr (whole_found id path v found)
      ])
      go false e =
          let b = block_is id (open_target id e may) in
          let many = many_is (AllZip (λ (m : Member). HasShape ts roots m.ty) b.members) v ((shapes_are_by_forms ts roots sound id (Struct b.members b.block) v b.form).0 shape) in
          subst (λ (past : Bool). Names past id path v) (sym (past_open (elements_in v) id path e)) (open_path path id v many.0 b.members b.block b.form many.1 many.2 b.ended)
