-- The leaves of types, by their forms, and the parts of values, each with its type.
use Rattle.std.proofs.Common.{◌≡◌, ◌⊎◌, ℕ, zero, suc, ◌+◌, ◌<◌, ◌≤◌, true, List, [], ◌∷◌, length, length-append, take, slice_get, Option, Some, None, refl, subst, inl, inr, arith}
use Rattle.std.proofs.lemmas.Bool.{and_parts}
use Rattle.std.specs.Option.{is_some, option_and_then}
use Rattle.std.specs.List.{All, AllZip, flat_map}
use Rattle.std.proofs.lemmas.List.Elements.{All-head, All-tail}
use Rattle.spv_base.specs.Parts.{parts_in}
use Rattle.spv_base.specs.declared.values.Root.{Root}
use Rattle.spv_base.specs.declared.values.Value.{Value, out-Value}
use Rattle.spv_base.specs.declared.values.Value.TheOpen.{Value-F}
use Rattle.spv_types.specs.declared.forms.Form.{Form}
use Rattle.spv_types.specs.declared.forms.Member.{Member}
use Rattle.spv_types.specs.Types.{Types, form_of}
use Rattle.spv_types.specs.Cells.{cells_of, members_cells}
use Rattle.spv_types.specs.Leaves.{part_of}
use Rattle.spv_types.specs.Rows.{leaves}
use Rattle.spv_types.specs.Shapes.{HasShape, part_type}
use Rattle.spv_types.proofs.Exports.{added_is, shapes_count}
use Rattle.spv_base.proofs.Exports.{some_at}
use Rattle.spv_mem.specs.Targets.{end_open, is_counted, is_open_array, last_of}

-- ---- numbers of leaves

pub is_counted_by : (o : Option ℕ) (n : ℕ) → o ≡ Some n → is_some o ≡ true
is_counted_by o n h = rw h refl

-- ---- a value of a shape has a type with a form

-- ---- one part of a value

-- part i of a value: the leaves before it, its type, and the part
pub record PartIs (ts : Types) (roots : Root → Option ℕ) (f : Form) (v : Value) (i : ℕ) : Type 0 where
  pub before : ℕ
  pub type : ℕ
  pub values : List Value
  pub part : Value
  pub at : part_of (cells_of ts) f i ≡ Some (before, type)
  pub typed : part_type f i ≡ Some type
  pub is : out-Value v ≡ Value-F.List values
  pub found : slice_get values i ≡ Some part
  pub shape : HasShape ts roots type part
  pub counted : is_counted ts type ≡ true

-- the value that an index names in a value
abbrev pub item_at : Value → ℕ → Option Value
item_at v i = option_and_then (λ vs. slice_get vs i) (parts_in (out-Value v))

-- no part i
abbrev pub NoPart : Types → Form → Value → ℕ → Type 0
NoPart ts f v i = (part_of (cells_of ts) f i ≡ None) × (item_at v i ≡ None)

pub at_index : {A : Type 0} (xs : List A) (i : ℕ) → ((x : A) × (i < length xs) × (slice_get xs i ≡ Some x)) ⊎ ((length xs ≤ i) × (slice_get xs i ≡ None))
at_index [] i = inr (omega arith, refl)
at_index (x ∷ xs) zero = inl (x, omega arith, refl)
at_index (x ∷ xs) (suc i) = elim (at_index xs i) [
  | inl h ↦ inl (h.0, omega (arith, h.1), h.2)
  | inr h ↦ inr (omega (arith, h.0), h.1)
]

pub all_at : (P : Value → Type 0) (vs : List Value) (i : ℕ) (u : Value) → All P vs → slice_get vs i ≡ Some u → P u
all_at P [] i u all h = absurd cc
all_at P (v ∷ vs) zero u all h = let e : v ≡ u = cc in subst P e (All-head P v vs all)
all_at P (v ∷ vs) (suc i) u all h = all_at P vs i u (All-tail P v vs all) h

-- members: their values, and the leaves before one of them
pub record MemberAt (ts : Types) (roots : Root → Option ℕ) (ms : List Member) (vs : List Value) (k : ℕ) : Type 0 where
  pub member : Member
  pub part : Value
  pub before : ℕ
  pub is : slice_get ms k ≡ Some member
  pub found : slice_get vs k ≡ Some part
  pub sum : members_cells (cells_of ts) (take k ms) ≡ Some before
  pub shape : HasShape ts roots member.ty part
  pub kind : (is_counted ts member.ty ≡ true)
      ⊎ ((is_open_array ts (form_of ts member.ty) ≡ true) × (last_of vs ≡ Some part) × (before + length (leaves part) ≡ length (flat_map leaves vs)))

abbrev pub NoMember : List Member → List Value → ℕ → Type 0
NoMember ms vs k = (slice_get ms k ≡ None) × (slice_get vs k ≡ None)

module _ (ts : Types) (roots : Root → Option ℕ) where
  abbrev Shapes : List Member → List Value → Type 0
  Shapes ms vs = AllZip (λ (m : Member). HasShape ts roots m.ty) ms vs

  sum_more : (m : Member) (ms : List Member) (k c b : ℕ) → cells_of ts m.ty ≡ Some c → members_cells (cells_of ts) (take k ms) ≡ Some b → members_cells (cells_of ts) (m ∷ take k ms) ≡ Some (c + b)
  unfolding members_cells
  sum_more m ms k c b h g = rw (h, g) refl

  sum_none : members_cells (cells_of ts) [] ≡ Some 0
  unfolding members_cells
  sum_none = refl

  pub counted_member : (ms : List Member) (vs : List Value) (k n : ℕ) → Shapes ms vs → members_cells (cells_of ts) ms ≡ Some n
      → NoMember ms vs k ⊎ ((at : MemberAt ts roots ms vs k) × (is_counted ts at.member.ty ≡ true))
  unfolding members_cells
  counted_member [] [] k n all h = inl (refl, refl)
  counted_member [] (v ∷ vs) k n all h = absurd all
  counted_member (m ∷ ms) [] k n all h = absurd all
  counted_member (m ∷ ms) (v ∷ vs) zero n all h =
      let sum = added_is (cells_of ts m.ty) (members_cells (cells_of ts) ms) n h in
      let one : is_counted ts m.ty ≡ true = is_counted_by (cells_of ts m.ty) sum.0 sum.2 in
      inr (record { member = m; part = v; before = 0; is = refl; found = refl; sum = sum_none; shape = all.0; kind = inl one }, one)
  counted_member (m ∷ ms) (v ∷ vs) (suc k) n all h =
      let sum = added_is (cells_of ts m.ty) (members_cells (cells_of ts) ms) n h in
      elim (counted_member ms vs k sum.1 all.1 sum.3) [
        | inl none ↦ inl none
        | inr at ↦ inr (
          record {
            member = at.0.member;
            part = at.0.part;
            before = sum.0 + at.0.before;
            is = at.0.is;
            found = at.0.found;
            sum = sum_more m ms k sum.0 at.0.before sum.2 at.0.sum;
            shape = at.0.shape;
            kind = inl at.1;
          },
          at.1,
        )
      ]

  later_last : (v : Value) (vs : List Value) (u : Value) → last_of vs ≡ Some u → last_of (v ∷ vs) ≡ Some u
  later_last v [] u h = absurd cc
  later_last v (w ∷ vs) u h = h

  longer_row : (v : Value) (vs : List Value) (c b : ℕ) (u : Value) → length (leaves v) ≡ c → b + length (leaves u) ≡ length (flat_map leaves vs) → (c + b) + length (leaves u) ≡ length (flat_map leaves (v ∷ vs))
  longer_row v vs c b u one rest = rw (length-append (leaves v) (flat_map leaves vs)) (omega arith)

  single_row : (v : Value) → 0 + length (leaves v) ≡ length (flat_map leaves (v ∷ []))
  single_row v = rw (length-append (leaves v) []) (omega arith)

  pub open_member : (ms : List Member) (vs : List Value) (k : ℕ) → Shapes ms vs → end_open ts ms ≡ true → NoMember ms vs k ⊎ MemberAt ts roots ms vs k
  open_member [] vs k all h = absurd cc
  open_member (m ∷ ms) [] k all h = absurd all
  open_member (m ∷ []) (v ∷ u ∷ vs) k all h = absurd all.1
  open_member (m ∷ []) (v ∷ []) zero all h =
      inr (record { member = m; part = v; before = 0; is = refl; found = refl; sum = sum_none; shape = all.0; kind = inr (h, refl, single_row v) })
  open_member (m ∷ []) (v ∷ []) (suc k) all h = inl (refl, refl)
  open_member (m ∷ n ∷ ms) (v ∷ []) k all h = absurd all.1
  open_member (m ∷ n ∷ ms) (v ∷ u ∷ vs) zero all h =
      let both = and_parts (is_counted ts m.ty) (end_open ts (n ∷ ms)) h in
      inr (record { member = m; part = v; before = 0; is = refl; found = refl; sum = sum_none; shape = all.0; kind = inl both.0 })
  open_member (m ∷ n ∷ ms) (v ∷ u ∷ vs) (suc k) all h =
      let both = and_parts (is_counted ts m.ty) (end_open ts (n ∷ ms)) h in
      let c = some_at (cells_of ts m.ty) both.0 in
      elim (open_member (n ∷ ms) (u ∷ vs) k all.1 both.1) [
        | inl none ↦ inl none
        | inr at ↦ inr (record {
          member = at.member;
          part = at.part;
          before = c.0 + at.before;
          is = at.is;
          found = at.found;
          sum = sum_more m (n ∷ ms) k c.0 at.before c.1 at.sum;
          shape = at.shape;
          kind = elim at.kind [
            | inl one ↦ inl one
            | inr o ↦ inr (o.0, later_last v (u ∷ vs) at.part o.1, longer_row v (u ∷ vs) c.0 at.before at.part (shapes_count ts roots m.ty v c.0 all.0 c.1) o.2)
          ];
        })
      ]
