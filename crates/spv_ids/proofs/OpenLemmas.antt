-- Parts of memory with a runtime array: where they lie, and the shapes that they have with its number of elements.
use Rattle.std.proofs.Common.{◌≡◌, ◌⊎◌, ◌∙◌, inl, inr, ℕ, zero, suc, ◌==◌, ◌&&◌, Bool, true, false, List, [], ◌∷◌, length, Option, Some, None, slice_get, refl, sym, ap, arith}
use Rattle.std.proofs.lemmas.Bool.{and_parts, both_ways, ne_eqb, or_cases}
use Rattle.std.proofs.lemmas.List.Elements.{All-weaker}
use Rattle.std.specs.List.{All, AllZip}
use Rattle.std.specs.Option.{IsSomeAnd, is_some, option_and_then, option_map, option_map_or}
use Rattle.spv_base.specs.Parts.{part_at, parts_in}
use Rattle.spv_base.specs.declared.values.Value.{Value, out-Value}
use Rattle.spv_base.proofs.Exports.{some_at}
use Rattle.spv_types.specs.declared.forms.Form.{Form}
use Rattle.spv_types.specs.declared.forms.Form.TheVariants.{Runtime, Struct}
use Rattle.spv_types.specs.declared.forms.Member.{Member}
use Rattle.spv_types.specs.Cells.{cells_of, members_cells}
use Rattle.spv_types.specs.Laws.{AreSound}
use Rattle.spv_types.specs.Rows.{no_roots}
use Rattle.spv_types.specs.Rules.{form_has_runtime, has_runtime, is_runtime, is_sized_data, keep_members, keeps_member, last_type}
use Rattle.spv_types.specs.Shapes.{HasShape, part_type, reached_type}
use Rattle.spv_types.specs.Types.{Types, form_of}
use Rattle.spv_types.proofs.Exports.{added_is, cells_by_form, shapes_are_by_forms}
use Rattle.spv_mem.specs.Targets.{count_in, is_counted}
use Rattle.spv_operands.proofs.Exports.{sized_counted}
use Rattle.spv_show.specs.Elements.{with_elements}
use Rattle.spv_show.proofs.Exports.{counted_shape, part_counted, sized_shape}
use Rattle.spv_valid.specs.Acceptance.{Accepted}
use Rattle.spv_valid.specs.Validity.{IsValid}

-- ---- types with a runtime array have no number of cells

module _ (ts : Types) (sound : AreSound ts) where
  reached_counted : (path : List ℕ) (t target n : ℕ) → reached_type ts t path ≡ Some target → cells_of ts t ≡ Some n → (c : ℕ) × (cells_of ts target ≡ Some c)
  unfolding reached_type
  reached_counted [] t target n h counted = let same : t ≡ target = cc in (n, ap (cells_of ts) (sym same) ∙ counted)
  reached_counted (index ∷ path) t target n h counted = by_form (λ u c g e. reached_counted path u target c g e) (form_of ts t) refl h
    where
      by_part : ((u c : ℕ) → reached_type ts u path ≡ Some target → cells_of ts u ≡ Some c → (c : ℕ) × (cells_of ts target ≡ Some c)) → (f : Form) → form_of ts t ≡ Some f → (o : Option ℕ) → part_type f index ≡ o
          → option_and_then (λ u. reached_type ts u path) o ≡ Some target → (c : ℕ) × (cells_of ts target ≡ Some c)
      by_part rest f is None at g = absurd (cc)
      by_part rest f is (Some u) at g =
          let c = part_counted (cells_of ts) f n index u (sym (cells_by_form ts sound t f is) ∙ counted) at in
          rest u c.0 g c.1

      by_form : ((u c : ℕ) → reached_type ts u path ≡ Some target → cells_of ts u ≡ Some c → (c : ℕ) × (cells_of ts target ≡ Some c)) → (o : Option Form) → form_of ts t ≡ o
          → option_and_then (λ u. reached_type ts u path) (option_and_then (λ f. part_type f index) o) ≡ Some target → (c : ℕ) × (cells_of ts target ≡ Some c)
      by_form rest None is g = absurd (cc)
      by_form rest (Some f) is g = by_part rest f is (part_type f index) refl g

  runtime_form : (o : Option Form) → is_runtime o ≡ true → (element : ℕ) × (stride : Option ℕ) × (o ≡ Some (Runtime element stride))
  runtime_form o h = grind arith

  pub runtime_uncounted : (ty n : ℕ) → is_runtime (form_of ts ty) ≡ true → cells_of ts ty ≡ Some n → ⊥
  runtime_uncounted ty n h counted =
      let form = runtime_form (form_of ts ty) h in
      let none = cells_by_form ts sound ty (Runtime form.0 form.1) form.2 in
      cc

  members_uncounted : (ms : List Member) (n : ℕ) → option_map_or (λ (ty : ℕ). is_runtime (form_of ts ty)) (last_type ms) false ≡ true → members_cells (cells_of ts) ms ≡ Some n → ⊥
  unfolding members_cells
  members_uncounted [] n h counted = cc
  members_uncounted (m ∷ []) n h counted = let sum = added_is (cells_of ts m.ty) (members_cells (cells_of ts) []) n counted in runtime_uncounted m.ty sum.0 h sum.2
  members_uncounted (m ∷ k ∷ ms) n h counted = let sum = added_is (cells_of ts m.ty) (members_cells (cells_of ts) (k ∷ ms)) n counted in members_uncounted (k ∷ ms) sum.1 h sum.3

  pub block_uncounted : (ty n : ℕ) (members : List Member) (block : Bool) → form_of ts ty ≡ Some (Struct members block) → has_runtime ts ty ≡ true → cells_of ts ty ≡ Some n → ⊥
  block_uncounted ty n members block is h counted =
      members_uncounted members n (sym (ap (form_has_runtime ts) is) ∙ h) (sym (cells_by_form ts sound ty (Struct members block) is) ∙ counted)

  -- a variable's type has none where a path leads in it to one that has none
  pub open_above : (path : List ℕ) (t target : ℕ) → reached_type ts t path ≡ Some target → ((n : ℕ) → cells_of ts target ≡ Some n → ⊥) → is_counted ts t ≡ false
  open_above path t target h none = by_count (cells_of ts t) refl
    where
      by_count : (o : Option ℕ) → cells_of ts t ≡ o → is_some o ≡ false
      by_count None e = refl
      by_count (Some n) e = let c = reached_counted path t target n h e in absurd (none c.0 c.1)

-- ---- values with a number of elements

module _ (a : Accepted) (k : IsValid a) where
  pub sized_elements : (n ty : ℕ) (v : Value) → is_sized_data a.types ty ≡ true → HasShape a.types no_roots ty v → HasShape (with_elements n a.types) no_roots ty v
  sized_elements n ty v h shape = counted_shape n a.types ty v shape (let c = some_at (cells_of a.types ty) (sized_counted a.types k.types k.lengths ty h) in rw c.1 refl)

  array_by : (P Q : Value → Type 0) (o : Option (List Value)) (n : ℕ) → ((v : Value) → P v → Q v) → option_map_or length o 0 ≡ n → IsSomeAnd o (λ vs. All P vs) → IsSomeAnd o (λ vs. (Some (length vs) ≡ Some n) × All Q vs)
  array_by P Q None n each many h = h
  array_by P Q (Some vs) n each many h = (ap Some many, All-weaker P Q each vs h)

  pub array_elements : (n ty element : ℕ) (stride : Option ℕ) (v : Value) → form_of a.types ty ≡ Some (Runtime element stride) → count_in v ≡ n → HasShape a.types no_roots ty v → HasShape (with_elements n a.types) no_roots ty v
  array_elements n ty element stride v is many shape =
      sized_shape n a.types k.types ty (Runtime element stride) v is
      (array_by (HasShape a.types no_roots element) (HasShape (with_elements n a.types) no_roots element) (parts_in (out-Value v)) n
      (λ u own. sized_elements n element u (k.types.kept ty (Runtime element stride) is) own) many ((shapes_are_by_forms a.types no_roots k.types ty (Runtime element stride) v is).0 shape))

  member_elements : (n : ℕ) (block last : Bool) (m : Member) (v : Value) → keeps_member a.types block last m.ty ≡ true → (last ≡ true → count_in v ≡ n) → HasShape a.types no_roots m.ty v → HasShape (with_elements n a.types) no_roots m.ty v
  member_elements n block last m v h many shape = by_either (or_cases (is_sized_data a.types m.ty) (last && (block && is_runtime (form_of a.types m.ty))) h)
    where
      by_either : (is_sized_data a.types m.ty ≡ true) ⊎ ((last && (block && is_runtime (form_of a.types m.ty))) ≡ true) → HasShape (with_elements n a.types) no_roots m.ty v
      by_either (inl own) = sized_elements n m.ty v own shape
      by_either (inr array) =
          let outer = and_parts last (block && is_runtime (form_of a.types m.ty)) array in
          let form = runtime_form a.types k.types (form_of a.types m.ty) (and_parts block (is_runtime (form_of a.types m.ty)) outer.1).1 in
          array_elements n m.ty form.0 form.1 v form.2 (many outer.0) shape

  members_elements : (n : ℕ) (block : Bool) (ms : List Member) (vs : List Value) (last : ℕ) → suc last ≡ length ms → keep_members a.types block ms ≡ true → option_map count_in (slice_get vs last) ≡ Some n
      → AllZip (λ (m : Member). HasShape a.types no_roots m.ty) ms vs → AllZip (λ (m : Member). HasShape (with_elements n a.types) no_roots m.ty) ms vs
  unfolding keep_members
  members_elements n block [] [] last long h many all = tt
  members_elements n block [] (v ∷ vs) last long h many all = all
  members_elements n block (m ∷ ms) [] last long h many all = all
  members_elements n block (m ∷ []) (v ∷ u ∷ vs) last long h many all = absurd all.1
  members_elements n block (m ∷ []) (v ∷ []) zero long h many all =
      let kept = and_parts (keeps_member a.types block true m.ty) true h in
      let count : count_in v ≡ n = cc in
      (member_elements n block true m v kept.0 (λ e. count) all.0, tt)
  members_elements n block (m ∷ []) (v ∷ []) (suc last) long h many all = absurd (omega (arith, long))
  members_elements n block (m ∷ l ∷ ms) (v ∷ vs) zero long h many all = absurd (omega (arith, long))
  members_elements n block (m ∷ l ∷ ms) (v ∷ vs) (suc last) long h many all =
      let kept = and_parts (keeps_member a.types block (length (l ∷ ms) == 0) m.ty) (keep_members a.types block (l ∷ ms)) h in
      (member_elements n block (length (l ∷ ms) == 0) m v kept.0 (λ e. absurd (both_ways (length (l ∷ ms) == 0) (ne_eqb (length (l ∷ ms)) 0 (λ same. omega arith)) e)) all.0, members_elements n block (l ∷ ms) vs last (omega (arith, long)) kept.1 many all.1)

  pub block_elements : (n ty : ℕ) (members : List Member) (block : Bool) (last : ℕ) (v : Value) → form_of a.types ty ≡ Some (Struct members block) → suc last ≡ length members
      → option_map count_in (part_at v (last ∷ [])) ≡ Some n → HasShape a.types no_roots ty v → HasShape (with_elements n a.types) no_roots ty v
  block_elements n ty members block last v is long many shape =
      sized_shape n a.types k.types ty (Struct members block) v is
      (by_parts (parts_in (out-Value v)) many ((shapes_are_by_forms a.types no_roots k.types ty (Struct members block) v is).0 shape))
    where
      whole : (o : Option Value) → option_map count_in (option_and_then (λ u. part_at u []) o) ≡ Some n → option_map count_in o ≡ Some n
      whole None h = h
      whole (Some u) h = h

      by_parts : (o : Option (List Value)) → option_map count_in (option_and_then (λ u. part_at u []) (option_and_then (λ vs. slice_get vs last) o)) ≡ Some n
          → IsSomeAnd o (λ vs. AllZip (λ (m : Member). HasShape a.types no_roots m.ty) members vs) → IsSomeAnd o (λ vs. AllZip (λ (m : Member). HasShape (with_elements n a.types) no_roots m.ty) members vs)
      by_parts None count h = h
      by_parts (Some vs) count h = members_elements n block members vs last long (k.types.kept ty (Struct members block) is) (whole (slice_get vs last) count) h
