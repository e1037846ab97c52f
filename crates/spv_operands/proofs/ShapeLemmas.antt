-- Shapes of data and of pointers, and of the values that operands stand for.
use Rattle.std.proofs.Common.{◌≡◌, ◌∙◌, ℕ, true, false, List, [], length, Option, Some, None, refl, ap}
use Rattle.std.proofs.lemmas.Bool.{both_ways}
use Rattle.std.specs.Option.{IsSomeAnd, is_some, option_map_or}
use Rattle.spv_base.specs.Cell.{Cell}
use Rattle.spv_base.specs.Parts.{parts_in}
use Rattle.spv_base.specs.declared.values.Pointer.{Pointer as Reference}
use Rattle.spv_base.specs.declared.values.Root.{Root}
use Rattle.spv_base.specs.declared.values.Value.{Value, Scalar, List as Many, Ptr, out-Value}
use Rattle.spv_base.specs.declared.values.Value.TheOpen.{Value-F}
use Rattle.spv_base.proofs.Exports.{out_many, out_scalar, out_pointer}
use Rattle.spv_types.specs.declared.forms.Form.{Form}
use Rattle.spv_types.specs.declared.forms.Form.TheVariants.{Void, Bool as Boolean, Int, Vector, Array, Runtime, Struct, Pointer, Function}
use Rattle.spv_types.specs.Laws.{AreSound}
use Rattle.spv_types.specs.Queries.{is_pointer}
use Rattle.spv_types.specs.Rows.{no_roots}
use Rattle.spv_types.specs.Shapes.{HasShape, LeadsTo, pointer_in, reached_type, scalar_in, shape_step}
use Rattle.spv_types.specs.Types.{Types, form_of, found_among}
use Rattle.spv_types.proofs.Exports.{shapes_are_by_forms, shape_formed}
use Rattle.spv_mem.specs.Blanks.{blank_among, blank_of, blank_step}
use Rattle.spv_mem.proofs.Exports.{blank_among_is}
use Rattle.spv_operands.specs.Operands.{pointer_of}

-- ---- values of each kind

many_plain : (vs : List Value) → is_some (pointer_of (Many vs)) ≡ false
many_plain vs = rw (out_many vs) refl

scalar_plain : (c : Cell) → is_some (pointer_of (Scalar c)) ≡ false
scalar_plain c = rw (out_scalar c) refl

-- a value with a scalar or with parts is no pointer
no_scalar : (u : Value-F Value) (P : Cell → Type 0) → IsSomeAnd (scalar_in u) P → is_some (pointer_in u) ≡ false
no_scalar (Value-F.Scalar c) P h = refl
no_scalar (Value-F.List vs) P h = refl
no_scalar (Value-F.Ptr p) P h = absurd h

no_parts : (u : Value-F Value) (P : List Value → Type 0) → IsSomeAnd (parts_in u) P → is_some (pointer_in u) ≡ false
no_parts (Value-F.Scalar c) P h = refl
no_parts (Value-F.List vs) P h = refl
no_parts (Value-F.Ptr p) P h = absurd h

-- ---- a shape is that of a form

-- ---- data and pointers

-- no root has a type, so no pointer leads anywhere
leads_nowhere : (ts : Types) (o : Option Reference) (target : ℕ) → IsSomeAnd o (λ p. LeadsTo ts no_roots p target) → ⊥
leads_nowhere ts None target h = h
leads_nowhere ts (Some p) target h = let none : None ≡ Some target = h in cc

step_plain : (ts : Types) (shape : ℕ → Value → Type 0) (f : Form) (v : Value) → shape_step ts no_roots shape f v → is_some (pointer_of v) ≡ false
step_plain ts shape Void v h = absurd h
step_plain ts shape Boolean v h = no_scalar (out-Value v) _ h
step_plain ts shape (Int width sign) v h = no_scalar (out-Value v) _ h
step_plain ts shape (Vector component count) v h = no_parts (out-Value v) _ h
step_plain ts shape (Array element n stride) v h = no_parts (out-Value v) _ h
step_plain ts shape (Runtime element stride) v h = no_parts (out-Value v) _ h
step_plain ts shape (Struct members block) v h = no_parts (out-Value v) _ h
step_plain ts shape (Pointer class target) v h = absurd (leads_nowhere ts (pointer_of v) target h)
step_plain ts shape (Function returns parameters) v h = absurd h

step_data : (ts : Types) (shape : ℕ → Value → Type 0) (f : Form) (v : Value) → shape_step ts no_roots shape f v → is_pointer (Some f) ≡ false
step_data ts shape Void v h = refl
step_data ts shape Boolean v h = refl
step_data ts shape (Int width sign) v h = refl
step_data ts shape (Vector component count) v h = refl
step_data ts shape (Array element n stride) v h = refl
step_data ts shape (Runtime element stride) v h = refl
step_data ts shape (Struct members block) v h = refl
step_data ts shape (Pointer class target) v h = absurd (leads_nowhere ts (pointer_of v) target h)
step_data ts shape (Function returns parameters) v h = refl

step_pointer : (ts : Types) (roots : Root → Option ℕ) (shape : ℕ → Value → Type 0) (f : Form) (v : Value) → is_some (pointer_of v) ≡ true → shape_step ts roots shape f v → is_pointer (Some f) ≡ true
step_pointer ts roots shape Void v some h = absurd h
step_pointer ts roots shape Boolean v some h = absurd (both_ways (is_some (pointer_of v)) (no_scalar (out-Value v) _ h) some)
step_pointer ts roots shape (Int width sign) v some h = absurd (both_ways (is_some (pointer_of v)) (no_scalar (out-Value v) _ h) some)
step_pointer ts roots shape (Vector component count) v some h = absurd (both_ways (is_some (pointer_of v)) (no_parts (out-Value v) _ h) some)
step_pointer ts roots shape (Array element n stride) v some h = absurd (both_ways (is_some (pointer_of v)) (no_parts (out-Value v) _ h) some)
step_pointer ts roots shape (Runtime element stride) v some h = absurd (both_ways (is_some (pointer_of v)) (no_parts (out-Value v) _ h) some)
step_pointer ts roots shape (Struct members block) v some h = absurd (both_ways (is_some (pointer_of v)) (no_parts (out-Value v) _ h) some)
step_pointer ts roots shape (Pointer class target) v some h = refl
step_pointer ts roots shape (Function returns parameters) v some h = absurd h

module _ (ts : Types) (sound : AreSound ts) where
  shape_of : (roots : Root → Option ℕ) (id : ℕ) (v : Value) (f : Form) → form_of ts id ≡ Some f → HasShape ts roots id v → shape_step ts roots (HasShape ts roots) f v
  shape_of roots id v f is h = (shapes_are_by_forms ts roots sound id f v is).0 h

  -- data is no pointer, and its type is no pointer type
  pub data_plain : (id : ℕ) (v : Value) → HasShape ts no_roots id v → is_some (pointer_of v) ≡ false
  data_plain id v h = let form = shape_formed ts no_roots id v h in step_plain ts (HasShape ts no_roots) form.0 v (shape_of no_roots id v form.0 form.1 h)

  pub data_type : (id : ℕ) (v : Value) → HasShape ts no_roots id v → is_pointer (form_of ts id) ≡ false
  data_type id v h =
      let form = shape_formed ts no_roots id v h in
      ap is_pointer form.1 ∙ step_data ts (HasShape ts no_roots) form.0 v (shape_of no_roots id v form.0 form.1 h)

  -- the type of a pointer is a pointer type
  pub pointer_type : (roots : Root → Option ℕ) (id : ℕ) (p : Reference) → HasShape ts roots id (Ptr p) → is_pointer (form_of ts id) ≡ true
  pointer_type roots id p h =
      let form = shape_formed ts roots id (Ptr p) h in
      let some : is_some (pointer_of (Ptr p)) ≡ true = rw (out_pointer p) refl in
      ap is_pointer form.1 ∙ step_pointer ts roots (HasShape ts roots) form.0 (Ptr p) some (shape_of roots id (Ptr p) form.0 form.1 h)

  -- the pointer to a whole variable leads to what its root's type is
  pub whole_shape : (roots : Root → Option ℕ) (id class target : ℕ) (r : Root) → form_of ts id ≡ Some (Pointer class target) → roots r ≡ Some target
      → HasShape ts roots id (Ptr (record { root = r; path = [] }))
  unfolding reached_type
  whole_shape roots id class target r is named =
      (shapes_are_by_forms ts roots sound id (Pointer class target) (Ptr (record { root = r; path = [] })) is).1 (leads target r named)
    where
      leads : (target : ℕ) (r : Root) → roots r ≡ Some target → IsSomeAnd (pointer_in (out-Value (Ptr (record { root = r; path = [] })))) (λ (p : Reference). LeadsTo ts roots p target)
      leads target r named = rw (out_pointer (record { root = r; path = [] }), named) refl

-- ---- undefined values

blank_step_plain : (e : ℕ) (blank : ℕ → Value) (f : Form) → is_some (pointer_of (blank_step e blank f)) ≡ false
blank_step_plain e blank Void = many_plain []
blank_step_plain e blank Boolean = scalar_plain _
blank_step_plain e blank (Int width sign) = scalar_plain _
blank_step_plain e blank (Vector component count) = many_plain _
blank_step_plain e blank (Array element n stride) = many_plain _
blank_step_plain e blank (Runtime element stride) = many_plain _
blank_step_plain e blank (Struct members block) = many_plain _
blank_step_plain e blank (Pointer class target) = many_plain []
blank_step_plain e blank (Function returns parameters) = many_plain []

pub blank_plain : (ts : Types) (e id : ℕ) → is_some (pointer_of (blank_of ts e id)) ≡ false
unfolding blank_of
blank_plain ts e id = ap (λ (v : Value). is_some (pointer_of v)) (blank_among_is ts e (length ts) id) ∙ by_found (found_among ts (length ts) id)
  where
    by_found : (o : Option (ℕ × Form)) → is_some (pointer_of (option_map_or (λ (f : ℕ × Form). blank_step e (blank_among ts e f.0) f.1) o (Many []))) ≡ false
    by_found None = many_plain []
    by_found (Some f) = blank_step_plain e (blank_among ts e f.0) f.1
