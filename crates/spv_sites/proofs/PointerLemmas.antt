-- Pointers and other values, by the types of their operands.
use Rattle.std.proofs.Common.{◌≡◌, inl, inr, ℕ, Bool, true, false, [], Option, Some, None, ok_or, refl, ap, subst, arith}
use Rattle.std.proofs.lemmas.Bool.{both_ways}
use Rattle.std.specs.Option.{IsSomeAnd, is_some, option_and_then}
use Rattle.std.specs.Prelude.{if◌then◌else◌}
use Rattle.spv_base.specs.Parts.{part_at}
use Rattle.spv_base.specs.declared.instructions.Inst.{Inst}
use Rattle.spv_base.specs.declared.values.Pointer.{Pointer as Reference}
use Rattle.spv_base.specs.declared.values.Root.{Root}
use Rattle.spv_base.specs.declared.values.Value.{Value, Ptr, out-Value}
use Rattle.spv_base.specs.declared.values.Value.TheOpen.{Value-F}
use Rattle.spv_valid.specs.Below.spv_types.specs.declared.forms.Form.{Form}
use Rattle.spv_valid.specs.Below.spv_types.specs.declared.forms.Form.TheVariants.{Void, Bool as Boolean, Int, Vector, Array, Runtime, Struct, Pointer, Function}
use Rattle.spv_valid.specs.Below.spv_types.specs.Laws.{AreSound}
use Rattle.spv_valid.specs.Below.spv_types.specs.Queries.{is_pointer}
use Rattle.spv_valid.specs.Below.spv_types.specs.Rows.{no_roots}
use Rattle.spv_valid.specs.Below.spv_types.specs.Shapes.{HasShape, LeadsTo, pointer_in}
use Rattle.spv_valid.specs.Below.spv_types.specs.Types.{Types, form_of}
use Rattle.spv_valid.specs.Below.spv_types.proofs.Exports.{shapes_are_by_forms, pointer_by}
use Rattle.spv_valid.specs.Below.spv_bodies.specs.Context.{type_at}
use Rattle.spv_valid.specs.Below.spv_bodies.specs.Matching.{KeepsCopyLogical}
use Rattle.spv_mem.specs.Memory.{root_value}
use Rattle.spv_valid.specs.Acceptance.{Accepted}
use Rattle.spv_operands.specs.Operands.{data_of, pointer_of}
use Rattle.spv_operands.specs.Shapes.{target_in}
use Rattle.spv_operands.specs.Values.{pointer_to}
use Rattle.spv_operands.proofs.Exports.{data_plain}
use Rattle.spv_base.proofs.Exports.{out_pointer}
use Rattle.spv_state.specs.Below.spv_results.specs.Operands.{IsOperand, known}
use Rattle.spv_sites.specs.Fits.{LevelFits}
use Rattle.spv_sites.specs.Kept.{KeepsCopy}
use Rattle.spv_sites.specs.Sites.{IsShaped, Site, part_of}
use Rattle.spv_sites.specs.declared.causes.Cause.TheVariants.{OutOfBounds}

-- ---- values

pub pointer_is : (v : Value) (q : Reference) → pointer_of v ≡ Some q → v ≡ Ptr q
pointer_is v q h = pointer_by v q (by_level (out-Value v) h)
  where
    by_level : (l : Value-F Value) → pointer_in l ≡ Some q → l ≡ Value-F.Ptr q
    by_level (Value-F.Scalar c) h = absurd (cc)
    by_level (Value-F.List vs) h = absurd (cc)
    by_level (Value-F.Ptr p) h = cc

-- a value that is lent is no pointer
lent_plain : (v u : Value) → data_of v ≡ Some u → (is_some (pointer_of v) ≡ false) × (v ≡ u)
lent_plain v u h = by_pointer (is_some (pointer_of v)) h
  where
    by_pointer : (b : Bool) → (if b then None else Some v) ≡ Some u → (b ≡ false) × (v ≡ u)
    by_pointer true e = absurd (cc)
    by_pointer false e = (refl, cc)

-- ---- pointers to variables

-- the part that the pointer to a whole variable names is its value
pub whole_part : (x : Site) (r : Root) → part_of x (pointer_to r) ≡ ok_or (root_value x.state.memory x.inv r) OutOfBounds
whole_part x r = rw (out_pointer (record { root = r; path = [] })) (by_value (root_value x.state.memory x.inv r))
  where
    by_value : (o : Option Value) → ok_or (option_and_then (λ (v : Value). part_at v []) o) OutOfBounds ≡ ok_or o OutOfBounds
    by_value None = refl
    by_value (Some v) = refl

-- ---- pointer types

pub pointer_form : (o : Option Form) → is_pointer o ≡ true → (class : ℕ) × (target : ℕ) × (o ≡ Some (Pointer class target))
pointer_form = grind arith

-- a value of a pointer type leads to the type's target
pub record Leads (ts : Types) (roots : Root → Option ℕ) (target : ℕ) (v : Value) : Type 0 where
  pub place : Reference
  pub is : pointer_of v ≡ Some place
  pub leads : LeadsTo ts roots place target

pub pointed : (ts : Types) (roots : Root → Option ℕ) (id class target : ℕ) (v : Value) → AreSound ts → form_of ts id ≡ Some (Pointer class target) → HasShape ts roots id v → Leads ts roots target v
pointed ts roots id class target v sound is shape = by_place (pointer_of v) refl ((shapes_are_by_forms ts roots sound id (Pointer class target) v is).0 shape)
  where
    by_place : (o : Option Reference) → pointer_of v ≡ o → IsSomeAnd o (λ (p : Reference). LeadsTo ts roots p target) → Leads ts roots target v
    by_place None e h = absurd h
    by_place (Some p) e h = record { place = p; is = e; leads = h }

-- ---- operands

shape_by : (a : Accepted) (ty : ℕ) (v : Value) (b : Bool) → is_pointer (form_of a.types ty) ≡ b → HasShape a.types (if is_pointer (form_of a.types ty) then target_in a ty else no_roots) ty v
    → HasShape a.types (if b then target_in a ty else no_roots) ty v
shape_by a ty v b is h = subst (λ (c : Bool). HasShape a.types (if c then target_in a ty else no_roots) ty v) is h

pub reference_shape : (a : Accepted) (d : Inst) (n ty class target : ℕ) (v : Value) → IsShaped a d n v → type_at (known a) d n ≡ Some ty → form_of a.types ty ≡ Some (Pointer class target) → HasShape a.types (target_in a ty) ty v
reference_shape a d n ty class target v shaped type is = shape_by a ty v true (ap is_pointer is) (shaped ty type)

module _ (a : Accepted) (sound : AreSound a.types) (d : Inst) (n : ℕ) (v : Value) (shaped : IsShaped a d n v) where
  -- a value that is lent has the type of its operand
  pub lent_shape : (u : Value) → data_of v ≡ Some u → IsOperand a d n u
  lent_shape u lent ty type =
      let plain = lent_plain v u lent in
      subst (λ (w : Value). HasShape a.types no_roots ty w) plain.1 (by_type (is_pointer (form_of a.types ty)) refl plain.0)
    where
      by_type : (b : Bool) → is_pointer (form_of a.types ty) ≡ b → is_some (pointer_of v) ≡ false → HasShape a.types no_roots ty v
      by_type true e none =
          let form = pointer_form (form_of a.types ty) e in
          let leads = pointed a.types (target_in a ty) ty form.0 form.1 v sound form.2 (shape_by a ty v true e (shaped ty type)) in
          absurd (both_ways (is_some (pointer_of v)) none (ap is_some leads.is))
      by_type false e none = shape_by a ty v false e (shaped ty type)

  -- and a pointer leads to where this points
  pub pointer_shape : (ty : ℕ) (q : Reference) → type_at (known a) d n ≡ Some ty → pointer_of v ≡ Some q → HasShape a.types (target_in a ty) ty (Ptr q)
  pointer_shape ty q type is = subst (HasShape a.types (target_in a ty) ty) (pointer_is v q is) (by_type (is_pointer (form_of a.types ty)) refl)
    where
      by_type : (b : Bool) → is_pointer (form_of a.types ty) ≡ b → HasShape a.types (target_in a ty) ty v
      by_type true e = shape_by a ty v true e (shaped ty type)
      by_type false e = absurd (both_ways (is_some (pointer_of v)) (data_plain a.types sound ty v (shape_by a ty v false e (shaped ty type))) (ap is_some is))

-- a value of the shape of a type is one of the type, whatever its kind is
pub shaped_level : (a : Accepted) → AreSound a.types → (ty : ℕ) (v : Value) → HasShape a.types (if is_pointer (form_of a.types ty) then target_in a ty else no_roots) ty v → LevelFits a ty v (out-Value v)
shaped_level a sound ty v shape = by_type (is_pointer (form_of a.types ty)) refl
  where
    of_pointer : (target : ℕ) → Leads a.types (target_in a ty) target v → HasShape a.types (target_in a ty) ty v → (l : Value-F Value) → out-Value v ≡ l → LevelFits a ty v l
    of_pointer target leads h (Value-F.Scalar c) e = let none : pointer_of v ≡ None = ap pointer_in e in let some = leads.is in absurd (cc)
    of_pointer target leads h (Value-F.List vs) e = let none : pointer_of v ≡ None = ap pointer_in e in let some = leads.is in absurd (cc)
    of_pointer target leads h (Value-F.Ptr q) e = h

    of_data : HasShape a.types no_roots ty v → (l : Value-F Value) → is_some (pointer_in l) ≡ false → LevelFits a ty v l
    of_data h (Value-F.Scalar c) e = h
    of_data h (Value-F.List vs) e = h
    of_data h (Value-F.Ptr q) e = absurd (cc)

    by_type : (b : Bool) → is_pointer (form_of a.types ty) ≡ b → LevelFits a ty v (out-Value v)
    by_type true e =
        let form = pointer_form (form_of a.types ty) e in
        let h = shape_by a ty v true e shape in
        of_pointer form.1 (pointed a.types (target_in a ty) ty form.0 form.1 v sound form.2 h) h (out-Value v) refl
    by_type false e =
        let h = shape_by a ty v false e shape in
        let plain = data_plain a.types sound ty v h in
        of_data h (out-Value v) plain

-- ---- copies

pub logical_rule : (a : Accepted) (d : Inst) → KeepsCopy a d → d.op ≡ 400 → KeepsCopyLogical (known a) d
logical_rule a d (inl object) op = let one = object.0 in absurd (omega arith)
logical_rule a d (inr logical) op = logical.1
