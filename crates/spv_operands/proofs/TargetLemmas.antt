-- Which types the variables of an accepted module may have: those of data, but for runtime arrays by themselves.
use Rattle.std.proofs.Common.{◌≡◌, ◌⊎◌, ◌∙◌, inl, inr, ℕ, ◌==◌, ◌&&◌, Bool, true, false, List, [], ◌∷◌, length, Option, Some, refl, sym, ap, arith}
use Rattle.std.proofs.lemmas.Bool.{and_parts, both_ways, ne_eqb, not-true, or_cases, or_left, or_right}
use Rattle.std.specs.Prelude.{not}
use Rattle.std.specs.Option.{option_map_or}
use Rattle.spv_types.specs.declared.forms.Form.{Form}
use Rattle.spv_types.specs.declared.forms.Form.TheVariants.{Runtime, Struct}
use Rattle.spv_types.specs.declared.forms.Member.{Member}
use Rattle.spv_types.specs.Laws.{AreComplete, AreSound}
use Rattle.spv_types.specs.Rules.{form_has_runtime, has_runtime, is_data, is_runtime, is_sized_data, keep_members, keeps_member, last_type}
use Rattle.spv_types.specs.Types.{Types, form_of}
use Rattle.spv_mem.specs.Targets.{end_open, is_counted, is_open_array, is_open_block, may_be_target}
use Rattle.spv_plans.proofs.Exports.{cells_known}
use Rattle.spv_types.proofs.Exports.{data_form}

-- a runtime array has its form
runtime_form : (o : Option Form) → is_runtime o ≡ true → (element : ℕ) × (stride : Option ℕ) × (o ≡ Some (Runtime element stride))
runtime_form o h = grind arith

module _ (ts : Types) (sound : AreSound ts) (complete : AreComplete ts (length ts)) where
  -- data without a runtime array has a number of cells
  pub plain_counted : (id : ℕ) → is_data (form_of ts id) ≡ true → has_runtime ts id ≡ false → is_counted ts id ≡ true
  plain_counted id data_is plain = let form = data_form (form_of ts id) data_is in cells_known ts sound complete id form.0 form.1 plain

  pub sized_counted : (id : ℕ) → is_sized_data ts id ≡ true → is_counted ts id ≡ true
  sized_counted id sized =
      let parts = and_parts (is_data (form_of ts id)) (not (has_runtime ts id)) sized in
      plain_counted id parts.0 (not-true (has_runtime ts id) parts.1)

  -- a member that is not the last one
  early_counted : (block : Bool) (m n : Member) (ms : List Member) → keeps_member ts block (length (n ∷ ms) == 0) m.ty ≡ true → is_counted ts m.ty ≡ true
  early_counted block m n ms h = by_either (or_cases (is_sized_data ts m.ty) ((length (n ∷ ms) == 0) && (block && is_runtime (form_of ts m.ty))) h)
    where
      later : (length (n ∷ ms) == 0) ≡ false
      later = ne_eqb (length (n ∷ ms)) 0 (λ same. omega arith)

      by_either : (is_sized_data ts m.ty ≡ true) ⊎ (((length (n ∷ ms) == 0) && (block && is_runtime (form_of ts m.ty))) ≡ true) → is_counted ts m.ty ≡ true
      by_either (inl sized) = sized_counted m.ty sized
      by_either (inr last) = absurd (both_ways (length (n ∷ ms) == 0) later (and_parts (length (n ∷ ms) == 0) (block && is_runtime (form_of ts m.ty)) last).0)

  array_open : (o : Option Form) (id : ℕ) → form_of ts id ≡ o → is_runtime o ≡ true → is_open_array ts o ≡ true
  array_open o id is runtime =
      let form = runtime_form o runtime in
      let sized : is_sized_data ts form.0 ≡ true = sound.kept id (Runtime form.0 form.1) (is ∙ form.2) in
      ap (is_open_array ts) form.2 ∙ sized_counted form.0 sized

  members_open : (block : Bool) (ms : List Member) → keep_members ts block ms ≡ true → option_map_or (λ (ty : ℕ). is_runtime (form_of ts ty)) (last_type ms) false ≡ true → end_open ts ms ≡ true
  unfolding keep_members
  members_open block [] h last = absurd (cc)
  members_open block (m ∷ []) h last = array_open (form_of ts m.ty) m.ty refl last
  members_open block (m ∷ n ∷ ms) h last =
      let kept = and_parts (keeps_member ts block (length (n ∷ ms) == 0) m.ty) (keep_members ts block (n ∷ ms)) h in
      rw (early_counted block m n ms kept.0) (members_open block (n ∷ ms) kept.1 last)

  -- a struct, with a runtime array at its end or without one
  pub struct_target : (id : ℕ) (members : List Member) (block : Bool) → form_of ts id ≡ Some (Struct members block) → may_be_target ts id ≡ true
  struct_target id members block is = by_end (has_runtime ts id) refl
    where
      data_is : is_data (form_of ts id) ≡ true
      data_is = ap is_data is

      open_end : has_runtime ts id ≡ true → is_open_block ts (form_of ts id) ≡ true
      open_end e = ap (is_open_block ts) is ∙ members_open block members (sound.kept id (Struct members block) is) (sym (ap (form_has_runtime ts) is) ∙ e)

      by_end : (b : Bool) → has_runtime ts id ≡ b → may_be_target ts id ≡ true
      by_end false e = or_left (is_counted ts id) (is_open_block ts (form_of ts id)) (plain_counted id data_is e)
      by_end true e = or_right (is_counted ts id) (is_open_block ts (form_of ts id)) (open_end e)

  -- sized data
  pub sized_target : (id : ℕ) → is_sized_data ts id ≡ true → may_be_target ts id ≡ true
  sized_target id sized = or_left (is_counted ts id) (is_open_block ts (form_of ts id)) (sized_counted id sized)
