-- The types that the first instructions of a module declare: they are sound, and stay what they are.
use Rattle.std.proofs.Common.{◌≡◌, ◌∙◌, ℕ, suc, Bool, true, false, List, [], ◌∷◌, ◌++◌, append_assoc, append-nil, slice_get, Option, Some, None, refl, sym, ap, subst}
use Rattle.std.specs.Option.{option_map, option_map_or}
use Rattle.spv_base.specs.declared.instructions.Inst.{Inst}
use Rattle.spv_types.specs.declared.forms.Form.{Form}
use Rattle.spv_types.specs.declared.forms.Form.TheVariants.{Void, Bool as Boolean, Int, Vector, Array, Runtime, Struct, Pointer, Function}
use Rattle.spv_types.specs.declared.forms.Member.{Member}
use Rattle.spv_types.specs.Build.{type_breaches}
use Rattle.spv_types.specs.Laws.{AreSound, ComesBefore}
use Rattle.spv_types.specs.Rules.{form_has_runtime, has_runtime, is_data, is_runtime, last_type}
use Rattle.spv_types.specs.Types.{Types, form_of}
use Rattle.spv_types.specs.Typing.{defined_form, types_in, with_form}
use Rattle.spv_types.proofs.Exports.{types_push, number_form, form_sound, no_types, kept_first}
use Rattle.spv_consts.proofs.Exports.{form_left, types_joined}

-- ---- they are sound

joined_sound : (all before front later : List Inst) → AreSound (types_in all before) → type_breaches all before (front ++ later) ≡ [] → AreSound (types_in all (before ++ front))
joined_sound all before [] later sound h = rw (append-nil before) sound
joined_sound all before (i ∷ front) later sound h =
    let kept = kept_first all before (front ++ later) i h in
    let moved : (before ++ i ∷ []) ++ front ≡ before ++ i ∷ front = append_assoc before (i ∷ []) front in
    let pushed : types_in all (before ++ i ∷ []) ≡ with_form (types_in all before) i.id (defined_form all i) = types_push all before i in
    let one : AreSound (types_in all (before ++ i ∷ [])) = rw pushed (form_sound all (types_in all before) i (defined_form all i) sound kept.0) in
    subst (λ (xs : List Inst). AreSound (types_in all xs)) moved (joined_sound all (before ++ i ∷ []) front later one kept.1)

pub front_sound : (all front later : List Inst) → type_breaches all [] (front ++ later) ≡ [] → AreSound (types_in all front)
front_sound all front later h = joined_sound all [] front later (no_types all) h

-- ---- and stay what they are

last_index : (ms : List Member) (ty : ℕ) → last_type ms ≡ Some ty → (k : ℕ) × (option_map (λ (m : Member). m.ty) (slice_get ms k) ≡ Some ty)
last_index [] ty h = absurd (cc)
last_index (m ∷ []) ty h = (0, h)
last_index (m ∷ n ∷ ms) ty h = let rest = last_index (n ∷ ms) ty h in (suc rest.0, rest.1)

module _ (all front later : List Inst) where
  pub form_stays : (q : ℕ) (f : Form) → form_of (types_in all front) q ≡ Some f → form_of (types_in all (front ++ later)) q ≡ Some f
  form_stays q f h = ap (λ (ts : Types). form_of ts q) (types_joined all front later) ∙ form_left (types_in all front) (types_in all later) q f h

  -- the last member of a struct is no runtime array, and stays none
  last_stays : (q : ℕ) (members : List Member) (block : Bool) (o : Option ℕ) → AreSound (types_in all front) → form_of (types_in all front) q ≡ Some (Struct members block) → last_type members ≡ o
      → option_map_or (λ (ty : ℕ). is_runtime (form_of (types_in all front) ty)) o false ≡ false → option_map_or (λ (ty : ℕ). is_runtime (form_of (types_in all (front ++ later)) ty)) o false ≡ false
  last_stays q members block None sound h last plain = refl
  last_stays q members block (Some ty) sound h last plain =
      let index = last_index members ty last in
      let comes : ComesBefore (types_in all front) ty q = sound.ordered q index.0 ty (Struct members block) h index.1 in
      let form = number_form (types_in all front) ty comes.among.number (0, Void) comes.among.is in
      ap is_runtime (form_stays ty _ form) ∙ sym (ap is_runtime form) ∙ plain

  form_plain : (q : ℕ) (f : Form) → AreSound (types_in all front) → form_of (types_in all front) q ≡ Some f → form_has_runtime (types_in all front) (Some f) ≡ false
      → form_has_runtime (types_in all (front ++ later)) (Some f) ≡ false
  form_plain q Void sound h plain = refl
  form_plain q Boolean sound h plain = refl
  form_plain q (Int width sign) sound h plain = refl
  form_plain q (Vector component count) sound h plain = refl
  form_plain q (Array element n stride) sound h plain = refl
  form_plain q (Runtime element stride) sound h plain = plain
  form_plain q (Struct members block) sound h plain = last_stays q members block (last_type members) sound h refl plain
  form_plain q (Pointer class target) sound h plain = refl
  form_plain q (Function returns parameters) sound h plain = refl

  -- data without a runtime array stays so
  pub plain_stays : (q : ℕ) → AreSound (types_in all front) → is_data (form_of (types_in all front) q) ≡ true → has_runtime (types_in all front) q ≡ false
      → has_runtime (types_in all (front ++ later)) q ≡ false
  plain_stays q sound data_is plain = by_form (form_of (types_in all front) q) refl
    where
      by_form : (o : Option Form) → form_of (types_in all front) q ≡ o → has_runtime (types_in all (front ++ later)) q ≡ false
      by_form None e = let clash : false ≡ true = sym (ap is_data e) ∙ data_is in absurd (cc)
      by_form (Some f) e =
          ap (form_has_runtime (types_in all (front ++ later))) (form_stays q f e)
          ∙ form_plain q f sound e (sym (ap (form_has_runtime (types_in all front)) e) ∙ plain)
