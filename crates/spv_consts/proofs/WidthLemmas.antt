-- What the types before each give by forms: where types are sound, the widths of a type's leaves are made of its form and of
-- those of its parts.
use Rattle.std.proofs.Common.{◌≡◌, ◌∙◌, ℕ, zero, suc, ◌<◌, ◌≤◌, Bool, true, false, List, [], ◌∷◌, ◌++◌, length, map, replicate, Option, Some, None, slice_get, option_map, refl, sym, ap, arith}
use Rattle.std.specs.Prelude.{if◌then◌else◌}
use Rattle.std.specs.Option.{option_map_or}
use Rattle.std.specs.List.{AllByRecursion, flat_map}
use Rattle.spv_types.specs.declared.forms.Form.{Form}
use Rattle.spv_types.specs.declared.forms.Form.TheVariants.{Void, Bool as Boolean, Int, Vector, Array, Runtime, Struct, Pointer, Function}
use Rattle.spv_types.specs.declared.forms.Member.{Member}
use Rattle.spv_types.specs.Types.{Types, form_of, in_first, number_of}
use Rattle.spv_types.specs.Rules.{is_width, keeps_form}
use Rattle.spv_types.specs.Shapes.{part_type}
use Rattle.spv_types.specs.Laws.{AreSound, ComesBefore}
use Rattle.spv_types.proofs.Exports.{in_first-found, number_lt, form_number, width_narrow}
use Rattle.std.proofs.lemmas.Bool.{and_parts}
use Rattle.spv_base.proofs.Exports.{get_replicate}
use Rattle.spv_base.specs.Options.{holds}
use Rattle.spv_consts.specs.Values.{leaf_widths, own_width, part_types, widths_among, widths_step}

-- ---- the parts of a form, listed

pub some_got : (n t index part : ℕ) → slice_get (replicate n t) index ≡ Some part → Some t ≡ Some part
some_got n t index part h = ap Some (sym (get_replicate n index t part h))

pub member_got : (ms : List Member) (index part : ℕ) → slice_get (map (λ (m : Member). m.ty) ms) index ≡ Some part → option_map (λ (m : Member). m.ty) (slice_get ms index) ≡ Some part
member_got [] index part h = cc
member_got (m ∷ ms) zero part h = h
member_got (m ∷ ms) (suc index) part h = member_got ms index part h

pub listed : (f : Form) (index part : ℕ) → slice_get (part_types f) index ≡ Some part → part_type f index ≡ Some part
listed Void index part h = cc
listed Boolean index part h = cc
listed (Int width sign) index part h = cc
listed (Vector component count) index part h = some_got count component index part h
listed (Array element None stride) index part h = cc
listed (Array element (Some n) stride) index part h = some_got n element index part h
listed (Runtime element stride) index part h = cc
listed (Struct members block) index part h = member_got members index part h
listed (Pointer class target) index part h = cc
listed (Function returns parameters) index part h = cc

-- ---- by forms

module _ {A : Type 0} (none : A) (step : (ℕ → A) → Form → A) (ts : Types) (sound : AreSound ts) where
  -- a part has among the types before the whole what it has among all
  part_same : (id m : ℕ) (f : Form) → number_of ts id ≡ Some m → form_of ts id ≡ Some f → (index part : ℕ) → part_type f index ≡ Some part
      → in_first none step ts m part ≡ in_first none step ts (length ts) part
  part_same id m f h is index part at =
      let before : ComesBefore ts part id = sound.ordered id index part f is at in
      let same : before.number ≡ m = let e = before.is in cc in
      let low : before.among.number < m = rw (← same) before.among.below in
      in_first-found none step ts m before.among.number part before.among.is low
      ∙ sym (in_first-found none step ts (length ts) before.among.number part before.among.is (number_lt ts part before.among.number before.among.is))

  -- what a step makes of a form rests on its parts alone
  abbrev pub RestsOnParts : Type 0
  RestsOnParts = (f : Form) (g h : ℕ → A) → ((index part : ℕ) → slice_get (part_types f) index ≡ Some part → g part ≡ h part) → step g f ≡ step h f

  pub by_form : RestsOnParts → (id : ℕ) (f : Form) → form_of ts id ≡ Some f → in_first none step ts (length ts) id ≡ step (in_first none step ts (length ts)) f
  by_form rests id f is =
      let number = form_number ts id f is in
      in_first-found none step ts (length ts) number.0 id number.1 (number_lt ts id number.0 number.1)
      ∙ ap (λ (o : Option Form). option_map_or (step (in_first none step ts number.0)) o none) is
      ∙ rests f (in_first none step ts number.0) (in_first none step ts (length ts)) (λ index part at. part_same id number.0 f number.1 is index part (listed f index part at))

-- ---- widths

pub each_same : {A : Type 0} (g h : ℕ → List A) (types : List ℕ) → ((index part : ℕ) → slice_get types index ≡ Some part → g part ≡ h part) → flat_map g types ≡ flat_map h types
each_same g h [] same = refl
each_same g h (t ∷ types) same =
    let first : g t ≡ h t = same 0 t refl in
    let rest : flat_map g types ≡ flat_map h types = each_same g h types (λ index part at. same (suc index) part at) in
    rw (first, rest) refl

pub widths_by_form : (ts : Types) → AreSound ts → (id : ℕ) (f : Form) → form_of ts id ≡ Some f → leaf_widths ts id ≡ widths_step (leaf_widths ts) f
unfolding leaf_widths widths_among
widths_by_form ts sound id f is =
    by_form [] widths_step ts sound (λ f g h same. ap (λ (ws : List ℕ). own_width f ++ ws) (each_same g h (part_types f) same)) id f is

-- no leaf is wider than 64 bits
abbrev pub Narrow : List ℕ → Type 0
Narrow = AllByRecursion (λ (w : ℕ). w ≤ 64)

narrow_append : (ws vs : List ℕ) → Narrow ws → Narrow vs → Narrow (ws ++ vs)
narrow_append [] vs h g = g
narrow_append (w ∷ ws) vs h g = (h.0, narrow_append ws vs h.1 g)

narrow_parts : (g : ℕ → List ℕ) → ((t : ℕ) → Narrow (g t)) → (types : List ℕ) → Narrow (flat_map g types)
narrow_parts g each [] = tt
narrow_parts g each (t ∷ types) = narrow_append (g t) (flat_map g types) (each t) (narrow_parts g each types)

narrow_own : (ts : Types) (f : Form) → keeps_form ts f ≡ true → Narrow (own_width f)
narrow_own ts Void h = tt
narrow_own ts Boolean h = (omega arith, tt)
narrow_own ts (Int width sign) h = (width_narrow width (and_parts (is_width width) _ h).0, tt)
narrow_own ts (Vector component count) h = tt
narrow_own ts (Array element n stride) h = tt
narrow_own ts (Runtime element stride) h = tt
narrow_own ts (Struct members block) h = tt
narrow_own ts (Pointer class target) h = tt
narrow_own ts (Function returns parameters) h = tt

narrow_among : (ts : Types) → AreSound ts → (n id : ℕ) → Narrow (widths_among ts n id)
unfolding widths_among in_first
narrow_among ts sound zero id = tt
narrow_among ts sound (suc n) id = here (narrow_among ts sound n) (holds n (number_of ts id)) (form_of ts id) refl
  where
    here : ((t : ℕ) → Narrow (widths_among ts n t)) → (b : Bool) (o : Option Form) → form_of ts id ≡ o → Narrow (if b then option_map_or (widths_step (widths_among ts n)) o [] else widths_among ts n id)
    here below true None is = tt
    here below true (Some f) is =
        narrow_append (own_width f) (flat_map (widths_among ts n) (part_types f)) (narrow_own ts f (sound.kept id f is)) (narrow_parts (widths_among ts n) below (part_types f))
    here below false o is = below id

pub widths_narrow : (ts : Types) → AreSound ts → (id : ℕ) → Narrow (leaf_widths ts id)
unfolding leaf_widths
widths_narrow ts sound id = narrow_among ts sound (length ts) id
