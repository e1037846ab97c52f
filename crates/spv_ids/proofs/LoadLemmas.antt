-- What a pointer loads in a sound state, and the runtime array that it leads to.
use Rattle.std.proofs.Common.{◌≡◌, ◌⊎◌, ◌∙◌, inl, inr, ℕ, zero, suc, ◌-◌, ◌&&◌, Bool, true, false, List, [], ◌∷◌, ◌++◌, length, Option, Some, None, slice_get, refl, sym, ap, subst, arith}
use Rattle.std.proofs.Math.Logic.{∥∥₁_elim}
use Rattle.std.proofs.Props.{props}
use Rattle.std.proofs.lemmas.Bool.{and_parts, both_ways, or_cases}
use Rattle.std.specs.Option.{is_some, option_and_then, option_map, option_map_or}
use Rattle.std.specs.Prelude.{not, nat_le}
use Rattle.spv_base.specs.Entries.{reads}
use Rattle.spv_base.specs.Parts.{part_at, parts_in}
use Rattle.spv_base.specs.Variables.{root_id}
use Rattle.spv_base.specs.declared.values.Pointer.{Pointer as Reference}
use Rattle.spv_base.specs.declared.values.Root.{Root}
use Rattle.spv_base.specs.declared.values.Value.{Value, out-Value}
use Rattle.spv_types.specs.declared.forms.Form.{Form}
use Rattle.spv_types.specs.declared.forms.Form.TheVariants.{Void, Bool as Boolean, Int, Vector, Array, Runtime, Struct, Pointer, Function}
use Rattle.spv_types.specs.declared.forms.Member.{Member}
use Rattle.spv_types.specs.Cells.{cells_of}
use Rattle.spv_types.specs.Laws.{AreSound}
use Rattle.spv_types.specs.Rows.{no_roots}
use Rattle.spv_types.specs.Rules.{form_has_runtime, has_runtime, is_data, is_runtime, is_scalar, is_sized_data, last_type}
use Rattle.spv_types.specs.Shapes.{HasShape, LeadsTo, part_type, reached_type, shape_step}
use Rattle.spv_types.specs.Types.{Types, form_of}
use Rattle.spv_types.proofs.Exports.{no_pointer, shape_formed, shapes_are_by_forms, shapes_keep}
use Rattle.spv_mem.specs.Memory.{IsMemory, IsVariable, NamesArray, load_of, member_of, root_value}
use Rattle.spv_mem.specs.Targets.{count_in, is_array_at, is_counted, is_open_block, may_be_target}
use Rattle.spv_initial.specs.Start.{variables}
use Rattle.spv_initial.specs.Variables.{targets_of}
use Rattle.spv_results.proofs.Exports.{shape_prop, sound_types}
use Rattle.spv_show.specs.Elements.{with_elements}
use Rattle.spv_state.specs.Program.{Program}
use Rattle.spv_state.specs.Sound.{IsSound}
use Rattle.spv_state.specs.State.{State}
use Rattle.spv_valid.specs.Validity.{IsValid}
use Rattle.spv_ids.proofs.OpenLemmas.{array_elements, block_elements, block_uncounted, open_above, runtime_uncounted, sized_elements}
use Rattle.spv_ids.proofs.SharedLemmas.{root_shared}
use Rattle.spv_ids.specs.Typed.{variable_type}

-- ---- what is loaded

-- a pointer of an invocation leads to a type, and names a part of a variable
pub record IsLoaded (p : Program) (s : State) (i : ℕ) (q : Reference) (target : ℕ) (w : Value) : Type 0 where
  pub type : ℕ
  pub named : variable_type p.accepted q.root ≡ Some type
  pub leads : reached_type p.accepted.types type q.path ≡ Some target
  pub value : Value
  pub there : root_value s.memory i q.root ≡ Some value
  pub part : part_at value q.path ≡ Some w

pub loaded : (p : Program) (s : State) (i : ℕ) (q : Reference) (target : ℕ) (w : Value) → LeadsTo p.accepted.types (variable_type p.accepted) q target → load_of s.memory i q ≡ Some w → IsLoaded p s i q target w
loaded p s i q target w leads load =
    let type = by_type (variable_type p.accepted q.root) refl leads in
    let value = by_value (root_value s.memory i q.root) refl load in
    record { type = type.0; named = type.1; leads = type.2; value = value.0; there = value.1; part = value.2 }
  where
    by_type : (o : Option ℕ) → variable_type p.accepted q.root ≡ o → option_and_then (λ t. reached_type p.accepted.types t q.path) o ≡ Some target → (t : ℕ) × (variable_type p.accepted q.root ≡ Some t) × (reached_type p.accepted.types t q.path ≡ Some target)
    by_type None e h = absurd (cc)
    by_type (Some t) e h = (t, e, h)

    by_value : (o : Option Value) → root_value s.memory i q.root ≡ o → option_and_then (λ v. part_at v q.path) o ≡ Some w → (v : Value) × (root_value s.memory i q.root ≡ Some v) × (part_at v q.path ≡ Some w)
    by_value None e h = absurd (cc)
    by_value (Some v) e h = (v, e, h)

-- each variable of a sound state has a value of its type
abbrev pub HaveShapes : Type 0
HaveShapes = (p : Program) (s : State) (i : ℕ) (r : Root) (v : Value) → IsSound p s → root_value s.memory i r ≡ Some v → ∥ IsVariable p.accepted.types (targets_of (variables p.accepted)) (root_id r) v ∥₁

-- ---- paths

part_behind : (path : List ℕ) (v w : Value) (k : ℕ) → part_at v path ≡ Some w → part_at v (path ++ k ∷ []) ≡ part_at w (k ∷ [])
part_behind [] v w k h = let same : v ≡ w = cc in ap (λ (u : Value). part_at u (k ∷ [])) same
part_behind (index ∷ path) v w k h = by_part (λ u g. part_behind path u w k g) (option_and_then (λ vs. slice_get vs index) (parts_in (out-Value v))) h
  where
    by_part : ((u : Value) → part_at u path ≡ Some w → part_at u (path ++ k ∷ []) ≡ part_at w (k ∷ [])) → (o : Option Value) → option_and_then (λ u. part_at u path) o ≡ Some w → option_and_then (λ u. part_at u (path ++ k ∷ [])) o ≡ part_at w (k ∷ [])
    by_part rest None h = absurd (cc)
    by_part rest (Some u) h = rest u h

-- the type that the front of a path reaches
front_reached : (ts : Types) (front : List ℕ) (k t target : ℕ) → reached_type ts t (front ++ k ∷ []) ≡ Some target
    → (block : ℕ) × (reached_type ts t front ≡ Some block) × (option_and_then (λ f. part_type f k) (form_of ts block) ≡ Some target)
unfolding reached_type
front_reached ts [] k t target h = (t, refl, whole (option_and_then (λ f. part_type f k) (form_of ts t)) h)
  where
    whole : (o : Option ℕ) → option_and_then (λ u. reached_type ts u []) o ≡ Some target → o ≡ Some target
    whole None h = absurd (cc)
    whole (Some u) h = h
front_reached ts (index ∷ front) k t target h = by_part (λ u g. front_reached ts front k u target g) (option_and_then (λ f. part_type f index) (form_of ts t)) h
  where
    by_part : ((u : ℕ) → reached_type ts u (front ++ k ∷ []) ≡ Some target → (block : ℕ) × (reached_type ts u front ≡ Some block) × (option_and_then (λ f. part_type f k) (form_of ts block) ≡ Some target)) → (o : Option ℕ)
        → option_and_then (λ u. reached_type ts u (front ++ k ∷ [])) o ≡ Some target
        → (block : ℕ) × (option_and_then (λ u. reached_type ts u front) o ≡ Some block) × (option_and_then (λ f. part_type f k) (form_of ts block) ≡ Some target)
    by_part rest None h = absurd (cc)
    by_part rest (Some u) h = rest u h

-- ---- members that are runtime arrays

sized_none : (ts : Types) (o : Option Form) → is_runtime o ≡ true → (is_data o && not (form_has_runtime ts o)) ≡ false
sized_none ts o h = grind arith

scalar_none : (o : Option Form) → is_runtime o ≡ true → is_scalar o ≡ false
scalar_none o h = grind arith

-- a runtime array is a member of a struct
array_member : (ts : Types) → AreSound ts → (block k target : ℕ) → option_and_then (λ f. part_type f k) (form_of ts block) ≡ Some target → is_runtime (form_of ts target) ≡ true → is_array_at ts (form_of ts block) k ≡ true
array_member ts sound block k target h runtime = by_form (form_of ts block) refl h
  where
    by_member : (o : Option Member) → option_map (λ (m : Member). m.ty) o ≡ Some target → option_map_or (λ (m : Member). is_runtime (form_of ts m.ty)) o false ≡ true
    by_member None g = absurd (cc)
    by_member (Some m) g = let same : m.ty ≡ target = cc in ap (λ (t : ℕ). is_runtime (form_of ts t)) same ∙ runtime

    no_element : (element : ℕ) → element ≡ target → is_sized_data ts element ≡ true → ⊥
    no_element element same kept = both_ways (is_sized_data ts target) (sized_none ts (form_of ts target) runtime) (ap (is_sized_data ts) (sym same) ∙ kept)

    by_form : (o : Option Form) → form_of ts block ≡ o → option_and_then (λ f. part_type f k) o ≡ Some target → is_array_at ts o k ≡ true
    by_form None e g = absurd (cc)
    by_form (Some Void) e g = absurd (cc)
    by_form (Some Boolean) e g = absurd (cc)
    by_form (Some (Int width sign)) e g = absurd (cc)
    by_form (Some (Vector component count)) e g =
        let same : component ≡ target = cc in
        let kept = and_parts (is_scalar (form_of ts component)) (nat_le 2 count && nat_le count 4) (sound.kept block (Vector component count) e) in
        absurd (both_ways (is_scalar (form_of ts target)) (scalar_none (form_of ts target) runtime) (ap (λ (t : ℕ). is_scalar (form_of ts t)) (sym same) ∙ kept.0))
    by_form (Some (Array element n stride)) e g = let same : element ≡ target = cc in absurd (no_element element same (sound.kept block (Array element n stride) e))
    by_form (Some (Runtime element stride)) e g = let same : element ≡ target = cc in absurd (no_element element same (sound.kept block (Runtime element stride) e))
    by_form (Some (Struct members flag)) e g = by_member (slice_get members k) g
    by_form (Some (Pointer class pointed)) e g = absurd (cc)
    by_form (Some (Function returns parameters)) e g = absurd (cc)

-- the last member of a struct, by its number
last_member : (ts : Types) (ms : List Member) (k : ℕ) → suc k ≡ length ms → option_map_or (λ (ty : ℕ). is_runtime (form_of ts ty)) (last_type ms) false ≡ option_map_or (λ (m : Member). is_runtime (form_of ts m.ty)) (slice_get ms k) false
last_member ts [] k long = absurd (omega (arith, long))
last_member ts (m ∷ []) zero long = refl
last_member ts (m ∷ []) (suc k) long = absurd (omega (arith, long))
last_member ts (m ∷ l ∷ ms) zero long = absurd (omega (arith, long))
last_member ts (m ∷ l ∷ ms) (suc k) long = last_member ts (l ∷ ms) k (omega (arith, long))

-- where it is a runtime array, there is one
some_members : (ts : Types) (ms : List Member) → option_map_or (λ (ty : ℕ). is_runtime (form_of ts ty)) (last_type ms) false ≡ true → (k : ℕ) × (suc k ≡ length ms)
some_members ts [] h = absurd (cc)
some_members ts (m ∷ ms) h = (length ms, refl)

-- ---- the array that a pointer leads to

unsized : (d r : Bool) → (d && not r) ≡ false → d ≡ true → r ≡ true
unsized d r h g = grind arith

pub struct_open : (ts : Types) (target : ℕ) (members : List Member) (block : Bool) → form_of ts target ≡ Some (Struct members block) → is_sized_data ts target ≡ false → has_runtime ts target ≡ true
struct_open ts target members block is h = unsized (is_data (form_of ts target)) (has_runtime ts target) h (ap is_data is)

-- the number of the last member of a struct that ends in one
pub last_of : (ts : Types) (target : ℕ) (members : List Member) (block : Bool) (last : ℕ) → form_of ts target ≡ Some (Struct members block) → has_runtime ts target ≡ true → last ≡ length members - 1 → suc last ≡ length members
last_of ts target members block last is runtime at =
    let some = some_members ts members (sym (ap (form_has_runtime ts) is) ∙ runtime) in
    let long = some.1 in
    omega (arith, at, long)

module _ (law : HaveShapes) (p : Program) (s : State) (valid : ∥ IsValid p.accepted ∥₁) (sound : IsSound p s) (i : ℕ) (q : Reference) (target : ℕ) (w : Value) (l : IsLoaded p s i q target w) where
  loaded_shape : HasShape p.accepted.types no_roots target w
  loaded_shape = ∥∥₁_elim (law p s i q.root l.value sound l.there) (shape_prop p.accepted.types no_roots target w) (λ (k : IsVariable p.accepted.types (targets_of (variables p.accepted)) (root_id q.root) l.value).
      let one : Some k.type ≡ Some l.type = sym k.named ∙ l.named in
      let same : k.type ≡ l.type = cc in
      (shapes_keep p.accepted.types no_roots (sound_types p.accepted valid) q.path l.type target l.value w w (subst (λ (t : ℕ). HasShape p.accepted.types no_roots t l.value) same k.shape) l.leads l.part).0)

  pub sized_loaded : (n : ℕ) → is_sized_data p.accepted.types target ≡ true → HasShape (with_elements n p.accepted.types) no_roots target w
  sized_loaded n h = ∥∥₁_elim valid (shape_prop (with_elements n p.accepted.types) no_roots target w) (λ (k : IsValid p.accepted). sized_elements p.accepted k n target w h loaded_shape)

  pub array_loaded : (n element : ℕ) (stride : Option ℕ) → form_of p.accepted.types target ≡ Some (Runtime element stride) → count_in w ≡ n → HasShape (with_elements n p.accepted.types) no_roots target w
  array_loaded n element stride is many =
      ∥∥₁_elim valid (shape_prop (with_elements n p.accepted.types) no_roots target w) (λ (k : IsValid p.accepted). array_elements p.accepted k n target element stride w is many loaded_shape)

  pub block_loaded : (n last : ℕ) (members : List Member) (block : Bool) → form_of p.accepted.types target ≡ Some (Struct members block) → suc last ≡ length members → option_map count_in (load_of s.memory i (member_of q last)) ≡ Some n
      → HasShape (with_elements n p.accepted.types) no_roots target w
  block_loaded n last members block is long many =
      let at : load_of s.memory i (member_of q last) ≡ part_at w (last ∷ []) = ap (option_and_then (λ v. part_at v (q.path ++ last ∷ []))) l.there ∙ part_behind q.path l.value w last l.part in
      ∥∥₁_elim valid (shape_prop (with_elements n p.accepted.types) no_roots target w)
      (λ (k : IsValid p.accepted). block_elements p.accepted k n target members block last w is long (sym (ap (option_map count_in) at) ∙ many) loaded_shape)

  -- the variable is shared, where the type has no number of cells
  names_at : ((n : ℕ) → cells_of p.accepted.types target ≡ Some n → ⊥) → (front : List ℕ) (block k : ℕ) → reached_type p.accepted.types l.type front ≡ Some block → is_array_at p.accepted.types (form_of p.accepted.types block) k ≡ true
      → NamesArray s.memory (record { root = q.root; path = front }) k
  names_at none front block k reached array =
      let shared = root_shared p s valid sound i q.root l.type l.value l.there l.named (open_above p.accepted.types (sound_types p.accepted valid) q.path l.type target l.leads none) in
      record {
        id = shared.0;
        shared = shared.1;
        value = l.value;
        there = sym (ap (λ (r : Root). root_value s.memory i r) shared.1) ∙ l.there;
        type = l.type;
        named = sym (ap (λ (r : Root). reads (root_id r) s.memory.targets) shared.1) ∙ ap (λ (targets : List (ℕ × ℕ)). reads (root_id q.root) targets) sound.targets ∙ l.named;
        block = block;
        leads = ap (λ (ts : Types). reached_type ts l.type front) sound.types ∙ reached;
        array = ap (λ (ts : Types). is_array_at ts (form_of ts block) k) sound.types ∙ array;
      }

  pub block_named : (last : ℕ) (members : List Member) (block : Bool) → form_of p.accepted.types target ≡ Some (Struct members block) → has_runtime p.accepted.types target ≡ true → suc last ≡ length members → NamesArray s.memory q last
  block_named last members block is runtime long =
      let ends : option_map_or (λ (ty : ℕ). is_runtime (form_of p.accepted.types ty)) (last_type members) false ≡ true = sym (ap (form_has_runtime p.accepted.types) is) ∙ runtime in
      let array : is_array_at p.accepted.types (form_of p.accepted.types target) last ≡ true = ap (λ (o : Option Form). is_array_at p.accepted.types o last) is ∙ sym (last_member p.accepted.types members last long) ∙ ends in
      names_at (λ n counted. block_uncounted p.accepted.types (sound_types p.accepted valid) target n members block is runtime counted) q.path target last l.leads array

  pub array_named : is_runtime (form_of p.accepted.types target) ≡ true → (front : List ℕ) (k : ℕ) → q.path ≡ front ++ k ∷ [] → NamesArray s.memory (record { root = q.root; path = front }) k
  array_named runtime front k path =
      let reached = front_reached p.accepted.types front k l.type target (sym (ap (reached_type p.accepted.types l.type) path) ∙ l.leads) in
      names_at (λ n counted. runtime_uncounted p.accepted.types (sound_types p.accepted valid) target n runtime counted) front reached.0 k reached.1
      (array_member p.accepted.types (sound_types p.accepted valid) reached.0 k target reached.2 runtime)

  -- no variable is a runtime array by itself
  pub array_within : is_runtime (form_of p.accepted.types target) ≡ true → q.path ≡ [] → ⊥
  unfolding reached_type
  array_within runtime path = ∥∥₁_elim sound.memory (hlevel props) (λ (m : IsMemory s.memory).
      let same : l.type ≡ target = let one : Some l.type ≡ Some target = sym (ap (reached_type p.accepted.types l.type) path) ∙ l.leads in cc in
      let named : reads (root_id q.root) s.memory.targets ≡ Some target = ap (λ (targets : List (ℕ × ℕ)). reads (root_id q.root) targets) sound.targets ∙ l.named ∙ ap Some same in
      let may : may_be_target p.accepted.types target ≡ true = sym (ap (λ (ts : Types). may_be_target ts target) sound.types) ∙ m.targets (root_id q.root) target named in
      by_either (or_cases (is_counted p.accepted.types target) (is_open_block p.accepted.types (form_of p.accepted.types target)) may))
    where
      no_block : (o : Option Form) → is_runtime o ≡ true → is_open_block p.accepted.types o ≡ false
      no_block o h = grind arith

      by_count : (o : Option ℕ) → cells_of p.accepted.types target ≡ o → is_some o ≡ true → ⊥
      by_count None e h = cc
      by_count (Some n) e h = runtime_uncounted p.accepted.types (sound_types p.accepted valid) target n runtime e

      by_either : (is_counted p.accepted.types target ≡ true) ⊎ (is_open_block p.accepted.types (form_of p.accepted.types target) ≡ true) → ⊥
      by_either (inl counted) = by_count (cells_of p.accepted.types target) refl counted
      by_either (inr block) = both_ways (is_open_block p.accepted.types (form_of p.accepted.types target)) (no_block (form_of p.accepted.types target) runtime) block

  -- a type that isn't sized has a runtime array
  pub other_none : (f : Form) → form_of p.accepted.types target ≡ Some f → is_sized_data p.accepted.types target ≡ false → ((element : ℕ) (stride : Option ℕ) → f ≡ Runtime element stride → ⊥)
      → ((members : List Member) (block : Bool) → f ≡ Struct members block → ⊥) → ⊥
  other_none f is h array struct = by_form f is (sym (ap (λ (o : Option Form). is_data o && not (form_has_runtime p.accepted.types o)) is) ∙ h) array struct ((shapes_are_by_forms p.accepted.types no_roots (sound_types p.accepted valid) target f w is).0 loaded_shape)
    where
      by_form : (f : Form) → form_of p.accepted.types target ≡ Some f → (is_data (Some f) && not (form_has_runtime p.accepted.types (Some f))) ≡ false → ((element : ℕ) (stride : Option ℕ) → f ≡ Runtime element stride → ⊥)
          → ((members : List Member) (block : Bool) → f ≡ Struct members block → ⊥) → shape_step p.accepted.types no_roots (HasShape p.accepted.types no_roots) f w → ⊥
      by_form Void is h array struct shape = shape
      by_form Boolean is h array struct shape = cc
      by_form (Int width sign) is h array struct shape = cc
      by_form (Vector component count) is h array struct shape = cc
      by_form (Array element n stride) is h array struct shape = cc
      by_form (Runtime element stride) is h array struct shape = array element stride refl
      by_form (Struct members block) is h array struct shape = struct members block refl
      by_form (Pointer class pointed) is h array struct shape = no_pointer p.accepted.types w pointed shape
      by_form (Function returns parameters) is h array struct shape = shape

  pub formless_none : form_of p.accepted.types target ≡ None → ⊥
  formless_none none = let form = shape_formed p.accepted.types no_roots target w loaded_shape in let e = form.1 in cc
