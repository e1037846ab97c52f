-- A type without a runtime array has a number of cells, where each array has its length.
use Rattle.std.proofs.Common.{◌≡◌, ◌∙◌, ◌⊎◌, inl, inr, ℕ, zero, suc, ◌<◌, ◌≤◌, ◌*◌, ◌==◌, ◌&&◌, Bool, true, false, List, [], ◌∷◌, length, Option, Some, None, refl, sym, ap, subst, slice_get, arith}
use Rattle.std.proofs.lemmas.Bool.{and_parts, both_ways, eqb-true, le-leb, not-true, or_cases}
use Rattle.std.specs.Prelude.{nat_le, not}
use Rattle.std.specs.Option.{is_some, option_and_then, option_map, option_map_or}
use Rattle.spv_types.specs.declared.forms.Form.{Form}
use Rattle.spv_types.specs.declared.forms.Form.TheVariants.{Void, Bool as Boolean, Int, Vector, Array, Runtime, Struct, Pointer, Function}
use Rattle.spv_types.specs.declared.forms.Member.{Member}
use Rattle.spv_types.specs.Cells.{added, cells_among, cells_of, cells_step, members_cells}
use Rattle.spv_types.specs.Laws.{AreComplete, AreSound, ComesBefore, IsAmong}
use Rattle.spv_types.specs.Rules.{form_has_runtime, has_runtime, is_data, is_runtime, is_scalar, is_sized_data, keep_members, keeps_form, keeps_member, last_type}
use Rattle.spv_types.specs.Shapes.{part_type}
use Rattle.spv_types.specs.Types.{IsUnset, Types, form_of, number_of}
use Rattle.spv_types.proofs.Exports.{form_number, in_first-found, number_form, number_lt}

-- ---- options of numbers

map_there : (f : ℕ → ℕ) (o : Option ℕ) → is_some o ≡ true → is_some (option_map f o) ≡ true
map_there f None h = h
map_there f (Some n) h = refl

sum_there : (a b : Option ℕ) → is_some a ≡ true → is_some b ≡ true → is_some (added a b) ≡ true
sum_there None b h g = absurd (cc)
sum_there (Some n) None h g = absurd (cc)
sum_there (Some n) (Some m) h g = refl

product_there : (n : Option ℕ) (o : Option ℕ) → is_some n ≡ true → is_some o ≡ true → is_some (option_and_then (λ (n : ℕ). option_map (λ (c : ℕ). c * n) o) n) ≡ true
product_there None o h g = absurd (cc)
product_there (Some n) None h g = absurd (cc)
product_there (Some n) (Some c) h g = refl

-- ---- forms without runtime arrays

pub scalar_plain : (ts : Types) (o : Option Form) → is_scalar o ≡ true → form_has_runtime ts o ≡ false
scalar_plain ts o h = grind arith

pub sized_plain : (ts : Types) (id : ℕ) → is_sized_data ts id ≡ true → has_runtime ts id ≡ false
sized_plain ts id h = not-true (has_runtime ts id) (and_parts (is_data (form_of ts id)) (not (has_runtime ts id)) h).1

-- no member has a runtime array, where the last one is none
abbrev pub Plain : Types → List Member → Type 0
Plain ts [] = Unit {0}
Plain ts (m ∷ ms) = (has_runtime ts m.ty ≡ false) × Plain ts ms

pub member_plain : (ts : Types) (block last : Bool) (ty : ℕ) → keeps_member ts block last ty ≡ true → (last ≡ true → is_runtime (form_of ts ty) ≡ false) → has_runtime ts ty ≡ false
member_plain ts block last ty h apart = by_either (or_cases (is_sized_data ts ty) (last && (block && is_runtime (form_of ts ty))) h)
  where
    by_either : (is_sized_data ts ty ≡ true) ⊎ ((last && (block && is_runtime (form_of ts ty))) ≡ true) → has_runtime ts ty ≡ false
    by_either (inl sized) = sized_plain ts ty sized
    by_either (inr open_end) =
        let ends = and_parts last (block && is_runtime (form_of ts ty)) open_end in
        let runtime = and_parts block (is_runtime (form_of ts ty)) ends.1 in
        absurd (both_ways (is_runtime (form_of ts ty)) (apart ends.0) runtime.1)

pub not_last : (m : Member) (ms : List Member) → (length (m ∷ ms) == 0) ≡ true → ⊥
not_last m ms h = let none : length (m ∷ ms) ≡ 0 = eqb-true (length (m ∷ ms)) 0 h in omega arith

pub members_plain : (ts : Types) (block : Bool) (ms : List Member) → keep_members ts block ms ≡ true → option_map_or (λ (ty : ℕ). is_runtime (form_of ts ty)) (last_type ms) false ≡ false → Plain ts ms
unfolding keep_members
members_plain ts block [] h apart = tt
members_plain ts block (m ∷ []) h apart =
    let kept = and_parts (keeps_member ts block true m.ty) (keep_members ts block []) h in
    (member_plain ts block true m.ty kept.0 (λ _. apart), tt)
members_plain ts block (m ∷ n ∷ ms) h apart =
    let kept = and_parts (keeps_member ts block (length (n ∷ ms) == 0) m.ty) (keep_members ts block (n ∷ ms)) h in
    (member_plain ts block (length (n ∷ ms) == 0) m.ty kept.0 (λ last. absurd (not_last n ms last)), members_plain ts block (n ∷ ms) kept.1 apart)

-- ---- the types before a type have numbers of cells

module _ (ts : Types) (sound : AreSound ts) (complete : AreComplete ts (length ts)) where
  -- the parts of a form have numbers of cells
  abbrev Known : ℕ → Form → Type 0
  Known m f = (index part : ℕ) → part_type f index ≡ Some part → has_runtime ts part ≡ false → is_some (cells_among ts m part) ≡ true

  members_there : (m : ℕ) (ms : List Member) → ((index part : ℕ) → option_map (λ (k : Member). k.ty) (slice_get ms index) ≡ Some part → has_runtime ts part ≡ false → is_some (cells_among ts m part) ≡ true)
      → Plain ts ms → is_some (members_cells (cells_among ts m) ms) ≡ true
  unfolding members_cells
  members_there m [] known plain = refl
  members_there m (k ∷ ms) known plain =
      sum_there (cells_among ts m k.ty) (members_cells (cells_among ts m) ms) (known 0 k.ty refl plain.0)
      (members_there m ms (λ index part at. known (suc index) part at) plain.1)

  set_length : (id : ℕ) (f : Form) (element : ℕ) (n stride : Option ℕ) → form_of ts id ≡ Some f → f ≡ Array element n stride → is_some n ≡ true
  set_length id f element None stride is array =
      let number = form_number ts id f is in
      let among : IsAmong ts (length ts) id = record { number = number.0; is = number.1; below = number_lt ts id number.0 number.1 } in
      absurd (complete id among (subst IsUnset (sym (is ∙ ap Some array)) tt))
  set_length id f element (Some n) stride is array = refl

  form_there : (m id : ℕ) (f : Form) → form_of ts id ≡ Some f → keeps_form ts f ≡ true → form_has_runtime ts (Some f) ≡ false → Known m f → is_some (cells_step (cells_among ts m) f) ≡ true
  form_there m id Void is kept plain known = refl
  form_there m id Boolean is kept plain known = refl
  form_there m id (Int width sign) is kept plain known = refl
  form_there m id (Vector component count) is kept plain known =
      let scalar = (and_parts (is_scalar (form_of ts component)) _ kept).0 in
      map_there (λ c. c * count) (cells_among ts m component) (known 0 component refl (scalar_plain ts (form_of ts component) scalar))
  form_there m id (Array element n stride) is kept plain known =
      product_there n (cells_among ts m element) (set_length id (Array element n stride) element n stride is refl) (known 0 element refl (sized_plain ts element kept))
  form_there m id (Runtime element stride) is kept plain known = absurd (cc)
  form_there m id (Struct members block) is kept plain known = members_there m members known (members_plain ts block members kept plain)
  form_there m id (Pointer class target) is kept plain known = refl
  form_there m id (Function returns parameters) is kept plain known = refl

  number_there : (o : Option ℕ) (m : ℕ) → o ≡ Some m → (k : ℕ) → o ≡ Some k → k ≡ m
  number_there o m h k g = let same : Some k ≡ Some m = sym g ∙ h in cc

  no_form : (id n : ℕ) → number_of ts id ≡ Some n → form_of ts id ≡ None → ⊥
  no_form id n number none = let form = number_form ts id n (0, Void) number in let clash : None ≡ Some _ = sym none ∙ form in cc

  cells_by_form : (id n m : ℕ) (f : Form) → number_of ts id ≡ Some n → n < m → form_of ts id ≡ Some f → cells_among ts m id ≡ cells_step (cells_among ts n) f
  unfolding cells_among
  cells_by_form id n m f number less form = in_first-found None cells_step ts m n id number less ∙ ap (λ (o : Option Form). option_map_or (cells_step (cells_among ts n)) o None) form

  -- what is so of a type before some others
  abbrev Counted : ℕ → ℕ → Type 0
  Counted bound id = (n : ℕ) (f : Form) → n < bound → number_of ts id ≡ Some n → form_of ts id ≡ Some f → form_has_runtime ts (Some f) ≡ false → is_some (cells_step (cells_among ts n) f) ≡ true

  part_counted : (bound m part n : ℕ) (o : Option Form) → form_of ts part ≡ o → number_of ts part ≡ Some n → n < m → m < suc bound → has_runtime ts part ≡ false → Counted bound part
      → is_some (cells_among ts m part) ≡ true
  part_counted bound m part n None form number less low apart before = absurd (no_form part n number form)
  part_counted bound m part n (Some g) form number less low apart before =
      let lower : n < bound = omega arith in
      let plain : form_has_runtime ts (Some g) ≡ false = ap (form_has_runtime ts) (sym form) ∙ apart in
      ap is_some (cells_by_form part n m g number less form) ∙ before n g lower number form plain

  -- by how many types there are before a type
  counted_below : (bound id n : ℕ) (f : Form) → n < bound → number_of ts id ≡ Some n → form_of ts id ≡ Some f → form_has_runtime ts (Some f) ≡ false → is_some (cells_step (cells_among ts n) f) ≡ true
  counted_below zero id m f low number is plain = absurd (omega arith)
  counted_below (suc bound) id m f low number is plain =
      form_there m id f is (sound.kept id f is) plain (λ index part at apart.
      let comes : ComesBefore ts part id = sound.ordered id index part f is at in
      let same : comes.number ≡ m = number_there (number_of ts id) m number comes.number comes.is in
      let less : comes.among.number < m = subst (λ (k : ℕ). comes.among.number < k) same comes.among.below in
      part_counted bound m part comes.among.number (form_of ts part) refl comes.among.is less low apart (counted_below bound part))

  pub cells_known : (id : ℕ) (f : Form) → form_of ts id ≡ Some f → has_runtime ts id ≡ false → is_some (cells_of ts id) ≡ true
  unfolding cells_of
  cells_known id f is apart =
      let number = form_number ts id f is in
      let low : number.0 < length ts = number_lt ts id number.0 number.1 in
      let plain : form_has_runtime ts (Some f) ≡ false = ap (form_has_runtime ts) (sym is) ∙ apart in
      ap is_some (cells_by_form id number.0 (length ts) f number.1 low is) ∙ counted_below (length ts) id number.0 f low number.1 is plain

-- a number of cells within a limit
pub within_limit : (o : Option ℕ) → is_some o ≡ true → ((n : ℕ) → o ≡ Some n → n ≤ 4194304) → option_map_or (λ n. nat_le n 4194304) o false ≡ true
within_limit None h limit = absurd (cc)
within_limit (Some n) h limit = le-leb n 4194304 (limit n refl)
