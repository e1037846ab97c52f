-- Built-in values have the shapes of the types that an Input variable may have.
use Rattle.std.proofs.Common.{◌≡◌, ◌∙◌, ℕ, ◌+◌, ◌*◌, ◌/◌, ◌^◌, ◌<◌, ◌≤◌, ◌==◌, ◌&&◌, ◌||◌, Bool, true, false, List, [], ◌∷◌, length, Option, Some, None, refl, sym, ap, subst, arith}
use Rattle.std.proofs.lemmas.Bool.{and_parts, eqb-true}
use Rattle.std.specs.Prelude.{if◌then◌else◌}
use Rattle.std.specs.List.{All}
use Rattle.std.proofs.Math.Nat.{div-le_self}
use Rattle.std.proofs.lemmas.Nat.{mod_below}
use Rattle.std.proofs.lemmas.List.Elements.{All-cons, All-nil}
use Rattle.spv_base.specs.Cell.{IsCell, defined_cell}
use Rattle.spv_base.specs.declared.values.Value.{Value}
use Rattle.spv_base.proofs.Exports.{is_many}
use Rattle.spv_types.specs.declared.forms.Form.{Form}
use Rattle.spv_types.specs.declared.forms.Form.TheVariants.{Void, Bool as Boolean, Int, Vector, Array, Runtime, Struct, Pointer, Function}
use Rattle.spv_types.specs.Laws.{AreSound}
use Rattle.spv_types.specs.Rows.{no_roots}
use Rattle.spv_types.specs.Rules.{is_input, is_three_words, is_word}
use Rattle.spv_types.specs.Shapes.{HasShape}
use Rattle.spv_types.specs.Types.{Types, form_of}
use Rattle.spv_types.proofs.Exports.{shapes_are_by_forms, impossible}
use Rattle.spv_consts.proofs.Exports.{is_scalar}
use Rattle.spv_mem.specs.Targets.{elements_in}
use Rattle.spv_mem.proofs.Exports.{scalar_last}
use Rattle.spv_start.specs.BuiltIns.{Three, built_in, global_id, local_id, three_of, three_words, value_of_three, word}
use Rattle.spv_start.specs.declared.built_ins.Invocation.{Invocation}
use Rattle.spv_initial.specs.Values.{AreNarrow, IsNarrow}
use Rattle.spv_initial.proofs.ElementLemmas.{three_last}

-- ---- how many parts the last part has

three_elements : (o : Option Three) (v : Value) → value_of_three o ≡ Some v → 0 ≡ elements_in v
three_elements None v h = absurd (cc)
three_elements (Some n) v h =
    let same : three_words n ≡ v = cc in
    sym (ap elements_in (sym same) ∙ three_last (defined_cell 32 n.0) (defined_cell 32 n.1) (defined_cell 32 n.2))

pub built_in_elements : (i : Invocation) (kind : ℕ) (v : Value) → built_in i kind ≡ Some v → 0 ≡ elements_in v
built_in_elements i kind v h = by_test (kind == 29) h
  where
    by_test : (b : Bool) → (if b then Some (word i.index) else value_of_three (three_of i kind)) ≡ Some v → 0 ≡ elements_in v
    by_test true g = let same : word i.index ≡ v = cc in sym (ap elements_in (sym same) ∙ scalar_last (defined_cell 32 i.index))
    by_test false g = three_elements (three_of i kind) v g

-- ---- numbers of 32 bits

below_quotient : (n d : ℕ) → n < 2 ^ 32 → n / d < 2 ^ 32
below_quotient n d h = let less : n / d ≤ n = div-le_self n d in omega (arith, h, less)

local_narrow : (size : Three) (n : ℕ) → 1 ≤ size.0 → 1 ≤ size.1 → n < 2 ^ 32 → AreNarrow (local_id size n)
local_narrow size n x y h =
    let q : n / size.0 < 2 ^ 32 = below_quotient n size.0 h in
    let r : n / size.0 / size.1 < 2 ^ 32 = below_quotient (n / size.0) size.1 q in
    (omega (arith, h, x), (omega (arith, q, y), r))

global_narrow : (group size local : Three) → AreNarrow (global_id group size local)
global_narrow group size local = (
  mod_below (group.0 * size.0 + local.0) 4294967296 (omega arith),
  (mod_below (group.1 * size.1 + local.1) 4294967296 (omega arith), mod_below (group.2 * size.2 + local.2) 4294967296 (omega arith)),
)

some_narrow : (o n : Three) → AreNarrow o → ◌≡◌ {A = Option Three} (Some o) (Some n) → AreNarrow n
some_narrow o n h is = let same : o ≡ n = cc in subst AreNarrow same h

three_narrow : (i : Invocation) (kind : ℕ) (n : Three) → IsNarrow i → 1 ≤ i.size.0 → 1 ≤ i.size.1 → three_of i kind ≡ Some n → AreNarrow n
three_narrow i kind n narrow x y h = at_first (kind == 24) h
  where
    at_fourth : (b : Bool) → ◌≡◌ {A = Option Three} (if b then Some (global_id i.group.place i.size (local_id i.size i.index)) else None) (Some n) → AreNarrow n
    at_fourth true g = some_narrow (global_id i.group.place i.size (local_id i.size i.index)) n (global_narrow i.group.place i.size (local_id i.size i.index)) g
    at_fourth false g = absurd (cc)

    at_third : (b : Bool)
        → ◌≡◌ {A = Option Three} (if b then Some (local_id i.size i.index) else if kind == 28 then Some (global_id i.group.place i.size (local_id i.size i.index)) else None) (Some n) → AreNarrow n
    at_third true g = some_narrow (local_id i.size i.index) n (local_narrow i.size i.index x y narrow.index) g
    at_third false g = at_fourth (kind == 28) g

    at_second : (b : Bool)
        → ◌≡◌ {A = Option Three} (if b then Some i.group.place else if kind == 27 then Some (local_id i.size i.index) else if kind == 28 then Some (global_id i.group.place i.size (local_id i.size i.index)) else None) (Some n) → AreNarrow n
    at_second true g = some_narrow i.group.place n narrow.place g
    at_second false g = at_third (kind == 27) g

    at_first : (b : Bool)
        → ◌≡◌ {A = Option Three} (if b then Some i.group.number else if kind == 26 then Some i.group.place else if kind == 27 then Some (local_id i.size i.index) else if kind == 28 then Some (global_id i.group.place i.size (local_id i.size i.index)) else None) (Some n)
        → AreNarrow n
    at_first true g = some_narrow i.group.number n narrow.number g
    at_first false g = at_second (kind == 26) g

-- ---- shapes

word_lane : (n : ℕ) → n < 2 ^ 32 → IsCell (defined_cell 32 n)
word_lane n h = record { narrow = omega arith; fits = h; zero = λ e. absurd (cc) }

word_shape : (ts : Types) (id n : ℕ) → AreSound ts → is_word (form_of ts id) ≡ true → n < 2 ^ 32 → HasShape ts no_roots id (word n)
word_shape ts id n sound h low = by_form (form_of ts id) refl h
  where
    by_form : (o : Option Form) → form_of ts id ≡ o → is_word o ≡ true → HasShape ts no_roots id (word n)
    by_form None e g = impossible g
    by_form (Some Void) e g = impossible g
    by_form (Some Boolean) e g = impossible g
    by_form (Some (Int width sign)) e g =
        let same : width ≡ 32 = eqb-true width 32 g in
        (shapes_are_by_forms ts no_roots sound id (Int width sign) (word n) e).1 (is_scalar (defined_cell 32 n) width (sym same) (word_lane n low))
    by_form (Some (Vector component count)) e g = impossible g
    by_form (Some (Array element len stride)) e g = impossible g
    by_form (Some (Runtime element stride)) e g = impossible g
    by_form (Some (Struct members block)) e g = impossible g
    by_form (Some (Pointer class target)) e g = impossible g
    by_form (Some (Function returns parameters)) e g = impossible g

three_shape : (ts : Types) (id : ℕ) (n : Three) → AreSound ts → is_three_words ts (form_of ts id) ≡ true → AreNarrow n → HasShape ts no_roots id (three_words n)
three_shape ts id n sound h low = by_form (form_of ts id) refl h
  where
    by_form : (o : Option Form) → form_of ts id ≡ o → is_three_words ts o ≡ true → HasShape ts no_roots id (three_words n)
    by_form None e g = impossible g
    by_form (Some Void) e g = impossible g
    by_form (Some Boolean) e g = impossible g
    by_form (Some (Int width sign)) e g = impossible g
    by_form (Some (Vector component count)) e g =
        let both = and_parts (count == 3) (is_word (form_of ts component)) g in
        let same : count ≡ 3 = eqb-true count 3 both.0 in
        let each = word_shape ts component in
        (shapes_are_by_forms ts no_roots sound id (Vector component count) (three_words n) e).1
        (is_many (λ (vs : List Value). (length vs ≡ count) × All (HasShape ts no_roots component) vs) (word n.0 ∷ word n.1 ∷ word n.2 ∷ []) (
          sym same,
          All-cons (HasShape ts no_roots component) (word n.0) (word n.1 ∷ word n.2 ∷ []) (each n.0 sound both.1 low.0)
              (All-cons (HasShape ts no_roots component) (word n.1) (word n.2 ∷ []) (each n.1 sound both.1 low.1.0)
              (All-cons (HasShape ts no_roots component) (word n.2) [] (each n.2 sound both.1 low.1.1) (All-nil (HasShape ts no_roots component)))),
        ))
    by_form (Some (Array element len stride)) e g = impossible g
    by_form (Some (Runtime element stride)) e g = impossible g
    by_form (Some (Struct members block)) e g = impossible g
    by_form (Some (Pointer class target)) e g = impossible g
    by_form (Some (Function returns parameters)) e g = impossible g

pub built_in_shape : (ts : Types) (i : Invocation) (kind id : ℕ) (v : Value) → AreSound ts → IsNarrow i → 1 ≤ i.size.0 → 1 ≤ i.size.1 → is_input ts (Some kind) id ≡ true → built_in i kind ≡ Some v
    → HasShape ts no_roots id v
built_in_shape ts i kind id v sound narrow x y input is = by_test (kind == 29) refl is
  where
    -- one of three words, where it isn't the last kind
    three_input : (a b : Bool) → b ≡ false → (a || (b && is_word (form_of ts id))) ≡ true → a ≡ true
    three_input true b e g = refl
    three_input false true e g = absurd (cc)
    three_input false false e g = impossible g

    by_three : (o : Option Three) → three_of i kind ≡ o → is_three_words ts (form_of ts id) ≡ true → value_of_three o ≡ Some v → HasShape ts no_roots id v
    by_three None e words g = absurd (cc)
    by_three (Some n) e words g =
        let same : three_words n ≡ v = cc in
        subst (HasShape ts no_roots id) same (three_shape ts id n sound words (three_narrow i kind n narrow x y e))

    by_test : (b : Bool) → (kind == 29) ≡ b → (if b then Some (word i.index) else value_of_three (three_of i kind)) ≡ Some v → HasShape ts no_roots id v
    by_test true e g =
        let last : kind ≡ 29 = eqb-true kind 29 e in
        let same : word i.index ≡ v = cc in
        let of_word : is_word (form_of ts id) ≡ true = subst (λ (k : ℕ). is_input ts (Some k) id ≡ true) last input in
        subst (HasShape ts no_roots id) same (word_shape ts id i.index sound of_word narrow.index)
    by_test false e g =
        let words = three_input (((kind == 24 || kind == 26) || (kind == 27 || kind == 28)) && is_three_words ts (form_of ts id)) (kind == 29) e input in
        by_three (three_of i kind) refl (and_parts ((kind == 24 || kind == 26) || (kind == 27 || kind == 28)) (is_three_words ts (form_of ts id)) words).1 g
