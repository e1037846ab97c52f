-- A path whose last index goes further leads to the same type.
use Rattle.std.proofs.Common.{◌≡◌, ◌∙◌, ℕ, ◌+◌, ◌-◌, ◌%◌, ◌^◌, ◌<◌, ◌==◌, nat_lt, Bool, true, false, List, [], ◌∷◌, ◌++◌, length, take, drop, map, Option, Some, None, refl, sym, ap, subst, arith}
use Rattle.std.specs.Prelude.{if◌then◌else◌}
use Rattle.std.specs.Option.{option_and_then, option_map_or}
use Rattle.std.proofs.lemmas.Bool.{and_parts}
use Rattle.std.proofs.lemmas.List.{length-drop, take-append-drop}
use Rattle.std.proofs.lemmas.Bool.Decides.{nat_tests}
use Rattle.spv_base.specs.Cell.{Cell}
use Rattle.spv_base.specs.Entries.{reads}
use Rattle.spv_base.specs.Variables.{root_id}
use Rattle.spv_base.specs.declared.values.Pointer.{Pointer}
use Rattle.spv_types.specs.declared.forms.Form.{Form}
use Rattle.spv_types.specs.Shapes.{part_type, reached_type}
use Rattle.spv_types.specs.Types.{Types, form_of}
use Rattle.spv_mem.specs.Chains.{chooses_element, extended, is_array, moved, ptr_moved}

-- ---- the type that a path reaches, by its front

pub reached_append : (ts : Types) (xs ys : List ℕ) (t u : ℕ) → reached_type ts t xs ≡ Some u → reached_type ts t (xs ++ ys) ≡ reached_type ts u ys
unfolding reached_type
reached_append ts [] ys t u h = let same : t ≡ u = cc in ap (λ (s : ℕ). reached_type ts s ys) same
reached_append ts (x ∷ xs) ys t u h = by_part (λ s. reached_append ts xs ys s u) (option_and_then (λ f. part_type f x) (form_of ts t)) h
  where
    by_part : ((s : ℕ) → reached_type ts s xs ≡ Some u → reached_type ts s (xs ++ ys) ≡ reached_type ts u ys) → (o : Option ℕ) → option_and_then (λ s. reached_type ts s xs) o ≡ Some u
        → option_and_then (λ s. reached_type ts s (xs ++ ys)) o ≡ reached_type ts u ys
    by_part rest None h = absurd (cc)
    by_part rest (Some s) h = rest s h

-- ---- elements of an array have one type

element_type : (o : Option Form) (i j : ℕ) → is_array o ≡ true → option_and_then (λ f. part_type f i) o ≡ option_and_then (λ f. part_type f j) o
element_type o i j h = grind arith

elements_alike : (ts : Types) (t i j : ℕ) → is_array (form_of ts t) ≡ true → reached_type ts t (i ∷ []) ≡ reached_type ts t (j ∷ [])
unfolding reached_type
elements_alike ts t i j h = ap (λ (o : Option ℕ). option_and_then (λ u. reached_type ts u []) o) (element_type (form_of ts t) i j h)

-- ---- the last index

the_array : (ts : Types) (o : Option ℕ) → option_map_or (λ t. is_array (form_of ts t)) o false ≡ true → (t : ℕ) × (o ≡ Some t) × (is_array (form_of ts t) ≡ true)
the_array ts None h = absurd cc
the_array ts (Some t) h = (t, refl, h)

one_item : (xs : List ℕ) → length xs ≡ 1 → (x : ℕ) × (xs ≡ x ∷ [])
one_item [] h = absurd (omega arith)
one_item (x ∷ []) h = (x, refl)
one_item (x ∷ y ∷ xs) h = absurd (omega arith)

last_one : (path : List ℕ) → 0 < length path → (x : ℕ) × (drop (length path - 1) path ≡ x ∷ [])
last_one path h = one_item (drop (length path - 1) path) (length-drop (length path - 1) path ∙ omega arith)

moved_reaches : (ts : Types) (type n : ℕ) (path : List ℕ) → chooses_element ts type path ≡ true → reached_type ts type (moved path n) ≡ reached_type ts type path
moved_reaches ts type n path h =
    let both = and_parts (nat_lt 0 (length path)) (option_map_or (λ t. is_array (form_of ts t)) (reached_type ts type (take (length path - 1) path)) false) h in
    let some : 0 < length path = grind (arith, nat_tests, both.0) in
    let last = last_one path some in
    let array = the_array ts (reached_type ts type (take (length path - 1) path)) both.1 in
    let front = take (length path - 1) path in
    let further : reached_type ts type (front ++ map (λ i. (i + n) % 2 ^ 64) (drop (length path - 1) path)) ≡ reached_type ts array.0 ((last.0 + n) % 2 ^ 64 ∷ []) =
    ap (λ (is : List ℕ). reached_type ts type (front ++ map (λ i. (i + n) % 2 ^ 64) is)) last.1 ∙ reached_append ts front ((last.0 + n) % 2 ^ 64 ∷ []) type array.0 array.1 in
    let whole : front ++ last.0 ∷ [] ≡ path = ap (λ (is : List ℕ). front ++ is) (sym last.1) ∙ take-append-drop (length path - 1) path in
    let here : reached_type ts array.0 (last.0 ∷ []) ≡ reached_type ts type path = sym (reached_append ts front (last.0 ∷ []) type array.0 array.1) ∙ ap (reached_type ts type) whole in
    further ∙ elements_alike ts array.0 ((last.0 + n) % 2 ^ 64) last.0 array.2 ∙ here

-- the path of a pointer from another element on leads where the pointer leads, by the type of its variable
pub ptr_moved_reaches : (ts : Types) (targets : List (ℕ × ℕ)) (p : Pointer) (element : Cell) (path : List ℕ) (type : ℕ) → ptr_moved ts targets p element ≡ Some path
    → reads (root_id p.root) targets ≡ Some type → reached_type ts type path ≡ reached_type ts type p.path
unfolding ptr_moved
ptr_moved_reaches ts targets p element path type h named = by_number (extended element == 0) h
  where
    by_choice : (b : Bool) → chooses_element ts type p.path ≡ b → (if b then Some (moved p.path (extended element)) else None) ≡ Some path → reached_type ts type path ≡ reached_type ts type p.path
    by_choice false e g = absurd cc
    by_choice true e g = let same : moved p.path (extended element) ≡ path = cc in ap (reached_type ts type) (sym same) ∙ moved_reaches ts type (extended element) p.path e

    by_number : (b : Bool) → (if b then Some p.path else if option_map_or (λ t. chooses_element ts t p.path) (reads (root_id p.root) targets) false then Some (moved p.path (extended element)) else None) ≡ Some path
        → reached_type ts type path ≡ reached_type ts type p.path
    by_number true g = let same : p.path ≡ path = cc in ap (reached_type ts type) (sym same)
    by_number false g =
        by_choice (chooses_element ts type p.path) refl
        (ap (λ (o : Option ℕ). if option_map_or (λ t. chooses_element ts t p.path) o false then Some (moved p.path (extended element)) else None) (sym named) ∙ g)
