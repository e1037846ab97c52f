-- The indexes of an access chain: the types that they reach are those that the numbers of their cells reach.
use Rattle.std.proofs.Common.{◌≡◌, ◌∙◌, ℕ, zero, suc, ◌+◌, ◌-◌, ◌*◌, ◌^◌, ◌<◌, ◌≤◌, Bool, true, false, List, [], ◌∷◌, ◌++◌, length, map, drop, slice_get, Option, Some, None, refl, sym, ap, subst, arith}
use Rattle.std.proofs.Math.Nat.{pow-suc}
use Rattle.std.proofs.lemmas.Bool.{lt-ltb, ltb-true}
use Rattle.std.proofs.lemmas.List.{length-drop}
use Rattle.std.specs.List.{flat_map, range_with_len}
use Rattle.std.specs.Option.{IsSomeAnd, option_and_then, option_map}
use Rattle.std.specs.Prelude.{◌&&◌, if◌then◌else◌, nat_lt}
use Rattle.spv_base.specs.Cell.{IsCell, Cell}
use Rattle.spv_base.specs.declared.instructions.Operand.{Operand}
use Rattle.spv_base.specs.declared.values.Root.{Root}
use Rattle.spv_base.specs.declared.values.Value.{Value, out-Value}
use Rattle.spv_base.specs.declared.values.Value.TheOpen.{Value-F}
use Rattle.spv_index.specs.Operands.{id_in}
use Rattle.spv_types.specs.declared.forms.Form.{Form}
use Rattle.spv_types.specs.declared.forms.Form.TheVariants.{Void, Bool as Boolean, Int, Vector, Array, Runtime, Struct, Pointer, Function}
use Rattle.spv_types.specs.Laws.{AreSound}
use Rattle.spv_types.specs.Queries.{is_integer, member_type}
use Rattle.spv_types.specs.Rows.{leaves}
use Rattle.spv_types.specs.Shapes.{HasShape, IsScalar, part_type, reached_type, scalar_in}
use Rattle.spv_types.specs.Types.{Types, form_of}
use Rattle.spv_types.proofs.Exports.{scalar_row, shapes_are_by_forms}
use Rattle.spv_bodies.specs.Chains as rule
use Rattle.spv_bodies.specs.Chains.{form_in, index_in, member_number, part_by}
use Rattle.spv_bodies.specs.Context.{Known}
use Rattle.spv_mem.specs.Chains.{extended}
use Rattle.spv_results.specs.Results.{all_of}

-- ---- a cell

scalar_cell : (width : ℕ) (v : Value) → IsScalar width v → (c : Cell) × (leaves v ≡ c ∷ [])
scalar_cell width v h = by_level (out-Value v) refl h
  where
    by_level : (l : Value-F Value) → out-Value v ≡ l → IsSomeAnd (scalar_in l) (λ c. (c.width ≡ width) × IsCell c) → (c : Cell) × (leaves v ≡ c ∷ [])
    by_level (Value-F.Scalar c) e h = (c, scalar_row v c e)
    by_level (Value-F.List vs) e h = absurd h
    by_level (Value-F.Ptr p) e h = absurd h

pub integer_form : (o : Option Form) → is_integer o ≡ true → (width : ℕ) × (sign : ℕ) × (o ≡ Some (Int width sign))
integer_form = grind arith

-- an integer has one
pub integer_cell : (ts : Types) (roots : Root → Option ℕ) (ty : ℕ) (v : Value) → AreSound ts → is_integer (form_of ts ty) ≡ true → HasShape ts roots ty v → (c : Cell) × (leaves v ≡ c ∷ [])
integer_cell ts roots ty v sound is shape =
    let form = integer_form (form_of ts ty) is in
    scalar_cell form.0 v ((shapes_are_by_forms ts roots sound ty (Int form.0 form.1) v form.2).0 shape)

-- a number that isn't below 0 where it is read as signed
doubled : (bits width : ℕ) → bits < 2 ^ (width - 1) → 2 * bits < 2 ^ width
doubled bits zero lt = let one : bits < 1 = lt in omega (arith, one)
doubled bits (suc w) lt =
    let one : suc w - 1 ≡ w = omega arith in
    let less : bits < 2 ^ w = subst (λ (n : ℕ). bits < 2 ^ n) one lt in
    let twice : 2 ^ suc w ≡ 2 ^ w * 2 = pow-suc 2 w in
    omega (arith, less, twice)

pub unsigned : (c : Cell) (n : ℕ) → index_in c ≡ Some n → extended c ≡ n
unsigned c n h = by_defined c.defined h
  where
    by_low : (b : Bool) → nat_lt c.bits (2 ^ (c.width - 1)) ≡ b → (if b then Some c.bits else None) ≡ Some n → extended c ≡ n
    by_low false e h = absurd (cc)
    by_low true e h =
        let low : nat_lt (2 * c.bits) (2 ^ c.width) ≡ true = lt-ltb (2 * c.bits) (2 ^ c.width) (doubled c.bits c.width (ltb-true c.bits (2 ^ (c.width - 1)) e)) in
        let same : c.bits ≡ n = cc in
        ap (λ (b : Bool). if b then c.bits else c.bits + (2 ^ 64 - 2 ^ c.width)) low ∙ same

    by_defined : (b : Bool) → (if b && nat_lt c.bits (2 ^ (c.width - 1)) then Some c.bits else None) ≡ Some n → extended c ≡ n
    by_defined false h = absurd (cc)
    by_defined true h = by_low (nat_lt c.bits (2 ^ (c.width - 1))) refl h

-- ---- indexes

-- what an index stands for: a cell, and the number of the member that it names where it names one
pub record IsIndex (k : Known) (id : ℕ) (v : Value) : Type 0 where
  pub cell : Cell
  pub row : leaves v ≡ cell ∷ []
  pub number : (n : ℕ) → member_number k id ≡ Some n → extended cell ≡ n

part_reached : (k : Known) (id : ℕ) (o : Option Form) (n t : ℕ) → ((m : ℕ) → member_number k id ≡ Some m → n ≡ m) → part_by k id o ≡ Some t → option_and_then (λ f. part_type f n) o ≡ Some t
part_reached = grind arith

-- the cells of some indexes
abbrev cells : List Value → List ℕ
cells vs = map extended (flat_map leaves vs)

-- a step by one index
stepped : (ts : Types) (ty t n : ℕ) (path : List ℕ) (o : Option ℕ) → option_and_then (λ f. part_type f n) (form_of ts ty) ≡ Some t → reached_type ts t path ≡ o → reached_type ts ty (n ∷ path) ≡ o
unfolding reached_type
stepped ts ty t n path o part rest = ap (option_and_then (λ s. reached_type ts s path)) part ∙ rest

unmoved : (ts : Types) (ty target : ℕ) (vs : List Value) → Some [] ≡ Some vs → Some ty ≡ Some target → reached_type ts ty (cells vs) ≡ Some target
unfolding reached_type
unmoved ts ty target [] e h = h
unmoved ts ty target (w ∷ ws) e h = absurd (cc)

cells_step : (v : Value) (c : Cell) (vs : List Value) → leaves v ≡ c ∷ [] → cells (v ∷ vs) ≡ extended c ∷ cells vs
cells_step v c vs row = ap (λ (cs : List Cell). map extended (cs ++ flat_map leaves vs)) row

module _ (k : Known) (v : ℕ → Option Value) (all : List Operand)
    (each : (n id : ℕ) (w : Value) → option_and_then id_in (slice_get all n) ≡ Some id → is_integer (form_in k id) ≡ true → v n ≡ Some w → IsIndex k id w) where
  -- the values of indexes lead as the indexes themselves do by their types
  pub lead : (os : List Operand) (n ty target : ℕ) (vs : List Value) → ((m : ℕ) → slice_get os m ≡ slice_get all (n + m)) → all_of v (range_with_len n (length os)) ≡ Some vs
      → rule.reached_type k ty os ≡ Some target → reached_type k.types ty (cells vs) ≡ Some target
  lead [] n ty target vs at found h = unmoved k.types ty target vs found h
  lead (o ∷ os) n ty target vs at found h =
      by_id (λ t ws. lead os (n + 1) t target ws (λ m. at (suc m) ∙ ap (slice_get all) (let next_one : n + suc m ≡ (n + 1) + m = omega arith in next_one))) (id_in o) refl h
    where
      -- the indexes behind lead on
      Rest : Type 0
      Rest = (t : ℕ) (ws : List Value) → all_of v (range_with_len (n + 1) (length os)) ≡ Some ws → rule.reached_type k t os ≡ Some target → reached_type k.types t (cells ws) ≡ Some target

      by_rest : Rest → (id t : ℕ) (w : Value) → IsIndex k id w → part_by k id (form_of k.types ty) ≡ Some t → rule.reached_type k t os ≡ Some target → (r : Option (List Value)) → all_of v (range_with_len (n + 1) (length os)) ≡ r
          → option_map (λ (ws : List Value). w ∷ ws) r ≡ Some vs → reached_type k.types ty (cells vs) ≡ Some target
      by_rest rest id t w index part goes None e g = absurd (cc)
      by_rest rest id t w index part goes (Some ws) e g =
          let same : w ∷ ws ≡ vs = cc in
          let path : cells vs ≡ extended index.cell ∷ cells ws = ap cells (sym same) ∙ cells_step w index.cell ws index.row in
          ap (reached_type k.types ty) path
          ∙ stepped k.types ty t (extended index.cell) (cells ws) (Some target) (part_reached k id (form_of k.types ty) (extended index.cell) t index.number part) (rest t ws e goes)

      by_value : Rest → (id t : ℕ) → id_in o ≡ Some id → is_integer (form_in k id) ≡ true → part_by k id (form_of k.types ty) ≡ Some t → rule.reached_type k t os ≡ Some target → (r : Option Value) → v n ≡ r
          → option_and_then (λ (w : Value). option_map (λ (ws : List Value). w ∷ ws) (all_of v (range_with_len (n + 1) (length os)))) r ≡ Some vs → reached_type k.types ty (cells vs) ≡ Some target
      by_value rest id t is integer part goes None e g = absurd (cc)
      by_value rest id t is integer part goes (Some w) e g =
          let stands : slice_get all n ≡ Some o = ap (slice_get all) (let same : n ≡ n + 0 = omega arith in same) ∙ sym (at 0) in
          by_rest rest id t w (each n id w (ap (option_and_then id_in) stands ∙ is) integer e) part goes (all_of v (range_with_len (n + 1) (length os))) refl g

      by_part : Rest → (id : ℕ) → id_in o ≡ Some id → is_integer (form_in k id) ≡ true → (p : Option ℕ) → part_by k id (form_of k.types ty) ≡ p → option_and_then (λ t. rule.reached_type k t os) p ≡ Some target
          → reached_type k.types ty (cells vs) ≡ Some target
      by_part rest id is integer None e g = absurd (cc)
      by_part rest id is integer (Some t) e g = by_value rest id t is integer e g (v n) refl found

      by_integer : Rest → (id : ℕ) → id_in o ≡ Some id → (b : Bool) → is_integer (form_in k id) ≡ b → option_and_then (λ t. rule.reached_type k t os) (if b then part_by k id (form_of k.types ty) else None) ≡ Some target
          → reached_type k.types ty (cells vs) ≡ Some target
      by_integer rest id is false e g = absurd (cc)
      by_integer rest id is true e g = by_part rest id is e (part_by k id (form_of k.types ty)) refl g

      by_id : Rest → (i : Option ℕ) → id_in o ≡ i → option_and_then (λ t. rule.reached_type k t os) (option_and_then (rule.inner k ty) i) ≡ Some target → reached_type k.types ty (cells vs) ≡ Some target
      by_id rest None e g = absurd (cc)
      by_id rest (Some id) e g = by_integer rest id e (is_integer (form_in k id)) refl g

-- ---- the types of indexes

-- an operand that is an id of an integer
abbrev pub IsInteger : Known → Option Operand → Type 0
IsInteger k o = (id : ℕ) × (option_and_then id_in o ≡ Some id) × (is_integer (form_in k id) ≡ true)

integers : (k : Known) (os : List Operand) (m ty target : ℕ) → rule.reached_type k ty os ≡ Some target → m < length os → IsInteger k (slice_get os m)
integers k [] m ty target h lt = absurd (omega arith)
integers k (o ∷ os) m ty target h lt = by_id (λ n t. integers k os n t target) (id_in o) refl h m lt
  where
    Rest : Type 0
    Rest = (n t : ℕ) → rule.reached_type k t os ≡ Some target → n < length os → IsInteger k (slice_get os n)

    by_number : Rest → (id t : ℕ) → id_in o ≡ Some id → is_integer (form_in k id) ≡ true → rule.reached_type k t os ≡ Some target → (m : ℕ) → m < length (o ∷ os) → IsInteger k (slice_get (o ∷ os) m)
    by_number rest id t is integer goes zero lt = (id, is, integer)
    by_number rest id t is integer goes (suc m) lt = rest m t goes (omega arith)

    by_part : Rest → (id : ℕ) → id_in o ≡ Some id → is_integer (form_in k id) ≡ true → (p : Option ℕ) → option_and_then (λ t. rule.reached_type k t os) p ≡ Some target → (m : ℕ) → m < length (o ∷ os)
        → IsInteger k (slice_get (o ∷ os) m)
    by_part rest id is integer None g m lt = absurd (cc)
    by_part rest id is integer (Some t) g m lt = by_number rest id t is integer g m lt

    by_integer : Rest → (id : ℕ) → id_in o ≡ Some id → (b : Bool) → is_integer (form_in k id) ≡ b → option_and_then (λ t. rule.reached_type k t os) (if b then part_by k id (form_of k.types ty) else None) ≡ Some target
        → (m : ℕ) → m < length (o ∷ os) → IsInteger k (slice_get (o ∷ os) m)
    by_integer rest id is false e g m lt = absurd (cc)
    by_integer rest id is true e g m lt = by_part rest id is e (part_by k id (form_of k.types ty)) g m lt

    by_id : Rest → (i : Option ℕ) → id_in o ≡ i → option_and_then (λ t. rule.reached_type k t os) (option_and_then (rule.inner k ty) i) ≡ Some target → (m : ℕ) → m < length (o ∷ os) → IsInteger k (slice_get (o ∷ os) m)
    by_id rest None e g m lt = absurd (cc)
    by_id rest (Some id) e g m lt = by_integer rest id e (is_integer (form_in k id)) refl g m lt

-- the operands behind the first few
get_drop : (os : List Operand) (m i : ℕ) → slice_get (drop m os) i ≡ slice_get os (m + i)
get_drop os zero i = ap (slice_get os) (let same : i ≡ 0 + i = omega arith in same)
get_drop [] (suc m) i = refl
get_drop (o ∷ os) (suc m) i = get_drop os m i ∙ ap (slice_get (o ∷ os)) (let more : suc (m + i) ≡ suc m + i = omega arith in more)

pub behind : (k : Known) (os : List Operand) (m n ty target : ℕ) → rule.reached_type k ty (drop m os) ≡ Some target → m ≤ n → n < length os → IsInteger k (slice_get os n)
behind k os m n ty target h low lt =
    let within : n - m < length (drop m os) = simp length-drop (omega arith) in
    let at : slice_get (drop m os) (n - m) ≡ slice_get os n = get_drop os m (n - m) ∙ ap (slice_get os) (let same : m + (n - m) ≡ n = omega arith in same) in
    subst (IsInteger k) at (integers k (drop m os) (n - m) ty target h within)

-- and as many values
pub lead_behind : (k : Known) (v : ℕ → Option Value) (all : List Operand) (m ty target : ℕ) (vs : List Value)
    → ((n id : ℕ) (w : Value) → option_and_then id_in (slice_get all n) ≡ Some id → is_integer (form_in k id) ≡ true → v n ≡ Some w → IsIndex k id w)
    → all_of v (range_with_len m (length all - m)) ≡ Some vs → rule.reached_type k ty (drop m all) ≡ Some target → reached_type k.types ty (cells vs) ≡ Some target
lead_behind k v all m ty target vs each found h =
    lead k v all each (drop m all) m ty target vs (get_drop all m) (ap (λ (n : ℕ). all_of v (range_with_len m n)) (length-drop m all) ∙ found) h
