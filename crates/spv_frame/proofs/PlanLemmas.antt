-- The slots of a plan, and the row of a frame without values.
use Rattle.std.proofs.Common.{◌≡◌, ◌∙◌, ℕ, zero, suc, ◌+◌, List, [], ◌∷◌, ◌++◌, Some, map, length, replicate, refl, sym, ap, subst, arith, slice_get}
use Rattle.std.specs.List.{flat_map}
use Rattle.std.proofs.lemmas.List.{length-replicate, replicate-append-replicate}
use Rattle.spv_base.specs.Cell.{Cell, undefined_cell}
use Rattle.spv_base.specs.declared.values.Value.{Value, Scalar, List as Many}
use Rattle.spv_types.specs.Rows.{leaves}
use Rattle.spv_types.proofs.Exports.{leaves_many, leaves_scalars}
use Rattle.spv_frame.specs.Registers.{IsSlotOf, Rooms, cells_before, ids, number_of, sizes}
use Rattle.spv_frame.specs.Frames.{cells_in, trees}
use Rattle.spv_frame.specs.Plans.{AreApart, Keeps, blank_of, blank_register, planned, rooms, slots_from, slots_of, total}
use Rattle.spv_frame.specs.declared.slots.Place.{Place}
use Rattle.spv_frame.specs.declared.slots.Slot.{Slot}
use Rattle.spv_frame.proofs.RegisterLemmas.{trees_many}

-- ---- slots

pub rooms_from : (n start : ℕ) (rs : Rooms) → rooms (slots_from n start rs) ≡ rs
rooms_from n start [] = refl
rooms_from n start (r ∷ rs) = ap (λ (x : Rooms). r ∷ x) (rooms_from (suc n) (start + r.1) rs)

pub rooms_are : (rs : Rooms) → rooms (slots_of rs) ≡ rs
rooms_are rs = rooms_from 0 0 rs

-- the slot with a number
pub record SlotAt (rs : Rooms) (n start k : ℕ) (s : Slot) : Type 0 where
  pub number : s.number ≡ n + k
  pub begins : start + cells_before k rs ≡ s.start
  pub long : slice_get rs k ≡ Some (s.id, s.len)

pub slot_at : (rs : Rooms) (n start k : ℕ) (s : Slot) → slice_get (slots_from n start rs) k ≡ Some s → SlotAt rs n start k s
slot_at [] n start k s h = cc
slot_at (r ∷ rs) n start zero s h =
    let e : (record { id = r.0; number = n; start = start; len = r.1 }) ≡ s = cc in
    subst (SlotAt (r ∷ rs) n start zero) e (record { number = omega arith; begins = omega arith; long = refl })
slot_at (r ∷ rs) n start (suc k) s h =
    let rest = slot_at rs (suc n) (start + r.1) k s h in
    let number : s.number ≡ n + suc k = let e = rest.number in omega arith in
    let begins : start + (r.1 + cells_before k rs) ≡ s.start = let e = rest.begins in omega arith in
    record { number = number; begins = begins; long = rest.long }

id_at : (rs : Rooms) (k id len : ℕ) → slice_get rs k ≡ Some (id, len) → slice_get (ids rs) k ≡ Some id
id_at [] k id len h = cc
id_at (r ∷ rs) zero id len h = let e : r ≡ (id, len) = cc in ap (λ (x : ℕ × ℕ). Some (x.0)) e
id_at (r ∷ rs) (suc k) id len h = id_at rs k id len h

pub slot_is : (rs : Rooms) (slots : List Slot) (k : ℕ) (s : Slot) → slots ≡ slots_of rs → AreApart (ids rs) → slice_get slots k ≡ Some s → IsSlotOf rs s × (s.number ≡ k)
slot_is rs slots k s e apart h =
    let at = slot_at rs 0 0 k s (subst (λ (x : List Slot). slice_get x k ≡ Some s) e h) in
    let begins : cells_before k rs ≡ s.start = let b = at.begins in omega arith in
    let number : s.number ≡ k = let e = at.number in omega arith in (
      record {
        named = subst (λ (m : ℕ). number_of s.id (ids rs) ≡ Some m) (sym number) (apart k s.id (id_at rs k s.id s.len at.long));
        begins = subst (λ (m : ℕ). cells_before m rs ≡ s.start) (sym number) begins;
        long = subst (λ (m : ℕ). slice_get rs m ≡ Some (s.id, s.len)) (sym number) at.long;
      },
      number,
    )

-- ---- the row without values

register_row : (r : ℕ × ℕ) → leaves (blank_register r) ≡ replicate r.1 (undefined_cell 1)
register_row r = leaves_many (map Scalar (replicate r.1 (undefined_cell 1))) ∙ leaves_scalars (replicate r.1 (undefined_cell 1))

registers_row : (rs : Rooms) → flat_map leaves (map blank_register rs) ≡ replicate (total rs) (undefined_cell 1)
registers_row [] = refl
registers_row (r ∷ rs) =
    ap (λ (x : List Cell). x ++ flat_map leaves (map blank_register rs)) (register_row r)
    ∙ ap (λ (x : List Cell). replicate r.1 (undefined_cell 1) ++ x) (registers_row rs)
    ∙ replicate-append-replicate r.1 (total rs) (undefined_cell 1)

pub blank_row : (rs : Rooms) → leaves (blank_of rs) ≡ replicate (total rs) (undefined_cell 1)
blank_row rs = leaves_many (map blank_register rs) ∙ registers_row rs

-- cells, as the row without values
pub blank_cells : (rs : Rooms) (v : Value) (n : ℕ) (cells : List Cell) → v ≡ blank_of rs → n ≡ total rs → cells ≡ replicate n (undefined_cell 1) → leaves v ≡ cells
blank_cells rs v n cells e count all = ap leaves e ∙ blank_row rs ∙ ap (λ (m : ℕ). replicate m (undefined_cell 1)) (sym count) ∙ sym all

pub blank_is : (rs : Rooms) (v : Value) → v ≡ blank_of rs → v ≡ Many (trees v)
blank_is rs v e = e ∙ ap Many (sym (trees_many (map blank_register rs))) ∙ ap (λ (x : Value). Many (trees x)) (sym e)

sizes_are : (rs : Rooms) → map cells_in (map blank_register rs) ≡ sizes rs
sizes_are [] = refl
sizes_are (r ∷ rs) =
    let long : cells_in (blank_register r) ≡ r.1 = ap length (register_row r) ∙ length-replicate r.1 (undefined_cell 1) in
    ap (λ (x : ℕ). x ∷ map cells_in (map blank_register rs)) long ∙ ap (λ (x : List ℕ). r.1 ∷ x) (sizes_are rs)

pub blank_sizes : (rs : Rooms) (v : Value) → v ≡ blank_of rs → map cells_in (trees v) ≡ sizes rs
blank_sizes rs v e = ap (λ (x : Value). map cells_in (trees x)) e ∙ ap (map cells_in) (trees_many (map blank_register rs)) ∙ sizes_are rs

pub keeps : (rs : Rooms) (slots : List Slot) (blank : Value) (ps : List ℕ) → slots ≡ slots_of rs → blank ≡ blank_of rs → AreApart (ids rs) → AreApart ps → Keeps slots blank ps
keeps rs slots blank ps e row apart places =
    let same : rooms slots ≡ rs = ap rooms e ∙ rooms_are rs in
    (blank_is rs blank row, blank_sizes rs blank row ∙ ap sizes (sym same), e ∙ ap slots_of (sym same), subst (λ (x : Rooms). AreApart (ids x)) (sym same) apart, places)

pub planned_is : (function first : ℕ) (parameters parameters' : List Place) (values values' : Rooms) (pointers pointers' : List ℕ) (types types' : List (ℕ × ℕ)) → parameters ≡ parameters' → values ≡ values' → pointers ≡ pointers' → types ≡ types'
    → planned function first parameters values pointers types ≡ planned function first parameters' values' pointers' types'
planned_is function first parameters parameters' values values' pointers pointers' types types' e g h i =
    ap (λ (x : List Place). planned function first x values pointers types) e
    ∙ ap (λ (x : Rooms). planned function first parameters' x pointers types) g
    ∙ ap (λ (x : List ℕ). planned function first parameters' values' x types) h
    ∙ ap (λ (x : List (ℕ × ℕ)). planned function first parameters' values' pointers' x) i
