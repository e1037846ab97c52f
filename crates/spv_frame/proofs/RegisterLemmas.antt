-- Registers by their ids, and by their numbers.
use Rattle.std.proofs.Common.{◌≡◌, ◌∙◌, ◌⊎◌, ◌==◌, ℕ, zero, suc, ◌+◌, ◌<◌, Bool, true, false, List, [], ◌∷◌, Option, Some, None, map, length, length-append, refl, sym, ap, subst, inl, inr, arith, take, unwrap_or, slice_get, slice_set}
use Rattle.std.specs.Prelude.{if◌then◌else◌}
use Rattle.std.specs.Option.{option_map}
use Rattle.std.specs.List.{flat_map, zip}
use Rattle.spv_base.specs.Entries.{reads, writes}
use Rattle.spv_base.specs.Parts.{part_at, with_part}
use Rattle.spv_base.specs.declared.values.Value.{Value, List as Many}
use Rattle.spv_base.proofs.Exports.{writes_back, out_many}
use Rattle.spv_types.specs.Rows.{HasRow, leaves}
use Rattle.spv_types.proofs.Exports.{slot_has_row}
use Rattle.spv_values.specs.Places.{IsRowAt}
use Rattle.spv_values.proofs.Exports.{row_at}
use Rattle.spv_frame.specs.Registers.{IsSlotOf, Rooms, cells_before, marked, marks, number_of, sizes}
use Rattle.spv_frame.specs.Frames.{cells_in, trees}
use Rattle.spv_frame.specs.declared.slots.Slot.{Slot}

-- ---- by number and by id

pub record Later (id : ℕ) (ks : List ℕ) (n : ℕ) : Type 0 where
  pub before : ℕ
  pub is : number_of id ks ≡ Some before
  pub next : n ≡ suc before

pub number_at : (t : Bool) (id : ℕ) (ks : List ℕ) (n : ℕ) → (if t then Some 0 else option_map suc (number_of id ks)) ≡ Some n
    → ((t ≡ true) × (n ≡ 0)) ⊎ ((t ≡ false) × Later id ks n)
number_at true id ks n h = let e : n ≡ 0 = cc in inl (refl, e)
number_at false id ks n h = inr (refl, later (number_of id ks) refl h)
  where
    later : (o : Option ℕ) → number_of id ks ≡ o → option_map suc o ≡ Some n → Later id ks n
    later None e h = cc
    later (Some j) e h = let g : n ≡ suc j = cc in record { before = j; is = e; next = g }

pub set_is_write : {X : Type 0} (ks : List ℕ) (xs : List X) (n id : ℕ) (x : X) → number_of id ks ≡ Some n → n < length xs
    → zip ks (slice_set xs n x) ≡ writes id x (zip ks xs)
set_is_write [] xs n id x h l = cc
set_is_write (k ∷ ks) [] n id x h l = absurd (omega arith)
set_is_write {X} (k ∷ ks) (y ∷ xs) n id x h l =
    elim (number_at (k == id) id ks n h) [
      | inl here ↦ rw (here.1, here.0) refl
      | inr there ↦
          let l' : there.1.before < length xs = omega (arith, there.1.next) in
          rw (there.1.next, there.0) (ap (λ (es : List (ℕ × X)). (k, y) ∷ es) (set_is_write ks xs there.1.before id x there.1.is l'))
    ]

pub get_is_read : {X : Type 0} (ks : List ℕ) (xs : List X) (n id : ℕ) (x : X) → number_of id ks ≡ Some n → slice_get xs n ≡ Some x
    → reads id (zip ks xs) ≡ Some x
get_is_read [] xs n id x h l = cc
get_is_read (k ∷ ks) [] n id x h l = cc
get_is_read (k ∷ ks) (y ∷ xs) n id x h l =
    elim (number_at (k == id) id ks n h) [
      | inl here ↦
          let l' = rw here.1 at l in
          let e : y ≡ x = cc in
          rw (here.0, e) refl
      | inr there ↦
          let l' = rw there.1.next at l in
          rw there.0 (get_is_read ks xs there.1.before id x there.1.is l')
    ]

pub number_inside : (ks : List ℕ) (n id : ℕ) → number_of id ks ≡ Some n → n < length ks
number_inside [] n id h = cc
number_inside (k ∷ ks) n id h =
    elim (number_at (k == id) id ks n h) [
      | inl here ↦ let e = here.1 in omega arith
      | inr there ↦ let e = there.1.next in let l = number_inside ks there.1.before id there.1.is in omega arith
    ]

pub marks_set : (vs : List Value) (bs : List Bool) (n : ℕ) (v : Value) (b : Bool) → marks (slice_set vs n v) (slice_set bs n b) ≡ slice_set (marks vs bs) n (marked v b)
marks_set [] bs n v b = refl
marks_set (u ∷ vs) [] zero v b = refl
marks_set (u ∷ vs) [] (suc n) v b = refl
marks_set (u ∷ vs) (a ∷ bs) zero v b = refl
marks_set (u ∷ vs) (a ∷ bs) (suc n) v b = ap (λ (xs : List (Option Value)). marked u a ∷ xs) (marks_set vs bs n v b)

pub marks_get : (vs : List Value) (bs : List Bool) (n : ℕ) (v : Value) (b : Bool) → slice_get vs n ≡ Some v → slice_get bs n ≡ Some b → slice_get (marks vs bs) n ≡ Some (marked v b)
marks_get [] bs n v b h g = cc
marks_get (u ∷ vs) [] n v b h g = cc
marks_get (u ∷ vs) (a ∷ bs) zero v b h g = let e : u ≡ v = cc in let f : a ≡ b = cc in rw (e, f) refl
marks_get (u ∷ vs) (a ∷ bs) (suc n) v b h g = marks_get vs bs n v b h g

pub marks_length : (vs : List Value) (bs : List Bool) → length bs ≡ length vs → length (marks vs bs) ≡ length vs
marks_length [] bs h = refl
marks_length (v ∷ vs) [] h = absurd (omega arith)
marks_length (v ∷ vs) (b ∷ bs) h = let e : length bs ≡ length vs = omega arith in ap suc (marks_length vs bs e)

-- ---- the row of a frame

-- the register with a number among some values
pub record TreeAt (vs : List Value) (n start long : ℕ) : Type 0 where
  pub tree : Value
  pub is : slice_get vs n ≡ Some tree
  pub inside : n < length vs
  pub begins : length (flat_map leaves (take n vs)) ≡ start
  pub size : length (leaves tree) ≡ long

pub tree_at : (rs : Rooms) (vs : List Value) (n start long id : ℕ) → map cells_in vs ≡ sizes rs → cells_before n rs ≡ start → slice_get rs n ≡ Some (id, long) → TreeAt vs n start long
tree_at [] vs n start long id e b h = cc
tree_at (r ∷ rs) [] n start long id e b h = cc
tree_at (r ∷ rs) (v ∷ vs) zero start long id e b h =
    let same : r ≡ (id, long) = cc in
    let size : cells_in v ≡ r.1 = cc in
    record { tree = v; is = refl; inside = omega arith; begins = b; size = size ∙ ap (λ (x : ℕ × ℕ). x.1) same }
tree_at (r ∷ rs) (v ∷ vs) (suc n) start long id e b h =
    let size : cells_in v ≡ r.1 = cc in
    let sized : map cells_in vs ≡ sizes rs = cc in
    let rest = tree_at rs vs n (cells_before n rs) long id sized refl h in
    let front : length (flat_map leaves (take (suc n) (v ∷ vs))) ≡ cells_in v + length (flat_map leaves (take n vs)) = length-append (leaves v) (flat_map leaves (take n vs)) in
    record {
      tree = rest.tree;
      is = rest.is;
      inside = let i = rest.inside in omega arith;
      begins = front ∙ ap (λ (m : ℕ). cells_in v + m) rest.begins ∙ ap (λ (m : ℕ). m + cells_before n rs) size ∙ b;
      size = rest.size;
    }

sizes_keep : (vs : List Value) (n : ℕ) (u v : Value) → slice_get vs n ≡ Some u → cells_in v ≡ cells_in u → map cells_in (slice_set vs n v) ≡ map cells_in vs
sizes_keep [] n u v h e = refl
sizes_keep (w ∷ vs) zero u v h e = let g : w ≡ u = cc in ap (λ (m : ℕ). m ∷ map cells_in vs) (e ∙ ap cells_in (sym g))
sizes_keep (w ∷ vs) (suc n) u v h e = ap (λ (ms : List ℕ). cells_in w ∷ ms) (sizes_keep vs n u v h e)

-- a slot in a row of registers, and what comes of another value in it
pub record Lies (row : Value) (s : Slot) : Type 0 where
  pub tree : Value
  pub is : slice_get (trees row) s.number ≡ Some tree
  pub inside : s.number < length (trees row)
  pub size : length (leaves tree) ≡ s.len
  pub at : IsRowAt row (s.number ∷ []) s.start s.len
  pub part : part_at row (s.number ∷ []) ≡ Some tree
  pub put : (v : Value) → with_part row (s.number ∷ []) v ≡ Many (slice_set (trees row) s.number v)
  pub sizes : (v : Value) → length (leaves v) ≡ s.len → map cells_in (slice_set (trees row) s.number v) ≡ map cells_in (trees row)

part_is : (vs : List Value) (n : ℕ) (u : Value) → slice_get vs n ≡ Some u → part_at (Many vs) (n ∷ []) ≡ Some u
part_is vs n u h = rw (out_many vs, h) refl

put_is : (vs : List Value) (n : ℕ) (u v : Value) → slice_get vs n ≡ Some u → with_part (Many vs) (n ∷ []) v ≡ Many (slice_set vs n v)
put_is vs n u v h = rw (out_many vs, h) refl

pub lies : (rs : Rooms) (row : Value) (s : Slot) → row ≡ Many (trees row) → map cells_in (trees row) ≡ sizes rs → IsSlotOf rs s → Lies row s
lies rs row s many sized slot =
    let vs : List Value = trees row in
    let t = tree_at rs vs s.number s.start s.len s.id sized slot.begins slot.long in
    let has : HasRow (Many vs) (s.number ∷ []) (length (flat_map leaves (take s.number vs))) (length (leaves t.tree)) = slot_has_row vs s.number t.tree t.is in
    let has' : HasRow (Many vs) (s.number ∷ []) s.start s.len = subst (λ (m : ℕ). HasRow (Many vs) (s.number ∷ []) s.start m) t.size (subst (λ (m : ℕ). HasRow (Many vs) (s.number ∷ []) m (length (leaves t.tree))) t.begins has) in
    let here : IsRowAt (Many vs) (s.number ∷ []) s.start s.len = row_at (Many vs) (s.number ∷ []) s.start s.len ∣ has' ∣₁ in
    record {
      tree = t.tree;
      is = t.is;
      inside = t.inside;
      size = t.size;
      at = subst (λ (r : Value). IsRowAt r (s.number ∷ []) s.start s.len) (sym many) here;
      part = ap (λ (r : Value). part_at r (s.number ∷ [])) many ∙ part_is vs s.number t.tree t.is;
      put = λ v. ap (λ (r : Value). with_part r (s.number ∷ []) v) many ∙ put_is vs s.number t.tree v t.is;
      sizes = λ v long. sizes_keep vs s.number t.tree v t.is (long ∙ sym t.size);
    }

pub trees_many : (vs : List Value) → trees (Many vs) ≡ vs
trees_many vs = rw (out_many vs) refl

-- the old entry put back
pub put_back : {X : Type 0} (id : ℕ) (x y : X) (es : List (ℕ × X)) → reads id es ≡ Some y → writes id y (writes id x es) ≡ es
put_back {X} id x y es h = writes_back id x y es (ap (λ (o : Option X). unwrap_or o y) h)
