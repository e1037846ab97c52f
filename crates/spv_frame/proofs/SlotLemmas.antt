-- Slots that lie one behind the other.
use Rattle.std.proofs.Common.{◌≡◌, ◌≢◌, ◌∙◌, ℕ, zero, suc, ◌+◌, ◌<◌, ◌≤◌, List, [], ◌∷◌, Some, map, length, refl, sym, ap, subst, arith, take, drop, slice_get}
use Rattle.std.specs.List.{AllByRecursion, range_with_len}
use Rattle.std.proofs.lemmas.List.{length-drop, length-take-le}
use Rattle.spv_frame.specs.Contents.{Differ}
use Rattle.spv_frame.specs.Plans.{AreApart, rooms, slots_of}
use Rattle.spv_frame.specs.Registers.{IsSlotOf, Planned, Rooms, ids, number_of}
use Rattle.spv_frame.specs.declared.slots.Slot.{Slot}
use Rattle.spv_frame.proofs.FrameLemmas.{rooms_long}
use Rattle.spv_frame.proofs.PlanLemmas.{slot_is}

get_drop : (xs : List Slot) (n k : ℕ) → slice_get (drop n xs) k ≡ slice_get xs (n + k)
get_drop xs zero k = let e : k ≡ 0 + k = omega arith in ap (λ (m : ℕ). slice_get xs m) e
get_drop [] (suc n) k = refl
get_drop (x ∷ xs) (suc n) k = let e : suc (n + k) ≡ suc n + k = omega arith in get_drop xs n k ∙ ap (λ (m : ℕ). slice_get (x ∷ xs) m) e

get_take : (xs : List Slot) (n k : ℕ) (s : Slot) → slice_get (take n xs) k ≡ Some s → slice_get xs k ≡ Some s
get_take xs zero k s h = cc
get_take [] (suc n) k s h = h
get_take (x ∷ xs) (suc n) zero s h = h
get_take (x ∷ xs) (suc n) (suc k) s h = get_take xs n k s h

-- each slot of a range, by its place in the range
follow : (rs : Rooms) (slots : List Slot) (first count : ℕ) → slots ≡ slots_of rs → AreApart (ids rs)
    → (k : ℕ) (s : Slot) → slice_get (take count (drop first slots)) k ≡ Some s → IsSlotOf rs s × (s.number ≡ first + k)
follow rs slots first count e apart k s h =
    slot_is rs slots (first + k) s e apart (sym (get_drop slots first k) ∙ get_take (drop first slots) count k s h)

ids_differ : (rs : Rooms) (s t : Slot) → IsSlotOf rs s → IsSlotOf rs t → t.number ≢ s.number → t.id ≢ s.id
ids_differ rs s t one other differ e =
    let same : Some t.number ≡ Some s.number = sym other.named ∙ ap (λ (id : ℕ). number_of id (ids rs)) e ∙ one.named in
    let number : t.number ≡ s.number = cc in
    differ number

others_differ : (rs : Rooms) (s : Slot) (n m : ℕ) (xs : List Slot) → IsSlotOf rs s → s.number ≡ n → n < m
    → ((k : ℕ) (t : Slot) → slice_get xs k ≡ Some t → IsSlotOf rs t × (t.number ≡ m + k)) → AllByRecursion (λ (t : Slot). t.id ≢ s.id) xs
others_differ rs s n m [] slot e less at = tt
others_differ rs s n m (t ∷ xs) slot e less at =
    let here = at 0 t refl in
    let number = here.1 in
    let differ : t.number ≢ s.number = omega arith in (
      ids_differ rs s t slot here.0 differ,
      others_differ rs s n (suc m) xs slot e (omega arith) (λ k u h. let later = at (suc k) u h in let one = later.1 in (later.0, omega arith)),
    )

pub differ : (rs : Rooms) (n : ℕ) (xs : List Slot) → ((k : ℕ) (s : Slot) → slice_get xs k ≡ Some s → IsSlotOf rs s × (s.number ≡ n + k)) → Differ xs
differ rs n [] at = tt
differ rs n (s ∷ xs) at =
    let here = at 0 s refl in
    let number = here.1 in
    let tail : (k : ℕ) (u : Slot) → slice_get xs k ≡ Some u → IsSlotOf rs u × (u.number ≡ suc n + k) = λ k u h. let later = at (suc k) u h in let one = later.1 in (later.0, omega arith) in
    let is : s.number ≡ n = omega arith in
    (others_differ rs s n (suc n) xs here.0 is (omega arith) tail, differ rs (suc n) xs tail)

pub all_slots : (rs : Rooms) (n : ℕ) (xs : List Slot) → ((k : ℕ) (s : Slot) → slice_get xs k ≡ Some s → IsSlotOf rs s × (s.number ≡ n + k)) → AllByRecursion (IsSlotOf rs) xs
all_slots rs n [] at = tt
all_slots rs n (s ∷ xs) at =
    let here = at 0 s refl in
    (here.0, all_slots rs (suc n) xs (λ k u h. let later = at (suc k) u h in let one = later.1 in (later.0, omega arith)))

pub all_numbers : (rs : Rooms) (n : ℕ) (xs : List Slot) → ((k : ℕ) (s : Slot) → slice_get xs k ≡ Some s → IsSlotOf rs s × (s.number ≡ n + k)) → map (λ (s : Slot). s.number) xs ≡ range_with_len n (length xs)
all_numbers rs n [] at = refl
all_numbers rs n (s ∷ xs) at =
    let here = at 0 s refl in
    let number = here.1 in
    let is : s.number ≡ n = omega arith in
    let rest : map (λ (t : Slot). t.number) xs ≡ range_with_len (suc n) (length xs) = all_numbers rs (suc n) xs (λ k u h. let later = at (suc k) u h in let one = later.1 in (later.0, omega arith)) in
    let one : suc n ≡ n + 1 = omega arith in
    ap (λ (m : ℕ). m ∷ map (λ (t : Slot). t.number) xs) is ∙ ap (λ (ms : List ℕ). n ∷ ms) (rest ∙ ap (λ (m : ℕ). range_with_len m (length xs)) one)

long : (xs : List Slot) (first count : ℕ) → first + count ≤ length xs → length (take count (drop first xs)) ≡ count
long xs first count h =
    let left = length-drop first xs in
    length-take-le count (drop first xs) (omega arith)

-- so many slots from a number on
pub record Range (rs : Rooms) (xs : List Slot) (first count : ℕ) : Type 0 where
  pub slots : AllByRecursion (IsSlotOf rs) xs
  pub differ : Differ xs
  pub numbers : map (λ (s : Slot). s.number) xs ≡ range_with_len first count

pub range : (rs : Rooms) (slots : List Slot) (first count : ℕ) → slots ≡ slots_of rs → AreApart (ids rs) → first + count ≤ length slots → Range rs (take count (drop first slots)) first count
range rs slots first count e apart h =
    let at = follow rs slots first count e apart in
    let xs : List Slot = take count (drop first slots) in
    record {
      slots = all_slots rs first xs at;
      differ = differ rs first xs at;
      numbers = all_numbers rs first xs at ∙ ap (range_with_len first) (long slots first count h);
    }

-- so many slots of a plan, lent
pub lent : (p : Planned) (slots all xs : List Slot) (first count : ℕ) → rooms slots ≡ p.values → slots ≡ slots_of (rooms slots) → AreApart (ids (rooms slots)) → first + count ≤ length p.values
    → all ≡ slots → xs ≡ take count (drop first all) → Range p.values xs first count
lent p slots all xs first count shows lie apart bound whole is =
    let counted = rooms_long slots in
    let same : length (rooms slots) ≡ length p.values = ap length shows in
    let within : first + count ≤ length slots = omega arith in
    let r = range (rooms slots) slots first count lie apart within in
    let here : take count (drop first slots) ≡ xs = ap (λ (ys : List Slot). take count (drop first ys)) (sym whole) ∙ sym is in
    subst (λ (ys : List Slot). Range p.values ys first count) here (subst (λ (rs : Rooms). Range rs (take count (drop first slots)) first count) shows r)
