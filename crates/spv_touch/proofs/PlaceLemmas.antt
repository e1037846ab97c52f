-- Where a part lies in the row of its variable is where it lies behind the leaves before it.
use Rattle.std.proofs.Common.{◌≡◌, ◌∙◌, ℕ, zero, suc, ◌+◌, ◌≤◌, List, [], ◌∷◌, ◌++◌, Option, Some, None, IsSome, length, take, drop, refl, sym, ap, subst, arith}
use Rattle.std.specs.Option.{option_and_then, option_map_or}
use Rattle.spv_base.specs.Cell.{Cell, undefined_cell}
use Rattle.spv_base.specs.Entries.{reads}
use Rattle.spv_base.specs.Parts.{part_at}
use Rattle.spv_base.specs.declared.values.Pointer.{Pointer}
use Rattle.spv_base.specs.declared.values.Root.{Root}
use Rattle.spv_base.specs.declared.values.Root.TheVariants.{Shared, Private, Local}
use Rattle.spv_base.specs.declared.values.Value.{Value, Scalar}
use Rattle.spv_types.specs.Rows.{leaves}
use Rattle.spv_types.proofs.Exports.{leaves_scalar}
use Rattle.spv_values.specs.Places.{IsRowAt}
use Rattle.spv_mem.specs.Memory.{Held as Memory, load_of}
use Rattle.spv_mem.specs.Singles.{NamesRow}
use Rattle.spv_touch.specs.Ranges.{before, below, count, leaves_at, range}
use Rattle.spv_touch.proofs.PartLemmas.{lies}

-- no cell is every cell
not_each : (b : Cell) → ((c : Cell) → c ≡ b) → ⊥
not_each b h =
    let same : undefined_cell 0 ≡ undefined_cell 1 = h (undefined_cell 0) ∙ sym (h (undefined_cell 1)) in
    let widths : 0 ≡ 1 = ap (λ (c : Cell). c.width) same in
    omega (arith, widths)

-- a cell that may be any one stands at one place
one_place : (l b d a : List Cell) (n : ℕ) → n ≤ length l → ((c : Cell) → take n l ++ (c ∷ d) ≡ b ++ (c ∷ a)) → n ≡ length b
one_place l [] d a zero low h = refl
one_place l (x ∷ b) d a zero low h = absurd (not_each x (λ c. let e = h c in cc))
one_place [] b d a (suc n) low h = absurd (omega (arith, low))
one_place (y ∷ l) [] d a (suc n) low h = absurd (not_each y (λ c. let e = h c in cc))
one_place (y ∷ l) (x ∷ b) d a (suc n) low h = ap suc (one_place l b d a n (omega (arith, low)) (λ c. let e = h c in cc))

taken : (k n : ℕ) (l : List Cell) → n + k ≤ length l → length (take k (drop n l)) ≡ k
taken k zero l low = all k l (omega (arith, low))
  where
    all : (k : ℕ) (l : List Cell) → k ≤ length l → length (take k l) ≡ k
    all zero l low = refl
    all (suc k) [] low = absurd (omega (arith, low))
    all (suc k) (x ∷ l) low = ap suc (all k l (omega (arith, low)))
taken k (suc n) [] low = absurd (omega (arith, low))
taken k (suc n) (x ∷ l) low = taken k n l (omega (arith, low))

pub row_starts : (v w : Value) (path : List ℕ) (n k : ℕ) → IsRowAt v path n k → part_at v path ≡ Some w → n ≡ before v path
row_starts v w path n k row at =
    let l = lies path v w at in
    one_place (leaves v) l.before (drop (n + k) (leaves v)) l.after n (let low = row.within in omega (arith, low))
    (λ c. ap (λ (r : List Cell). take n (leaves v) ++ (r ++ drop (n + k) (leaves v))) (sym (leaves_scalar c)) ∙ sym (row.written (Scalar c)) ∙ l.written (Scalar c)
    ∙ ap (λ (r : List Cell). l.before ++ (r ++ l.after)) (leaves_scalar c))
    ∙ l.begins

pub row_counts : (v w : Value) (path : List ℕ) (n k : ℕ) → IsRowAt v path n k → part_at v path ≡ Some w → k ≡ count w
row_counts v w path n k row at = sym (taken k n (leaves v) row.within) ∙ ap length (row.row w at)

-- ---- in a shared variable

part_in : (o : Option Value) (v : Value) (path : List ℕ) → o ≡ Some v → option_and_then (λ u. part_at u path) o ≡ part_at v path
part_in o v path is = ap (option_and_then (λ u. part_at u path)) is

pub listed_row : (m : Memory) (i id : ℕ) (path : List ℕ) (n k : ℕ) → NamesRow m i (record { root = Shared id; path = path }) n k
    → below m (Shared id) path ≡ record { root = id; first = n; end = n + k } ∷ []
listed_row m i id path n k row = by_part (part_at row.value path) refl
  where
    by_part : (o : Option Value) → part_at row.value path ≡ o → below m (Shared id) path ≡ record { root = id; first = n; end = n + k } ∷ []
    by_part None at = let there = row.row.there in cc
    by_part (Some w) at =
        let first : n ≡ before row.value path = row_starts row.value w path n k row.row at in
        let many : k ≡ count w = row_counts row.value w path n k row.row at in
        ap (λ (o : Option Value). option_map_or (λ v. option_map_or (λ part. range id v path part ∷ []) (part_at v path) []) o []) row.is
        ∙ ap (λ (o : Option Value). option_map_or (λ part. range id row.value path part ∷ []) o []) at
        ∙ ap (λ (x : ℕ). record { root = id; first = x; end = x + count w } ∷ []) (sym first) ∙ ap (λ (x : ℕ). record { root = id; first = n; end = n + x } ∷ []) (sym many)

pub unlisted : (m : Memory) (i id : ℕ) (path : List ℕ) → load_of m i (record { root = Shared id; path = path }) ≡ None → below m (Shared id) path ≡ []
unlisted m i id path none = by_variable (reads id m.shared) none
  where
    by_part : (v : Value) (o : Option Value) → o ≡ None → option_map_or (λ part. range id v path part ∷ []) o [] ≡ []
    by_part v None e = refl
    by_part v (Some w) e = cc

    by_variable : (o : Option Value) → option_and_then (λ v. part_at v path) o ≡ None → option_map_or (λ v. option_map_or (λ part. range id v path part ∷ []) (part_at v path) []) o [] ≡ []
    by_variable None e = refl
    by_variable (Some v) e = by_part v (part_at v path) e

-- ---- below a pointer

pub listed_at : (m : Memory) (i id : ℕ) (q : Pointer) (n k : ℕ) → q.root ≡ Shared id → NamesRow m i q n k → leaves_at m q ≡ record { root = id; first = n; end = n + k } ∷ []
listed_at m i id q n k is row = ap (λ (r : Root). below m r q.path) is ∙ listed_row m i id q.path n k (subst (λ (r : Root). NamesRow m i (record { root = r; path = q.path }) n k) is row)

pub unlisted_at : (m : Memory) (i id : ℕ) (q : Pointer) → q.root ≡ Shared id → load_of m i q ≡ None → leaves_at m q ≡ []
unlisted_at m i id q is none = ap (λ (r : Root). below m r q.path) is ∙ unlisted m i id q.path (subst (λ (r : Root). load_of m i (record { root = r; path = q.path }) ≡ None) is none)

pub own_private : (m : Memory) (id : ℕ) (q : Pointer) → q.root ≡ Private id → leaves_at m q ≡ []
own_private m id q is = ap (λ (r : Root). below m r q.path) is

pub own_local : (m : Memory) (depth id : ℕ) (q : Pointer) → q.root ≡ Local depth id → leaves_at m q ≡ []
own_local m depth id q is = ap (λ (r : Root). below m r q.path) is

-- a part whose place is known is there
pub place_there : (m : Memory) (i : ℕ) (q : Pointer) (n k : ℕ) → NamesRow m i q n k → IsSome (load_of m i q)
place_there m i q n k row = subst (λ (o : Option Value). IsSome (option_and_then (λ v. part_at v q.path) o)) (sym row.is) row.row.there
