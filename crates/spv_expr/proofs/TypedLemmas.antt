-- What is left of a row behind a front of it, and the types of the rows that a memory has.
use Rattle.std.proofs.Common.{◌≡◌, ◌∙◌, ℕ, zero, suc, ◌+◌, ◌-◌, ◌<◌, ◌≤◌, ◌==◌, Bool, true, false, List, [], ◌∷◌, ◌++◌, length, take, drop, Option, Some, None, refl, sym, ap, subst, arith, slice_get, get_or}
use Rattle.std.specs.Prelude.{if◌then◌else◌}
use Rattle.std.specs.Option.{option_and_then, option_map, option_or}
use Rattle.std.proofs.Math.Logic.{∥∥₁_elim, ∥∥₁_map}
use Rattle.std.proofs.Props.{props}
use Rattle.std.specs.Coded.{codes}
use Rattle.std.proofs.lemmas.List.{take-append-drop}
use Rattle.spv_base.specs.Cell.{Cell}
use Rattle.spv_base.specs.Entries.{reads}
use Rattle.spv_base.specs.Variables.{Roots, root_id}
use Rattle.spv_base.specs.declared.values.Root.{Root}
use Rattle.spv_base.specs.declared.values.Value.{Value}
use Rattle.spv_mem.specs.Memory.{Held as Memory, IsMemory, IsVariable, root_value, roots_in}
use Rattle.spv_types.specs.Rows.{leaves, no_roots}
use Rattle.spv_types.proofs.Exports.{shapes_are_by_forms}
use Rattle.spv_expr.specs.Bits.{bits_of}
use Rattle.spv_expr.specs.Rests.{IsRest}
use Rattle.spv_expr.specs.Sizes.{IsFront, IsTypeFront}
use Rattle.spv_expr.specs.Typing.{IsTypedRow, Typing, typing_of}
use Rattle.spv_expr.specs.declared.sizes.Stretch.{Stretch}
use Rattle.spv_expr.proofs.SizeLemmas.{bits_append, bits_length}

-- ---- what is left of a row

get_behind : {A : Type 0} (xs ys : List A) (j : ℕ) → slice_get (xs ++ ys) (length xs + j) ≡ slice_get ys j
get_behind [] ys j = ap (slice_get ys) (let e : 0 + j ≡ j = omega arith in e)
get_behind (x ∷ xs) ys j = ap (slice_get (x ∷ (xs ++ ys))) (let e : suc (length xs) + j ≡ suc (length xs + j) = omega arith in e) ∙ get_behind xs ys j

pub rest_behind : (cells : List Cell) (bit : ℕ) (s : Stretch) → IsFront cells s → s.bits ≤ bit → IsRest cells bit (drop s.leaves cells) (bit - s.bits)
rest_behind cells bit s front le =
    let before = take s.leaves cells in
    let behind = drop s.leaves cells in
    let all : before ++ behind ≡ cells = take-append-drop s.leaves cells in
    record {
      lower = omega arith;
      same = λ m.
          let at : bit + m ≡ length (bits_of before) + (bit - s.bits + m) = omega (arith, front.bits_are, le) in
          sym (ap (λ (row : List Cell). slice_get (bits_of row) (bit + m)) (sym all) ∙ ap (λ (bs : List (Option Bool)). slice_get bs (bit + m)) (bits_append before behind)
          ∙ ap (λ (n : ℕ). slice_get (bits_of before ++ bits_of behind) n) at ∙ get_behind (bits_of before) (bits_of behind) (bit - s.bits + m));
      count = omega (arith, ap (λ (row : List Cell). length (bits_of row)) all, bits_length before behind, front.bits_are, le);
    }

pub rest_all : (cells : List Cell) (bit : ℕ) → IsRest cells bit cells bit
rest_all cells bit = record { lower = omega arith; same = λ m. refl; count = omega arith }

-- ---- the types of rows

-- a variable of a memory has a row of its type
pub typed_row : (m : Memory) (i : ℕ) (r : Root) (t : Typing) (id : ℕ) (cells : List Cell) → t ≡ typing_of m → id ≡ root_id r → ∥ IsMemory m ∥₁ → option_map leaves (root_value m i r) ≡ Some cells → ∥ IsTypedRow t id cells ∥₁
typed_row m i r t id cells typed named kept row =
    ∥∥₁_map kept (λ (k : IsMemory m). rw (typed, named) (by_roots k (roots_in m i r) refl row))
  where
    by_value : IsMemory m → (es : Roots) → roots_in m i r ≡ Some es → (o : Option Value) → reads (root_id r) es ≡ o → option_map leaves o ≡ Some cells → IsTypedRow (typing_of m) (root_id r) cells
    by_value k es e None h row = absurd (cc)
    by_value k es e (Some v) h row =
        let is : IsVariable m.types m.targets (root_id r) v = k.variables i r es e (root_id r) v h in
        let same : leaves v ≡ cells = cc in
        record { sound = k.sound; type = is.type; named = is.named; value = v; shape = is.shape; row = same }

    by_roots : IsMemory m → (o : Option Roots) → roots_in m i r ≡ o → option_map leaves (option_and_then (reads (root_id r)) o) ≡ Some cells → IsTypedRow (typing_of m) (root_id r) cells
    by_roots k None e row = absurd (cc)
    by_roots k (Some es) e row = by_value k es e (reads (root_id r) es) refl row

-- a front by the type of a row
pub typed_front : (t : Typing) (id type n : ℕ) (cells : List Cell) (s : Stretch) → ∥ IsTypedRow t id cells ∥₁ → reads id t.targets ≡ Some type → n ≡ length cells → s.leaves ≤ length cells → IsTypeFront t.types type n s → IsFront cells s
typed_front t id type n cells s typed named long within front = record { within = within; bits_are = ∥∥₁_elim typed (hlevel (props, codes)) (λ (row : IsTypedRow t id cells). (by_row row).bits_are) }
  where
    by_row : IsTypedRow t id cells → IsFront cells s
    by_row row =
        let same : row.type ≡ type = let e = row.named in cc in
        subst (λ (r : List Cell). IsFront r s) row.row
        (front.each (shapes_are_by_forms t.types no_roots row.sound) row.value (rw same at row.shape) (ap length row.row ∙ sym long))

-- ---- types by ids

pub reads_more : (es : List (ℕ × ℕ)) (k : ℕ) (d : ℕ × ℕ) (q : ℕ) → k < length es → reads q (take (suc k) es) ≡ option_or (reads q (take k es)) (if (get_or es k d).0 == q then Some (get_or es k d).1 else None)
reads_more [] k d q lt = absurd (omega arith)
reads_more (e ∷ es) zero d q lt = refl
reads_more (e ∷ es) (suc k) d q lt = go (e.0 == q) (reads_more es k d q (omega arith))
  where
    go : (b : Bool) → reads q (take (suc k) es) ≡ option_or (reads q (take k es)) (if (get_or es k d).0 == q then Some (get_or es k d).1 else None)
        → (if b then Some e.1 else reads q (take (suc k) es)) ≡ option_or (if b then Some e.1 else reads q (take k es)) (if (get_or es k d).0 == q then Some (get_or es k d).1 else None)
    go true h = refl
    go false h = h
