-- Where the row of a part lies, for a slice of a row.
use Rattle.std.proofs.Common.{◌≡◌, ◌∙◌, ℕ, ◌+◌, ◌<◌, ◌≤◌, List, [], ◌∷◌, ◌++◌, Some, length, slice_set, arith, refl, sym, ap, subst, take, drop}
use Rattle.std.specs.Prelude.{IsSome}
use Rattle.std.proofs.Math.Logic.{∥∥₁_elim}
use Rattle.std.proofs.Props.{props}
use Rattle.std.specs.Coded.{codes}
use Rattle.spv_base.specs.Cell.{Cell}
use Rattle.spv_base.specs.Parts.{part_at, with_part}
use Rattle.spv_base.specs.declared.values.Value.{Value, Scalar, List as Many, out-Value}
use Rattle.spv_base.specs.declared.values.Value.TheOpen.{Value-F}
use Rattle.spv_types.specs.Rows.{HasRow, leaves}
use Rattle.spv_types.specs.Shapes.{scalar_in}
use Rattle.spv_types.proofs.Exports.{leaves_many, scalar_row, leaves_scalar, lies_at, lies_within, lies_written}
use Rattle.spv_values.specs.Places.{IsRowAt}

pub row_within : (v : Value) (path : List ℕ) (n k : ℕ) → IsRowAt v path n k → n + k ≤ length (leaves v)
row_within v path n k h = h.within

pub row_is : (v w : Value) (path : List ℕ) (n k : ℕ) → IsRowAt v path n k → part_at v path ≡ Some w → take k (drop n (leaves v)) ≡ leaves w
row_is v w path n k h is = h.row w is

-- ---- from where a part lies among the leaves

within : (v : Value) (path : List ℕ) (n k : ℕ) → HasRow v path n k → n + k ≤ length (leaves v)
within v path n k h = subst (λ (j : ℕ). n + j ≤ length (leaves v)) h.long (lies_within v path h.part n h.lies)

there : (v : Value) (path : List ℕ) (n k : ℕ) → HasRow v path n k → IsSome (part_at v path)
there v path n k h = subst IsSome (sym h.is) refl

row : (v w : Value) (path : List ℕ) (n k : ℕ) → HasRow v path n k → part_at v path ≡ Some w → take k (drop n (leaves v)) ≡ leaves w
row v w path n k h is =
    let same : h.part ≡ w = let e = h.is in cc in
    subst (λ (j : ℕ). take j (drop n (leaves v)) ≡ leaves w) h.long (lies_at v path h.part n h.lies ∙ ap leaves same)

written : (v u : Value) (path : List ℕ) (n k : ℕ) → HasRow v path n k → leaves (with_part v path u) ≡ take n (leaves v) ++ (leaves u ++ drop (n + k) (leaves v))
written v u path n k h = subst (λ (j : ℕ). leaves (with_part v path u) ≡ take n (leaves v) ++ (leaves u ++ drop (n + j) (leaves v))) h.long (lies_written v path h.part n u h.lies)

pub row_at : (v : Value) (path : List ℕ) (n k : ℕ) → ∥ HasRow v path n k ∥₁ → IsRowAt v path n k
row_at v path n k has = record {
  there = ∥∥₁_elim has (hlevel props) (there v path n k);
  within = ∥∥₁_elim has (hlevel props) (within v path n k);
  row = λ w is. ∥∥₁_elim has (hlevel (props, codes)) (λ (h : HasRow v path n k). row v w path n k h is);
  written = λ u. ∥∥₁_elim has (hlevel (props, codes)) (λ (h : HasRow v path n k). written v u path n k h);
}

-- ---- no parts

pub no_leaves : leaves (Many []) ≡ []
no_leaves = leaves_many []

-- ---- scalars

pub scalar_leaf : (v : Value) → IsSome (scalar_in (out-Value v)) → length (leaves v) ≡ 1
scalar_leaf v h = level (out-Value v) refl h
  where
    level : (l : Value-F Value) → out-Value v ≡ l → IsSome (scalar_in l) → length (leaves v) ≡ 1
    level (Value-F.Scalar c) e h = ap length (scalar_row v c e)
    level (Value-F.List vs) e h = absurd cc
    level (Value-F.Ptr p) e h = absurd cc

pub one_leaf : (v : Value) → IsSome (scalar_in (out-Value v)) → 0 < length (leaves v)
one_leaf v h = omega (arith, scalar_leaf v h)

pub one_set : (ls : List Cell) (c : Cell) → length ls ≡ 1 → leaves (Scalar c) ≡ slice_set ls 0 c
one_set [] c h = absurd cc
one_set (d ∷ []) c h = leaves_scalar c
one_set (d ∷ e ∷ ls) c h = absurd cc
