-- The row of a value, by its outermost level.
use Rattle.std.proofs.Common.{◌≡◌, ℕ, zero, suc, List, [], ◌∷◌, ◌++◌, Some, append_assoc, refl, sym, rules, slice_get, slice_set, take, drop, map, append-nil}
use Rattle.std.specs.List.{flat_map}
use Rattle.std.proofs.lemmas.List.Folds.{flat_map-map}
use Rattle.spv_base.specs.Cell.{Cell}
use Rattle.spv_base.specs.declared.values.Pointer.{Pointer}
use Rattle.spv_base.specs.declared.values.Value.{Value, Scalar, List as Many, Ptr, out-Value, the_lemmas}
use Rattle.spv_base.specs.declared.values.Value.TheOpen.{Value-F}
use Rattle.spv_types.specs.Rows.{leaves, pointer_lane}

pub scalar_by : (v : Value) (c : Cell) → out-Value v ≡ Value-F.Scalar c → v ≡ Scalar c
scalar_by v c e = search (rules, the_lemmas)

pub many_by : (v : Value) (vs : List Value) → out-Value v ≡ Value-F.List vs → v ≡ Many vs
many_by v vs e = search (rules, the_lemmas)

pub pointer_by : (v : Value) (p : Pointer) → out-Value v ≡ Value-F.Ptr p → v ≡ Ptr p
pointer_by v p e = search (rules, the_lemmas)

pub leaves_scalar : (c : Cell) → leaves (Scalar c) ≡ c ∷ []
unfolding leaves
leaves_scalar c = search (rules, the_lemmas)

leaves_pointer : (p : Pointer) → leaves (Ptr p) ≡ pointer_lane ∷ []
unfolding leaves
leaves_pointer p = search (rules, the_lemmas)

pub leaves_many : (vs : List Value) → leaves (Many vs) ≡ flat_map leaves vs
unfolding leaves
leaves_many vs = search (rules, the_lemmas, flat_map-map)

pub scalar_row : (v : Value) (c : Cell) → out-Value v ≡ Value-F.Scalar c → leaves v ≡ c ∷ []
scalar_row v c e = rw (scalar_by v c e) (leaves_scalar c)

pub pointer_row : (v : Value) (p : Pointer) → out-Value v ≡ Value-F.Ptr p → leaves v ≡ pointer_lane ∷ []
pointer_row v p e = rw (pointer_by v p e) (leaves_pointer p)

pub many_row : (v : Value) (vs : List Value) → out-Value v ≡ Value-F.List vs → leaves v ≡ flat_map leaves vs
many_row v vs e = rw (many_by v vs e) (leaves_many vs)

-- ---- a list of values, with one in the midst

pub row_split : (vs : List Value) (i : ℕ) (u : Value) → slice_get vs i ≡ Some u
    → flat_map leaves vs ≡ flat_map leaves (take i vs) ++ (leaves u ++ flat_map leaves (drop (suc i) vs))
row_split [] i u h = cc
row_split (v ∷ vs) zero u h = let e : v ≡ u = cc in rw e refl
row_split (v ∷ vs) (suc i) u h = rw (row_split vs i u h) (sym (append_assoc (leaves v) (flat_map leaves (take i vs)) (leaves u ++ flat_map leaves (drop (suc i) vs))))

pub row_changed : (vs : List Value) (i : ℕ) (u w : Value) → slice_get vs i ≡ Some u
    → flat_map leaves (slice_set vs i w) ≡ flat_map leaves (take i vs) ++ (leaves w ++ flat_map leaves (drop (suc i) vs))
row_changed [] i u w h = cc
row_changed (v ∷ vs) zero u w h = refl
row_changed (v ∷ vs) (suc i) u w h = rw (row_changed vs i u w h) (sym (append_assoc (leaves v) (flat_map leaves (take i vs)) (leaves w ++ flat_map leaves (drop (suc i) vs))))

pub leaves_scalars : (cs : List Cell) → flat_map leaves (map Scalar cs) ≡ cs
leaves_scalars [] = refl
leaves_scalars (c ∷ cs) = rw (leaves_scalar c, leaves_scalars cs) refl

pub no_leaves : (xs : List Cell) → xs ≡ xs ++ leaves (Many [])
no_leaves xs = rw (leaves_many []) (sym (append-nil xs))
