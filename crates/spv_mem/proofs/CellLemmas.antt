-- The one leaf of a scalar.
use Rattle.std.proofs.Common.{◌≡◌, ◌∙◌, ℕ, List, Option, Some, None, Result, Ok, Err, get_or, refl, sym, ap, subst, rules}
use Rattle.std.specs.Prelude.{IsSome}
use Rattle.spv_base.specs.Cell.{Cell}
use Rattle.spv_base.specs.declared.values.Value.{Value, Scalar, out-Value, the_lemmas}
use Rattle.spv_base.specs.declared.values.Value.TheOpen.{Value-F}
use Rattle.std.specs.Option.{MatchOption}
use Rattle.spv_base.specs.declared.causes.MemErr.{MemErr}
use Rattle.spv_base.specs.declared.causes.MemErr.TheVariants.{OutOfBounds}
use Rattle.spv_base.specs.declared.values.Pointer.{Pointer}
use Rattle.spv_mem.specs.Memory.{Held, IsScalarAt, Stores, StoresCell, load_of, stored}
use Rattle.spv_types.specs.Rows.{leaves}
use Rattle.spv_types.specs.Shapes.{scalar_in}
use Rattle.spv_types.proofs.Exports.{scalar_by, scalar_row}

pub is_scalar : (v : Value) (d : Cell) → IsSome (scalar_in (out-Value v)) → v ≡ Scalar (get_or (leaves v) 0 d)
is_scalar v d h = level (out-Value v) refl h
  where
    level : (l : Value-F Value) → out-Value v ≡ l → IsSome (scalar_in l) → v ≡ Scalar (get_or (leaves v) 0 d)
    level (Value-F.Scalar c) e h = scalar_by v c e ∙ ap (λ (ls : List Cell). Scalar (get_or ls 0 d)) (sym (scalar_row v c e))
    level (Value-F.List vs) e h = absurd cc
    level (Value-F.Ptr p) e h = absurd cc

-- ---- stores of scalars

abbrev made : Result (Unit {0}) MemErr
made = Ok tt

abbrev failed : MemErr → Result (Unit {0}) MemErr
failed e = Err e

-- a store that is made hands back what was there
store_made : (m new : Held) (i : ℕ) (p : Pointer) (u w : Value) → Stores m i p u new w (Ok tt) → (load_of m i p ≡ Some w) × (new ≡ stored i p u m)
store_made m new i p u w h = go (load_of m i p) refl h
  where
    go : (o : Option Value) → load_of m i p ≡ o → MatchOption o ((made ≡ failed OutOfBounds) × (new ≡ m) × (w ≡ u)) (λ x. (made ≡ made) × (new ≡ stored i p u m) × (w ≡ x))
        → (load_of m i p ≡ Some w) × (new ≡ stored i p u m)
    go None e h = absurd (let g = h.0 in cc)
    go (Some x) e h = (e ∙ ap Some (sym h.2), h.1)

pub handed_scalar : (m new : Held) (i : ℕ) (p : Pointer) (u w : Value) → IsScalarAt m i p → Stores m i p u new w (Ok tt) → IsSome (scalar_in (out-Value w))
handed_scalar m new i p u w scalar h = scalar w (store_made m new i p u w h).0

pub cell_stored : (m new : Held) (i : ℕ) (p : Pointer) (c d : Cell) (u w : Value) → u ≡ Scalar c → w ≡ Scalar d → Stores m i p u new w (Ok tt) → StoresCell m i p c new (Ok d)
cell_stored m new i p c d u w new-is old-is h =
    let s = store_made m new i p u w h in
    (s.0 ∙ ap Some old-is, s.1 ∙ ap (λ (x : Value). stored i p x m) new-is)

-- a store that is refused changes nothing
refused : (m new : Held) (i : ℕ) (p : Pointer) (u w : Value) (e : MemErr) → Stores m i p u new w (Err e) → (e ≡ OutOfBounds) × (load_of m i p ≡ None) × (new ≡ m) × (w ≡ u)
refused m new i p u w e h = go (load_of m i p) refl h
  where
    go : (o : Option Value) → load_of m i p ≡ o → MatchOption o ((failed e ≡ failed OutOfBounds) × (new ≡ m) × (w ≡ u)) (λ x. (failed e ≡ made) × (new ≡ stored i p u m) × (w ≡ x))
        → (e ≡ OutOfBounds) × (load_of m i p ≡ None) × (new ≡ m) × (w ≡ u)
    go None is h = ((let g = h.0 in cc), is, h.1, h.2)
    go (Some x) is h = absurd (let g = h.0 in cc)

pub cell_refused : (m new : Held) (i : ℕ) (p : Pointer) (c : Cell) (u w : Value) (e : MemErr) → Stores m i p u new w (Err e) → StoresCell m i p c new (Err e)
cell_refused m new i p c u w e h =
    let r = refused m new i p u w e h in
    subst (λ (x : MemErr). StoresCell m i p c new (Err x)) (sym r.0) (r.1, r.2)

pub kept_scalar : (m new : Held) (i : ℕ) (p : Pointer) (c : Cell) (u w : Value) (e : MemErr) → u ≡ Scalar c → Stores m i p u new w (Err e) → IsSome (scalar_in (out-Value w))
kept_scalar m new i p c u w e is h = subst (λ (x : Value). IsSome (scalar_in (out-Value x))) (sym ((refused m new i p u w e h).3 ∙ is)) (is_some c)
  where
    is_some : (c : Cell) → IsSome (scalar_in (out-Value (Scalar c)))
    is_some c = search (rules, the_lemmas)
