-- What events have captured, and what lies in the memory.
use Rattle.std.proofs.Common.{◌≡◌, ℕ, ◌++◌, List, [], ◌∷◌, Option, Some, None, slice_get, refl, sym, ap}
use Rattle.std.specs.Prelude.{Result, Ok, Err}
use Rattle.std.specs.Option.{is_some, option_and_then, option_map_or}
use Rattle.std.specs.Result.{is_ok}
use Rattle.std.proofs.Math.Logic.{∥∥₁_elim}
use Rattle.std.proofs.Props.{props}
use Rattle.spv_base.specs.Parts.{part_at, parts_in}
use Rattle.spv_base.specs.declared.causes.MemErr.{MemErr}
use Rattle.spv_base.specs.declared.causes.MemErr.TheVariants.{UndefinedIndex, OutOfBounds, NoMemory}
use Rattle.spv_base.specs.declared.values.Pointer.{Pointer}
use Rattle.spv_base.specs.declared.values.Value.{Value, out-Value}
use Rattle.spv_base.proofs.Exports.{none_of}
use Rattle.spv_types.specs.Shapes.{pointer_in}
use Rattle.spv_dbg.specs.Tables.{Tables, names_scalar}
use Rattle.spv_mem.specs.Memory.{Held, Loads, load_of, root_value}
use Rattle.spv_expr.specs.Expressions.{address, captured, typed}

-- ---- captured values

no_pointer : (v : Value) → ∥ pointer_in (out-Value v) ≡ None ∥₁ → pointer_in (out-Value v) ≡ None
no_pointer v h = none_of (pointer_in (out-Value v)) (∥∥₁_elim h (hlevel props) (λ e. ap is_some e))

pub data_captured : (t : Tables) (word : ℕ) (v : Value) → ∥ pointer_in (out-Value v) ≡ None ∥₁ → captured t word v ≡ typed (names_scalar t word) v
data_captured t word v h = ap (λ (o : Option Pointer). option_map_or address o (typed (names_scalar t word) v)) (no_pointer v h)

-- ---- a part of a part

part_append : (v : Value) (xs ys : List ℕ) → part_at v (xs ++ ys) ≡ option_and_then (λ w. part_at w ys) (part_at v xs)
part_append v [] ys = refl
part_append v (i ∷ xs) ys = by (λ (u : Value). part_append u xs ys) (option_and_then (λ vs. slice_get vs i) (parts_in (out-Value v)))
  where
    by : ((u : Value) → part_at u (xs ++ ys) ≡ option_and_then (λ w. part_at w ys) (part_at u xs)) → (o : Option Value) → option_and_then (λ u. part_at u (xs ++ ys)) o ≡ option_and_then (λ w. part_at w ys) (option_and_then (λ u. part_at u xs) o)
    by each None = refl
    by each (Some u) = each u

pub load_append : (m : Held) (inv : ℕ) (p : Pointer) (ys : List ℕ)
    → load_of m inv (record { root = p.root; path = p.path ++ ys }) ≡ option_and_then (λ w. part_at w ys) (load_of m inv p)
load_append m inv p ys = by (root_value m inv p.root)
  where
    by : (o : Option Value) → option_and_then (λ v. part_at v (p.path ++ ys)) o ≡ option_and_then (λ w. part_at w ys) (option_and_then (λ v. part_at v p.path) o)
    by None = refl
    by (Some v) = part_append v p.path ys

pub loads_some : (m : Held) (inv : ℕ) (p : Pointer) (r : Result Value MemErr) → Loads m inv p r → is_ok r ≡ is_some (load_of m inv p)
loads_some m inv p (Ok v) h = ap is_some (sym h)
loads_some m inv p (Err UndefinedIndex) h = absurd h
loads_some m inv p (Err OutOfBounds) h = ap is_some (sym h)
loads_some m inv p (Err NoMemory) h = absurd h
