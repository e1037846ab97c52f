-- The rows of values one behind the other.
use Rattle.std.proofs.Common.{◌≡◌, ℕ, ◌+◌, ◌<◌, ◌≤◌, List, length, sym, subst, take, get_or}
use Rattle.std.proofs.lemmas.List.Folds.{length-flat_map-take}
use Rattle.spv_base.specs.declared.values.Value.{Value}
use Rattle.spv_types.specs.Rows.{leaves}
use Rattle.spv_effects.specs.Composites.{leaves_in}

pub joined_within : (vs : List Value) (k : ℕ) (v : Value) → k < length vs → v ≡ get_or vs k v → leaves_in (take k vs) + length (leaves v) ≤ leaves_in vs
joined_within vs k v h e = subst (λ (u : Value). leaves_in (take k vs) + length (leaves u) ≤ leaves_in vs) (sym e) (length-flat_map-take leaves vs k v h)
