-- Where the row of a part lies in the row of a value.
use Rattle.std.specs.Prelude.{◌≡◌, ℕ, ◌+◌, ◌≤◌, List, ◌++◌, take, drop, length, Some, IsSome}
use Rattle.spv_base.specs.Parts.{part_at, with_part}
use Rattle.spv_base.specs.declared.values.Value.{Value}
use Rattle.spv_types.specs.Rows.{leaves}

-- The part of v that a path names is there; its k leaves lie behind n others, and another part put there changes no other leaf.
pub record IsRowAt (v : Value) (path : List ℕ) (n k : ℕ) : Type 0 where
  pub there : IsSome (part_at v path)
  pub within : n + k ≤ length (leaves v)
  pub row : (w : Value) → part_at v path ≡ Some w → take k (drop n (leaves v)) ≡ leaves w
  pub written : (u : Value) → leaves (with_part v path u) ≡ take n (leaves v) ++ (leaves u ++ drop (n + k) (leaves v))
