-- The limits that the types and the constants of an accepted module keep (this project's profile): a type is nested at most 32
-- deep and has at most 4,194,304 cells, and all constants together have at most as many.
use Rattle.std.specs.Prelude.{◌≡◌, ◌≤◌, ℕ, ◌+◌, [], ◌∷◌, Some}
use Rattle.spv_types.specs.declared.limits.Limit.{Limit}
use Rattle.spv_types.specs.Cells.{cells_of}
use Rattle.spv_types.specs.Types.{Types}
use Rattle.spv_types.specs.Limits.{limit_of}
use Rattle.spv_consts.specs.Table.{Constants}

pub record IsWithin (limit : Limit) : Type 0 where
  pub nesting : limit.nesting ≤ 32
  pub cells : limit.cells ≤ 4194304

-- the cells of some constants together, each with those of its type
abbrev pub constant_cells : Types → Constants → ℕ
constant_cells ts [] = 0
constant_cells ts (c ∷ cs) = (limit_of ts c.1.ty).cells + constant_cells ts cs

-- each type is within them, so none has more leaves than that; and all constants together are
pub record KeepLimits (ts : Types) (cs : Constants) : Type 0 where
  pub types : (id : ℕ) → IsWithin (limit_of ts id)
  pub leaves : (id n : ℕ) → cells_of ts id ≡ Some n → n ≤ 4194304
  pub constants : constant_cells ts cs ≤ 4194304
