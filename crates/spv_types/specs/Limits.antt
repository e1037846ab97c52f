-- What the limits on types count: how deep a type is nested, and its cells. A pointer, function or runtime array is counted
-- without what it points to, takes or repeats, a struct without members as one cell, and an array whose length is not set
-- as none. Numbers stop at the greatest of 64 bits.
use Rattle.std.specs.Prelude.{◌≡◌, ℕ, ◌+◌, ◌*◌, ◌<◌, max, List, [], ◌∷◌, length, slice_index_or, unwrap_or}
use Rattle.spv_types.specs.declared.forms.Form.{Form}
use Rattle.spv_types.specs.declared.forms.Form.TheVariants.{Void, Bool as Boolean, Int, Vector, Array, Runtime, Struct, Pointer, Function}
use Rattle.spv_types.specs.declared.forms.Member.{Member}
use Rattle.spv_types.specs.declared.limits.Limit.{Limit}
use Rattle.spv_types.specs.Types.{Types, form_at, in_first}
use Rattle.spv_base.specs.Saturation.{saturated}

abbrev pub no_limit : Limit
no_limit = record { nesting = 0; cells = 0 }

-- a scalar type has nesting 1
abbrev pub alone : ℕ → Limit
alone cells = record { nesting = 1; cells = cells }

-- another type has one more than its deepest part
abbrev pub repeated_limit : Limit → ℕ → Limit
repeated_limit part count = record { nesting = saturated (part.nesting + 1); cells = saturated (part.cells * count) }

-- the deepest of some members, and their cells together
unfoldable pub members_limit : (ℕ → Limit) → List Member → Limit
members_limit limit [] = no_limit
members_limit limit (m ∷ ms) = record { nesting = max (limit m.ty).nesting (members_limit limit ms).nesting; cells = saturated ((limit m.ty).cells + (members_limit limit ms).cells) }

abbrev pub struct_limit : (ℕ → Limit) → List Member → Limit
struct_limit limit [] = alone 1
struct_limit limit (m ∷ ms) = record { nesting = saturated ((members_limit limit (m ∷ ms)).nesting + 1); cells = (members_limit limit (m ∷ ms)).cells }

abbrev pub limit_step : (ℕ → Limit) → Form → Limit
limit_step limit Void = alone 0
limit_step limit Boolean = alone 1
limit_step limit (Int width sign) = alone 1
limit_step limit (Vector component count) = repeated_limit (limit component) count
limit_step limit (Array element n stride) = repeated_limit (limit element) (unwrap_or n 0)
limit_step limit (Runtime element stride) = repeated_limit (limit element) 0
limit_step limit (Struct members block) = struct_limit limit members
limit_step limit (Pointer class target) = alone 1
limit_step limit (Function returns parameters) = alone 0

unfoldable pub limit_among : Types → ℕ → ℕ → Limit
limit_among = in_first no_limit limit_step

-- the nesting and the cells of the type with an id
unfoldable pub limit_of : Types → ℕ → Limit
limit_of ts id = limit_among ts (length ts) id

-- a list has the nesting and the cells of the first types, by their numbers
pub record AreLimits (ts : Types) (limits : List Limit) : Type 0 where
  pub limits_are : (n : ℕ) → n < length limits → slice_index_or limits n no_limit ≡ limit_step (limit_among ts n) (form_at ts n)
