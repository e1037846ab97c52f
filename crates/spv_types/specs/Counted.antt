-- What a table keeps of its first types: their leaves.
use Rattle.std.specs.Prelude.{◌≡◌, ℕ, ◌<◌, ◌≤◌, List, [], length, take, slice_index_or, slice_get, Option, Some, None}
use Rattle.std.specs.Option.{option_map}
use Rattle.spv_types.specs.declared.counting.Count.{Count}
use Rattle.spv_types.specs.declared.forms.Form.{Form}
use Rattle.spv_types.specs.declared.forms.Form.TheVariants.{Struct}
use Rattle.spv_types.specs.declared.forms.Member.{Member}
use Rattle.spv_types.specs.Types.{Types, form_at}
use Rattle.spv_types.specs.Cells.{cells_among, cells_step, members_cells}
use Rattle.spv_base.specs.Saturation.{saturated}
use Rattle.spv_types.specs.Laws.{IsAmong}
use Rattle.spv_types.specs.Shapes.{part_type}

-- the members of a struct
abbrev pub members_of : Form → List Member
members_of (Struct members block) = members
members_of _ = []

-- the parts of a form are among the first n types
abbrev pub PartsAreBefore : Types → ℕ → Form → Type 0
PartsAreBefore ts n f = (index part : ℕ) → part_type f index ≡ Some part → IsAmong ts n part

-- the types of members are among the first n types
abbrev pub AreBefore : Types → ℕ → List Member → Type 0
AreBefore ts n ms = (index part : ℕ) → option_map (λ (m : Member). m.ty) (slice_get ms index) ≡ Some part → IsAmong ts n part

-- a list has the leaves before each of the first n members, saturated at 64 bits
pub record HasFirsts (cells : ℕ → Option ℕ) (ms : List Member) (n : ℕ) (firsts : List (Option ℕ)) : Type 0 where
  pub long : length firsts ≡ n
  pub firsts_are : (i : ℕ) → i < n → slice_index_or firsts i None ≡ option_map saturated (members_cells cells (take i ms))

-- the count of the type with a number
pub record IsCounted (ts : Types) (n : ℕ) (c : Count) : Type 0 where
  pub parts : PartsAreBefore ts n (form_at ts n)
  pub cells : c.cells ≡ option_map saturated (cells_step (cells_among ts n) (form_at ts n))
  pub firsts : HasFirsts (cells_among ts n) (members_of (form_at ts n)) (length (members_of (form_at ts n))) c.firsts

-- the counts of the first types
pub record AreCounted (ts : Types) (counts : List Count) : Type 0 where
  pub few : length counts ≤ length ts
  pub counts_are : (n : ℕ) (d : Count) → n < length counts → IsCounted ts n (slice_index_or counts n d)
