-- The path to a leaf of a value, by its type: at each level the number of the part in which the leaf lies.
use Rattle.std.specs.Prelude.{ℕ, ◌+◌, ◌-◌, ◌/◌, ◌%◌, nat_lt, if◌then◌else◌, List, [], ◌∷◌, length, Option, Some, None}
use Rattle.std.specs.Option.{option_map_or}
use Rattle.spv_types.specs.declared.forms.Form.{Form}
use Rattle.spv_types.specs.declared.forms.Form.TheVariants.{Void, Bool as Boolean, Int, Vector, Array, Runtime, Struct, Pointer, Function}
use Rattle.spv_types.specs.declared.forms.Member.{Member}
use Rattle.spv_types.specs.Cells.{cells_of}
use Rattle.spv_types.specs.Types.{Types, in_first}

-- in a row of elements of so many leaves each
abbrev pub row_path : (ℕ → List ℕ) → (leaf cells : ℕ) → List ℕ
row_path path leaf cells = if nat_lt 0 cells then leaf / cells ∷ path (leaf % cells) else []

-- in a row of elements of the type with an id; one without a number of leaves is no element
abbrev pub element_path : (ℕ → Option ℕ) → (ℕ → ℕ → List ℕ) → (element leaf : ℕ) → List ℕ
element_path cells path element leaf = option_map_or (row_path (path element) leaf) (cells element) []

-- A leaf is in a member or behind it, where the member has so many leaves. A runtime array has any number of them, and is the last member.
abbrev pub path_by : ℕ → (here : List ℕ) → (behind : ℕ → List ℕ) → Option ℕ → List ℕ
path_by leaf here behind None = here
path_by leaf here behind (Some n) = if nat_lt leaf n then here else behind (leaf - n)

-- in some members, of which the first has the number k
unfoldable pub members_path : (ℕ → Option ℕ) → (ℕ → ℕ → List ℕ) → (k : ℕ) → List Member → ℕ → List ℕ
members_path cells path k [] leaf = []
members_path cells path k (m ∷ ms) leaf = path_by leaf (k ∷ path m.ty leaf) (members_path cells path (k + 1) ms) (cells m.ty)

-- in a value of a form, where path gives those in its parts; a scalar is the leaf itself
abbrev pub path_step : Types → (ℕ → ℕ → List ℕ) → Form → ℕ → List ℕ
path_step ts path Void leaf = []
path_step ts path Boolean leaf = []
path_step ts path (Int width sign) leaf = []
path_step ts path (Vector component count) leaf = element_path (cells_of ts) path component leaf
path_step ts path (Array element length stride) leaf = element_path (cells_of ts) path element leaf
path_step ts path (Runtime element stride) leaf = element_path (cells_of ts) path element leaf
path_step ts path (Struct members block) leaf = members_path (cells_of ts) path 0 members leaf
path_step ts path (Pointer class target) leaf = []
path_step ts path (Function returns parameters) leaf = []

-- in a value of the type with an id, where it is among the first n types
unfoldable pub path_among : Types → ℕ → ℕ → ℕ → List ℕ
path_among ts = in_first (λ leaf. []) (path_step ts) ts

-- the path to the leaf with a number of a value of the type with an id
unfoldable pub leaf_path : Types → ℕ → ℕ → List ℕ
leaf_path ts id leaf = path_among ts (length ts) id leaf
