-- Leaves of the variables that all invocations share: by the variable's id and a number, in the order of the leaves of its value.
use Rattle.std.specs.Prelude.{ℕ, ◌+◌, List, [], ◌∷◌, length, take, slice_get}
use Rattle.std.specs.Option.{option_map_or}
use Rattle.spv_base.specs.Entries.{reads}
use Rattle.spv_base.specs.Parts.{part_at, parts_in}
use Rattle.spv_base.specs.declared.values.Pointer.{Pointer}
use Rattle.spv_base.specs.declared.values.Root.{Root}
use Rattle.spv_base.specs.declared.values.Root.TheVariants.{Shared, Private, Local}
use Rattle.spv_base.specs.declared.values.Value.{Value, List as Many, out-Value}
use Rattle.spv_types.specs.Rows.{leaves}
use Rattle.spv_mem.specs.Memory.{Held as Memory}
use Rattle.spv_order.specs.declared.events.Leaves.{Leaves}

-- how many leaves a value has
abbrev pub count : Value → ℕ
count v = length (leaves v)

-- how many leaves of a value stand before the part that a path names
abbrev pub before : Value → List ℕ → ℕ
before v [] = 0
before v (k ∷ path) = option_map_or (λ vs. count (Many (take k vs)) + option_map_or (λ u. before u path) (slice_get vs k) 0) (parts_in (out-Value v)) 0

-- the leaves of a part, which a path names in the variable with an id
abbrev pub range : ℕ → Value → List ℕ → Value → Leaves
range id v path part = record { root = id; first = before v path; end = before v path + count part }

-- those of the part that a path names in a root, if there is one: a range; none where the root is an invocation's own
abbrev pub below : Memory → Root → List ℕ → List Leaves
below m (Shared id) path = option_map_or (λ v. option_map_or (λ part. range id v path part ∷ []) (part_at v path) []) (reads id m.shared) []
below m (Private id) path = []
below m (Local depth id) path = []

abbrev pub leaves_at : Memory → Pointer → List Leaves
leaves_at m q = below m q.root q.path
