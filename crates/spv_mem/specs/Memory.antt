-- Memory: the shared variables of a workgroup, and per invocation its Private and Input variables and those of its frames.
--
-- A map from ids to values is the list of its entries. The places in a list of locals are the frames' depths, the entry
-- point's 0.
use Rattle.std.specs.Prelude.{◌≡◌, ℕ, ◌<◌, ◌++◌, ◌∷◌, [], length, replicate, true, IsSome, List, Option, Some, None, Result, Ok, Err, slice_get, slice_set}
use Rattle.std.specs.Option.{MatchOption, option_and_then, option_map_or}
use Rattle.spv_base.specs.Entries.{reads, change}
use Rattle.spv_base.specs.Parts.{part_at}
use Rattle.spv_base.specs.Variables.{Roots, root_id}
use Rattle.spv_base.specs.declared.causes.MemErr.{MemErr}
use Rattle.spv_base.specs.declared.causes.MemErr.TheVariants.{UndefinedIndex, OutOfBounds, NoMemory}
use Rattle.spv_base.specs.declared.values.Pointer.{Pointer}
use Rattle.spv_base.specs.declared.values.Root.{Root}
use Rattle.spv_base.specs.declared.values.Root.TheVariants.{Shared, Private, Local}
use Rattle.spv_base.specs.declared.values.Value.{Value, Scalar, out-Value}
use Rattle.spv_base.specs.Cell.{Cell}
use Rattle.spv_types.specs.Laws.{AreSound}
use Rattle.spv_types.specs.Rows.{no_roots}
use Rattle.spv_types.specs.Shapes.{HasShape, reached_type, scalar_in}
use Rattle.spv_types.specs.Types.{Types, form_of}
use Rattle.spv_mem.specs.Roots.{put_in}
use Rattle.spv_mem.specs.Targets.{MayBePut, is_array_at, may_be_target}

-- the locals of an invocation by depth, and how many there is room for
pub record Levels : Type 0 where
  pub list : List Roots
  pub room : ℕ

-- the types of a module, the types of its variables' values, and the variables
pub record Held : Type 0 where
  pub types : Types
  pub targets : List (ℕ × ℕ)
  pub shared : Roots  -- StorageBuffer, Uniform, PushConstant and Workgroup variables
  pub privates : List Roots  -- per invocation its Private and Input variables
  pub locals : List Levels  -- per invocation the variables of its frames

-- ---- reading

-- the list in which the variable stands that a root of an invocation names
abbrev pub roots_in : Held → ℕ → Root → Option Roots
roots_in m i (Shared id) = Some m.shared
roots_in m i (Private id) = slice_get m.privates i
roots_in m i (Local depth id) = option_and_then (λ (l : Levels). slice_get l.list depth) (slice_get m.locals i)

-- the value of the variable that a root of an invocation names
abbrev pub root_value : Held → ℕ → Root → Option Value
root_value m i r = option_and_then (reads (root_id r)) (roots_in m i r)

-- the part that a pointer of an invocation names
abbrev pub load_of : Held → ℕ → Pointer → Option Value
load_of m i p = option_and_then (λ v. part_at v p.path) (root_value m i p.root)

-- ---- writing

abbrev pub with_level : ℕ → Roots → Levels → Levels
with_level depth es l = record l { list = slice_set l.list depth es }

-- that list changed to another one
abbrev pub with_roots : ℕ → Root → Roots → Held → Held
with_roots i (Shared id) es m = record m { shared = es }
with_roots i (Private id) es m = record m { privates = slice_set m.privates i es }
with_roots i (Local depth id) es m = record m { locals = change i (with_level depth es) m.locals }

-- another part where a pointer of an invocation leads, in a variable that is there
abbrev pub stored : ℕ → Pointer → Value → Held → Held
stored i p u m = option_map_or (λ es. with_roots i p.root (put_in (root_id p.root) p.path u es) m) (roots_in m i p.root) m

-- ---- what calls give

-- the part that a pointer names, or OutOfBounds where there is none
abbrev pub Loads : Held → ℕ → Pointer → Result Value MemErr → Type 0
Loads m i p (Ok v) = load_of m i p ≡ Some v
Loads m i p (Err UndefinedIndex) = ⊥
Loads m i p (Err OutOfBounds) = load_of m i p ≡ None
Loads m i p (Err NoMemory) = ⊥

-- The part that a pointer names is exchanged with u. Where there is none, the answer is OutOfBounds, and nothing changes.
abbrev pub Stores : Held → ℕ → Pointer → Value → Held → Value → Result (Unit {0}) MemErr → Type 0
Stores m i p u new handed result =
    MatchOption (load_of m i p) ((result ≡ Err OutOfBounds) × (new ≡ m) × (handed ≡ u)) (λ w. (result ≡ Ok tt) × (new ≡ stored i p u m) × (handed ≡ w))

-- a value may be put where a pointer leads, if it leads anywhere: of the part's type, which has no runtime array in it
abbrev pub MayStore : Held → ℕ → Pointer → Value → Type 0
MayStore m i p u = (ty : ℕ) (v : Value) → reads (root_id p.root) m.targets ≡ Some ty → root_value m i p.root ≡ Some v → MayBePut m.types ty v p.path u

-- ---- what a memory keeps

-- a variable has a type, and a value of it
pub record IsVariable (ts : Types) (targets : List (ℕ × ℕ)) (id : ℕ) (v : Value) : Type 0 where
  pub type : ℕ
  pub named : reads id targets ≡ Some type
  pub shape : HasShape ts no_roots type v

abbrev pub AreVariables : Types → List (ℕ × ℕ) → Roots → Type 0
AreVariables ts targets es = (id : ℕ) (v : Value) → reads id es ≡ Some v → IsVariable ts targets id v

-- variables may have the types that are named
abbrev pub MayBeTargets : Types → List (ℕ × ℕ) → Type 0
MayBeTargets ts targets = (id type : ℕ) → reads id targets ≡ Some type → may_be_target ts type ≡ true

pub record IsMemory (m : Held) : Type 0 where
  pub sound : AreSound m.types
  pub targets : MayBeTargets m.types m.targets
  pub variables : (i : ℕ) (r : Root) (es : Roots) → roots_in m i r ≡ Some es → AreVariables m.types m.targets es

-- ---- memories that change

-- sound types, and variables that may have theirs
abbrev pub AreTargets : Types → List (ℕ × ℕ) → Type 0
AreTargets ts targets = AreSound ts × MayBeTargets ts targets

-- no variables, for n invocations, with room for the locals of so many frames
abbrev pub empty : Types → List (ℕ × ℕ) → ℕ → ℕ → Held
empty ts targets n depth = record { types = ts; targets = targets; shared = []; privates = replicate n []; locals = replicate n (record { list = []; room = depth }) }

-- a shared variable more, and one of an invocation
abbrev pub with_shared : ℕ → Value → Held → Held
with_shared id v m = record m { shared = m.shared ++ (id, v) ∷ [] }

abbrev pub with_private : ℕ → ℕ → Value → Held → Held
with_private i id v m = record m { privates = change i (λ es. es ++ (id, v) ∷ []) m.privates }

-- the locals of one frame more
abbrev pub entered : ℕ → Roots → Held → Held
entered i es m = record m { locals = change i (λ (l : Levels). record l { list = l.list ++ es ∷ [] }) m.locals }

-- there is room for those of a further frame
abbrev pub HasRoom : Held → ℕ → Type 0
HasRoom m i = (l : Levels) → slice_get m.locals i ≡ Some l → length l.list < l.room

-- the last locals are taken away, where there are any
abbrev pub Leaves : Held → ℕ → Held → Option Roots → Type 0
Leaves m i new None = (new ≡ m) × ((l : Levels) → slice_get m.locals i ≡ Some l → l.list ≡ [])
Leaves m i new (Some es) = m ≡ entered i es new

-- ---- scalars

-- the part that a pointer names, if there is one, is a scalar
abbrev pub IsScalarAt : Held → ℕ → Pointer → Type 0
IsScalarAt m i p = (w : Value) → load_of m i p ≡ Some w → IsSome (scalar_in (out-Value w))

-- the scalar that a pointer names, or OutOfBounds where there is none
abbrev pub LoadsCell : Held → ℕ → Pointer → Result Cell MemErr → Type 0
LoadsCell m i p (Ok c) = load_of m i p ≡ Some (Scalar c)
LoadsCell m i p (Err UndefinedIndex) = ⊥
LoadsCell m i p (Err OutOfBounds) = load_of m i p ≡ None
LoadsCell m i p (Err NoMemory) = ⊥

-- The scalar that a pointer names, which is exchanged with c. Where there is none, the answer is OutOfBounds, and nothing changes.
abbrev pub StoresCell : Held → ℕ → Pointer → Cell → Held → Result Cell MemErr → Type 0
StoresCell m i p c new (Ok d) = (load_of m i p ≡ Some (Scalar d)) × (new ≡ stored i p (Scalar c) m)
StoresCell m i p c new (Err UndefinedIndex) = ⊥
StoresCell m i p c new (Err OutOfBounds) = (load_of m i p ≡ None) × (new ≡ m)
StoresCell m i p c new (Err NoMemory) = ⊥

-- ---- runtime arrays

-- a pointer to member k of what a pointer names
abbrev pub member_of : Pointer → ℕ → Pointer
member_of p k = record p { path = p.path ++ k ∷ [] }

-- a pointer names a block in a shared variable that is there, and member k of the block is a runtime array
pub record NamesArray (m : Held) (p : Pointer) (k : ℕ) : Type 0 where
  pub id : ℕ
  pub shared : p.root ≡ Shared id
  pub value : Value
  pub there : reads id m.shared ≡ Some value
  pub type : ℕ
  pub named : reads id m.targets ≡ Some type
  pub block : ℕ
  pub leads : reached_type m.types type p.path ≡ Some block
  pub array : is_array_at m.types (form_of m.types block) k ≡ true
