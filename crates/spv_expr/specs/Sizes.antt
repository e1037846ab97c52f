-- How long the values of types are, as it is found without a walk over their leaves. Clauses of private calls alone cite this.
use Rattle.std.specs.Prelude.{◌≡◌, ℕ, ◌≤◌, ◌+◌, List, length, take, Option, Some, None, slice_index_or, slice_get}
use Rattle.std.specs.List.{All, AllZip, flat_map}
use Rattle.spv_base.specs.Cell.{Cell}
use Rattle.spv_base.specs.declared.values.Value.{Value}
use Rattle.spv_types.specs.Laws.{AreByForms}
use Rattle.spv_types.specs.Rows.{leaves, no_roots}
use Rattle.spv_types.specs.Shapes.{HasShape, shape_step}
use Rattle.spv_types.specs.Types.{Types, number_of}
use Rattle.spv_types.specs.declared.forms.Form.{Form}
use Rattle.spv_types.specs.declared.forms.Member.{Member}
use Rattle.spv_expr.specs.Bits.{bits_of}
use Rattle.spv_expr.specs.declared.sizes.Stretch.{Stretch}

-- a row has so many leaves, and they so many bits
pub record IsLong (row : List Cell) (s : Stretch) : Type 0 where
  pub leaves_are : length row ≡ s.leaves
  pub bits_are : length (bits_of row) ≡ s.bits

-- the first leaves of a row have so many bits
pub record IsFront (row : List Cell) (s : Stretch) : Type 0 where
  pub within : s.leaves ≤ length row
  pub bits_are : length (bits_of (take s.leaves row)) ≡ s.bits

-- the leaves of some values, one value after another
abbrev pub row_of : List Value → List Cell
row_of vs = flat_map leaves vs

module _ (ts : Types) where
  -- values of one type, and values of the types of members
  abbrev pub AreOf : ℕ → List Value → Type 0
  AreOf id vs = All (HasShape ts no_roots id) vs

  abbrev pub AreMembers : List Member → List Value → Type 0
  AreMembers ms vs = AllZip (λ (m : Member). HasShape ts no_roots m.ty) ms vs

  -- ---- whole values

  -- each value of a form, or of a type, is so long
  pub record IsFormSize (f : Form) (s : Stretch) : Type 0 where
    pub each : AreByForms ts no_roots → (v : Value) → shape_step ts no_roots (HasShape ts no_roots) f v → IsLong (leaves v) s

  pub record IsSize (id : ℕ) (s : Stretch) : Type 0 where
    pub each : AreByForms ts no_roots → (v : Value) → HasShape ts no_roots id v → IsLong (leaves v) s

  -- so many values of a type together are so long
  pub record IsRowSize (id count : ℕ) (s : Stretch) : Type 0 where
    pub each : AreByForms ts no_roots → (vs : List Value) → length vs ≡ count → AreOf id vs → IsLong (row_of vs) s

  -- the values of the first k members together are so long
  pub record AreSized (ms : List Member) (k : ℕ) (s : Stretch) : Type 0 where
    pub each : AreByForms ts no_roots → (vs : List Value) → AreMembers ms vs → IsLong (row_of (take k vs)) s

  -- by their numbers, the sizes of types, where they are known
  pub record AreSizes (sizes : List (Option Stretch)) : Type 0 where
    pub sizes_are : (n id : ℕ) (s : Stretch) → number_of ts id ≡ Some n → slice_index_or sizes n None ≡ Some s → IsSize id s

  -- a stretch with a value of a type behind it, within another
  pub record IsMore (id : ℕ) (total room all : Stretch) : Type 0 where
    pub size : Stretch
    pub is : IsSize id size
    pub leaves_are : all.leaves ≡ total.leaves + size.leaves
    pub bits_are : all.bits ≡ total.bits + size.bits
    pub leaves_fit : all.leaves ≤ room.leaves
    pub bits_fit : all.bits ≤ room.bits

  -- ---- fronts, in values of n leaves

  pub record IsFormFront (f : Form) (n : ℕ) (s : Stretch) : Type 0 where
    pub each : AreByForms ts no_roots → (v : Value) → shape_step ts no_roots (HasShape ts no_roots) f v → length (leaves v) ≡ n → IsFront (leaves v) s

  pub record IsTypeFront (id n : ℕ) (s : Stretch) : Type 0 where
    pub each : AreByForms ts no_roots → (v : Value) → HasShape ts no_roots id v → length (leaves v) ≡ n → IsFront (leaves v) s

  -- of values of a type, one after another
  pub record IsRowFront (id n : ℕ) (s : Stretch) : Type 0 where
    pub each : AreByForms ts no_roots → (vs : List Value) → AreOf id vs → length (row_of vs) ≡ n → IsFront (row_of vs) s

  pub record IsMembersFront (ms : List Member) (n : ℕ) (s : Stretch) : Type 0 where
    pub each : AreByForms ts no_roots → (vs : List Value) → AreMembers ms vs → length (row_of vs) ≡ n → IsFront (row_of vs) s

  -- the value of member k has so many leaves, where all from it on have n
  pub record IsMemberLong (ms : List Member) (k n count : ℕ) : Type 0 where
    pub each : AreByForms ts no_roots → (vs : List Value) (v : Value) → AreMembers ms vs → slice_get vs k ≡ Some v → length (row_of (take k vs)) + n ≡ length (row_of vs) → length (leaves v) ≡ count
