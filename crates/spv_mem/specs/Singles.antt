-- Leaves of variables that are exchanged by where they lie.
use Rattle.std.specs.Prelude.{◌≡◌, ℕ, List, Some, slice_get}
use Rattle.spv_base.specs.Entries.{reads}
use Rattle.spv_base.specs.Parts.{with_part}
use Rattle.spv_base.specs.Variables.{Roots}
use Rattle.spv_base.specs.declared.values.Pointer.{Pointer}
use Rattle.spv_base.specs.declared.values.Value.{Value}
use Rattle.spv_values.specs.Places.{IsRowAt}
use Rattle.spv_mem.specs.Memory.{Held, Levels, root_value}
use Rattle.spv_mem.specs.Targets.{elements_in}

-- what a pointer of an invocation names lies behind some leaves of its variable, and has so many
pub record NamesRow (m : Held) (i : ℕ) (p : Pointer) (start len : ℕ) : Type 0 where
  pub value : Value
  pub is : root_value m i p.root ≡ Some value
  pub row : IsRowAt value p.path start len

-- where the part that a path names lies in the variable with an id
pub record LiesIn (id : ℕ) (es : Roots) (path : List ℕ) (start len : ℕ) : Type 0 where
  pub value : Value
  pub is : reads id es ≡ Some value
  pub row : IsRowAt value path start len

-- ---- what calls ask

-- a path leads to one leaf of a value, behind some others, and a value put there keeps the number of elements at the end
pub record IsLeafFor (leaf : ℕ) (path : List ℕ) (u v : Value) : Type 0 where
  pub row : IsRowAt v path leaf 1
  pub elements : elements_in (with_part v path u) ≡ elements_in v

-- the variable with an id, if there is one, has such a leaf
abbrev pub LeafIn : ℕ → Roots → ℕ → List ℕ → Value → Type 0
LeafIn id es leaf path u = (v : Value) → reads id es ≡ Some v → IsLeafFor leaf path u v

-- and so in the list with a number, and in that of a depth
abbrev pub LeafAt : ℕ → List Roots → ℕ → ℕ → List ℕ → Value → Type 0
LeafAt id lists k leaf path u = (es : Roots) → slice_get lists k ≡ Some es → LeafIn id es leaf path u

abbrev pub LeafLevel : ℕ → List Levels → ℕ → ℕ → ℕ → List ℕ → Value → Type 0
LeafLevel id levels k depth leaf path u = (l : Levels) → slice_get levels k ≡ Some l → LeafAt id l.list depth leaf path u
