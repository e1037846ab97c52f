-- Lists of variables, by a number.
use Rattle.std.specs.Prelude.{◌≡◌, ℕ, Bool, false, List, Some, slice_get, slice_set}
use Rattle.std.specs.Option.{MatchOption}
use Rattle.spv_base.specs.Variables.{Roots}
use Rattle.spv_base.specs.declared.values.Value.{Value}
use Rattle.spv_types.specs.Types.{Types}
use Rattle.spv_mem.specs.Memory.{Levels}
use Rattle.spv_mem.specs.Roots.{AreFit, ExchangesIn, MayBePutIn}

-- the list with a number, if there is one, holds a variable of a type with an id, if any
abbrev pub FitAt : Types → ℕ → ℕ → List Roots → ℕ → Type 0
FitAt ts ty id lists k = (es : Roots) → slice_get lists k ≡ Some es → AreFit ts ty id es

abbrev pub MayBePutAt : Types → ℕ → ℕ → List Roots → ℕ → List ℕ → Value → Type 0
MayBePutAt ts ty id lists k path u = (es : Roots) → slice_get lists k ≡ Some es → MayBePutIn ts ty id es path u

-- an exchange in the list with a number, where there is one
pub record ExchangedAt (lists : List Roots) (k id : ℕ) (path : List ℕ) (u : Value) (new : List Roots) (handed : Value) (there : Bool) (es : Roots) : Type 0 where
  pub after : Roots
  pub within : ExchangesIn es id path u after handed there
  pub put : new ≡ slice_set lists k after

abbrev pub ExchangesAt : List Roots → ℕ → ℕ → List ℕ → Value → List Roots → Value → Bool → Type 0
ExchangesAt lists k id path u new handed there =
    MatchOption (slice_get lists k) ((there ≡ false) × (new ≡ lists) × (handed ≡ u)) (ExchangedAt lists k id path u new handed there)

-- the same in the list of a depth of the levels with a number
abbrev pub FitLevel : Types → ℕ → ℕ → List Levels → ℕ → ℕ → Type 0
FitLevel ts ty id levels k depth = (l : Levels) → slice_get levels k ≡ Some l → FitAt ts ty id l.list depth

abbrev pub MayBePutLevel : Types → ℕ → ℕ → List Levels → ℕ → ℕ → List ℕ → Value → Type 0
MayBePutLevel ts ty id levels k depth path u = (l : Levels) → slice_get levels k ≡ Some l → MayBePutAt ts ty id l.list depth path u

pub record ExchangedLevel (levels : List Levels) (k depth id : ℕ) (path : List ℕ) (u : Value) (new : List Levels) (handed : Value) (there : Bool) (l : Levels) : Type 0 where
  pub after : List Roots
  pub within : ExchangesAt l.list depth id path u after handed there
  pub put : new ≡ slice_set levels k (record l { list = after })

abbrev pub ExchangesLevel : List Levels → ℕ → ℕ → ℕ → List ℕ → Value → List Levels → Value → Bool → Type 0
ExchangesLevel levels k depth id path u new handed there =
    MatchOption (slice_get levels k) ((there ≡ false) × (new ≡ levels) × (handed ≡ u)) (ExchangedLevel levels k depth id path u new handed there)
