-- Variables under their ids, each id once.
use Rattle.std.specs.Prelude.{◌≡◌, ℕ, ◌&&◌, not, Bool, true, false, List, [], ◌∷◌, Some, slice_get, slice_set}
use Rattle.std.specs.Option.{MatchOption, is_some, option_and_then, option_map_or}
use Rattle.spv_base.specs.Entries.{reads, writes}
use Rattle.spv_base.specs.Parts.{part_at, with_part}
use Rattle.spv_base.specs.Variables.{Roots}
use Rattle.spv_base.specs.declared.values.Value.{Value}
use Rattle.spv_types.specs.Types.{Types}
use Rattle.spv_mem.specs.Targets.{Fits, MayBePut}

-- no id stands twice
abbrev pub distinct : Roots → Bool
distinct [] = true
distinct (e ∷ es) = not (is_some (reads e.0 es)) && distinct es

-- the variable with an id stands at place k
pub record IsAt (id k : ℕ) (es : Roots) : Type 0 where
  pub value : Value
  pub is : reads id es ≡ Some value
  pub at : slice_get es k ≡ Some (id, value)
  pub written : (u : Value) → writes id u es ≡ slice_set es k (id, u)

-- the variable with an id, if there is one, may have its value
abbrev pub AreFit : Types → ℕ → ℕ → Roots → Type 0
AreFit ts ty id es = (v : Value) → reads id es ≡ Some v → Fits ts ty v

-- a value may be put where a path leads in it
abbrev pub MayBePutIn : Types → ℕ → ℕ → Roots → List ℕ → Value → Type 0
MayBePutIn ts ty id es path u = (v : Value) → reads id es ≡ Some v → MayBePut ts ty v path u

-- the variables with another part in the one with an id
abbrev pub put_in : ℕ → List ℕ → Value → Roots → Roots
put_in id path u es = option_map_or (λ v. writes id (with_part v path u) es) (reads id es) es

-- the part that a path names in a variable is exchanged with u, where there is such a part
abbrev pub ExchangesIn : Roots → ℕ → List ℕ → Value → Roots → Value → Bool → Type 0
ExchangesIn es id path u new handed there =
    MatchOption (option_and_then (λ v. part_at v path) (reads id es)) ((there ≡ false) × (new ≡ es) × (handed ≡ u)) (λ w. (there ≡ true) × (new ≡ put_in id path u es) × (handed ≡ w))
