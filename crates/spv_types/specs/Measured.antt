-- That lists hold, by the numbers of types, their bytes and whether they are laid out.
use Rattle.std.specs.Prelude.{◌≡◌, ℕ, ◌<◌, Bool, false, List, length, slice_index_or}
use Rattle.spv_types.specs.Types.{Types, form_at}
use Rattle.spv_types.specs.Layout.{laid_among, laid_step, size_among, size_step}

-- the sizes of the first types
pub record AreSizes (ts : Types) (sizes : List ℕ) : Type 0 where
  pub sizes_are : (n : ℕ) → n < length sizes → slice_index_or sizes n 0 ≡ size_step (size_among ts n) (form_at ts n)

-- whether the first types are laid out
pub record AreLaid (ts : Types) (laid : List Bool) : Type 0 where
  pub laid_are : (n : ℕ) → n < length laid → slice_index_or laid n false ≡ laid_step ts (laid_among ts n) (form_at ts n)
