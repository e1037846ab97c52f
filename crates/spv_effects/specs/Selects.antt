-- OpSelect 169: a scalar condition governs all leaves of two values of one form, and a vector of conditions has one for each
-- lane (SPIR-V 1.6, section "Relational and Logical Instructions"). A leaf is not defined where its condition isn't, or where
-- either object's leaf isn't.
use Rattle.std.specs.Prelude.{◌≡◌, ◌⊎◌, ℕ, List, length, map}
use Rattle.spv_alu.specs.Select.{selected}
use Rattle.spv_base.specs.Cell.{Cell}
use Rattle.spv_base.specs.declared.values.Value.{Value}
use Rattle.spv_effects.specs.Forms.{with_leaves}
use Rattle.spv_types.specs.Rows.{leaves}

-- the result, of the form of the first object
abbrev pub select_value : Value → Value → Value → Value
select_value c a b = with_leaves a (selected (leaves c) (leaves a) (leaves b))

-- two rows of n leaves of the same widths
pub record AreAlike (xs ys : List Cell) (n : ℕ) : Type 0 where
  pub count : length xs ≡ n
  pub widths : map (λ (x : Cell). x.width) xs ≡ map (λ (y : Cell). y.width) ys

-- one condition, or n, and two objects of n leaves
pub record MaySelect (cs xs ys : List Cell) (n : ℕ) : Type 0 where
  pub governs : (length cs ≡ 1) ⊎ (length cs ≡ n)
  pub objects : AreAlike xs ys n
