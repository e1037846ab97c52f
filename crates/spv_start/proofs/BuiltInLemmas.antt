-- Rows of built-in values, and the order of invocations.
use Rattle.std.proofs.Common.{◌≡◌, ℕ, ◌+◌, ◌*◌, ◌/◌, ◌%◌, ◌<◌, ◌≤◌, [], ◌∷◌, refl, arith}
use Rattle.std.proofs.Math.Nat.{div-add-mod, div-lt_iff_lt-mul, mod-lt}
use Rattle.spv_base.specs.Cell.{defined_cell}
use Rattle.spv_types.specs.Rows.{leaves}
use Rattle.spv_start.specs.BuiltIns.{IsPlaceOf, Three, local_id, three_words, word}
use Rattle.spv_types.proofs.Exports.{leaves_scalar, leaves_many}

pub three_leaves : (n : Three) → leaves (three_words n) ≡ defined_cell 32 n.0 ∷ defined_cell 32 n.1 ∷ defined_cell 32 n.2 ∷ []
three_leaves n = rw (leaves_many (word n.0 ∷ word n.1 ∷ word n.2 ∷ []), leaves_scalar (defined_cell 32 n.0), leaves_scalar (defined_cell 32 n.1), leaves_scalar (defined_cell 32 n.2)) refl

-- a number is put together again of quotients and remainders
index_of : (x y q r s n a : ℕ) → x * a + s ≡ n → y * q + r ≡ a → q * x * y + r * x + s ≡ n
index_of x y q r s n a whole inner =
    let e : x * (y * q + r) + s ≡ n = rw inner whole in
    omega (arith, e)

pub place_of : (size : Three) (n : ℕ) → 1 ≤ size.0 → 1 ≤ size.1 → n < size.0 * size.1 * size.2 → IsPlaceOf size (local_id size n) n
place_of size n x y inside = record {
  x = mod-lt n x;
  y = mod-lt (n / size.0) y;
  z = (div-lt_iff_lt-mul y).1 ((div-lt_iff_lt-mul x).1 (omega (arith, inside)));
  index = index_of size.0 size.1 (n / size.0 / size.1) (n / size.0 % size.1) (n % size.0) n (n / size.0) (div-add-mod n size.0) (div-add-mod (n / size.0) size.1);
}
