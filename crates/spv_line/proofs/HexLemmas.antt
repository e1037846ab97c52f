-- Pairs of hexadecimal digits, one after another.
use Rattle.std.proofs.Common.{◌≡◌, ℕ, ◌+◌, ◌*◌, true, List, [], ◌∷◌, refl, arith}
use Rattle.std.proofs.lemmas.Bool.{and_parts}
use Rattle.std.specs.List.{list_all}
use Rattle.spv_line.specs.Hex.{is_hex_digit, hex_digit, pairs_of, HasFirstPair}

pub pair_first : (high low : ℕ) (rest : List ℕ) → list_all is_hex_digit (high ∷ low ∷ rest) ≡ true → HasFirstPair (high ∷ low ∷ rest) (16 * hex_digit high + hex_digit low) rest
pair_first high low rest h = record {
  pairs = refl;
  hex = (and_parts _ _ (and_parts _ _ h).1).1;
  fewer = omega arith;
}

pub no_pair : (high : ℕ) → pairs_of (high ∷ []) ≡ []
no_pair high = refl
