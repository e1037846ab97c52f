-- Hexadecimal digits, the highest first.
use Rattle.std.proofs.Common.{◌≡◌, ◌∙◌, ℕ, suc, ◌*◌, ◌/◌, ◌%◌, ◌^◌, List, [], ◌∷◌, ◌++◌, append_assoc}
use Rattle.spv_print.specs.Numbers.{hex_digit, hex_digits}

pub next_digit : (now whole : List ℕ) (left k n : ℕ) → left ≡ suc k → now ++ hex_digits left n ≡ whole → (now ++ hex_digit (n / 2 ^ (4 * k) % 16) ∷ []) ++ hex_digits k n ≡ whole
next_digit now whole left k n one e = append_assoc now (hex_digit (n / 2 ^ (4 * k) % 16) ∷ []) (hex_digits k n) ∙ (rw one at e)
