-- A list so many times over.
use Rattle.std.specs.Prelude.{ℕ, zero, suc, List, [], ◌++◌}

unfoldable pub copies : {A : Type 0} → ℕ → List A → List A
copies zero xs = []
copies (suc n) xs = xs ++ copies n xs
