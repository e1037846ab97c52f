-- Lists from the last element back.
use Rattle.std.proofs.Common.{◌≡◌, ℕ, ◌+◌, ◌-◌, ◌<◌, ◌≤◌, List, ◌∷◌, length, get_or, drop, arith}
use Rattle.std.proofs.lemmas.List.{drop_more}

pub drop_back : {X : Type 0} (xs : List X) (i : ℕ) (d : X) → 0 < i → i ≤ length xs → drop (i - 1) xs ≡ get_or xs (i - 1) d ∷ drop i xs
drop_back xs i d some le =
    let lt : i - 1 < length xs = omega arith in
    let same : i - 1 + 1 ≡ i = omega arith in
    rw same at (drop_more xs (i - 1) d lt)
