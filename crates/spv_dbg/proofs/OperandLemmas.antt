-- The operands behind the first two, as ids.
use Rattle.std.proofs.Common.{◌≡◌, ℕ, zero, suc, ◌+◌, List, [], ◌∷◌, map, drop, get_or, slice_get, unwrap_or, refl, arith}
use Rattle.std.specs.Option.{option_and_then}
use Rattle.spv_base.specs.declared.instructions.Operand.{Operand}
use Rattle.spv_index.specs.Operands.{id_in}
use Rattle.spv_dbg.specs.Marks.{id_or_0}

id_at_place : (ops : List Operand) (n : ℕ) → unwrap_or (option_and_then id_in (slice_get ops n)) 0 ≡ get_or (map id_or_0 ops) n 0
id_at_place [] zero = refl
id_at_place [] (suc n) = refl
id_at_place (o ∷ os) zero = refl
id_at_place (o ∷ os) (suc n) = id_at_place os n

pub id_behind : (ops : List Operand) (n : ℕ) → unwrap_or (option_and_then id_in (slice_get ops (n + 2))) 0 ≡ get_or (map id_or_0 (drop 2 ops)) n 0
id_behind ops n = let two : n + 2 ≡ suc (suc n) = omega arith in rw two (by_case ops)
  where
    by_case : (os : List Operand) → unwrap_or (option_and_then id_in (slice_get os (suc (suc n)))) 0 ≡ get_or (map id_or_0 (drop 2 os)) n 0
    by_case [] = none n
      where
        none : (k : ℕ) → 0 ≡ get_or (map id_or_0 (drop 2 [])) k 0
        none zero = refl
        none (suc k) = refl
    by_case (a ∷ []) = none n
      where
        none : (k : ℕ) → 0 ≡ get_or (map id_or_0 (drop 2 (a ∷ []))) k 0
        none zero = refl
        none (suc k) = refl
    by_case (a ∷ b ∷ os) = id_at_place os n
