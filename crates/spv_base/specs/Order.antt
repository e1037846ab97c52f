-- Instructions in the order of a module, each with the number of its first word.
use Rattle.std.specs.Prelude.{◌≡◌, ◌≢◌, ◌≤◌, ◌⊎◌, ℕ, suc, List, [], ◌∷◌}
use Rattle.std.specs.List.{AllByRecursion}
use Rattle.spv_base.specs.declared.instructions.Inst.{Inst}

-- their words ascend, from a word on
abbrev pub Ascend : ℕ → List Inst → Type 0
Ascend from [] = Unit {0}
Ascend from (i ∷ is) = (from ≤ i.word) × Ascend (suc i.word) is

-- no id is the result of two of them; 0 stands where there is no result
abbrev pub AreDistinct : List Inst → Type 0
AreDistinct [] = Unit {0}
AreDistinct (i ∷ is) = ((i.id ≡ 0) ⊎ AllByRecursion (λ (later : Inst). later.id ≢ i.id) is) × AreDistinct is
