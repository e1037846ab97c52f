-- The plans of the functions of a module, by the ids of functions, and their registers, by the ids of parameters and results.
use Rattle.std.specs.Prelude.{◌++◌, ℕ, suc, List, [], ◌∷◌}
use Rattle.spv_frame.specs.declared.functions.Register.{Register}
use Rattle.spv_frame.specs.declared.slots.Place.{Place}
use Rattle.spv_frame.specs.declared.slots.Place.TheVariants.{Value, Pointer}
use Rattle.spv_frame.specs.Registers.{Planned, ids}

-- plans, of which the first has a number, by the ids of their functions
abbrev pub numbered : ℕ → List Planned → List (ℕ × ℕ)
numbered k [] = []
numbered k (p ∷ ps) = (p.function, k) ∷ numbered (suc k) ps

-- registers of the plan with a number, of which the first has number n of its kind
abbrev pub placed : ℕ → (ℕ → Place) → ℕ → List ℕ → List (ℕ × Register)
placed plan kind n [] = []
placed plan kind n (id ∷ more) = (id, record { plan = plan; place = kind n }) ∷ placed plan kind (suc n) more

abbrev pub registers_in : ℕ → Planned → List (ℕ × Register)
registers_in plan p = placed plan Value 0 (ids p.values) ++ placed plan Pointer 0 p.pointers

-- the registers of plans, of which the first has a number
abbrev pub registers_from : ℕ → List Planned → List (ℕ × Register)
registers_from k [] = []
registers_from k (p ∷ ps) = registers_in k p ++ registers_from (suc k) ps

abbrev pub registers_of : List Planned → List (ℕ × Register)
registers_of ps = registers_from 0 ps

-- the types of the registers of plans, by their ids
abbrev pub types_of : List Planned → List (ℕ × ℕ)
types_of [] = []
types_of (p ∷ ps) = p.types ++ types_of ps
