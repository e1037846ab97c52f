-- Where the registers of an accepted module are found among the plans of its functions, and what is so of them.
use Rattle.std.specs.Prelude.{◌≡◌, ◌≢◌, ℕ, true, false, Option, Some, None, slice_get}
use Rattle.std.specs.List.{Contains}
use Rattle.spv_base.specs.Entries.{reads}
use Rattle.spv_index.specs.Definitions.{result_type}
use Rattle.spv_types.specs.Cells.{cells_of}
use Rattle.spv_types.specs.Queries.{is_pointer}
use Rattle.spv_types.specs.Types.{form_of}
use Rattle.spv_valid.specs.Acceptance.{Accepted}
use Rattle.spv_valid.specs.Meanings.{meaning_of}
use Rattle.spv_valid.specs.declared.meanings.Meaning.TheVariants.{Register as Registered}
use Rattle.spv_frame.specs.declared.functions.Register.{Register}
use Rattle.spv_frame.specs.declared.slots.Place.{Place}
use Rattle.spv_frame.specs.Functions.{registers_of}
use Rattle.spv_frame.specs.Plans.{AreApart}
use Rattle.spv_frame.specs.Registers.{Planned, ids, number_of}
use Rattle.spv_plans.specs.Plans.{functions_in, id_at, plan_of, plans_in}

-- ---- plans

-- a plan is that of a function of the module
pub record IsOfFunction (a : Accepted) (p : Planned) : Type 0 where
  pub function : Contains (functions_in a) p.function
  pub is : p ≡ plan_of a p.function

-- the plan of a function has a number among those of the module
pub record HasNumber (a : Accepted) (function : ℕ) : Type 0 where
  pub number : ℕ
  pub at : slice_get (plans_in a) number ≡ Some (plan_of a function)

-- no two registers of a plan have one id
pub record HasApart (p : Planned) : Type 0 where
  pub values : AreApart (ids p.values)
  pub pointers : AreApart p.pointers
  pub kinds : (id n : ℕ) → number_of id (ids p.values) ≡ Some n → number_of id p.pointers ≡ None

-- no register of a plan has the id
pub record IsAbsent (id : ℕ) (p : Planned) : Type 0 where
  pub values : number_of id (ids p.values) ≡ None
  pub pointers : number_of id p.pointers ≡ None

-- ---- registers

-- what an id gives among the registers of all functions of a module
abbrev pub register : Accepted → ℕ → Option Register
register a id = reads id (registers_of (plans_in a))

-- an id is found at a place in the frames of a function
pub record IsFound (a : Accepted) (function id : ℕ) (place : Place) : Type 0 where
  pub plan : ℕ
  pub at : slice_get (plans_in a) plan ≡ Some (plan_of a function)
  pub found : register a id ≡ Some (record { plan = plan; place = place })

-- the register with an id stands at its place in its plan, and in no plan of another function
pub record IsAt (a : Accepted) (id : ℕ) (r : Register) : Type 0 where
  pub plan : Planned
  pub at : slice_get (plans_in a) r.plan ≡ Some plan
  pub stands : id_at plan.values plan.pointers r.place ≡ Some id
  pub alone : (k : ℕ) (other : Planned) → slice_get (plans_in a) k ≡ Some other → other.function ≢ plan.function → IsAbsent id other

-- the register of a value with a number: its type is no pointer type, and has as many cells as the register
pub record HasValueType (a : Accepted) (p : Planned) (id n : ℕ) : Type 0 where
  pub ty : ℕ
  pub is : result_type a.insts id ≡ Some ty
  pub len : ℕ
  pub at : slice_get p.values n ≡ Some (id, len)
  pub cells : cells_of a.types ty ≡ Some len
  pub value : is_pointer (form_of a.types ty) ≡ false

-- the register of a pointer: its type is a pointer type
pub record HasPointerType (a : Accepted) (id : ℕ) : Type 0 where
  pub ty : ℕ
  pub is : result_type a.insts id ≡ Some ty
  pub pointer : is_pointer (form_of a.types ty) ≡ true

-- an id stands for a register of a function
abbrev pub MeansRegister : Accepted → ℕ → ℕ → Type 0
MeansRegister a id function = meaning_of a.insts id ≡ Some (Registered function)
