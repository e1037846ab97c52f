-- Which plan a function of an accepted module has.
use Rattle.std.specs.Prelude.{◌≡◌, ℕ, List, Option, Some, map, slice_get, unwrap_or}
use Rattle.std.specs.List.{filter}
use Rattle.std.specs.Option.{option_map_or}
use Rattle.spv_base.specs.declared.instructions.Inst.{Inst}
use Rattle.spv_types.specs.Cells.{cells_of}
use Rattle.spv_types.specs.Types.{Types}
use Rattle.spv_valid.specs.Below.spv_cfg.specs.Calls.{functions_of}
use Rattle.spv_valid.specs.Acceptance.{Accepted}
use Rattle.spv_frame.specs.declared.slots.Place.{Place}
use Rattle.spv_frame.specs.declared.slots.Place.TheVariants.{Value, Pointer}
use Rattle.spv_frame.specs.Registers.{Planned, Rooms, ids, number_of}
use Rattle.spv_plans.specs.Members.{first_stop, members}
use Rattle.spv_plans.specs.Registers.{has_cells, has_pointer, is_parameter, registers_of}

-- the id of the register at a place
abbrev pub id_at : Rooms → List ℕ → Place → Option ℕ
id_at values pointers (Value n) = slice_get (ids values) n
id_at values pointers (Pointer n) = slice_get pointers n

abbrev pub counted : ℕ × ℕ → ℕ × Option ℕ
counted r = (r.0, Some r.1)

-- A plan has a register for each of some instructions, in their order: those of values, each with as many cells as its type has, and
-- those of pointers. It names their types, and where the parameters lie, in their order.
pub record HasRegisters (ts : Types) (is : List Inst) (p : Planned) : Type 0 where
  pub values : map counted p.values ≡ map (λ (i : Inst). (i.id, cells_of ts i.ty)) (filter (has_cells ts) is)
  pub pointers : p.pointers ≡ map (λ (i : Inst). i.id) (filter (has_pointer ts) is)
  pub types : p.types ≡ map (λ (i : Inst). (i.id, i.ty)) is
  pub parameters : map (id_at p.values p.pointers) p.parameters ≡ map (λ (i : Inst). Some i.id) (filter is_parameter is)

-- the plan of a function: the word of its first executable, and its registers
pub record IsPlan (a : Accepted) (p : Planned) : Type 0 where
  pub first : first_stop (members a.insts p.function) ≡ Some p.first
  pub registers : HasRegisters a.types (registers_of a.types a.insts p.function) p

-- ---- the plan of a function, from the module

-- the registers of values among some registers, each with how many cells its type has
abbrev pub values_among : Types → List Inst → Rooms
values_among ts is = map (λ (i : Inst). (i.id, unwrap_or (cells_of ts i.ty) 0)) (filter (has_cells ts) is)

-- those of pointers
abbrev pub pointers_among : Types → List Inst → List ℕ
pointers_among ts is = map (λ (i : Inst). i.id) (filter (has_pointer ts) is)

-- where the register with an id lies: by its number among those of values, else by its number among those of pointers
abbrev pub place_among : Rooms → List ℕ → ℕ → Place
place_among values pointers id = option_map_or Value (number_of id (ids values)) (Pointer (unwrap_or (number_of id pointers) 0))

-- where the parameters among some registers lie
abbrev pub parameters_among : Types → List Inst → List Place
parameters_among ts is = map (λ (i : Inst). place_among (values_among ts is) (pointers_among ts is) i.id) (filter is_parameter is)

-- the plan of a function with a first executable and registers
abbrev pub plan_with : Types → ℕ → Option ℕ → List Inst → Planned
plan_with ts function first is = record {
  function = function;
  first = unwrap_or first 0;
  parameters = parameters_among ts is;
  values = values_among ts is;
  pointers = pointers_among ts is;
  types = map (λ (i : Inst). (i.id, i.ty)) is;
}

-- the plan of the function with an id
unfoldable pub plan_of : Accepted → ℕ → Planned
plan_of a function = plan_with a.types function (first_stop (members a.insts function)) (registers_of a.types a.insts function)

-- the ids of the functions of a module, in its order
abbrev pub functions_in : Accepted → List ℕ
functions_in a = map (λ f. f.0) (functions_of a.insts)

-- the plans of the functions of a module, in its order
abbrev pub plans_in : Accepted → List Planned
plans_in a = map (λ f. plan_of a f.0) (functions_of a.insts)
