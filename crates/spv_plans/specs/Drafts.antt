-- How a plan grows by one register.
use Rattle.std.specs.Prelude.{◌≡◌, ℕ, List, [], ◌∷◌, ◌++◌, if◌then◌else◌, length}
use Rattle.spv_base.specs.declared.instructions.Inst.{Inst}
use Rattle.spv_types.specs.Types.{Types}
use Rattle.spv_frame.specs.declared.slots.Place.{Place}
use Rattle.spv_frame.specs.declared.slots.Place.TheVariants.{Value, Pointer}
use Rattle.spv_frame.specs.Registers.{Planned}
use Rattle.spv_plans.specs.Plans.{HasRegisters}
use Rattle.spv_plans.specs.Registers.{is_parameter, register_in}

-- a parameter's place behind those of the parameters before it
abbrev pub with_place : Planned → Inst → Place → Planned
with_place p i place = record p { parameters = p.parameters ++ (if is_parameter i then place ∷ [] else []) }

abbrev pub with_pointer : Planned → Inst → Planned
with_pointer p i = record (with_place p i (Pointer (length p.pointers))) { pointers = p.pointers ++ i.id ∷ []; types = p.types ++ (i.id, i.ty) ∷ [] }

abbrev pub with_value : Planned → Inst → ℕ → Planned
with_value p i cells = record (with_place p i (Value (length p.values))) { values = p.values ++ (i.id, cells) ∷ []; types = p.types ++ (i.id, i.ty) ∷ [] }

-- a plan has one more register than before, where an instruction has one
pub record Grows (ts : Types) (i : Inst) (p q : Planned) : Type 0 where
  pub function : q.function ≡ p.function
  pub first : q.first ≡ p.first
  pub registers : (is : List Inst) → HasRegisters ts is p → HasRegisters ts (is ++ register_in ts i) q
