-- A frame: what its function plans, the word number of its next instruction, its registers, each with a value or none, and the debug
-- events that it passed. A map of registers is the list of its entries in the order of the module.
use Rattle.std.specs.Prelude.{◌≡◌, ℕ, Bool, List, [], Option, None, map, length, unwrap_or}
use Rattle.std.specs.List.{zip}
use Rattle.spv_base.specs.Entries.{writes}
use Rattle.spv_base.specs.Parts.{parts_in}
use Rattle.spv_base.specs.Variables.{Registers}
use Rattle.spv_base.specs.declared.values.PassedEvent.{PassedEvent}
use Rattle.spv_base.specs.declared.values.Pointer.{Pointer}
use Rattle.spv_base.specs.declared.values.Value.{Value, List as Many, out-Value}
use Rattle.spv_types.specs.Rows.{leaves}
use Rattle.spv_frame.specs.Registers.{Planned, ids, marks, sizes}

pub record Held : Type 0 where
  pub plan : Planned
  pub pc : ℕ
  pub values : Registers
  pub pointers : List (ℕ × Option Pointer)
  pub events : List PassedEvent

-- no value under each of some ids
abbrev pub none : {X : Type 0} → List ℕ → List (ℕ × Option X)
none ks = map (λ k. (k, None)) ks

-- a frame as it begins: no register has a value, and no event was passed
abbrev pub fresh : Planned → Held
fresh p = record { plan = p; pc = p.first; values = none (ids p.values); pointers = none p.pointers; events = [] }

-- the frame with a value or none under an id
abbrev pub with_value_under : ℕ → Option Value → Held → Held
with_value_under id o f = record f { values = writes id o f.values }

-- the frame with a pointer or none under an id
abbrev pub with_pointer_under : ℕ → Option Pointer → Held → Held
with_pointer_under id o f = record f { pointers = writes id o f.pointers }

-- ---- how registers lie

-- the values of a list of values
abbrev pub trees : Value → List Value
trees v = unwrap_or (parts_in (out-Value v)) []

abbrev pub cells_in : Value → ℕ
cells_in v = length (leaves v)

-- a frame as its parts tell it
abbrev pub shown : Planned → ℕ → Value → List Bool → List (Option Pointer) → List PassedEvent → Held
shown p pc row has ps es = record { plan = p; pc = pc; values = zip (ids p.values) (marks (trees row) has); pointers = zip p.pointers ps; events = es }

-- Its row has the cells of each register, and there is a mark for each register of a value and a place for each of a pointer.
abbrev pub Fits : Planned → Value → List Bool → List (Option Pointer) → Type 0
Fits p row has ps = (row ≡ Many (trees row)) × (map cells_in (trees row) ≡ sizes p.values) × (length has ≡ length p.values) × (length ps ≡ length p.pointers)
