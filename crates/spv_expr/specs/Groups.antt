-- The events that a frame has passed, by the variables that they are of.
use Rattle.std.specs.Prelude.{◌≡◌, ℕ, ◌<◌, if◌then◌else◌, Bool, List, [], ◌∷◌, Option, Vec, filter, length, slice_index, slice_index_or, take}
use Rattle.std.specs.BTreeMap.{BTreeMap, get}
use Rattle.std.specs.List.{All}
use Rattle.std.specs.Option.{option_map, option_map_or}
use Rattle.std.specs.Ordering.{nat_cmp}
use Rattle.std.specs.declared.alloc.Global.{Global}
use Rattle.spv_base.specs.Options.{holds}
use Rattle.spv_base.specs.declared.values.PassedEvent.{PassedEvent}
use Rattle.spv_dbg.specs.declared.frames.ShownFrame.{ShownFrame}
use Rattle.spv_dbg.specs.declared.insts.DebugInst.{DebugInst}
use Rattle.spv_dbg.specs.Tables.{Tables}
use Rattle.spv_frame.specs.Stacks.{Stacked}
use Rattle.spv_expr.specs.Picks.{blank, picked}
use Rattle.spv_expr.specs.Variables.{event_at, meant}

-- where variables are shown: the debug tables of a module, the calls of an invocation, and a shown frame of them or none
pub record Context : Type 0 where
  pub tables : Tables
  pub stack : Stacked
  pub frame : Option ShownFrame

-- The variable that an event is of. An InlinedAt doesn't change it.
abbrev pub variable_of : Tables → DebugInst → ℕ
variable_of t d = (meant t 0 (slice_index d.operands 0)).variable

abbrev pub variable_at : Tables → ℕ → Option ℕ
variable_at t word = option_map (variable_of t) (event_at t word)

abbrev pub is_about : Tables → ℕ → PassedEvent → Bool
is_about t variable e = holds variable (variable_at t e.word)

-- the event at a word is of the variable that an id stands for
abbrev pub is_event_of : Tables → ℕ → ℕ → Bool
is_event_of t id word = holds (meant t 0 id).variable (variable_at t word)

-- ---- as the code keeps them

-- the numbers under a variable
abbrev pub under : BTreeMap ℕ (Vec ℕ Global) → ℕ → List ℕ
under groups variable = option_map_or (λ v. v.items) (get nat_cmp groups variable) []

-- the number of an event, where it is about a variable
abbrev pub chosen : Tables → ℕ → List PassedEvent → ℕ → List ℕ
chosen t variable events n = if is_about t variable (slice_index_or events n blank) then n ∷ [] else []

pub record IsGroup (t : Tables) (events : List PassedEvent) (n variable : ℕ) (numbers : List ℕ) : Type 0 where
  pub within : All (λ k. k < length events) numbers
  pub are : picked events numbers ≡ filter (is_about t variable) (take n events)

abbrev pub AreGroups : Tables → List PassedEvent → ℕ → BTreeMap ℕ (Vec ℕ Global) → Type 0
AreGroups t events n groups = (variable : ℕ) → IsGroup t events n variable (under groups variable)
