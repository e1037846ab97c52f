-- What an invocation sees of a state, and states that look the same to it but in some leaves of shared variables.
use Rattle.std.specs.Prelude.{◌≡◌, ℕ, List, Option, Some, None, slice_get, ⊤}
use Rattle.std.specs.List.{AllZip}
use Rattle.spv_base.specs.Variables.{Roots}
use Rattle.spv_base.specs.declared.values.Value.{Value, Scalar, List as Many, Ptr, fold-Value}
use Rattle.spv_base.specs.declared.values.Value.TheOpen.{Value-F}
use Rattle.spv_base.specs.Cell.{undefined_cell}
use Rattle.spv_types.specs.Rows.{leaves}
use Rattle.spv_base.specs.declared.values.Pointer.{Pointer}
use Rattle.spv_mem.specs.Memory.{load_of}
use Rattle.spv_state.specs.Program.{Program}
use Rattle.spv_state.specs.State.{State}
use Rattle.spv_touch.specs.Touching.{Due, due_of}
use Rattle.spv_order.specs.Order.{Holds}
use Rattle.spv_order.specs.declared.events.Leaves.{Leaves}

-- ---- values

-- one level of a value, where the outlines of the values inside are known
abbrev pub outline_step : Value-F Value → Value
outline_step (Value-F.Scalar c) = Scalar (undefined_cell 0)
outline_step (Value-F.List vs) = Many vs
outline_step (Value-F.Ptr q) = Ptr q

-- A value without what its scalars are: how many parts it has at each level. A value is its outline and its leaves.
unfoldable pub outline : Value → Value
outline = fold-Value Value outline_step

-- two values have one outline, and differ in these leaves alone
pub record Differ (some : ℕ → Type 0) (v w : Value) : Type 0 where
  pub outline : outline v ≡ outline w
  pub leaves : (n : ℕ) → (some n → ⊥) → slice_get (leaves v) n ≡ slice_get (leaves w) n

-- ---- states

-- variables with the same ids, which differ in the leaves of some ranges alone
abbrev pub VariablesDiffer : List Leaves → Roots → Roots → Type 0
VariablesDiffer some es fs = AllZip (λ (e f : ℕ × Value). (e.0 ≡ f.0) × Differ (Holds some e.0) e.1 f.1) es fs

-- Two states look the same to an invocation but in the leaves of some ranges: it has the same variables of its own, the same frames and the
-- same status in both.
pub record LookAlike (i : ℕ) (some : List Leaves) (s t : State) : Type 0 where
  pub plans : s.plans ≡ t.plans
  pub types : s.memory.types ≡ t.memory.types
  pub targets : s.memory.targets ≡ t.memory.targets
  pub shared : VariablesDiffer some s.memory.shared t.memory.shared
  pub privates : slice_get s.memory.privates i ≡ slice_get t.memory.privates i
  pub locals : slice_get s.memory.locals i ≡ slice_get t.memory.locals i
  pub stack : slice_get s.stacks i ≡ slice_get t.stacks i
  pub words : s.statuses.words ≡ t.statuses.words
  pub status : slice_get s.statuses.list i ≡ slice_get t.statuses.list i

-- no leaf is in ranges of both
abbrev pub AreApart : List Leaves → List Leaves → Type 0
AreApart some others = (root leaf : ℕ) → Holds some root leaf → Holds others root leaf → ⊥

-- ---- stores

-- there is a part of memory where a value is stored, and both have one outline
abbrev pub KeepsOutline : State → ℕ → Option (Pointer × Value) → Type 0
KeepsOutline s i None = ⊤
KeepsOutline s i (Some e) = (w : Value) × (load_of s.memory i e.0 ≡ Some w) × (outline w ≡ outline e.1)

-- what the next event of an invocation stores
abbrev pub StoreFits : Program → State → ℕ → Type 0
StoreFits p s i = (e : Due) → due_of p s i ≡ Some e → KeepsOutline s i e.effect.store
