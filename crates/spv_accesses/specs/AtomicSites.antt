-- What calls inside a step find at an atomic. No definition of a step speaks of it.
use Rattle.std.specs.Prelude.{◌≡◌, ℕ, Some, Result, ⊤}
use Rattle.spv_base.specs.Cell.{Cell}
use Rattle.spv_base.specs.declared.instructions.Inst.{Inst}
use Rattle.spv_base.specs.declared.values.Pointer.{Pointer}
use Rattle.spv_base.specs.declared.values.Value.{Value, Scalar}
use Rattle.spv_types.specs.Rows.{no_roots}
use Rattle.spv_types.specs.Shapes.{HasShape}
use Rattle.spv_types.specs.declared.queries.Pointed.{Pointed}
use Rattle.spv_alu.specs.Integers.{IsWidth}
use Rattle.spv_bodies.specs.Atomics.{IsShared, KeepsAtomicCompare, KeepsAtomicRead, KeepsAtomicStore, KeepsAtomicUpdate}
use Rattle.spv_bodies.specs.Context.{IsInteger, PointsTo, form_at}
use Rattle.spv_mem.specs.Conditions.{width_at}
use Rattle.spv_mem.specs.Memory.{load_of}
use Rattle.spv_results.specs.Operands.{known}
use Rattle.spv_valid.specs.Acceptance.{Accepted}
use Rattle.spv_sites.specs.Atomics as spec
use Rattle.spv_sites.specs.Effects as effects
use Rattle.spv_sites.specs.Atomics.{AtomicRow, loads, stores, counts, updates, compares}
use Rattle.spv_sites.specs.Sites.{Site, accepted}
use Rattle.spv_sites.specs.declared.causes.Cause.{Cause}

-- ---- by the row

-- what acceptance keeps of an atomic
abbrev pub KeepsRow : Accepted → Inst → AtomicRow → Type 0
KeepsRow a d loads = KeepsAtomicRead (known a) d
KeepsRow a d stores = KeepsAtomicStore (known a) d
KeepsRow a d (counts new) = KeepsAtomicRead (known a) d
KeepsRow a d (updates new) = KeepsAtomicUpdate (known a) d
KeepsRow a d (compares new) = KeepsAtomicCompare (known a) d

abbrev pub IsCount : AtomicRow → Type 0
IsCount (counts new) = ⊤
IsCount _ = ⊥

abbrev pub IsUpdate : AtomicRow → Type 0
IsUpdate (updates new) = ⊤
IsUpdate _ = ⊥

-- what is stored by a row that counts, and by one that updates; the old scalar by another
abbrev pub counted_cell : AtomicRow → Cell → Cell
counted_cell (counts new) old = new old
counted_cell _ old = old

abbrev pub updated_cell : AtomicRow → Cell → Cell → Cell
updated_cell (updates new) old value = new old value
updated_cell _ old value = old

-- ---- what is read

abbrev pub scalar : Site → ℕ → Result Cell Cause
scalar x n = effects.scalar x.program x.state x.inv x.frame x.inst n

abbrev pub target : Site → Value → Result (Pointer × Cell) Cause
target x at = spec.target x.state x.inv at

-- an operand is one integer
abbrev pub IsIntegerAt : Accepted → Inst → ℕ → Type 0
IsIntegerAt a d n = IsInteger (form_at (known a) d n)

-- the pointer leads to one
abbrev pub LeadsToInteger : Accepted → Inst → Type 0
LeadsToInteger a d = (p : Pointed) × PointsTo (known a) d 0 p × IsShared (known a) p

-- an integer is where a pointer leads: there may be another of its width
pub record IsTarget (x : Site) (t : Pointer × Cell) : Type 0 where
  pub there : load_of x.state.memory x.inv t.0 ≡ Some (Scalar t.1)
  pub leads : width_at x.state.memory t.0 ≡ Some t.1.width
  pub width : IsWidth t.1.width
  pub typed : (p : Pointed) → PointsTo (known (accepted x)) x.inst 0 p → HasShape (accepted x).types no_roots p.target (Scalar t.1)
