-- Atomics (SPIR-V 1.6 section 3.42.18). Each reads, computes and writes in one event, and all but OpAtomicStore give the old value. Integers are in
-- two's complement, modulo 2 ^ width. Where an operand has no value that is looked for first.
use Rattle.std.specs.Prelude.{ℕ, ◌==◌, ◌&&◌, if◌then◌else◌, min, max, ℤ, pos, ◌+ℤ◌, ◌-ℤ◌, bit_and, bit_or, bit_xor, Some, Result, Ok}
use Rattle.std.specs.Int.{int_min, int_max}
use Rattle.spv_base.specs.Cell.{Cell}
use Rattle.spv_base.specs.declared.instructions.Inst.{Inst}
use Rattle.spv_base.specs.declared.values.Pointer.{Pointer}
use Rattle.spv_base.specs.declared.values.Value.{Value, Scalar}
use Rattle.spv_valid.specs.Below.spv_ops.specs.Steps.{◌>>=◌}
use Rattle.spv_state.specs.Below.spv_alu.specs.Integers.{signed}
use Rattle.spv_state.specs.Below.spv_alu.specs.Results.{defined_if, integer}
use Rattle.spv_effects.specs.Lanes.{lane_of}
use Rattle.spv_frame.specs.Frames.{Held as Frame}
use Rattle.spv_state.specs.Program.{Program}
use Rattle.spv_state.specs.State.{State}
use Rattle.spv_state.specs.declared.actions.AtomicOp.{AtomicOp}
use Rattle.spv_state.specs.declared.actions.AtomicOp.TheVariants.{Load, Store, Exchange, CompareExchange, Increment, Decrement, Add, Sub, SMin, UMin, SMax, UMax, And, Or, Xor}
use Rattle.spv_sites.specs.Effects.{Effect, Next, gives, loaded, operand, pointer, scalar, sets}
use Rattle.spv_sites.specs.declared.causes.Cause.{Cause}

-- ---- what is stored

-- what an atomic does, by its operands, and what it stores over the old scalar
pub data AtomicRow : Type 0 where
  -- nothing: (pointer, scope, semantics)
  loads : AtomicRow
  -- the value, with no result: (pointer, scope, semantics, value)
  stores : AtomicRow
  -- by the old one: (pointer, scope, semantics)
  counts : (Cell → Cell) → AtomicRow
  -- by the old one and the value: (pointer, scope, semantics, value)
  updates : (Cell → Cell → Cell) → AtomicRow
  -- by the old one, the value and the comparator: (pointer, scope, semantics where equal, semantics where unequal, value, comparator)
  compares : (Cell → Cell → Cell → Cell) → AtomicRow

-- the low-order bits of an integer that the old scalar's width and bits make; not defined where the old one isn't
abbrev pub counting : (ℕ → ℤ) → Cell → Cell
counting f old = defined_if old.defined (integer old.width (f old.bits))

-- the same of the width and the bits of both; not defined where one isn't
abbrev pub updating : (ℕ → ℕ → ℕ → ℤ) → Cell → Cell → Cell
updating f old value = defined_if (old.defined && value.defined) (integer old.width (f old.width old.bits value.bits))

-- The value, with its own mark, where the old scalar equals the comparator, else the old one again; not defined where one of these two isn't.
abbrev pub compared_cell : Cell → Cell → Cell → Cell
compared_cell old value comparator = defined_if (old.defined && comparator.defined) (if old.bits == comparator.bits then value else old)

-- the table: a row for each atomic
unfoldable pub atomic_row : AtomicOp → AtomicRow
atomic_row Load = loads
atomic_row Store = stores
atomic_row Exchange = updates (λ old value. defined_if old.defined value)
atomic_row CompareExchange = compares compared_cell
atomic_row Increment = counts (counting (λ a. pos a +ℤ pos 1))
atomic_row Decrement = counts (counting (λ a. pos a -ℤ pos 1))
atomic_row Add = updates (updating (λ w a b. pos a +ℤ pos b))
atomic_row Sub = updates (updating (λ w a b. pos a -ℤ pos b))
atomic_row SMin = updates (updating (λ w a b. int_min (signed w a) (signed w b)))
atomic_row UMin = updates (updating (λ w a b. pos (min a b)))
atomic_row SMax = updates (updating (λ w a b. int_max (signed w a) (signed w b)))
atomic_row UMax = updates (updating (λ w a b. pos (max a b)))
atomic_row And = updates (updating (λ w a b. pos (bit_and a b)))
atomic_row Or = updates (updating (λ w a b. pos (bit_or a b)))
atomic_row Xor = updates (updating (λ w a b. pos (bit_xor a b)))

-- ---- what is read

-- the first of three operands, where each has a value
abbrev pub first_of_three : Program → State → ℕ → Frame → Inst → Result Value Cause
first_of_three p s i f d = operand p s i f d 0 >>= (λ v. operand p s i f d 1 >>= (λ _. operand p s i f d 2 >>= (λ _. Ok v)))

-- where a pointer leads, with the scalar there; F3 where there is none
abbrev pub target : State → ℕ → Value → Result (Pointer × Cell) Cause
target s i at = pointer at >>= (λ q. loaded s i q >>= (λ v. Ok (q, lane_of v)))

-- ---- effects

-- a scalar is stored over an old one, which is given
abbrev pub exchanges : Pointer → Cell → Cell → Effect
exchanges q new old = record { store = Some (q, Scalar new); result = Some (Scalar old); control = Next }

abbrev pub atomic_by : Program → State → ℕ → Frame → Inst → AtomicRow → Result Effect Cause
atomic_by p s i f d loads = first_of_three p s i f d >>= (λ at. target s i at >>= (λ t. Ok (gives (Scalar t.1))))
atomic_by p s i f d stores = first_of_three p s i f d >>= (λ at. scalar p s i f d 3 >>= (λ value. target s i at >>= (λ t. Ok (sets t.0 (Scalar value)))))
atomic_by p s i f d (counts new) = first_of_three p s i f d >>= (λ at. target s i at >>= (λ t. Ok (exchanges t.0 (new t.1) t.1)))
atomic_by p s i f d (updates new) =
    first_of_three p s i f d >>= (λ at. scalar p s i f d 3 >>= (λ value. target s i at >>= (λ t. Ok (exchanges t.0 (new t.1 value) t.1))))
atomic_by p s i f d (compares new) =
    first_of_three p s i f d >>= (λ at. operand p s i f d 3 >>= (λ _. scalar p s i f d 4 >>= (λ value. scalar p s i f d 5 >>= (λ comparator.
    target s i at >>= (λ t. Ok (exchanges t.0 (new t.1 value comparator) t.1))))))

abbrev pub atomic_effect : Program → State → ℕ → Frame → Inst → AtomicOp → Result Effect Cause
atomic_effect p s i f d op = atomic_by p s i f d (atomic_row op)
