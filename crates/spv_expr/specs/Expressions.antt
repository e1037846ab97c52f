-- Expressions of debug events (NonSemantic.Shader.DebugInfo.100: DebugExpression, DebugOperation; this project's profile). They are evaluated where the
-- variable is shown: what was captured is as it was, and what pointers lead to is as it is in the memory now.
use Rattle.std.specs.Prelude.{ℕ, ◌==◌, ◌&&◌, if◌then◌else◌, not, Bool, List, [], ◌∷◌, ℤ, pos, ◌+ℤ◌, ◌-ℤ◌, slice_index, Option, Some, None}
use Rattle.std.specs.Option.{is_some, option_and_then, option_map, option_map_or}
use Rattle.spv_alu.specs.Results.{defined_if, integer}
use Rattle.spv_base.specs.Cell.{Cell, defined_cell}
use Rattle.spv_base.specs.Parts.{part_at}
use Rattle.spv_base.specs.declared.values.PassedEvent.{PassedEvent}
use Rattle.spv_base.specs.declared.values.Pointer.{Pointer}
use Rattle.spv_base.specs.declared.values.Value.{Value, out-Value}
use Rattle.spv_consts.specs.Table.{only}
use Rattle.spv_dbg.specs.declared.insts.DebugInst.{DebugInst}
use Rattle.spv_dbg.specs.Tables.{Tables, names_scalar, with_id}
use Rattle.spv_mem.specs.Memory.{Held as Memory, load_of}
use Rattle.spv_types.specs.Rows.{leaves}
use Rattle.spv_types.specs.Shapes.{pointer_in}
use Rattle.spv_parts.specs.Parts.{literal}

-- ---- entries of the stack

pub data Entry : Type 0 where
  number : Cell → Entry  -- a scalar
  whole : Value → Entry  -- a value of parts
  address : Pointer → Entry

-- a value which is a scalar or not: a scalar is its one leaf
abbrev pub typed : Bool → Value → Entry
typed scalar v = if scalar then option_map_or number (only (leaves v)) (whole v) else whole v

-- A value that lies in the memory, which holds no pointers: it is a scalar where it has no parts.
abbrev pub loaded : Value → Entry
loaded v = typed (not (is_some (part_at v (0 ∷ [])))) v

-- What an event has captured: a pointer, or a value, which is a scalar where the type of its id is one (SPIR-V 1.6 section 2.2.1).
abbrev pub captured : Tables → ℕ → Value → Entry
captured t word v = option_map_or address (pointer_in (out-Value v)) (typed (names_scalar t word) v)

-- ---- operations; the entry on top stands first

abbrev pub combined : (ℕ → ℕ → ℤ) → Cell → Cell → Cell
combined f a b = defined_if (a.defined && b.defined) (integer a.width (f a.bits b.bits))

abbrev pub sum : ℕ → ℕ → ℤ
sum a b = pos a +ℤ pos b

abbrev pub difference : ℕ → ℕ → ℤ
difference a b = pos a -ℤ pos b

-- two numbers on top are replaced by one, of the width of the deeper
abbrev pub arithmetic : (ℕ → ℕ → ℤ) → List Entry → Option (List Entry)
arithmetic f (number b ∷ number a ∷ es) = Some (number (combined f a b) ∷ es)
arithmetic f _ = None

abbrev pub swapped : List Entry → Option (List Entry)
swapped (b ∷ a ∷ es) = Some (a ∷ b ∷ es)
swapped _ = None

abbrev pub pushed : Cell → List Entry → List Entry
pushed c es = number c ∷ es

module _ (m : Memory) (inv : ℕ) where
  -- a pointer on top is replaced by what it leads to, where there is such a part of the memory
  abbrev pub dereferenced : List Entry → Option (List Entry)
  dereferenced (address p ∷ es) = option_map (λ v. loaded v ∷ es) (load_of m inv p)
  dereferenced _ = None

  -- Deref (0), Plus (1), Minus (2), PlusUconst (3), Swap (5), StackValue (7), Constu (8) and Fragment (9), by their numbers. A literal has 32 bits.
  -- BitPiece (4) and Xderef (6) can't be read.
  abbrev pub operated : ℕ → ℕ → List Entry → Option (List Entry)
  operated opcode operand es =
      if opcode == 0 then dereferenced es
      else if opcode == 1 then arithmetic sum es
      else if opcode == 2 then arithmetic difference es
      else if opcode == 3 then arithmetic sum (pushed (defined_cell 32 operand) es)
      else if opcode == 5 then swapped es
      else if opcode == 8 then Some (pushed (defined_cell 32 operand) es)
      else if opcode == 7 then Some es
      else if opcode == 9 then Some es
      else None

  -- what stands on top at the end: for a Declare (28) a pointer is loaded, and else it isn't read
  abbrev pub result : ℕ → List Entry → Option Entry
  result kind [] = None
  result kind (number c ∷ es) = Some (number c)
  result kind (whole v ∷ es) = Some (whole v)
  result kind (address p ∷ es) = if kind == 28 then option_map loaded (load_of m inv p) else None

  module _ (t : Tables) where
    -- an Operation (30): OpCode, and what it asks
    abbrev pub operation : List Entry → DebugInst → Option (List Entry)
    operation es d = operated (literal t (slice_index d.operands 0)) (literal t (slice_index d.operands 1)) es

    -- Operations, one after the other
    abbrev pub evaluated : List ℕ → List Entry → Option (List Entry)
    evaluated [] es = Some es
    evaluated (id ∷ ids) es = option_and_then (evaluated ids) (option_and_then (operation es) (with_id t id))

    -- what the Expression of an event gives of what it captured: nothing where it can't be read
    abbrev pub piece_of : DebugInst → Value → Option Entry
    piece_of d v =
        option_and_then (λ (x : DebugInst). option_and_then (result d.number) (evaluated x.operands (captured t d.word v ∷ []))) (with_id t (slice_index d.operands 2))

    abbrev pub piece : DebugInst → PassedEvent → Option Entry
    piece d e = option_and_then (piece_of d) e.value
