-- The bits of a variable as they are shown (NonSemantic.Shader.DebugInfo.100, this project's profile): each is bound or not, and where it is bound it is
-- 0, 1 or undefined.
use Rattle.std.specs.Prelude.{◌≡◌, ℕ, ◌+◌, ◌-◌, ◌<◌, ◌==◌, if◌then◌else◌, Bool, true, false, List, [], ◌∷◌, length, map, slice_get, slice_index, unwrap_or, Option, Some, None}
use Rattle.std.specs.Option.{option_and_then, option_map, option_map_or, option_or}
use Rattle.std.specs.List.{flat_map}
use Rattle.spv_base.specs.Bits.{cell_bits}
use Rattle.spv_base.specs.Cell.{Cell}
use Rattle.spv_base.specs.Entries.{reads}
use Rattle.spv_base.specs.declared.values.PassedEvent.{PassedEvent}
use Rattle.spv_base.specs.declared.values.Root.TheVariants.{Shared, Private}
use Rattle.spv_dbg.specs.declared.constants.Constant.{Constant}
use Rattle.spv_dbg.specs.declared.frames.Bit.{Bit}
use Rattle.spv_dbg.specs.declared.frames.ShownFrame.{ShownFrame}
use Rattle.spv_dbg.specs.declared.insts.DebugInst.{DebugInst}
use Rattle.spv_dbg.specs.Tables.{Tables, with_id}
use Rattle.spv_frame.specs.Frames.{Held as Frame}
use Rattle.spv_frame.specs.Stacks.{Stacked}
use Rattle.spv_mem.specs.Memory.{Held as Memory, root_value}
use Rattle.spv_types.specs.Rows.{leaves}
use Rattle.spv_expr.specs.declared.events.Instance.{Instance}
use Rattle.spv_expr.specs.Expressions.{Entry, number, whole, address, piece}
use Rattle.spv_expr.specs.Variables.{event_of, last_telling, meant, telling}

-- ---- bits of values

-- The bits of some leaves in order, each from its lowest bit on. A Boolean has 32. A pointer is a leaf of width 0, and has none.
abbrev pub bits_of : List Cell → List (Option Bool)
bits_of cells = flat_map cell_bits cells

-- a bit of a value, 0, 1 or undefined, as it is shown
abbrev pub bound : Option Bool → Bit
bound None = record { bound = true; defined = false; one = false }
bound (Some b) = record { bound = true; defined = true; one = b }

abbrev pub unbound : Bit
unbound = record { bound = false; defined = false; one = false }

-- bit j of some bits; a missing one is unbound
abbrev pub shown : List (Option Bool) → ℕ → Bit
shown bits j = option_map_or bound (slice_get bits j) unbound

-- ---- what is asked

-- the global that an id is
abbrev pub if_global : DebugInst → Option DebugInst
if_global d = if d.number == 18 then Some d else None

-- the events that the real frame of a shown frame has passed, and its InlinedAt
abbrev pub events_in : Stacked → Option ShownFrame → List PassedEvent
events_in s f = option_map_or (λ (h : Frame). h.events) (option_and_then (λ (x : ShownFrame). slice_get s.frames x.depth) f) []

abbrev pub inlined_in : Option ShownFrame → ℕ
inlined_in f = option_map_or (λ (x : ShownFrame). x.inlined) f 0

-- ---- a local variable

-- the leaves of what an expression gives
abbrev pub entry_cells : Entry → List Cell
entry_cells (number c) = c ∷ []
entry_cells (whole v) = leaves v
entry_cells (address p) = []

module _ (m : Memory) (inv : ℕ) (t : Tables) where
  -- the bits of the piece of an event; none where it can't be read
  abbrev pub piece_bits : DebugInst → PassedEvent → Option (List (Option Bool))
  piece_bits d e = option_map (λ entry. bits_of (entry_cells entry)) (piece m inv t d e)

  -- bit j of a variable, as an event tells that covers it
  abbrev pub told_by : ℕ → PassedEvent → DebugInst × (ℕ × ℕ) → Bit
  told_by j e x = option_map_or (λ bits. shown bits (j - x.1.0)) (piece_bits x.0 e) unbound

  abbrev pub told : Instance → ℕ → PassedEvent → Bit
  told v j e = option_map_or (told_by j e) (telling t v e.word) unbound

  -- bit j of a variable, where these events were passed: as the last that covers it tells
  abbrev pub local_bit : List PassedEvent → Instance → ℕ → Bit
  local_bit events v j = option_map_or (told v j) (last_telling t v j events) unbound

  -- the bits that an event gives of the piece of a variable, from the piece's first on; none where it can't be read
  abbrev pub event_bits : Instance → PassedEvent → Option (List Bit)
  event_bits v e = option_map (map bound) (option_and_then (λ d. piece_bits d e) (event_of t v e.word))

  -- ---- a GlobalVariable (18): seven operands, Variable

  -- the leaves of the module's variable with an id now, or of the constant with it
  abbrev pub global_cells : ℕ → List Cell
  global_cells id =
      unwrap_or (option_or (option_or (option_map leaves (root_value m inv (Shared id))) (option_map leaves (root_value m inv (Private id)))) (option_map (λ (c : Constant). c.cells) (reads id t.constants))) []

  abbrev pub global_bit : DebugInst → ℕ → Bit
  global_bit d j = shown (bits_of (global_cells (slice_index d.operands 7))) j

  abbrev pub global_count : DebugInst → ℕ
  global_count d = length (bits_of (global_cells (slice_index d.operands 7)))

  -- how many bits the global with an id has; 0 where it is none
  abbrev pub global_size : ℕ → ℕ
  global_size id = option_map_or global_count (option_and_then if_global (with_id t id)) 0

  -- ---- both

  -- bit j of the variable with an id in a shown frame
  abbrev pub variable_bit : Stacked → Option ShownFrame → ℕ → ℕ → Bit
  variable_bit s f id j =
      option_map_or (λ d. global_bit d j) (option_and_then if_global (with_id t id)) (local_bit (events_in s f) (meant t (inlined_in f) id) j)

  -- what the event with a number gives, of those that the real frame of a shown frame has passed
  abbrev pub evaluated : Stacked → ShownFrame → ℕ → ℕ → Option (List Bit)
  evaluated s f id n = option_and_then (event_bits (meant t f.inlined id)) (slice_get (events_in s (Some f)) n)

-- a list of so many bits from the first on
pub record AreBits (bit : ℕ → Bit) (first count : ℕ) (bits : List Bit) : Type 0 where
  pub long : length bits ≡ count
  pub each : (k : ℕ) → k < count → slice_get bits k ≡ Some (bit (first + k))
