-- What variables of the source and ids hold where a view stands, as it is told.
use Rattle.std.specs.Prelude.{ℕ, ◌+◌, ◌-◌, if◌then◌else◌, true, false, List, [], ◌++◌, codes, decimal, Option, Result, Ok, Err, slice_get, unwrap_or}
use Rattle.std.specs.Option.{option_map, option_map_or}
use Rattle.spv_base.specs.Answers.{after}
use Rattle.spv_base.specs.declared.causes.CmdRefusal.{CmdRefusal}
use Rattle.spv_cmd.specs.declared.command.PathPart.{PathPart}
use Rattle.spv_cmd.specs.declared.command.PathText.{PathText}
use Rattle.spv_cmd.specs.Paths.{path_text}
use Rattle.spv_dbg.specs.declared.frames.Bit.{Bit}
use Rattle.spv_dbg.specs.declared.frames.ShownFrame.{ShownFrame}
use Rattle.spv_dbg.specs.Tables.{Tables}
use Rattle.spv_expr.specs.Bits.{global_size, variable_bit}
use Rattle.spv_frame.specs.Stacks.{Stacked}
use Rattle.spv_ids.specs.Texts.{id_text}
use Rattle.spv_mem.specs.Memory.{Held as Memory}
use Rattle.spv_parts.specs.Composites.{name_of}
use Rattle.spv_paths.specs.Paths.{Named, part_due, variable_due}
use Rattle.spv_print.specs.Layouts as print
use Rattle.spv_stops.specs.Watches.{WatchKey}
use Rattle.spv_source.specs.Frames.{shown_bytes}
use Rattle.spv_group.specs.Group.{state_in}
use Rattle.spv_search.specs.Keys.{tables_in}
use Rattle.spv_session.specs.Shown.{focus_frames}
use Rattle.spv_session.specs.View.{View}

-- `NAME = TEXT`
abbrev pub value_line : List ℕ → List ℕ → List ℕ
value_line name text = shown_bytes name ++ codes " = " ++ text ++ codes "\n"

-- ---- variables of an invocation, where a frame of its calls is shown or none is

abbrev pub scope_of : Option ShownFrame → ℕ
scope_of f = option_map_or (λ (x : ShownFrame). x.scope) f 0

module _ (t : Tables) (m : Memory) (i : ℕ) (calls : Stacked) (f : Option ShownFrame) where
  -- bit j of a variable
  abbrev pub bit_of : ℕ → ℕ → Bit
  bit_of id j = variable_bit m i t calls f id j

  -- a part of a variable by the parts of a path
  abbrev pub part_in : ℕ → List PathPart → Result Named CmdRefusal
  part_in id parts = part_due t id (global_size m i t id) parts

  -- what a path names
  abbrev pub named_in : List ℕ → List PathPart → Result Named CmdRefusal
  named_in name parts = after (variable_due t (scope_of f) name) (λ id. part_in id parts)

  -- the text of a part of a variable
  abbrev pub part_text : Named → List ℕ
  part_text n = print.text t n.part (n.end - n.start) (λ j. bit_of n.variable (n.start + j))

  -- the line of a variable whole, under its name
  abbrev pub line_of : ℕ → Result Named CmdRefusal → List ℕ
  line_of id (Ok n) = value_line (name_of t id) (part_text n)
  line_of id (Err refusal) = []

  abbrev pub variable_line : ℕ → List ℕ
  variable_line id = line_of id (part_in id [])

-- ---- the focus of a view

-- the selected frame; a finished focus has none
abbrev pub selected : View → Option ShownFrame
selected v = slice_get (focus_frames v) v.frame

abbrev pub focus_calls : View → Stacked
focus_calls v = unwrap_or (slice_get (state_in v.group).stacks v.focus) (record { frames = []; room = 0 })

abbrev pub named : View → List ℕ → List PathPart → Result Named CmdRefusal
named v name parts = named_in (tables_in v.group) (state_in v.group).memory v.focus (focus_calls v) (selected v) name parts

abbrev pub path_line : View → PathText → Named → List ℕ
path_line v path n = value_line (path_text path) (part_text (tables_in v.group) (state_in v.group).memory v.focus (focus_calls v) (selected v) n)

-- What a watch of it looks at: the bits of a global, as the focus has it, or those of a local in the call of a frame, under its InlinedAt.
-- A local is found where a frame is shown.
abbrev pub global_key : ℕ → Named → WatchKey
global_key i n = record { local = false; inv = i; depth = 0; function = 0; variable = n.variable; inlined = 0; first = n.start; count = n.end - n.start }

abbrev pub local_key : ℕ → Named → ShownFrame → WatchKey
local_key i n f = record { local = true; inv = i; depth = f.depth; function = f.function; variable = n.variable; inlined = f.inlined; first = n.start; count = n.end - n.start }

abbrev pub key_in : ℕ → Option ShownFrame → Named → WatchKey
key_in i f n = if n.is_local then option_map_or (local_key i n) f (global_key i n) else global_key i n

abbrev pub watch_key : View → Named → WatchKey
watch_key v n = key_in v.focus (selected v) n

-- the line of a variable where a frame is shown
abbrev pub line_in : View → Option ShownFrame → ℕ → List ℕ
line_in v f id = variable_line (tables_in v.group) (state_in v.group).memory v.focus (focus_calls v) f id

-- ---- ids

-- the text of what an id stands for in the call of the selected frame
abbrev pub id_told : View → ℕ → Option (List ℕ)
id_told v id = id_text v.group.program (state_in v.group) v.focus (option_map (λ (x : ShownFrame). x.depth) (selected v)) id

abbrev pub id_line : ℕ → List ℕ → List ℕ
id_line id text = codes "%" ++ decimal id ++ codes " = " ++ text ++ codes "\n"
