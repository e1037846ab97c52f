-- Where an invocation stands in the source at the position of a group.
use Rattle.std.specs.Prelude.{◌≡◌, ℕ, ◌<◌, ◌==◌, ◌&&◌, Bool, true, false, List, length, Option, option_map, slice_get}
use Rattle.std.specs.Option.{option_and_then, option_eq, option_map_or}
use Rattle.spv_base.specs.declared.happenings.Status4.{Status4}
use Rattle.spv_base.specs.declared.happenings.Status4.TheVariants as status
use Rattle.spv_dbg.specs.declared.frames.ShownFrame.{ShownFrame}
use Rattle.spv_dbg.specs.Tables.{Tables, tables_of}
use Rattle.spv_frame.specs.Frames.{Held as Frame}
use Rattle.spv_scopes.specs.Heads.{Heads, NamedLine, heads_of, is_head, same_line}
use Rattle.spv_scopes.specs.Lines.{LineTable, lines_of}
use Rattle.spv_scopes.specs.Shown.{line_named, line_shown, shown_of}
use Rattle.spv_scopes.specs.Spots.{Spots, spots_of}
use Rattle.spv_state.specs.State.{frames_of, top_of}
use Rattle.spv_group.specs.Group.{Held as Group, invocations_in, state_in, status_of}
use Rattle.spv_search.specs.declared.focus.Key.{Key as Numbered}

-- ---- the debug information of the group's module

abbrev pub tables_in : Group → Tables
tables_in g = tables_of g.program.accepted

abbrev pub spots_in : Group → Spots
spots_in g = spots_of g.program.accepted (tables_in g)

abbrev pub heads_in : Group → Heads
heads_in g = heads_of g.program.accepted (tables_in g) (spots_in g)

-- ---- an invocation

-- the frames that are shown of it, the innermost first
abbrev pub shown_in : Group → ℕ → List ShownFrame
shown_in g i = shown_of g.program.accepted (tables_in g) (spots_in g) (frames_of (state_in g) i)

-- how many there are; a finished one has none
abbrev pub depth_in : Group → ℕ → ℕ
depth_in g i = length (shown_in g i)

-- the file and the line of the innermost, if there is one and it has a line
abbrev pub line_in : Group → ℕ → Option NamedLine
line_in g i = option_and_then line_shown (slice_get (shown_in g i) 0)

-- what tells places apart
abbrev pub Key : Type 0
Key = ℕ × Option NamedLine

abbrev pub key_in : Group → ℕ → Key
key_in g i = (depth_in g i, line_in g i)

-- files are compared by their names
abbrev pub same_key : Key → Key → Bool
same_key a b = a.0 == b.0 && option_eq same_line a.1 b.1

abbrev pub is_finished : Status4 → Bool
is_finished status.Finished = true
is_finished _ = false

abbrev pub has_finished : Group → ℕ → Bool
has_finished g i = is_finished (status_of (state_in g) i)

-- its top frame stands where a line begins
abbrev pub at_head : Group → ℕ → Bool
at_head g i = option_map_or (λ (f : Frame). is_head (heads_in g) f.pc) (top_of (state_in g) i) false

-- ---- as searches hold it

-- an invocation of the group, and the debug information of its module
pub record IsFocus (g : Group) (i : ℕ) (t : Tables) (l : LineTable) : Type 0 where
  pub exists : i < invocations_in g
  pub tables : t ≡ tables_in g
  pub lines : l ≡ lines_of g.program.accepted (tables_in g)

-- a key by the OpString of the file, with its name
abbrev pub named_key : Tables → Numbered → Key
named_key t k = (k.depth, option_map (line_named t) k.line)
