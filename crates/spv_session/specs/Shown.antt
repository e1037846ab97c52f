-- Where invocations stand in the source: the frames that are shown of their calls.
use Rattle.std.specs.Prelude.{ℕ, ◌==◌, if◌then◌else◌, List, Option, Some, None, slice_get}
use Rattle.spv_dbg.specs.declared.frames.ShownFrame.{ShownFrame}
use Rattle.spv_dbg.specs.Tables.{text_of_file}
use Rattle.spv_frame.specs.Frames.{Held as Frame}
use Rattle.spv_state.specs.State.{frames_of}
use Rattle.spv_group.specs.Group.{Held as Group, state_in}
use Rattle.spv_search.specs.Keys.{shown_in, tables_in}
use Rattle.spv_session.specs.View.{View}

-- the innermost of the frames that are shown of an invocation
abbrev pub innermost : Group → ℕ → Option ShownFrame
innermost g i = slice_get (shown_in g i) 0

-- those that are shown of the focus
abbrev pub focus_frames : View → List ShownFrame
focus_frames v = shown_in v.group v.focus

-- the call of the focus that a shown frame is of
abbrev pub real_frame : View → ShownFrame → Option Frame
real_frame v f = slice_get (frames_of (state_in v.group) v.focus) f.depth

-- the text of the file that a shown frame stands in
abbrev pub source_text : View → ShownFrame → Option (List ℕ)
source_text v f = text_of_file (tables_in v.group) f.file

-- the file of the line where a shown frame stands, where it has one
abbrev pub line_file : ShownFrame → Option (List ℕ)
line_file f = if f.line == 0 then None else Some f.file
