-- The frames that are shown of the calls of an invocation, the innermost first: for each real frame, from the top one on, the Function around
-- the scope in force, and those of the calls that were inlined around it (NonSemantic.Shader.DebugInfo.100, DebugInlinedAt).
use Rattle.std.specs.Prelude.{ℕ, suc, ◌==◌, ◌+◌, if◌then◌else◌, List, [], ◌∷◌, ◌++◌, length, map, slice_index, take, unwrap_or, Option, Some, None}
use Rattle.std.specs.Option.{option_map_or}
use Rattle.spv_base.specs.Entries.{reads}
use Rattle.spv_index.specs.Definitions.{name_of}
use Rattle.spv_valid.specs.Acceptance.{Accepted}
use Rattle.spv_dbg.specs.declared.frames.ShownFrame.{ShownFrame}
use Rattle.spv_dbg.specs.declared.insts.DebugInst.{DebugInst}
use Rattle.spv_dbg.specs.Tables.{Tables, with_id}
use Rattle.spv_frame.specs.Frames.{Held as Frame}
use Rattle.spv_scopes.specs.declared.places.Place.{Place}
use Rattle.spv_scopes.specs.declared.frames.Real.{Real}
use Rattle.spv_scopes.specs.Spots.{Spot, Spots, spot_in}

-- the bytes of the OpString with an id, and none where there is no such string
abbrev pub string_in : Tables → ℕ → List ℕ
string_in t id = unwrap_or (reads id t.strings) []

-- the Name of the Function (20) with an id
abbrev pub debug_name : Tables → ℕ → List ℕ
debug_name t function = option_map_or (λ (d : DebugInst). string_in t (slice_index d.operands 0)) (with_id t function) []

-- the first OpName (5) of a function
abbrev pub op_name : Accepted → ℕ → List ℕ
op_name m function = unwrap_or (name_of m.insts function) []

-- that of the Function, and where it is missing or empty the OpName of the real function
abbrev pub name_or : List ℕ → List ℕ → List ℕ
name_or debug other = if length debug == 0 then other else debug

-- a place in no Function tells of no scope
abbrev pub plain : Place → Place
plain p = record p { scope = 0; inlined = 0 }

-- the line of a shown frame, with the name of its file, where it has one
abbrev pub line_shown : ShownFrame → Option (List ℕ × ℕ)
line_shown f = if f.line == 0 then None else Some (f.file, f.line)

-- a line of a file by its OpString, with the name
abbrev pub line_named : Tables → ℕ × ℕ → List ℕ × ℕ
line_named t line = (string_in t line.0, line.1)

-- the real frame of a call at a depth
abbrev pub real_of : ℕ → Frame → Real
real_of depth f = record { depth = depth; function = f.plan.function; word = f.pc }

-- how many frames are shown of a real one whose next instruction is at a word
abbrev pub count_at : Spots → ℕ → ℕ
count_at spots word = if (spot_in spots word).place.function == 0 then 1 else length (spot_in spots word).calls + 1

module _ (m : Accepted) (t : Tables) where
  -- the frame of a real frame at a place
  abbrev pub frame_at : Real → Place → ShownFrame
  frame_at r p = record {
    depth = r.depth;
    function = r.function;
    scope = p.scope;
    inlined = p.inlined;
    name = name_or (debug_name t p.function) (op_name m r.function);
    file = string_in t p.file;
    line = p.line;
    word = r.word;
  }

  -- the first frame of a real one: at the place of its next instruction
  abbrev pub first_at : Real → Place → ShownFrame
  first_at r p = frame_at r (if p.function == 0 then plain p else p)

  abbrev pub first_frame : Real → Spot → ShownFrame
  first_frame r s = first_at r s.place

  -- those of the calls around it, where its scope is in a Function
  abbrev pub outer_frames : Real → Spot → List ShownFrame
  outer_frames r s = if s.place.function == 0 then [] else map (frame_at r) s.calls

  -- all frames of a real one
  abbrev pub frames_at : Spots → Real → List ShownFrame
  frames_at spots r = first_frame r (spot_in spots r.word) ∷ outer_frames r (spot_in spots r.word)

  -- those of real frames, of which the first has a depth and the last is the top one
  abbrev pub frames_from : Spots → ℕ → List Frame → List ShownFrame
  frames_from spots depth [] = []
  frames_from spots depth (f ∷ fs) = frames_from spots (suc depth) fs ++ frames_at spots (real_of depth f)

  unfoldable pub shown_of : Spots → List Frame → List ShownFrame
  shown_of spots fs = frames_from spots 0 fs

  -- those of the calls below a depth
  unfoldable pub shown_below : Spots → ℕ → List Frame → List ShownFrame
  shown_below spots depth fs = frames_from spots 0 (take depth fs)
