-- Where watches hit: where the bits that they look at differ from those before the last event.
use Rattle.std.specs.Prelude.{ℕ, ◌-◌, ◌==◌, ◌&&◌, ◌||◌, not, nat_lt, Bool, true, false, List, [], filter, map, Option, Some, None, if◌then◌else◌, slice_get}
use Rattle.std.specs.Cmp.Lexicographic.{pointwise}
use Rattle.std.specs.List.{range_with_len}
use Rattle.std.specs.Option.{option_eq, option_map_or}
use Rattle.spv_dbg.specs.declared.frames.Bit.{Bit}
use Rattle.spv_dbg.specs.declared.frames.ShownFrame.{ShownFrame}
use Rattle.spv_dbg.specs.Tables.{Tables}
use Rattle.spv_expr.specs.Bits.{variable_bit}
use Rattle.spv_frame.specs.Frames.{Held as Frame}
use Rattle.spv_mem.specs.Memory.{Held as Memory}
use Rattle.spv_state.specs.State.{frames_of}
use Rattle.spv_stops.specs.Stops.{Stops, number_of}
use Rattle.spv_stops.specs.Watches.{WatchKey}
use Rattle.spv_group.specs.Group.{Held as Group, group_at, state_in}

-- ---- the bits of a watch

-- the real frame of an invocation at the watch's depth, if there is one and it is of the watch's function
abbrev pub has_frame : WatchKey → List Frame → Bool
has_frame k frames = option_map_or (λ (f : Frame). f.plan.function == k.function) (slice_get frames k.depth) false

-- a global is always there
abbrev pub is_there : WatchKey → List Frame → Bool
is_there k frames = not k.local || has_frame k frames

-- a shown frame of a local: its depth and its InlinedAt alone are asked for
abbrev pub frame_of : WatchKey → Option ShownFrame
frame_of k =
    if k.local
    then Some (record { depth = k.depth; function = k.function; scope = 0; inlined = k.inlined; name = []; file = []; line = 0; word = 0 })
    else None

-- The bits that a watch looks at, by the memory and the calls of its invocation. How many calls there is room for isn't asked for.
abbrev pub bits_in : Tables → WatchKey → Memory → List Frame → List Bit
bits_in t k m frames = map (variable_bit m k.inv t (record { frames = frames; room = 0 }) (frame_of k) k.variable) (range_with_len k.first k.count)

abbrev pub watched_in : Tables → WatchKey → Memory → List Frame → Option (List Bit)
watched_in t k m frames = if is_there k frames then Some (bits_in t k m frames) else None

-- The bits that a watch looks at. A global's are always there. A local's are absent where its invocation has no real frame at its depth, or one
-- of another function there.
abbrev pub watched : Tables → WatchKey → Group → Option (List Bit)
watched t k g = watched_in t k (state_in g).memory (frames_of (state_in g) k.inv)

-- ---- changes

abbrev pub same_mark : Bool → Bool → Bool
same_mark true b = b
same_mark false b = not b

abbrev pub same_bit : Bit → Bit → Bool
same_bit a b = same_mark a.bound b.bound && (same_mark a.defined b.defined && same_mark a.one b.one)

-- absent bits differ from those that are there
abbrev pub same_bits : (before after : Option (List Bit)) → Bool
same_bits before after = option_eq (pointwise same_bit) before after

-- the bits of a watch differ from those before the last event
abbrev pub has_changed : Tables → Group → ℕ × WatchKey → Bool
has_changed t g w = not (same_bits (watched t w.1 (group_at (g.position - 1) g)) (watched t w.1 g))

-- the numbers of the watches that hit; at the start none does
abbrev pub watch_numbers : Tables → Stops WatchKey → Group → List ℕ
watch_numbers t watches g = if nat_lt 0 g.position then map number_of (filter (has_changed t g) watches.0) else []
