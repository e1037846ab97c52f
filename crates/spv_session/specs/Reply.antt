-- The reply to a line, and the view after it. How a position was reached doesn't matter to it.
use Rattle.std.specs.Prelude.{ℕ, ◌==◌, nat_lt, Bool, true, false, List, [], ◌∷◌, ◌++◌, length, slice_get, Option, Some, None, is_some, count_by, if◌then◌else◌, Result, Ok, Err}
use Rattle.std.specs.List.{enumerate_from, flat_map, range_with_len}
use Rattle.std.specs.Option.{option_and_then, option_map_or}
use Rattle.spv_base.specs.declared.causes.CmdRefusal.{CmdRefusal}
use Rattle.spv_cmd.specs.declared.command.Command.{Command}
use Rattle.spv_cmd.specs.declared.command.Command.TheVariants as command
use Rattle.spv_cmd.specs.declared.command.PathText.{PathText}
use Rattle.spv_cmd.specs.declared.command.PathText.TheVariants.{Id, Name}
use Rattle.spv_cmd.specs.Commands.{command_of}
use Rattle.spv_dbg.specs.declared.frames.ShownFrame.{ShownFrame}
use Rattle.spv_paths.specs.Paths.{Named}
use Rattle.spv_paths.specs.Variables.{globals, locals}
use Rattle.spv_group.specs.Group.{Held as Group, entries_in, invocations_in, state_in, status_of, end_cause_in, end_in}
use Rattle.spv_source.specs.Frames.{frame_line}
use Rattle.spv_source.specs.Windows.{source_lines}
use Rattle.spv_scopes.specs.Heads.{heads_with}
use Rattle.spv_hits.specs.Halts.{told_before}
use Rattle.spv_probe.specs.Kits.{place}
use Rattle.spv_stops.specs.Breaks.{break_number}
use Rattle.spv_stops.specs.Stops.{is_kept, next_number}
use Rattle.spv_stops.specs.Watches.{WatchKey}
use Rattle.spv_search.specs.Keys.{has_finished, heads_in, tables_in}
use Rattle.spv_search.specs.declared.commands.Forward.TheVariants as on
use Rattle.spv_search.specs.declared.commands.Backward.TheVariants as back
use Rattle.spv_session.specs.declared.causes.Hit.{Hit}
use Rattle.spv_session.specs.Info.{module_words}
use Rattle.spv_session.specs.OrderTexts.{order_in, order_line}
use Rattle.spv_session.specs.Motions.{Motion, goto_motion, fwd_motion, back_motion, search_on, search_back, hits, target, is_done, hit_by, stopped_at}
use Rattle.spv_session.specs.Shown.{focus_frames, innermost, line_file, real_frame, source_text}
use Rattle.spv_session.specs.Texts.{refusal_line, registers_text, position_line, invocation_line, stop_line, info_line, break_line, deleted_line, watch_line, unwatched_line, tally_line, dropped_line, halt_line}
use Rattle.spv_session.specs.Variables.{id_line, id_told, line_in, named, path_line, selected, watch_key}
use Rattle.spv_session.specs.View.{Settings, View, focus_on, frame_on, tests_at, with_break, without_break, with_watch, without_watch, with_halt_of, without_probe}

-- ---- refusals

-- of a command that names an invocation which doesn't exist
abbrev pub no_such_invocation : ℕ
no_such_invocation = 3

-- of one that names a shown frame which doesn't exist
abbrev pub no_such_frame : ℕ
no_such_frame = 4

-- of one that names an id which stands for nothing there
abbrev pub no_such_name : ℕ
no_such_name = 5

-- of one that names a break or a watch which isn't kept, or a probe which isn't there
abbrev pub no_such_number : ℕ
no_such_number = 7

-- of one that names no line at which code begins
abbrev pub no_code : ℕ
no_code = 8

-- of one that asks for lines of the source where there are none
abbrev pub no_source_text : ℕ
no_source_text = 10

-- of one that asks for a frame of a finished invocation
abbrev pub focus_finished : ℕ
focus_finished = 12

-- of one that asks for events behind the end of the run
abbrev pub past_the_end : ℕ
past_the_end = 13

-- ---- what is told of a view

-- where the focus stands at the view's position
abbrev pub place_reply : View → List ℕ
place_reply v = position_line v.group.position v.focus (innermost v.group v.focus)

-- how far an invocation is, and where it stands
abbrev pub invocation_reply : Group → ℕ → List ℕ
invocation_reply g i = invocation_line i (status_of (state_in g) i) (innermost g i)

-- each invocation, in the order of their numbers
abbrev pub group_reply : Group → List ℕ
group_reply g = flat_map (invocation_reply g) (range_with_len 0 (invocations_in g))

-- what the module and its run have in numbers
abbrev pub info_reply : Group → List ℕ
info_reply g = info_line (module_words g.program.accepted.insts) (length g.program.accepted.insts) (tables_in g).ignored (invocations_in g) (length (entries_in g))

-- why a motion stopped at the view's position, and where the focus stands there
abbrev pub stop_reply : Hit → Bool → View → List ℕ
stop_reply hit done v = stop_line hit.breaks hit.watches hit.halts done (v.group.position == 0) (end_cause_in v.group) ++ place_reply v

-- ---- the table of commands

-- what a view is told at: a text, and the view after it, or a refusal by its number
pub data Told : Type 0 where
  tells : List ℕ → View → Told
  refuses : ℕ → Told

-- what a command does
pub data Act : Type 0 where
  nothing : Act
  quits : Act
  shows : (View → Told) → Act
  -- the same, by the tests of the probes
  asks : (Settings → View → Told) → Act
  goes : (View → Motion) → Act
  -- the same, of a focus that isn't finished; else it is refused
  walks : (View → Motion) → Act
  -- tells what the order is worth of the events from a number on, before another
  orders : (a b : ℕ) → Act

-- a line for each shown frame of the focus; a finished one has none
abbrev pub frames_told : View → List ShownFrame → Told
frames_told v [] = refuses focus_finished
frames_told v (f ∷ fs) = tells (flat_map (λ numbered. frame_line numbered.0 numbered.1) (enumerate_from 0 (f ∷ fs))) v

-- what is told of the shown frame with a number, among those of the focus
abbrev pub frame_told : (ShownFrame → Told) → List ShownFrame → ℕ → Told
frame_told told [] k = refuses focus_finished
frame_told told (f ∷ fs) k = option_map_or told (slice_get (f ∷ fs) k) (refuses no_such_frame)

-- it becomes the selected one
abbrev pub select_told : ℕ → View → ShownFrame → Told
select_told k v f = tells (frame_line k f) (frame_on k v)

-- the registers of its call
abbrev pub registers_told : View → ShownFrame → Told
registers_told v f = tells (option_map_or (registers_text v.group.program.accepted) (real_frame v f) []) v

-- the lines of the source around it
abbrev pub lines_told : View → ShownFrame → Told
lines_told v f = option_map_or (λ text. tells text v) (source_lines f.line (source_text v f)) (refuses no_source_text)

-- the variables that are seen from a frame, its own scope's first
abbrev pub locals_told : View → ShownFrame → Told
locals_told v f = tells (flat_map (line_in v (Some f)) (locals (tables_in v.group) f.scope)) v

-- the globals, in the order of the module
abbrev pub globals_reply : View → List ℕ
globals_reply v = flat_map (line_in v (selected v)) (globals (tables_in v.group))

-- a part of a variable, or why there is none
abbrev pub part_told : View → PathText → Result Named CmdRefusal → Told
part_told v path (Err refusal) = refuses refusal.code
part_told v path (Ok n) = tells (path_line v path n) v

-- what a path names where the selected frame is shown
abbrev pub print_told : PathText → View → Told
print_told (Id id) v = option_map_or (λ text. tells (id_line id text) v) (id_told v id) (refuses no_such_name)
print_told (Name name parts) v = part_told v (Name name parts) (named v name parts)

-- what is told with what was found, or why there is none
abbrev pub told_with : {T : Type 0} → (T → Told) → Result T CmdRefusal → Told
told_with told (Err refusal) = refuses refusal.code
told_with told (Ok x) = told x

-- ---- breaks and watches

-- the file of a line: the one that is named, else that of a shown frame
abbrev pub file_with : Option ShownFrame → Option (List ℕ) → Option (List ℕ)
file_with f (Some file) = Some file
file_with f None = option_and_then line_file f

-- a break at a line of a file, at the heads of which it hits, by its number
abbrev pub broken_at : (file : List ℕ) → (line : ℕ) → (heads : List ℕ) → View → ℕ → Told
broken_at file line heads v k = tells (break_line k file line) (with_break (record { file = file; line = line; heads = heads }) v)

abbrev pub break_in : View → (line : ℕ) → (file : List ℕ) → Told
break_in v line file =
    told_with (broken_at file line (heads_with (heads_in v.group) (file, line)) v) (break_number (heads_with (heads_in v.group) (file, line)) v.breaks)

abbrev pub break_told : Option (List ℕ) × ℕ → View → Told
break_told place v = option_map_or (break_in v place.1) (file_with (selected v) place.0) (refuses no_code)

abbrev pub delete_told : ℕ → View → Told
delete_told k v = if is_kept k v.breaks then tells (deleted_line k) (without_break k v) else refuses no_such_number

-- a watch, shown by a line, by its number
abbrev pub watched_as : View → WatchKey → (line : List ℕ) → ℕ → Told
watched_as v key line k = tells (watch_line k line) (with_watch key v)

abbrev pub watch_with : View → WatchKey → (line : List ℕ) → Told
watch_with v key line = told_with (watched_as v key line) (next_number 32 v.watches)

abbrev pub watch_in : View → PathText → Named → Told
watch_in v path n = watch_with v (watch_key v n) (path_line v path n)

-- a part of a variable alone can be watched
abbrev pub watch_told : PathText → View → Told
watch_told (Id id) v = refuses no_such_name
watch_told (Name name parts) v = told_with (watch_in v (Name name parts)) (named v name parts)

abbrev pub unwatch_told : ℕ → View → Told
unwatch_told k v = if is_kept k v.watches then tells (unwatched_line k) (without_watch k v) else refuses no_such_number

-- ---- probes

-- how many of the events before the position a probe hits, by its number; nothing of one that was dropped
abbrev pub tally_reply : Settings → View → ℕ → List ℕ
tally_reply tests v k = option_map_or (λ hit. tally_line k (count_by hit (told_before v.group))) (place tests k) []

-- of each probe, in the order of their numbers
abbrev pub tally_told : Settings → View → Told
tally_told tests v = tells (flat_map (tally_reply tests v) (range_with_len 1 (length tests))) v

-- a probe is dropped, and its halt with it
abbrev pub drop_told : ℕ → Settings → View → Told
drop_told k tests v = if is_some (place tests k) then tells (dropped_line k) (without_probe k v) else refuses no_such_number

-- the halt of a probe is set
abbrev pub halt_told : (k n : ℕ) → Settings → View → Told
halt_told k n tests v = if is_some (place tests k) then tells (halt_line k n) (with_halt_of k n v) else refuses no_such_number

-- ---- the order of events

abbrev pub order_told : (a b : ℕ) → View → Told
order_told a b v = if nat_lt (end_in v.group) b then refuses past_the_end else tells (order_line v.group.program.accepted a b (order_in v.group a b)) v

-- ---- the rows

-- the focus becomes an invocation that exists
abbrev pub focus_told : ℕ → View → Told
focus_told i v = if nat_lt i (invocations_in v.group) then tells (place_reply (focus_on i v)) (focus_on i v) else refuses no_such_invocation

abbrev pub act : Command → Act
act (command.Goto n) = goes (goto_motion n)
act (command.Fwd n) = goes (fwd_motion n)
act (command.Back n) = goes (back_motion n)
act (command.Stepi n) = walks (search_on (on.Stepi n))
act (command.Rstepi n) = goes (search_back (back.Rstepi n))
act command.Step = walks (search_on on.Step)
act command.Next = walks (search_on on.Next)
act command.Finish = walks (search_on on.Finish)
act command.Rstep = goes (search_back back.Rstep)
act command.Rnext = walks (search_back back.Rnext)
act command.Rfinish = walks (search_back back.Rfinish)
act command.Continue = goes (search_on on.Continue)
act command.Rcontinue = goes (search_back back.Rcontinue)
act command.Group = shows (λ v. tells (group_reply v.group) v)
act (command.Focus i) = shows (focus_told i)
act command.Place = shows (λ v. tells (place_reply v) v)
act command.Bt = shows (λ v. frames_told v (focus_frames v))
act (command.Frame k) = shows (λ v. frame_told (select_told k v) (focus_frames v) k)
act command.Regs = shows (λ v. frame_told (registers_told v) (focus_frames v) v.frame)
act command.List = shows (λ v. frame_told (lines_told v) (focus_frames v) v.frame)
act command.Info = shows (λ v. tells (info_reply v.group) v)
act command.Locals = shows (λ v. frame_told (locals_told v) (focus_frames v) v.frame)
act command.Globals = shows (λ v. tells (globals_reply v) v)
act (command.Print path) = shows (print_told path)
act (command.Break place) = shows (break_told place)
act (command.Delete k) = shows (delete_told k)
act (command.Watch path) = shows (watch_told path)
act (command.Unwatch k) = shows (unwatch_told k)
act command.Tally = asks tally_told
act (command.DropProbe k) = asks (drop_told k)
act (command.Halt k n) = asks (halt_told k n)
act (command.Order s) = orders s.0 s.1
act command.Quit = quits
act _ = nothing

-- a line that is no command is refused
abbrev pub act_of : Result Command CmdRefusal → Act
act_of (Err refusal) = shows (λ v. refuses refusal.code)
act_of (Ok it) = act it

-- ---- what is read from the table

-- a motion stops at a position, where these hit, and what it was asked for is done there or not
abbrev pub stopped : View → ℕ → Hit → Bool → List ℕ × View
stopped v m hit done = (stop_reply hit done (stopped_at m hit v), stopped_at m hit v)

abbrev pub motion_reply : Settings → View → Motion → List ℕ × View
motion_reply tests v motion = stopped v (target (hits tests) v motion) (hit_by tests v motion (target (hits tests) v motion)) (is_done v motion (target (hits tests) v motion))

-- the focus is finished
abbrev pub is_over : View → Bool
is_over v = has_finished v.group v.focus

abbrev pub told_reply : View → Told → List ℕ × View
told_reply v (tells text w) = (text, w)
told_reply v (refuses code) = (refusal_line code, v)

abbrev pub reply_by : (tests : Settings) → View → Act → List ℕ × View
reply_by tests v (shows told) = told_reply v (told v)
reply_by tests v (asks told) = told_reply v (told tests v)
reply_by tests v (goes motion) = motion_reply tests v (motion v)
reply_by tests v (walks motion) = if is_over v then told_reply v (refuses focus_finished) else motion_reply tests v (motion v)
reply_by tests v (orders a b) = told_reply v (order_told a b v)
reply_by tests v _ = ([], v)

-- by the tests of the probes that are there
unfoldable pub line_reply : (tests : Settings) → View → List ℕ → List ℕ × View
line_reply tests v line = reply_by tests v (act_of (command_of line))

-- by the settings of the kit that was handed in
unfoldable pub reply : Settings → View → List ℕ → List ℕ × View
reply settings v line = line_reply (tests_at settings v) v line

abbrev pub does_quit : Act → Bool
does_quit quits = true
does_quit _ = false

unfoldable pub is_quit : List ℕ → Bool
is_quit line = does_quit (act_of (command_of line))

-- the refusal of a command, by its number: that of its line, or of what it asks for
abbrev pub told_refusal : Told → Option ℕ
told_refusal (tells text w) = None
told_refusal (refuses code) = Some code

abbrev pub refusal_by : (tests : Settings) → View → Act → Option ℕ
refusal_by tests v (shows told) = told_refusal (told v)
refusal_by tests v (asks told) = told_refusal (told tests v)
refusal_by tests v (walks motion) = if is_over v then Some focus_finished else None
refusal_by tests v (orders a b) = told_refusal (order_told a b v)
refusal_by tests v _ = None

unfoldable pub line_refusal : (tests : Settings) → View → List ℕ → Option ℕ
line_refusal tests v line = refusal_by tests v (act_of (command_of line))
