-- The texts of replies. Each line ends with a line feed.
use Rattle.std.specs.Prelude.{ℕ, Bool, if◌then◌else◌, List, [], ◌∷◌, ◌++◌, codes, decimal, Option, Some, None, fold, map, slice_index_or}
use Rattle.std.specs.List.{filter_map, flat_map, join_by}
use Rattle.std.specs.BTreeMap.{insert_entry}
use Rattle.std.specs.Option.{option_and_then, option_map, option_map_or}
use Rattle.std.specs.Ordering.{nat_cmp}
use Rattle.spv_base.specs.declared.happenings.EndCause.{EndCause}
use Rattle.spv_base.specs.declared.happenings.EndCause.TheVariants as end
use Rattle.spv_base.specs.declared.happenings.Status4.{Status4}
use Rattle.spv_base.specs.declared.happenings.Status4.TheVariants as status
use Rattle.spv_base.specs.declared.values.Pointer.{Pointer}
use Rattle.spv_base.specs.declared.values.Value.{Value, Ptr}
use Rattle.spv_valid.specs.Acceptance.{Accepted}
use Rattle.spv_dbg.specs.declared.frames.ShownFrame.{ShownFrame}
use Rattle.spv_frame.specs.Frames.{Held as Frame}
use Rattle.spv_show.specs.Texts.{value_text}
use Rattle.spv_ids.specs.Texts.{type_of}
use Rattle.spv_source.specs.Frames.{place_text, shown_bytes}

-- ---- refusals

-- the refusals of commands, by their numbers from 1 on; no refusal has the number 0
abbrev pub refusals : List (List ℕ)
refusals =
    [] ∷ codes "C1 unknown command" ∷ codes "C2 arguments" ∷ codes "C3 no such invocation" ∷ codes "C4 no such frame"
    ∷ codes "C5 no such name" ∷ codes "C6 no such part" ∷ codes "C7 no such number" ∷ codes "C8 no code at that line"
    ∷ codes "C9 list full" ∷ codes "C10 no source text" ∷ codes "C11 line too long" ∷ codes "C12 focus finished"
    ∷ codes "C13 past the end" ∷ []

abbrev pub refusal_line : ℕ → List ℕ
refusal_line code = codes "refused: " ++ slice_index_or refusals code [] ++ codes "\n"

-- ---- registers

-- the text of what a register holds, by the type of its id
abbrev pub register_text : Accepted → ℕ → Value → List ℕ
register_text a id v = value_text a.types (type_of a id) v

abbrev pub shown_value : Accepted → ℕ × Option Value → Option (ℕ × List ℕ)
shown_value a e = option_map (λ v. (e.0, register_text a e.0 v)) e.1

abbrev pub shown_pointer : Accepted → ℕ × Option Pointer → Option (ℕ × List ℕ)
shown_pointer a e = option_map (λ p. (e.0, register_text a e.0 (Ptr p))) e.1

-- the registers of a frame that hold something, each with its text
abbrev pub shown_in : Accepted → Frame → List (ℕ × List ℕ)
shown_in a f = filter_map (shown_value a) f.values ++ filter_map (shown_pointer a) f.pointers

-- in ascending order of their ids
abbrev pub with_shown : List (ℕ × List ℕ) → ℕ × List ℕ → List (ℕ × List ℕ)
with_shown held shown = insert_entry nat_cmp held shown.0 shown.1

abbrev pub with_any : {X : Type 0} → List (ℕ × List ℕ) → (X → Option (ℕ × List ℕ)) → Option X → List (ℕ × List ℕ)
with_any held text x = option_map_or (with_shown held) (option_and_then text x) held

abbrev pub ascending : List (ℕ × List ℕ) → List (ℕ × List ℕ)
ascending shown = fold with_shown [] shown

abbrev pub shown_line : ℕ × List ℕ → List ℕ
shown_line shown = codes "%" ++ decimal shown.0 ++ codes " = " ++ shown.1 ++ codes "\n"

-- a line for each register that holds something
abbrev pub registers_text : Accepted → Frame → List ℕ
registers_text a f = flat_map shown_line (ascending (shown_in a f))

-- ---- positions

-- where the innermost shown frame of an invocation stands; a finished one has no frame
abbrev pub standing_text : Option ShownFrame → List ℕ
standing_text None = codes "finished"
standing_text (Some f) = place_text f

-- the position, and where an invocation stands there
abbrev pub position_line : (position i : ℕ) → Option ShownFrame → List ℕ
position_line position i frame = codes "@" ++ decimal position ++ codes " i=" ++ decimal i ++ codes " " ++ standing_text frame ++ codes "\n"

-- how far an invocation is, and where it stands; a finished one stands nowhere
abbrev pub status_text : Status4 → Option ShownFrame → List ℕ
status_text status.Ready frame = codes "ready " ++ standing_text frame
status_text status.Arrived frame = codes "arrived " ++ standing_text frame
status_text status.Passed frame = codes "passed " ++ standing_text frame
status_text status.Finished frame = codes "finished"

abbrev pub invocation_line : ℕ → Status4 → Option ShownFrame → List ℕ
invocation_line i how frame = codes "i=" ++ decimal i ++ codes " " ++ status_text how frame ++ codes "\n"

-- ---- numbers

-- how many words and instructions a module has, and how many of its debug instructions are malformed
abbrev pub module_numbers : (words instructions ignored : ℕ) → List ℕ
module_numbers words instructions ignored = codes "words " ++ decimal words ++ codes ", instructions " ++ decimal instructions ++ codes ", ignored " ++ decimal ignored

-- the same, and how many invocations and entries its run has
abbrev pub info_line : (words instructions ignored invocations entries : ℕ) → List ℕ
info_line words instructions ignored invocations entries =
    module_numbers words instructions ignored ++ codes ", invocations " ++ decimal invocations ++ codes ", entries " ++ decimal entries ++ codes "\n"

-- ---- stops

abbrev pub cause_text : EndCause → List ℕ
cause_text end.Finished = codes "all finished"
cause_text end.Stuck = codes "stuck"
cause_text (end.Fault f) = codes "fault F" ++ decimal f.code ++ codes " i=" ++ decimal f.inv ++ codes " word " ++ decimal f.word
cause_text end.Schedule = codes "schedule ended"

abbrev pub end_causes : Option EndCause → List (List ℕ)
end_causes None = []
end_causes (Some cause) = cause_text cause ∷ []

abbrev pub numbered_text : List ℕ → ℕ → List ℕ
numbered_text word k = word ++ decimal k

-- the breaks, the watches and the halts that hit
abbrev pub hit_causes : (breaks watches halts : List ℕ) → List (List ℕ)
hit_causes breaks watches halts = map (numbered_text (codes "break ")) breaks ++ map (numbered_text (codes "watch ")) watches ++ map (numbered_text (codes "halt ")) halts

-- what was asked for is done, the start, the end's cause
abbrev pub place_causes : Bool → Bool → Option EndCause → List (List ℕ)
place_causes done start cause = (if done then codes "done" ∷ [] else []) ++ (if start then codes "start" ∷ [] else []) ++ end_causes cause

-- all that hold
abbrev pub stop_causes : (breaks watches halts : List ℕ) → Bool → Bool → Option EndCause → List (List ℕ)
stop_causes breaks watches halts done start cause = hit_causes breaks watches halts ++ place_causes done start cause

-- a cause behind those before it
abbrev pub behind_comma : List ℕ → List ℕ
behind_comma text = codes ", " ++ text

abbrev pub stop_line : (breaks watches halts : List ℕ) → Bool → Bool → Option EndCause → List ℕ
stop_line breaks watches halts done start cause = codes "stop: " ++ join_by (λ text. text) (codes ", ") (stop_causes breaks watches halts done start cause) ++ codes "\n"

-- ---- lists of stops

-- `break K at FILE:LINE`
abbrev pub break_line : (k : ℕ) → (file : List ℕ) → (line : ℕ) → List ℕ
break_line k file line = codes "break " ++ decimal k ++ codes " at " ++ shown_bytes file ++ codes ":" ++ decimal line ++ codes "\n"

-- `watch K: ` before the line of what is watched
abbrev pub watch_line : ℕ → List ℕ → List ℕ
watch_line k line = codes "watch " ++ decimal k ++ codes ": " ++ line

abbrev pub deleted_line : ℕ → List ℕ
deleted_line k = codes "deleted " ++ decimal k ++ codes "\n"

abbrev pub unwatched_line : ℕ → List ℕ
unwatched_line k = codes "unwatched " ++ decimal k ++ codes "\n"

-- ---- probes

-- `probe K: N`
abbrev pub tally_line : (k n : ℕ) → List ℕ
tally_line k n = codes "probe " ++ decimal k ++ codes ": " ++ decimal n ++ codes "\n"

abbrev pub dropped_line : ℕ → List ℕ
dropped_line k = codes "dropped " ++ decimal k ++ codes "\n"

-- `halt K every N`
abbrev pub halt_line : (k n : ℕ) → List ℕ
halt_line k n = codes "halt " ++ decimal k ++ codes " every " ++ decimal n ++ codes "\n"
