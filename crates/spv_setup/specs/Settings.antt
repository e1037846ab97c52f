-- What a setup's text sets: line by line, from the defaults on, to the lowest line that is refused.
use Rattle.std.specs.Prelude.{ℕ, suc, ◌==◌, ◌&&◌, Bool, false, true, if◌then◌else◌, List, [], ◌∷◌, ◌++◌, codes, Option, Some, None, Result, Ok, Err}
use Rattle.std.specs.List.{list_any}
use Rattle.std.specs.Option.{is_some, unwrap_or}
use Rattle.std.specs.Str.{bytes_eq}
use Rattle.spv_base.specs.Answers.{after}
use Rattle.spv_base.specs.declared.causes.SetupRefusal.{SetupRefusal}
use Rattle.spv_line.specs.Words.{words_in}
use Rattle.spv_setup.specs.declared.line.Workgroup.{Workgroup}
use Rattle.spv_setup.specs.declared.line.Line.{Line}
use Rattle.spv_setup.specs.declared.line.Line.TheVariants.{Entry, Group, Spec, Buffer, Push, Move, Rounds, FinishedCount}
use Rattle.spv_setup.specs.declared.line.LineFault.{LineFault}
use Rattle.spv_setup.specs.declared.line.LineFault.TheVariants.{Repeated}
use Rattle.spv_setup.specs.declared.line.Version.{Version}
use Rattle.spv_setup.specs.declared.line.Version.TheVariants.{One, Two}
use Rattle.spv_setup.specs.declared.settings.Run.TheVariants as run
use Rattle.spv_setup.specs.declared.settings.Settings.{Settings}
use Rattle.spv_setup.specs.Lines.{lines_of}
use Rattle.spv_setup.specs.Codes.{code_of}
use Rattle.spv_setup.specs.Rows.{meaning}

-- before any line
abbrev pub no_settings : Settings
no_settings = record { entry = None; group = None; overrides = []; override_lines = []; buffers = []; push = None; runs = []; finished_count = false }

-- ---- lines that may stand once

-- a SpecId has a number
abbrev pub has_override : ℕ → Settings → Bool
has_override id s = list_any (λ o. o.0 == id) s.overrides

-- a buffer has bytes
abbrev pub has_buffer : ℕ → ℕ → Settings → Bool
has_buffer set binding s = list_any (λ b. (b.set == set) && (b.binding == binding)) s.buffers

-- `entry`, `group`, `push` and `barrier` may stand once, `spec` once for a SpecId, and `buffer` once for a set and a binding
abbrev pub is_repeated : Line → Settings → Bool
is_repeated (Entry name) s = is_some s.entry
is_repeated (Group it) s = is_some s.group
is_repeated (Spec id value) s = has_override id s
is_repeated (Buffer set binding content) s = has_buffer set binding s
is_repeated (Push bytes) s = is_some s.push
is_repeated (Move invocation count) s = false
is_repeated (Rounds count) s = false
is_repeated FinishedCount s = s.finished_count

-- ---- what a line sets

-- with the line of a number
abbrev pub with_line : ℕ → Line → Settings → Settings
with_line n (Entry name) s = record s { entry = Some name }
with_line n (Group it) s = record s { group = Some it }
with_line n (Spec id value) s = record s { overrides = s.overrides ++ (id, value) ∷ []; override_lines = s.override_lines ++ n ∷ [] }
with_line n (Buffer set binding content) s = record s { buffers = s.buffers ++ record { line = n; set = set; binding = binding; content = content } ∷ [] }
with_line n (Push bytes) s = record s { push = Some (record { line = n; bytes = bytes }) }
with_line n (Move invocation count) s = record s { runs = s.runs ++ run.Move n invocation count ∷ [] }
with_line n (Rounds count) s = record s { runs = s.runs ++ run.Rounds count ∷ [] }
with_line n FinishedCount s = record s { finished_count = true }

abbrev pub added : ℕ → Line → Settings → Result Settings LineFault
added n line s = if is_repeated line s then Err Repeated else Ok (with_line n line s)

abbrev pub with_meaning : ℕ → Settings → Option Line → Result Settings LineFault
with_meaning n s None = Ok s
with_meaning n s (Some line) = added n line s

-- ---- the lowest refusal

abbrev pub at_line : {A : Type 0} → ℕ → Result A LineFault → Result A SetupRefusal
at_line n (Ok x) = Ok x
at_line n (Err fault) = Err (record { code = code_of fault; line = n })

unfoldable pub line_after : Version → ℕ → List ℕ → Settings → Result Settings SetupRefusal
line_after version n line s = at_line n (after (meaning version line) (with_meaning n s))

-- the lines from the one of a number on
abbrev pub lines_after : Version → ℕ → List (List ℕ) → Settings → Result Settings SetupRefusal
lines_after version n [] s = Ok s
lines_after version n (line ∷ lines) s = after (line_after version n line s) (lines_after version (suc n) lines)

-- ---- the text

abbrev pub version_in : List ℕ → Option Version
version_in word = if bytes_eq word (codes "1") then Some One else if bytes_eq word (codes "2") then Some Two else None

-- the version that the words of the first line name
abbrev pub version_of : List (List ℕ) → Option Version
version_of (name ∷ version ∷ []) = if bytes_eq name (codes "spvdbg-setup") then version_in version else None
version_of words = None

-- S1 at line 1, where the first line names none
abbrev pub of_version : Option Version → List (List ℕ) → Result Settings SetupRefusal
of_version None lines = Err (record { code = 1; line = 1 })
of_version (Some version) lines = lines_after version 2 lines no_settings

abbrev pub of_lines : List (List ℕ) → Result Settings SetupRefusal
of_lines [] = Err (record { code = 1; line = 1 })
of_lines (first ∷ lines) = of_version (version_of (words_in first)) lines

-- what a text sets, or its lowest refusal
unfoldable pub settings_of : List ℕ → Result Settings SetupRefusal
settings_of text = of_lines (lines_of text)

-- the workgroup that runs: `0 0 0 of 1 1 1` where the text names none
abbrev pub group_of : Settings → Workgroup
group_of s = unwrap_or s.group (record { place = (0, 0, 0); number = (1, 1, 1) })
