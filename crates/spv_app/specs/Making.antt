-- What `make` tells of a number: how long the inputs are that are made for it, and what is written where `debug` runs them in memory.
use Rattle.std.specs.Prelude.{◌≤◌, ◌%◌, ◌^◌, ℕ, List, [], ◌++◌, length, codes, decimal, Option, Result, Ok, Err}
use Rattle.std.specs.List.{sum}
use Rattle.std.specs.Io.KnownBytes.{Appends}
use Rattle.spv_base.specs.Answers.{after}
use Rattle.spv_make.specs.Inputs.{commands_for, module_for, setup_for}
use Rattle.spv_loop.specs.Sessions.{first_view, reply}
use Rattle.spv_loop.specs.Lines.{lines_of}
use Rattle.spv_loop.specs.Transcript.{transcript}
use Rattle.spv_loop.specs.declared.status.Status.{Status}
use Rattle.spv_loop.specs.declared.status.Status.TheVariants.{Done}
use Rattle.spv_app.specs.declared.making.MadeReport.{MadeReport}
use Rattle.spv_app.specs.declared.opening.OpeningRefusal.{OpeningRefusal}
use Rattle.spv_app.specs.Opening.{opening, refusal_line}
use Rattle.spv_app.specs.Debug.{SaysLine, status_of_refusal}

-- the transcript of commands about a pair, with no probes, or why the pair is refused
unfoldable pub running : (mod_bytes setup commands : List ℕ) → Result (List ℕ) OpeningRefusal
running mod_bytes setup commands = after (opening mod_bytes setup) (λ group. Ok (transcript (reply []) (first_view group) (lines_of commands)))

-- of the inputs that are made for a number
abbrev pub made_transcript : ℕ → Result (List ℕ) OpeningRefusal
made_transcript n = running (module_for n) (setup_for n) (commands_for n)

-- how long they and the transcript are, and the sum of the transcript's bytes modulo 2^64
abbrev pub report_on : ℕ → List ℕ → MadeReport
report_on n text = record {
  number = n;
  «module» = length (module_for n);
  setup = length (setup_for n);
  commands = length (commands_for n);
  «transcript» = length text;
  «sum» = sum text % 2 ^ 64;
}

unfoldable pub making : ℕ → Result MadeReport OpeningRefusal
making n = after (made_transcript n) (λ text. Ok (report_on n text))

-- the text that tells it
abbrev pub made_text : MadeReport → List ℕ
made_text report =
    codes "make " ++ decimal report.number ++ codes ": module " ++ decimal report.«module» ++ codes ", setup " ++ decimal report.setup
    ++ codes ", commands " ++ decimal report.commands ++ codes ", transcript " ++ decimal report.«transcript» ++ codes ", sum " ++ decimal report.«sum»

-- ---- what is due

abbrev pub make_line : Result MadeReport OpeningRefusal → List ℕ
make_line (Ok report) = made_text report ++ codes "\n"
make_line (Err refusal) = refusal_line refusal

abbrev pub make_status : Result MadeReport OpeningRefusal → Status
make_status (Ok report) = Done
make_status (Err refusal) = status_of_refusal refusal

-- a run of `make`: the line is due for the number; steps are only counted
abbrev pub Made : ℕ → (held_before held_after : Option (List ℕ)) → (steps_before steps_after : ℕ) → Status → Type 0
Made n held_before held_after steps_before steps_after status =
    (put : List ℕ) × Appends held_before held_after put × SaysLine (make_status (making n)) (make_line (making n)) status put × (steps_before ≤ steps_after)
