-- What `text` tells of a module: the listing of its instructions.
use Rattle.std.specs.Prelude.{ℕ, List, Option, Result, Ok, Err}
use Rattle.spv_base.specs.Answers.{after}
use Rattle.spv_base.specs.declared.causes.Refusal.{Refusal}
use Rattle.spv_words.specs.Words.{words_of}
use Rattle.spv_text.specs.Listing.{listing}
use Rattle.spv_app.specs.declared.opening.OpeningRefusal.TheVariants.{Module}
use Rattle.spv_loop.specs.declared.status.Status.{Status}
use Rattle.spv_loop.specs.declared.status.Status.TheVariants.{Done, ModuleRefused}
use Rattle.spv_app.specs.Acceptance.{accepted_of}
use Rattle.spv_app.specs.Opening.{refusal_line}
use Rattle.spv_app.specs.Checking.{Answered}
use Rattle.spv_app.specs.Outside.{Library}

-- the listing of a module that is accepted, or why it is refused
unfoldable pub texting : List ℕ → Result (List ℕ) Refusal
texting bytes = after (words_of bytes) (λ words. after (accepted_of words) (λ accepted. Ok (listing accepted.insts)))

abbrev pub text_line : Result (List ℕ) Refusal → List ℕ
text_line (Ok text) = text
text_line (Err refusal) = refusal_line (Module refusal)

abbrev pub text_status : Result (List ℕ) Refusal → Status
text_status (Ok text) = Done
text_status (Err refusal) = ModuleRefused

-- a run of `text`: the listing is due, or the line of the refusal
abbrev pub Texted : List ℕ → Library → Library → Option (List ℕ) → Option (List ℕ) → Status → Type 0
Texted name before after held_before held_after status =
    Answered (λ binary. text_status (texting binary)) (λ binary. text_line (texting binary)) name before after held_before held_after status
