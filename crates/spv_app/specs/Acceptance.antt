-- Which modules are accepted.
use Rattle.std.specs.Prelude.{ℕ, ℤ, List, [], Option, None, slice_index, Result, Ok}
use Rattle.spv_base.specs.Answers.{after}
use Rattle.spv_base.specs.declared.causes.Refusal.{Refusal}
use Rattle.spv_words.specs.Words.{ModuleWords}
use Rattle.spv_words.specs.Cuts.{raw_of}
use Rattle.spv_ops.specs.Module.{Decoded}
use Rattle.spv_ops.specs.Reading.{insts_of}
use Rattle.spv_valid.specs.Acceptance.{Accepted, acceptance}

-- the Bound of the ids, in word 3
abbrev pub bound_of : ModuleWords → ℕ
bound_of words = slice_index words.items 3

-- The decoded module with these words: its instructions as words, and its instructions with the Bound.
unfoldable pub decoded_of : ModuleWords → Result Decoded Refusal
decoded_of words = after (raw_of words.items) (λ raws. after (insts_of raws) (λ insts. Ok (record { insts = insts; bound = bound_of words })))

-- The module with these words that is accepted: decoded, and by the rules of modules, for the entry point of a name or the first one,
-- and with values for SpecIds.
unfoldable pub accepted_as : Option (List ℕ) → List (ℕ × ℤ) → ModuleWords → Result Accepted Refusal
accepted_as name over words = after (decoded_of words) (λ m. acceptance m name over)

-- The same for the first entry point and with no values for SpecIds.
unfoldable pub accepted_of : ModuleWords → Result Accepted Refusal
accepted_of words = accepted_as None [] words
