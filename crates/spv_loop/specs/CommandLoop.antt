-- What the command loop may have taken and written when it ends with a status.
use Rattle.std.specs.Prelude.{◌≡◌, ◌↔◌, ◌⊎◌, ℕ, ◌+◌, ◌≤◌, ◌<◌, true, false, List, [], ◌++◌, length, unwrap_or, Option}
use Rattle.std.specs.Io.KnownBytes.{Appends, Consumes}
use Rattle.spv_base.specs.Prefix.{IsPrefixOf, IsProperPrefixOf}
use Rattle.spv_session.specs.View.{View, Viewing}
use Rattle.spv_loop.specs.declared.status.Status.{Status}
use Rattle.spv_loop.specs.declared.status.Status.TheVariants.{Done, Usage, ModuleRefused, SetupRefused, FileFault, ReadFault, WriteFault, NoMemory, InputTooLong, FileTooLong}
use Rattle.spv_loop.specs.Limits.{input_limit, most_behind}
use Rattle.spv_loop.specs.Lines.{lines_of, complete_lines}
use Rattle.spv_loop.specs.Offers.{OffersFirst}
use Rattle.spv_loop.specs.Streams.{Streams}
use Rattle.spv_loop.specs.Transcript.{Reply, Cost, transcript, replies, transcript_cost, has_quit, reach}

module _ (reply : Reply) where
  -- what a status says of the bytes taken, of all the bytes that were left at entry, and of the bytes written
  abbrev pub Says : Status → View → List ℕ → List ℕ → List ℕ → Type 0
  Says Done view taken all written = (written ≡ transcript reply view (lines_of all)) × ((taken ≡ all) ⊎ (has_quit (complete_lines taken) ≡ true))
  Says ReadFault view taken all written = (written ≡ transcript reply view (complete_lines taken)) × (has_quit (complete_lines taken) ≡ false)
  Says WriteFault view taken all written = IsProperPrefixOf written (transcript reply view (lines_of all))
  Says NoMemory view taken all written = Unit {0}
  Says InputTooLong view taken all written = Unit {0}
  Says Usage view taken all written = ⊥
  Says ModuleRefused view taken all written = ⊥
  Says SetupRefused view taken all written = ⊥
  Says FileFault view taken all written = ⊥
  Says FileTooLong view taken all written = ⊥

  -- Each line that ends more bytes before the end of what was taken than one read takes behind it was answered whole, and isn't `quit`.
  abbrev pub AnswersInTime : View → List ℕ → List ℕ → Type 0
  AnswersInTime view taken written =
      (front more : List ℕ) → taken ≡ front ++ more → most_behind < length more
      → (has_quit (complete_lines front) ≡ false) × IsPrefixOf (transcript reply view (complete_lines front)) written

-- all the bytes that were left at entry: those that were taken, and those that are left, where that is told
abbrev pub with_rest : List ℕ → Option (List ℕ) → List ℕ
with_rest taken left = taken ++ unwrap_or left []

-- A run of the command loop from a view, by how lines are answered and the steps that they take.
pub record Ran (reply : Reply) (cost_of : Cost) (start : Viewing) (before after : Streams) (status : Status) : Type 0 where
  pub got : List ℕ  -- the bytes taken
  pub put : List ℕ  -- the bytes written
  pub taken : Consumes before.left after.left got
  pub written : Appends before.held after.held put
  pub begins : IsPrefixOf put (transcript reply start.view (lines_of (with_rest got after.left)))
  pub says : Says reply status start.view got (with_rest got after.left) put
  pub in_time : AnswersInTime reply start.view got put
  pub offered : OffersFirst (replies reply start.view (lines_of (with_rest got after.left))) before.offers after.offers  -- each reply as one piece
  pub too_long : (status ≡ InputTooLong) ↔ (length got ≡ input_limit + 1)
  pub at_most : length got ≤ input_limit + 1
  -- The steps are those of the commands of the lines taken. Going back takes none to where events are kept, from the highest position of
  -- these commands' views.
  pub counted : before.steps ≤ after.steps
  pub cost : after.steps ≤ before.steps + transcript_cost reply cost_of (reach reply start (lines_of got)) start.view (lines_of got)
