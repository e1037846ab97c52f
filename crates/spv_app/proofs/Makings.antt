-- What is told of a run of made inputs.
use Rattle.std.proofs.Common.{◌≡◌, ◌∙◌, ◌≤◌, ◌+◌, ◌%◌, ◌^◌, ℕ, List, [], ◌++◌, length, length-append, Some, Ok, sym, ap, subst, arith, codes, decimal}
use Rattle.std.specs.Io.KnownBytes.{Appends, Consumes}
use Rattle.std.proofs.Math.Nat.{mod-add-mod}
use Rattle.std.proofs.lemmas.Fmt.{length-decimal-le}
use Rattle.spv_make.specs.Inputs.{rounds_for, setup_for}
use Rattle.spv_loop.specs.Sessions.{Viewing, first_view, reply, line_cost}
use Rattle.spv_loop.specs.CommandLoop.{Ran}
use Rattle.spv_loop.specs.Lines.{lines_of}
use Rattle.spv_loop.specs.Streams.{Streams}
use Rattle.spv_loop.specs.Transcript.{transcript}
use Rattle.spv_loop.specs.declared.status.Status.TheVariants.{Done}
use Rattle.spv_app.specs.Making.{running}
use Rattle.spv_app.specs.Opening.{opening, viewed}
use Rattle.spv_app.proofs.Headlines.{all_of, held_now}
use Rattle.spv_app.proofs.Openings.{viewed_is}

-- one more byte
pub sum_more : (before byte after : ℕ) (sum_before sum_after : ℕ) → before ≡ sum_before % 2 ^ 64 → after ≡ (before + byte) % 2 ^ 64 → sum_after ≡ sum_before + byte → after ≡ sum_after % 2 ^ 64
sum_more before byte after sum_before sum_after here next more =
    next ∙ (ap (λ n. (n + byte) % 2 ^ 64) here ∙ (mod-add-mod sum_before (2 ^ 64) byte ∙ ap (λ n. n % 2 ^ 64) (sym more)))

-- the setup has few bytes
pub setup_fits : (n : ℕ) → n ≤ 64 → length (setup_for n) ≤ 67108864
unfolding setup_for
setup_fits n most =
    let digits : length (decimal (rounds_for n)) ≤ 4 = length-decimal-le 4 (rounds_for n) (omega arith) (omega arith) (omega arith) in
    let first = length-append (codes "spvdbg-setup 1\nbuffer 0 0 zero 256\nrounds ") (decimal (rounds_for n) ++ codes "\n") in
    let second = length-append (decimal (rounds_for n)) (codes "\n") in
    omega arith

-- the command loop wrote the transcript
pub ran_whole : (mod_bytes setup commands bytes : List ℕ) (start : Viewing) (before after : Streams) → viewed 1048576 (opening mod_bytes setup) ≡ Ok start
    → before.left ≡ Some commands → before.held ≡ Some [] → after.held ≡ Some bytes → Ran (reply []) (line_cost []) start before after Done → running mod_bytes setup commands ≡ Ok bytes
unfolding running
ran_whole mod_bytes setup commands bytes start before after opened left held now ran =
    let group = viewed_is 1048576 (opening mod_bytes setup) start opened in
    let took : Consumes (Some commands) after.left ran.got = subst (λ l. Consumes l after.left ran.got) left ran.taken in
    let wrote : after.held ≡ Some ([] ++ ran.put) = held_now [] ran.put after.held (subst (λ h. Appends h after.held ran.put) held ran.written) in
    let same : bytes ≡ ran.put = some_bytes (sym now ∙ wrote) in
    let put : ran.put ≡ transcript (reply []) start.view (lines_of commands) = ran.says.0 ∙ ap (λ l. transcript (reply []) start.view (lines_of l)) (all_of commands ran.got after.left took) in
    let from : transcript (reply []) start.view (lines_of commands) ≡ transcript (reply []) (first_view group.0) (lines_of commands) = ap (λ (v : Viewing). transcript (reply []) v.view (lines_of commands)) group.2 in
    rw group.1 (ap Ok (sym (same ∙ put ∙ from)))
  where
    some_bytes : {xs ys : List ℕ} → Some xs ≡ Some ys → xs ≡ ys
    some_bytes e = cc
