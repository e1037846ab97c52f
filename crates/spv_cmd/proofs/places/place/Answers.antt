use Rattle.std.proofs.Common.{refl, ◌≡◌, ◌<◌, [], length, sym, subst, Some}
use Rattle.spv_cmd.specs.Places.{IsPlace}
use Rattle.spv_cmd.proofs.PlaceLemmas.{no_line, no_file, file_is}
use Rattle.spv_cmd.proofs.places.place.Goals as goal
use Rattle.spv_base.proofs.Exports.{some_when, empty_when}

pub returns-in-None : goal.returns-in-None
returns-in-None c = (refl, no_line c.args.text.now c.split_at.result.0.now c.split_at.result.1.now c.behind_colon.result c.split_at.ensures.front c.split_at.ensures.back c.behind_colon.ensures.colon c.behind_colon.ensures.last (cc))

pub returns-then-is_empty : goal.returns-then-is_empty
returns-then-is_empty c =
    let file = c.in-Some-split_last.file.now in
    let empty : file ≡ [] = empty_when c.is_empty.result file c.is_empty.ensures (cc) in
    (refl, no_file c.args.text.now c.split_at.result.0.now c.split_at.result.1.now file c.in-Some-split_last.field-0-0.now c.behind_colon.result c.split_at.ensures.front c.split_at.ensures.back c.behind_colon.ensures.colon c.behind_colon.ensures.last c.in-Some-split_last.ensures.cases.0 empty)

pub returns-in_ok-from_slice-in-Some-split_last : goal.returns-in_ok-from_slice-in-Some-split_last
returns-in_ok-from_slice-in-Some-split_last c =
    let file = c.in-Some-split_last.file.now in
    let some : 0 < length file = some_when c.is_empty.result file c.is_empty.ensures (cc) in
    let it = file_is c.args.text.now c.split_at.result.0.now c.split_at.result.1.now file c.in-Some-split_last.field-0-0.now c.behind_colon.result c.in-Some.line c.split_at.ensures.front c.split_at.ensures.back c.behind_colon.ensures.colon c.in-Some-split_last.ensures.cases.0 some (cc) in
    subst (λ f. IsPlace (Some f, c.in-Some.line) c.args.text.now) (sym c.in_ok-from_slice-in-Some-split_last.ensures) it
