use Rattle.std.proofs.Common.{◌≡◌, ◌<◌, [], ◌∷◌, ◌++◌, List, length, sym, ap, ◌∙◌, subst}
use Rattle.std.proofs.lemmas.List.{append-nil}
use Rattle.spv_cmd.specs.declared.command.PathPart.{PathPart}
use Rattle.spv_cmd.specs.Paths.{IsPart, AreParts}
use Rattle.spv_cmd.proofs.ReadsLemmas.{reads_through}
use Rattle.spv_cmd.proofs.PartLemmas.{no_first, part_sound, part_complete}
use Rattle.spv_cmd.proofs.paths.parts.Goals as goal
use Rattle.spv_base.proofs.Exports.{some_when, empty_when}

pub returns-in_err-part : goal.returns-in_err-part
returns-in_err-part c =
    let text = c.args.text.now in
    let rest = c.loop-rest.rest.now in
    let first = c.split_at.result.0.now in
    let some : 0 < length rest = some_when c.is_empty.result rest c.is_empty.ensures (cc) in
    reads_through (λ part. IsPart part first) (λ (parts : List PathPart). AreParts parts text) c.in_err-part.field-0.0 c.from_residual.result c.from_residual.ensures.1 (λ lacks parts h.
    let left = c.loop-rest.invariant.complete parts h in
    no_first rest first c.part_len.result some c.part_len.ensures.part c.split_at.ensures.front lacks left.0 left.1) c.in_err-part.ensures

pub loop-rest-preserved : goal.loop-rest-preserved
loop-rest-preserved c =
    let text = c.args.text.now in
    let rest = c.loop-rest.rest.now in
    let first = c.split_at.result.0.now in
    let after = c.split_at.result.1.now in
    let done = c.loop-rest.parts in
    let part = c.in_ok-part.field-0 in
    let n = c.part_len.result in
    let some : 0 < length rest = some_when c.is_empty.result rest c.is_empty.ensures (cc) in
    let pushed : c.push.new.self ≡ done ++ part ∷ [] = c.in_ok-push.ensures.ok in
    let sound = part_sound text rest first after done part n c.split_at.ensures.front c.split_at.ensures.back c.in_ok-part.ensures c.loop-rest.invariant.sound in
    let complete = part_complete text rest first after done part n some c.part_len.ensures.part c.split_at.ensures.front c.split_at.ensures.back c.in_ok-part.ensures c.loop-rest.invariant.complete in
    record {
      sound = λ ps h. subst (λ l. AreParts (l ++ ps) text) (sym pushed) (sound ps h);
      complete = λ ps h. let it = complete ps h in (it.0, it.1, it.2 ∙ ap (λ l. l ++ it.0) (sym pushed));
    }

pub returns : goal.returns
returns c =
    let empty : c.loop-rest.rest.now ≡ [] = empty_when c.is_empty.result c.loop-rest.rest.now c.is_empty.ensures (cc) in
    subst (λ l. AreParts l c.args.text.now) (append-nil c.loop-rest.parts) (c.loop-rest.invariant.sound [] empty)
