use Rattle.std.proofs.lemmas.Result.{IfOk-weaker}
use Rattle.spv_arguments.specs.Requests.{texts_of}
use Rattle.spv_arguments.proofs.ReadLemmas.{asks, asks_help, faulty, simple_and_free, taken_by}
use Rattle.spv_arguments.proofs.reading.read.Goals as goal

pub request_in-requires : goal.request_in-requires
request_in-requires c =
    let is = c.in_ok-command.ensures in
    (taken_by _ (texts_of c.args.words.now) c.in-Ok.matches is (c.in-Ok.ensures.kinds (simple_and_free _ is)) c.in-Ok.ensures.matches).2

pub unreachable-requires : goal.unreachable-requires
unreachable-requires c = c.in-None.ensures

pub returns-in-Some-clause-asked : goal.returns-in-Some-clause-asked
returns-in-Some-clause-asked c =
    let is = c.in_ok-command.ensures in
    let all = taken_by _ (texts_of c.args.words.now) c.in-Ok.matches is (c.in-Ok.ensures.kinds (simple_and_free _ is)) c.in-Ok.ensures.matches in
    asks c.args.words.now _ c.in-Some.request all.0 all.1 c.in-Some.ensures

pub returns-in-Err-clause-asked : goal.returns-in-Err-clause-asked
returns-in-Err-clause-asked c =
    let is = c.in_ok-command.ensures in
    IfOk-weaker c.help.result _ _ (λ r h. asks_help _ c.args.words.now c.in-Err.error is c.in-Err.ensures.passes (c.in-Err.ensures.kinds (simple_and_free _ is)) r h.0 h.1) c.help.ensures.asked

pub returns-in-Err-clause-faulty : goal.returns-in-Err-clause-faulty
returns-in-Err-clause-faulty c =
    let is = c.in_ok-command.ensures in
    λ refusal e. let h = c.help.ensures.faulty refusal e in
    faulty _ c.args.words.now c.in-Err.error is c.in-Err.ensures.passes (c.in-Err.ensures.kinds (simple_and_free _ is)) h.0 h.1
