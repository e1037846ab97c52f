use Rattle.std.proofs.Common.{◌≡◌, ◌+◌, ◌<◌, ◌++◌, [], ◌∷◌, Ok, Err, length, sym, ap, ◌∙◌, subst, arith}
use Rattle.std.proofs.lemmas.List.{append-nil}
use Rattle.spv_text.specs.Listing.{listing}
use Rattle.spv_text.specs.Reading.{code_of, AreInsts, IsWrong, StandsAt, word_behind}
use Rattle.spv_text.proofs.InstLemmas.{line_range}
use Rattle.spv_text.proofs.ReadingLemmas.{behind_more, init_stand, init_whole, next_short, next_whole, one_more, one_reading, stand_more}
use Rattle.spv_text.proofs.reading.read_listing.Goals as goal
use Rattle.spv_base.proofs.Exports.{some_when, empty_when}

pub loop-rest-init : goal.loop-rest-init
loop-rest-init c =
    let none = c.new-insts.ensures.items in
    record {
      whole = init_whole c.args.text.now c.new-insts.result.items none;
      stand = init_stand c.new-insts.result.items none;
      word = ap (λ is. word_behind 5 is) (sym none);
      fits = omega arith;
      lines = omega (arith, ap length none);
    }

pub returns-in-Err-Refused-clause-answered : goal.returns-in-Err-Refused-clause-answered
returns-in-Err-Refused-clause-answered c due k =
    let i = c.loop-rest.invariant in
    let some : 0 < length c.loop-rest.rest.now = some_when c.is_empty.result c.loop-rest.rest.now c.is_empty.ensures c.loop-rest-test.true in
    one_reading c.args.text.now due (Err _) k (record {
      wrong = c.in-Err-Refused.wrong;
      insts = c.loop-rest.insts.items;
      rest = c.loop-rest.rest.now;
      whole = i.whole;
      stand = i.stand;
      more = some;
      cause = subst (λ w. IsWrong c.in-Err-Refused.wrong w c.loop-rest.rest.now) i.word (c.in-Err-Refused.ensures.err c.in-Err-Refused.wrong (ap (λ f. Err f) c.in-Err-Refused.field-0-is));
      code = c.code.ensures ∙ ap code_of c.in-Err-Refused.wrong-is;
      line = omega arith;
    })

pub loop-rest-preserved : goal.loop-rest-preserved
loop-rest-preserved c =
    let i = c.loop-rest.invariant in
    let text = c.args.text.now in
    let rest = c.loop-rest.rest.now in
    let insts = c.loop-rest.insts.items in
    let inst = c.in-Ok.next.0 in
    let more = c.in-Ok.next.2.now in
    let it = c.in-Ok.ensures.ok in
    let pushed : c.push.new.self.items ≡ insts ++ inst ∷ [] = c.in_ok-push.ensures.items in
    let count : length c.push.new.self.items ≡ length insts + 1 = ap length pushed ∙ one_more insts inst in
    let short : length more < length rest = next_short rest more inst it.1 in
    record {
      whole = next_whole text rest more insts inst i.whole it.1 ∙ ap (λ is. listing is ++ more) (sym pushed);
      stand = subst (λ is. AreInsts 5 is) (sym pushed) (stand_more 5 insts inst i.stand (subst (λ w. StandsAt w inst) i.word (line_range c.loop-rest.word inst it.0)));
      word = ap (λ w. w + c.in-Ok.next.1) i.word ∙ ap (λ n. word_behind 5 insts + n) it.2 ∙ sym (behind_more 5 insts inst) ∙ ap (λ is. word_behind 5 is) (sym pushed);
      fits = omega (arith, count, c.in-Ok.ensures.few);
      lines = omega (arith, count, short);
    }

pub returns-clause-answered : goal.returns-clause-answered
returns-clause-answered c due k = let i = c.loop-rest.invariant in
    let none : c.loop-rest.rest.now ≡ [] = empty_when c.is_empty.result c.loop-rest.rest.now c.is_empty.ensures c.loop-rest-test.false in
    one_reading c.args.text.now due (Ok c.loop-rest.insts.items) k (i.stand, i.whole ∙ ap (λ r. listing c.loop-rest.insts.items ++ r) none ∙ append-nil (listing c.loop-rest.insts.items))
