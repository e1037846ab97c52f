use Rattle.std.proofs.Common.{◌++◌, List, subst, sym, ap, ◌∙◌}
use Rattle.std.specs.List.{AllByRecursion}
use Rattle.spv_text.specs.declared.lines.Part.{Part}
use Rattle.spv_text.specs.Spelling.{parts_text}
use Rattle.spv_text.specs.Lines.{IsPart}
use Rattle.spv_text.proofs.PartLemmas.{no_parts_ended, no_parts_spaced, parts_all, parts_go_on, parts_more}
use Rattle.spv_text.proofs.parts.parts_at.Goals as goal

pub returns-in_default-2 : goal.returns-in_default-2
returns-in_default-2 c = no_parts_spaced c.args.text.now c.loop-spaced.rest.now c.in-Some.spaced.now c.in-Some.ensures (rw c.in_default-2.is at c.in_ok-part.ensures) c.loop-spaced.invariant.left

pub loop-spaced-preserved : goal.loop-spaced-preserved
loop-spaced-preserved c =
    let text = c.args.text.now in
    let rest = c.loop-spaced.rest.now in
    let spaced = c.in-Some.spaced.now in
    let more = c.in-Some-2.more.now in
    let parts = c.loop-spaced.parts in
    let p = c.in-Some-2.part in
    let it = rw c.in-Some-2.is at c.in_ok-part.ensures in
    let pushed = c.in_ok-push.ensures.ok in
    record {
      all = subst (λ (l : List Part). AllByRecursion IsPart l) (sym pushed) (parts_all parts p c.loop-spaced.invariant.all it.0);
      whole = parts_more text rest spaced more parts p c.loop-spaced.invariant.whole c.in-Some.ensures it.1 ∙ ap (λ l. parts_text l ++ more) (sym pushed);
      left = λ ps r all e. let h = c.loop-spaced.invariant.left ps r all e in parts_go_on rest spaced more r p h.0 it.0 c.in-Some.ensures it.1 it.2 h.1 h.2;
    }

pub returns : goal.returns
returns c = no_parts_ended c.args.text.now c.loop-spaced.rest.now c.in_default.ensures c.in-None.ensures c.loop-spaced.invariant.left
