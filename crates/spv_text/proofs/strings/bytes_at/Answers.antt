use Rattle.std.proofs.Common.{◌++◌, List, ℕ, subst, sym, ap, ◌∙◌}
use Rattle.std.specs.List.{flat_map, AllByRecursion}
use Rattle.spv_text.specs.Spelling.{byte_text}
use Rattle.spv_text.specs.Lines.{IsByte}
use Rattle.spv_text.proofs.StringLemmas.{all_more, bytes_more, string_goes_on}
use Rattle.spv_text.proofs.strings.bytes_at.Goals as goal

pub loop-byte-init : goal.loop-byte-init
loop-byte-init c = record {
  bytes = subst (λ (l : List ℕ). AllByRecursion IsByte l) (sym c.new-bytes.ensures.items) tt;
  whole = ap (λ l. flat_map byte_text l ++ c.args.text.now) (sym c.new-bytes.ensures.items);
  left = λ bs r all e. (bs, all, e);
}

pub loop-byte-preserved : goal.loop-byte-preserved
loop-byte-preserved c =
    let text = c.args.text.now in
    let rest = c.loop-byte.rest.now in
    let more = c.in-Some.more.now in
    let bytes = c.loop-byte.bytes.items in
    let b = c.in-Some.byte in
    record {
      bytes = subst (λ (l : List ℕ). AllByRecursion IsByte l) (sym c.in_ok-push.ensures.items) (all_more bytes b c.loop-byte.invariant.bytes c.in-Some.ensures.0);
      whole = bytes_more text rest more bytes b c.loop-byte.invariant.whole c.in-Some.ensures.1 ∙ ap (λ l. flat_map byte_text l ++ more) (sym c.in_ok-push.ensures.items);
      left = λ bs r all e. let it = c.loop-byte.invariant.left bs r all e in string_goes_on rest more it.0 r b c.in-Some.ensures.0 c.in-Some.ensures.1 it.1 it.2;
    }
