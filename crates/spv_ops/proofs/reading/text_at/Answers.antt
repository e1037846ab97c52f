use Rattle.std.proofs.Common.{◌≡◌, ℕ, ◌++◌, get_or, sym, ◌∙◌, take}
use Rattle.std.specs.Int.{w32, to_le_bytes}
use Rattle.spv_ops.specs.Strings.{text_len, text_bytes}
use Rattle.spv_ops.proofs.StringLoop.{text_more, text_ends, text_unpadded, text_endless}
use Rattle.spv_base.proofs.Exports.{rest_of}
use Rattle.spv_ops.proofs.reading.text_at.Goals as goal

pub returns-then-not-is_padded : goal.returns-then-not-is_padded
returns-then-not-is_padded c =
    text_unpadded c.loop-i.bytes.items c.args.words.now c.loop-i.i _ c.loop-i-test.true (λ four. c.if-len-ne4.true (c.text_len-len.ensures.value ∙ four))
    (sym c.is_padded.ensures ∙ c.if-not-is_padded.true) c.loop-i.invariant

pub returns-then-len-ne4 : goal.returns-then-len-ne4
unfolding text_bytes
returns-then-len-ne4 c =
    let w : ℕ = get_or c.args.words.now c.loop-i.i 0 in
    let len : c.text_len-len.result ≡ text_len w = c.text_len-len.ensures.value in
    let bytes : c.to_le_bytes.result ≡ to_le_bytes w32 w = c.to_le_bytes.ensures in
    let e : c.extend_from_slice.new.self.items ≡ c.loop-i.bytes.items ++ take c.text_len-len.result c.to_le_bytes.result = c.in_ok-extend_from_slice.ensures.items in
    rw (c.from_vec.ensures, e, bytes, len, rest_of) (text_ends c.loop-i.bytes.items c.args.words.now c.loop-i.i _ c.loop-i-test.true (λ four. c.if-len-ne4.true (len ∙ four))
    (sym c.is_padded.ensures ∙ c.if-not-is_padded.false) c.loop-i.invariant)

pub loop-i-preserved : goal.loop-i-preserved
unfolding text_bytes
loop-i-preserved c =
    let w : ℕ = get_or c.args.words.now c.loop-i.i 0 in
    let len : c.text_len-len.result ≡ text_len w = c.text_len-len.ensures.value in
    let bytes : c.to_le_bytes.result ≡ to_le_bytes w32 w = c.to_le_bytes.ensures in
    let e : c.extend_from_slice.new.self.items ≡ c.loop-i.bytes.items ++ take c.text_len-len.result c.to_le_bytes.result = c.in_ok-extend_from_slice.ensures.items in
    rw (e, bytes, len) (text_more c.loop-i.bytes.items c.args.words.now c.loop-i.i _ c.loop-i-test.true (sym len ∙ c.if-len-ne4.false) c.loop-i.invariant)

pub returns : goal.returns
returns c = text_endless c.loop-i.bytes.items c.args.words.now c.loop-i.i _ c.loop-i-test.false c.loop-i.invariant
