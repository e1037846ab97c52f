use Rattle.std.proofs.Common.{◌≡◌, ◌+◌, ◌-◌, suc, slice_index, ◌%◌, arith, bit_and, refl}
use Rattle.std.proofs.lemmas.Nat.{and_mask}
use Rattle.spv_words.proofs.cuts.inst_at.Goals as goal

pub returns : goal.returns
returns c =
    let first = slice_index c.args.words.now c.args.place in
    let mask : bit_and first 65535 ≡ first % 65536 = and_mask first 16 in
    let size : c.args.place + c.args.count - (c.args.place + 1) ≡ c.args.count - 1 = omega arith in
    let from : c.args.place + 1 ≡ suc c.args.place = omega arith in
    rw (c.in_ok-from_slice.ensures, mask, size, from) refl
