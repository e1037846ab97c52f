use Rattle.std.proofs.Common.{◌≡◌, ◌+◌, ◌-◌, Some, ap, arith, length, slice_get}
use Rattle.circular_buffer.specs.Buffer.{Buffer}
use Rattle.spv_undo.specs.Entries.{count, count_of}
use Rattle.spv_undo.specs.declared.entries.Entry.{Entry}
use Rattle.spv_journal.proofs.RingLemmas.{last_counts}
use Rattle.spv_journal.proofs.rings.drop_one.Goals as goal

pub returns-in-Some-clause-counted : goal.returns-in-Some-clause-counted
returns-in-Some-clause-counted c =
    let es = c.args.entries.now.items in
    let last : slice_get es (length es - 1) ≡ Some c.in-Some.entry = let v = c.pop_back.ensures.value in let f = c.in-Some.is in cc in
    let l = last_counts es c.pop_back.new.self.items c.in-Some.entry last (ap (λ (b : Buffer Entry). b.items) c.pop_back.ensures.items) in
    let had = c.count.ensures.count in
    omega (arith, l, had)
