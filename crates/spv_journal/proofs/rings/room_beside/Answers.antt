use Rattle.std.proofs.Common.{Bor, ◌≡◌, ◌∙◌, ◌+◌, ◌++◌, ◌∷◌, [], ap, arith, map}
use Rattle.std.proofs.lemmas.Iterator.Consumers.{YieldsList-at, YieldsList-end, YieldsList-from_deque, YieldsList-so_far, YieldsList-turn}
use Rattle.std.proofs.lemmas.List.{map-append}
use Rattle.spv_undo.specs.Entries.{count}
use Rattle.spv_undo.specs.declared.entries.Entry.{Entry}
use Rattle.spv_journal.proofs.RingLemmas.{count_append, count_more, event_size}
use Rattle.spv_journal.proofs.rings.room_beside.Goals as goal

pub returns-in_err-room-clause-none : goal.returns-in_err-room-clause-none
returns-in_err-room-clause-none c = λ _.
    let one = event_size c.args.mark.now c.args.gathered.now.items in
    let size = c.size.ensures.size in
    let less = c.in_err-room.ensures in
    omega (arith, one, size, less)

pub returns-in_err-room-2-clause-none : goal.returns-in_err-room-2-clause-none
returns-in_err-room-2-clause-none c = λ _.
    let es = c.args.gathered.now.items in
    let road = YieldsList-at c.into_iter-entry-iterator.ensures.into_iter_gives (YieldsList-from_deque es c.iter-entry-items.ensures.rest) in
    let front = YieldsList-so_far road c.loop-entry.yielded _ c.loop-entry.yielded_by in
    let turn = YieldsList-turn road c.loop-entry.yielded _ c.loop-entry.yielded_by _ _ _ c.in-Some.is c.next.ensures.steps in
    let seen = ap count front in
    let more = count_more _ es c.in-Some.entry.now turn.0 turn.1 in
    let one = event_size c.args.mark.now es in
    let was = c.loop-entry.invariant in
    let had = c.count.ensures.count in
    let less = c.in_err-room-2.ensures in
    omega (arith, seen, more, one, was, had, less)

pub loop-entry-preserved : goal.loop-entry-preserved
loop-entry-preserved c =
    let maps = map-append (λ (y : Bor Entry). y.now) c.loop-entry.yielded (c.in-Some.entry ∷ []) in
    let all = ap count maps ∙ count_append (map (λ (y : Bor Entry). y.now) c.loop-entry.yielded) (c.in-Some.entry.now ∷ []) in
    let was = c.loop-entry.invariant in
    let had = c.count.ensures.count in
    let left = c.in_ok-room-2.ensures in
    omega (arith, all, was, had, left)

pub returns-clause-room : goal.returns-clause-room
returns-clause-room c =
    let es = c.args.gathered.now.items in
    let road = YieldsList-at c.into_iter-entry-iterator.ensures.into_iter_gives (YieldsList-from_deque es c.iter-entry-items.ensures.rest) in
    let end = YieldsList-end road c.loop-entry.yielded _ c.loop-entry.yielded_by _ _ c.in-None.is c.next.ensures.steps in
    let seen = ap count end.0 in
    let one = event_size c.args.mark.now es in
    let was = c.loop-entry.invariant in
    omega (arith, seen, one, was)
