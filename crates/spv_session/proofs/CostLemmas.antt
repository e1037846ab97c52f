-- The steps of a line, by how many events are kept.
use Rattle.std.proofs.Common.{◌≤◌, ℕ, ◌≡◌, ◌+◌, ◌-◌, ◌*◌, max, min, Bool, true, false, cond, List, refl, arith}
use Rattle.std.specs.Prelude.{nat_lt, nat_le}
use Rattle.std.proofs.lemmas.Bool.{ltb-true, ltb-false, leb-true, leb-false}
use Rattle.spv_cmd.specs.Commands.{command_of}
use Rattle.spv_group.specs.Group.{Held as Group, end_in, entries_in}
use Rattle.spv_search.specs.Costs.{forward_cost, backward_cost, return_cost}
use Rattle.spv_group.proofs.Exports.{windows_rise}
use Rattle.spv_group.specs.History.{window}
use Rattle.spv_races.specs.Costs.{order_cost}
use Rattle.spv_session.specs.Costs.{straight_cost, motion_cost, act_cost, kept_by, line_kept, reached, reached_by, cost_by, line_cost}
use Rattle.spv_session.specs.Motions.{Motion, straight, forward, backward, hits, target}
use Rattle.spv_session.specs.Reply.{Act, nothing, quits, shows, asks, goes, walks, orders, act_of, is_over}
use Rattle.spv_search.specs.Told.{has_probe}
use Rattle.spv_session.specs.View.{Settings, View, Viewing, tests_at}

-- what is kept further back costs no more
back_with : (b c : Bool) (j k n x : ℕ) → j ≤ k → nat_lt n j ≡ b → nat_lt n k ≡ c → cond b x 0 ≤ cond c x 0
back_with true true j k n x h e f = omega arith
back_with true false j k n x h e f = let below = ltb-true n j e in let above = ltb-false n k f in absurd (omega arith)
back_with false true j k n x h e f = omega arith
back_with false false j k n x h e f = omega arith

return_rises : (told : Bool) (j k from to : ℕ) → j ≤ k → return_cost told j from to ≤ return_cost told k from to
return_rises told j k from to h = back_with (nat_lt to j) (nat_lt to k) j k to (cond told from to) h refl refl

-- an order costs no more where more is kept further back
pub order_rises : (told : Bool) (j k w x p a b : ℕ) → j ≤ k → w ≤ x → order_cost told j w p a b ≤ order_cost told k x p a b
order_rises told j k w x p a b h g =
    let there = return_rises told j k p a h in
    let back = return_rises told (max j w) (max k x) (max b p) p (omega (arith, h, g)) in
    omega (arith, there, back)

straight_with : (b : Bool) (x y z : ℕ) → x ≤ y → cond b x z ≤ cond b y z
straight_with true x y z h = h
straight_with false x y z h = omega arith

straight_rises : (told : Bool) (j k : ℕ) (g : Group) (n : ℕ) → j ≤ k → straight_cost told j g n ≤ straight_cost told k g n
straight_rises told j k g n h =
    straight_with (nat_lt n g.position) (return_cost told j g.position n) (return_cost told k g.position n) (forward_cost g.position (min n (end_in g)))
    (back_with (nat_lt n j) (nat_lt n k) j k n (cond told g.position n) h refl refl)

search_with : (told b c : Bool) (j k n : ℕ) → j ≤ k → nat_le j n ≡ b → nat_le k n ≡ c → cond b 1 (cond told (3 * j + 1) (2 * j)) ≤ cond c 1 (cond told (3 * k + 1) (2 * k))
search_with told true true j k n h e f = omega arith
search_with true true false j k n h e f = omega arith
search_with false true false j k n h e f = let above = leb-false k n f in omega arith
search_with told false true j k n h e f = let above = leb-true k n f in let below = leb-false j n e in absurd (omega arith)
search_with true false false j k n h e f = omega arith
search_with false false false j k n h e f = omega arith

search_rises : (told : Bool) (j k to : ℕ) → j ≤ k → backward_cost told j to ≤ backward_cost told k to
search_rises told j k to h = search_with told (nat_le j (to - 1)) (nat_le k (to - 1)) j k (to - 1) h refl refl

motion_rises : (tests : Settings) (j k : ℕ) (v : View) (m : Motion) → j ≤ k → motion_cost tests j v m ≤ motion_cost tests k v m
motion_rises tests j k v (straight n done) h = straight_rises (has_probe tests) j k v.group n h
motion_rises tests j k v (forward own) h = omega arith
motion_rises tests j k v (backward own) h = search_rises (has_probe tests) j k (target (hits tests) v (backward own)) h

walk_rises : (b : Bool) (x y : ℕ) → x ≤ y → cond b 0 x ≤ cond b 0 y
walk_rises true x y h = omega arith
walk_rises false x y h = h

act_rises : (tests : Settings) (j k : ℕ) (v : View) (a : Act) → j ≤ k → act_cost tests j v a ≤ act_cost tests k v a
act_rises tests j k v nothing h = omega arith
act_rises tests j k v quits h = omega arith
act_rises tests j k v (shows told) h = omega arith
act_rises tests j k v (asks told) h = omega arith
act_rises tests j k v (orders a b) h = order_rises (has_probe tests) j k j k v.group.position a b h h
act_rises tests j k v (goes motion) h = motion_rises tests j k v (motion v) h
act_rises tests j k v (walks motion) h = walk_rises (is_over v) (motion_cost tests j v (motion v)) (motion_cost tests k v (motion v)) (motion_rises tests j k v (motion v) h)

pub line_rises : (settings : Settings) (j k : ℕ) (v : View) (line : List ℕ) → j ≤ k → line_cost settings j v line ≤ line_cost settings k v line
unfolding line_cost cost_by
line_rises settings j k v line h = act_rises (tests_at settings v) j k v (act_of (command_of line)) h

-- ---- what is kept

kept_reaches : (s : Viewing) (a : Act) (n : ℕ) → reached_by s.view a ≤ n → kept_by s a ≤ max s.kept (window s.limit s.view.group.program (entries_in s.view.group) n)
kept_reaches s nothing n h = omega arith
kept_reaches s quits n h = omega arith
kept_reaches s (shows told) n h = omega arith
kept_reaches s (asks told) n h = omega arith
kept_reaches s (goes motion) n h = omega arith
kept_reaches s (walks motion) n h = omega arith
kept_reaches s (orders a b) n h =
    let rises = windows_rise s.limit s.view.group.program (entries_in s.view.group) (reached_by s.view (orders a b)) n h in
    omega (arith, rises)

-- what is kept while a line is answered is kept where the group was as far as it goes then
pub line_reaches : (s : Viewing) (line : List ℕ) (n : ℕ) → reached s.view line ≤ n → line_kept s line ≤ max s.kept (window s.limit s.view.group.program (entries_in s.view.group) n)
unfolding reached line_kept
line_reaches s line n h = kept_reaches s (act_of (command_of line)) n h
