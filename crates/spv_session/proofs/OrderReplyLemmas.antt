-- The reply to `order`, by what was found.
use Rattle.std.proofs.Common.{◌≡◌, ◌∙◌, ℕ, ◌<◌, ◌≤◌, Bool, true, false, cond, List, Some, refl, ap, arith}
use Rattle.std.specs.Prelude.{nat_lt}
use Rattle.std.proofs.lemmas.Bool.{lt-ltb}
use Rattle.spv_base.proofs.Exports.{not_below}
use Rattle.spv_group.specs.Group.{Held as Group, end_in}
use Rattle.spv_order.specs.declared.orders.Answer.{Answer}
use Rattle.spv_races.specs.Answers.{IsOrderOf}
use Rattle.spv_session.specs.Orders.{IsAmong, behind}
use Rattle.spv_session.specs.OrderTexts.{doing_in, order_in, order_line}
use Rattle.spv_session.specs.Reply.{order_told, past_the_end, refuses, tells, told_reply}
use Rattle.spv_session.specs.Texts.{refusal_line}
use Rattle.spv_session.specs.View.{View}
use Rattle.spv_session.proofs.OrderLemmas.{order_among, order_is}

abbrev told_by : View → (a b : ℕ) → Bool → List ℕ
told_by v a b past = (told_reply v (cond past (refuses past_the_end) (tells (order_line v.group.program.accepted a b (order_in v.group a b)) v))).0

-- the run ends before
pub past_told : (v : View) (a b : ℕ) → end_in v.group < b → (told_reply v (order_told a b v)).0 ≡ refusal_line past_the_end
past_told v a b h = ap (told_by v a b) (lt-ltb (end_in v.group) b h)

pub found_told : (v : View) (a b : ℕ) (answer : Answer) → a ≤ b → IsOrderOf v.group a b (Some answer) → (told_reply v (order_told a b v)).0 ≡ order_line v.group.program.accepted a b (behind a answer)
found_told v a b answer l h =
    let same : order_in v.group a b ≡ behind a answer
    = order_is (doing_in v.group) a b h.1.0 answer l h.1.1.count
    (λ k e at. let is = h.1.1.each k e at in record { invocation = is.invocation; arrives = is.arrives; reads = is.reads; writes = is.writes }) h.1.2 in
    ap (told_by v a b) (not_below (end_in v.group) b h.0) ∙ ap (order_line v.group.program.accepted a b) same

pub found_among : (g : Group) (a b n : ℕ) (answer : Answer) → b ≤ n → IsOrderOf g a b (Some answer) → IsAmong n answer
found_among g a b n answer l h = order_among h.1.0 n answer (omega (arith, h.1.1.count, l)) h.1.2

-- the view stays
pub order_view : (v : View) (a b : ℕ) → (told_reply v (order_told a b v)).1 ≡ v
order_view v a b = by (nat_lt (end_in v.group) b)
  where
    by : (past : Bool) → (told_reply v (cond past (refuses past_the_end) (tells (order_line v.group.program.accepted a b (order_in v.group a b)) v))).1 ≡ v
    by true = refl
    by false = refl
