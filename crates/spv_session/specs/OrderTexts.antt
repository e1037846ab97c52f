-- The events of a run, and the text of what their order is worth.
use Rattle.std.specs.Prelude.{ℕ, List, ◌++◌, codes, decimal, slice_index_or}
use Rattle.spv_base.specs.declared.values.Root.TheVariants.{Shared}
use Rattle.spv_valid.specs.Acceptance.{Accepted}
use Rattle.spv_state.specs.State.{State}
use Rattle.spv_group.specs.Group.{Held as Group, entries_in}
use Rattle.spv_group.specs.Run.{run}
use Rattle.spv_order.specs.declared.orders.Answer.{Answer}
use Rattle.spv_order.specs.declared.orders.Answer.TheVariants.{Free, Barrier, Conflict}
use Rattle.spv_races.specs.Below.spv_touch.specs.Touching.{arrives_of, touched_of}
use Rattle.spv_leaves.specs.Paths.{leaf_path}
use Rattle.spv_ids.specs.Texts.{target_of}
use Rattle.spv_show.specs.Pointers.{pointer_text}
use Rattle.spv_session.specs.Orders.{Doing, Leaf, order_by}

-- ---- events

-- what the next event of an invocation does in a state
abbrev pub doing_of : Group → State → ℕ → Doing
doing_of g s i =
    record { invocation = i; arrives = arrives_of g.program s i; reads = (touched_of g.program s i).reads; writes = (touched_of g.program s i).writes }

-- what the event with a number does, by the run's state before it
abbrev pub doing_in : Group → ℕ → Doing
doing_in g n = doing_of g (run g.program (entries_in g) n) (slice_index_or (entries_in g) n 0)

-- what the order of the events from a on, before b, is worth
abbrev pub order_in : Group → (a b : ℕ) → Answer
order_in g = order_by (doing_in g)

-- ---- texts

-- the pointer to a leaf
abbrev pub leaf_text : Accepted → Leaf → List ℕ
leaf_text a leaf = pointer_text (record { root = Shared leaf.0; path = leaf_path a.types (target_of a leaf.0) leaf.1 })

abbrev pub answer_text : Accepted → Answer → List ℕ
answer_text a Free = codes "free"
answer_text a (Barrier y) = codes "event " ++ decimal y ++ codes " arrives at a barrier"
answer_text a (Conflict x y root leaf) = codes "events " ++ decimal x ++ codes " and " ++ decimal y ++ codes " on " ++ leaf_text a (root, leaf)

-- `order A B: ` before it
abbrev pub order_line : Accepted → (a b : ℕ) → Answer → List ℕ
order_line m a b answer = codes "order " ++ decimal a ++ codes " " ++ decimal b ++ codes ": " ++ answer_text m answer ++ codes "\n"
