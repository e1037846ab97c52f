-- The position to which a search leads: the first one that passes, of those behind or before the group's position. What hits, beside what
-- the command asks for, is any test of a group at its position.
use Rattle.std.specs.Prelude.{ℕ, ◌+◌, ◌||◌, Bool}
use Rattle.spv_group.specs.Group.{Held as Group, end_in, group_at}
use Rattle.spv_group.specs.Positions.{least_of, greatest_of}
use Rattle.spv_search.specs.Own.{own_forward, own_backward}
use Rattle.spv_search.specs.declared.commands.Forward.{Forward}
use Rattle.spv_search.specs.declared.commands.Backward.{Backward}

-- something hits at a position, or what the command asks for holds there
abbrev pub passes_forward : (Group → Bool) → Forward → ℕ → Group → ℕ → Bool
passes_forward hit command i g m = hit (group_at m g) || own_forward command i g (group_at m g)

abbrev pub passes_backward : (Group → Bool) → Backward → ℕ → Group → ℕ → Bool
passes_backward hit command i g m = hit (group_at m g) || own_backward command i g (group_at m g)

-- the least position behind that passes, else the end
abbrev pub forward_target : (Group → Bool) → Forward → ℕ → Group → ℕ
forward_target hit command i g = least_of (passes_forward hit command i g) (g.position + 1) (end_in g)

-- the greatest position before, from 1 on, that passes, else the start
abbrev pub backward_target : (Group → Bool) → Backward → ℕ → Group → ℕ
backward_target hit command i g = greatest_of (passes_backward hit command i g) 0 g.position
