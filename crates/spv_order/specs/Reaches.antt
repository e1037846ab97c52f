-- How far what was touched reaches, by invocations.
use Rattle.std.specs.Prelude.{ℕ, ◌==◌, if◌then◌else◌}
use Rattle.spv_order.specs.declared.reaches.Reach.{Reach}

abbrev pub others_of : Reach → ℕ → ℕ
others_of reach i = if reach.invocation == i then reach.next else reach.most

-- what a touch of an invocation adds to the reach of those of others than i
abbrev pub part_of : (invocation stop : ℕ) → ℕ → ℕ
part_of invocation stop i = if invocation == i then 0 else stop
