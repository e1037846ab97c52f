use Rattle.std.proofs.Common.{◌≡◌, ℕ, take}
use Rattle.std.specs.List.{filter}
use Rattle.spv_state.specs.Variables.{is_variable_of, under}
use Rattle.spv_state.proofs.variables.by_function.Given as goal

-- those of each function so far
abbrev pub invariant-loop-declared : goal.invariant-loop-declared
invariant-loop-declared l = (function : ℕ) → under l.groups function ≡ filter (is_variable_of l.accepted function) (take l.declared-index l.declared-items)
