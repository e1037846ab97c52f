use Rattle.std.proofs.Common.{◌≡◌, ◌-◌, ◌++◌, flat_map, length}
use Rattle.spv_paths.specs.Kept.{ids_under}
use Rattle.spv_paths.specs.Variables.{scopes, scopes_within}
use Rattle.spv_paths.proofs.scopes.push_from.Given as goal

abbrev pub invariant-loop-n : goal.invariant-loop-n
invariant-loop-n l = l.ids.items ++ flat_map (ids_under l.locals) (scopes_within (length l.tables.insts - l.n) l.tables l.at) ≡ flat_map (ids_under l.locals) (scopes l.tables l.scope)
