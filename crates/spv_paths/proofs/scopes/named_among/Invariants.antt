use Rattle.std.proofs.Common.{◌≡◌, drop, find}
use Rattle.spv_parts.specs.Composites.{is_named}
use Rattle.spv_paths.proofs.scopes.named_among.Given as goal

abbrev pub invariant-loop-id : goal.invariant-loop-id
invariant-loop-id l = find (is_named l.tables l.name) (drop l.id-index l.ids) ≡ find (is_named l.tables l.name) l.ids
