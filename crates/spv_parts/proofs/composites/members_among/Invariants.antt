use Rattle.std.proofs.Common.{◌≡◌, filter, take}
use Rattle.spv_parts.specs.Parts.{is_member}
use Rattle.spv_parts.proofs.composites.members_among.Given as goal

abbrev pub invariant-loop-id : goal.invariant-loop-id
invariant-loop-id l = l.members ≡ filter (is_member l.tables l.n) (take l.id-index l.ids)
