use Rattle.std.proofs.Common.{◌≡◌, ◌-◌, length}
use Rattle.spv_parts.specs.Parts.{seen_through}
use Rattle.spv_parts.proofs.parts.plain.Given as goal

abbrev pub invariant-loop-n : goal.invariant-loop-n
invariant-loop-n l = seen_through (length l.tables.insts - l.n) l.tables l.plain ≡ seen_through (length l.tables.insts) l.tables l.id
