use Rattle.std.proofs.Common.{◌≡◌, length}
use Rattle.spv_bodies.specs.Classes.{HaveClasses}
use Rattle.spv_bodies.proofs.classes.classes_of.Given as goal

-- the types so far have their classes
abbrev pub invariant-loop-n : goal.invariant-loop-n
invariant-loop-n l = record {
  count : length l.classes.items ≡ l.n;
  have : HaveClasses l.terms l.types l.classes.items l.n;
}
