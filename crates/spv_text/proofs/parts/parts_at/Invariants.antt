use Rattle.std.proofs.Common.{◌≡◌, ℕ, List, ◌∷◌, ◌++◌, length}
use Rattle.std.specs.List.{AllByRecursion}
use Rattle.spv_text.specs.declared.lines.Part.{Part}
use Rattle.spv_text.specs.Spelling.{parts_text}
use Rattle.spv_text.specs.Lines.{IsPart}
use Rattle.spv_text.proofs.parts.parts_at.Given as goal

abbrev pub invariant-loop-spaced : goal.invariant-loop-spaced
invariant-loop-spaced l = record {
  all : AllByRecursion IsPart l.parts;
  whole : l.fn.text ≡ parts_text l.parts ++ l.rest;
  left : (ps : List Part) (r : List ℕ) → AllByRecursion IsPart ps → l.fn.text ≡ parts_text ps ++ 10 ∷ r
      → (qs : List Part) × AllByRecursion IsPart qs × (l.rest ≡ parts_text qs ++ 10 ∷ r);
}

abbrev pub decreases-loop-spaced : goal.decreases-loop-spaced
decreases-loop-spaced l = length l.rest
