use Rattle.std.proofs.Common.{◌≡◌, List, ◌++◌, length}
use Rattle.spv_cmd.specs.declared.command.PathPart.{PathPart}
use Rattle.spv_cmd.specs.Paths.{AreParts}
use Rattle.spv_cmd.proofs.paths.parts.Given as goal

-- the parts of the text are those read so far and those of the rest
abbrev pub invariant-loop-rest : goal.invariant-loop-rest
invariant-loop-rest l = record {
  sound : (ps : List PathPart) → AreParts ps l.rest → AreParts (l.parts ++ ps) l.fn.text;
  complete : (ps : List PathPart) → AreParts ps l.fn.text → (qs : List PathPart) × AreParts qs l.rest × (ps ≡ l.parts ++ qs);
}

abbrev pub decreases-loop-rest : goal.decreases-loop-rest
decreases-loop-rest l = length l.rest
