use Rattle.std.proofs.Common.{◌≡◌, ℕ, List, ◌∷◌, ◌++◌, length}
use Rattle.std.specs.List.{flat_map, AllByRecursion}
use Rattle.spv_text.specs.Spelling.{byte_text}
use Rattle.spv_text.specs.Lines.{IsByte}
use Rattle.spv_text.proofs.strings.bytes_at.Given as goal

abbrev pub invariant-loop-byte : goal.invariant-loop-byte
invariant-loop-byte l = record {
  bytes : AllByRecursion IsByte l.bytes.items;
  whole : l.fn.text ≡ flat_map byte_text l.bytes.items ++ l.rest;
  left : (bs r : List ℕ) → AllByRecursion IsByte bs → l.fn.text ≡ flat_map byte_text bs ++ 34 ∷ r
      → (cs : List ℕ) × AllByRecursion IsByte cs × (l.rest ≡ flat_map byte_text cs ++ 34 ∷ r);
}

abbrev pub decreases-loop-byte : goal.decreases-loop-byte
decreases-loop-byte l = length l.rest
