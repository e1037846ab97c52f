use Rattle.std.proofs.Common.{◌≡◌, ◌++◌, drop}
use Rattle.std.specs.List.{flat_map}
use Rattle.spv_text.specs.Spelling.{line_text}
use Rattle.spv_text.specs.Listing.{line_of}
use Rattle.spv_text.proofs.writing.listing.Given as goal

abbrev pub invariant-loop-inst : goal.invariant-loop-inst
invariant-loop-inst l = l.text.items ++ flat_map (λ inst. line_text (line_of inst)) (drop l.inst-index l.insts) ≡ flat_map (λ inst. line_text (line_of inst)) (l.insts)
