use Rattle.std.proofs.Common.{◌≡◌, ℕ, ◌||◌, ◌==◌, false, take}
use Rattle.std.specs.Prelude.{slice_index_or}
use Rattle.std.specs.List.{list_any}
use Rattle.spv_hits.proofs.heads.mark_all.Given as goal

abbrev pub invariant-loop-word : goal.invariant-loop-word
invariant-loop-word l = (pc : ℕ) → slice_index_or l.marks.items pc false ≡ (slice_index_or l.fn.marks.items pc false || list_any (λ head. head == pc) (take l.word-index l.words))
