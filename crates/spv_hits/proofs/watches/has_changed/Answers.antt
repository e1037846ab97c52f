use Rattle.std.proofs.Common.{◌∙◌, ap, not, sym}
use Rattle.spv_hits.specs.Watches.{same_bits}
use Rattle.spv_hits.proofs.SameLemmas.{bits_itself}
use Rattle.spv_hits.proofs.watches.has_changed.Goals as goal

pub returns-then-still : goal.returns-then-still
returns-then-still c = λ same. sym (ap not (ap (same_bits c.args.kept.now) (sym (same c.if-still.true)) ∙ bits_itself c.args.kept.now))
