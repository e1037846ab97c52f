use Rattle.std.proofs.Common.{◌∙◌, ap, Some}
use Rattle.spv_hits.specs.Kept.{bits_of_cell}
use Rattle.spv_hits.proofs.places.has_cell.Goals as goal

pub returns-in-Some : goal.returns-in-Some
returns-in-Some c = λ same frames. c.in-Some.ensures frames ∙ ap (λ x. Some (bits_of_cell x c.args.key.now.count)) (c.same_cell.ensures same)
