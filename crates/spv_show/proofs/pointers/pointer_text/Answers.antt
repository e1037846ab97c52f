use Rattle.spv_show.proofs.PointerLemmas.{pointer_is}
use Rattle.spv_show.proofs.pointers.pointer_text.Goals as goal

pub returns-clause-value : goal.returns-clause-value
returns-clause-value c = λ ts roots id h. pointer_is ts roots id c.args.pointer.now h
