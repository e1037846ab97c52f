use Rattle.spv_bodies.proofs.ClassLemmas.{struct_is}
use Rattle.spv_bodies.proofs.classes.struct_class.Goals as goal

pub returns-clause-class : goal.returns-clause-class
returns-clause-class c = λ t is.
    struct_is c.args.terms.now c.number.new.self c.pair.new.self c.in-Some.members c.in_ok-opcode.opcode c.in_ok-pair.field-0 c.in_ok-opcode.ensures.grows c.in_ok-pair.ensures.grows
    (rw c.from.ensures at c.in_ok-opcode.ensures.there) c.in_ok-pair.ensures.there t (rw c.in-Some.is at is)
