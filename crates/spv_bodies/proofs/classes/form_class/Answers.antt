use Rattle.std.proofs.Common.{refl}
use Rattle.spv_bodies.specs.Matching.{Number, Pair, term_among}
use Rattle.spv_bodies.proofs.ClassLemmas.{class_has}
use Rattle.spv_bodies.proofs.classes.form_class.Goals as goal

pub returns-in_ok-number-in-Bool-clause-class : goal.returns-in_ok-number-in-Bool-clause-class
returns-in_ok-number-in-Bool-clause-class c = rw c.in-Bool.is (Number 20, refl, rw c.from.ensures at c.in_ok-number-in-Bool.ensures.there)

pub returns-in_ok-int_class-in-Int-clause-class : goal.returns-in_ok-int_class-in-Int-clause-class
returns-in_ok-int_class-in-Int-clause-class c = rw c.in-Int.is (Pair (Number 21) (Pair (Number c.in-Int.width) (Number c.in-Int.sign)), refl, c.in_ok-int_class-in-Int.ensures.class)

pub returns-in_ok-repeated_class-in-Vector-clause-class : goal.returns-in_ok-repeated_class-in-Vector-clause-class
returns-in_ok-repeated_class-in-Vector-clause-class c =
    rw c.in-Vector.is (c.in_ok-repeated_class-in-Vector.ensures.class (term_among c.args.types.now c.args.limit c.in-Vector.component)
    (rw c.class_among-part.ensures (class_has c.args.terms.now c.args.types.now c.args.classes.now c.args.limit c.in-Vector.component c.requires.have)))

pub returns-in_ok-array_class-in-Array-clause-class : goal.returns-in_ok-array_class-in-Array-clause-class
returns-in_ok-array_class-in-Array-clause-class c =
    rw c.in-Array.is (c.in_ok-array_class-in-Array.ensures.class (term_among c.args.types.now c.args.limit c.in-Array.element)
    (rw c.class_among-part-in-Array.ensures (class_has c.args.terms.now c.args.types.now c.args.classes.now c.args.limit c.in-Array.element c.requires.have)))
