use Rattle.std.proofs.Common.{◌<◌, ◌≤◌, ◌/◌, ◌*◌, List, sym, subst, refl, arith}
use Rattle.spv_types.specs.declared.forms.Form.{Form}
use Rattle.spv_types.specs.declared.forms.Member.{Member}
use Rattle.spv_expr.specs.Sizes.{IsFormFront, IsMembersFront}
use Rattle.spv_expr.proofs.SizeLemmas.{array_front, members_begun, members_within, runtime_front, struct_front, vector_front, whole_front, within_front}
use Rattle.spv_expr.proofs.fronts.+front.Goals as goal

pub form_front-returns-in-Vector-clause-front : goal.form_front-returns-in-Vector-clause-front
form_front-returns-in-Vector-clause-front t c = subst (λ (f : Form). IsFormFront c.args.types.now f c.args.room.leaves c.row_front.result) (sym c.in-Vector.is)
    (vector_front c.args.types.now c.in-Vector.component c.in-Vector.count c.args.room.leaves c.row_front.result c.row_front.ensures.front)

pub form_front-returns-in-Array-clause-front : goal.form_front-returns-in-Array-clause-front
form_front-returns-in-Array-clause-front t c = subst (λ (f : Form). IsFormFront c.args.types.now f c.args.room.leaves c.row_front-in-Array.result) (sym c.in-Array.is)
    (array_front c.args.types.now c.in-Array.element c.in-Array.length c.in-Array.stride c.args.room.leaves c.row_front-in-Array.result c.row_front-in-Array.ensures.front)

pub form_front-returns-in-Runtime-clause-front : goal.form_front-returns-in-Runtime-clause-front
form_front-returns-in-Runtime-clause-front t c = subst (λ (f : Form). IsFormFront c.args.types.now f c.args.room.leaves c.row_front-in-Runtime.result) (sym c.in-Runtime.is)
    (runtime_front c.args.types.now c.in-Runtime.element c.in-Runtime.stride c.args.room.leaves c.row_front-in-Runtime.result c.row_front-in-Runtime.ensures.front)

pub form_front-returns-in-Struct-clause-front : goal.form_front-returns-in-Struct-clause-front
form_front-returns-in-Struct-clause-front t c = subst (λ (f : Form). IsFormFront c.args.types.now f c.args.room.leaves c.members_front.result) (sym c.in-Struct.is)
    (struct_front c.args.types.now _ c.in-Struct.block c.args.room.leaves c.members_front.result
    (subst (λ (ms : List Member). IsMembersFront c.args.types.now ms c.args.room.leaves c.members_front.result) c.as_slice.ensures c.members_front.ensures.front))

pub members_front-returns-then-k-members-clause-front : goal.members_front-returns-then-k-members-clause-front
members_front-returns-then-k-members-clause-front t c = members_begun c.args.types.now c.args.members.now c.first_members-k.result.0 c.args.room.leaves c.first_members-k.result.1 c.first_members-k.ensures.sized

pub members_front-returns-in_default-clause-front : goal.members_front-returns-in_default-clause-front
members_front-returns-in_default-clause-front t c = members_begun c.args.types.now c.args.members.now c.first_members-k.result.0 c.args.room.leaves c.first_members-k.result.1 c.first_members-k.ensures.sized

pub members_front-returns-clause-front : goal.members_front-returns-clause-front
members_front-returns-clause-front t c =
    let k = c.first_members-k in
    members_within c.args.types.now c.args.members.now k.result.0 _ c.args.room.leaves _ c.in-Some.leaves k.result.1 c.type_front-within.result _
    (let few = k.ensures.few in let other = c.if-k-members.false in omega arith) k.ensures.sized (omega (arith, k.ensures.leaves)) c.in-Some.ensures.long c.type_front-within.ensures.front refl refl

pub row_front-returns-then-whole-count-clause-front : goal.row_front-returns-then-whole-count-clause-front
row_front-returns-then-whole-count-clause-front t c =
    let some : 0 < c.in-Some.size.leaves = let other = c.if-size-eq0.false in omega arith in
    let le : c.min-whole.result ≤ c.args.room.leaves / c.in-Some.size.leaves = omega (arith, c.min-whole.ensures) in
    whole_front c.args.types.now c.args.ty c.args.room.leaves c.min-whole.result c.in-Some.size _ c.in-Some.ensures some le refl refl

pub row_front-returns-clause-front : goal.row_front-returns-clause-front
row_front-returns-clause-front t c =
    let some : 0 < c.in-Some.size.leaves = let other = c.if-size-eq0.false in omega arith in
    let lt : c.min-whole.result < c.args.room.leaves / c.in-Some.size.leaves = let other = c.if-whole-count.false in omega (arith, c.min-whole.ensures) in
    within_front c.args.types.now c.args.ty c.args.room.leaves c.min-whole.result c.in-Some.size (record { leaves = c.in-Some.size.leaves * c.min-whole.result; bits = c.in-Some.size.bits * c.min-whole.result })
    c.type_front-within.result _ c.in-Some.ensures some lt refl refl c.type_front-within.ensures.front refl refl
