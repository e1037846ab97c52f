use Rattle.std.proofs.Common.{◌∙◌, ap, is_some, subst, sym}
use Rattle.spv_results.specs.Operands.{IsResult}
use Rattle.spv_types.specs.Queries.{components_in}
use Rattle.spv_types.specs.Types.{Types, form_of}
use Rattle.spv_results.proofs.CompositeCalls.{constructed_is, constructs}
use Rattle.spv_results.proofs.composites.construct.Goals as goal

pub put_together-requires : goal.put_together-requires
put_together-requires c =
    c.in_ok-make_room.ensures.room
    ∙ (constructs c.args.accepted.now c.args.inst.now c.args.parts.now c.make_room.ensures.valid c.requires.rule c.requires.sized c.requires.count c.requires.parts).room

pub returns-clause-value : goal.returns-clause-value
returns-clause-value c =
    constructed_is (form_of c.args.accepted.now.types c.args.inst.now.ty) c.args.parts.now c.is_some-joins.result c.put_together.new.into c.put_together.ensures
    (c.is_some-joins.ensures ∙ ap is_some (c.components_in.ensures ∙ ap components_in (c.form.ensures ∙ ap (λ (ts : Types). form_of ts c.args.inst.now.ty) c.types.ensures)))

pub returns-clause-shape : goal.returns-clause-shape
returns-clause-shape c =
    let value = constructed_is (form_of c.args.accepted.now.types c.args.inst.now.ty) c.args.parts.now c.is_some-joins.result c.put_together.new.into c.put_together.ensures
    (c.is_some-joins.ensures ∙ ap is_some (c.components_in.ensures ∙ ap components_in (c.form.ensures ∙ ap (λ (ts : Types). form_of ts c.args.inst.now.ty) c.types.ensures))) in
    subst (IsResult c.args.accepted.now c.args.inst.now) (sym value)
    (constructs c.args.accepted.now c.args.inst.now c.args.parts.now c.make_room.ensures.valid c.requires.rule c.requires.sized c.requires.count c.requires.parts).shape
