use Rattle.spv_base.specs.Order.{Ascend}
use Rattle.spv_valid.specs.Acceptance.{Passes, decoded_in}
use Rattle.spv_valid.proofs.AcceptedLemmas.{accepted_passes}
use Rattle.spv_valid.proofs.EntryLemmas.{NoneBroken, has_entry, none_broken}
use Rattle.spv_valid.proofs.validity.accepted_modules_are_valid.Goals as goal

pub returns : goal.returns
returns c a is =
    let words : Ascend 0 a.insts = is.decoded.ascend in
    let over = is.over in
    let passes : Passes a is.name over = accepted_passes a is.name over is.is in
    let none : NoneBroken a over = none_broken a is.name over words is.is passes in
    let known = c.constants_have_the_shapes_of_their_types.ensures in
    let named = c.results_are_defined_once.ensures.named (decoded_in a) is.decoded passes.ids in
    record {
      ids = (c.ids_stand_for_what_is_asked.ensures (decoded_in a)).0 passes.ids;
      named = named;
      types = (known.types a.insts passes.declared over (a.types, a.constants) words named passes.types passes.constants).0;
      lengths = (known.types a.insts passes.declared over (a.types, a.constants) words named passes.types passes.constants).1;
      declared = none.declared;
      over = over;
      constants = none.limits;
      limits = c.types_and_constants_keep_limits.ensures a.insts passes.declared over (a.types, a.constants) words named passes.types passes.constants;
      layout = none.layout;
      values = known.values a.insts passes.declared over (a.types, a.constants) words named passes.types passes.constants;
      shapes = known.shapes a.insts passes.declared over (a.types, a.constants) words named passes.types passes.constants;
      blocks = c.each_block_is_entered.ensures a.insts a.flow passes.flow;
      targets = c.targets_are_entered.ensures a.insts a.flow passes.flow;
      functions = c.functions_are_entered.ensures.first_block a.insts a.flow passes.flow;
      depths = c.functions_are_entered.ensures.depth a.insts a.flow passes.flow;
      nexts = c.runs_go_on.ensures a.insts a.flow words passes.flow;
      rules = (c.instructions_keep_their_rules.ensures.all a.types a.constants a.insts).0 passes.bodies;
      entry = has_entry a is.name passes.entry;
    }
