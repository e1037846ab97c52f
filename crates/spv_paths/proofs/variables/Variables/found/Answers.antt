use Rattle.std.proofs.Common.{◌∙◌, ap, find, sym}
use Rattle.spv_parts.specs.Composites.{is_named}
use Rattle.spv_paths.specs.Kept.{ids_under}
use Rattle.spv_paths.proofs.VariableLemmas.{local_found, global_found}
use Rattle.spv_paths.proofs.variables.Variables.found.Goals as goal

pub returns-in-Some : goal.returns-in-Some
returns-in-Some c = local_found c.args.tables.now c.args.self.now c.requires (ids_under c.self.inside.locals) (rw (sym c.self.view_is) c.self.invariant) c.args.scope c.args.name.now c.in-Some.id c.in-Some.ensures

pub returns-in-None : goal.returns-in-None
returns-in-None c = global_found c.args.tables.now c.args.self.now c.requires (ids_under c.self.inside.locals) (rw (sym c.self.view_is) c.self.invariant) c.args.scope c.args.name.now c.named_among.result c.in-None.ensures
    (rw (sym c.self.view_is) (c.named_among.ensures ∙ ap (find (is_named c.args.tables.now c.args.name.now)) c.as_slice.ensures.value))
