use Rattle.std.proofs.Common.{◌∙◌, List, ap}
use Rattle.std.specs.Prelude.{option_map}
use Rattle.spv_cmd.specs.declared.command.PathPart.{PathPart}
use Rattle.spv_paths.specs.Kept.{kept_portion, saturated_portion}
use Rattle.spv_paths.specs.Paths.{all_of, reached}
use Rattle.spv_paths.proofs.PathLemmas.{named_there}
use Rattle.spv_paths.proofs.paths.part_of.Goals as goal

pub returns : goal.returns
returns c =
    let t = c.args.tables.now in
    named_there t c.args.bits c.ranges.bits.fits c.args.variable (reached t c.args.bits (all_of t c.args.variable) c.args.parts.now) (kept_portion c.in-Some.portion) c.end_of.result c.is_local.result _
    (c.in-Some.ensures ∙ ap (λ (parts : List PathPart). option_map saturated_portion (reached t c.args.bits (all_of t c.args.variable) parts)) c.as_slice.ensures) c.end_of.ensures c.is_local.ensures
