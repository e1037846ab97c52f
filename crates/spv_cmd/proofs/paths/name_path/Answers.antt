use Rattle.std.proofs.Common.{List}
use Rattle.spv_cmd.specs.declared.command.PathPart.{PathPart}
use Rattle.spv_cmd.specs.Paths.{AreParts, IsPath}
use Rattle.spv_cmd.proofs.ReadsLemmas.{reads_through}
use Rattle.spv_cmd.proofs.PartLemmas.{no_parts}
use Rattle.spv_cmd.proofs.paths.name_path.Goals as goal

pub returns-in_err-parts : goal.returns-in_err-parts
returns-in_err-parts c =
    let text = c.args.text.now in
    let rest = c.split_at.result.1.now in
    reads_through (λ (parts : List PathPart). AreParts parts rest) (λ path. IsPath path text) c.in_err-parts.field-0.0 c.from_residual.result c.from_residual.ensures.1 (λ lacks. no_parts rest text c.front_len.result c.front_len.ensures.front c.split_at.ensures.back lacks c.requires) c.in_err-parts.ensures
