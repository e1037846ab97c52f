use Rattle.std.proofs.Common.{arith}
use Rattle.spv_cmd.proofs.PlaceLemmas.{place_form}
use Rattle.spv_cmd.proofs.command.BreakPlace.read.Goals as goal

pub invariant_of-result : goal.invariant_of-result
invariant_of-result c =
    let form = place_form (c.in_ok-file.file, c.in_ok-file.line) c.args.word.now c.in_ok-file.ensures c.requires.whole in
    (form.0, omega (arith, form.1, c.requires.short))
