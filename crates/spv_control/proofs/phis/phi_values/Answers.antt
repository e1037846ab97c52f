use Rattle.std.proofs.Common.{◌≡◌, rules}
use Rattle.spv_index.specs.Classes.{sets_of}
use Rattle.spv_state.specs.State.{depth_of}
use Rattle.spv_sites.specs.Phis.{behind_label, block_at, first_ones}
use Rattle.spv_control.proofs.PhiLemmas.{taken_as}
use Rattle.spv_control.proofs.phis.phi_values.Goals as goal

pub returns-clause-value : goal.returns-clause-value
returns-clause-value c =
    let same : c.first_ones-insts.result.now ≡ first_ones (sets_of c.args.site.now.program.accepted.insts) (behind_label c.args.site.now.program.accepted.insts c.args.block) = search rules in
    let from : c.block_at-from.result ≡ block_at c.args.site.now.program.accepted.insts c.args.site.now.inst.word = search rules in
    taken_as c.args.site.now.program.accepted c.args.site.now.frame (depth_of c.args.site.now.state c.args.site.now.inv) c.block_at-from.result _ c.first_ones-insts.result.now _ _ from same c.values_of.ensures.value
