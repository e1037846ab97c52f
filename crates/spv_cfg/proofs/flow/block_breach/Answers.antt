use Rattle.std.proofs.Common.{refl}
use Rattle.spv_index.specs.Classes.{sets_of}
use Rattle.spv_index.specs.Positions.{outside}
use Rattle.spv_cfg.specs.Branches.{branch_breaches}
use Rattle.spv_cfg.specs.Phis.{phi_breaches}
use Rattle.spv_cfg.specs.Layout.{layout_breaches}
use Rattle.spv_base.proofs.Exports.{lowest-append}
use Rattle.spv_cfg.proofs.Walks.{behind_stands}
use Rattle.spv_cfg.proofs.flow.block_breach.Goals as goal

pub returns : goal.returns
returns c =
    let insts = c.args.index.now.insts in
    rw (
      c.lower-2.ensures,
      c.lower.ensures,
      c.layout_breach-layout.ensures,
      c.in_ok-branches.ensures,
      c.in_ok-phis.ensures,
      c.in_ok-edges.ensures,
      c.stands-stands.ensures,
      behind_stands (sets_of insts) outside insts,
      lowest-append (layout_breaches insts) _,
      lowest-append (branch_breaches insts) (phi_breaches insts),
    ) refl
