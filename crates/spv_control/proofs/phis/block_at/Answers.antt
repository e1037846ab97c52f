use Rattle.std.proofs.Common.{◌∙◌, List, ap, arith}
use Rattle.spv_base.specs.declared.instructions.Inst.{Inst}
use Rattle.spv_sites.specs.Phis.{block_at}
use Rattle.spv_control.proofs.PhiLemmas.{block_found, block_missing}
use Rattle.spv_control.proofs.phis.block_at.Goals as goal

pub returns-in-Some : goal.returns-in-Some
returns-in-Some c =
    block_found c.index-index.result.now.insts c.args.word c.in-Some.n c.standings.result.now _ c.standings.ensures.standings c.in-Some.ensures.number (omega (arith, c.standings.ensures.len, c.in-Some.ensures.within))
    ∙ ap (λ (is : List Inst). block_at is c.args.word) c.index-index.ensures.insts

pub returns-in-None : goal.returns-in-None
returns-in-None c = block_missing c.index-index.result.now.insts c.args.word c.in-None.ensures.number ∙ ap (λ (is : List Inst). block_at is c.args.word) c.index-index.ensures.insts
