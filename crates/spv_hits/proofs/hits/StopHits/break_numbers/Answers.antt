use Rattle.spv_hits.proofs.HitLemmas.{entry_before}
use Rattle.spv_hits.proofs.hits.StopHits.break_numbers.Goals as goal

pub returns-then-not-lands-clause-entry : goal.returns-then-not-lands-clause-entry
returns-then-not-lands-clause-entry c = entry_before c.args.group.now.group c.args.happening.now c.requires

pub returns-in-Some-clause-entry : goal.returns-in-Some-clause-entry
returns-in-Some-clause-entry c = entry_before c.args.group.now.group c.args.happening.now c.requires

pub returns-in-None-clause-entry : goal.returns-in-None-clause-entry
returns-in-None-clause-entry c = entry_before c.args.group.now.group c.args.happening.now c.requires
