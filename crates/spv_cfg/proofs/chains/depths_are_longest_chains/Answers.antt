use Rattle.spv_cfg.proofs.LongestChains.{longest_is_longest, long_is_reached, long_is_refused, cycle_is_refused}
use Rattle.spv_cfg.proofs.chains.depths_are_longest_chains.Goals as goal

pub returns-clause-longest : goal.returns-clause-longest
returns-clause-longest c = longest_is_longest

pub returns-clause-long : goal.returns-clause-long
returns-clause-long c = long_is_reached

pub returns-clause-refused : goal.returns-clause-refused
returns-clause-refused c = long_is_refused

pub returns-clause-cycle : goal.returns-clause-cycle
returns-clause-cycle c = cycle_is_refused
