use Rattle.spv_bodies.proofs.RuleLaws.{body_decided, kept_exactly}
use Rattle.spv_bodies.proofs.laws.instructions_keep_their_rules.Goals as goal

pub returns-clause-all : goal.returns-clause-all
returns-clause-all c = kept_exactly

pub returns-clause-each : goal.returns-clause-each
returns-clause-each c = body_decided
