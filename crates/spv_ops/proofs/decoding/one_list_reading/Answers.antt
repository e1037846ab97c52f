use Rattle.spv_ops.proofs.InstLaws.{insts_take, insts_again}
use Rattle.spv_ops.proofs.decoding.one_list_reading.Goals as goal

pub returns-clause-reads : goal.returns-clause-reads
returns-clause-reads c = insts_again

pub returns-clause-read : goal.returns-clause-read
returns-clause-read c = insts_take
