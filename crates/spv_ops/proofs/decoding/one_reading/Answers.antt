use Rattle.spv_ops.proofs.InstLaws.{inst_takes, inst_again, words_from}
use Rattle.spv_ops.proofs.decoding.one_reading.Goals as goal

pub returns-clause-reads : goal.returns-clause-reads
returns-clause-reads c = inst_again

pub returns-clause-read : goal.returns-clause-read
returns-clause-read c = λ r i fit e. let read = inst_takes r i (words_from r.rest fit) e in (read.is_inst, read.bytes, read.encodes)
