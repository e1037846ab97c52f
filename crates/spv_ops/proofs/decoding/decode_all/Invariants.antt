use Rattle.std.proofs.Common.{◌≡◌, drop}
use Rattle.spv_ops.specs.Steps.{before}
use Rattle.spv_ops.specs.Reading.{insts_of}
use Rattle.spv_ops.proofs.decoding.decode_all.Given as goal

abbrev pub invariant-loop-raw : goal.invariant-loop-raw
invariant-loop-raw l = before l.insts.items (insts_of (drop l.raw-index l.raws)) ≡ insts_of l.raws
