use Rattle.std.proofs.Common.{◌≡◌, ◌+◌, ◌≤◌, ◌++◌, [], drop, vec_len}
use Rattle.spv_index.specs.Positions.{stands_of}
use Rattle.spv_dbg.specs.Forming.{formed_from, malformed_from, marks_from}
use Rattle.spv_dbg.proofs.records.records_of.Given as goal

abbrev pub invariant-loop-n : goal.invariant-loop-n
invariant-loop-n l = record {
  stands_are : l.stands ≡ stands_of l.module.insts;
  few : l.records.ignored ≤ vec_len l.records.marks;
  marks : marks_from l.module l.records.marks.items (drop l.n l.stands) ≡ marks_from l.module [] l.stands;
  insts : l.records.insts.items ++ formed_from l.module l.records.marks.items (drop l.n l.stands) ≡ formed_from l.module [] l.stands;
  ignored : l.records.ignored + malformed_from l.module l.records.marks.items (drop l.n l.stands) ≡ malformed_from l.module [] l.stands;
}
