use Rattle.std.proofs.Common.{◌≡◌, take}
use Rattle.std.specs.Prelude.{reverse}
use Rattle.spv_scopes.specs.Read.{AreCallsRead, AreScopesRead}
use Rattle.spv_scopes.proofs.scopes.scopes_of.Given as goal

abbrev pub invariant-loop-debug : goal.invariant-loop-debug
invariant-loop-debug l = record {
  insts_are : l.insts ≡ l.tables.insts;
  enclosed : AreScopesRead (reverse (take l.debug-index l.insts)) l.enclosings;
  called : AreCallsRead l.tables (reverse (take l.debug-index l.insts)) l.calls;
}
