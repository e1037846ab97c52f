use Rattle.std.proofs.Common.{◌≡◌, [], take, drop}
use Rattle.std.specs.BTreeSet.{contains}
use Rattle.spv_index.specs.Keys.{pair_cmp}
use Rattle.spv_types.specs.InterfaceBlocks.{ArePlaces, module_breaches}
use Rattle.spv_types.proofs.interface_blocks.check_blocks.Given as goal

-- the places of the buffer variables so far, of which none is refused
abbrev pub invariant-loop-inst : goal.invariant-loop-inst
invariant-loop-inst l = record {
  places : ArePlaces l.index.insts (take l.inst-index l.insts) (λ a b. contains pair_cmp l.places (a, b));
  refusals : module_breaches l.index.insts l.types [] l.insts ≡ module_breaches l.index.insts l.types (take l.inst-index l.insts) (drop l.inst-index l.insts);
}
