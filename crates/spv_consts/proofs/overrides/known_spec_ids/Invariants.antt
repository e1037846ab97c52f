use Rattle.std.proofs.Common.{◌≡◌, ◌||◌, ℕ, drop}
use Rattle.std.specs.BTreeMap.{get}
use Rattle.std.specs.Ordering.{nat_cmp}
use Rattle.std.specs.Option.{is_some}
use Rattle.spv_consts.specs.Overrides.{is_known}
use Rattle.spv_consts.proofs.overrides.known_spec_ids.Given as goal

-- the SpecIds so far are in the set
abbrev pub invariant-loop-inst : goal.invariant-loop-inst
invariant-loop-inst l = (id : ℕ) → (is_some (get nat_cmp l.set id) || is_known l.index.insts (drop l.inst-index l.insts) id) ≡ is_known l.index.insts l.insts id
