use Rattle.std.proofs.Common.{◌≡◌, ◌∙◌, [], ◌∷◌, OnOk, subst}
use Rattle.spv_base.specs.declared.values.Value.{Value}
use Rattle.spv_effects.proofs.Exports.{leaves_of_lanes}
use Rattle.spv_accesses.proofs.atomics.put.Goals as goal
use Rattle.spv_results.proofs.Exports.{one_lane}

pub of-requires : goal.of-requires
of-requires c = leaves_of_lanes (c.args.cell ∷ [])

pub returns : goal.returns
returns c = subst (λ (v : Value). OnOk c.copied.result (c.copied.new.row ≡ v)) (c.of.ensures ∙ one_lane c.args.cell) c.copied.ensures
