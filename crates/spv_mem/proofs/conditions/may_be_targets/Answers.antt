use Rattle.std.proofs.Common.{◌≡◌, ◌∙◌, true, sym}
use Rattle.std.proofs.Math.Logic.{∥∥₁_map}
use Rattle.spv_types.specs.Laws.{AreSound}
use Rattle.spv_mem.proofs.ConditionLemmas.{each_may}
use Rattle.spv_mem.proofs.conditions.may_be_targets.Goals as goal

pub returns : goal.returns
returns c =
    let each = λ (h : c.name_targets.result ≡ true). each_may c.args.types.now c.args.targets.now (sym c.name_targets.ensures ∙ h) in
    record {
      tests = c.name_targets.ensures;
      each = each;
      together = λ h is. ∥∥₁_map is (λ (sound : AreSound c.args.types.now). (sound, each h));
    }
