use Rattle.spv_results.proofs.SoundTypes.{sound_types}
use Rattle.spv_results.proofs.lanes.types_are_sound.Goals as goal

pub returns : goal.returns
returns c = sound_types c.args.accepted.now c.insts-insts.ensures.valid
