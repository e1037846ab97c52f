-- Frames that can be shown: those of a sound state.
use Rattle.spv_frame.specs.Frames.{Held as Frame}
use Rattle.spv_ids.specs.Below.spv_operands.specs.Shapes.{AreShaped}
use Rattle.spv_plans.specs.Registered.{IsOfFunction}
use Rattle.spv_valid.specs.Acceptance.{Accepted}

-- the frame of a function of the module, whose registers hold values of their types
pub record IsShown (a : Accepted) (f : Frame) : Type 0 where
  pub plan : IsOfFunction a f.plan
  pub shaped : AreShaped a f
