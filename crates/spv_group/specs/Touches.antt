-- What the event before a position did: whether variables were stored to, how many debug events were passed, and whether a frame came or went.
pub use Rattle.spv_journal.specs.Touches.{HasPassed, IsTouch, but_last, count_before}
pub use Rattle.spv_journal.specs.declared.touches.FrameChange.{FrameChange}
pub use Rattle.spv_journal.specs.declared.touches.FrameChange.TheVariants.{Same, Pushed, Popped}
pub use Rattle.spv_journal.specs.declared.touches.Touch.{Touch}
