-- A session as this crate's callers say it: its first view, the settings of its kit, the tests of it that are left, the reply to a line,
-- and the steps that a line may take.
pub use Rattle.spv_group.specs.Group.{Held, Undoing, first_group}
pub use Rattle.spv_probe.specs.Kits.{tests_of}
pub use Rattle.spv_session.specs.View.{IsKitOf, Settings, View, Viewing, first_view, first_viewing, tests_at}
pub use Rattle.spv_session.specs.Reply.{line_reply, reply}
pub use Rattle.spv_session.specs.Costs.{cost_by, line_cost, line_kept}
