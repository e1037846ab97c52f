-- A group: a program, the schedule of its invocations, and a position of the run that they give. All that is told of a run follows from
-- these. Beside them stands how far back the group can undo.
use Rattle.std.specs.Prelude.{ℕ, ◌==◌, if◌then◌else◌, List, Option, None, slice_index_or}
use Rattle.spv_base.specs.declared.happenings.EndCause.{EndCause}
use Rattle.spv_base.specs.declared.happenings.Status4.{Status4}
use Rattle.spv_setup.specs.Schedule.{Entries}
use Rattle.spv_valid.specs.Acceptance.{invocations}
use Rattle.spv_statuses.specs.Invocations.{kind}
use Rattle.spv_statuses.specs.declared.invocations.Status.TheVariants.{Finished}
use Rattle.spv_state.specs.Program.{Program}
use Rattle.spv_state.specs.State.{State}
use Rattle.spv_group.specs.History.{window}
use Rattle.spv_group.specs.Run.{run, cause_at, end_of}

pub record Held : Type 0 where
  pub program : Program
  pub schedule : Entries
  pub position : ℕ

abbrev pub first_group : Program → Entries → Held
first_group p schedule = record { program = p; schedule = schedule; position = 0 }

-- the same run at another position
abbrev pub group_at : ℕ → Held → Held
group_at n g = record g { position = n }

abbrev pub entries_in : Held → List ℕ
entries_in g = g.schedule.list

-- how many invocations there are, at each position
abbrev pub invocations_in : Held → ℕ
invocations_in g = invocations g.program.accepted

-- the state at the group's position, by running from the start
abbrev pub state_in : Held → State
state_in g = run g.program (entries_in g) g.position

-- how far an invocation is; one that isn't there counts as finished
abbrev pub status_of : State → ℕ → Status4
status_of s i = kind (slice_index_or s.statuses.list i Finished)

abbrev pub end_in : Held → ℕ
end_in g = end_of g.program (entries_in g)

-- why the run ends here; none where it goes on
abbrev pub end_cause_in : Held → Option EndCause
end_cause_in g = if g.position == end_in g then cause_at g.program (entries_in g) g.position else None

-- ---- what can be undone

-- A group, the least position to which it goes back by undoing, and how many marks and entries of events its journal keeps at most.
pub record Undoing : Type 0 where
  pub group : Held
  pub kept : ℕ
  pub limit : ℕ

abbrev pub first_undoing : Program → Entries → ℕ → Undoing
first_undoing p schedule limit = record { group = first_group p schedule; kept = 0; limit = limit }

-- the least position from which on all events before the group's position fit the limit
abbrev pub window_in : Undoing → ℕ
window_in u = window u.limit u.group.program (entries_in u.group) u.group.position
