-- What is left of an answer that wasn't written whole.
use Rattle.std.specs.Prelude.{◌≡◌, ℕ, ◌<◌, Bool, if◌then◌else◌, List}
use Rattle.spv_base.specs.Prefix.{IsPrefixOf, IsProperPrefixOf}
use Rattle.spv_session.specs.declared.session.Next.{Next}
use Rattle.spv_session.specs.declared.session.Next.TheVariants.{Go, Quit}
use Rattle.spv_loop.specs.declared.status.Stop.{Stop}
use Rattle.spv_loop.specs.declared.status.Stop.TheVariants as stop
use Rattle.spv_loop.specs.declared.status.Status.{Status}
use Rattle.spv_loop.specs.declared.status.Status.TheVariants.{WriteFault, NoMemory}

-- whether a command ends the session
abbrev pub next_of : Bool → Next
next_of b = if b then Quit else Go

-- what was written of the text that is due when a call stops
abbrev pub StopSays : Stop → List ℕ → List ℕ → Type 0
StopSays stop.WriteFault written due = IsProperPrefixOf written due
StopSays stop.NoMemory written due = IsPrefixOf written due

-- a write fault is told exactly where the sink's count rose
abbrev pub StopCounts : Stop → ℕ → ℕ → Type 0
StopCounts stop.WriteFault before now = before < now
StopCounts stop.NoMemory before now = now ≡ before

-- the status for it
abbrev pub status_of : Stop → Status
status_of stop.WriteFault = WriteFault
status_of stop.NoMemory = NoMemory
