-- Breaks: lines of source files, with the places of their heads.
use Rattle.std.specs.Prelude.{ℕ, ◌==◌, Bool, List, length, map, filter, Result, Err, if◌then◌else◌}
use Rattle.std.specs.List.{list_any}
use Rattle.spv_base.specs.declared.causes.CmdRefusal.{CmdRefusal}
use Rattle.spv_stops.specs.declared.breaks.Breakpoint.{Breakpoint}
use Rattle.spv_stops.specs.Stops.{Stops, number_of, next_number}

-- what is due to a new break: C8 where the line has no head, C9 where the list is full, or the next number
abbrev pub break_number : List ℕ → Stops Breakpoint → Result ℕ CmdRefusal
break_number heads breaks = if length heads == 0 then Err (record { code = 8 }) else next_number 64 breaks

abbrev pub has_head : ℕ → ℕ × Breakpoint → Bool
has_head pc stop = list_any (λ head. head == pc) stop.1.heads

-- the numbers of the breaks with this head
abbrev pub hits_at : ℕ → Stops Breakpoint → List ℕ
hits_at pc breaks = map number_of (filter (has_head pc) breaks.0)
