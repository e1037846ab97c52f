-- The stack of an invocation's calls: frames by depth, the entry point's first and the top frame last.
use Rattle.std.specs.Prelude.{ℕ, ◌-◌, List, length, Option, slice_get}
use Rattle.spv_base.specs.Entries.{change}
use Rattle.spv_frame.specs.Frames.{Held}

-- frames, and how many there is room for
pub record Stacked : Type 0 where
  pub frames : List Held
  pub room : ℕ

abbrev pub top : List Held → Option Held
top fs = slice_get fs (length fs - 1)

-- a change of the top frame alone
abbrev pub on_top : (Held → Held) → List Held → List Held
on_top f fs = change (length fs - 1) f fs
