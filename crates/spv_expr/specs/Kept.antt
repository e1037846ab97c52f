-- Entries and ranges as the code keeps them. Numbers of bits stop at the greatest of 64 bits there.
use Rattle.std.specs.Prelude.{ℕ, ◌+◌, ◌&&◌, nat_le, nat_lt, Bool, List, Vec, map, reverse, Option, Some, None}
use Rattle.spv_base.specs.Cell.{Cell}
use Rattle.std.specs.declared.alloc.Global.{Global}
use Rattle.std.specs.List.{list_any}
use Rattle.spv_base.specs.Saturation.{saturated}
use Rattle.spv_expr.specs.declared.entries.Entry as kept
use Rattle.spv_expr.specs.declared.entries.Entry.TheVariants.{Number, Whole, Address}
use Rattle.spv_expr.specs.declared.events.Telling.{Telling}
use Rattle.spv_expr.specs.declared.ranges.Range.{Range}
use Rattle.spv_dbg.specs.declared.insts.DebugInst.{DebugInst}
use Rattle.spv_expr.specs.Expressions.{Entry, number, whole, address}

-- ---- entries

abbrev pub kept_entry : kept.Entry → Entry
kept_entry (Number c) = number c
kept_entry (Whole v) = whole v
kept_entry (Address p) = address p.now

abbrev pub number_in : Entry → Option Cell
number_in (number c) = Some c
number_in (whole v) = None
number_in (address p) = None

-- a stack, of which the top is kept last
abbrev pub kept_stack : Vec kept.Entry Global → List Entry
kept_stack entries = map kept_entry (reverse entries.items)

-- ---- ranges of bits

-- where so many bits from one on begin and end
abbrev pub bounds : ℕ × ℕ → ℕ × ℕ
bounds range = (saturated range.0, saturated (range.0 + range.1))

abbrev pub kept_bounds : Range → ℕ × ℕ
kept_bounds r = (r.start, r.end)

abbrev pub is_in : ℕ → Range → Bool
is_in j r = nat_le r.start j && nat_lt j r.end

abbrev pub is_in_any : ℕ → List Range → Bool
is_in_any j rs = list_any (is_in j) rs

-- ---- events with the bits that they cover

abbrev pub kept_telling : Telling → DebugInst × (ℕ × ℕ)
kept_telling x = (x.debug.now, kept_bounds x.range)

abbrev pub saturated_telling : DebugInst × (ℕ × ℕ) → DebugInst × (ℕ × ℕ)
saturated_telling x = (x.0, bounds x.1)
