-- Where the memory is read for the bits of a local variable: nothing else of it matters to them.
use Rattle.std.specs.Prelude.{◌≡◌, ℕ, ◌+◌, ◌<◌, Option, ⊤}
use Rattle.std.specs.Option.{option_map}
use Rattle.spv_base.specs.declared.values.Pointer.{Pointer}
use Rattle.spv_dbg.specs.declared.frames.ShownFrame.{ShownFrame}
use Rattle.spv_dbg.specs.Tables.{Tables}
use Rattle.spv_frame.specs.Stacks.{Stacked}
use Rattle.spv_mem.specs.Memory.{Held as Memory, load_of}
use Rattle.spv_types.specs.Rows.{leaves}
use Rattle.spv_expr.specs.declared.sources.Source.{Source}
use Rattle.spv_expr.specs.declared.sources.Source.TheVariants.{Nowhere, At}
use Rattle.spv_expr.specs.Bits.{variable_bit}

-- in two memories a pointer leads to the same leaves, or to nothing
abbrev pub LeadsToSame : Pointer → ℕ → Memory → Memory → Type 0
LeadsToSame p inv m n = option_map leaves (load_of m inv p) ≡ option_map leaves (load_of n inv p)

-- two memories are the same there
abbrev pub ReadsSame : Source → ℕ → Memory → Memory → Type 0
ReadsSame Nowhere inv m n = ⊤
ReadsSame (At p) inv m n = LeadsToSame p.now inv m n

-- so many bits from one on of a variable in a shown frame are the same in two memories that are the same there
abbrev pub IsSource : Tables → Stacked → Option ShownFrame → (variable first count : ℕ) → Source → Type 0
IsSource t s f variable first count source =
    (inv : ℕ) (m n : Memory) → ReadsSame source inv m n → (j : ℕ) → j < count → variable_bit m inv t s f variable (first + j) ≡ variable_bit n inv t s f variable (first + j)
