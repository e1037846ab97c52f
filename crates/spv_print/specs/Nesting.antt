-- How deep the parts of types are nested, by what is kept of the types.
use Rattle.std.specs.Prelude.{ℕ, ◌+◌, length}
use Rattle.std.specs.Option.{option_map_or}
use Rattle.spv_base.specs.Entries.{reads}
use Rattle.spv_dbg.specs.declared.marks.Mark.{Mark}
use Rattle.spv_dbg.specs.Tables.{Tables}
use Rattle.spv_parts.specs.Parts.{TypePart}

-- the type with an id; what is none is nested 0 deep
abbrev pub type_nesting : Tables → ℕ → ℕ
type_nesting t id = option_map_or (λ (k : Mark). k.nesting) (reads id t.marks) 0

-- an array by some Counts is nested one deeper for each
abbrev pub nesting : Tables → TypePart → ℕ
nesting t p = type_nesting t p.base + length p.counts
