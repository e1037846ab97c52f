-- The lines, scopes and inlined calls of a module.
use Rattle.spv_valid.specs.Acceptance.{Accepted}
use Rattle.spv_dbg.specs.Tables.{Tables}
use Rattle.spv_scopes.specs.Heads.{Heads, heads_of}
use Rattle.spv_scopes.specs.Spots.{Spots, spots_of}

pub record LineTable : Type 0 where
  pub spots : Spots  -- for the word of each instruction in a block, its place and those of the calls that were inlined around it
  pub heads : Heads  -- for the word of each line head, its line

abbrev pub lines_of : Accepted → Tables → LineTable
lines_of m t = record { spots = spots_of m t; heads = heads_of m t (spots_of m t) }
