-- What stored tables are.
use Rattle.std.specs.Prelude.{◌≡◌, ℕ, List, map, zip}
use Rattle.spv_dbg.specs.declared.tables.DebugTables.TheInside.{Inside}
use Rattle.spv_dbg.specs.Names.{number_from, number_under}
use Rattle.spv_index.specs.Places.{keys_of, places_from}
use Rattle.spv_dbg.specs.Records.{AreRecords}
use Rattle.spv_dbg.specs.Seen.{seen}
use Rattle.spv_dbg.specs.Sources.{has_name}
use Rattle.spv_dbg.specs.Tables.{Tables, ids_of}

abbrev pub view_of : Inside → Tables
view_of x = record { insts = x.insts.items; marks = zip (ids_of x.insts.items) x.marks.items; ignored = x.ignored; strings = x.strings; constants = x.constants; scalars = x.scalars; inlined = x.inlined; sources = map (seen x.strings) x.sources.items }

-- the numbers of the debug instructions stand under their ids and their words, those of the texts under the names of their files;
-- and the debug instructions are records that are whole in the tables
pub record AreTables (x : Inside) : Type 0 where
  pub ids_are : x.by_id ≡ places_from 0 (map (λ d. d.id) x.insts.items)
  pub words_are : x.by_word ≡ places_from 0 (map (λ d. d.word) x.insts.items)
  pub names_are : (file : List ℕ) → number_under x.names file ≡ number_from 0 (has_name x.strings file) (keys_of x.sources.items)
  pub records_are : ∥ AreRecords (view_of x) ∥₁
