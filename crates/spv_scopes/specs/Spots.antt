-- Where each instruction of a block stands in the source, with the calls that were inlined around it.
use Rattle.std.specs.Prelude.{ℕ, ◌==◌, if◌then◌else◌, List, [], ◌∷◌, ◌++◌, reverse, unwrap_or, Option, Some, None}
use Rattle.spv_base.specs.Entries.{reads}
use Rattle.spv_index.specs.Positions.{Stand, in_block, stands_of}
use Rattle.spv_dbg.specs.declared.insts.DebugInst.{DebugInst}
use Rattle.spv_dbg.specs.Tables.{Tables, inlined_at}
use Rattle.spv_valid.specs.Acceptance.{Accepted}
use Rattle.spv_scopes.specs.declared.in_force.InForce.{InForce}
use Rattle.spv_scopes.specs.declared.places.Place.{Place}
use Rattle.spv_scopes.specs.InForce.{in_force, line_in, SourceLine}
use Rattle.spv_scopes.specs.Scopes.{calls_around, function_around}

-- the place of an instruction, and those of the calls that were inlined around it, from the inner one outward
pub record Spot : Type 0 where
  pub place : Place
  pub calls : List Place

-- for the word of each instruction in a block
abbrev pub Spots : Type 0
Spots = List (ℕ × Spot)

-- a place with what is in force there, where an InlinedAt or none (0) holds
abbrev pub place_of : List DebugInst → InForce → ℕ → Place
place_of back f inlined = record { scope = f.scope; inlined = inlined; function = function_around back f.scope; file = (line_in f).0; line = (line_in f).1 }

-- the debug instructions of a module are given from the last one back, and the instructions before this one likewise
abbrev pub spot_at : Tables → List Stand → Stand → Spot
spot_at t before s = record {
  place = place_of (reverse t.insts) (in_force t before) (inlined_at t s.inst.word);
  calls = calls_around t (reverse t.insts) (inlined_at t s.inst.word);
}

abbrev pub entry_at : Tables → List Stand → Stand → Spots
entry_at t before s = if in_block s.position.stage then (s.inst.word, spot_at t before s) ∷ [] else []

abbrev pub spots_from : Tables → List Stand → List Stand → Spots
spots_from t before [] = []
spots_from t before (s ∷ ss) = entry_at t before s ++ spots_from t (s ∷ before) ss

unfoldable pub spots_of : Accepted → Tables → Spots
spots_of m t = spots_from t [] (stands_of m.insts)

-- ---- look-ups

-- where no instruction of a block stands, there is nothing
abbrev pub nowhere : Spot
nowhere = record { place = record { scope = 0; inlined = 0; function = 0; file = 0; line = 0 }; calls = [] }

abbrev pub spot_in : Spots → ℕ → Spot
spot_in spots word = unwrap_or (reads word spots) nowhere

-- the file and the line of a place, where it has a line
abbrev pub source_line : Place → Option SourceLine
source_line p = if p.line == 0 then None else Some (p.file, p.line)
