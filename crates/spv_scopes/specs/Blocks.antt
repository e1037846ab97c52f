-- The instructions of a block before one of them, the last one first (SPIR-V 1.6 section 2.4), and the debug instructions among them.
use Rattle.std.specs.Prelude.{if◌then◌else◌, List, [], ◌∷◌}
use Rattle.std.specs.List.{filter_map}
use Rattle.spv_base.specs.declared.instructions.Inst.{Inst}
use Rattle.spv_index.specs.Classes.{is_label}
use Rattle.spv_index.specs.Positions.{Stand}
use Rattle.spv_dbg.specs.declared.insts.DebugInst.{DebugInst}
use Rattle.spv_dbg.specs.Tables.{Tables, at_word}

-- those back to the OpLabel of the block, where those of the module are given, the last one first
abbrev pub block_back : List Stand → List Inst
block_back [] = []
block_back (s ∷ before) = if is_label s.class then [] else s.inst ∷ block_back before

-- the well-formed debug instructions among some instructions
abbrev pub records_in : Tables → List Inst → List DebugInst
records_in t insts = filter_map (λ i. at_word t i.word) insts
