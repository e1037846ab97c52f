-- The texts of source files: those of Source and SourceContinued of the debug set, and of OpSource and OpSourceContinued (SPIR-V 1.6 section 3.42.2).
use Rattle.std.specs.Prelude.{ℕ, ◌==◌, ◌&&◌, nat_lt, Bool, false, if◌then◌else◌, List, [], ◌∷◌, ◌++◌, length, slice_index, unwrap_or, find, Option, Some, None}
use Rattle.std.specs.Option.{option_map, option_map_or}
use Rattle.std.specs.Str.{bytes_eq}
use Rattle.spv_base.specs.Entries.{reads}
use Rattle.spv_base.specs.declared.instructions.Inst.{Inst}
use Rattle.spv_index.specs.Operands.{id_operand, text_operand}
use Rattle.spv_dbg.specs.declared.insts.DebugInst.{DebugInst}

-- strings by the ids of their OpStrings
abbrev pub Strings : Type 0
Strings = List (ℕ × List ℕ)

-- texts, each with the id of the OpString that names its file
abbrev pub Sources : Type 0
Sources = List (ℕ × List ℕ)

-- ---- Source (35): File, Text; SourceContinued (102): Text

abbrev pub text_of : Strings → ℕ → List ℕ
text_of strings id = unwrap_or (reads id strings) []

abbrev pub continued : Strings → DebugInst → List ℕ
continued strings d = if d.number == 102 then text_of strings (slice_index d.operands 0) else []

-- the Texts of each SourceContinued before the next Source
abbrev pub continuation : Strings → List DebugInst → List ℕ
continuation strings [] = []
continuation strings (d ∷ ds) = if d.number == 35 then [] else continued strings d ++ continuation strings ds

abbrev pub has_text : DebugInst → Bool
has_text d = d.number == 35 && nat_lt 1 (length d.operands)

-- a Source with a Text, before others
abbrev pub source_at : Strings → DebugInst → List DebugInst → Sources
source_at strings d ds = if has_text d then (slice_index d.operands 0, text_of strings (slice_index d.operands 1) ++ continuation strings ds) ∷ [] else []

abbrev pub debug_sources : Strings → List DebugInst → Sources
debug_sources strings [] = []
debug_sources strings (d ∷ ds) = source_at strings d ds ++ debug_sources strings ds

-- ---- OpSource (3): language, version, file, text; OpSourceContinued (2): text

abbrev pub op_continued : Inst → List ℕ
op_continued i = if i.op == 2 then unwrap_or (text_operand i 0) [] else []

-- the texts of each OpSourceContinued before the next OpSource
abbrev pub op_continuation : List Inst → List ℕ
op_continuation [] = []
op_continuation (i ∷ is) = if i.op == 3 then [] else op_continued i ++ op_continuation is

abbrev pub both : Option ℕ → Option (List ℕ) → List ℕ → Sources
both None text more = []
both (Some file) None more = []
both (Some file) (Some text) more = (file, text ++ more) ∷ []

-- an OpSource with a text, before others
abbrev pub op_source_at : Inst → List Inst → Sources
op_source_at i is = if i.op == 3 then both (id_operand i 2) (text_operand i 3) (op_continuation is) else []

abbrev pub op_sources_in : List Inst → Sources
op_sources_in [] = []
op_sources_in (i ∷ is) = op_source_at i is ++ op_sources_in is

-- ---- the text of a file: of the first that has its name, the debug set's before the others

abbrev pub has_name : Strings → List ℕ → ℕ → Bool
has_name strings file id = option_map_or (λ name. bytes_eq name file) (reads id strings) false

abbrev pub source_of : Strings → Sources → List ℕ → Option (List ℕ)
source_of strings sources file = option_map (λ (s : ℕ × List ℕ). s.1) (find (λ (s : ℕ × List ℕ). has_name strings file s.0) sources)
