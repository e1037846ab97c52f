-- What is in force at an instruction of a block: the last Scope or NoScope before it in the block, the last debug Line or NoLine, and the last
-- OpLine or OpNoLine (NonSemantic.Shader.DebugInfo.100; SPIR-V 1.6 section 3.42.2).
use Rattle.std.specs.Prelude.{ℕ, ◌==◌, ◌||◌, Bool, if◌then◌else◌, List, slice_index, unwrap_or, find, Option, Some, None}
use Rattle.std.specs.Option.{option_and_then, option_map_or, option_or}
use Rattle.spv_base.specs.declared.instructions.Inst.{Inst}
use Rattle.spv_index.specs.Operands.{id_operand, literal_operand}
use Rattle.spv_index.specs.Positions.{Stand}
use Rattle.spv_dbg.specs.declared.insts.DebugInst.{DebugInst}
use Rattle.spv_dbg.specs.Tables.{Tables, number_of, with_id}
use Rattle.spv_scopes.specs.declared.in_force.InForce.{InForce}
use Rattle.spv_scopes.specs.Blocks.{block_back, records_in}

-- a line of a source file: the id of the OpString with the file's name, and the number of the line
abbrev pub SourceLine : Type 0
SourceLine = ℕ × ℕ

-- ---- Scope (23): Scope, Inlined At; NoScope (24)

abbrev pub sets_scope : DebugInst → Bool
sets_scope d = d.number == 23 || d.number == 24

abbrev pub scope_named : DebugInst → ℕ
scope_named d = if d.number == 23 then slice_index d.operands 0 else 0

-- the scope that the last of them names, and 0 where there is none
abbrev pub scope_in : List DebugInst → ℕ
scope_in back = option_map_or scope_named (find sets_scope back) 0

-- ---- Line (103): Source, Line Start; NoLine (104)

abbrev pub sets_line : DebugInst → Bool
sets_line d = d.number == 103 || d.number == 104

-- the File of the Source (35) with an id
abbrev pub file_of : Tables → ℕ → ℕ
file_of t source = option_map_or (λ (d : DebugInst). slice_index d.operands 0) (with_id t source) 0

-- the number that a literal operand stands for
abbrev pub literal : Tables → ℕ → ℕ
literal t id = unwrap_or (number_of t id) 0

abbrev pub line_named : Tables → DebugInst → Option SourceLine
line_named t d = if d.number == 103 then Some (file_of t (slice_index d.operands 0), literal t (slice_index d.operands 1)) else None

-- the debug Line in force
abbrev pub debug_line_in : Tables → List DebugInst → Option SourceLine
debug_line_in t back = option_and_then (line_named t) (find sets_line back)

-- ---- OpLine (8): File, Line; OpNoLine (317)

abbrev pub sets_op_line : Inst → Bool
sets_op_line i = i.op == 8 || i.op == 317

abbrev pub op_line_named : Inst → Option SourceLine
op_line_named i = if i.op == 8 then Some (unwrap_or (id_operand i 0) 0, unwrap_or (literal_operand i 1) 0) else None

-- the OpLine in force
abbrev pub op_line_in : List Inst → Option SourceLine
op_line_in back = option_and_then op_line_named (find sets_op_line back)

-- ---- all three, where the instructions of the module before one are given, the last one first

abbrev pub in_force : Tables → List Stand → InForce
in_force t before = record {
  scope = scope_in (records_in t (block_back before));
  debug_line = debug_line_in t (records_in t (block_back before));
  op_line = op_line_in (block_back before);
}

-- A line 0 is no line, and has no file.
abbrev pub told : Option SourceLine → SourceLine
told None = (0, 0)
told (Some l) = if l.1 == 0 then (0, 0) else l

-- the line in the source: a debug Line in force wins over an OpLine in force
abbrev pub line_in : InForce → SourceLine
line_in f = told (option_or f.debug_line f.op_line)
