-- What is read off the debug instructions of a module: the well-formed ones, and what their operands stand for.
use Rattle.std.specs.Prelude.{ℕ, Bool, false, ◌==◌, if◌then◌else◌, List, [], ◌∷◌, ◌++◌, map, position, slice_index, unwrap_or, find, zip, Option, Some, None}
use Rattle.std.specs.Option.{option_and_then, option_map, option_map_or}
use Rattle.std.specs.List.{flat_map}
use Rattle.spv_base.specs.Entries.{reads}
use Rattle.spv_base.specs.declared.instructions.Inst.{Inst}
use Rattle.spv_index.specs.Classes.{is_label}
use Rattle.spv_index.specs.Definitions.{result_type}
use Rattle.spv_index.specs.Positions.{Stand, in_block, stands_of}
use Rattle.spv_types.specs.Rules.{is_scalar}
use Rattle.spv_types.specs.Types.{form_of}
use Rattle.spv_consts.specs.Table.{Row}
use Rattle.spv_valid.specs.Acceptance.{Accepted}
use Rattle.spv_dbg.specs.declared.constants.Constant.{Constant}
use Rattle.spv_dbg.specs.declared.insts.DebugInst.{DebugInst}
use Rattle.spv_dbg.specs.declared.marks.Mark.{Mark}
use Rattle.spv_dbg.specs.Literals.{number_of_row, text_in}
use Rattle.spv_dbg.specs.Marks.{Marks, ids_behind}
use Rattle.spv_dbg.specs.Sources.{debug_sources, op_sources_in, source_of}
use Rattle.spv_dbg.specs.Forming.{formed_from, malformed_from, marks_from}

pub record Tables : Type 0 where
  pub insts : List DebugInst  -- the well-formed debug instructions, in the order of the module
  pub marks : List (ℕ × Mark)  -- what is kept of each of them, under its id: its number, and the bits and the nesting of a type
  pub ignored : ℕ  -- how many debug instructions are malformed
  pub strings : List (ℕ × List ℕ)  -- each OpString
  pub constants : List (ℕ × Constant)  -- each constant
  pub scalars : List (ℕ × Bool)  -- for the word of each debug instruction in insts, whether its second operand is the id of a scalar
  pub inlined : List (ℕ × ℕ)  -- for the word of each instruction, the InlinedAt that holds there, or 0
  pub sources : List (ℕ × List ℕ)  -- the texts of source files, each with the id of the OpString that names its file

-- ---- strings and constants

abbrev pub string_entry : Inst → List (ℕ × List ℕ)
string_entry i = option_map_or (λ text. (i.id, text) ∷ []) (text_in i) []

abbrev pub strings_of : List Inst → List (ℕ × List ℕ)
strings_of insts = flat_map string_entry insts

-- a constant with its number, where it is an integer of 32 bits
abbrev pub constant_in : Accepted → Row → Constant
constant_in m row = record { ty = row.ty; cells = row.cells; number = number_of_row m.types row }

abbrev pub constant_entry : Accepted → Inst → List (ℕ × Constant)
constant_entry m i = option_map_or (λ row. (i.id, constant_in m row) ∷ []) (reads i.id m.constants) []

abbrev pub constants_of : Accepted → List (ℕ × Constant)
constants_of m = flat_map (constant_entry m) m.insts

-- ---- the InlinedAt that holds at an instruction, read off the block before it

-- what a well-formed Scope (23) or NoScope (24) sets: the second operand of a Scope, and 0 where there is none
abbrev pub set_by : Option Mark → Inst → Option ℕ
set_by None i = None
set_by (Some k) i = if k.number == 23 then Some (slice_index (ids_behind i) 1) else if k.number == 24 then Some 0 else None

-- the instructions with their marks
abbrev pub paired : List Stand → Marks → List (Stand × Option Mark)
paired [] marks = []
paired (s ∷ ss) [] = []
paired (s ∷ ss) (k ∷ ks) = (s, k) ∷ paired ss ks

-- what holds behind an instruction, where an InlinedAt or none (0) holds before it
abbrev pub behind : Stand × Option Mark → ℕ → ℕ
behind p before = if is_label p.0.class then 0 else unwrap_or (set_by p.1 p.0.inst) before

-- what holds behind these instructions, of which the last stands first, back to the label of the block
abbrev pub in_force : List (Stand × Option Mark) → ℕ
in_force [] = 0
in_force (p ∷ ps) = behind p (in_force ps)

-- what holds at each of these instructions, where those before them, the last one first, are known
abbrev pub inlined_from : List (Stand × Option Mark) → List (Stand × Option Mark) → List (ℕ × ℕ)
inlined_from before [] = []
inlined_from before (p ∷ ps) = (p.0.inst.word, if in_block p.0.position.stage then in_force before else 0) ∷ inlined_from (p ∷ before) ps

-- ---- what is kept of the well-formed ones

abbrev pub kept_if : Option Mark → List Mark
kept_if None = []
kept_if (Some k) = k ∷ []

abbrev pub kept_in : Marks → List Mark
kept_in marks = flat_map kept_if marks

-- ---- scalars

-- an id is that of a Boolean or an integer, which are scalars (SPIR-V 1.6 section 2.2.1)
abbrev pub is_scalar_id : Accepted → ℕ → Bool
is_scalar_id m id = is_scalar (option_and_then (form_of m.types) (result_type m.insts id))

abbrev pub scalar_entry : Accepted → DebugInst → ℕ × Bool
scalar_entry m d = (d.word, is_scalar_id m (slice_index d.operands 1))

-- ---- all of them

unfoldable pub marks_of : Accepted → Marks
marks_of m = marks_from m [] (stands_of m.insts)

unfoldable pub inlined_of : Accepted → List (ℕ × ℕ)
inlined_of m = inlined_from [] (paired (stands_of m.insts) (marks_of m))

unfoldable pub insts_of : Accepted → List DebugInst
insts_of m = formed_from m [] (stands_of m.insts)

unfoldable pub ignored_of : Accepted → ℕ
ignored_of m = malformed_from m [] (stands_of m.insts)

abbrev pub sources_of : Accepted → List (ℕ × List ℕ)
sources_of m = debug_sources (strings_of m.insts) (insts_of m) ++ op_sources_in m.insts

abbrev pub ids_of : List DebugInst → List ℕ
ids_of insts = map (λ d. d.id) insts

abbrev pub scalars_of : Accepted → List (ℕ × Bool)
scalars_of m = map (scalar_entry m) (insts_of m)

unfoldable pub tables_of : Accepted → Tables
tables_of m = record {
  insts = insts_of m;
  marks = zip (ids_of (insts_of m)) (kept_in (marks_of m));
  ignored = ignored_of m;
  strings = strings_of m.insts;
  constants = constants_of m;
  scalars = scalars_of m;
  inlined = inlined_of m;
  sources = sources_of m;
}

-- ---- look-ups

-- the debug instruction with an id
abbrev pub with_id : Tables → ℕ → Option DebugInst
with_id t id = find (λ (d : DebugInst). d.id == id) t.insts

-- its number among the well-formed ones
abbrev pub number_in : Tables → ℕ → Option ℕ
number_in t id = position (λ (d : DebugInst). d.id == id) t.insts

-- how many bits the values of the type with an id have, or those of the Type of the TypeMember with it; 0 where it is neither
abbrev pub bits_in : Tables → ℕ → Option ℕ
bits_in t id = option_map (λ (k : Mark). k.bits) (reads id t.marks)

-- the debug instruction at a word
abbrev pub at_word : Tables → ℕ → Option DebugInst
at_word t word = find (λ (d : DebugInst). d.word == word) t.insts

-- the row of the constant with an id
abbrev pub row_in : Constant → Row
row_in c = record { ty = c.ty; cells = c.cells }

-- the number of the 32-bit integer constant with an id
abbrev pub number_of : Tables → ℕ → Option ℕ
number_of t id = option_and_then (λ (c : Constant). c.number) (reads id t.constants)

-- the second operand of the debug instruction at a word is the id of a scalar
abbrev pub names_scalar : Tables → ℕ → Bool
names_scalar t word = unwrap_or (reads word t.scalars) false

-- the InlinedAt that holds at a word, and 0 where there is none
abbrev pub inlined_at : Tables → ℕ → ℕ
inlined_at t word = unwrap_or (reads word t.inlined) 0

-- the text of the file with a name
abbrev pub text_of_file : Tables → List ℕ → Option (List ℕ)
text_of_file t file = source_of t.strings t.sources file
