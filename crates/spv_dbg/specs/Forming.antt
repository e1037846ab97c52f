-- Which debug instructions are well-formed: by the table of their kinds, where they stand, and the limits on types. This is this project's profile
-- of NonSemantic.Shader.DebugInfo.100.
use Rattle.std.specs.Prelude.{ℕ, ◌+◌, ◌==◌, ◌&&◌, ◌||◌, not, nat_le, Bool, true, false, if◌then◌else◌, List, [], ◌∷◌, ◌++◌, length, drop, slice_index, Option, Some, None}
use Rattle.std.specs.Option.{is_some, option_and_then, option_map, option_map_or}
use Rattle.std.specs.List.{list_all}
use Rattle.spv_base.specs.Entries.{reads}
use Rattle.spv_base.specs.declared.instructions.Inst.{Inst}
use Rattle.spv_index.specs.Definitions.{defining}
use Rattle.spv_index.specs.Positions.{Stand, in_block}
use Rattle.spv_index.specs.declared.classes.Class.{Class}
use Rattle.spv_index.specs.declared.positions.Position.{Position}
use Rattle.spv_valid.specs.Acceptance.{Accepted}
use Rattle.spv_dbg.specs.declared.insts.DebugInst.{DebugInst}
use Rattle.spv_dbg.specs.declared.kinds.Role.{Role}
use Rattle.spv_dbg.specs.declared.kinds.Role.TheVariants.{Any, Literal, Text, DebugType, Scope, Source, InlinedAt, Local, Variable, Expression, Operation}
use Rattle.spv_dbg.specs.declared.kinds.More.{More}
use Rattle.spv_dbg.specs.declared.kinds.More.TheVariants.{Nothing, Optional, Many, Pairs}
use Rattle.spv_dbg.specs.declared.marks.Mark.{Mark}
use Rattle.spv_dbg.specs.declared.measures.Measure.{Measure}
use Rattle.spv_dbg.specs.Kinds.{in_blocks_alone, kinds, numbers_for, operations}
use Rattle.spv_dbg.specs.Literals.{literal_of, string_of}
use Rattle.spv_dbg.specs.Marks.{Marks, debug_inst, ids_behind, is_one_of, known, measured}
use Rattle.spv_index.specs.DebugSet.{set_number}

-- the OpCode of the Operation with an id, its first operand
abbrev pub opcode_of : Accepted → ℕ → Option ℕ
opcode_of m id = option_and_then (λ i. literal_of m (slice_index (ids_behind i) 0)) (defining m.insts id)

abbrev pub is_fragment : Option ℕ → Bool
is_fragment None = false
is_fragment (Some opcode) = opcode == 9

-- a Fragment (9) stands last in an Expression
abbrev pub fragment_is_last : Accepted → List ℕ → Bool
fragment_is_last m [] = true
fragment_is_last m (id ∷ []) = true
fragment_is_last m (id ∷ next ∷ ids) = not (is_fragment (opcode_of m id)) && fragment_is_last m (next ∷ ids)

-- a type has at most 268,435,456 bits, and is nested at most 64 deep
abbrev pub is_within : Measure → Bool
is_within measure = nat_le measure.bits 268435456 && nat_le measure.nesting 64

-- what is kept of a debug instruction
abbrev pub marked : ℕ → Measure → Mark
marked number measure = record { number = number; bits = measure.bits; nesting = measure.nesting }

module _ (m : Accepted) (marks : Marks) where
  -- an earlier well-formed debug instruction that a role asks for
  abbrev pub leads_to : Role → ℕ → Bool
  leads_to role id = option_map_or (λ (k : Mark). is_one_of (numbers_for role) k.number) (known m marks id) false

  -- an operand is what it has to be
  abbrev pub fits : Role → ℕ → Bool
  fits Any id = true
  fits Literal id = is_some (literal_of m id)
  fits Text id = is_some (string_of m.insts id)
  fits DebugType id = leads_to DebugType id
  fits Scope id = leads_to Scope id
  fits Source id = leads_to Source id
  fits InlinedAt id = leads_to InlinedAt id
  fits Local id = leads_to Local id
  fits Variable id = leads_to Variable id
  fits Expression id = leads_to Expression id
  fits Operation id = leads_to Operation id

  -- each role has an operand, which is what it has to be
  abbrev pub all_fit : List Role → List ℕ → Bool
  all_fit [] ids = true
  all_fit (role ∷ roles) [] = false
  all_fit (role ∷ roles) (id ∷ ids) = fits role id && all_fit roles ids

  -- the pairs are whole, but for a half one at the end, which is not looked at
  abbrev pub pairs_fit : Role → Role → List ℕ → Bool
  pairs_fit first second [] = true
  pairs_fit first second (a ∷ []) = true
  pairs_fit first second (a ∷ b ∷ ids) = (fits first a && fits second b) && pairs_fit first second ids

  -- what stands behind them
  abbrev pub more_fit : More → List ℕ → Bool
  more_fit Nothing ids = true
  more_fit (Optional role) [] = true
  more_fit (Optional role) (id ∷ ids) = fits role id
  more_fit (Many role) ids = list_all (fits role) ids
  more_fit (Pairs first second) ids = pairs_fit first second ids

  -- the operands are those of a kind; what stands past them is not looked at
  abbrev pub operands_fit : List Role × More → List ℕ → Bool
  operands_fit kind ids = all_fit kind.0 ids && more_fit kind.1 (drop (length kind.0) ids)

  -- an Operation of the set has what its OpCode asks, and nothing behind it
  abbrev pub is_operation : List ℕ → Bool
  is_operation [] = false
  is_operation (code ∷ ids) = option_map_or (λ roles. (length ids == length roles) && all_fit roles ids) (option_and_then (λ opcode. reads opcode operations) (literal_of m code)) false

  -- the rules of Operation (30) and Expression (31) alone
  abbrev pub is_exact : ℕ → List ℕ → Bool
  is_exact number ids = if number == 30 then is_operation ids else if number == 31 then fragment_is_last m ids else true

  -- the operands are those of its kind
  unfoldable pub has_operands : ℕ → List ℕ → Bool
  has_operands number ids = option_map_or (λ kind. operands_fit kind ids) (reads number kinds) false

  -- its operands and its place are right, in a block or not
  abbrev pub is_right : Bool → DebugInst → Bool
  is_right inside d = (has_operands d.number d.operands && (inside || not (is_one_of in_blocks_alone d.number))) && is_exact d.number d.operands

  -- a debug instruction is well-formed, in a block or not
  abbrev pub is_formed : Bool → DebugInst → Bool
  is_formed inside d = is_right inside d && is_within (measured m marks d)

  -- what is kept of it
  unfoldable pub mark_of : Bool → DebugInst → Option Mark
  mark_of inside d = if is_formed inside d then Some (marked d.number (measured m marks d)) else None

-- ---- all instructions of a module, where those before have these marks

-- an instruction with where it stands
abbrev pub stood : Position → Class → Inst → Stand
stood position class inst = record { position = position; class = class; inst = inst }

-- it as an instruction of the set, where it is one
abbrev pub debug_at : Accepted → Stand → Option DebugInst
debug_at m s = option_map (λ number. debug_inst number s.inst) (set_number m.insts s.inst)

-- what is kept of an instruction of the set, where it stands
abbrev pub mark_in : Accepted → Marks → Stand → DebugInst → Option Mark
mark_in m marks s d = mark_of m marks (in_block s.position.stage) d

abbrev pub mark_at : Accepted → Marks → Stand → Option Mark
mark_at m marks s = option_and_then (mark_in m marks s) (debug_at m s)

-- their marks
abbrev pub marks_from : Accepted → Marks → List Stand → Marks
marks_from m marks [] = marks
marks_from m marks (s ∷ ss) = marks_from m (marks ++ mark_at m marks s ∷ []) ss

abbrev pub kept_of : Option Mark → DebugInst → List DebugInst
kept_of None d = []
kept_of (Some k) d = d ∷ []

abbrev pub kept : Accepted → Marks → Stand → List DebugInst
kept m marks s = option_map_or (λ d. kept_of (mark_in m marks s d) d) (debug_at m s) []

-- the well-formed debug instructions among them
abbrev pub formed_from : Accepted → Marks → List Stand → List DebugInst
formed_from m marks [] = []
formed_from m marks (s ∷ ss) = kept m marks s ++ formed_from m (marks ++ mark_at m marks s ∷ []) ss

-- a debug instruction without a mark is malformed
abbrev pub lost : Option Mark → ℕ
lost None = 1
lost (Some k) = 0

abbrev pub malformed : Accepted → Marks → Stand → ℕ
malformed m marks s = option_map_or (λ d. lost (mark_in m marks s d)) (debug_at m s) 0

-- how many of them are malformed debug instructions
abbrev pub malformed_from : Accepted → Marks → List Stand → ℕ
malformed_from m marks [] = 0
malformed_from m marks (s ∷ ss) = malformed m marks s + malformed_from m (marks ++ mark_at m marks s ∷ []) ss
