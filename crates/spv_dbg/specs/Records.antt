-- The debug records of a module in terms of its finished tables alone: which of them an operand leads to, and the bits and the nesting of a type by those
-- of its parts.
use Rattle.std.specs.Prelude.{◌≡◌, ℕ, ◌<◌, ◌≤◌, true, AllPairs, if◌then◌else◌, nat_lt, slice_get, slice_index, Option, Some, None}
use Rattle.std.specs.Option.{option_and_then}
use Rattle.spv_base.specs.Entries.{reads}
use Rattle.spv_dbg.specs.declared.insts.DebugInst.{DebugInst}
use Rattle.spv_dbg.specs.declared.kinds.Role.{Role}
use Rattle.spv_dbg.specs.declared.marks.Mark.{Mark}
use Rattle.spv_dbg.specs.declared.measures.Measure.{Measure}
use Rattle.spv_dbg.specs.Kinds.{numbers_for}
use Rattle.spv_dbg.specs.Marks.{is_one_of, measure_of}
use Rattle.spv_dbg.specs.Forming.{marked}
use Rattle.spv_dbg.specs.Tables.{Tables, number_in, number_of, with_id}
use Rattle.spv_dbg.specs.Wellformed.{HasOperands}

-- the OpCode of the Operation with an id, its first operand
abbrev pub opcode_in : Tables → ℕ → Option ℕ
opcode_in t id = option_and_then (λ (d : DebugInst). number_of t (slice_index d.operands 0)) (with_id t id)

-- what is kept of the record with an id, where it is among the first n
abbrev pub kept_before : Tables → ℕ → ℕ → Option Mark
kept_before t n id = option_and_then (λ number. if nat_lt number n then reads id t.marks else None) (number_in t id)

-- the bits and the nesting of the record with number n, by what is kept of those before it
abbrev pub measured_in : Tables → ℕ → DebugInst → Measure
measured_in t n d = measure_of (number_of t) (kept_before t n) d.number d.operands

-- the id of a record before the one with number n, which is of a number that a role asks for
pub record Leads (t : Tables) (n : ℕ) (role : Role) (id : ℕ) : Type 0 where
  pub inst : DebugInst
  pub is : with_id t id ≡ Some inst
  pub number : ℕ
  pub is_number : number_in t id ≡ Some number
  pub before : number < n
  pub asked : is_one_of (numbers_for role) inst.number ≡ true

-- the record with number n
pub record IsRecord (t : Tables) (n : ℕ) (d : DebugInst) : Type 0 where
  -- it has an id, which no other has
  pub has_id : 0 < d.id
  pub is_alone : number_in t d.id ≡ Some n
  -- its operands are those of its kind, and lead to records before it, numbers and strings
  pub operands : HasOperands (Leads t n) (number_of t) (λ id. reads id t.strings) (opcode_in t) d
  -- its bits and its nesting are those that its number gives of those of its parts
  pub kept : reads d.id t.marks ≡ Some (marked d.number (measured_in t n d))
  pub bits : (measured_in t n d).bits ≤ 268435456
  pub nesting : (measured_in t n d).nesting ≤ 64

-- the records of a module stand at ascending words, and each is whole in the tables
pub record AreRecords (t : Tables) : Type 0 where
  pub ascend : AllPairs (λ (d e : DebugInst). d.word < e.word) t.insts
  pub each : (n : ℕ) (d : DebugInst) → slice_get t.insts n ≡ Some d → IsRecord t n d
