-- The debug instructions of a module, what is kept of each well-formed one, and how many bits the values of types have.
use Rattle.std.specs.Prelude.{ℕ, ◌+◌, ◌*◌, ◌==◌, Bool, if◌then◌else◌, List, [], ◌∷◌, length, map, drop, max, slice_get, slice_index, unwrap_or, Option, None}
use Rattle.std.specs.Option.{option_and_then, option_map_or}
use Rattle.std.specs.List.{list_any}
use Rattle.spv_base.specs.declared.instructions.Inst.{Inst}
use Rattle.spv_base.specs.declared.instructions.Operand.{Operand}
use Rattle.spv_index.specs.Definitions.{number_of}
use Rattle.spv_index.specs.Operands.{id_in}
use Rattle.spv_valid.specs.Acceptance.{Accepted}
use Rattle.spv_dbg.specs.declared.insts.DebugInst.{DebugInst}
use Rattle.spv_dbg.specs.declared.marks.Mark.{Mark}
use Rattle.spv_dbg.specs.declared.measures.Measure.{Measure}
use Rattle.spv_dbg.specs.Literals.{literal_of}

-- the id that an operand is; one that is none has the number 0, which is no id
abbrev pub id_or_0 : Operand → ℕ
id_or_0 o = unwrap_or (id_in o) 0

-- the ids behind set and number
abbrev pub ids_behind : Inst → List ℕ
ids_behind i = map id_or_0 (drop 2 i.operands)

-- an instruction of the set with its number in it
abbrev pub debug_inst : ℕ → Inst → DebugInst
debug_inst number i = record { word = i.word; number = number; id = i.id; operands = ids_behind i }

-- ---- earlier debug instructions, where each instruction of the module so far has a mark if it is a well-formed one

abbrev pub Marks : Type 0
Marks = List (Option Mark)

-- the mark of the instruction that defines an id, where it is among these
unfoldable pub known : Accepted → Marks → ℕ → Option Mark
known m marks id = option_and_then (λ n. unwrap_or (slice_get marks n) None) (number_of m.insts id)

abbrev pub is_one_of : List ℕ → ℕ → Bool
is_one_of numbers n = list_any (λ k. k == n) numbers

-- ---- bits and nesting, by the numbers of constants and by what is kept of earlier debug instructions

abbrev pub nothing : Measure
nothing = record { bits = 0; nesting = 0 }

abbrev pub measure_in : Mark → Measure
measure_in k = record { bits = k.bits; nesting = k.nesting }

module _ (literal : ℕ → Option ℕ) where
  abbrev pub count_of : ℕ → ℕ
  count_of id = unwrap_or (literal id) 0

  -- the product of some Counts
  abbrev pub product : List ℕ → ℕ
  product [] = 1
  product (id ∷ ids) = count_of id * product ids

-- what a Member has; one that is no TypeMember (11) is skipped
abbrev pub member_in : Mark → Measure
member_in k = if k.number == 11 then measure_in k else nothing

module _ (kept : ℕ → Option Mark) where
  -- those of an earlier type
  abbrev pub part : ℕ → Measure
  part id = option_map_or measure_in (kept id) nothing

  abbrev pub member : ℕ → Measure
  member id = option_map_or member_in (kept id) nothing

  -- the sum of the bits of some Members, and the greatest of their nestings
  abbrev pub members : List ℕ → Measure
  members [] = nothing
  members (id ∷ ids) = record {
    bits = (member id).bits + (members ids).bits;
    nesting = max (member id).nesting (members ids).nesting;
  }

-- a type over another one, so many times
abbrev pub over : ℕ → ℕ → Measure → Measure
over times deeper base = record { bits = base.bits * times; nesting = base.nesting + deeper }

-- By the numbers of the instructions: TypeBasic (2), TypePointer (3), TypeQualifier (4), TypeArray (5), TypeVector (6), Typedef (7), TypeFunction (8),
-- TypeEnum (9), TypeComposite (10), TypeMember (11, that of its Type), TypeMatrix (108) and InfoNone (0). No other is a type.
unfoldable pub measure_of : (ℕ → Option ℕ) → (ℕ → Option Mark) → ℕ → List ℕ → Measure
measure_of literal kept number ids =
    if number == 2 then record { bits = count_of literal (slice_index ids 1); nesting = 1 }
    else if is_one_of (0 ∷ 3 ∷ 8 ∷ []) number then record { bits = 0; nesting = 1 }
    else if number == 4 then over 1 1 (part kept (slice_index ids 0))
    else if number == 5 then over (product literal (drop 1 ids)) (length (drop 1 ids)) (part kept (slice_index ids 0))
    else if is_one_of (6 ∷ 108 ∷ []) number then over (count_of literal (slice_index ids 1)) 1 (part kept (slice_index ids 0))
    else if is_one_of (7 ∷ 9 ∷ []) number then over 1 1 (part kept (slice_index ids 1))
    else if number == 10 then over 1 1 (members kept (drop 9 ids))
    else if number == 11 then part kept (slice_index ids 1)
    else nothing

-- those of a debug instruction of a module, behind instructions with these marks
abbrev pub measured : Accepted → Marks → DebugInst → Measure
measured m marks d = measure_of (literal_of m) (known m marks) d.number d.operands
