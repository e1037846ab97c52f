-- Well-formed debug instructions as a relation of instruction and module: by the row of their kind, where they stand, and the limits on types.
-- What operands have to be is said once, by what leads to a debug instruction, a number and a string: while a module is read these are the marks of the
-- instructions so far, and then its tables.
use Rattle.std.specs.Prelude.{◌≡◌, ◌≢◌, ℕ, ◌≤◌, Bool, true, List, [], ◌∷◌, length, drop, Option, Some}
use Rattle.std.specs.Option.{option_and_then}
use Rattle.spv_base.specs.Entries.{reads}
use Rattle.spv_valid.specs.Acceptance.{Accepted}
use Rattle.spv_dbg.specs.declared.insts.DebugInst.{DebugInst}
use Rattle.spv_dbg.specs.declared.kinds.Role.{Role}
use Rattle.spv_dbg.specs.declared.kinds.Role.TheVariants.{Any, Literal, Text, DebugType, Scope, Source, InlinedAt, Local, Variable, Expression, Operation}
use Rattle.spv_dbg.specs.declared.kinds.More.{More}
use Rattle.spv_dbg.specs.declared.kinds.More.TheVariants.{Nothing, Optional, Many, Pairs}
use Rattle.spv_dbg.specs.declared.marks.Mark.{Mark}
use Rattle.spv_dbg.specs.Kinds.{in_blocks_alone, kinds, numbers_for, operations}
use Rattle.spv_dbg.specs.Literals.{literal_of, string_of}
use Rattle.spv_dbg.specs.Marks.{Marks, is_one_of, known, measured}
use Rattle.spv_dbg.specs.Forming.{opcode_of}

module _ (Names : Role → ℕ → Type 0) (literal : ℕ → Option ℕ) (text : ℕ → Option (List ℕ)) (opcode : ℕ → Option ℕ) where
  abbrev pub Fits : Role → ℕ → Type 0
  Fits Any id = Unit {0}
  Fits Literal id = (n : ℕ) × (literal id ≡ Some n)
  Fits Text id = (bytes : List ℕ) × (text id ≡ Some bytes)
  Fits DebugType id = Names DebugType id
  Fits Scope id = Names Scope id
  Fits Source id = Names Source id
  Fits InlinedAt id = Names InlinedAt id
  Fits Local id = Names Local id
  Fits Variable id = Names Variable id
  Fits Expression id = Names Expression id
  Fits Operation id = Names Operation id

  -- an operand for each role
  abbrev pub AllFit : List Role → List ℕ → Type 0
  AllFit [] ids = Unit {0}
  AllFit (role ∷ roles) [] = ⊥
  AllFit (role ∷ roles) (id ∷ ids) = Fits role id × AllFit roles ids

  abbrev pub EachFits : Role → List ℕ → Type 0
  EachFits role [] = Unit {0}
  EachFits role (id ∷ ids) = Fits role id × EachFits role ids

  abbrev pub PairsFit : Role → Role → List ℕ → Type 0
  PairsFit first second [] = Unit {0}
  PairsFit first second (a ∷ []) = Unit {0}
  PairsFit first second (a ∷ b ∷ ids) = (Fits first a × Fits second b) × PairsFit first second ids

  -- what stands behind them
  abbrev pub MoreFit : More → List ℕ → Type 0
  MoreFit Nothing ids = Unit {0}
  MoreFit (Optional role) [] = Unit {0}
  MoreFit (Optional role) (id ∷ ids) = Fits role id
  MoreFit (Many role) ids = EachFits role ids
  MoreFit (Pairs first second) ids = PairsFit first second ids

  -- what stands behind the OpCode of an Operation is what this asks, no more and no less
  abbrev pub IsOperation : List ℕ → Type 0
  IsOperation [] = ⊥
  IsOperation (code ∷ ids) = (roles : List Role) × (option_and_then (λ number. reads number operations) (literal code) ≡ Some roles) × ((length ids ≡ length roles) × AllFit roles ids)

  -- no Operation of an Expression but the last is a Fragment (9)
  abbrev pub FragmentIsLast : List ℕ → Type 0
  FragmentIsLast [] = Unit {0}
  FragmentIsLast (id ∷ []) = Unit {0}
  FragmentIsLast (id ∷ next ∷ ids) = (opcode id ≢ Some 9) × FragmentIsLast (next ∷ ids)

  -- the operands of a debug instruction are those of its kind; what stands past them is free
  pub record HasOperands (d : DebugInst) : Type 0 where
    pub kind : List Role × More
    pub is_kind : reads d.number kinds ≡ Some kind
    pub operands : AllFit kind.0 d.operands
    pub more : MoreFit kind.1 (drop (length kind.0) d.operands)
    pub operation : d.number ≡ 30 → IsOperation d.operands
    pub expression : d.number ≡ 31 → FragmentIsLast d.operands

module _ (m : Accepted) (marks : Marks) where
  -- the id of an earlier well-formed debug instruction of one of the numbers that a role asks for
  abbrev pub Names : Role → ℕ → Type 0
  Names role id = (k : Mark) × (known m marks id ≡ Some k) × (is_one_of (numbers_for role) k.number ≡ true)

  -- a debug instruction, in a block or not
  pub record IsWellFormed (inside : Bool) (d : DebugInst) : Type 0 where
    pub operands : HasOperands Names (literal_of m) (string_of m.insts) (opcode_of m) d
    -- it stands in a block where it has a meaning there alone
    pub place : is_one_of in_blocks_alone d.number ≡ true → inside ≡ true
    -- a type has at most 268,435,456 bits, and is nested at most 64 deep
    pub bits : (measured m marks d).bits ≤ 268435456
    pub nesting : (measured m marks d).nesting ≤ 64
