-- The variables that a module declares (SPIR-V 1.6 section 3.42.8, OpVariable).
use Rattle.std.specs.Prelude.{◌≡◌, ◌≢◌, ℕ, ◌==◌, ◌&&◌, ◌||◌, nat_lt, if◌then◌else◌, Bool, true, List, [], ◌∷◌, map, Option, Some, None}
use Rattle.std.specs.List.{AllByRecursion, filter_map}
use Rattle.std.specs.Option.{option_and_then}
use Rattle.spv_base.specs.Entries.{reads}
use Rattle.spv_base.specs.declared.instructions.Inst.{Inst}
use Rattle.spv_index.specs.Operands.{id_operand}
use Rattle.spv_types.specs.Queries.{pointee}
use Rattle.spv_types.specs.Rules.{is_data}
use Rattle.spv_types.specs.Types.{Types, form_of}
use Rattle.spv_types.specs.declared.queries.Pointed.{Pointed}
use Rattle.spv_mem.specs.Targets.{is_counted, may_be_target}
use Rattle.spv_initial.specs.declared.variables.Declared.{Declared}

-- A variable of a storage class may have values of a type: data with one number of leaves, or, in a StorageBuffer (12), a block that
-- ends in a runtime array. In an accepted module each variable may have those of the type that its pointer type points to.
abbrev pub may_hold : Types → ℕ → ℕ → Bool
may_hold ts class id = is_data (form_of ts id) && (is_counted ts id || (class == 12 && may_be_target ts id))

-- the variable of an instruction whose pointer type says its storage class and the type of its value; the operand behind the
-- storage class is its initializer
abbrev pub variable_of : Inst → Pointed → Declared
variable_of i p = record { id = i.id; class = p.class; target = p.target; initializer = id_operand i 1 }

abbrev pub declared_as : Types → Inst → Pointed → Option Declared
declared_as ts i p = if may_hold ts p.class p.target then Some (variable_of i p) else None

-- the variable of an OpVariable (59), which has a result
unfoldable pub declared_by : Types → Inst → Option Declared
declared_by ts i = if i.op == 59 && nat_lt 0 i.id then option_and_then (declared_as ts i) (pointee (form_of ts i.ty)) else None

-- the variables of some instructions, in their order
unfoldable pub declared_in : Types → List Inst → List Declared
declared_in ts insts = filter_map (declared_by ts) insts

-- the id of each variable with the type of its value
abbrev pub targets_of : List Declared → List (ℕ × ℕ)
targets_of ds = map (λ (d : Declared). (d.id, d.target)) ds

-- ---- what those of a module are

-- a variable may have values of its type
abbrev pub Holds : Types → Declared → Type 0
Holds ts d = may_hold ts d.class d.target ≡ true

-- no variable has the id of another
abbrev pub AreApart : List Declared → Type 0
AreApart [] = Unit {0}
AreApart (d ∷ ds) = AllByRecursion (λ (later : Declared). later.id ≢ d.id) ds × AreApart ds

pub record AreDeclared (ts : Types) (ds : List Declared) : Type 0 where
  pub apart : AreApart ds
  pub hold : AllByRecursion (Holds ts) ds

-- the types of their values are those that some targets name for their ids
abbrev pub HaveTargets : List (ℕ × ℕ) → List Declared → Type 0
HaveTargets targets ds = AllByRecursion (λ (d : Declared). reads d.id targets ≡ Some d.target) ds
