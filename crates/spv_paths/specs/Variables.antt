-- The variables that are seen from a scope (NonSemantic.Shader.DebugInfo.100, this project's profile): its own and those of the scopes around it, outward
-- by Parents to its Function, and then the globals.
use Rattle.std.specs.Prelude.{ℕ, zero, suc, ◌==◌, ◌&&◌, Bool, List, [], ◌∷◌, ◌++◌, length, filter, find, flat_map, map, slice_index, Option}
use Rattle.std.specs.Option.{option_map_or}
use Rattle.spv_dbg.specs.declared.insts.DebugInst.{DebugInst}
use Rattle.spv_dbg.specs.Tables.{Tables, ids_of, with_id}
use Rattle.spv_parts.specs.Composites.{is_named}
use Rattle.spv_scopes.specs.Scopes.{parent_in}

-- ---- scopes outward

-- a scope and those around it, at most so many
abbrev pub scopes_within : ℕ → Tables → ℕ → List ℕ
scopes_within zero t scope = []
scopes_within (suc n) t scope = option_map_or (λ (d : DebugInst). scope ∷ scopes_within n t (parent_in d)) (with_id t scope) []

-- All of them, to its Function, which has no Parent that is followed. Each stands behind its Parent, so there are no more than debug instructions.
-- There are none where the scope is 0, which is no id.
abbrev pub scopes : Tables → ℕ → List ℕ
scopes t scope = scopes_within (length t.insts) t scope

-- ---- variables, in the order of the module

-- LocalVariable (26): Name, Type, Source, Line, Column, Parent
abbrev pub is_local_of : ℕ → DebugInst → Bool
is_local_of scope d = d.number == 26 && slice_index d.operands 5 == scope

-- those whose Parent a scope is
abbrev pub locals_of : Tables → ℕ → List ℕ
locals_of t scope = ids_of (filter (is_local_of scope) t.insts)

-- those that are seen from a scope: its own first, then those of the scope around it, to its Function
abbrev pub locals : Tables → ℕ → List ℕ
locals t scope = flat_map (locals_of t) (scopes t scope)

-- GlobalVariable (18)
abbrev pub globals : Tables → List ℕ
globals t = ids_of (filter (λ (d : DebugInst). d.number == 18) t.insts)

-- the variable that a name names where a scope is shown: the first with this name of those that are seen from it, and then of the globals
abbrev pub variable_named : Tables → ℕ → List ℕ → Option ℕ
variable_named t scope name = find (is_named t name) (locals t scope ++ globals t)

-- ---- the variables of a module as they are kept

pub record Variables : Type 0 where
  pub locals : List (ℕ × ℕ)  -- each LocalVariable, after its Parent
  pub globals : List ℕ

abbrev pub local_entry : DebugInst → ℕ × ℕ
local_entry d = (slice_index d.operands 5, d.id)

abbrev pub local_entries : List DebugInst → List (ℕ × ℕ)
local_entries insts = map local_entry (filter (λ (d : DebugInst). d.number == 26) insts)

abbrev pub variables_of : Tables → Variables
variables_of t = record { locals = local_entries t.insts; globals = globals t }

-- those after a Parent
abbrev pub ids_with : List (ℕ × ℕ) → ℕ → List ℕ
ids_with entries scope = map (λ (e : ℕ × ℕ). e.1) (filter (λ (e : ℕ × ℕ). e.0 == scope) entries)
