-- What the index of a module keeps.
use Rattle.std.specs.Prelude.{◌≡◌, ℕ, ◌<◌, ◌≤◌, ◌==◌, if◌then◌else◌, Bool, List, length, map, take, Option, unwrap_or}
use Rattle.spv_base.specs.declared.instructions.Inst.{Inst}
use Rattle.spv_ops.specs.Module.{Decoded}
use Rattle.spv_index.specs.Operands.{id_operand}
use Rattle.spv_index.specs.Definitions.{before_functions, decorates, decorates_member, has_result, names_it, number_from, stands_at}
use Rattle.spv_index.specs.Firsts.{slot}
use Rattle.spv_index.specs.declared.positions.Standing.{Standing}
use Rattle.spv_index.specs.Classes.{sets_of}
use Rattle.spv_index.specs.Positions.{standing, stands_of}

-- the id that an OpName names, and 0 for other instructions
abbrev pub name_target : Inst → ℕ
name_target i = if i.op == 5 then unwrap_or (id_operand i 0) 0 else 0

-- the numbers of instructions by what they define, by their words, by what they name and by the keys of decorations, and where the functions
-- begin
pub record IsIndex (m : Decoded) (definitions words names : List (Option ℕ)) (decorated : ℕ → ℕ → Option ℕ) (decorated_member : ℕ → ℕ → ℕ → Option ℕ) (start : ℕ)
    (sets : List (ℕ × Bool)) (standings : List Standing) : Type 0 where
  pub definitions_are : (id : ℕ) → id < 1048576 → slot definitions id ≡ number_from 0 (has_result id) m.insts
  pub words_are : (word : ℕ) → slot words word ≡ number_from 0 (stands_at word) m.insts
  pub names_are : (id : ℕ) → 0 < id → id < 1048576 → slot names id ≡ number_from 0 (names_it id) m.insts
  pub decorations_are : (id kind : ℕ) → decorated id kind ≡ number_from 0 (decorates id kind) m.insts
  pub member_decorations_are : (id member kind : ℕ) → decorated_member id member kind ≡ number_from 0 (decorates_member id member kind) m.insts
  pub start_is : take start m.insts ≡ before_functions m.insts
  pub within : start ≤ length m.insts
  pub sets_are : sets ≡ sets_of m.insts
  pub standings_are : standings ≡ map standing (stands_of m.insts)
