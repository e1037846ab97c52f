-- Variables, portions and what is named, as the code keeps them. Numbers of bits stop at the greatest of 64 bits there.
use Rattle.std.specs.Prelude.{◌≡◌, ℕ, ◌==◌, List, [], filter, Vec, Result, Ok, Err}
use Rattle.std.specs.BTreeMap as tree
use Rattle.std.specs.BTreeMap.{BTreeMap}
use Rattle.std.specs.Option.{option_map_or}
use Rattle.std.specs.Ordering.{nat_cmp}
use Rattle.std.specs.declared.alloc.Global.{Global}
use Rattle.spv_base.specs.declared.causes.CmdRefusal.{CmdRefusal}
use Rattle.spv_base.specs.Saturation.{saturated}
use Rattle.spv_dbg.specs.declared.insts.DebugInst.{DebugInst}
use Rattle.spv_dbg.specs.Tables.{ids_of}
use Rattle.spv_parts.specs.Kept.{kept_part}
use Rattle.spv_paths.specs.declared.paths.Named as kept
use Rattle.spv_paths.specs.declared.portions.Portion as portion
use Rattle.spv_paths.specs.declared.variables.Read.{Read}
use Rattle.spv_paths.specs.Paths.{Named}
use Rattle.spv_paths.specs.Portions.{Portion}
use Rattle.spv_paths.specs.Variables.{ids_with, local_entries}

-- what a map has under a scope
abbrev pub ids_under : BTreeMap ℕ (Vec ℕ Global) → ℕ → List ℕ
ids_under locals scope = option_map_or (λ ids. ids.items) (tree.get nat_cmp locals scope) []

-- the variables among these debug instructions
pub record IsRead (insts : List DebugInst) (read : Read) : Type 0 where
  pub locals_are : (scope : ℕ) → ids_under read.locals scope ≡ ids_with read.entries.items scope
  pub entries_are : read.entries.items ≡ local_entries insts
  pub globals_are : read.globals.items ≡ ids_of (filter (λ (d : DebugInst). d.number == 18) insts)

abbrev pub kept_portion : portion.Portion → Portion
kept_portion p = record { start = p.start; part = kept_part p.part; last = p.last }

abbrev pub saturated_portion : Portion → Portion
saturated_portion p = record { start = saturated p.start; part = p.part; last = p.last }

abbrev pub kept_named : kept.Named → Named
kept_named n = record { variable = n.variable; is_local = n.is_local; part = kept_part n.part; start = n.start; end = n.end }

abbrev pub saturated_named : Named → Named
saturated_named n = record { variable = n.variable; is_local = n.is_local; part = n.part; start = saturated n.start; end = saturated n.end }

abbrev pub kept_answer : Result kept.Named CmdRefusal → Result Named CmdRefusal
kept_answer (Ok n) = Ok (kept_named n)
kept_answer (Err refusal) = Err refusal

abbrev pub saturated_answer : Result Named CmdRefusal → Result Named CmdRefusal
saturated_answer (Ok n) = Ok (saturated_named n)
saturated_answer (Err refusal) = Err refusal
