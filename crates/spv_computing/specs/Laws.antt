-- What the executables of an accepted module are.
use Rattle.std.specs.Prelude.{◌≡◌, ◌||◌, Bool, true, List}
use Rattle.std.specs.List.{All}
use Rattle.std.specs.Option.{is_some}
use Rattle.spv_base.specs.Entries.{reads}
use Rattle.spv_base.specs.declared.instructions.Inst.{Inst}
use Rattle.spv_index.specs.Positions.{Stand, stands_of}
use Rattle.spv_plans.specs.Members.{is_stop}
use Rattle.spv_results.specs.Computations.{computation_of}
use Rattle.spv_state.specs.Actions.{atomic_op, action_rows}

-- an instruction that has a row by its name, an atomic, or one that computes a value
abbrev pub is_action : Inst → Bool
is_action i = (is_some (reads i.op action_rows) || is_some (atomic_op i.op)) || is_some (computation_of i)

-- each instruction at which a run stops is one
abbrev pub StopsAreActions : List Inst → Type 0
StopsAreActions insts = All (λ (s : Stand). is_stop s ≡ true → is_action s.inst ≡ true) (stands_of insts)
