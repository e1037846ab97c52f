-- The constants of a module, and its types with the lengths of arrays, or the least breach of the rules and limits of constants.
use Rattle.std.specs.Prelude.{ℕ, nat_le, if◌then◌else◌, List, [], ◌++◌, map, Option, Some, None, Result, Ok, Err}
use Rattle.std.specs.List.{flat_map}
use Rattle.std.specs.Option.{option_to_list}
use Rattle.spv_base.specs.declared.instructions.Inst.{Inst}
use Rattle.spv_base.specs.declared.causes.Refusal.{Refusal}
use Rattle.spv_types.specs.Build.{unless_refused}
use Rattle.spv_types.specs.Types.{Types}
use Rattle.spv_index.specs.Definitions.{before_functions}
use Rattle.spv_consts.specs.Table.{Constants}
use Rattle.spv_consts.specs.Overrides.{Numbers, fitting_overrides}
use Rattle.spv_consts.specs.Context.{Context}
use Rattle.spv_consts.specs.State.{State}
use Rattle.spv_consts.specs.SpecIds.{lowest_wrong, wrong_spec_id}
use Rattle.spv_consts.specs.Steps.{breaches_from, after_all}

abbrev pub context_of : Types → List Inst → Numbers → Context
context_of ts insts over = record { all = insts; held = fitting_overrides insts ts over over }

-- before the first instruction
abbrev pub start_of : Types → State
start_of ts = record { types = ts; values = []; known = 0; cells = 0 }

-- the state behind the instructions before the functions
abbrev pub state_of : Types → List Inst → Numbers → State
state_of ts insts over = after_all (context_of ts insts over) (start_of ts) (before_functions insts)

-- the types and the constants of a state
abbrev pub known_of : State → Types × Constants
known_of s = (s.types, s.values)

-- their breaches
abbrev pub front_breaches : Types → List Inst → Numbers → List Refusal
front_breaches ts insts over = breaches_from (context_of ts insts over) (start_of ts) (before_functions insts)

-- the breaches of the rules of SpecId, code 14
abbrev pub spec_id_breaches : List Inst → List Refusal
spec_id_breaches insts = map (λ word. record { code = 14; word = word }) (flat_map (λ i. option_to_list (wrong_spec_id insts i)) insts)

-- all breaches of constants: those of SpecId, and those of each instruction before the functions
abbrev pub constant_breaches : Types → List Inst → Numbers → List Refusal
constant_breaches ts insts over = spec_id_breaches insts ++ front_breaches ts insts over

-- a result, or a breach of the rules of SpecId, where that is not after a refusal
abbrev pub unless_earlier : {T : Type 0} → Option ℕ → Result T Refusal → Result T Refusal
unless_earlier None r = r
unless_earlier (Some word) (Ok x) = Err (record { code = 14; word = word })
unless_earlier (Some word) (Err r) = if nat_le word r.word then Err (record { code = 14; word = word }) else Err r

-- The types with the lengths of arrays and the constants of a module, or the least breach. Constants and types stand before the
-- functions; a SpecId may stand on an instruction in them.
unfoldable pub constants_of : Types → List Inst → Numbers → Result (Types × Constants) Refusal
constants_of ts insts over =
    unless_earlier (lowest_wrong insts insts) (unless_refused (known_of (state_of ts insts over)) (front_breaches ts insts over))
