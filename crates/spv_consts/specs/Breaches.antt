-- The breaches of the rules and limits of constants, an instruction at a time: of each one by what those before it give.
use Rattle.std.specs.Prelude.{List, [], ◌∷◌, ◌++◌}
use Rattle.std.specs.List.{flat_map}
use Rattle.spv_base.specs.declared.causes.Refusal.{Refusal}
use Rattle.spv_base.specs.declared.instructions.Inst.{Inst}
use Rattle.spv_consts.specs.Context.{Context}
use Rattle.spv_consts.specs.State.{State}
use Rattle.spv_consts.specs.Steps.{breaches_at, after_all}

-- each of some instructions with those before it
abbrev pub with_earlier : List Inst → List Inst → List (List Inst × Inst)
with_earlier earlier [] = []
with_earlier earlier (i ∷ is) = (earlier, i) ∷ with_earlier (earlier ++ i ∷ []) is

-- the breaches of an instruction behind others, by the state behind those
abbrev pub breaches_behind : Context → State → List Inst × Inst → List Refusal
breaches_behind m s p = breaches_at m (after_all m s p.0) p.1

-- those of each
abbrev pub breaches_of_each : Context → State → List Inst → List Refusal
breaches_of_each m s insts = flat_map (breaches_behind m s) (with_earlier [] insts)
