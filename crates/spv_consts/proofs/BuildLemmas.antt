-- The answer of a call from that of the walk.
use Rattle.std.proofs.Common.{◌≡◌, ℕ, List, Option, Result, refl, subst}
use Rattle.spv_base.specs.Answers.{Answers}
use Rattle.spv_base.specs.declared.causes.Fail.{Fail}
use Rattle.spv_base.specs.declared.causes.Refusal.{Refusal}
use Rattle.spv_base.specs.declared.instructions.Inst.{Inst}
use Rattle.spv_types.specs.Types.{Types}
use Rattle.spv_index.specs.Definitions.{before_functions}
use Rattle.spv_consts.specs.Table.{Constants}
use Rattle.spv_consts.specs.Overrides.{Numbers}
use Rattle.spv_consts.specs.Context.{Context}
use Rattle.spv_consts.specs.State.{State}
use Rattle.spv_consts.specs.SpecIds.{lowest_wrong}
use Rattle.spv_types.specs.Build.{unless_refused}
use Rattle.spv_consts.specs.Steps.{breaches_from, after_all}
use Rattle.spv_consts.specs.Build.{constants_of, context_of, front_breaches, known_of, start_of, state_of, unless_earlier}

pub answer_is : (ts : Types) (insts front : List Inst) (over : Numbers) (m : Context) (s : State) (word : Option ℕ) (outcome result : Result (Types × Constants) (Fail Refusal))
    → m ≡ context_of ts insts over → s ≡ start_of ts → front ≡ before_functions insts → word ≡ lowest_wrong m.all insts → Answers (unless_refused (known_of (after_all m s front)) (breaches_from m s front)) outcome
    → ((due : Result (Types × Constants) Refusal) → Answers due outcome → Answers (unless_earlier word due) result) → Answers (constants_of ts insts over) result
unfolding constants_of
answer_is ts insts front over m s word outcome result a b c d h k =
    let due : unless_earlier word (unless_refused (known_of (after_all m s front)) (breaches_from m s front)) ≡ unless_earlier (lowest_wrong insts insts) (unless_refused (known_of (state_of ts insts over)) (front_breaches ts insts over)) = rw (d, a, b, c) refl in
    let P : Result (Types × Constants) Refusal → Type 0 = λ r. Answers r result in
    subst P due (k (unless_refused (known_of (after_all m s front)) (breaches_from m s front)) h)
