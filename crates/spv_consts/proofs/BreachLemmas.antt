-- The breaches of some instructions are those of each, by the state behind the ones before it.
use Rattle.std.proofs.Common.{◌≡◌, ◌∙◌, List, [], ◌∷◌, ◌++◌, refl, sym, ap}
use Rattle.std.specs.List.{flat_map}
use Rattle.spv_base.specs.declared.causes.Refusal.{Refusal}
use Rattle.spv_base.specs.declared.instructions.Inst.{Inst}
use Rattle.spv_consts.specs.Breaches.{breaches_behind, breaches_of_each, with_earlier}
use Rattle.spv_consts.specs.Context.{Context}
use Rattle.spv_consts.specs.State.{State}
use Rattle.spv_consts.specs.Steps.{breaches_at, breaches_from, after_one, after_all}

walked_push : (m : Context) (s : State) (is : List Inst) (i : Inst) → after_all m s (is ++ i ∷ []) ≡ after_one m (after_all m s is) i
unfolding after_all
walked_push m s [] i = refl
walked_push m s (j ∷ is) i = walked_push m (after_one m s j) is i

each_behind : (m : Context) (s : State) (earlier is : List Inst) → breaches_from m (after_all m s earlier) is ≡ flat_map (breaches_behind m s) (with_earlier earlier is)
unfolding breaches_from
each_behind m s earlier [] = refl
each_behind m s earlier (i ∷ is) =
    ap (λ (t : State). breaches_at m (after_all m s earlier) i ++ breaches_from m t is) (sym (walked_push m s earlier i))
    ∙ ap (λ (rs : List Refusal). breaches_at m (after_all m s earlier) i ++ rs) (each_behind m s (earlier ++ i ∷ []) is)

pub of_each : (m : Context) (s : State) (is : List Inst) → breaches_from m s is ≡ breaches_of_each m s is
unfolding after_all
of_each m s is = each_behind m s [] is
