-- `of` makes the struct of nothing but a marker, with the value that its caller picks. Assumes `Logic`.
use Rattle.std.proofs.Common.{List, [], ◌∷◌, refl}
use Rattle.std.proofs.raw_atomic.Walks.{proved}
use seplogic.Ra.Ura.{Ura}
use mir.Syntax.{Args, a_type}
use mir.Val.{Val, vstruct, vcons, vnil}
use mir.MapTy.{inst_fn}
use types.Kit.{‵, raw, ◌⊛◌, ◌$◌, ◌∵◌, !, qed, keep, split, suffices, done, move}
use types.Part.{agg}
use types.Run.{enter, returns, and_then, no_more}
use types.ByLocal.{alloc_all, pass_all, free_all, look_at, get, sets}
use types.Logic.{Logic}
use denote.RattleType.{RattleType, owns}
use denote.Laws.{Is, Makes}
use denote.Shadow.{Pure, makes_shadow}
use denote.Param.{param, layouts}
use denote.Signature.{types_at}
use denote.Steps.{nothing, owned}
use denote.Triple.Entry.{alive}
use denote.Triple.Walked.{says, walk_of, ends_at}
use Rattle.spv_base.specs.contracts.ghosts.Ghost.{the_row}
use Rattle.spv_base.specs.contracts.ghosts.Ghost.of as f
use Rattle.spv_base.proofs.ghosts.Ghost.of.Statement.{statement}
use Rattle.spv_base.proofs.ghosts.Ghost.of.Code as code

-- the machine value of the marker, and that of the struct around it
abbrev marker : Val
marker = vstruct vnil

abbrev around : Val
around = vstruct (vcons marker vnil)

abbrev instance : RattleType → Args
instance T = layouts (a_type ∷ []) (T, tt)

-- what the struct owns is no more than facts
pure : (T : RattleType) (x : (the_row (param 0 T)).Denot) (vs : List Val) → Pure ((the_row (param 0 T)).own_val x vs)
pure T x vs = (λ fields. (tt, ((λ marked. (tt, tt)), tt)), tt)

makes : {M : Type 1} {𝓤 : Ura M} (𝓛 : Logic 𝓤) (T : RattleType) → Makes 𝓛 (the_row (param 0 T)) (Is (the_row (param 0 T)))
makes 𝓛 T x vs p = makes_shadow 𝓛 ((the_row (param 0 T)).own_val x vs) (pure T x vs) p

pub of_spec : {M : Type 1} → statement M
of_spec 𝓤 𝓛 𝓜 𝓡 wired T laws =
    let c = f.clauses T 𝓛 𝓜.mem 𝓡.returns in let W = walk_of 𝓛 (f.ended T) tt c in
    proved 𝓛 (f.ended T) tt c 𝓜 𝓡 tt
    (f.Key.name (instance T)) (inst_fn (instance T) code.function) (code.unfolded 𝓤 𝓛.H 𝓜 𝓡 wired (T, tt))
    (λ κs. tt) (λ κs. tt) (λ κs qs bounds a n are.
    let y : W.Ghost = ((κs, qs, bounds, a, tt), n) in
    let made : (the_row (param 0 T)).Denot = record { of = record {}; value = n } in
    qed 𝓛 ((raw (alive 𝓛 (f.signature T) κs qs) ⊛ ‵ (owns (types_at (f.signature T).params κs) a tt)) ∷ raw ((c κs a).requires n) ∷ []) ∵
    split ! $ keep ! (0 ∷ []) $ enter ! _ _ _ _ _ $ alloc_all ! (λ l. pass_all ! refl tt $
    sets ! (agg ! (no_more !)) refl (tt, tt) $
    sets ! (agg ! (and_then ! (get ! refl) (no_more !))) refl (tt, (tt, tt)) $
    returns ! (look_at ! 0 refl) $ free_all ! refl $
    suffices ! _ (ends_at 𝓛 (f.ended T) tt c y around made tt tt) $ says ! refl $
    owned ! (the_row (param 0 T)) (Is (the_row (param 0 T))) (makes 𝓛 T) made (around ∷ []) (((marker ∷ [], tt), (refl, ((tt, (refl, tt)), tt))), tt) $
    nothing ! $ move ! (2 ∷ 0 ∷ 1 ∷ []) $ done !))
