-- The types of a module that keeps the rules of types are sound, one instruction after another.
use Rattle.std.proofs.Common.{◌≡◌, Bool, true, false, List, [], ◌∷◌, ◌++◌, append_assoc, append-nil, Option, Some, None, Ok, refl, subst}
use Rattle.std.specs.Prelude.{if◌then◌else◌}
use Rattle.spv_base.specs.declared.instructions.Inst.{Inst}
use Rattle.spv_base.specs.declared.causes.Refusal.{Refusal}
use Rattle.spv_types.specs.declared.forms.Form.{Form}
use Rattle.spv_types.specs.Types.{Types}
use Rattle.spv_index.specs.Definitions.{before_functions}
use Rattle.spv_types.specs.Typing.{defined_form, types_in, with_form}
use Rattle.spv_types.specs.Rules.{keeps_other, keeps_rules}
use Rattle.spv_types.specs.Build.{type_breaches, types_of, unless_refused}
use Rattle.spv_types.specs.Laws.{AreSound}
use Rattle.spv_types.proofs.BuildLemmas.{types_push}
use Rattle.spv_types.proofs.GrowthLemmas.{sound_push}
use Rattle.spv_types.specs.InterfaceBlocks.{nothing}

-- ---- no breach

pub breach_none : (b : Bool) (r : Refusal) (rs : List Refusal) → (if b then [] else r ∷ []) ++ rs ≡ [] → (b ≡ true) × (rs ≡ [])
breach_none true r rs h = (refl, h)
breach_none false r rs h = cc

pub kept_first : (all before is : List Inst) (i : Inst) → type_breaches all before (i ∷ is) ≡ []
    → (keeps_other all (types_in all before) i (defined_form all i) ≡ true) × (type_breaches all (before ++ i ∷ []) is ≡ [])
unfolding type_breaches keeps_rules
kept_first all before is i h = breach_none (keeps_other all (types_in all before) i (defined_form all i)) _ (type_breaches all (before ++ i ∷ []) is) h

-- ---- soundness

none_sound : AreSound []
none_sound = record {
  kept = λ id f h. absurd cc;
  ordered = λ id index part f h is. absurd cc;
}

pub form_sound : (all : List Inst) (ts : Types) (i : Inst) (o : Option Form) → AreSound ts → keeps_other all ts i o ≡ true → AreSound (with_form ts i.id o)
form_sound all ts i None sound h = sound
form_sound all ts i (Some f) sound h = sound_push ts i.id f sound h

types_sound : (all before is : List Inst) → AreSound (types_in all before) → type_breaches all before is ≡ [] → AreSound (types_in all (before ++ is))
types_sound all before [] sound h = rw (append-nil before) sound
types_sound all before (i ∷ is) sound h =
    let kept = kept_first all before is i h in
    let moved : (before ++ i ∷ []) ++ is ≡ before ++ i ∷ is = append_assoc before (i ∷ []) is in
    let pushed : types_in all (before ++ i ∷ []) ≡ with_form (types_in all before) i.id (defined_form all i) = types_push all before i in
    let one : AreSound (types_in all (before ++ i ∷ [])) = rw pushed (form_sound all (types_in all before) i (defined_form all i) sound kept.0) in
    subst (λ xs. AreSound (types_in all xs)) moved (types_sound all (before ++ i ∷ []) is one kept.1)

accepted : (ts us : Types) (rs : List Refusal) → unless_refused ts rs ≡ Ok us → (rs ≡ []) × (ts ≡ us)
accepted ts us [] h = let same : ts ≡ us = cc in (refl, same)
accepted ts us (r ∷ rs) h = cc

pub accepted_is : (insts : List Inst) (ts : Types) → types_of insts ≡ Ok ts → (type_breaches insts [] (before_functions insts) ≡ []) × (types_in insts (before_functions insts) ≡ ts)
unfolding types_of
accepted_is insts ts h = accepted (types_in insts (before_functions insts)) ts (type_breaches insts [] (before_functions insts)) h

pub no_types : (all : List Inst) → AreSound (types_in all [])
unfolding types_in
no_types all = none_sound

pub accepted_sound : (insts : List Inst) (ts : Types) → types_of insts ≡ Ok ts → AreSound ts
accepted_sound insts ts h =
    let parts = accepted_is insts ts h in
    rw (← parts.1) (types_sound insts [] (before_functions insts) (no_types insts) parts.0)

pub none_refused : (rs : List Refusal) → unless_refused nothing rs ≡ Ok nothing → rs ≡ []
none_refused [] e = refl
none_refused (r ∷ rs) e = absurd (cc)
