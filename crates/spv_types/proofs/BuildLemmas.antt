-- The types and the refusals, one instruction after another.
use Rattle.std.proofs.Common.{◌≡◌, ◌∙◌, ℕ, ◌+◌, ◌<◌, ◌≤◌, Bool, true, false, List, [], ◌∷◌, ◌++◌, length, get_or, take, drop, drop-cons, drop_of_length-le, take-append-drop, append_assoc, append-nil, add-one, refl, sym, ap, Ok, Err, Option, Some, None}
use Rattle.std.specs.Prelude.{if◌then◌else◌}
use Rattle.std.proofs.lemmas.List.{take_more}
use Rattle.spv_base.specs.declared.instructions.Inst.{Inst}
use Rattle.spv_base.specs.declared.causes.Refusal.{Refusal}
use Rattle.spv_index.specs.Definitions.{before_functions}
use Rattle.spv_types.specs.declared.forms.Form.{Form}
use Rattle.spv_types.specs.Types.{Types}
use Rattle.spv_types.specs.Typing.{defined_form, types_in, with_form}
use Rattle.spv_types.specs.Rules.{keeps_other, keeps_rules}
use Rattle.spv_types.specs.Build.{type_breaches, type_code, types_of}

pub before_is : (insts read : List Inst) (start : ℕ) → read ≡ insts → take start insts ≡ before_functions insts → take start read ≡ before_functions insts
before_is insts read start e h = ap (take start) e ∙ h

-- ---- the types

pub types_push : (all is : List Inst) (i : Inst) → types_in all (is ++ i ∷ []) ≡ with_form (types_in all is) i.id (defined_form all i)
unfolding types_in
types_push all [] i = one (types_in all []) i.id (defined_form all i)
  where
    one : (ts : Types) (id : ℕ) (o : Option Form) → with_form [] id o ++ [] ≡ with_form [] id o
    one ts id o = append-nil (with_form [] id o)
types_push all (x ∷ is) i = rw (types_push all is i) (moved (with_form [] x.id (defined_form all x)) (types_in all is) i.id (defined_form all i))
  where
    moved : (us ts : Types) (id : ℕ) (o : Option Form) → us ++ with_form ts id o ≡ with_form (us ++ ts) id o
    moved us ts id None = refl
    moved us ts id (Some f) = sym (append_assoc us ts ((id, f) ∷ []))

pub types_none : (all : List Inst) → [] ≡ types_in all []
unfolding types_in
types_none all = refl

pub types_next : (all is : List Inst) (k : ℕ) (i : Inst) → k < length is → i ≡ get_or is k i → types_in all (take (k + 1) is) ≡ with_form (types_in all (take k is)) i.id (defined_form all i)
types_next all is k i l e = rw (take_more is k i l, ← e) (types_push all (take k is) i)

-- ---- the refusals

breaches_at : (all is : List Inst) (k : ℕ) (i : Inst) → k < length is → i ≡ get_or is k i
    → type_breaches all (take k is) (drop k is) ≡ (if keeps_rules all (types_in all (take k is)) i then [] else record { code = type_code; word = i.word } ∷ []) ++ type_breaches all (take (k + 1) is) (drop (k + 1) is)
unfolding type_breaches
breaches_at all is k i l e = rw (drop-cons is k i l, ← e, take_more is k i l, ← e, add-one) refl

pub breaches_kept : (all is : List Inst) (k : ℕ) (i : Inst) → k < length is → i ≡ get_or is k i → true ≡ keeps_other all (types_in all (take k is)) i (defined_form all i) → type_breaches all (take k is) (drop k is) ≡ type_breaches all (take (k + 1) is) (drop (k + 1) is)
unfolding keeps_rules
breaches_kept all is k i l e h = breaches_at all is k i l e ∙ rw (← h) refl

pub breaches_broken : (all is : List Inst) (k : ℕ) (i : Inst) → k < length is → i ≡ get_or is k i → false ≡ keeps_other all (types_in all (take k is)) i (defined_form all i) → type_breaches all (take k is) (drop k is) ≡ record { code = type_code; word = i.word } ∷ type_breaches all (take (k + 1) is) (drop (k + 1) is)
unfolding keeps_rules
breaches_broken all is k i l e h = breaches_at all is k i l e ∙ rw (← h) refl

pub types_refused : (insts is : List Inst) (r : Refusal) (rs : List Refusal) → is ≡ before_functions insts → type_breaches insts [] is ≡ r ∷ rs → types_of insts ≡ Err r
unfolding types_of
types_refused insts is r rs e h = rw (← e, h) refl

pub types_built : (insts is : List Inst) (k : ℕ) (ts : Types) → is ≡ before_functions insts → k ≤ length is → length is ≤ k → ts ≡ types_in insts (take k is) → type_breaches insts [] is ≡ type_breaches insts (take k is) (drop k is) → types_of insts ≡ Ok ts
unfolding types_of type_breaches
types_built insts is k ts e b l h n =
    let d = drop_of_length-le is l in
    let t = sym (append-nil (take k is)) ∙ ap (λ (xs : List Inst). take k is ++ xs) (sym d) ∙ take-append-drop k is in
    rw (← e, n, d, h, t) refl

pub kept_by : (all : List Inst) (ts us : Types) (i : Inst) (f : Option Form) (b : Bool) → us ≡ ts → f ≡ defined_form all i → b ≡ keeps_other all us i f → b ≡ keeps_other all ts i (defined_form all i)
kept_by all ts us i f b t e h = rw (← t, ← e) h

pub types_step : (all is : List Inst) (k : ℕ) (i : Inst) (ts : Types) (f : Option Form) → ts ≡ types_in all (take k is) → f ≡ defined_form all i → k < length is → i ≡ get_or is k i → with_form ts i.id f ≡ types_in all (take (k + 1) is)
types_step all is k i ts f t e l g = rw (e, t) (sym (types_next all is k i l g))
