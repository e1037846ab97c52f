-- The refusals of layout and the places of buffers, one instruction after another.
use Rattle.std.proofs.Common.{◌≡◌, ◌∙◌, ℕ, ◌+◌, ◌<◌, ◌≤◌, ◌==◌, ◌&&◌, Bool, true, false, cond, List, [], ◌∷◌, ◌++◌, length, get_or, take, drop, drop-cons, drop_of_length-le, add-one, Result, Ok, Err, refl, sym, subst}
use Rattle.std.specs.Prelude.{◌||◌, if◌then◌else◌}
use Rattle.std.specs.List.{list_any}
use Rattle.std.specs.Ordering.{is_eq}
use Rattle.spv_index.specs.Keys.{pair_cmp}
use Rattle.spv_index.proofs.Exports.{same_pair}
use Rattle.std.proofs.lemmas.List.{take_more}
use Rattle.spv_base.specs.declared.causes.Refusal.{Refusal}
use Rattle.spv_base.specs.declared.instructions.Inst.{Inst}
use Rattle.spv_types.specs.Types.{Types}
use Rattle.spv_types.specs.Build.{unless_refused}
use Rattle.spv_types.specs.InterfaceBlocks.{breach, is_at, is_taken, keeps_layout, module_breaches, nothing}

-- ---- the refusals

breaches_at : (all : List Inst) (ts : Types) (is : List Inst) (n : ℕ) (i : Inst) → n < length is → i ≡ get_or is n i
    → module_breaches all ts (take n is) (drop n is) ≡ (if keeps_layout all ts (take n is) i then [] else breach i ∷ []) ++ module_breaches all ts (take (n + 1) is) (drop (n + 1) is)
unfolding module_breaches
breaches_at all ts is n i l e = rw (drop-cons is n i l, ← e, take_more is n i l, ← e, add-one) refl

pub layout_refused : (all : List Inst) (ts : Types) (is : List Inst) (n : ℕ) (i : Inst) → n < length is → i ≡ get_or is n i → false ≡ keeps_layout all ts (take n is) i → module_breaches all ts [] is ≡ module_breaches all ts (take n is) (drop n is) → unless_refused nothing (module_breaches all ts [] is) ≡ Err (breach i)
layout_refused all ts is n i l e t h = rw (h, breaches_at all ts is n i l e, ← t) refl

pub layout_kept : (all : List Inst) (ts : Types) (is : List Inst) (n : ℕ) (i : Inst) → n < length is → i ≡ get_or is n i → true ≡ keeps_layout all ts (take n is) i → module_breaches all ts [] is ≡ module_breaches all ts (take n is) (drop n is) → module_breaches all ts [] is ≡ module_breaches all ts (take (n + 1) is) (drop (n + 1) is)
layout_kept all ts is n i l e t h = h ∙ breaches_at all ts is n i l e ∙ rw (← t) refl

pub layout_done : (all : List Inst) (ts : Types) (is : List Inst) (n : ℕ) → length is ≤ n → module_breaches all ts [] is ≡ module_breaches all ts (take n is) (drop n is) → unless_refused nothing (module_breaches all ts [] is) ≡ Ok nothing
unfolding module_breaches
layout_done all ts is n l h = rw (h, drop_of_length-le is l) refl

-- the refusals of the whole list
pub layout_whole : (all is : List Inst) (ts : Types) (r : Result (Unit {0}) Refusal) → is ≡ all → unless_refused nothing (module_breaches all ts [] is) ≡ r → unless_refused nothing (module_breaches all ts [] all) ≡ r
layout_whole all is ts r e h = subst (λ (xs : List Inst). unless_refused nothing (module_breaches all ts [] xs) ≡ r) e h

-- ---- the places of buffers

pub place_put : (set binding a b : ℕ) (new old : Bool) → new ≡ cond (is_eq (pair_cmp (set, binding) (a, b))) true old → new ≡ (old || (set == a && binding == b))
place_put set binding a b new old h = h ∙ rw (same_pair set binding a b) (by_test (set == a && binding == b) old)
  where
    by_test : (t o : Bool) → cond t true o ≡ (o || t)
    by_test true true = refl
    by_test true false = refl
    by_test false true = refl
    by_test false false = refl

pub taken_none : (all : List Inst) (set binding : ℕ) → false ≡ is_taken all [] set binding
unfolding is_taken
taken_none all set binding = refl

any_push : (p : Inst → Bool) (xs : List Inst) (x : Inst) → list_any p (xs ++ x ∷ []) ≡ (list_any p xs || p x)
any_push p [] x = last (p x)
  where
    last : (b : Bool) → (b || false) ≡ (false || b)
    last true = refl
    last false = refl
any_push p (y ∷ xs) x = rw (any_push p xs x) (joined (p y) (list_any p xs) (p x))
  where
    joined : (a b c : Bool) → (a || (b || c)) ≡ ((a || b) || c)
    joined true b c = refl
    joined false b c = refl

pub taken_next : (all is : List Inst) (k : ℕ) (x : Inst) (set binding : ℕ) → k < length is → x ≡ get_or is k x → (is_taken all (take k is) set binding || is_at all set binding x) ≡ is_taken all (take (k + 1) is) set binding
unfolding is_taken
taken_next all is k x set binding l e = rw (take_more is k x l, ← e) (sym (any_push (is_at all set binding) (take k is) x))
