-- The misfits among some instructions, the constants with SpecIds, and the overrides that hold, one after another.
use Rattle.std.proofs.Common.{◌≡◌, ◌∙◌, ℕ, ◌+◌, ◌<◌, ◌≤◌, Bool, true, false, List, [], ◌∷◌, ◌++◌, ℤ, length, get_or, drop, drop-cons, drop_of_length-le, add-one, append_assoc, append-nil, refl, sym, ap}
use Rattle.std.specs.Prelude.{◌||◌, if◌then◌else◌}
use Rattle.spv_base.specs.declared.instructions.Inst.{Inst}
use Rattle.spv_types.specs.Types.{Types}
use Rattle.spv_consts.specs.Overrides.{Numbers, has_misfit, has_spec_id, fitting_overrides, is_known, is_misfit}

pub misfit_at : (all : List Inst) (ts : Types) (over : Numbers) (insts : List Inst) (k : ℕ) (i : Inst) (id : ℕ) → k < length insts → i ≡ get_or insts k i
    → has_misfit all ts over (drop k insts) id ≡ (is_misfit all ts over id i || has_misfit all ts over (drop (k + 1) insts) id)
unfolding has_misfit
misfit_at all ts over insts k i id l e = rw (drop-cons insts k i l, ← e, add-one) refl

pub misfit_none : (all : List Inst) (ts : Types) (over : Numbers) (insts : List Inst) (k id : ℕ) → length insts ≤ k → has_misfit all ts over (drop k insts) id ≡ false
unfolding has_misfit
misfit_none all ts over insts k id l = rw (drop_of_length-le insts l) refl

pub test_more : (now old same hit rest whole : Bool) → now ≡ (old || same) → same ≡ hit → (old || (hit || rest)) ≡ whole → (now || rest) ≡ whole
test_more now true same hit rest whole e f g = rw e g
test_more now false same hit rest whole e f g = rw (e, f) g

pub test_end : (now rest whole : Bool) → (now || rest) ≡ whole → rest ≡ false → now ≡ whole
test_end true rest whole e f = e
test_end false rest whole e f = sym f ∙ e

held_at : (all : List Inst) (ts : Types) (over numbers : Numbers) (k : ℕ) (o : ℕ × ℤ) → k < length numbers
    → fitting_overrides all ts over (drop k numbers) ≡ (if has_misfit all ts over all (get_or numbers k o).0 then fitting_overrides all ts over (drop (k + 1) numbers) else get_or numbers k o ∷ fitting_overrides all ts over (drop (k + 1) numbers))
unfolding fitting_overrides
held_at all ts over numbers k o l = rw (drop-cons numbers k o l, add-one) refl

pub held_left : (all : List Inst) (ts : Types) (over numbers held : Numbers) (k : ℕ) (o : ℕ × ℤ) → k < length numbers → true ≡ has_misfit all ts over all (get_or numbers k o).0
    → held ++ fitting_overrides all ts over (drop k numbers) ≡ fitting_overrides all ts over numbers → held ++ fitting_overrides all ts over (drop (k + 1) numbers) ≡ fitting_overrides all ts over numbers
held_left all ts over numbers held k o l h g = ap (λ (rest : Numbers). held ++ rest) (sym (held_at all ts over numbers k o l ∙ rw (← h) refl)) ∙ g

pub held_more : (all : List Inst) (ts : Types) (over numbers held now : Numbers) (k : ℕ) (o : ℕ × ℤ) → k < length numbers → false ≡ has_misfit all ts over all (get_or numbers k o).0 → now ≡ held ++ get_or numbers k o ∷ []
    → held ++ fitting_overrides all ts over (drop k numbers) ≡ fitting_overrides all ts over numbers → now ++ fitting_overrides all ts over (drop (k + 1) numbers) ≡ fitting_overrides all ts over numbers
held_more all ts over numbers held now k o l h e g =
    rw (e, append_assoc) (ap (λ (rest : Numbers). held ++ rest) (sym (held_at all ts over numbers k o l ∙ rw (← h) refl)) ∙ g)

pub held_end : (all : List Inst) (ts : Types) (over numbers held : Numbers) (k : ℕ) → length numbers ≤ k → held ++ fitting_overrides all ts over (drop k numbers) ≡ fitting_overrides all ts over numbers → held ≡ fitting_overrides all ts over numbers
unfolding fitting_overrides
held_end all ts over numbers held k l g =
    let none : fitting_overrides all ts over (drop k numbers) ≡ [] = rw (drop_of_length-le numbers l) refl in
    sym (append-nil held) ∙ ap (λ (rest : Numbers). held ++ rest) (sym none) ∙ g

pub known_at : (all insts : List Inst) (k : ℕ) (i : Inst) (id : ℕ) → k < length insts → i ≡ get_or insts k i
    → is_known all (drop k insts) id ≡ (has_spec_id all id i || is_known all (drop (k + 1) insts) id)
unfolding is_known
known_at all insts k i id l e = rw (drop-cons insts k i l, ← e, add-one) refl

pub known_none : (all insts : List Inst) (k id : ℕ) → length insts ≤ k → is_known all (drop k insts) id ≡ false
unfolding is_known
known_none all insts k id l = rw (drop_of_length-le insts l) refl
