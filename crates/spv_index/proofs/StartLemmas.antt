-- The instructions before the functions, one after another.
use Rattle.std.proofs.Common.{◌≡◌, ◌≢◌, ◌∙◌, ℕ, ◌+◌, ◌<◌, ◌≤◌, ◌==◌, false, List, [], ◌∷◌, ◌++◌, length, get_or, take, drop, drop-cons, drop_of_length-le, append_assoc, append-nil, add-one, refl, sym, ap, arith}
use Rattle.std.specs.Prelude.{if◌then◌else◌}
use Rattle.std.proofs.lemmas.List.{take_more}
use Rattle.spv_base.specs.declared.instructions.Inst.{Inst}
use Rattle.spv_index.specs.Definitions.{before_functions}

before_at : (insts : List Inst) (n : ℕ) (i : Inst) → n < length insts → i ≡ get_or insts n i → before_functions (drop n insts) ≡ (if i.op == 54 then [] else i ∷ before_functions (drop (n + 1) insts))
unfolding before_functions
before_at insts n i l e = rw (drop-cons insts n i l, ← e, add-one) refl

pub before_stop : (insts : List Inst) (n : ℕ) (i : Inst) → n < length insts → i ≡ get_or insts n i → i.op ≡ 54 → before_functions insts ≡ take n insts ++ before_functions (drop n insts) → take n insts ≡ before_functions insts
before_stop insts n i l e s h = sym (h ∙ ap (λ (xs : List Inst). take n insts ++ xs) (rw (before_at insts n i l e, s) refl) ∙ append-nil (take n insts))

pub before_more : (insts : List Inst) (n : ℕ) (i : Inst) → n < length insts → i ≡ get_or insts n i → (i.op ≡ 54 → ⊥) → before_functions insts ≡ take n insts ++ before_functions (drop n insts)
    → before_functions insts ≡ take (n + 1) insts ++ before_functions (drop (n + 1) insts)
before_more insts n i l e s h =
    let f : (i.op == 54) ≡ false = differ i.op 54 s in
    let g : before_functions (drop n insts) ≡ i ∷ before_functions (drop (n + 1) insts) = rw (before_at insts n i l e, f) refl in
    let m : take (n + 1) insts ++ before_functions (drop (n + 1) insts) ≡ take n insts ++ (i ∷ before_functions (drop (n + 1) insts)) = rw (take_more insts n i l, ← e, append_assoc) refl in
    h ∙ ap (λ (xs : List Inst). take n insts ++ xs) g ∙ sym m
  where
    differ : (a b : ℕ) → a ≢ b → (a == b) ≡ false
    differ a b h = grind arith

pub before_all : (insts : List Inst) (n : ℕ) → n ≤ length insts → length insts ≤ n → before_functions insts ≡ take n insts ++ before_functions (drop n insts) → take (length insts) insts ≡ before_functions insts
unfolding before_functions
before_all insts n b l h = let e : length insts ≡ n = omega arith in let d = drop_of_length-le insts l in rw (e, h, d) (sym (append-nil (take n insts)))
