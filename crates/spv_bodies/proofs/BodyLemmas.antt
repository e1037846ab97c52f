-- The breaches of bodies, one instruction after another.
use Rattle.std.proofs.Common.{◌≡◌, ◌∙◌, ℕ, ◌+◌, ◌-◌, ◌<◌, ◌≤◌, suc, Bool, true, false, List, [], ◌∷◌, ◌++◌, length, get_or, take, drop, drop-cons, drop_of_length-le, add-one, Result, Ok, Err, Some, refl, sym, ap, subst, length-take-le, arith}
use Rattle.std.specs.Prelude.{if◌then◌else◌, ◌==◌}
use Rattle.spv_base.proofs.Exports.{rest_of}
use Rattle.spv_base.specs.Answers.{Answers}
use Rattle.spv_base.specs.declared.causes.Fail.{Fail}
use Rattle.spv_base.specs.declared.causes.Refusal.{Refusal}
use Rattle.spv_base.specs.declared.instructions.Inst.{Inst}
use Rattle.spv_consts.specs.Table.{Constants}
use Rattle.spv_types.specs.Build.{unless_refused}
use Rattle.spv_types.specs.Types.{Types}
use Rattle.spv_index.specs.Definitions.{before_functions}
use Rattle.spv_types.specs.InterfaceBlocks.{nothing}
use Rattle.spv_bodies.specs.declared.within.Within.{Within}
use Rattle.spv_bodies.specs.Context.{Known, known_of}
use Rattle.spv_index.specs.Operands.{id_operand}
use Rattle.spv_bodies.specs.Places.{nowhere, place, placed_from, within_after}
use Rattle.spv_bodies.specs.Bodies.{bodies_of, body_breaches, breach, keeps_body}

-- the breaches of some instructions, of which the first stands in a function
abbrev pub breaches_from : Known → Within → List Inst → List Refusal
breaches_from k w is = body_breaches k (placed_from w is)

body_at : (k : Known) (w : Within) (is : List Inst) (n : ℕ) (i : Inst) → n < length is → i ≡ get_or is n i
    → breaches_from k w (drop n is) ≡ (if keeps_body k (place i w (drop (n + 1) is)) then [] else breach i ∷ []) ++ breaches_from k (within_after w i) (drop (n + 1) is)
body_at k w is n i l e = rw (drop-cons is n i l, ← e, add-one) refl

pub body_refused : (k : Known) (w : Within) (is : List Inst) (n : ℕ) (i : Inst) → n < length is → i ≡ get_or is n i → false ≡ keeps_body k (place i w (take (length is - (n + 1)) (drop (n + 1) is)))
    → breaches_from k nowhere is ≡ breaches_from k w (drop n is) → unless_refused nothing (breaches_from k nowhere is) ≡ Err (breach i)
body_refused k w is n i l e t h = let u = rw (rest_of is (n + 1)) at t in rw (h, body_at k w is n i l e, ← u) refl

pub body_kept : (k : Known) (w : Within) (is : List Inst) (n : ℕ) (i : Inst) → n < length is → i ≡ get_or is n i → true ≡ keeps_body k (place i w (take (length is - (n + 1)) (drop (n + 1) is)))
    → breaches_from k nowhere is ≡ breaches_from k w (drop n is) → breaches_from k nowhere is ≡ breaches_from k (within_after w i) (drop (n + 1) is)
body_kept k w is n i l e t h = let u = rw (rest_of is (n + 1)) at t in h ∙ body_at k w is n i l e ∙ rw (← u) refl

pub body_done : (k : Known) (w : Within) (is : List Inst) (n : ℕ) → length is ≤ n → breaches_from k nowhere is ≡ breaches_from k w (drop n is) → unless_refused nothing (breaches_from k nowhere is) ≡ Ok nothing
body_done k w is n l h = rw (h, drop_of_length-le is l) refl

-- the instructions from the first function on
rest_is : (insts : List Inst) (start : ℕ) → start ≤ length insts → take start insts ≡ before_functions insts → take (length insts - start) (drop start insts) ≡ drop (length (before_functions insts)) insts
rest_is insts start l e = rest_of insts start ∙ rw (ap length (sym e) ∙ length-take-le start insts l) refl

pub bodies_are : (ts : Types) (cs : Constants) (insts others : List Inst) (start : ℕ) (k : Known) (r : Result (Unit {0}) (Fail Refusal)) → k ≡ known_of ts cs insts → others ≡ insts → start ≤ length insts → take start insts ≡ before_functions insts
    → Answers (unless_refused nothing (breaches_from k nowhere (take (length others - start) (drop start others)))) r → Answers (bodies_of ts cs insts) r
unfolding bodies_of
bodies_are ts cs insts others start k r e o l b h =
    let O : List Inst → Type 0 = λ is. Answers (unless_refused nothing (breaches_from k nowhere (take (length is - start) (drop start is)))) r in
    let P : List Inst → Type 0 = λ is. Answers (unless_refused nothing (breaches_from k nowhere is)) r in
    let Q : Known → Type 0 = λ k. Answers (unless_refused nothing (breaches_from k nowhere (drop (length (before_functions insts)) insts))) r in
    subst Q e (subst P (rest_is insts start l b) (subst O o h))

-- no more parameters than instructions came
pub few_after : (w : Within) (i : Inst) (n : ℕ) → w.parameters ≤ n → (within_after w i).parameters ≤ n + 1
few_after w i n h = by_op w i n h (i.op == 54) (i.op == 55)
  where
    by_op : (w : Within) (i : Inst) (n : ℕ) → w.parameters ≤ n → (a b : Bool) → (if a then record { returns = Some i.ty; ty = id_operand i 1; parameters = 0 } else (if b then record w { parameters = suc w.parameters } else w)).parameters ≤ n + 1
    by_op w i n h true b = omega arith
    by_op w i n h false true = omega arith
    by_op w i n h false false = omega arith
