-- The plans of the functions of a module, one after the other.
use Rattle.std.proofs.Common.{◌≡◌, ◌∙◌, ℕ, zero, suc, ◌+◌, ◌≤◌, ◌==◌, true, false, List, [], ◌∷◌, ◌++◌, length, drop, map, append_assoc, append-nil, Some, refl, sym, ap, slice_get, arith}
use Rattle.std.proofs.lemmas.Bool.{eq-eqb}
use Rattle.std.proofs.lemmas.List.{drop_all}
use Rattle.std.specs.List.{AllByRecursion, flat_map}
use Rattle.std.specs.Option.{option_map}
use Rattle.spv_base.specs.declared.instructions.Inst.{Inst}
use Rattle.spv_valid.specs.Below.spv_cfg.specs.Calls.{function_of, functions_of}
use Rattle.spv_valid.specs.Acceptance.{Accepted}
use Rattle.spv_frame.specs.Registers.{Planned}
use Rattle.spv_plans.specs.Plans.{IsPlan}

-- the ids of the functions among some instructions, and from an instruction on
abbrev pub function_ids : List Inst → List ℕ
function_ids insts = map (λ (f : ℕ × ℕ). f.0) (flat_map function_of insts)

abbrev ids_from : List Inst → ℕ → List ℕ
ids_from insts n = function_ids (drop n insts)

-- there is a plan for each function so far
pub record Reading (a : Accepted) (insts : List Inst) (ps : List Planned) (n : ℕ) : Type 0 where
  pub functions : map (λ (p : Planned). p.function) ps ++ ids_from insts n ≡ map (λ (f : ℕ × ℕ). f.0) (functions_of insts)
  pub plans : AllByRecursion (IsPlan a) ps

drop_here : (insts : List Inst) (n : ℕ) (i : Inst) → slice_get insts n ≡ Some i → drop n insts ≡ i ∷ drop (suc n) insts
drop_here [] n i at = absurd (cc)
drop_here (j ∷ is) zero i at = let same : j ≡ i = cc in ap (λ (x : Inst). x ∷ is) same
drop_here (j ∷ is) (suc n) i at = drop_here is n i at

map_push : (ps : List Planned) (p : Planned) → map (λ (q : Planned). q.function) (ps ++ p ∷ []) ≡ map (λ (q : Planned). q.function) ps ++ p.function ∷ []
map_push [] p = refl
map_push (q ∷ ps) p = ap (λ (ks : List ℕ). q.function ∷ ks) (map_push ps p)

all_push : (P : Planned → Type 0) (ps : List Planned) (p : Planned) → AllByRecursion P ps → P p → AllByRecursion P (ps ++ p ∷ [])
all_push P [] p h last = (last, tt)
all_push P (q ∷ ps) p h last = (h.0, all_push P ps p h.1 last)

-- one plan more
pub one_read : (a : Accepted) (insts : List Inst) (ps : List Planned) (n : ℕ) (i : Inst) (p : Planned) → Reading a insts ps n → slice_get insts n ≡ Some i → i.op ≡ 54 → i.id ≡ p.function → IsPlan a p
    → Reading a insts (ps ++ p ∷ []) (n + 1)
one_read a insts ps n i p reading at op id is =
    let next : suc n ≡ n + 1 = omega arith in
    let rest : drop n insts ≡ i ∷ drop (n + 1) insts = drop_here insts n i at ∙ ap (λ (m : ℕ). i ∷ drop m insts) next in
    let test : (i.op == 54) ≡ true = eq-eqb i.op 54 op in
    let own : function_ids (i ∷ drop (n + 1) insts) ≡ i.id ∷ ids_from insts (n + 1) = rw test refl in
    let left : ids_from insts n ≡ p.function ∷ ids_from insts (n + 1) = ap function_ids rest ∙ own ∙ ap (λ (k : ℕ). k ∷ ids_from insts (n + 1)) id in
    record {
      functions =
          ap (λ (ks : List ℕ). ks ++ ids_from insts (n + 1)) (map_push ps p)
          ∙ append_assoc (map (λ (q : Planned). q.function) ps) (p.function ∷ []) (ids_from insts (n + 1))
          ∙ ap (λ (ks : List ℕ). map (λ (q : Planned). q.function) ps ++ ks) (sym left)
          ∙ reading.functions;
      plans = all_push (IsPlan a) ps p reading.plans is;
    }

-- no function there
pub none_there : (a : Accepted) (insts : List Inst) (ps : List Planned) (n : ℕ) (i : Inst) → Reading a insts ps n → slice_get insts n ≡ Some i → (i.op == 54) ≡ false → Reading a insts ps (n + 1)
none_there a insts ps n i reading at test =
    let next : suc n ≡ n + 1 = omega arith in
    let rest : drop n insts ≡ i ∷ drop (n + 1) insts = drop_here insts n i at ∙ ap (λ (m : ℕ). i ∷ drop m insts) next in
    let own : function_ids (i ∷ drop (n + 1) insts) ≡ ids_from insts (n + 1) = rw test refl in
    record {
      functions = ap (λ (ks : List ℕ). map (λ (q : Planned). q.function) ps ++ ks) (sym (ap function_ids rest ∙ own)) ∙ reading.functions;
      plans = reading.plans;
    }

pub all_read : (a : Accepted) (insts : List Inst) (ps : List Planned) (n : ℕ) → Reading a insts ps n → length insts ≤ n → map (λ (p : Planned). p.function) ps ≡ map (λ (f : ℕ × ℕ). f.0) (functions_of insts)
all_read a insts ps n reading past =
    sym (append-nil (map (λ (p : Planned). p.function) ps))
    ∙ ap (λ (ks : List ℕ). map (λ (p : Planned). p.function) ps ++ ks) (sym (ap function_ids (drop_all n insts past)))
    ∙ reading.functions

-- ---- as the code has it

pub id_is : (insts xs : List Inst) (n : ℕ) (i : Inst) (k : ℕ) → xs ≡ insts → slice_get xs n ≡ Some i → option_map (λ (j : Inst). j.id) (slice_get insts n) ≡ Some k → i.id ≡ k
id_is insts xs n i k same at h =
    let there : slice_get insts n ≡ Some i = sym (ap (λ (ys : List Inst). slice_get ys n) same) ∙ at in
    let both : Some i.id ≡ Some k = sym (ap (option_map (λ (j : Inst). j.id)) there) ∙ h in
    cc

pub grown : {X : Type 0} (f : X → Planned) (xs ys : List X) (x : X) (p : Planned) → ys ≡ xs ++ x ∷ [] → f x ≡ p → map f ys ≡ map f xs ++ p ∷ []
grown {X} f xs ys x p is value = ap (map f) is ∙ joined xs ∙ ap (λ (q : Planned). map f xs ++ q ∷ []) value
  where
    joined : (zs : List X) → map f (zs ++ x ∷ []) ≡ map f zs ++ f x ∷ []
    joined [] = refl
    joined (z ∷ zs) = ap (λ (qs : List Planned). f z ∷ qs) (joined zs)
