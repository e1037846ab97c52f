-- Reading instructions one after the other, as a loop does.
use Rattle.std.proofs.Common.{◌≡◌, ℕ, suc, ◌+◌, ◌<◌, ◌≤◌, List, [], ◌∷◌, ◌++◌, length, get_or, drop, drop-cons, add-one, Result, Ok, Err, refl, sym, ap, ◌∙◌, append_assoc}
use Rattle.std.proofs.lemmas.List.{append-nil, drop_all}
use Rattle.spv_base.specs.Answers.{Answers}
use Rattle.spv_base.specs.declared.causes.Fail.{Fail}
use Rattle.spv_base.specs.declared.causes.Fail.TheVariants.{Refused, NoMemory}
use Rattle.spv_base.specs.declared.causes.Refusal.{Refusal}
use Rattle.spv_base.specs.declared.instructions.Inst.{Inst}
use Rattle.spv_base.specs.declared.instructions.RawInst.{RawInst}
use Rattle.spv_ops.specs.Steps.{◌>>=◌, before}
use Rattle.spv_ops.specs.Reading.{inst_of, insts_of}

abbrev Insts : Type 0
Insts = Result (List Inst) Refusal

regroup : (front : List Inst) (inst : Inst) (read : Insts) → before front (read >>= λ insts. Ok (inst ∷ insts)) ≡ before (front ++ inst ∷ []) read
regroup front inst (Ok insts) = ap (λ (is : List Inst). Ok is) (sym (append_assoc front (inst ∷ []) insts))
regroup front inst (Err e) = refl

-- an instruction that was read
pub goes_on : (front : List Inst) (raws : List RawInst) (i : ℕ) (raw : RawInst) (inst : Inst) (total : Insts)
    → i < length raws → raw ≡ get_or raws i raw → inst_of raw ≡ Ok inst
    → before front (insts_of (drop i raws)) ≡ total → before (front ++ inst ∷ []) (insts_of (drop (i + 1) raws)) ≡ total
unfolding insts_of
goes_on front raws i raw inst total lt is read so_far =
    let step : before front (insts_of (drop i raws)) ≡ before (front ++ inst ∷ []) (insts_of (drop (i + 1) raws))
    = rw (add-one, drop-cons raws i raw lt, ← is, read) (regroup front inst (insts_of (drop (suc i) raws))) in
    sym step ∙ so_far

-- an instruction that was not read
pub ends : (e : Fail Refusal) (front : List Inst) (raws : List RawInst) (i : ℕ) (raw : RawInst) (total : Insts)
    → i < length raws → raw ≡ get_or raws i raw → Answers {T = Inst} (inst_of raw) (Err e)
    → before front (insts_of (drop i raws)) ≡ total → Answers {T = List Inst} total (Err e)
unfolding insts_of
ends NoMemory front raws i raw total lt is read so_far = tt
ends (Refused e) front raws i raw total lt is read so_far =
    let step : before front (insts_of (drop i raws)) ≡ Err e = rw (drop-cons raws i raw lt, ← is, read) refl in
    sym so_far ∙ step

-- after the last one
pub is_done : (front : List Inst) (raws : List RawInst) (i : ℕ) (total : Insts) → length raws ≤ i
    → before front (insts_of (drop i raws)) ≡ total → total ≡ Ok front
unfolding insts_of
is_done front raws i total le so_far =
    let step : before front (insts_of (drop i raws)) ≡ Ok front = rw (drop_all i raws le) (ap (λ (is : List Inst). Ok is) (append-nil front)) in
    sym so_far ∙ step
