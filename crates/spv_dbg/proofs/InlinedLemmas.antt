-- What holds at each instruction, carried along from one to the next.
use Rattle.std.proofs.Common.{◌≡◌, ◌∙◌, ℕ, zero, suc, ◌≤◌, List, [], ◌∷◌, ◌++◌, length, drop, append-nil, Option, refl, sym, ap, arith}
use Rattle.std.specs.Prelude.{min, if◌then◌else◌}
use Rattle.spv_index.specs.Positions.{Stand, in_block}
use Rattle.spv_dbg.specs.declared.marks.Mark.{Mark}
use Rattle.spv_dbg.specs.Tables.{behind, in_force, inlined_from, paired}

-- where an InlinedAt or none holds before them
abbrev pub carried : ℕ → List (Stand × Option Mark) → List (ℕ × ℕ)
carried before [] = []
carried before (p ∷ ps) = (p.0.inst.word, if in_block p.0.position.stage then before else 0) ∷ carried (behind p before) ps

pub inlined-carried : (before ps : List (Stand × Option Mark)) → inlined_from before ps ≡ carried (in_force before) ps
inlined-carried before [] = refl
inlined-carried before (p ∷ ps) = ap (λ (es : List (ℕ × ℕ)). (p.0.inst.word, if in_block p.0.position.stage then in_force before else 0) ∷ es) (inlined-carried (p ∷ before) ps)

paired_end : (ss : List Stand) (ks : List (Option Mark)) (n : ℕ) → min (length ss) (length ks) ≤ n → paired (drop n ss) (drop n ks) ≡ []
paired_end [] ks zero le = refl
paired_end [] ks (suc n) le = refl
paired_end (s ∷ ss) [] zero le = refl
paired_end (s ∷ ss) [] (suc n) le = nothing (drop n ss)
  where
    nothing : (xs : List Stand) → paired xs [] ≡ []
    nothing [] = refl
    nothing (x ∷ xs) = refl
paired_end (s ∷ ss) (k ∷ ks) zero le = absurd (omega arith)
paired_end (s ∷ ss) (k ∷ ks) (suc n) le = paired_end ss ks n (omega arith)

-- behind the last one
pub entries_all : (entries : List (ℕ × ℕ)) (before n : ℕ) (ss : List Stand) (ks : List (Option Mark)) → min (length ss) (length ks) ≤ n
    → entries ++ carried before (paired (drop n ss) (drop n ks)) ≡ carried 0 (paired ss ks) → entries ≡ inlined_from [] (paired ss ks)
entries_all entries before n ss ks le e =
    let f = rw (paired_end ss ks n le) at e in
    sym (append-nil entries) ∙ f ∙ sym (inlined-carried [] (paired ss ks))
