-- The debug instructions of a module, one instruction after another: each is kept with its mark, or nothing of it.
use Rattle.std.proofs.Common.{◌≡◌, ◌⊎◌, ◌∙◌, inl, inr, ℕ, Bool, true, List, [], ◌∷◌, ◌++◌, zip, append-nil, append_assoc, Option, Some, None, refl, sym, ap, ap₂}
use Rattle.std.specs.Option.{option_map_or}
use Rattle.spv_base.proofs.Exports.{guarded}
use Rattle.spv_index.specs.Positions.{Stand}
use Rattle.spv_index.specs.DebugSet.{set_number}
use Rattle.spv_valid.specs.Acceptance.{Accepted}
use Rattle.spv_dbg.specs.declared.insts.DebugInst.{DebugInst}
use Rattle.spv_dbg.specs.declared.marks.Mark.{Mark}
use Rattle.spv_dbg.specs.Forming.{formed_from, is_formed, kept, mark_at, mark_in, mark_of, marked, marks_from}
use Rattle.spv_dbg.specs.Marks.{Marks, debug_inst, measured}
use Rattle.spv_dbg.specs.Tables.{ids_of, kept_if, kept_in}

-- what is kept of a well-formed one
pub mark_is : (m : Accepted) (marks : Marks) (inside : Bool) (d : DebugInst) (k : Mark) → mark_of m marks inside d ≡ Some k
    → (is_formed m marks inside d ≡ true) × (marked d.number (measured m marks d) ≡ k)
unfolding mark_of
mark_is m marks inside d k e =
    let parts = guarded (is_formed m marks inside d) (Some (marked d.number (measured m marks d))) k e in
    (parts.0, (let s = parts.1 in cc))

module _ (m : Accepted) where
  -- what is kept of an instruction, under its id
  abbrev pub entry : Marks → Stand → List (ℕ × Mark)
  entry marks s = option_map_or (λ (k : Mark). (s.inst.id, k) ∷ []) (mark_at m marks s) []

  abbrev pub entries_from : Marks → List Stand → List (ℕ × Mark)
  entries_from marks [] = []
  entries_from marks (s ∷ ss) = entry marks s ++ entries_from (marks ++ mark_at m marks s ∷ []) ss

  -- nothing is kept of an instruction
  pub record IsPassed (marks : Marks) (s : Stand) : Type 0 where
    pub no_mark : mark_at m marks s ≡ None
    pub not_kept : kept m marks s ≡ []

  -- an instruction is a well-formed one of the set
  pub record IsTaken (marks : Marks) (s : Stand) : Type 0 where
    pub number : ℕ
    pub mark : Mark
    pub is_number : set_number m.insts s.inst ≡ Some number
    pub is_marked : mark_in m marks s (debug_inst number s.inst) ≡ Some mark
    pub has_mark : mark_at m marks s ≡ Some mark
    pub is_kept : kept m marks s ≡ debug_inst number s.inst ∷ []

  pub cases : (marks : Marks) (s : Stand) → IsPassed marks s ⊎ IsTaken marks s
  cases marks s = by_number (set_number m.insts s.inst) refl
    where
      by_mark : (number : ℕ) → set_number m.insts s.inst ≡ Some number → (o : Option Mark) → mark_in m marks s (debug_inst number s.inst) ≡ o → IsPassed marks s ⊎ IsTaken marks s
      by_mark number n None e = inl (record { no_mark = rw n e; not_kept = rw (n, e) refl })
      by_mark number n (Some k) e = inr (record { number = number; mark = k; is_number = n; is_marked = e; has_mark = rw n e; is_kept = rw (n, e) refl })

      by_number : (o : Option ℕ) → set_number m.insts s.inst ≡ o → IsPassed marks s ⊎ IsTaken marks s
      by_number None n = inl (record { no_mark = rw n refl; not_kept = rw n refl })
      by_number (Some number) n = by_mark number n (mark_in m marks s (debug_inst number s.inst)) refl

  -- ---- one instruction further

  pub formed_passed : (marks : Marks) (s : Stand) (ss : List Stand) → IsPassed marks s → formed_from m marks (s ∷ ss) ≡ formed_from m (marks ++ None ∷ []) ss
  formed_passed marks s ss p =
      ap (λ (ds : List DebugInst). ds ++ formed_from m (marks ++ mark_at m marks s ∷ []) ss) p.not_kept ∙ ap (λ (o : Option Mark). formed_from m (marks ++ o ∷ []) ss) p.no_mark

  pub formed_taken : (marks : Marks) (s : Stand) (ss : List Stand) (t : IsTaken marks s)
      → formed_from m marks (s ∷ ss) ≡ debug_inst t.number s.inst ∷ formed_from m (marks ++ Some t.mark ∷ []) ss
  formed_taken marks s ss t =
      ap (λ (ds : List DebugInst). ds ++ formed_from m (marks ++ mark_at m marks s ∷ []) ss) t.is_kept
      ∙ ap (λ (o : Option Mark). debug_inst t.number s.inst ∷ formed_from m (marks ++ o ∷ []) ss) t.has_mark

  abbrev with_entry : Marks → Stand → List Stand → Option Mark → List (ℕ × Mark)
  with_entry marks s ss o = option_map_or (λ (k : Mark). (s.inst.id, k) ∷ []) o [] ++ entries_from (marks ++ o ∷ []) ss

  pub entries_passed : (marks : Marks) (s : Stand) (ss : List Stand) → IsPassed marks s → entries_from marks (s ∷ ss) ≡ entries_from (marks ++ None ∷ []) ss
  entries_passed marks s ss p = ap (with_entry marks s ss) p.no_mark

  pub entries_taken : (marks : Marks) (s : Stand) (ss : List Stand) (t : IsTaken marks s)
      → entries_from marks (s ∷ ss) ≡ (s.inst.id, t.mark) ∷ entries_from (marks ++ Some t.mark ∷ []) ss
  entries_taken marks s ss t = ap (with_entry marks s ss) t.has_mark

  -- ---- the marks behind those before, and what is kept under the ids

  abbrev rest_from : Marks → List Stand → Marks
  rest_from marks [] = []
  rest_from marks (s ∷ ss) = mark_at m marks s ∷ rest_from (marks ++ mark_at m marks s ∷ []) ss

  abbrev with_rest : Marks → List Stand → Option Mark → List Mark
  with_rest marks ss o = kept_if o ++ kept_in (rest_from (marks ++ o ∷ []) ss)

  marks_rest : (marks : Marks) (ss : List Stand) → marks_from m marks ss ≡ marks ++ rest_from marks ss
  marks_rest marks [] = sym (append-nil marks)
  marks_rest marks (s ∷ ss) =
      marks_rest (marks ++ mark_at m marks s ∷ []) ss ∙ append_assoc marks (mark_at m marks s ∷ []) (rest_from (marks ++ mark_at m marks s ∷ []) ss)

  zipped : (marks : Marks) (ss : List Stand) → zip (ids_of (formed_from m marks ss)) (kept_in (rest_from marks ss)) ≡ entries_from marks ss
  zipped marks [] = refl
  zipped marks (s ∷ ss) = by_case (λ o. zipped (marks ++ o ∷ []) ss) (cases marks s)
    where
      by_case : ((o : Option Mark) → zip (ids_of (formed_from m (marks ++ o ∷ []) ss)) (kept_in (rest_from (marks ++ o ∷ []) ss)) ≡ entries_from (marks ++ o ∷ []) ss)
          → IsPassed marks s ⊎ IsTaken marks s → zip (ids_of (formed_from m marks (s ∷ ss))) (kept_in (rest_from marks (s ∷ ss))) ≡ entries_from marks (s ∷ ss)
      by_case more (inl p) =
          let kept_is : kept_in (rest_from marks (s ∷ ss)) ≡ kept_in (rest_from (marks ++ None ∷ []) ss) = ap (with_rest marks ss) p.no_mark in
          ap₂ (λ (ds : List DebugInst) (ks : List Mark). zip (ids_of ds) ks) (formed_passed marks s ss p) kept_is ∙ more None ∙ sym (entries_passed marks s ss p)
      by_case more (inr t) =
          let kept_is : kept_in (rest_from marks (s ∷ ss)) ≡ t.mark ∷ kept_in (rest_from (marks ++ Some t.mark ∷ []) ss) = ap (with_rest marks ss) t.has_mark in
          ap₂ (λ (ds : List DebugInst) (ks : List Mark). zip (ids_of ds) ks) (formed_taken marks s ss t) kept_is
          ∙ ap (λ (es : List (ℕ × Mark)). (s.inst.id, t.mark) ∷ es) (more (Some t.mark)) ∙ sym (entries_taken marks s ss t)

  -- the marks of a module under the ids of its debug instructions
  pub marks_zipped : (ss : List Stand) → zip (ids_of (formed_from m [] ss)) (kept_in (marks_from m [] ss)) ≡ entries_from [] ss
  marks_zipped ss = ap (λ (ks : Marks). zip (ids_of (formed_from m [] ss)) (kept_in ks)) (marks_rest [] ss) ∙ zipped [] ss
