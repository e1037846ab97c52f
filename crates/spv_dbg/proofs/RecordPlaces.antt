-- Each debug instruction of a module with what is kept of those before it.
use Rattle.std.proofs.Common.{◌≡◌, ◌≢◌, ◌⊎◌, ◌∙◌, inl, inr, ℕ, zero, suc, ◌+◌, ◌==◌, Bool, true, false, cond, List, [], ◌∷◌, ◌++◌, length, append_assoc, length-append, Option, Some, None, slice_get, unwrap_or, refl, sym, ap, subst, arith}
use Rattle.std.specs.List.{AllByRecursion, AllZip}
use Rattle.std.specs.Option.{option_and_then}
use Rattle.std.proofs.lemmas.Bool.{cases_eq, eq-eqb, ne_eqb}
use Rattle.std.proofs.lemmas.Option.{slice_get_past}
use Rattle.spv_base.proofs.Exports.{last_get}
use Rattle.spv_base.specs.Entries.{reads}
use Rattle.spv_base.specs.Order.{AreDistinct}
use Rattle.spv_base.specs.declared.instructions.Inst.{Inst}
use Rattle.spv_index.specs.Definitions.{is_id, number_of}
use Rattle.spv_index.specs.Positions.{Stand, in_block}
use Rattle.spv_valid.specs.Acceptance.{Accepted}
use Rattle.spv_dbg.specs.declared.insts.DebugInst.{DebugInst}
use Rattle.spv_dbg.specs.declared.marks.Mark.{Mark}
use Rattle.spv_dbg.specs.Forming.{formed_from, mark_of}
use Rattle.spv_dbg.specs.Marks.{Marks, debug_inst, known}
use Rattle.spv_dbg.proofs.RecordFacts.{HasId, number_has_id, own_number}
use Rattle.spv_dbg.proofs.RecordSteps.{IsPassed, IsTaken, cases, entries_from, entries_passed, entries_taken, formed_passed, formed_taken, mark_is}

-- ---- one more mark

slot_other : (ks : Marks) (o : Option Mark) (n : ℕ) → n ≢ length ks → unwrap_or (slice_get (ks ++ o ∷ []) n) None ≡ unwrap_or (slice_get ks n) None
slot_other [] o zero apart = absurd (apart refl)
slot_other [] o (suc n) apart = refl
slot_other (k ∷ ks) o zero apart = refl
slot_other (k ∷ ks) o (suc n) apart = slot_other ks o n (λ e. apart (ap suc e))

slot_none : (ks : Marks) (n : ℕ) → unwrap_or (slice_get (ks ++ None ∷ []) n) None ≡ unwrap_or (slice_get ks n) None
slot_none [] zero = refl
slot_none [] (suc n) = refl
slot_none (k ∷ ks) zero = refl
slot_none (k ∷ ks) (suc n) = slot_none ks n

module _ (m : Accepted) (marks : Marks) (id : ℕ) where
  known_none : known m (marks ++ None ∷ []) id ≡ known m marks id
  unfolding known
  known_none = by_number (number_of m.insts id)
    where
      by_number : (o : Option ℕ) → option_and_then (λ n. unwrap_or (slice_get (marks ++ None ∷ []) n) None) o ≡ option_and_then (λ n. unwrap_or (slice_get marks n) None) o
      by_number None = refl
      by_number (Some n) = slot_none marks n

  known_other : (k : Option Mark) → number_of m.insts id ≢ Some (length marks) → known m (marks ++ k ∷ []) id ≡ known m marks id
  unfolding known
  known_other k apart = by_number (number_of m.insts id) refl
    where
      by_number : (o : Option ℕ) → number_of m.insts id ≡ o
          → option_and_then (λ n. unwrap_or (slice_get (marks ++ k ∷ []) n) None) o ≡ option_and_then (λ n. unwrap_or (slice_get marks n) None) o
      by_number None e = refl
      by_number (Some n) e = slot_other marks k n (λ s. apart (e ∙ ap (λ (j : ℕ). Some j) s))

  known_here : (k : Option Mark) → number_of m.insts id ≡ Some (length marks) → known m (marks ++ k ∷ []) id ≡ k
  unfolding known
  known_here k e = rw e (ap (λ (o : Option (Option Mark)). unwrap_or o None) (last_get marks k))

  pub known_new : number_of m.insts id ≡ Some (length marks) → known m marks id ≡ None
  unfolding known
  known_new e = rw e (ap (λ (o : Option (Option Mark)). unwrap_or o None) (slice_get_past marks (length marks) (omega arith)))

reads_more : (under : List (ℕ × Mark)) (x id : ℕ) (k : Mark) → reads id under ≡ None → x ≡ id → reads id (under ++ (x, k) ∷ []) ≡ Some k
reads_more [] x id k none same = rw (eq-eqb x id same) refl
reads_more (e ∷ es) x id k none same = by_test (e.0 == id) (λ h. reads_more es x id k h same) none
  where
    by_test : (b : Bool) → (reads id es ≡ None → reads id (es ++ (x, k) ∷ []) ≡ Some k) → cond b (Some e.1) (reads id es) ≡ None → cond b (Some e.1) (reads id (es ++ (x, k) ∷ [])) ≡ Some k
    by_test true more h = absurd (cc)
    by_test false more h = more h

reads_other : (under : List (ℕ × Mark)) (x id : ℕ) (k : Mark) → x ≢ id → reads id (under ++ (x, k) ∷ []) ≡ reads id under
reads_other [] x id k apart = rw (ne_eqb x id apart) refl
reads_other (e ∷ es) x id k apart = ap (λ (o : Option Mark). cond (e.0 == id) (Some e.1) o) (reads_other es x id k apart)

-- an instruction whose id no other has
known_more : (m : Accepted) (marks : Marks) (under : List (ℕ × Mark)) (i : Inst) (k : Mark) → slice_get m.insts (length marks) ≡ Some i → number_of m.insts i.id ≡ Some (length marks)
    → ((id : ℕ) → known m marks id ≡ reads id under) → (id : ℕ) → known m (marks ++ Some k ∷ []) id ≡ reads id (under ++ (i.id, k) ∷ [])
known_more m marks under i k at own same id = by_id (cases_eq i.id id)
  where
    by_id : (i.id ≡ id) ⊎ (i.id ≡ id → ⊥) → known m (marks ++ Some k ∷ []) id ≡ reads id (under ++ (i.id, k) ∷ [])
    by_id (inl is) =
        let here : number_of m.insts id ≡ Some (length marks) = ap (number_of m.insts) (sym is) ∙ own in
        known_here m marks id (Some k) here ∙ sym (reads_more under i.id id k (sym (same id) ∙ known_new m marks id here) is)
    by_id (inr apart) =
        known_other m marks id (Some k) (λ e. apart (number_has_id m.insts id (length marks) i e at)) ∙ same id ∙ sym (reads_other under i.id id k apart)

-- ---- what is kept agrees with the debug instructions

abbrev pub Agree : List (ℕ × Mark) → List DebugInst → Type 0
Agree = AllZip (λ (e : ℕ × Mark) (d : DebugInst). (e.0 ≡ d.id) × (e.1.number ≡ d.number))

agree_more : (under : List (ℕ × Mark)) (before : List DebugInst) (e : ℕ × Mark) (d : DebugInst) → Agree under before → e.0 ≡ d.id → e.1.number ≡ d.number
    → Agree (under ++ e ∷ []) (before ++ d ∷ [])
agree_more [] [] e d agree id number = ((id, number), tt)
agree_more [] (x ∷ xs) e d agree id number = absurd agree
agree_more (x ∷ xs) [] e d agree id number = absurd agree
agree_more (x ∷ xs) (y ∷ ys) e d (first, rest) id number = (first, agree_more xs ys e d rest id number)

-- ---- the debug instruction with a number

module _ (m : Accepted) (kept : List (ℕ × Mark)) (insts : List DebugInst) where
  -- a debug instruction with what is kept of those before it
  pub record IsPlaced (n : ℕ) (d : DebugInst) : Type 0 where
    pub marks : Marks
    pub inst : Inst
    pub number : ℕ
    pub is_inst : d ≡ debug_inst number inst
    pub at : slice_get m.insts (length marks) ≡ Some inst
    pub own : number_of m.insts inst.id ≡ Some (length marks)
    pub is_id : is_id inst.id ≡ true
    pub inside : Bool
    pub mark : Mark
    pub is_marked : mark_of m marks inside d ≡ Some mark
    pub before : List DebugInst
    pub later : List DebugInst
    pub insts_are : insts ≡ before ++ d ∷ later
    pub under : List (ℕ × Mark)
    pub more : List (ℕ × Mark)
    pub kept_are : kept ≡ under ++ (d.id, mark) ∷ more
    pub count : length before ≡ n
    pub agree : Agree under before
    pub same : (id : ℕ) → known m marks id ≡ reads id under

  -- these stand in the module behind others, of which there are as many as marks
  abbrev pub StandBehind : Marks → List Stand → Type 0
  StandBehind marks ss = (k : ℕ) (s : Stand) → slice_get ss k ≡ Some s → slice_get m.insts (length marks + k) ≡ Some s.inst

  -- what was kept before some instructions
  pub record IsPassing (marks : Marks) (under : List (ℕ × Mark)) (before : List DebugInst) (ss : List Stand) : Type 0 where
    pub stand : StandBehind marks ss
    pub ids : AllByRecursion (HasId m) ss
    pub agree : Agree under before
    pub same : (id : ℕ) → known m marks id ≡ reads id under
    pub insts_are : insts ≡ before ++ formed_from m marks ss
    pub kept_are : kept ≡ under ++ entries_from m marks ss

  stand_further : (marks : Marks) (o : Option Mark) (s : Stand) (ss : List Stand) → StandBehind marks (s ∷ ss) → StandBehind (marks ++ o ∷ []) ss
  stand_further marks o s ss stand k x at =
      let count : length (marks ++ o ∷ []) + k ≡ length marks + suc k = omega (arith, length-append marks (o ∷ [])) in
      rw count (stand (suc k) x at)

  stand_here : (marks : Marks) (s : Stand) (ss : List Stand) → StandBehind marks (s ∷ ss) → slice_get m.insts (length marks) ≡ Some s.inst
  stand_here marks s ss stand = let none : length marks + 0 ≡ length marks = omega arith in rw none at (stand 0 s refl)

  pass : (marks : Marks) (under : List (ℕ × Mark)) (before : List DebugInst) (s : Stand) (ss : List Stand) → IsPassed m marks s → IsPassing marks under before (s ∷ ss)
      → IsPassing (marks ++ None ∷ []) under before ss
  pass marks under before s ss p is = record {
    stand = stand_further marks None s ss is.stand;
    ids = is.ids.1;
    agree = is.agree;
    same = λ id. known_none m marks id ∙ is.same id;
    insts_are = is.insts_are ∙ ap (λ (ds : List DebugInst). before ++ ds) (formed_passed m marks s ss p);
    kept_are = is.kept_are ∙ ap (λ (es : List (ℕ × Mark)). under ++ es) (entries_passed m marks s ss p);
  }

  module _ (distinct : AreDistinct m.insts) where
    own_here : (marks : Marks) (under : List (ℕ × Mark)) (before : List DebugInst) (s : Stand) (ss : List Stand) (t : IsTaken m marks s) → IsPassing marks under before (s ∷ ss)
        → number_of m.insts s.inst.id ≡ Some (length marks)
    own_here marks under before s ss t is = own_number m.insts (length marks) s.inst distinct (is.ids.0 t.number t.is_number) (stand_here marks s ss is.stand)

    take : (marks : Marks) (under : List (ℕ × Mark)) (before : List DebugInst) (s : Stand) (ss : List Stand) (t : IsTaken m marks s) → IsPassing marks under before (s ∷ ss)
        → IsPassing (marks ++ Some t.mark ∷ []) (under ++ (s.inst.id, t.mark) ∷ []) (before ++ debug_inst t.number s.inst ∷ []) ss
    take marks under before s ss t is =
        let d : DebugInst = debug_inst t.number s.inst in
        let entry : ℕ × Mark = (s.inst.id, t.mark) in record {
          stand = stand_further marks (Some t.mark) s ss is.stand;
          ids = is.ids.1;
          agree = agree_more under before entry d is.agree refl (ap (λ (k : Mark). k.number) (sym (mark_is m marks (in_block s.position.stage) d t.mark t.is_marked).1));
          same = known_more m marks under s.inst t.mark (stand_here marks s ss is.stand) (own_here marks under before s ss t is) is.same;
          insts_are =
              is.insts_are ∙ ap (λ (ds : List DebugInst). before ++ ds) (formed_taken m marks s ss t)
              ∙ sym (append_assoc before (d ∷ []) (formed_from m (marks ++ Some t.mark ∷ []) ss));
          kept_are =
              is.kept_are ∙ ap (λ (es : List (ℕ × Mark)). under ++ es) (entries_taken m marks s ss t)
              ∙ sym (append_assoc under (entry ∷ []) (entries_from m (marks ++ Some t.mark ∷ []) ss));
        }

    placed_here : (marks : Marks) (under : List (ℕ × Mark)) (before : List DebugInst) (s : Stand) (ss : List Stand) (t : IsTaken m marks s) → IsPassing marks under before (s ∷ ss)
        → IsPlaced (length before) (debug_inst t.number s.inst)
    placed_here marks under before s ss t is = record {
      marks = marks;
      inst = s.inst;
      number = t.number;
      is_inst = refl;
      at = stand_here marks s ss is.stand;
      own = own_here marks under before s ss t is;
      is_id = is.ids.0 t.number t.is_number;
      inside = in_block s.position.stage;
      mark = t.mark;
      is_marked = t.is_marked;
      before = before;
      later = formed_from m (marks ++ Some t.mark ∷ []) ss;
      insts_are = is.insts_are ∙ ap (λ (ds : List DebugInst). before ++ ds) (formed_taken m marks s ss t);
      under = under;
      more = entries_from m (marks ++ Some t.mark ∷ []) ss;
      kept_are = is.kept_are ∙ ap (λ (es : List (ℕ × Mark)). under ++ es) (entries_taken m marks s ss t);
      count = refl;
      agree = is.agree;
      same = is.same;
    }

    abbrev Further : Marks → List Stand → Type 0
    Further marks ss = (under : List (ℕ × Mark)) (before : List DebugInst) → IsPassing marks under before ss
        → (n : ℕ) (d : DebugInst) → slice_get (formed_from m marks ss) n ≡ Some d → IsPlaced (length before + n) d

    by_place : (marks : Marks) (under : List (ℕ × Mark)) (before : List DebugInst) (s : Stand) (ss : List Stand) (t : IsTaken m marks s) → IsPassing marks under before (s ∷ ss)
        → Further (marks ++ Some t.mark ∷ []) ss → (n : ℕ) (d : DebugInst) → slice_get (debug_inst t.number s.inst ∷ formed_from m (marks ++ Some t.mark ∷ []) ss) n ≡ Some d
        → IsPlaced (length before + n) d
    by_place marks under before s ss t is more zero d at =
        let here : debug_inst t.number s.inst ≡ d = cc in
        let none : length before + 0 ≡ length before = omega arith in
        rw none (subst (λ (x : DebugInst). IsPlaced (length before) x) here (placed_here marks under before s ss t is))
    by_place marks under before s ss t is more (suc n) d at =
        let count : length (before ++ debug_inst t.number s.inst ∷ []) + n ≡ length before + suc n = omega (arith, length-append before (debug_inst t.number s.inst ∷ [])) in
        rw count at (more (under ++ (s.inst.id, t.mark) ∷ []) (before ++ debug_inst t.number s.inst ∷ []) (take marks under before s ss t is) n d at)

    by_case : (marks : Marks) (under : List (ℕ × Mark)) (before : List DebugInst) (s : Stand) (ss : List Stand) → IsPassing marks under before (s ∷ ss)
        → ((o : Option Mark) → Further (marks ++ o ∷ []) ss) → IsPassed m marks s ⊎ IsTaken m marks s
        → (n : ℕ) (d : DebugInst) → slice_get (formed_from m marks (s ∷ ss)) n ≡ Some d → IsPlaced (length before + n) d
    by_case marks under before s ss is more (inl p) n d at =
        more None under before (pass marks under before s ss p is) n d (sym (ap (λ (ds : List DebugInst). slice_get ds n) (formed_passed m marks s ss p)) ∙ at)
    by_case marks under before s ss is more (inr t) n d at =
        by_place marks under before s ss t is (more (Some t.mark)) n d (sym (ap (λ (ds : List DebugInst). slice_get ds n) (formed_taken m marks s ss t)) ∙ at)

    pub placed : (marks : Marks) (ss : List Stand) → Further marks ss
    placed marks [] under before is n d at = absurd (cc)
    placed marks (s ∷ ss) under before is n d at = by_case marks under before s ss is (λ o. placed (marks ++ o ∷ []) ss) (cases m marks s) n d at
