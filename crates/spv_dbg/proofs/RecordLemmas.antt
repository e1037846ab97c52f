-- The debug instructions of a module in terms of its finished tables.
use Rattle.std.proofs.Common.{◌≡◌, ◌∙◌, ℕ, suc, ◌+◌, ◌<◌, ◌≤◌, ◌==◌, Bool, true, false, cond, List, [], ◌∷◌, ◌++◌, length, drop, Option, Some, None, refl, sym, ap, arith}
use Rattle.std.specs.Prelude.{find, if◌then◌else◌, nat_lt}
use Rattle.std.specs.List.{position, position_from}
use Rattle.std.specs.Option.{option_and_then}
use Rattle.std.proofs.lemmas.Bool.{eq-eqb, lt-ltb}
use Rattle.std.proofs.lemmas.Iterator.Adapters.{position_from-zero}
use Rattle.spv_base.proofs.Exports.{not_below}
use Rattle.spv_base.specs.Entries.{reads}
use Rattle.spv_dbg.specs.declared.insts.DebugInst.{DebugInst}
use Rattle.spv_dbg.specs.declared.kinds.Role.{Role}
use Rattle.spv_dbg.specs.declared.kinds.Role.TheVariants.{Any, Literal, Text, DebugType, Scope, Source, InlinedAt, Local, Variable, Expression, Operation}
use Rattle.spv_dbg.specs.declared.kinds.More.{More}
use Rattle.spv_dbg.specs.declared.kinds.More.TheVariants.{Nothing, Optional, Many, Pairs}
use Rattle.spv_dbg.specs.declared.marks.Mark.{Mark}
use Rattle.spv_dbg.specs.Wellformed.{AllFit, EachFits, Fits, FragmentIsLast, HasOperands, IsOperation, MoreFit, PairsFit}
use Rattle.spv_dbg.proofs.RecordPlaces.{Agree}

-- ---- what operands have to be, by other leads

module _ (Old New : Role → ℕ → Type 0) (literal number : ℕ → Option ℕ) (string text : ℕ → Option (List ℕ)) (opcode code : ℕ → Option ℕ)
    (names : (role : Role) (id : ℕ) → Old role id → New role id) (literals : (id : ℕ) → literal id ≡ number id)
    (texts : (id : ℕ) (bytes : List ℕ) → string id ≡ Some bytes → text id ≡ Some bytes) (codes : (id : ℕ) → code id ≡ Some 9 → opcode id ≡ Some 9) where
  fits_so : (role : Role) (id : ℕ) → Fits Old literal string opcode role id → Fits New number text code role id
  fits_so Any id h = tt
  fits_so Literal id h = (h.0, sym (literals id) ∙ h.1)
  fits_so Text id h = (h.0, texts id h.0 h.1)
  fits_so DebugType id h = names DebugType id h
  fits_so Scope id h = names Scope id h
  fits_so Source id h = names Source id h
  fits_so InlinedAt id h = names InlinedAt id h
  fits_so Local id h = names Local id h
  fits_so Variable id h = names Variable id h
  fits_so Expression id h = names Expression id h
  fits_so Operation id h = names Operation id h

  all_so : (roles : List Role) (ids : List ℕ) → AllFit Old literal string opcode roles ids → AllFit New number text code roles ids
  all_so [] ids h = tt
  all_so (role ∷ roles) [] h = absurd h
  all_so (role ∷ roles) (id ∷ ids) h = (fits_so role id h.0, all_so roles ids h.1)

  each_so : (role : Role) (ids : List ℕ) → EachFits Old literal string opcode role ids → EachFits New number text code role ids
  each_so role [] h = tt
  each_so role (id ∷ ids) h = (fits_so role id h.0, each_so role ids h.1)

  pairs_so : (first second : Role) (ids : List ℕ) → PairsFit Old literal string opcode first second ids → PairsFit New number text code first second ids
  pairs_so first second [] h = tt
  pairs_so first second (a ∷ []) h = tt
  pairs_so first second (a ∷ b ∷ ids) h = ((fits_so first a h.0.0, fits_so second b h.0.1), pairs_so first second ids h.1)

  more_so : (more : More) (ids : List ℕ) → MoreFit Old literal string opcode more ids → MoreFit New number text code more ids
  more_so Nothing ids h = tt
  more_so (Optional role) [] h = tt
  more_so (Optional role) (id ∷ ids) h = fits_so role id h
  more_so (Many role) ids h = each_so role ids h
  more_so (Pairs first second) ids h = pairs_so first second ids h

  operation_so : (ids : List ℕ) → IsOperation Old literal string opcode ids → IsOperation New number text code ids
  operation_so [] h = absurd h
  operation_so (id ∷ ids) h = (h.0, rw (← literals id) h.1, (h.2.0, all_so h.0 ids h.2.1))

  last_so : (ids : List ℕ) → FragmentIsLast Old literal string opcode ids → FragmentIsLast New number text code ids
  last_so [] h = tt
  last_so (id ∷ []) h = tt
  last_so (id ∷ next ∷ ids) h = ((λ e. h.0 (codes id e)), last_so (next ∷ ids) h.1)

  pub operands_so : (d : DebugInst) → HasOperands Old literal string opcode d → HasOperands New number text code d
  operands_so d h = record {
    kind = h.kind;
    is_kind = h.is_kind;
    operands = all_so h.kind.0 d.operands h.operands;
    more = more_so h.kind.1 (drop (length h.kind.0) d.operands) h.more;
    operation = λ e. operation_so d.operands (h.operation e);
    expression = λ e. last_so d.operands (h.expression e);
  }

-- ---- where a debug instruction is found

module _ (id : ℕ) where
  abbrev has : DebugInst → Bool
  has d = d.id == id

  position_above : (k : ℕ) (insts : List DebugInst) (j : ℕ) → position_from has k insts ≡ Some j → k ≤ j
  position_above k [] j e = absurd (cc)
  position_above k (d ∷ ds) j e = by_test (has d) (position_above (k + 1) ds j) e
    where
      by_test : (t : Bool) → (position_from has (k + 1) ds ≡ Some j → k + 1 ≤ j) → cond t (Some k) (position_from has (k + 1) ds) ≡ Some j → k ≤ j
      by_test true more e = let same : k ≡ j = cc in omega arith
      by_test false more e = let above : k + 1 ≤ j = more e in omega arith

  -- among others before it
  pub record IsBefore (insts : List DebugInst) (n : ℕ) (number k : ℕ) : Type 0 where
    pub inst : DebugInst
    pub place : ℕ
    pub found : find has insts ≡ Some inst
    pub at : position_from has k insts ≡ Some (k + place)
    pub early : place < n
    pub is_number : inst.number ≡ number

  pub before_is : (k : ℕ) (under : List (ℕ × Mark)) (before later : List DebugInst) (mark : Mark) → Agree under before → reads id under ≡ Some mark
      → IsBefore (before ++ later) (length before) mark.number k
  before_is k [] before later mark agree e = absurd (cc)
  before_is k (x ∷ xs) [] later mark agree e = absurd agree
  before_is k (x ∷ xs) (d ∷ ds) later mark agree e = by_test (x.0 == id) refl (before_is (k + 1) xs ds later mark agree.1) e
    where
      by_test : (b : Bool) → (x.0 == id) ≡ b → (reads id xs ≡ Some mark → IsBefore (ds ++ later) (length ds) mark.number (k + 1)) → cond b (Some x.1) (reads id xs) ≡ Some mark
          → IsBefore (d ∷ ds ++ later) (suc (length ds)) mark.number k
      by_test true t more e =
          let yes : (d.id == id) ≡ true = ap (λ (j : ℕ). j == id) (sym agree.0.0) ∙ t in
          let same : x.1 ≡ mark = cc in
          let none : k + 0 ≡ k = omega arith in record {
            inst = d;
            place = 0;
            found = rw yes refl;
            at = rw (yes, none) refl;
            early = omega arith;
            is_number = sym agree.0.1 ∙ ap (λ (m : Mark). m.number) same;
          }
      by_test false t more e =
          let nope : (d.id == id) ≡ false = ap (λ (j : ℕ). j == id) (sym agree.0.0) ∙ t in
          let is = more e in
          let count : k + 1 + is.place ≡ k + suc is.place = omega arith in
          let early : is.place < length ds = is.early in record {
            inst = is.inst;
            place = suc is.place;
            found = rw nope is.found;
            at = rw nope (is.at ∙ ap (λ (j : ℕ). Some j) count);
            early = omega arith;
            is_number = is.is_number;
          }

  -- the first with its id
  pub place_new : (k : ℕ) (under : List (ℕ × Mark)) (before later : List DebugInst) (d : DebugInst) → Agree under before → reads id under ≡ None → d.id ≡ id
      → position_from has k (before ++ d ∷ later) ≡ Some (k + length before)
  place_new k [] [] later d agree none same = let z : k + 0 ≡ k = omega arith in rw (eq-eqb d.id id same, z) refl
  place_new k [] (b ∷ bs) later d agree none same = absurd agree
  place_new k (x ∷ xs) [] later d agree none same = absurd agree
  place_new k (x ∷ xs) (b ∷ bs) later d agree none same = by_test (x.0 == id) refl (λ e. place_new (k + 1) xs bs later d agree.1 e same) none
    where
      by_test : (t : Bool) → (x.0 == id) ≡ t → (reads id xs ≡ None → position_from has (k + 1) (bs ++ d ∷ later) ≡ Some (k + 1 + length bs)) → cond t (Some x.1) (reads id xs) ≡ None
          → position_from has k (b ∷ bs ++ d ∷ later) ≡ Some (k + suc (length bs))
      by_test true t more e = absurd (cc)
      by_test false t more e =
          let nope : (b.id == id) ≡ false = ap (λ (j : ℕ). j == id) (sym agree.0.0) ∙ t in
          let count : k + 1 + length bs ≡ k + suc (length bs) = omega arith in
          rw nope (more e ∙ ap (λ (j : ℕ). Some j) count)

  -- what is kept of it
  pub kept_new : (under more : List (ℕ × Mark)) (mark : Mark) → reads id under ≡ None → reads id (under ++ (id, mark) ∷ more) ≡ Some mark
  kept_new [] more mark none = rw (eq-eqb id id refl) refl
  kept_new (x ∷ xs) more mark none = by_test (x.0 == id) (kept_new xs more mark) none
    where
      by_test : (b : Bool) → (reads id xs ≡ None → reads id (xs ++ (id, mark) ∷ more) ≡ Some mark) → cond b (Some x.1) (reads id xs) ≡ None
          → cond b (Some x.1) (reads id (xs ++ (id, mark) ∷ more)) ≡ Some mark
      by_test true rest e = absurd (cc)
      by_test false rest e = rest e

  kept_there : (under more : List (ℕ × Mark)) (mark : Mark) → reads id under ≡ Some mark → reads id (under ++ more) ≡ Some mark
  kept_there [] more mark e = absurd (cc)
  kept_there (x ∷ xs) more mark e = by_test (x.0 == id) (kept_there xs more mark) e
    where
      by_test : (b : Bool) → (reads id xs ≡ Some mark → reads id (xs ++ more) ≡ Some mark) → cond b (Some x.1) (reads id xs) ≡ Some mark → cond b (Some x.1) (reads id (xs ++ more)) ≡ Some mark
      by_test true rest e = e
      by_test false rest e = rest e

  -- where it is not among those before, it has none of their numbers
  late : (k : ℕ) (under : List (ℕ × Mark)) (before later : List DebugInst) (j : ℕ) → Agree under before → reads id under ≡ None → position_from has k (before ++ later) ≡ Some j
      → k + length before ≤ j
  late k [] [] later j agree none e = let above : k ≤ j = position_above k later j e in omega arith
  late k [] (b ∷ bs) later j agree none e = absurd agree
  late k (x ∷ xs) [] later j agree none e = absurd agree
  late k (x ∷ xs) (b ∷ bs) later j agree none e = by_test (x.0 == id) refl (late (k + 1) xs bs later j agree.1) none e
    where
      by_test : (t : Bool) → (x.0 == id) ≡ t → (reads id xs ≡ None → position_from has (k + 1) (bs ++ later) ≡ Some j → k + 1 + length bs ≤ j) → cond t (Some x.1) (reads id xs) ≡ None
          → position_from has k (b ∷ bs ++ later) ≡ Some j → k + suc (length bs) ≤ j
      by_test true t more none e = absurd (cc)
      by_test false t more none e =
          let nope : (b.id == id) ≡ false = ap (λ (i : ℕ). i == id) (sym agree.0.0) ∙ t in
          let le : k + 1 + length bs ≤ j = more none (rw nope at e) in
          omega arith

  -- what is kept of it where it is before
  abbrev pub kept_at : List (ℕ × Mark) → ℕ → Option ℕ → Option Mark
  kept_at kept n place = option_and_then (λ number. if nat_lt number n then reads id kept else None) place

  pub kept_early : (under more : List (ℕ × Mark)) (before later : List DebugInst) → Agree under before
      → reads id under ≡ kept_at (under ++ more) (length before) (position has (before ++ later))
  kept_early under more before later agree = by_kept (reads id under) refl
    where
      by_place : reads id under ≡ None → (o : Option ℕ) → position_from has 0 (before ++ later) ≡ o → None ≡ kept_at (under ++ more) (length before) o
      by_place none None e = refl
      by_place none (Some j) e =
          let le : 0 + length before ≤ j = late 0 under before later j agree none e in
          let past : length before ≤ j = omega arith in
          rw (not_below j (length before) past) refl

      by_kept : (o : Option Mark) → reads id under ≡ o → o ≡ kept_at (under ++ more) (length before) (position has (before ++ later))
      by_kept None e = by_place e (position has (before ++ later)) (sym (position_from-zero has (before ++ later)))
      by_kept (Some mark) e =
          let is : IsBefore (before ++ later) (length before) mark.number 0 = before_is 0 under before later mark agree e in
          let none : 0 + is.place ≡ is.place = omega arith in
          let there : position has (before ++ later) ≡ Some is.place = position_from-zero has (before ++ later) ∙ is.at ∙ ap (λ (j : ℕ). Some j) none in
          let early : nat_lt is.place (length before) ≡ true = lt-ltb is.place (length before) is.early in
          rw (there, early, kept_there under more mark e) refl
