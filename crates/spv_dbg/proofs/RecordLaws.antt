-- Each debug record of an accepted module is whole in its finished tables.
use Rattle.std.proofs.Common.{◌≡◌, ◌⊎◌, ◌∙◌, inl, inr, ℕ, zero, suc, ◌+◌, ◌<◌, ◌≤◌, ◌==◌, Bool, true, false, cond, List, [], ◌∷◌, ◌++◌, length, get_or, Option, Some, None, slice_get, slice_index, unwrap_or, refl, sym, ap, ap₂, subst, arith}
use Rattle.std.specs.Prelude.{AllPairs, find, if◌then◌else◌, nat_lt}
use Rattle.std.specs.List.{position}
use Rattle.std.specs.Option.{option_and_then}
use Rattle.std.proofs.lemmas.Bool.{and_parts, eqb-true, ltb-true}
use Rattle.std.proofs.lemmas.Iterator.Adapters.{position_from-zero}
use Rattle.std.proofs.Math.Path.{fun_ext}
use Rattle.spv_base.specs.Entries.{reads}
use Rattle.spv_base.specs.Order.{Ascend}
use Rattle.spv_base.specs.declared.instructions.Inst.{Inst}
use Rattle.spv_base.specs.declared.values.Root.{Root}
use Rattle.spv_index.specs.declared.positions.Position.{Position}
use Rattle.spv_index.specs.Classes.{class_of, sets_of}
use Rattle.spv_index.specs.Definitions.{defining, number_of as number_defining}
use Rattle.spv_index.specs.Positions.{Stand, outside, position_after, stands, stands_of}
use Rattle.spv_valid.specs.Acceptance.{Accepted, IsAccepted, decoded_in}
use Rattle.spv_valid.specs.Validity.{IsValid}
use Rattle.spv_dbg.specs.declared.constants.Constant.{Constant}
use Rattle.spv_dbg.specs.declared.insts.DebugInst.{DebugInst}
use Rattle.spv_dbg.specs.declared.kinds.Role.{Role}
use Rattle.spv_dbg.specs.declared.marks.Mark.{Mark}
use Rattle.spv_dbg.specs.declared.measures.Measure.{Measure}
use Rattle.spv_dbg.specs.Forming.{formed_from, marked, opcode_of, stood}
use Rattle.spv_dbg.specs.Kinds.{numbers_for}
use Rattle.spv_dbg.specs.Literals.{literal_of, string_of}
use Rattle.spv_dbg.specs.Marks.{Marks, ids_behind, is_one_of, known, measure_of, measured}
use Rattle.spv_dbg.specs.Records.{AreRecords, IsRecord, Leads, kept_before, measured_in, opcode_in}
use Rattle.spv_dbg.specs.Tables.{Tables, constants_of, insts_of, marks_of, number_of, strings_of, tables_of, with_id}
use Rattle.spv_dbg.specs.Wellformed.{IsWellFormed, Names}
use Rattle.spv_dbg.proofs.RecordFacts.{have_ids, literal_under, number_defines, text_under}
use Rattle.spv_dbg.proofs.RecordLemmas.{IsBefore, before_is, kept_early, kept_new, operands_so, place_new}
use Rattle.spv_dbg.proofs.RecordPlaces.{IsPassing, IsPlaced, known_new, placed}
use Rattle.spv_dbg.proofs.RecordSteps.{IsPassed, IsTaken, cases, entries_from, formed_passed, formed_taken, mark_is, marks_zipped}
use Rattle.spv_dbg.proofs.WellformedLemmas.{formed_decides}

-- ---- what the tables are made of

record IsBuilt (m : Accepted) (t : Tables) : Type 0 where
  insts : t.insts ≡ formed_from m [] (stands_of m.insts)
  marks : t.marks ≡ entries_from m [] (stands_of m.insts)
  strings : t.strings ≡ strings_of m.insts
  constants : t.constants ≡ constants_of m

built : (m : Accepted) → IsBuilt m (tables_of m)
unfolding tables_of insts_of marks_of
built m = record { insts = refl; marks = marks_zipped m (stands_of m.insts); strings = refl; constants = refl }

-- ---- words

abbrev Ascending : ℕ → List DebugInst → Type 0
Ascending from [] = Unit {0}
Ascending from (d ∷ ds) = (from ≤ d.word) × Ascending (suc d.word) ds

from_lower : (low from : ℕ) (ds : List DebugInst) → low ≤ from → Ascending from ds → Ascending low ds
from_lower low from [] le h = tt
from_lower low from (d ∷ ds) le h = let first : from ≤ d.word = h.0 in (omega arith, h.1)

words_ascend : (m : Accepted) (marks : Marks) (sets : List (ℕ × Bool)) (position : Position) (from : ℕ) (insts : List Inst) → Ascend from insts
    → Ascending from (formed_from m marks (stands sets position insts))
words_ascend m marks sets position from [] ascend = tt
words_ascend m marks sets position from (i ∷ is) ascend =
    by_case (λ o. words_ascend m (marks ++ o ∷ []) sets (position_after position (class_of sets i) i) (suc i.word) is ascend.1) (cases m marks (stood position (class_of sets i) i))
  where
    rest : List Stand
    rest = stands sets (position_after position (class_of sets i) i) is

    s : Stand
    s = stood position (class_of sets i) i

    by_case : ((o : Option Mark) → Ascending (suc i.word) (formed_from m (marks ++ o ∷ []) rest)) → IsPassed m marks s ⊎ IsTaken m marks s → Ascending from (formed_from m marks (s ∷ rest))
    by_case more (inl p) =
        let first : from ≤ i.word = ascend.0 in
        let low : from ≤ suc i.word = omega arith in
        rw (formed_passed m marks s rest p) (from_lower from (suc i.word) (formed_from m (marks ++ None ∷ []) rest) low (more None))
    by_case more (inr t) = rw (formed_taken m marks s rest t) (ascend.0, more (Some t.mark))

all_above : (from : ℕ) (ds : List DebugInst) (j : ℕ) (d : DebugInst) → Ascending from ds → j < length ds → from ≤ (get_or ds j d).word
all_above from [] j d h lt = absurd (omega arith)
all_above from (x ∷ xs) zero d h lt = h.0
all_above from (x ∷ xs) (suc j) d h lt =
    let first : from ≤ x.word = h.0 in
    let less : j < length xs = omega arith in
    let more : suc x.word ≤ (get_or xs j d).word = all_above (suc x.word) xs j d h.1 less in
    let le : from ≤ (get_or xs j d).word = omega arith in
    le

pairs_ascend : (from : ℕ) (ds : List DebugInst) → Ascending from ds → AllPairs (λ (d e : DebugInst). d.word < e.word) ds
pairs_ascend from [] h i j d lt below = absurd (omega arith)
pairs_ascend from (x ∷ xs) h i zero d lt below = absurd (omega arith)
pairs_ascend from (x ∷ xs) h zero (suc j) d lt below =
    let less : j < length xs = omega arith in
    let more : suc x.word ≤ (get_or xs j d).word = all_above (suc x.word) xs j d h.1 less in
    let is : x.word < (get_or xs j d).word = omega arith in
    is
pairs_ascend from (x ∷ xs) h (suc i) (suc j) d lt below = pairs_ascend (suc x.word) xs h.1 i j d (omega arith) (omega arith)

-- ---- places

stand_inst : (sets : List (ℕ × Bool)) (position : Position) (insts : List Inst) (k : ℕ) (s : Stand) → slice_get (stands sets position insts) k ≡ Some s → slice_get insts k ≡ Some s.inst
stand_inst sets position [] k s at = absurd (cc)
stand_inst sets position (i ∷ is) zero s at = let same : stood position (class_of sets i) i ≡ s = cc in ap (λ (x : Stand). Some x.inst) same
stand_inst sets position (i ∷ is) (suc k) s at = stand_inst sets (position_after position (class_of sets i) i) is k s at

abbrev no_marks : Marks
no_marks = []

known_start : (m : Accepted) (id : ℕ) → known m no_marks id ≡ None
unfolding known
known_start m id = by_number (number_defining m.insts id)
  where
    by_number : (o : Option ℕ) → option_and_then (λ (n : ℕ). unwrap_or (slice_get no_marks n) None) o ≡ None
    by_number None = refl
    by_number (Some n) = refl

-- what is found has a place
record IsFound (id : ℕ) (insts : List DebugInst) (d : DebugInst) : Type 0 where
  place : ℕ
  at : slice_get insts place ≡ Some d
  is_id : d.id ≡ id

found_at : (id : ℕ) (insts : List DebugInst) (d : DebugInst) → find (λ (x : DebugInst). x.id == id) insts ≡ Some d → IsFound id insts d
found_at id [] d e = absurd (cc)
found_at id (x ∷ xs) d e = by_test (x.id == id) refl (found_at id xs d) e
  where
    by_test : (b : Bool) → (x.id == id) ≡ b → (find (λ (y : DebugInst). y.id == id) xs ≡ Some d → IsFound id xs d) → cond b (Some x) (find (λ (y : DebugInst). y.id == id) xs) ≡ Some d
        → IsFound id (x ∷ xs) d
    by_test true t more e = let same : x ≡ d = cc in record { place = 0; at = e; is_id = ap (λ (y : DebugInst). y.id) (sym same) ∙ eqb-true x.id id t }
    by_test false t more e = let is = more e in record { place = suc is.place; at = is.at; is_id = is.is_id }

-- ---- in the tables of a module

module _ (m : Accepted) (t : Tables) (tables : IsBuilt m t) (is : IsAccepted m) (valid : IsValid m) where
  passing : IsPassing m t.marks t.insts [] [] [] (stands_of m.insts)
  passing = record {
    stand = λ k s at. (let none : 0 + k ≡ k = omega arith in rw none (stand_inst (sets_of m.insts) outside m.insts k s at));
    ids = have_ids m (decoded_in m) is.decoded.limit (stands_of m.insts) valid.ids;
    agree = tt;
    same = known_start m;
    insts_are = tables.insts;
    kept_are = tables.marks;
  }

  placed_at : (n : ℕ) (d : DebugInst) → slice_get t.insts n ≡ Some d → IsPlaced m t.marks t.insts n d
  placed_at n d at =
      let none : 0 + n ≡ n = omega arith in
      let there = sym (ap (λ (ds : List DebugInst). slice_get ds n) tables.insts) ∙ at in
      rw none at (placed m t.marks t.insts valid.named.distinct [] (stands_of m.insts) [] [] passing n d there)

  literals : (id : ℕ) → literal_of m id ≡ number_of t id
  literals id =
      sym (literal_under m (λ (root : Root). None) id (valid.shapes (λ (root : Root). None)))
      ∙ ap (λ (cs : List (ℕ × Constant)). option_and_then (λ (c : Constant). c.number) (reads id cs)) (sym tables.constants)

  texts : (id : ℕ) (bytes : List ℕ) → string_of m.insts id ≡ Some bytes → reads id t.strings ≡ Some bytes
  texts id bytes e = ap (reads id) tables.strings ∙ text_under m.insts id bytes e

  codes : (id : ℕ) → opcode_in t id ≡ Some 9 → opcode_of m id ≡ Some 9
  codes id e = by_inst (with_id t id) refl e
    where
      by_inst : (o : Option DebugInst) → with_id t id ≡ o → option_and_then (λ (d : DebugInst). number_of t (slice_index d.operands 0)) o ≡ Some 9 → opcode_of m id ≡ Some 9
      by_inst None f e = absurd (cc)
      by_inst (Some d) f e =
          let found = found_at id t.insts d f in
          let p = placed_at found.place d found.at in
          let same : p.inst.id ≡ id = ap (λ (x : DebugInst). x.id) (sym p.is_inst) ∙ found.is_id in
          let defined : defining m.insts id ≡ Some p.inst = ap (defining m.insts) (sym same) ∙ number_defines m.insts p.inst.id (length p.marks) p.inst p.own p.at in
          let operands : d.operands ≡ ids_behind p.inst = ap (λ (x : DebugInst). x.operands) p.is_inst in
          ap (option_and_then (λ (i : Inst). literal_of m (slice_index (ids_behind i) 0))) defined ∙ ap (λ (ids : List ℕ). literal_of m (slice_index ids 0)) (sym operands)
          ∙ literals (slice_index d.operands 0) ∙ e

  module _ (n : ℕ) (d : DebugInst) (p : IsPlaced m t.marks t.insts n d) where
    leads : (role : Role) (id : ℕ) → Names m p.marks role id → Leads t n role id
    leads role id h =
        let there : reads id p.under ≡ Some h.0 = sym (p.same id) ∙ h.1 in
        let b : IsBefore id (p.before ++ d ∷ p.later) (length p.before) h.0.number 0 = before_is id 0 p.under p.before (d ∷ p.later) h.0 p.agree there in
        let none : 0 + b.place ≡ b.place = omega arith in
        let early : b.place < length p.before = b.early in
        let count : length p.before ≡ n = p.count in record {
          inst = b.inst;
          is = ap (find (λ (x : DebugInst). x.id == id)) p.insts_are ∙ b.found;
          number = b.place;
          is_number =
              ap (position (λ (x : DebugInst). x.id == id)) p.insts_are ∙ position_from-zero (λ (x : DebugInst). x.id == id) (p.before ++ d ∷ p.later) ∙ b.at
              ∙ ap (λ (j : ℕ). Some j) none;
          before = omega arith;
          asked = ap (is_one_of (numbers_for role)) b.is_number ∙ h.2;
        }

    kept_is : (id : ℕ) → known m p.marks id ≡ kept_before t n id
    kept_is id =
        p.same id ∙ kept_early id p.under ((d.id, p.mark) ∷ p.more) p.before (d ∷ p.later) p.agree
        ∙ ap₂ (λ (es : List (ℕ × Mark)) (ds : List DebugInst). option_and_then (λ number. if nat_lt number (length p.before) then reads id es else None) (position (λ (x : DebugInst). x.id == id) ds))
        (sym p.kept_are) (sym p.insts_are)
        ∙ ap (λ (k : ℕ). kept_before t k id) p.count

    measure_is : measured m p.marks d ≡ measured_in t n d
    measure_is =
        ap (λ (literal : ℕ → Option ℕ). measure_of literal (known m p.marks) d.number d.operands) (fun_ext literals)
        ∙ ap (λ (kept : ℕ → Option Mark). measure_of (number_of t) kept d.number d.operands) (fun_ext kept_is)

    whole : IsRecord t n d
    whole =
        let is_marked = mark_is m p.marks p.inside d p.mark p.is_marked in
        let formed : IsWellFormed m p.marks p.inside d = (formed_decides m p.marks p.inside d).0 is_marked.0 in
        let same : p.inst.id ≡ d.id = ap (λ (x : DebugInst). x.id) (sym p.is_inst) in
        let some : 0 < p.inst.id = ltb-true 0 p.inst.id (and_parts (nat_lt 0 p.inst.id) (nat_lt p.inst.id 1048576) p.is_id).0 in
        let own : number_defining m.insts d.id ≡ Some (length p.marks) = ap (number_defining m.insts) (sym same) ∙ p.own in
        let none : reads d.id p.under ≡ None = sym (p.same d.id) ∙ known_new m p.marks d.id own in
        let count : 0 + length p.before ≡ n = (let c : length p.before ≡ n = p.count in omega arith) in record {
          has_id = rw same at some;
          is_alone =
              ap (position (λ (x : DebugInst). x.id == d.id)) p.insts_are ∙ position_from-zero (λ (x : DebugInst). x.id == d.id) (p.before ++ d ∷ p.later)
              ∙ place_new d.id 0 p.under p.before p.later d p.agree none refl ∙ ap (λ (j : ℕ). Some j) count;
          operands = operands_so (Names m p.marks) (Leads t n) (literal_of m) (number_of t) (string_of m.insts) (λ id. reads id t.strings) (opcode_of m) (opcode_in t) leads literals texts codes d formed.operands;
          kept =
              ap (reads d.id) p.kept_are ∙ kept_new d.id p.under p.more p.mark none
              ∙ ap (λ (k : Mark). Some k) (sym is_marked.1 ∙ ap (marked d.number) measure_is);
          bits = subst (λ (x : Measure). x.bits ≤ 268435456) measure_is formed.bits;
          nesting = subst (λ (x : Measure). x.nesting ≤ 64) measure_is formed.nesting;
        }

  are_records : AreRecords t
  are_records = record {
    ascend = subst (AllPairs (λ (d e : DebugInst). d.word < e.word)) (sym tables.insts) (pairs_ascend 0 _ (words_ascend m [] (sets_of m.insts) outside 0 m.insts is.decoded.ascend));
    each = λ n d at. whole n d (placed_at n d at);
  }

pub records_are : (m : Accepted) → IsAccepted m → IsValid m → AreRecords (tables_of m)
records_are m is valid = are_records m (tables_of m) (built m) is valid
