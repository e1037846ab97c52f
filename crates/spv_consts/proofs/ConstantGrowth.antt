-- What the state of the walk over a module's constants keeps from an instruction to the end.
use Rattle.std.proofs.Common.{◌≡◌, ◌≢◌, ◌⊎◌, ◌∙◌, ℕ, ◌+◌, ◌<◌, ◌==◌, Bool, true, false, eqb, List, [], ◌∷◌, ◌++◌, Option, Some, None, inl, inr, refl, sym, ap, subst, arith}
use Rattle.std.proofs.lemmas.Bool.{cases_eq, eq-eqb, ne_eqb}
use Rattle.std.specs.Prelude.{nat_lt, ◌&&◌, if◌then◌else◌}
use Rattle.std.specs.List.{AllByRecursion}
use Rattle.std.specs.Option.{option_map}
use Rattle.spv_base.proofs.Exports.{each_left, each_right}
use Rattle.spv_base.specs.Entries.{reads}
use Rattle.spv_base.specs.declared.instructions.Inst.{Inst}
use Rattle.spv_types.specs.declared.forms.Form.{Form}
use Rattle.spv_types.specs.declared.forms.Form.TheVariants.{Void, Bool as Boolean, Int, Vector, Array, Runtime, Struct, Pointer, Function}
use Rattle.spv_types.specs.Constants.{is_constant}
use Rattle.spv_types.specs.Laws.{AreSound, IsAmong}
use Rattle.spv_types.specs.Types.{Types, form_of, lengthened as with_size, number_of, with_length}
use Rattle.spv_types.proofs.Exports.{number_form}
use Rattle.spv_index.specs.Definitions.{defining}
use Rattle.spv_consts.specs.Table.{Constants, Row}
use Rattle.spv_consts.specs.Context.{Context}
use Rattle.spv_consts.specs.State.{State, is_next}
use Rattle.spv_consts.specs.Values.{leaf_widths}
use Rattle.spv_consts.specs.Evaluation.{value_of}
use Rattle.spv_consts.specs.Lengths.{is_unset, length_at, lengthened, with_array, with_length_if}
use Rattle.spv_consts.specs.Steps.{with_entry, with_constant, with_type}
use Rattle.spv_consts.proofs.LengthLemmas.{next_is}
use Rattle.spv_consts.proofs.WalkIds.{Differs}
use Rattle.spv_consts.proofs.WalkPlaces.{wider}
use Rattle.spv_consts.proofs.WalkSteps.{earlier_among, widths_kept}

-- a form but for the length of an array
abbrev pub erased : Option Form → Option Form
erased o = option_map (with_size 0) o

-- What a state has that a later one keeps: rows under their ids, where new ones are of constants alone, and of the types that were
-- passed their leaves; of each type its form, but for the length of an array.
pub record Grows (m : Context) (s t : State) : Type 0 where
  pub kept : (id : ℕ) (r : Row) → reads id s.values ≡ Some r → reads id t.values ≡ Some r
  pub added : (id : ℕ) (r : Row) (d : Inst) → reads id s.values ≡ None → reads id t.values ≡ Some r → defining m.all id ≡ Some d → is_constant d.op ≡ true
  pub among : (q : ℕ) → IsAmong s.types s.known q → IsAmong t.types t.known q
  pub widths : (q : ℕ) → IsAmong s.types s.known q → leaf_widths t.types q ≡ leaf_widths s.types q
  pub forms : (q : ℕ) → erased (form_of t.types q) ≡ erased (form_of s.types q)

no_row : {A : Type 0} (o : Option Row) (r : Row) → o ≡ None → o ≡ Some r → A
no_row o r none some = let clash : None ≡ Some r = sym none ∙ some in absurd (cc)

pub grows_not : (m : Context) (s : State) → Grows m s s
grows_not m s = record {
  kept = λ id r e. e;
  added = λ id r d none some defined. no_row (reads id s.values) r none some;
  among = λ q among. among;
  widths = λ q among. refl;
  forms = λ q. refl;
}

pub grows_on : (m : Context) (s t u : State) → Grows m s t → Grows m t u → Grows m s u
grows_on m s t u g h = record {
  kept = λ id r e. h.kept id r (g.kept id r e);
  added = λ id r d none some defined. by_row id r d none some defined (reads id t.values) refl;
  among = λ q among. h.among q (g.among q among);
  widths = λ q among. h.widths q (g.among q among) ∙ g.widths q among;
  forms = λ q. h.forms q ∙ g.forms q;
}
  where
    by_row : (id : ℕ) (r : Row) (d : Inst) → reads id s.values ≡ None → reads id u.values ≡ Some r → defining m.all id ≡ Some d → (o : Option Row) → reads id t.values ≡ o → is_constant d.op ≡ true
    by_row id r d none some defined None e = h.added id r d e some defined
    by_row id r d none some defined (Some x) e = g.added id x d none e defined

grows_type : (m : Context) (s : State) → Grows m s (with_type s)
grows_type m s = record {
  kept = λ id r e. e;
  added = λ id r d none some defined. no_row (reads id s.values) r none some;
  among = λ q among. wider s.types s.known (s.known + 1) q (omega arith) among;
  widths = λ q among. refl;
  forms = λ q. refl;
}

-- ---- one more constant

row_kept : (cs : Constants) (c : ℕ × Row) (id : ℕ) (r : Row) → reads id cs ≡ Some r → reads id (cs ++ c ∷ []) ≡ Some r
row_kept [] c id r h = cc
row_kept (d ∷ cs) c id r h = by_test (d.0 == id) h (row_kept cs c id r)
  where
    by_test : (b : Bool) → (if b then Some d.1 else reads id cs) ≡ Some r → (reads id cs ≡ Some r → reads id (cs ++ c ∷ []) ≡ Some r) → (if b then Some d.1 else reads id (cs ++ c ∷ [])) ≡ Some r
    by_test true e rest = e
    by_test false e rest = rest e

-- behind rows of other ids
row_behind : (cs : Constants) (c : ℕ × Row) (id : ℕ) → reads id cs ≡ None → reads id (cs ++ c ∷ []) ≡ (if c.0 == id then Some c.1 else None)
row_behind [] c id h = refl
row_behind (d ∷ cs) c id h = by_test (d.0 == id) h (row_behind cs c id)
  where
    by_test : (b : Bool) → (if b then Some d.1 else reads id cs) ≡ None → (reads id cs ≡ None → reads id (cs ++ c ∷ []) ≡ (if c.0 == id then Some c.1 else None)) → (if b then Some d.1 else reads id (cs ++ c ∷ [])) ≡ (if c.0 == id then Some c.1 else None)
    by_test true e rest = cc
    by_test false e rest = rest e

pub own_row : (cs : Constants) (id : ℕ) (r : Row) → reads id cs ≡ None → reads id (cs ++ (id, r) ∷ []) ≡ Some r
own_row cs id r h = let own : eqb id id ≡ true = eq-eqb id id refl in row_behind cs (id, r) id h ∙ rw own refl

other_row : (cs : Constants) (c : ℕ × Row) (id : ℕ) → reads id cs ≡ None → c.0 ≢ id → reads id (cs ++ c ∷ []) ≡ None
other_row cs c id h apart = let other : eqb c.0 id ≡ false = ne_eqb c.0 id apart in row_behind cs c id h ∙ rw other refl

grows_constant : (m : Context) (s : State) (i : Inst) → defining m.all i.id ≡ Some i → is_constant i.op ≡ true → Grows m s (with_constant m s i)
grows_constant m s i defined constant = record {
  kept = λ id r e. row_kept s.values (i.id, value_of m s i) id r e;
  added = λ id r d none some is. by_id id r d none some is (cases_eq i.id id);
  among = λ q among. among;
  widths = λ q among. refl;
  forms = λ q. refl;
}
  where
    by_id : (id : ℕ) (r : Row) (d : Inst) → reads id s.values ≡ None → reads id (s.values ++ (i.id, value_of m s i) ∷ []) ≡ Some r → defining m.all id ≡ Some d → (i.id ≡ id) ⊎ (i.id ≡ id → ⊥) → is_constant d.op ≡ true
    by_id id r d none some is (inl same) =
        let both : Some i ≡ Some d = sym defined ∙ ap (λ (q : ℕ). defining m.all q) same ∙ is in
        let one : i ≡ d = cc in
        subst (λ (j : Inst). is_constant j.op ≡ true) one constant
    by_id id r d none some is (inr apart) = no_row (reads id (s.values ++ (i.id, value_of m s i) ∷ [])) r (other_row s.values (i.id, value_of m s i) id none apart) some

pub grows_entered : (m : Context) (s : State) (i : Inst) → (is_constant i.op ≡ true → defining m.all i.id ≡ Some i) → Grows m s (with_entry m s i)
grows_entered m s i defined = by_tests (is_next s i.id) (is_constant i.op) refl
  where
    by_tests : (b c : Bool) → is_constant i.op ≡ c → Grows m s (if b then with_type s else (if c then with_constant m s i else s))
    by_tests true c e = grows_type m s
    by_tests false true e = grows_constant m s i (defined e) e
    by_tests false false e = grows_not m s

-- ---- the length of an array

erased_length : (n : ℕ) (f : Form) → erased (Some (with_size n f)) ≡ erased (Some f)
erased_length n f = grind arith

module _
    (sound_kept : (ts : Types) (id n : ℕ) → AreSound ts → AreSound (with_length ts id n))
    (number_kept : (ts : Types) (id n q : ℕ) → number_of (with_length ts id n) q ≡ number_of ts q)
    (other_kept : (ts : Types) (id n q : ℕ) → id ≢ q → form_of (with_length ts id n) q ≡ form_of ts q)
    (own_set : (ts : Types) (id n : ℕ) (f : Form) → form_of ts id ≡ Some f → form_of (with_length ts id n) id ≡ Some (with_size n f))
  where
    grows_length : (m : Context) (s : State) (id n : ℕ) → number_of s.types id ≡ Some s.known → Grows m s (record s { types = with_length s.types id n })
    grows_length m s id n number = record {
      kept = λ q r e. e;
      added = λ q r d none some defined. no_row (reads q s.values) r none some;
      among = λ q among. earlier_among sound_kept number_kept other_kept own_set s.types id n s.known q among;
      widths = λ q among. widths_kept s.types id s.known n q number among;
      forms = λ q. by_id q (cases_eq id q);
    }
      where
        own : erased (form_of (with_length s.types id n) id) ≡ erased (form_of s.types id)
        own =
            let form = number_form s.types id s.known (0, Void) number in
            ap erased (own_set s.types id n _ form) ∙ erased_length n _ ∙ sym (ap erased form)

        by_id : (q : ℕ) → (id ≡ q) ⊎ (id ≡ q → ⊥) → erased (form_of (with_length s.types id n) q) ≡ erased (form_of s.types q)
        by_id q (inl same) = subst (λ (p : ℕ). erased (form_of (with_length s.types id n) p) ≡ erased (form_of s.types p)) same own
        by_id q (inr apart) = ap erased (other_kept s.types id n q apart)

    pub grows_lengthened : (m : Context) (s u : State) (i : Inst) → lengthened m s i ≡ Some u → Grows m s u
    grows_lengthened m s u i h = by_length (length_at m s i) h
      where
        by_next : (n : ℕ) (b c : Bool) → is_next s i.id ≡ b → (if b && c then record s { types = with_length s.types i.id n } else s) ≡ u → Grows m s u
        by_next n true true e same = subst (λ (v : State). Grows m s v) same (grows_length m s i.id n (next_is s.known (number_of s.types i.id) (sym e)))
        by_next n true false e same = subst (λ (v : State). Grows m s v) same (grows_not m s)
        by_next n false c e same = subst (λ (v : State). Grows m s v) same (grows_not m s)

        by_limit : (n : ℕ) (b : Bool) → (if b then None else Some (with_array s i.id n)) ≡ Some u → Grows m s u
        by_limit n true e = cc
        by_limit n false e = let same : with_array s i.id n ≡ u = cc in by_next n (is_next s i.id) (is_unset (form_of s.types i.id)) refl same

        by_length : (o : Option ℕ) → with_length_if s i.id o ≡ Some u → Grows m s u
        by_length None e = let same : s ≡ u = cc in subst (λ (v : State). Grows m s v) same (grows_not m s)
        by_length (Some n) e = by_limit n (nat_lt 4194304 n) e

-- ---- rows of the instructions so far

-- an id that no instruction before has, has no row
abbrev pub IsFresh : List Inst → State → Type 0
IsFresh front s = (id : ℕ) → AllByRecursion (Differs id) front → reads id s.values ≡ None

pub fresh_lengthened : (m : Context) (front : List Inst) (s u : State) (i : Inst) → lengthened m s i ≡ Some u → IsFresh front s → IsFresh front u
fresh_lengthened m front s u i h fresh = λ id apart. ap (λ (cs : Constants). reads id cs) (sym (by_length (length_at m s i) h)) ∙ fresh id apart
  where
    by_test : (n : ℕ) (b : Bool) → (if b then record s { types = with_length s.types i.id n } else s) ≡ u → s.values ≡ u.values
    by_test n true same = ap (λ (v : State). v.values) same
    by_test n false same = ap (λ (v : State). v.values) same

    by_limit : (n : ℕ) (b : Bool) → (if b then None else Some (with_array s i.id n)) ≡ Some u → s.values ≡ u.values
    by_limit n true e = cc
    by_limit n false e = let same : with_array s i.id n ≡ u = cc in by_test n (is_next s i.id && is_unset (form_of s.types i.id)) same

    by_length : (o : Option ℕ) → with_length_if s i.id o ≡ Some u → s.values ≡ u.values
    by_length None e = let same : s ≡ u = cc in ap (λ (v : State). v.values) same
    by_length (Some n) e = by_limit n (nat_lt 4194304 n) e

pub fresh_entered : (m : Context) (front : List Inst) (s : State) (i : Inst) → (is_constant i.op ≡ true → 0 < i.id) → IsFresh front s → IsFresh (front ++ i ∷ []) (with_entry m s i)
fresh_entered m front s i positive fresh = λ id apart. by_tests id (each_left (Differs id) front (i ∷ []) apart) (each_right (Differs id) front (i ∷ []) apart).0 (is_next s i.id) (is_constant i.op) refl
  where
    by_own : (id : ℕ) → 0 < i.id → Differs id i → i.id ≢ id
    by_own id own (inl none) = absurd (omega arith)
    by_own id own (inr apart) = apart

    by_tests : (id : ℕ) → AllByRecursion (Differs id) front → Differs id i → (b c : Bool) → is_constant i.op ≡ c → reads id (if b then with_type s else (if c then with_constant m s i else s)).values ≡ None
    by_tests id before own true c e = fresh id before
    by_tests id before own false true e = other_row s.values (i.id, value_of m s i) id (fresh id before) (by_own id (positive e) own)
    by_tests id before own false false e = fresh id before
