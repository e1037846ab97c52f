-- The limits on types and constants, from the first instruction before the functions to the last.
use Rattle.std.proofs.Common.{◌≡◌, ◌⊎◌, ◌∙◌, ℕ, ◌+◌, ◌-◌, ◌^◌, ◌<◌, ◌≤◌, ◌==◌, Bool, true, false, List, [], ◌∷◌, ◌++◌, length, length-append, append-nil, append_assoc, min, Option, Some, None, Ok, Err, inl, inr, refl, sym, ap, subst, arith}
use Rattle.std.proofs.lemmas.Bool.{and_parts, cases_Bool, cases_lt, eq-eqb, ltb-false}
use Rattle.std.specs.Prelude.{nat_le, nat_lt, ◌&&◌, ◌||◌, if◌then◌else◌}
use Rattle.std.specs.List.{AllByRecursion}
use Rattle.std.specs.Option.{option_map_or}
use Rattle.spv_base.specs.Order.{Ascend}
use Rattle.spv_base.specs.declared.causes.Refusal.{Refusal}
use Rattle.spv_base.specs.declared.instructions.Inst.{Inst}
use Rattle.spv_types.specs.declared.forms.Form.{Form}
use Rattle.spv_types.specs.declared.limits.Limit.{Limit}
use Rattle.spv_types.specs.Build.{type_breaches, types_of, unless_refused}
use Rattle.spv_types.specs.Constants.{is_constant}
use Rattle.spv_types.specs.Laws.{AreNamed, IsAmong}
use Rattle.spv_types.specs.Limits.{limit_among, limit_of, limit_step, no_limit}
use Rattle.spv_types.specs.Rules.{is_data, is_sized_data}
use Rattle.spv_types.specs.Types.{IsUnset, Types, form_of, number_of, with_length}
use Rattle.spv_index.specs.Definitions.{before_functions}
use Rattle.spv_types.specs.Typing.{defined_form, types_in, types_read}
use Rattle.spv_types.specs.Cells.{cells_of}
use Rattle.spv_types.proofs.Exports.{limit_unknown, in_first-found, number_lt, form_number, accepted_is}
use Rattle.spv_consts.specs.Table.{Constants, Row}
use Rattle.spv_consts.specs.Context.{Context}
use Rattle.spv_consts.specs.State.{State, is_next}
use Rattle.spv_consts.specs.Overrides.{Numbers}
use Rattle.spv_consts.specs.SpecIds.{lowest_wrong}
use Rattle.spv_consts.specs.Build.{constants_of, context_of, front_breaches, known_of, start_of, state_of, unless_earlier}
use Rattle.spv_consts.specs.Lengths.{lengthened}
use Rattle.spv_consts.specs.Limits.{IsWithin, KeepLimits, constant_cells}
use Rattle.spv_consts.specs.Rules.{keeps_kind, keeps_rules}
use Rattle.spv_consts.specs.Evaluation.{value_of}
use Rattle.spv_consts.specs.Steps.{breaches_at, breaches_from, cells_with, with_entry, is_great, is_great_type, passes_limit, after_one, after_all, with_constant, with_type}
use Rattle.spv_consts.proofs.LengthLemmas.{in_first_kept}
use Rattle.spv_consts.proofs.WalkConstants.{constant_rules, data_number}
use Rattle.spv_consts.proofs.WalkIds.{before_is_front, each_push}
use Rattle.spv_consts.proofs.WalkTypes.{same_number, types_joined}
use Rattle.spv_consts.proofs.WalkStates.{array_length, constant_no_array, no_length, passed}
use Rattle.spv_consts.proofs.WalkPlaces.{IsPlaced, placed, wider}
use Rattle.spv_base.proofs.Exports.{each_weaker, both_empty}

-- ---- one type

within_by_test : (l : Limit) → is_great l ≡ false → IsWithin l
within_by_test l h = by_tests (nat_lt 32 l.nesting) refl (nat_lt 4194304 l.cells) refl h
  where
    by_tests : (b : Bool) → nat_lt 32 l.nesting ≡ b → (c : Bool) → nat_lt 4194304 l.cells ≡ c → (b || c) ≡ false → IsWithin l
    by_tests true one c other e = absurd (cc)
    by_tests false one true other e = absurd (cc)
    by_tests false one false other e = record { nesting = ltb-false 32 l.nesting one; cells = ltb-false 4194304 l.cells other }

nothing_within : IsWithin no_limit
nothing_within = record { nesting = omega arith; cells = omega arith }

-- and so is what is no type
unknown_within : (ts : Types) (id : ℕ) → number_of ts id ≡ None → IsWithin (limit_of ts id)
unfolding limit_of
unknown_within ts id e = subst IsWithin (limit_unknown ts (length ts) id e) nothing_within

-- what a type counts as, by the types before it
limit_found : (ts : Types) (id k : ℕ) → number_of ts id ≡ Some k → limit_of ts id ≡ option_map_or (limit_step (limit_among ts k)) (form_of ts id) no_limit
unfolding limit_of limit_among
limit_found ts id k number = in_first-found no_limit limit_step ts (length ts) k id number (number_lt ts id k number)

-- the types before number n know what one of them counts as
limit_known : (ts : Types) (n id : ℕ) → IsAmong ts n id → limit_among ts n id ≡ limit_of ts id
unfolding limit_among
limit_known ts n id among =
    in_first-found no_limit limit_step ts n among.number id among.is among.below ∙ sym (limit_found ts id among.number among.is)

-- the length of an array leaves what the types before it count as
limit_stays : (ts : Types) (id k n q : ℕ) → number_of ts id ≡ Some k → IsAmong ts k q → limit_of (with_length ts id n) q ≡ limit_of ts q
unfolding limit_of limit_among
limit_stays ts id k n q number among = in_first_kept no_limit limit_step ts id k n q number among

-- the type that comes next is within the limits, where it passes none
next_within : (s : State) (id : ℕ) → number_of s.types id ≡ Some s.known → is_great_type s id ≡ false → IsWithin (limit_of s.types id)
next_within s id number h = rw (limit_found s.types id s.known number) (by_form (form_of s.types id) h)
  where
    by_form : (o : Option Form) → option_map_or (λ f. is_great (limit_step (limit_among s.types s.known) f)) o false ≡ false → IsWithin (option_map_or (limit_step (limit_among s.types s.known)) o no_limit)
    by_form None e = nothing_within
    by_form (Some f) e = within_by_test (limit_step (limit_among s.types s.known) f) e

-- ---- the cells of constants

-- constants of types among the first
abbrev Typed : Types → ℕ → ℕ × Row → Type 0
Typed ts known c = IsAmong ts known c.1.ty

cells_stay : (ts : Types) (id known n : ℕ) (cs : Constants) → number_of ts id ≡ Some known → AllByRecursion (Typed ts known) cs → constant_cells (with_length ts id n) cs ≡ constant_cells ts cs
cells_stay ts id known n [] number typed = refl
cells_stay ts id known n (c ∷ cs) number (first, rest) = rw (limit_stays ts id known n c.1.ty number first, cells_stay ts id known n cs number rest) refl

cells_push : (ts : Types) (cs : Constants) (id : ℕ) (v : Row) → constant_cells ts (cs ++ (id, v) ∷ []) ≡ constant_cells ts cs + (limit_of ts v.ty).cells
cells_push ts [] id v = omega arith
cells_push ts (c ∷ cs) id v = let rest = cells_push ts cs id v in omega arith

-- ---- what an instruction without a breach passes

-- no limit
no_limit_passed : (m : Context) (s u : State) (i : Inst) → breaches_at m s i ≡ [] → lengthened m s i ≡ Some u → passes_limit u i ≡ false
unfolding breaches_at
no_limit_passed m s u i h is = by_tests (keeps_rules m s i) (lengthened m s i) is h
  where
    by_tests : (b : Bool) (o : Option State) → o ≡ Some u
        → ◌++◌ {A = Refusal} (if b then [] else record { code = 14; word = i.word } ∷ []) (if option_map_or (λ t. passes_limit t i) o true then record { code = 18; word = i.word } ∷ [] else []) ≡ []
        → passes_limit u i ≡ false
    by_tests b None same e = absurd (cc)
    by_tests false (Some v) same e = absurd (cc)
    by_tests true (Some v) same e = let one : v ≡ u = cc in subst (λ (t : State). passes_limit t i ≡ false) one (by_limit (passes_limit v i) e)
      where
        by_limit : (c : Bool) → ◌++◌ {A = Refusal} [] (if c then record { code = 18; word = i.word } ∷ [] else []) ≡ [] → c ≡ false
        by_limit true f = absurd (cc)
        by_limit false f = refl

-- a type that comes next is not too great
type_small : (s : State) (i : Inst) → is_next s i.id ≡ true → passes_limit s i ≡ false → is_great_type s i.id ≡ false
type_small s i comes_next h = rw comes_next at h

-- nor are all constants with one more
constants_few : (s : State) (i : Inst) → is_next s i.id ≡ false → is_constant i.op ≡ true → passes_limit s i ≡ false → cells_with s i.ty ≤ 4194304
constants_few s i other constant h = let small : nat_lt 4194304 (cells_with s i.ty) ≡ false = rw (other, constant) at h in ltb-false 4194304 (cells_with s i.ty) small

unsaturated : (a b : ℕ) → min (a + b) (2 ^ 64 - 1) ≤ 4194304 → min (a + b) (2 ^ 64 - 1) ≡ a + b
unsaturated a b le = omega arith

-- ---- a state

-- What is so in the state after some instructions: as many types were passed as they declare, under their numbers, each within the
-- limits; constants have types among them; and the cells that were counted are those of the constants.
record Limited (insts front : List Inst) (s : State) : Type 0 where
  known : s.known ≡ length (types_in insts front)
  numbers : (q : ℕ) → number_of s.types q ≡ number_of (types_read insts) q
  types : (id : ℕ) → IsAmong s.types s.known id → IsWithin (limit_of s.types id)
  typed : AllByRecursion (Typed s.types s.known) s.values
  cells : constant_cells s.types s.values ≡ s.cells
  few : s.cells ≤ 4194304

types_more : (insts front : List Inst) (i : Inst) (f : Form) → defined_form insts i ≡ Some f → length (types_in insts (front ++ i ∷ [])) ≡ length (types_in insts front) + 1
unfolding types_in
types_more insts front i f e =
    let own : types_in insts (i ∷ []) ≡ (i.id, f) ∷ [] = rw e refl in
    rw (types_joined, own) (length-append (types_in insts front) ((i.id, f) ∷ []))

types_same : (insts front : List Inst) (i : Inst) → defined_form insts i ≡ None → length (types_in insts (front ++ i ∷ [])) ≡ length (types_in insts front)
unfolding types_in
types_same insts front i e =
    let own : types_in insts (i ∷ []) ≡ [] = rw e refl in
    rw (types_joined, own, append-nil) refl

limited_start : (insts : List Inst) (ts : Types) → ts ≡ types_read insts → Limited insts [] (start_of ts)
unfolding types_in
limited_start insts ts types = record {
  known = refl;
  numbers = λ q. ap (λ (us : Types). number_of us q) types;
  types = λ id among. let below : among.number < 0 = among.below in absurd (omega arith);
  typed = tt;
  cells = refl;
  few = omega arith;
}

-- one more type
type_entered : (m : Context) (front : List Inst) (i : Inst) (s : State) (f : Form) → Limited m.all front s → defined_form m.all i ≡ Some f → number_of s.types i.id ≡ Some s.known → passes_limit s i ≡ false
    → Limited m.all (front ++ i ∷ []) (with_entry m s i)
type_entered m front i s f limited form number none = subst (λ (t : State). Limited m.all (front ++ i ∷ []) t) (sym is) with_one
  where
    comes_next : is_next s i.id ≡ true
    comes_next = rw number (eq-eqb s.known s.known refl)

    is : with_entry m s i ≡ with_type s
    is = rw comes_next refl

    by_number : (id : ℕ) (among : IsAmong s.types (s.known + 1) id) → (among.number < s.known) ⊎ (s.known ≤ among.number) → IsWithin (limit_of s.types id)
    by_number id among (inl less) = limited.types id (record { number = among.number; is = among.is; below = less })
    by_number id among (inr more) =
        let below : among.number < s.known + 1 = among.below in
        let last : among.number ≡ s.known = omega arith in
        let same : i.id ≡ id = same_number s.types i.id id s.known number (among.is ∙ ap Some last) in
        subst (λ (q : ℕ). IsWithin (limit_of s.types q)) same (next_within s i.id number (type_small s i comes_next none))

    with_one : Limited m.all (front ++ i ∷ []) (with_type s)
    with_one = record {
      known = ap (λ (n : ℕ). n + 1) limited.known ∙ sym (types_more m.all front i f form);
      numbers = limited.numbers;
      types = λ id among. by_number id among (cases_lt among.number s.known);
      typed = each_weaker (Typed s.types s.known) (Typed s.types (s.known + 1)) (λ c among. wider s.types s.known (s.known + 1) c.1.ty (omega arith) among) s.values limited.typed;
      cells = limited.cells;
      few = limited.few;
    }

-- one more constant
constant_entered : (m : Context) (front : List Inst) (i : Inst) (s : State) → Limited m.all front s → IsPlaced m.all front i → defined_form m.all i ≡ None → is_next s i.id ≡ false → is_constant i.op ≡ true
    → keeps_rules m s i ≡ true → passes_limit s i ≡ false → Limited m.all (front ++ i ∷ []) (with_constant m s i)
constant_entered m front i s limited place form aside constant rules none = record {
  known = limited.known ∙ sym (types_same m.all front i form);
  numbers = limited.numbers;
  types = limited.types;
  typed = each_push (Typed s.types s.known) s.values (i.id, value_of m s i) limited.typed among;
  cells = together;
  few = small;
}
  where
    among : IsAmong s.types s.known i.ty
    among =
        let number = data_number s.types i.ty (constant_rules m s i constant rules) in
        let below = place.earlier constant number.0 (sym (limited.numbers i.ty) ∙ number.1) in
        record { number = number.0; is = number.1; below = subst (λ (n : ℕ). number.0 < n) (sym limited.known) below }

    small : cells_with s i.ty ≤ 4194304
    small = constants_few s i aside constant none

    whole : cells_with s i.ty ≡ s.cells + (limit_among s.types s.known i.ty).cells
    whole = unsaturated s.cells (limit_among s.types s.known i.ty).cells small

    together : constant_cells s.types (s.values ++ (i.id, value_of m s i) ∷ []) ≡ cells_with s i.ty
    together =
        let pushed : constant_cells s.types (s.values ++ (i.id, value_of m s i) ∷ []) ≡ constant_cells s.types s.values + (limit_of s.types i.ty).cells = cells_push s.types s.values i.id (value_of m s i) in
        let here : (limit_among s.types s.known i.ty).cells ≡ (limit_of s.types i.ty).cells = ap (λ (l : Limit). l.cells) (limit_known s.types s.known i.ty among) in
        let before : constant_cells s.types s.values ≡ s.cells = limited.cells in
        omega (arith, pushed, here, before, whole)

other_entered : (insts front : List Inst) (i : Inst) (s : State) → Limited insts front s → defined_form insts i ≡ None → Limited insts (front ++ i ∷ []) s
other_entered insts front i s limited form = record {
  known = limited.known ∙ sym (types_same insts front i form);
  numbers = limited.numbers;
  types = limited.types;
  typed = limited.typed;
  cells = limited.cells;
  few = limited.few;
}

-- ---- all of them

ends : (insts : List Inst) (ts : Types) (over : Numbers) (known : Types × Constants) → constants_of ts insts over ≡ Ok known
    → (front_breaches ts insts over ≡ []) × (known ≡ known_of (state_of ts insts over))
unfolding constants_of
ends insts ts over known is = by_breaches (front_breaches ts insts over) (lowest_wrong insts insts) is
  where
    by_breaches : (rs : List Refusal) (o : Option ℕ) → unless_earlier o (unless_refused (known_of (state_of ts insts over)) rs) ≡ Ok known → (rs ≡ []) × (known ≡ known_of (state_of ts insts over))
    by_breaches [] None e = (refl, cc)
    by_breaches [] (Some word) e = cc
    by_breaches (r ∷ rs) None e = cc
    by_breaches (r ∷ rs) (Some word) e = by_word (nat_le word r.word) e
      where
        by_word : (b : Bool) → (if b then Err (record { code = 14; word = word }) else Err r) ≡ Ok known → (r ∷ rs ≡ []) × (known ≡ known_of (state_of ts insts over))
        by_word true h = cc
        by_word false h = cc

module _
    (number_kept : (ts : Types) (id n q : ℕ) → number_of (with_length ts id n) q ≡ number_of ts q)
    (leaves_few : (ts : Types) (id n : ℕ) → cells_of ts id ≡ Some n → (limit_of ts id).cells < 18446744073709551615 → n ≤ (limit_of ts id).cells)
  where
    -- the length of the type that comes next
    length_set : (insts front : List Inst) (s : State) (id n : ℕ) → Limited insts front s → number_of s.types id ≡ Some s.known → Limited insts front (record s { types = with_length s.types id n })
    length_set insts front s id n limited number = record {
      known = limited.known;
      numbers = λ q. number_kept s.types id n q ∙ limited.numbers q;
      types = λ q among. let earlier : IsAmong s.types s.known q = record { number = among.number; is = sym (number_kept s.types id n q) ∙ among.is; below = among.below } in
          subst IsWithin (sym (limit_stays s.types id s.known n q number earlier)) (limited.types q earlier);
      typed = each_weaker (Typed s.types s.known) (Typed (with_length s.types id n) s.known)
          (λ c among. record { number = among.number; is = number_kept s.types id n c.1.ty ∙ among.is; below = among.below }) s.values limited.typed;
      cells = cells_stay s.types id s.known n s.values number limited.typed ∙ limited.cells;
      few = limited.few;
    }

    type_passes : (m : Context) (front : List Inst) (i : Inst) (s u : State) (f : Form) → Limited m.all front s → IsPlaced m.all front i → defined_form m.all i ≡ Some f → keeps_rules m s i ≡ true → lengthened m s i ≡ Some u
        → passes_limit u i ≡ false → Limited m.all (front ++ i ∷ []) (with_entry m u i)
    type_passes m front i s u f limited place form rules lengthens none = by_array (cases_Bool (i.op == 28))
      where
        number : number_of s.types i.id ≡ Some s.known
        number = limited.numbers i.id ∙ (place.type_at f form).0 ∙ ap Some (sym limited.known)

        unchanged : u ≡ s → Limited m.all (front ++ i ∷ []) (with_entry m u i)
        unchanged same = type_entered m front i u f (subst (Limited m.all front) (sym same) limited) form (subst (λ (t : State). number_of t.types i.id ≡ Some t.known) (sym same) number) none

        long : (n : ℕ) → u ≡ record s { types = with_length s.types i.id n } → Limited m.all (front ++ i ∷ []) (with_entry m u i)
        long n same =
            let v : State = record s { types = with_length s.types i.id n } in
            let limited_v : Limited m.all front v = length_set m.all front s i.id n limited number in
            let number_v : number_of v.types i.id ≡ Some v.known = number_kept s.types i.id n i.id ∙ number in
            type_entered m front i u f (subst (Limited m.all front) (sym same) limited_v) form (subst (λ (t : State). number_of t.types i.id ≡ Some t.known) (sym same) number_v) none

        by_length : ((n : ℕ) × (u ≡ record s { types = with_length s.types i.id n })) ⊎ ((u ≡ s) × (IsUnset (form_of s.types i.id) → ⊥)) → Limited m.all (front ++ i ∷ []) (with_entry m u i)
        by_length (inl (n, same)) = long n same
        by_length (inr (same, set)) = unchanged same

        by_array : ((i.op == 28) ≡ true) ⊎ ((i.op == 28) ≡ false) → Limited m.all (front ++ i ∷ []) (with_entry m u i)
        by_array (inl array) = by_length (array_length m s u i array rules (rw number (eq-eqb s.known s.known refl)) lengthens)
        by_array (inr no_array) = unchanged (no_length m s u i no_array lengthens)

    other_passes : (m : Context) (front : List Inst) (i : Inst) (s u : State) → Limited m.all front s → IsPlaced m.all front i → defined_form m.all i ≡ None → keeps_rules m s i ≡ true → lengthened m s i ≡ Some u
        → passes_limit u i ≡ false → Limited m.all (front ++ i ∷ []) (with_entry m u i)
    other_passes m front i s u limited place form rules lengthens none =
        subst (λ (t : State). Limited m.all (front ++ i ∷ []) (with_entry m t i)) (sym same) (by_kind (cases_Bool (is_constant i.op)))
      where
        same : u ≡ s
        same = no_length m s u i (place.no_array form) lengthens

        none_here : passes_limit s i ≡ false
        none_here = subst (λ (t : State). passes_limit t i ≡ false) same none

        aside : is_next s i.id ≡ false
        aside = rw (limited.numbers i.id ∙ place.no_type form) refl

        by_kind : (is_constant i.op ≡ true) ⊎ (is_constant i.op ≡ false) → Limited m.all (front ++ i ∷ []) (with_entry m s i)
        by_kind (inl constant) =
            let is : with_entry m s i ≡ with_constant m s i = rw (aside, constant) refl in
            subst (λ (t : State). Limited m.all (front ++ i ∷ []) t) (sym is) (constant_entered m front i s limited place form aside constant rules none_here)
        by_kind (inr no_constant) =
            let is : with_entry m s i ≡ s = rw (aside, no_constant) refl in
            subst (λ (t : State). Limited m.all (front ++ i ∷ []) t) (sym is) (other_entered m.all front i s limited form)

    step_limited : (m : Context) (front : List Inst) (i : Inst) (s : State) → Limited m.all front s → IsPlaced m.all front i → breaches_at m s i ≡ [] → Limited m.all (front ++ i ∷ []) (after_one m s i)
    step_limited m front i s limited place none = by_form (defined_form m.all i) refl
      where
        passes : (keeps_rules m s i ≡ true) × ((u : State) × (lengthened m s i ≡ Some u) × (after_one m s i ≡ with_entry m u i))
        passes = passed m s i none

        small : passes_limit passes.1.0 i ≡ false
        small = no_limit_passed m s passes.1.0 i none passes.1.1

        by_form : (o : Option Form) → defined_form m.all i ≡ o → Limited m.all (front ++ i ∷ []) (after_one m s i)
        by_form None e = subst (λ (v : State). Limited m.all (front ++ i ∷ []) v) (sym passes.1.2) (other_passes m front i s passes.1.0 limited place e passes.0 passes.1.1 small)
        by_form (Some f) e = subst (λ (v : State). Limited m.all (front ++ i ∷ []) v) (sym passes.1.2) (type_passes m front i s passes.1.0 f limited place e passes.0 passes.1.1 small)

    walk_limited : (m : Context) (front rest tail : List Inst) (s : State) → Ascend 0 m.all → AreNamed m.all → type_breaches m.all [] (before_functions m.all) ≡ [] → before_functions m.all ≡ front ++ rest → m.all ≡ front ++ (rest ++ tail)
        → Limited m.all front s → breaches_from m s rest ≡ [] → Limited m.all (before_functions m.all) (after_all m s rest)
    unfolding after_all breaches_from
    walk_limited m front [] tail s ascend named none place whole limited no_breaches =
        let all_of : front ≡ before_functions m.all = sym (place ∙ append-nil front) in
        subst (λ (is : List Inst). Limited m.all is s) all_of limited
    walk_limited m front (i ∷ rest) tail s ascend named none place whole limited no_breaches =
        let both = both_empty (breaches_at m s i) (breaches_from m (after_one m s i) rest) no_breaches in
        walk_limited m (front ++ i ∷ []) rest tail (after_one m s i) ascend named none (place ∙ sym (append_assoc front (i ∷ []) rest)) (whole ∙ sym (append_assoc front (i ∷ []) (rest ++ tail)))
        (step_limited m front i s limited (placed m.all front rest tail i place whole ascend named none) both.0) both.1

    keeps : (insts : List Inst) (s : State) → Limited insts (before_functions insts) s → KeepLimits s.types s.values
    keeps insts s limited = record {
      types = within;
      leaves = λ id n is.
          let small : (limit_of s.types id).cells ≤ 4194304 = (within id).cells in
          let uncounted : (limit_of s.types id).cells < 18446744073709551615 = omega arith in
          let few : n ≤ (limit_of s.types id).cells = leaves_few s.types id n is uncounted in
          omega arith;
      constants = rw limited.cells limited.few;
    }
      where
        by_number : (id : ℕ) (o : Option ℕ) → number_of s.types id ≡ o → IsWithin (limit_of s.types id)
        by_number id None e = unknown_within s.types id e
        by_number id (Some n) e =
            let below : n < length (types_read insts) = number_lt (types_read insts) id n (sym (limited.numbers id) ∙ e) in
            limited.types id (record { number = n; is = e; below = subst (λ (k : ℕ). n < k) (sym limited.known) below })

        within : (id : ℕ) → IsWithin (limit_of s.types id)
        within id = by_number id (number_of s.types id) refl

    pub limits_are_kept : (insts : List Inst) (ts : Types) (over : Numbers) (known : Types × Constants) → Ascend 0 insts → AreNamed insts → types_of insts ≡ Ok ts → constants_of ts insts over ≡ Ok known
        → KeepLimits known.0 known.1
    limits_are_kept insts ts over known ascend named typed is =
        let ended = ends insts ts over known is in
        let rules = accepted_is insts ts typed in
        let front = before_is_front insts in
        let start : Limited insts [] (start_of ts) = limited_start insts ts (sym rules.1) in
        let end : Limited insts (before_functions insts) (state_of ts insts over) = walk_limited (context_of ts insts over) [] (before_functions insts) front.0 (start_of ts) ascend named rules.0 refl front.1 start ended.0 in
        subst (λ (k : Types × Constants). KeepLimits k.0 k.1) (sym ended.1) (keeps insts (state_of ts insts over) end)
