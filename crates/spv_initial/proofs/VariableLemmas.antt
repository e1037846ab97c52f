-- The variables of a module: no two have one id, and each may have values of its type.
use Rattle.std.proofs.Common.{◌≡◌, ◌≢◌, ◌∙◌, ◌⊎◌, ℕ, zero, suc, ◌+◌, ◌<◌, ◌==◌, ◌&&◌, ◌||◌, Bool, true, false, List, [], ◌∷◌, ◌++◌, length, take, get_or, Option, Some, None, inl, inr, refl, sym, ap, subst, arith}
use Rattle.std.specs.Prelude.{if◌then◌else◌, nat_lt}
use Rattle.std.specs.List.{AllByRecursion, cons_option, filter_map}
use Rattle.std.specs.Option.{option_and_then, option_map}
use Rattle.std.proofs.lemmas.Bool.{and_parts, eq-eqb, ltb-true, ne_eqb}
use Rattle.std.proofs.lemmas.List.{take_more}
use Rattle.std.proofs.lemmas.List.Elements.{filter_map-append}
use Rattle.std.proofs.lemmas.Option.{get_or_from_slice_get, slice_get-get_or}
use Rattle.spv_base.specs.Entries.{reads}
use Rattle.spv_base.specs.Order.{AreDistinct}
use Rattle.spv_base.specs.declared.instructions.Inst.{Inst}
use Rattle.spv_base.specs.declared.values.Value.{Value}
use Rattle.spv_types.specs.Queries.{pointee}
use Rattle.spv_types.specs.Rules.{is_data}
use Rattle.spv_types.specs.Types.{Types, form_of}
use Rattle.spv_types.specs.declared.queries.Pointed.{Pointed}
use Rattle.spv_mem.specs.Targets.{is_counted, is_open_block, may_be_target}
use Rattle.spv_initial.specs.Start.{root}
use Rattle.spv_initial.specs.Variables.{AreApart, AreDeclared, Holds, declared_as, declared_by, declared_in, may_hold, targets_of, variable_of}
use Rattle.spv_initial.specs.declared.variables.Declared.{Declared}

-- ---- lists

-- one more of those that a test gives
pub filter_map_next : {X Y : Type 0} (f : X → Option Y) (xs : List X) (k : ℕ) (x : X) → k < length xs → x ≡ get_or xs k x
    → filter_map f (take (k + 1) xs) ≡ filter_map f (take k xs) ++ cons_option (f x) []
filter_map_next f xs k x inside is =
    ap (filter_map f) (take_more xs k x inside) ∙ filter_map-append f (take k xs) (get_or xs k x ∷ [])
    ∙ ap (λ y. filter_map f (take k xs) ++ cons_option (f y) []) (sym is)

pub each_at : {X : Type 0} (P : X → Type 0) (xs : List X) (k : ℕ) (x : X) → AllByRecursion P xs → k < length xs → x ≡ get_or xs k x → P x
each_at P [] k x all inside is = absurd (omega (arith, inside))
each_at P (y ∷ ys) zero x (first, rest) inside is = subst P (sym is) first
each_at P (y ∷ ys) (suc k) x (first, rest) inside is = each_at P ys k x rest (omega (arith, inside)) is

-- the variable with a number, as code reads it off a list
abbrev pub item : List Declared → ℕ → Declared
item ds k = get_or ds k (record { id = 0; class = 0; target = 0; initializer = None })

pub item_is : (ds : List Declared) (k : ℕ) → k < length ds → item ds k ≡ get_or ds k (item ds k)
item_is ds k inside =
    sym (get_or_from_slice_get ds k (item ds k) (item ds k) (slice_get-get_or ds k (record { id = 0; class = 0; target = 0; initializer = None }) inside))

-- ---- what an instruction declares

as_is : (ts : Types) (i : Inst) (p : Pointed) (d : Declared) → declared_as ts i p ≡ Some d → (d.id ≡ i.id) × Holds ts d
as_is ts i p d h = by_test (may_hold ts p.class p.target) refl h
  where
    by_test : (b : Bool) → may_hold ts p.class p.target ≡ b → (if b then Some (variable_of i p) else None) ≡ Some d → (d.id ≡ i.id) × Holds ts d
    by_test true e g =
        let same : variable_of i p ≡ d = cc in
        (ap (λ (x : Declared). x.id) (sym same), ap (λ (x : Declared). may_hold ts x.class x.target) (sym same) ∙ e)
    by_test false e g = absurd (cc)

pub by_is : (ts : Types) (i : Inst) (d : Declared) → declared_by ts i ≡ Some d → (0 < i.id) × ((d.id ≡ i.id) × Holds ts d)
unfolding declared_by
by_is ts i d h = by_tests (i.op == 59) (nat_lt 0 i.id) refl h
  where
    by_form : (o : Option Pointed) → option_and_then (declared_as ts i) o ≡ Some d → (d.id ≡ i.id) × Holds ts d
    by_form None g = absurd (cc)
    by_form (Some p) g = as_is ts i p d g

    by_tests : (a b : Bool) → nat_lt 0 i.id ≡ b → (if a && b then option_and_then (declared_as ts i) (pointee (form_of ts i.ty)) else None) ≡ Some d
        → (0 < i.id) × ((d.id ≡ i.id) × Holds ts d)
    by_tests true true e g = (ltb-true 0 i.id e, by_form (pointee (form_of ts i.ty)) g)
    by_tests true false e g = absurd (cc)
    by_tests false b e g = absurd (cc)

-- ---- the variables of instructions no two of which have one result

differ : (ts : Types) (insts : List Inst) (id : ℕ) → AllByRecursion (λ (later : Inst). later.id ≢ id) insts → AllByRecursion (λ (later : Declared). later.id ≢ id) (declared_in ts insts)
unfolding declared_in
differ ts [] id h = tt
differ ts (i ∷ insts) id (first, rest) = by_case (declared_by ts i) refl (differ ts insts id rest)
  where
    by_case : (o : Option Declared) → declared_by ts i ≡ o → AllByRecursion (λ (later : Declared). later.id ≢ id) (filter_map (declared_by ts) insts)
        → AllByRecursion (λ (later : Declared). later.id ≢ id) (cons_option o (filter_map (declared_by ts) insts))
    by_case None e more = more
    by_case (Some d) e more = (λ same. first (sym (by_is ts i d e).1.0 ∙ same), more)

pub apart : (ts : Types) (insts : List Inst) → AreDistinct insts → AreApart (declared_in ts insts)
unfolding declared_in
apart ts [] h = tt
apart ts (i ∷ insts) (first, rest) = by_case (declared_by ts i) refl first (apart ts insts rest)
  where
    by_case : (o : Option Declared) → declared_by ts i ≡ o → (i.id ≡ 0) ⊎ AllByRecursion (λ (later : Inst). later.id ≢ i.id) insts → AreApart (filter_map (declared_by ts) insts)
        → AreApart (cons_option o (filter_map (declared_by ts) insts))
    by_case None e others more = more
    by_case (Some d) e (inl none) more = let some : 0 < i.id = (by_is ts i d e).0 in absurd (omega (arith, some, none))
    by_case (Some d) e (inr others) more =
        (subst (λ (n : ℕ). AllByRecursion (λ (later : Declared). later.id ≢ n) (declared_in ts insts)) (sym (by_is ts i d e).1.0) (differ ts insts i.id others), more)

pub hold : (ts : Types) (insts : List Inst) → AllByRecursion (Holds ts) (declared_in ts insts)
unfolding declared_in
hold ts [] = tt
hold ts (i ∷ insts) = by_case (declared_by ts i) refl (hold ts insts)
  where
    by_case : (o : Option Declared) → declared_by ts i ≡ o → AllByRecursion (Holds ts) (filter_map (declared_by ts) insts) → AllByRecursion (Holds ts) (cons_option o (filter_map (declared_by ts) insts))
    by_case None e more = more
    by_case (Some d) e more = ((by_is ts i d e).1.1, more)

pub are_declared : (ts : Types) (insts : List Inst) → AreDistinct insts → AreDeclared ts (declared_in ts insts)
are_declared ts insts distinct = record { apart = apart ts insts distinct; hold = hold ts insts }

pub next_declared : (ts : Types) (insts : List Inst) (k : ℕ) (i : Inst) (new old : List Declared) (o : Option Declared) → k < length insts → i ≡ get_or insts k i
    → o ≡ declared_by ts i → new ≡ old ++ cons_option o [] → old ≡ declared_in ts (take k insts) → new ≡ declared_in ts (take (k + 1) insts)
unfolding declared_in
next_declared ts insts k i new old o inside is by pushed before =
    pushed ∙ ap (λ (ds : List Declared). ds ++ cons_option o []) before ∙ ap (λ (x : Option Declared). filter_map (declared_by ts) (take k insts) ++ cons_option x []) by
    ∙ sym (filter_map_next (declared_by ts) insts k i inside is)

-- ---- their targets

pub target_of : (ts : Types) (class id : ℕ) → may_hold ts class id ≡ true → may_be_target ts id ≡ true
target_of ts class id h = by_count (is_counted ts id) (class == 12) (and_parts (is_data (form_of ts id)) _ h).1
  where
    by_count : (a b : Bool) → (a || (b && (a || is_open_block ts (form_of ts id)))) ≡ true → (a || is_open_block ts (form_of ts id)) ≡ true
    by_count true b g = refl
    by_count false true g = g
    by_count false false g = absurd (cc)

pub data_of : (ts : Types) (class id : ℕ) → may_hold ts class id ≡ true → is_data (form_of ts id) ≡ true
data_of ts class id h = (and_parts (is_data (form_of ts id)) _ h).0

pub targets_hold : (ts : Types) (ds : List Declared) (id ty : ℕ) → AllByRecursion (Holds ts) ds → reads id (targets_of ds) ≡ Some ty → may_be_target ts ty ≡ true
targets_hold ts [] id ty all is = absurd (cc)
targets_hold ts (d ∷ ds) id ty (first, rest) is = by_test (d.id == id) (λ g. targets_hold ts ds id ty rest g) is
  where
    by_test : (b : Bool) → (reads id (targets_of ds) ≡ Some ty → may_be_target ts ty ≡ true) → (if b then Some d.target else reads id (targets_of ds)) ≡ Some ty → may_be_target ts ty ≡ true
    by_test true more g =
        let same : d.target ≡ ty = cc in
        subst (λ (n : ℕ). may_be_target ts n ≡ true) same (target_of ts d.class d.target first)
    by_test false more g = more g

pub named : (ds : List Declared) (k : ℕ) (d : Declared) → AreApart ds → k < length ds → d ≡ get_or ds k d → reads d.id (targets_of ds) ≡ Some d.target
named [] k d h inside is = absurd (omega (arith, inside))
named (e ∷ ds) zero d h inside is =
    let own : (e.id == d.id) ≡ true = eq-eqb e.id d.id (ap (λ (x : Declared). x.id) (sym is)) in
    rw own (ap (λ (x : Declared). Some x.target) (sym is))
named (e ∷ ds) (suc k) d (first, rest) inside is =
    let later : k < length ds = omega (arith, inside) in
    let other : (e.id == d.id) ≡ false = ne_eqb e.id d.id (λ same. each_at (λ (x : Declared). x.id ≢ e.id) ds k d first later is (sym same)) in
    rw other (named ds k d rest later is)

-- ---- their roots

-- what each variable gives stands under its id
abbrev pub UnderIds : (Declared → Option (ℕ × Value)) → Type 0
UnderIds f = (d : Declared) (e : ℕ × Value) → f d ≡ Some e → e.0 ≡ d.id

pub root_under : (value : Declared → Option Value) → UnderIds (λ (d : Declared). root d (value d))
root_under value d e h = by_case (value d) h
  where
    by_case : (o : Option Value) → option_map {U = ℕ × Value} (λ (x : Value). (d.id, x)) o ≡ Some e → e.0 ≡ d.id
    by_case None g = absurd (cc)
    by_case (Some v) g = let same : e ≡ (d.id, v) = cc in ap (λ (p : ℕ × Value). p.0) same

unread : (f : Declared → Option (ℕ × Value)) → UnderIds f → (ds : List Declared) (id : ℕ) → AllByRecursion (λ (d : Declared). d.id ≢ id) ds → reads id (filter_map f ds) ≡ None
unread f under [] id h = refl
unread f under (d ∷ ds) id (first, rest) = by_case (f d) refl (unread f under ds id rest)
  where
    by_case : (o : Option (ℕ × Value)) → f d ≡ o → reads id (filter_map f ds) ≡ None → reads id (cons_option o (filter_map f ds)) ≡ None
    by_case None e more = more
    by_case (Some x) e more =
        let other : (x.0 == id) ≡ false = ne_eqb x.0 id (λ same. first (sym (under d x e) ∙ same)) in
        rw other more

earlier : (ds : List Declared) (k : ℕ) (d : Declared) → AreApart ds → k < length ds → d ≡ get_or ds k d → AllByRecursion (λ (e : Declared). e.id ≢ d.id) (take k ds)
earlier [] k d h inside is = absurd (omega (arith, inside))
earlier (e ∷ ds) zero d h inside is = tt
earlier (e ∷ ds) (suc k) d (first, rest) inside is =
    let later : k < length ds = omega (arith, inside) in
    (λ same. each_at (λ (x : Declared). x.id ≢ e.id) ds k d first later is (sym same), earlier ds k d rest later is)

-- the variables before one have other ids
pub fresh : (f : Declared → Option (ℕ × Value)) → UnderIds f → (ds : List Declared) (k : ℕ) (d : Declared) → AreApart ds → k < length ds → d ≡ get_or ds k d
    → reads d.id (filter_map f (take k ds)) ≡ None
fresh f under ds k d h inside is = unread f under (take k ds) d.id (earlier ds k d h inside is)
