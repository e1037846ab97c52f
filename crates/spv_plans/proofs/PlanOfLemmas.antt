-- The plan that is read off a module: no id stands twice in it, it is the plan of its function, and no other one is.
use Rattle.std.proofs.Common.{◌≡◌, ◌∙◌, ℕ, suc, Bool, true, false, List, [], ◌∷◌, Option, Some, None, map, slice_get, unwrap_or, refl, sym, ap, subst}
use Rattle.std.proofs.lemmas.Bool.{not_from_false}
use Rattle.std.proofs.Math.Logic.{∥∥₁_elim}
use Rattle.std.proofs.Props.{props}
use Rattle.std.specs.Coded.{codes}
use Rattle.std.specs.List.{AllByRecursion, filter}
use Rattle.std.specs.Option.{is_some}
use Rattle.spv_base.specs.declared.instructions.Inst.{Inst}
use Rattle.spv_index.specs.Classes.{sets_of}
use Rattle.spv_index.specs.Positions.{outside}
use Rattle.spv_types.specs.Cells.{cells_of}
use Rattle.spv_types.specs.Queries.{is_pointer}
use Rattle.spv_types.specs.Types.{Types, form_of}
use Rattle.spv_valid.specs.Acceptance.{Accepted, IsAccepted}
use Rattle.spv_valid.specs.Validity.{IsValid}
use Rattle.spv_frame.specs.declared.slots.Place.{Place}
use Rattle.spv_frame.specs.declared.slots.Place.TheVariants.{Value, Pointer}
use Rattle.spv_frame.specs.Plans.{AreApart, planned}
use Rattle.spv_frame.specs.Registers.{Planned, Rooms, ids, number_of}
use Rattle.spv_frame.proofs.Exports.{planned_is}
use Rattle.spv_plans.specs.Members.{first_stop, members, stands_in}
use Rattle.spv_plans.specs.Plans.{IsPlan, counted, functions_in, id_at, parameters_among, place_among, plan_of, plans_in, pointers_among, values_among}
use Rattle.spv_plans.specs.Registered.{HasApart}
use Rattle.spv_plans.specs.Registers.{has_cells, has_pointer, is_parameter, registers_of}
use Rattle.spv_plans.proofs.ApartLemmas.{ids_apart}
use Rattle.spv_plans.proofs.ComesLemmas.{one_kind, pointer_comes, value_comes}
use Rattle.spv_plans.proofs.NumberLemmas.{filtered, filtered_there, map_at, map_from, number_gets, number_none, number_there}

pub function_is : (a : Accepted) (function : ℕ) → (plan_of a function).function ≡ function
unfolding plan_of
function_is a function = refl

-- ---- no id stands twice

ids_among : (ts : Types) (is : List Inst) → ids (map (λ (i : Inst). (i.id, unwrap_or (cells_of ts i.ty) 0)) is) ≡ map (λ (i : Inst). i.id) is
ids_among ts [] = refl
ids_among ts (i ∷ is) = ap (λ (ks : List ℕ). i.id ∷ ks) (ids_among ts is)

values_apart : (a : Accepted) (function : ℕ) → IsValid a → AreApart (ids (plan_of a function).values)
unfolding plan_of
values_apart a function v =
    subst AreApart (sym (ids_among a.types (filter (has_cells a.types) (registers_of a.types a.insts function))))
    (ids_apart a.types (has_cells a.types) (stands_in function) (sets_of a.insts) outside a.insts v.named.distinct)

pointers_apart : (a : Accepted) (function : ℕ) → IsValid a → AreApart (plan_of a function).pointers
unfolding plan_of
pointers_apart a function v = ids_apart a.types (has_pointer a.types) (stands_in function) (sets_of a.insts) outside a.insts v.named.distinct

pub apart : (valid : (a : Accepted) → IsAccepted a → IsValid a) (a : Accepted) → ∥ IsAccepted a ∥₁ → (function : ℕ) → HasApart (plan_of a function)
apart valid a accepted function = record {
  values = ∥∥₁_elim accepted (hlevel (props, codes)) (λ (is : IsAccepted a). values_apart a function (valid a is));
  pointers = ∥∥₁_elim accepted (hlevel (props, codes)) (λ (is : IsAccepted a). pointers_apart a function (valid a is));
  kinds = λ id n h. number_none id (plan_of a function).pointers
      (λ m g. one_kind valid a accepted function function id (value_comes a function n id (number_gets id (ids (plan_of a function).values) n h)).comes
      (pointer_comes a function m id (number_gets id (plan_of a function).pointers m g)));
}

-- ---- it is the only plan of its function

uncounted : ℕ × Option ℕ → ℕ × ℕ
uncounted e = (e.0, unwrap_or e.1 0)

rooms_back : (rs : Rooms) → map uncounted (map counted rs) ≡ rs
unfolding uncounted
rooms_back [] = refl
rooms_back (r ∷ rs) = ap (λ (x : Rooms). r ∷ x) (rooms_back rs)

cells_back : (ts : Types) (is : List Inst) → map uncounted (map (λ (i : Inst). (i.id, cells_of ts i.ty)) is) ≡ map (λ (i : Inst). (i.id, unwrap_or (cells_of ts i.ty) 0)) is
unfolding uncounted
cells_back ts [] = refl
cells_back ts (i ∷ is) = ap (λ (x : Rooms). (i.id, unwrap_or (cells_of ts i.ty) 0) ∷ x) (cells_back ts is)

values_back : (ts : Types) (is : List Inst) (rs : Rooms) → map counted rs ≡ map (λ (i : Inst). (i.id, cells_of ts i.ty)) (filter (has_cells ts) is) → rs ≡ values_among ts is
values_back ts is rs h = sym (rooms_back rs) ∙ ap (map uncounted) h ∙ cells_back ts (filter (has_cells ts) is)

-- a place is that of the id that stands there
place_back : (p : Planned) → HasApart p → (place : Place) (id : ℕ) → id_at p.values p.pointers place ≡ Some id → place ≡ place_among p.values p.pointers id
place_back p apart (Value n) id h =
    let number : number_of id (ids p.values) ≡ Some n = apart.values n id h in
    rw number refl
place_back p apart (Pointer n) id h =
    let number : number_of id p.pointers ≡ Some n = apart.pointers n id h in
    let none : number_of id (ids p.values) ≡ None = number_none id (ids p.values) (λ m g. let clash : None ≡ Some n = sym (apart.kinds id m g) ∙ number in cc) in
    rw (none, number) refl

places_back : (p : Planned) → HasApart p → (places : List Place) (is : List Inst) → map (id_at p.values p.pointers) places ≡ map (λ (i : Inst). Some i.id) is
    → places ≡ map (λ (i : Inst). place_among p.values p.pointers i.id) is
places_back p apart [] [] h = refl
places_back p apart [] (i ∷ is) h = absurd (cc)
places_back p apart (x ∷ xs) [] h = absurd (cc)
places_back p apart (x ∷ xs) (i ∷ is) h =
    let first : id_at p.values p.pointers x ≡ Some i.id = cc in
    let rest : map (id_at p.values p.pointers) xs ≡ map (λ (j : Inst). Some j.id) is = cc in
    ap (λ (y : Place). y ∷ xs) (place_back p apart x i.id first) ∙ ap (λ (ys : List Place). place_among p.values p.pointers i.id ∷ ys) (places_back p apart xs is rest)

pub only : (a : Accepted) (p : Planned) → HasApart (plan_of a p.function) → IsPlan a p → p ≡ plan_of a p.function
unfolding plan_of
only a p apart is =
    let ts : Types = a.types in
    let rs : List Inst = registers_of ts a.insts p.function in
    let first : p.first ≡ unwrap_or (first_stop (members a.insts p.function)) 0 = sym (ap (λ (o : Option ℕ). unwrap_or o 0) is.first) in
    let values : p.values ≡ values_among ts rs = values_back ts rs p.values is.registers.values in
    let pointers : p.pointers ≡ pointers_among ts rs = is.registers.pointers in
    let here : map (id_at (values_among ts rs) (pointers_among ts rs)) p.parameters ≡ map (λ (i : Inst). Some i.id) (filter is_parameter rs)
    = ap (λ (ps : List ℕ). map (id_at (values_among ts rs) ps) p.parameters) (sym pointers) ∙ ap (λ (vs : Rooms). map (id_at vs p.pointers) p.parameters) (sym values) ∙ is.registers.parameters in
    let parameters : p.parameters ≡ parameters_among ts rs = places_back (plan_of a p.function) apart p.parameters (filter is_parameter rs) here in
    ap (λ (x : ℕ). planned p.function x p.parameters p.values p.pointers p.types) first
    ∙ planned_is p.function (unwrap_or (first_stop (members a.insts p.function)) 0) p.parameters (parameters_among ts rs) p.values (values_among ts rs) p.pointers (pointers_among ts rs)
    p.types (map (λ (i : Inst). (i.id, i.ty)) rs) parameters values pointers is.registers.types

-- ---- it is a plan of its function

some_back : (o : Option ℕ) → is_some o ≡ true → Some (unwrap_or o 0) ≡ o
some_back None h = absurd (cc)
some_back (Some n) h = refl

counted_back : (ts : Types) (is : List Inst) → ((n : ℕ) (i : Inst) → slice_get is n ≡ Some i → is_some (cells_of ts i.ty) ≡ true)
    → map counted (map (λ (i : Inst). (i.id, unwrap_or (cells_of ts i.ty) 0)) is) ≡ map (λ (i : Inst). (i.id, cells_of ts i.ty)) is
counted_back ts [] h = refl
counted_back ts (i ∷ is) h =
    let own : Some (unwrap_or (cells_of ts i.ty) 0) ≡ cells_of ts i.ty = some_back (cells_of ts i.ty) (h 0 i refl) in
    ap (λ (o : Option ℕ). (i.id, o) ∷ map counted (map (λ (j : Inst). (j.id, unwrap_or (cells_of ts j.ty) 0)) is)) own
    ∙ ap (λ (es : List (ℕ × Option ℕ)). (i.id, cells_of ts i.ty) ∷ es) (counted_back ts is (λ n. h (suc n)))

place_gets : (vs : Rooms) (ps : List ℕ) (id : ℕ) → (number_of id (ids vs) ≡ None → (m : ℕ) × (number_of id ps ≡ Some m)) → id_at vs ps (place_among vs ps id) ≡ Some id
place_gets vs ps id h = by_value (number_of id (ids vs)) refl
  where
    by_value : (o : Option ℕ) → number_of id (ids vs) ≡ o → id_at vs ps (place_among vs ps id) ≡ Some id
    by_value None e = let pointer = h e in let number : number_of id ps ≡ Some pointer.0 = pointer.1 in rw (e, number) (number_gets id ps pointer.0 number)
    by_value (Some n) e = rw e (number_gets id (ids vs) n e)

register_gets : (ts : Types) (is : List Inst) (k : ℕ) (i : Inst) → slice_get is k ≡ Some i
    → id_at (values_among ts is) (pointers_among ts is) (place_among (values_among ts is) (pointers_among ts is) i.id) ≡ Some i.id
register_gets ts is k i at = place_gets (values_among ts is) (pointers_among ts is) i.id (by_kind (is_pointer (form_of ts i.ty)) refl)
  where
    by_kind : (b : Bool) → is_pointer (form_of ts i.ty) ≡ b → number_of i.id (ids (values_among ts is)) ≡ None → (m : ℕ) × (number_of i.id (pointers_among ts is) ≡ Some m)
    by_kind true e none =
        let there = filtered_there (has_pointer ts) is k i at e in
        number_there i.id (pointers_among ts is) there.0 (map_at (λ (j : Inst). j.id) (filter (has_pointer ts) is) there.0 i there.1)
    by_kind false e none =
        let there = filtered_there (has_cells ts) is k i at (not_from_false (is_pointer (form_of ts i.ty)) e) in
        let number = number_there i.id (ids (values_among ts is)) there.0
        (map_at (λ (r : ℕ × ℕ). r.0) (values_among ts is) there.0 (i.id, unwrap_or (cells_of ts i.ty) 0)
        (map_at (λ (j : Inst). (j.id, unwrap_or (cells_of ts j.ty) 0)) (filter (has_cells ts) is) there.0 i there.1)) in
        let clash : None ≡ Some number.0 = sym none ∙ number.1 in
        absurd (cc)

parameters_get : (vs : Rooms) (ps : List ℕ) (is : List Inst) → ((n : ℕ) (i : Inst) → slice_get is n ≡ Some i → id_at vs ps (place_among vs ps i.id) ≡ Some i.id)
    → map (id_at vs ps) (map (λ (i : Inst). place_among vs ps i.id) is) ≡ map (λ (i : Inst). Some i.id) is
parameters_get vs ps [] h = refl
parameters_get vs ps (i ∷ is) h =
    ap (λ (o : Option ℕ). o ∷ map (id_at vs ps) (map (λ (j : Inst). place_among vs ps j.id) is)) (h 0 i refl)
    ∙ ap (λ (os : List (Option ℕ)). Some i.id ∷ os) (parameters_get vs ps is (λ n. h (suc n)))

pub has : (a : Accepted) (function : ℕ) → is_some (first_stop (members a.insts function)) ≡ true
    → ((n : ℕ) (i : Inst) → slice_get (filter (has_cells a.types) (registers_of a.types a.insts function)) n ≡ Some i → is_some (cells_of a.types i.ty) ≡ true) → IsPlan a (plan_of a function)
unfolding plan_of
has a function stops known =
    let ts : Types = a.types in
    let rs : List Inst = registers_of ts a.insts function in
    record {
      first = sym (some_back (first_stop (members a.insts function)) stops);
      registers = record {
        values = counted_back ts (filter (has_cells ts) rs) known;
        pointers = refl;
        types = refl;
        parameters = parameters_get (values_among ts rs) (pointers_among ts rs) (filter is_parameter rs)
            (λ n i at. let among = filtered is_parameter rs n i at in register_gets ts rs among.0 i among.1);
      };
    }

-- ---- the plans of a module

own_plans : (a : Accepted) (ps : List Planned) → ((p : Planned) → IsPlan a p → p ≡ plan_of a p.function) → AllByRecursion (IsPlan a) ps → ps ≡ map (plan_of a) (map (λ (p : Planned). p.function) ps)
own_plans a [] law h = refl
own_plans a (p ∷ ps) law h =
    ap (λ (q : Planned). q ∷ ps) (law p h.0) ∙ ap (λ (qs : List Planned). plan_of a p.function ∷ qs) (own_plans a ps law h.1)

plans_by_ids : (a : Accepted) (fs : List (ℕ × ℕ)) → map (plan_of a) (map (λ (f : ℕ × ℕ). f.0) fs) ≡ map (λ (f : ℕ × ℕ). plan_of a f.0) fs
plans_by_ids a [] = refl
plans_by_ids a (f ∷ fs) = ap (λ (ps : List Planned). plan_of a f.0 ∷ ps) (plans_by_ids a fs)

pub plans_are : (a : Accepted) (ps : List Planned) (fs : List (ℕ × ℕ)) → ((p : Planned) → IsPlan a p → p ≡ plan_of a p.function) → AllByRecursion (IsPlan a) ps
    → map (λ (p : Planned). p.function) ps ≡ map (λ (f : ℕ × ℕ). f.0) fs → ps ≡ map (λ (f : ℕ × ℕ). plan_of a f.0) fs
plans_are a ps fs law h functions = own_plans a ps law h ∙ ap (map (plan_of a)) functions ∙ plans_by_ids a fs

-- the number of a function is that of its plan
pub plan_at : (a : Accepted) (k function : ℕ) → slice_get (functions_in a) k ≡ Some function → slice_get (plans_in a) k ≡ Some (plan_of a function)
plan_at a k function h =
    let f = map_from (λ (f : ℕ × ℕ). f.0) _ k function h in
    map_at (λ (f : ℕ × ℕ). plan_of a f.0) _ k f.0 f.1 ∙ ap (λ (id : ℕ). Some (plan_of a id)) f.2

pub record OfFunction (a : Accepted) (k : ℕ) (p : Planned) : Type 0 where
  pub at : slice_get (functions_in a) k ≡ Some p.function
  pub is : p ≡ plan_of a p.function

pub plan_from : (a : Accepted) (k : ℕ) (p : Planned) → slice_get (plans_in a) k ≡ Some p → OfFunction a k p
plan_from a k p h =
    let f = map_from (λ (f : ℕ × ℕ). plan_of a f.0) _ k p h in
    let named : f.0.0 ≡ p.function = sym (function_is a f.0.0) ∙ ap (λ (q : Planned). q.function) f.2 in
    record {
      at = map_at (λ (f : ℕ × ℕ). f.0) _ k f.0 f.1 ∙ ap (λ (id : ℕ). Some id) named;
      is = sym f.2 ∙ ap (plan_of a) named;
    }
