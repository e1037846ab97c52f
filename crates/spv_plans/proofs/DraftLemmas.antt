-- A plan with one more register.
use Rattle.std.proofs.Common.{◌≡◌, ◌∙◌, ℕ, zero, suc, Bool, true, false, cond, List, [], ◌∷◌, ◌++◌, Option, Some, map, length, append-nil, slice_get, refl, sym, ap, subst}
use Rattle.std.specs.List.{filter}
use Rattle.spv_base.specs.declared.instructions.Inst.{Inst}
use Rattle.spv_types.specs.Cells.{cells_of}
use Rattle.spv_types.specs.Queries.{is_pointer}
use Rattle.spv_types.specs.Types.{Types, form_of}
use Rattle.spv_frame.specs.declared.slots.Place.{Place}
use Rattle.spv_frame.specs.declared.slots.Place.TheVariants.{Value, Pointer}
use Rattle.spv_frame.specs.Registers.{Planned, Rooms, ids}
use Rattle.spv_plans.specs.Drafts.{Grows, with_pointer, with_value}
use Rattle.spv_plans.specs.Plans.{HasRegisters, counted, id_at}
use Rattle.spv_plans.specs.Registers.{has_cells, has_pointer, is_parameter, is_register, register_in}

-- ---- lists with one more element

map_more : {X Y : Type 0} (f : X → Y) (xs : List X) (x : X) → map f (xs ++ x ∷ []) ≡ map f xs ++ f x ∷ []
map_more f [] x = refl
map_more {X} {Y} f (y ∷ xs) x = ap (λ (ys : List Y). f y ∷ ys) (map_more f xs x)

kept_more : {X Y : Type 0} (f : X → Y) (test : X → Bool) (xs : List X) (x : X) → test x ≡ true → map f (filter test (xs ++ x ∷ [])) ≡ map f (filter test xs) ++ f x ∷ []
kept_more f test [] x e = rw e refl
kept_more {X} {Y} f test (y ∷ xs) x e = by_test (test y) (kept_more f test xs x e)
  where
    by_test : (b : Bool) → map f (filter test (xs ++ x ∷ [])) ≡ map f (filter test xs) ++ f x ∷ []
        → map f (cond b (y ∷ filter test (xs ++ x ∷ [])) (filter test (xs ++ x ∷ []))) ≡ map f (cond b (y ∷ filter test xs) (filter test xs)) ++ f x ∷ []
    by_test true rest = ap (λ (ys : List Y). f y ∷ ys) rest
    by_test false rest = rest

left_out : {X Y : Type 0} (f : X → Y) (test : X → Bool) (xs : List X) (x : X) → test x ≡ false → map f (filter test (xs ++ x ∷ [])) ≡ map f (filter test xs)
left_out f test [] x e = rw e refl
left_out {X} {Y} f test (y ∷ xs) x e = by_test (test y) (left_out f test xs x e)
  where
    by_test : (b : Bool) → map f (filter test (xs ++ x ∷ [])) ≡ map f (filter test xs)
        → map f (cond b (y ∷ filter test (xs ++ x ∷ [])) (filter test (xs ++ x ∷ []))) ≡ map f (cond b (y ∷ filter test xs) (filter test xs))
    by_test true rest = ap (λ (ys : List Y). f y ∷ ys) rest
    by_test false rest = rest

get_last : (xs : List ℕ) (x : ℕ) → slice_get (xs ++ x ∷ []) (length xs) ≡ Some x
get_last [] x = refl
get_last (y ∷ xs) x = get_last xs x

get_left : (xs : List ℕ) (x n v : ℕ) → slice_get xs n ≡ Some v → slice_get (xs ++ x ∷ []) n ≡ Some v
get_left [] x n v h = absurd (cc)
get_left (y ∷ xs) x zero v h = h
get_left (y ∷ xs) x (suc n) v h = get_left xs x n v h

id_last : (rs : Rooms) (r : ℕ × ℕ) → slice_get (ids (rs ++ r ∷ [])) (length rs) ≡ Some r.0
id_last [] r = refl
id_last (x ∷ rs) r = id_last rs r

id_left : (rs : Rooms) (r : ℕ × ℕ) (n v : ℕ) → slice_get (ids rs) n ≡ Some v → slice_get (ids (rs ++ r ∷ [])) n ≡ Some v
id_left [] r n v h = absurd (cc)
id_left (x ∷ rs) r zero v h = h
id_left (x ∷ rs) r (suc n) v h = id_left rs r n v h

-- ---- the places of parameters

pointer_stays : (vs : Rooms) (ps : List ℕ) (id : ℕ) (k : Place) (v : ℕ) → id_at vs ps k ≡ Some v → id_at vs (ps ++ id ∷ []) k ≡ Some v
pointer_stays vs ps id (Value n) v h = h
pointer_stays vs ps id (Pointer n) v h = get_left ps id n v h

value_stays : (vs : Rooms) (ps : List ℕ) (r : ℕ × ℕ) (k : Place) (v : ℕ) → id_at vs ps k ≡ Some v → id_at (vs ++ r ∷ []) ps k ≡ Some v
value_stays vs ps r (Value n) v h = id_left vs r n v h
value_stays vs ps r (Pointer n) v h = h

-- places that have ids keep them where a plan grows
still_there : (ks : List Place) (is : List Inst) (f g : Place → Option ℕ) → ((k : Place) (v : ℕ) → f k ≡ Some v → g k ≡ Some v)
    → map f ks ≡ map (λ (i : Inst). Some i.id) is → map g ks ≡ map (λ (i : Inst). Some i.id) is
still_there [] [] f g stays h = refl
still_there [] (i ∷ is) f g stays h = absurd (cc)
still_there (k ∷ ks) [] f g stays h = absurd (cc)
still_there (k ∷ ks) (i ∷ is) f g stays h =
    let here : f k ≡ Some i.id = cc in
    let more : map f ks ≡ map (λ (j : Inst). Some j.id) is = cc in
    let now : g k ≡ Some i.id = stays k i.id here in
    let rest : map g ks ≡ map (λ (j : Inst). Some j.id) is = still_there ks is f g stays more in
    ap (λ (o : Option ℕ). o ∷ map g ks) now ∙ ap (λ (os : List (Option ℕ)). Some i.id ∷ os) rest

placed_more : (ks : List Place) (is : List Inst) (i : Inst) (place : Place) (g : Place → Option ℕ) → g place ≡ Some i.id → map g ks ≡ map (λ (j : Inst). Some j.id) (filter is_parameter is)
    → map g (ks ++ cond (is_parameter i) (place ∷ []) []) ≡ map (λ (j : Inst). Some j.id) (filter is_parameter (is ++ i ∷ []))
placed_more ks is i place g there h = by_test (is_parameter i) refl
  where
    by_test : (b : Bool) → is_parameter i ≡ b → map g (ks ++ cond b (place ∷ []) []) ≡ map (λ (j : Inst). Some j.id) (filter is_parameter (is ++ i ∷ []))
    by_test true e =
        map_more g ks place ∙ ap (λ (os : List (Option ℕ)). os ++ g place ∷ []) h
        ∙ ap (λ (o : Option ℕ). map (λ (j : Inst). Some j.id) (filter is_parameter is) ++ o ∷ []) there
        ∙ sym (kept_more (λ (j : Inst). Some j.id) is_parameter is i e)
    by_test false e = ap (map g) (append-nil ks) ∙ h ∙ sym (left_out (λ (j : Inst). Some j.id) is_parameter is i e)

-- ---- one register more

pointer_lists : (ts : Types) (is : List Inst) (i : Inst) (p : Planned) → is_pointer (form_of ts i.ty) ≡ true → HasRegisters ts is p → HasRegisters ts (is ++ i ∷ []) (with_pointer p i)
pointer_lists ts is i p pointer h =
    let apart : has_cells ts i ≡ false = rw pointer refl in
    record {
      values = h.values ∙ sym (left_out (λ (j : Inst). (j.id, cells_of ts j.ty)) (has_cells ts) is i apart);
      pointers = ap (λ (ks : List ℕ). ks ++ i.id ∷ []) h.pointers ∙ sym (kept_more (λ (j : Inst). j.id) (has_pointer ts) is i pointer);
      types = ap (λ (es : List (ℕ × ℕ)). es ++ (i.id, i.ty) ∷ []) h.types ∙ sym (map_more (λ (j : Inst). (j.id, j.ty)) is i);
      parameters = placed_more p.parameters is i (Pointer (length p.pointers)) (id_at p.values (p.pointers ++ i.id ∷ [])) (get_last p.pointers i.id)
          (still_there p.parameters (filter is_parameter is) (id_at p.values p.pointers) (id_at p.values (p.pointers ++ i.id ∷ [])) (pointer_stays p.values p.pointers i.id) h.parameters);
    }

value_lists : (ts : Types) (is : List Inst) (i : Inst) (p : Planned) (n : ℕ) → is_pointer (form_of ts i.ty) ≡ false → cells_of ts i.ty ≡ Some n → HasRegisters ts is p
    → HasRegisters ts (is ++ i ∷ []) (with_value p i n)
value_lists ts is i p n value cells h =
    let own : has_cells ts i ≡ true = rw value refl in
    record {
      values = map_more counted p.values (i.id, n) ∙ ap (λ (es : List (ℕ × Option ℕ)). es ++ (i.id, Some n) ∷ []) h.values
          ∙ ap (λ (o : Option ℕ). map (λ (j : Inst). (j.id, cells_of ts j.ty)) (filter (has_cells ts) is) ++ (i.id, o) ∷ []) (sym cells)
          ∙ sym (kept_more (λ (j : Inst). (j.id, cells_of ts j.ty)) (has_cells ts) is i own);
      pointers = h.pointers ∙ sym (left_out (λ (j : Inst). j.id) (has_pointer ts) is i value);
      types = ap (λ (es : List (ℕ × ℕ)). es ++ (i.id, i.ty) ∷ []) h.types ∙ sym (map_more (λ (j : Inst). (j.id, j.ty)) is i);
      parameters = placed_more p.parameters is i (Value (length p.values)) (id_at (p.values ++ (i.id, n) ∷ []) p.pointers) (id_last p.values (i.id, n))
          (still_there p.parameters (filter is_parameter is) (id_at p.values p.pointers) (id_at (p.values ++ (i.id, n) ∷ []) p.pointers) (value_stays p.values p.pointers (i.id, n)) h.parameters);
    }

one_register : (ts : Types) (i : Inst) (is : List Inst) (q : Planned) → is_register ts i ≡ true → HasRegisters ts (is ++ i ∷ []) q → HasRegisters ts (is ++ register_in ts i) q
one_register ts i is q h lists =
    let own : register_in ts i ≡ i ∷ [] = rw h refl in
    subst (λ (js : List Inst). HasRegisters ts (is ++ js) q) (sym own) lists

pub pointer_added : (ts : Types) (i : Inst) (p q : Planned) → is_register ts i ≡ true → is_pointer (form_of ts i.ty) ≡ true → q ≡ with_pointer p i → Grows ts i p q
pointer_added ts i p q h pointer is =
    subst (Grows ts i p) (sym is)
    (record { function = refl; first = refl; registers = λ is lists. one_register ts i is (with_pointer p i) h (pointer_lists ts is i p pointer lists) })

pub value_added : (ts : Types) (i : Inst) (p q : Planned) (n : ℕ) → is_register ts i ≡ true → is_pointer (form_of ts i.ty) ≡ false → cells_of ts i.ty ≡ Some n → q ≡ with_value p i n → Grows ts i p q
value_added ts i p q n h value cells is =
    subst (Grows ts i p) (sym is)
    (record { function = refl; first = refl; registers = λ is lists. one_register ts i is (with_value p i n) h (value_lists ts is i p n value cells lists) })
