-- What an exchange in one variable is to the whole memory, and that it keeps what a memory keeps.
use Rattle.std.proofs.Common.{◌≡◌, ◌∙◌, ◌⊎◌, ℕ, zero, suc, Bool, true, false, List, [], ◌∷◌, slice_get, slice_set, Option, Some, None, Result, Ok, Err, inl, inr, refl, sym, ap, subst}
use Rattle.std.specs.Prelude.{IsSome, if◌then◌else◌}
use Rattle.std.specs.Option.{MatchOption, option_and_then}
use Rattle.std.proofs.Math.Logic.{∥∥₁_elim, ∥∥₁_map}
use Rattle.std.proofs.Props.{props}
use Rattle.std.specs.Coded.{codes}
use Rattle.spv_base.specs.Entries.{change, reads, writes}
use Rattle.spv_base.specs.Parts.{part_at, with_part}
use Rattle.spv_base.specs.Variables.{Roots, root_id}
use Rattle.spv_base.specs.contracts.values.Value.{the_row}
use Rattle.spv_base.specs.declared.causes.MemErr.{MemErr}
use Rattle.spv_base.specs.declared.causes.MemErr.TheVariants.{OutOfBounds}
use Rattle.spv_base.specs.declared.values.Pointer.{Pointer}
use Rattle.spv_base.specs.declared.values.Root.{Root}
use Rattle.spv_base.specs.declared.values.Root.TheVariants.{Shared, Private, Local}
use Rattle.spv_base.specs.declared.values.Value.{Value}
use Rattle.spv_types.specs.Rows.{no_roots}
use Rattle.spv_types.specs.Shapes.{HasShape}
use Rattle.spv_types.proofs.Exports.{shapes_keep}
use Rattle.spv_mem.specs.Levels.{ExchangedAt, ExchangedLevel, ExchangesAt, ExchangesLevel, FitAt, FitLevel, MayBePutAt, MayBePutLevel}
use Rattle.spv_mem.specs.Memory.{AreVariables, Held, IsMemory, IsVariable, Levels, MayStore, Stores, load_of, root_value, roots_in, stored, with_level, with_roots}
use Rattle.spv_mem.specs.Roots.{AreFit, ExchangesIn, MayBePutIn, put_in}
use Rattle.spv_mem.specs.Targets.{Fits}
use Rattle.spv_mem.proofs.ElementLemmas.{put_is}
use Rattle.spv_mem.proofs.RootLemmas.{reads_writes}
use Rattle.spv_base.proofs.Exports.{set_same}

-- ---- lists

pub get_set : {A : Type 0} (xs : List A) (k j : ℕ) (x y : A) → slice_get (slice_set xs k x) j ≡ Some y → (slice_get xs j ≡ Some y) ⊎ ((j ≡ k) × (y ≡ x))
get_set [] k j x y h = inl h
get_set (z ∷ xs) zero zero x y h = let e : x ≡ y = cc in inr (refl, sym e)
get_set (z ∷ xs) zero (suc j) x y h = inl h
get_set (z ∷ xs) (suc k) zero x y h = inl h
get_set (z ∷ xs) (suc k) (suc j) x y h = elim (get_set xs k j x y h) [
  | inl old ↦ inl old
  | inr new ↦ inr (ap suc new.0, new.1)
]

pub change_set : {A : Type 0} (i : ℕ) (f : A → A) (xs : List A) (x : A) → slice_get xs i ≡ Some x → change i f xs ≡ slice_set xs i (f x)
change_set i f [] x h = absurd cc
change_set zero f (y ∷ xs) x h = let e : y ≡ x = cc in ap (λ z. f z ∷ xs) e
change_set (suc i) f (y ∷ xs) x h = ap (λ ys. y ∷ ys) (change_set i f xs x h)

pub change_none : {A : Type 0} (i : ℕ) (f : A → A) (xs : List A) → slice_get xs i ≡ None → change i f xs ≡ xs
change_none i f [] h = refl
change_none zero f (y ∷ xs) h = absurd cc
change_none (suc i) f (y ∷ xs) h = ap (λ ys. y ∷ ys) (change_none i f xs h)

pub exchanged_list : (lists : List Roots) (k id : ℕ) (path : List ℕ) (u : Value) (after : Roots) (handed : Value) (there : Bool) (es : Roots) → slice_get lists k ≡ Some es
    → ExchangesIn es id path u after handed there → ExchangesAt lists k id path u (slice_set lists k after) handed there
exchanged_list lists k id path u after handed there es at h =
    let did : ExchangedAt lists k id path u (slice_set lists k after) handed there es = record { after = after; within = h; put = refl } in
    subst (λ (o : Option Roots). MatchOption o ((there ≡ false) × (slice_set lists k after ≡ lists) × (handed ≡ u)) (ExchangedAt lists k id path u (slice_set lists k after) handed there)) (sym at) did

pub list_gone : (lists : List Roots) (k id : ℕ) (path : List ℕ) (u : Value) → slice_get lists k ≡ None → ExchangesAt lists k id path u lists u false
list_gone lists k id path u at =
    subst (λ (o : Option Roots). MatchOption o ((false ≡ false) × (lists ≡ lists) × (u ≡ u)) (ExchangedAt lists k id path u lists u false)) (sym at) (refl, refl, refl)

pub exchanged_level : (levels : List Levels) (k depth id : ℕ) (path : List ℕ) (u : Value) (after : Levels) (handed : Value) (there : Bool) (l : Levels) → slice_get levels k ≡ Some l → after.room ≡ l.room
    → ExchangesAt l.list depth id path u after.list handed there → ExchangesLevel levels k depth id path u (slice_set levels k after) handed there
exchanged_level levels k depth id path u after handed there l at room h =
    let is : slice_set levels k after ≡ slice_set levels k (record l { list = after.list }) = ap (λ (n : ℕ). slice_set levels k (record { list = after.list; room = n })) room in
    let did : ExchangedLevel levels k depth id path u (slice_set levels k after) handed there l = record { after = after.list; within = h; put = is } in
    subst (λ (o : Option Levels). MatchOption o ((there ≡ false) × (slice_set levels k after ≡ levels) × (handed ≡ u)) (ExchangedLevel levels k depth id path u (slice_set levels k after) handed there)) (sym at) did

pub level_gone : (levels : List Levels) (k depth id : ℕ) (path : List ℕ) (u : Value) → slice_get levels k ≡ None → ExchangesLevel levels k depth id path u levels u false
level_gone levels k depth id path u at =
    subst (λ (o : Option Levels). MatchOption o ((false ≡ false) × (levels ≡ levels) × (u ≡ u)) (ExchangedLevel levels k depth id path u levels u false)) (sym at) (refl, refl, refl)

-- ---- an exchange in the whole

abbrev pub answer : Bool → Result (Unit {0}) MemErr
answer there = if there then Ok tt else Err OutOfBounds

answered : (there b : Bool) → there ≡ b → answer there ≡ answer b
answered there b h = ap answer h

-- what an exchange in the list of a root is to the memory
in_list : (m new : Held) (i : ℕ) (p : Pointer) (u : Value) (es after : Roots) (handed : Value) (there : Bool) → roots_in m i p.root ≡ Some es → (after ≡ es → new ≡ m) → new ≡ with_roots i p.root after m
    → ExchangesIn es (root_id p.root) p.path u after handed there → Stores m i p u new handed (answer there)
in_list m new i p u es after handed there at same is h =
    rw at (go (option_and_then (λ v. part_at v p.path) (reads (root_id p.root) es)) h)
  where
    go : (o : Option Value) → MatchOption o ((there ≡ false) × (after ≡ es) × (handed ≡ u)) (λ w. (there ≡ true) × (after ≡ put_in (root_id p.root) p.path u es) × (handed ≡ w))
        → MatchOption o ((answer there ≡ Err OutOfBounds) × (new ≡ m) × (handed ≡ u)) (λ w. (answer there ≡ Ok tt) × (new ≡ with_roots i p.root (put_in (root_id p.root) p.path u es) m) × (handed ≡ w))
    go None k = (answered there false k.0, same k.1, k.2)
    go (Some w) k = (answered there true k.0, is ∙ ap (λ (x : Roots). with_roots i p.root x m) k.1, k.2)

gone_in : (m : Held) (i : ℕ) (p : Pointer) (u handed : Value) (new : Held) (there : Bool) → roots_in m i p.root ≡ None → (there ≡ false) → (new ≡ m) → (handed ≡ u) → Stores m i p u new handed (answer there)
gone_in m i p u handed new there at not same back = rw at (answered there false not, same, back)

pub shared_stores : (m : Held) (i id : ℕ) (path : List ℕ) (u : Value) (after : Roots) (handed : Value) (there : Bool) → ExchangesIn m.shared id path u after handed there
    → Stores m i (record { root = Shared id; path = path }) u (record m { shared = after }) handed (answer there)
shared_stores m i id path u after handed there h =
    in_list m (record m { shared = after }) i (record { root = Shared id; path = path }) u m.shared after handed there refl (λ same. ap (λ (es : Roots). record m { shared = es }) same) refl h

pub private_stores : (m : Held) (i id : ℕ) (path : List ℕ) (u : Value) (after : List Roots) (handed : Value) (there : Bool) → ExchangesAt m.privates i id path u after handed there
    → Stores m i (record { root = Private id; path = path }) u (record m { privates = after }) handed (answer there)
private_stores m i id path u after handed there h = go (slice_get m.privates i) refl h
  where
    go : (o : Option Roots) → slice_get m.privates i ≡ o → MatchOption o ((there ≡ false) × (after ≡ m.privates) × (handed ≡ u)) (ExchangedAt m.privates i id path u after handed there)
        → Stores m i (record { root = Private id; path = path }) u (record m { privates = after }) handed (answer there)
    go None at k = gone_in m i (record { root = Private id; path = path }) u handed (record m { privates = after }) there at k.0 (ap (λ (ls : List Roots). record m { privates = ls }) k.1) k.2
    go (Some es) at k =
        in_list m (record m { privates = after }) i (record { root = Private id; path = path }) u es k.after handed there at
        (λ same. ap (λ (ls : List Roots). record m { privates = ls }) (k.put ∙ ap (slice_set m.privates i) same ∙ set_same m.privates i es at))
        (ap (λ (ls : List Roots). record m { privates = ls }) k.put) k.within

pub local_stores : (m : Held) (i depth id : ℕ) (path : List ℕ) (u : Value) (after : List Levels) (handed : Value) (there : Bool) → ExchangesLevel m.locals i depth id path u after handed there
    → Stores m i (record { root = Local depth id; path = path }) u (record m { locals = after }) handed (answer there)
local_stores m i depth id path u after handed there h = outer (slice_get m.locals i) refl h
  where
    p : Pointer
    p = record { root = Local depth id; path = path }

    inner : (l : Levels) → slice_get m.locals i ≡ Some l → (lists : List Roots) → after ≡ slice_set m.locals i (record l { list = lists }) → (o : Option Roots) → slice_get l.list depth ≡ o
        → MatchOption o ((there ≡ false) × (lists ≡ l.list) × (handed ≡ u)) (ExchangedAt l.list depth id path u lists handed there)
        → Stores m i p u (record m { locals = after }) handed (answer there)
    inner l at lists put None e k =
        let same : after ≡ m.locals = put ∙ ap (λ (ls : List Roots). slice_set m.locals i (record l { list = ls })) k.1 ∙ set_same m.locals i l at in
        gone_in m i p u handed (record m { locals = after }) there (rw at e) k.0 (ap (λ (ls : List Levels). record m { locals = ls }) same) k.2
    inner l at lists put (Some es) e k =
        in_list m (record m { locals = after }) i p u es k.after handed there (rw at e)
        (λ same. ap (λ (ls : List Levels). record m { locals = ls }) (put ∙ ap (λ (ls : List Roots). slice_set m.locals i (record l { list = ls })) (k.put ∙ ap (slice_set l.list depth) same ∙ set_same l.list depth es e) ∙ set_same m.locals i l at))
        (ap (λ (ls : List Levels). record m { locals = ls }) (put ∙ ap (λ (ls : List Roots). slice_set m.locals i (record l { list = ls })) k.put ∙ sym (change_set i (with_level depth k.after) m.locals l at))) k.within

    outer : (o : Option Levels) → slice_get m.locals i ≡ o → MatchOption o ((there ≡ false) × (after ≡ m.locals) × (handed ≡ u)) (ExchangedLevel m.locals i depth id path u after handed there)
        → Stores m i p u (record m { locals = after }) handed (answer there)
    outer None at k = gone_in m i p u handed (record m { locals = after }) there (rw at refl) k.0 (ap (λ (ls : List Levels). record m { locals = ls }) k.1) k.2
    outer (Some l) at k = inner l at k.after k.put (slice_get l.list depth) refl k.within

-- ---- what a memory keeps

-- in a memory with a list changed each list is that one, or as before
pub with_roots_in : (m : Held) (i j : ℕ) (r q : Root) (es xs : Roots) → roots_in (with_roots i r es m) j q ≡ Some xs → (roots_in m j q ≡ Some xs) ⊎ (xs ≡ es)
with_roots_in m i j (Shared id) (Shared k) es xs h = let e : es ≡ xs = cc in inr (sym e)
with_roots_in m i j (Shared id) (Private k) es xs h = inl h
with_roots_in m i j (Shared id) (Local depth k) es xs h = inl h
with_roots_in m i j (Private id) (Shared k) es xs h = inl h
with_roots_in m i j (Private id) (Private k) es xs h = elim (get_set m.privates i j es xs h) [
  | inl old ↦ inl old
  | inr new ↦ inr new.1
]
with_roots_in m i j (Private id) (Local depth k) es xs h = inl h
with_roots_in m i j (Local d id) (Shared k) es xs h = inl h
with_roots_in m i j (Local d id) (Private k) es xs h = inl h
with_roots_in m i j (Local d id) (Local depth k) es xs h = outer (slice_get m.locals i) refl
  where
    level : (l : Levels) → slice_get m.locals i ≡ Some l → (o : Option Levels) → slice_get (slice_set m.locals i (with_level d es l)) j ≡ o
        → option_and_then (λ (x : Levels). slice_get x.list depth) o ≡ Some xs → (option_and_then (λ (x : Levels). slice_get x.list depth) (slice_get m.locals j) ≡ Some xs) ⊎ (xs ≡ es)
    level l at None e g = absurd cc
    level l at (Some y) e g = elim (get_set m.locals i j (with_level d es l) y e) [
      | inl old ↦ inl (rw old g)
      | inr new ↦ elim (get_set l.list d depth es xs (ap (λ (x : Levels). slice_get x.list depth) (sym new.1) ∙ g)) [
        | inl old ↦ inl (subst (λ (n : ℕ). option_and_then (λ (x : Levels). slice_get x.list depth) (slice_get m.locals n) ≡ Some xs) (sym new.0) (rw at old))
        | inr is ↦ inr is.1
      ]
    ]

    outer : (o : Option Levels) → slice_get m.locals i ≡ o → (roots_in m j (Local depth k) ≡ Some xs) ⊎ (xs ≡ es)
    outer None at = inl (ap (λ (ls : List Levels). option_and_then (λ (x : Levels). slice_get x.list depth) (slice_get ls j)) (sym (change_none i (with_level d es) m.locals at)) ∙ h)
    outer (Some l) at =
        let is : option_and_then (λ (x : Levels). slice_get x.list depth) (slice_get (slice_set m.locals i (with_level d es l)) j) ≡ Some xs =
        ap (λ (ls : List Levels). option_and_then (λ (x : Levels). slice_get x.list depth) (slice_get ls j)) (sym (change_set i (with_level d es) m.locals l at)) ∙ h in
        level l at (slice_get (slice_set m.locals i (with_level d es l)) j) refl is

some_roots : (m : Held) (i : ℕ) (p : Pointer) (w : Value) → load_of m i p ≡ Some w → (es : Roots) × (v : Value) × (roots_in m i p.root ≡ Some es) × (reads (root_id p.root) es ≡ Some v) × (part_at v p.path ≡ Some w)
some_roots m i p w h = outer (roots_in m i p.root) refl h
  where
    inner : (es : Roots) → roots_in m i p.root ≡ Some es → (o : Option Value) → reads (root_id p.root) es ≡ o → option_and_then (λ v. part_at v p.path) o ≡ Some w
        → (es : Roots) × (v : Value) × (roots_in m i p.root ≡ Some es) × (reads (root_id p.root) es ≡ Some v) × (part_at v p.path ≡ Some w)
    inner es at None e g = absurd cc
    inner es at (Some v) e g = (es, v, at, e, g)

    outer : (o : Option Roots) → roots_in m i p.root ≡ o → option_and_then (λ v. part_at v p.path) (option_and_then (reads (root_id p.root)) o) ≡ Some w
        → (es : Roots) × (v : Value) × (roots_in m i p.root ≡ Some es) × (reads (root_id p.root) es ≡ Some v) × (part_at v p.path ≡ Some w)
    outer None at g = absurd cc
    outer (Some es) at g = inner es at (reads (root_id p.root) es) refl g

-- a root's variable may have its value, and a value may be put in it
fits : (m : Held) (i : ℕ) (r : Root) (es : Roots) (ty id : ℕ) → IsMemory m → roots_in m i r ≡ Some es → reads id m.targets ≡ Some ty → AreFit m.types ty id es
fits m i r es ty id h at named v is =
    let w = h.variables i r es at id v is in
    let same : w.type ≡ ty = let e = w.named in cc in
    record { sound = h.sound; may = h.targets id ty named; shape = subst (λ (t : ℕ). HasShape m.types no_roots t v) same w.shape }

pub fits_in : (m : Held) (i : ℕ) (r : Root) (es : Roots) (ty id : ℕ) → ∥ IsMemory m ∥₁ → roots_in m i r ≡ Some es → reads id m.targets ≡ Some ty → ∥ AreFit m.types ty id es ∥₁
fits_in m i r es ty id is at named = ∥∥₁_map is (λ (h : IsMemory m). fits m i r es ty id h at named)

-- a memory with another part in a variable keeps it too
stored_keeps : (m : Held) (i : ℕ) (p : Pointer) (u w : Value) → IsMemory m → MayStore m i p u → load_of m i p ≡ Some w → IsMemory (stored i p u m)
stored_keeps m i p u w h may is =
    let s = some_roots m i p w is in
    let old : IsVariable m.types m.targets (root_id p.root) s.1 = h.variables i p.root s.0 s.2 (root_id p.root) s.1 s.3 in
    let fit : Fits m.types old.type s.1 = record { sound = h.sound; may = h.targets (root_id p.root) old.type old.named; shape = old.shape } in
    let value : root_value m i p.root ≡ Some s.1 = rw (s.2) (s.3) in
    let put = put_is m.types old.type s.1 p.path w u fit (may old.type s.1 old.named value) s.4 in
    let shape : HasShape m.types no_roots old.type (with_part s.1 p.path u) = (shapes_keep m.types no_roots h.sound p.path old.type put.type s.1 w u old.shape put.typed s.4).1 put.new in
    subst IsMemory (sym (stored_is s.0 s.1 s.2 s.3)) (kept s.0 s.1 s.2 s.3 (record { type = old.type; named = old.named; shape = shape }))
  where
    stored_is : (es : Roots) (v : Value) → roots_in m i p.root ≡ Some es → reads (root_id p.root) es ≡ Some v → stored i p u m ≡ with_roots i p.root (writes (root_id p.root) (with_part v p.path u) es) m
    stored_is es v at e = rw (at, e) refl

    types_same : (r : Root) (es : Roots) → ((with_roots i r es m).types ≡ m.types) × ((with_roots i r es m).targets ≡ m.targets)
    types_same (Shared id) es = (refl, refl)
    types_same (Private id) es = (refl, refl)
    types_same (Local depth id) es = (refl, refl)

    variables : (es : Roots) (v : Value) → roots_in m i p.root ≡ Some es → IsVariable m.types m.targets (root_id p.root) (with_part v p.path u)
        → AreVariables m.types m.targets (writes (root_id p.root) (with_part v p.path u) es)
    variables es v at new q x k = elim (reads_writes q (root_id p.root) (with_part v p.path u) es x k) [
      | inl was ↦ h.variables i p.root es at q x was
      | inr is ↦ subst (λ (n : ℕ). IsVariable m.types m.targets n x) (sym is.0) (subst (IsVariable m.types m.targets (root_id p.root)) (sym is.1) new)
    ]

    kept : (es : Roots) (v : Value) → roots_in m i p.root ≡ Some es → reads (root_id p.root) es ≡ Some v → IsVariable m.types m.targets (root_id p.root) (with_part v p.path u)
        → IsMemory (with_roots i p.root (writes (root_id p.root) (with_part v p.path u) es) m)
    kept es v at e new = go p.root (writes (root_id p.root) (with_part v p.path u) es) (variables es v at new)
      where
        each : (r : Root) (ys : Roots) → AreVariables m.types m.targets ys → (j : ℕ) (q : Root) (xs : Roots) → roots_in (with_roots i r ys m) j q ≡ Some xs → AreVariables m.types m.targets xs
        each r ys all j q xs k = elim (with_roots_in m i j r q ys xs k) [
          | inl was ↦ h.variables j q xs was
          | inr is ↦ subst (AreVariables m.types m.targets) (sym is) all
        ]

        go : (r : Root) (ys : Roots) → AreVariables m.types m.targets ys → IsMemory (with_roots i r ys m)
        go (Shared id) ys all = record { sound = h.sound; targets = h.targets; variables = each (Shared id) ys all }
        go (Private id) ys all = record { sound = h.sound; targets = h.targets; variables = each (Private id) ys all }
        go (Local depth id) ys all = record { sound = h.sound; targets = h.targets; variables = each (Local depth id) ys all }

pub stores_keep : (m : Held) (i : ℕ) (p : Pointer) (u : Value) (new : Held) (handed : Value) (result : Result (Unit {0}) MemErr) → ∥ IsMemory m ∥₁ → ∥ MayStore m i p u ∥₁ → Stores m i p u new handed result → ∥ IsMemory new ∥₁
stores_keep m i p u new handed result is may did = go (load_of m i p) refl did
  where
    go : (o : Option Value) → load_of m i p ≡ o → MatchOption o ((result ≡ Err OutOfBounds) × (new ≡ m) × (handed ≡ u)) (λ w. (result ≡ Ok tt) × (new ≡ stored i p u m) × (handed ≡ w)) → ∥ IsMemory new ∥₁
    go None e k = subst (λ (x : Held). ∥ IsMemory x ∥₁) (sym k.1) is
    go (Some w) e k =
        subst (λ (x : Held). ∥ IsMemory x ∥₁) (sym k.1)
        (∥∥₁_elim is (hlevel props) (λ (h : IsMemory m). ∥∥₁_map may (λ (a : MayStore m i p u). stored_keeps m i p u w h a e)))

-- a part that is there, and a value that may be put there
pub stored_kept : (m : Held) (i : ℕ) (p : Pointer) (u : Value) → ∥ IsMemory m ∥₁ → ∥ MayStore m i p u ∥₁ → IsSome (load_of m i p) → ∥ IsMemory (stored i p u m) ∥₁
stored_kept m i p u is may there = by_part (load_of m i p) refl there
  where
    by_part : (o : Option Value) → load_of m i p ≡ o → IsSome o → ∥ IsMemory (stored i p u m) ∥₁
    by_part None e some = absurd (cc)
    by_part (Some w) e some = ∥∥₁_elim is (hlevel props) (λ (h : IsMemory m). ∥∥₁_map may (λ (a : MayStore m i p u). stored_keeps m i p u w h a e))

-- there is no variable where none is named
pub unnamed : (m : Held) (i : ℕ) (p : Pointer) → ∥ IsMemory m ∥₁ → reads (root_id p.root) m.targets ≡ None → load_of m i p ≡ None
unnamed m i p is none = ∥∥₁_elim is (hlevel (props, codes, the_row.coded)) (λ (h : IsMemory m). go h (roots_in m i p.root) refl)
  where
    inner : IsMemory m → (es : Roots) → roots_in m i p.root ≡ Some es → (o : Option Value) → reads (root_id p.root) es ≡ o → option_and_then (λ v. part_at v p.path) o ≡ None
    inner h es at None e = refl
    inner h es at (Some v) e = absurd (let w = (h.variables i p.root es at (root_id p.root) v e).named in cc)

    go : IsMemory m → (o : Option Roots) → roots_in m i p.root ≡ o → option_and_then (λ v. part_at v p.path) (option_and_then (reads (root_id p.root)) o) ≡ None
    go h None at = refl
    go h (Some es) at = inner h es at (reads (root_id p.root) es) refl

-- ---- a call of store, by the root

abbrev pub at_root : Root → Pointer → Pointer
at_root r p = record { root = r; path = p.path }

pub root_is : (p : Pointer) (r : Root) → p.root ≡ r → p ≡ at_root r p
root_is p r h = ap (λ (x : Root). at_root x p) h

may_from : (m now : Held) (i : ℕ) (p : Pointer) (r : Root) (u : Value) → m ≡ now → p.root ≡ r → ∥ MayStore now i p u ∥₁ → ∥ MayStore m i (at_root r p) u ∥₁
may_from m now i p r u v h may = subst (λ (x : Held). ∥ MayStore x i (at_root r p) u ∥₁) (sym v) (subst (λ (q : Pointer). ∥ MayStore now i q u ∥₁) (root_is p r h) may)

pub shared_fit : (m : Held) (id ty : ℕ) → ∥ IsMemory m ∥₁ → reads id m.targets ≡ Some ty → ∥ AreFit m.types ty id m.shared ∥₁
shared_fit m id ty is named = fits_in m 0 (Shared id) m.shared ty id is refl named

pub private_fit : (m : Held) (i id ty : ℕ) → ∥ IsMemory m ∥₁ → reads id m.targets ≡ Some ty → ∥ FitAt m.types ty id m.privates i ∥₁
private_fit m i id ty is named = ∥∥₁_map is (λ (h : IsMemory m). go h)
  where
    go : IsMemory m → FitAt m.types ty id m.privates i
    go h es at = fits m i (Private id) es ty id h at named

pub local_fit : (m : Held) (i depth id ty : ℕ) → ∥ IsMemory m ∥₁ → reads id m.targets ≡ Some ty → ∥ FitLevel m.types ty id m.locals i depth ∥₁
local_fit m i depth id ty is named = ∥∥₁_map is (λ (h : IsMemory m). go h)
  where
    go : IsMemory m → FitLevel m.types ty id m.locals i depth
    go h l at es e = fits m i (Local depth id) es ty id h (rw at e) named

pub shared_may : (m now : Held) (i : ℕ) (p : Pointer) (id ty : ℕ) (u : Value) → m ≡ now → p.root ≡ Shared id → ∥ MayStore now i p u ∥₁ → reads id m.targets ≡ Some ty
    → ∥ MayBePutIn m.types ty id m.shared p.path u ∥₁
shared_may m now i p id ty u v r may named = ∥∥₁_map (may_from m now i p (Shared id) u v r may) (λ (h : MayStore m i (at_root (Shared id) p) u). go h)
  where
    go : MayStore m i (at_root (Shared id) p) u → MayBePutIn m.types ty id m.shared p.path u
    go h x is = h ty x named is

pub private_may : (m now : Held) (i : ℕ) (p : Pointer) (id ty : ℕ) (u : Value) → m ≡ now → p.root ≡ Private id → ∥ MayStore now i p u ∥₁ → reads id m.targets ≡ Some ty
    → ∥ MayBePutAt m.types ty id m.privates i p.path u ∥₁
private_may m now i p id ty u v r may named = ∥∥₁_map (may_from m now i p (Private id) u v r may) (λ (h : MayStore m i (at_root (Private id) p) u). go h)
  where
    go : MayStore m i (at_root (Private id) p) u → MayBePutAt m.types ty id m.privates i p.path u
    go h es at x is = h ty x named (rw at is)

pub local_may : (m now : Held) (i : ℕ) (p : Pointer) (depth id ty : ℕ) (u : Value) → m ≡ now → p.root ≡ Local depth id → ∥ MayStore now i p u ∥₁ → reads id m.targets ≡ Some ty
    → ∥ MayBePutLevel m.types ty id m.locals i depth p.path u ∥₁
local_may m now i p depth id ty u v r may named = ∥∥₁_map (may_from m now i p (Local depth id) u v r may) (λ (h : MayStore m i (at_root (Local depth id) p) u). go h)
  where
    go : MayStore m i (at_root (Local depth id) p) u → MayBePutLevel m.types ty id m.locals i depth p.path u
    go h l at es e x is = h ty x named (let both : roots_in m i (Local depth id) ≡ Some es = rw at e in rw both is)

-- what is told of the memory as its fields are, of the memory
pub stores_at : (m now : Held) (i : ℕ) (p : Pointer) (r : Root) (u : Value) (new : Held) (handed : Value) (result : Result (Unit {0}) MemErr) (there : Bool) → m ≡ now → p.root ≡ r → result ≡ answer there
    → Stores m i (at_root r p) u new handed (answer there) → Stores now i p u new handed result
stores_at m now i p r u new handed result there v h a did =
    subst (λ (x : Held). Stores x i p u new handed result) v
    (subst (λ (q : Pointer). Stores m i q u new handed result) (sym (root_is p r h))
    (subst (λ (x : Result (Unit {0}) MemErr). Stores m i (at_root r p) u new handed x) (sym a) did))

pub kept_at : (m now : Held) (i : ℕ) (p : Pointer) (u : Value) (new : Held) (handed : Value) (result : Result (Unit {0}) MemErr) → m ≡ now → ∥ IsMemory m ∥₁ → ∥ MayStore now i p u ∥₁
    → Stores now i p u new handed result → ∥ IsMemory new ∥₁
kept_at m now i p u new handed result v is may did = stores_keep now i p u new handed result (subst (λ (x : Held). ∥ IsMemory x ∥₁) v is) may did

pub none_stores : (m now : Held) (i : ℕ) (p : Pointer) (u : Value) → m ≡ now → ∥ IsMemory m ∥₁ → reads (root_id p.root) m.targets ≡ None → Stores now i p u now u (Err OutOfBounds)
none_stores m now i p u v is none =
    let gone : load_of now i p ≡ None = subst (λ (x : Held). load_of x i p ≡ None) v (unnamed m i p is none) in
    rw gone (refl, refl, refl)
