-- Variables that are added, and locals that come and go, keep what a memory keeps.
use Rattle.std.proofs.Common.{◌≡◌, ◌∙◌, ◌⊎◌, ℕ, zero, suc, ◌==◌, Bool, true, false, List, [], ◌∷◌, ◌++◌, length, replicate, slice_get, slice_set, Option, Some, None, Result, Ok, Err, OnOk, OnErr, inl, inr, refl, sym, ap, subst, arith}
use Rattle.std.specs.Prelude.{if◌then◌else◌}
use Rattle.std.specs.Option.{IfSome, MatchOption, option_and_then, option_or}
use Rattle.std.proofs.Math.Logic.{∥∥₁_elim, ∥∥₁_map}
use Rattle.std.proofs.Props.{props}
use Rattle.spv_base.specs.Entries.{change, reads}
use Rattle.spv_base.specs.Variables.{Roots}
use Rattle.spv_base.specs.declared.causes.NoMemory.{NoMemory}
use Rattle.spv_base.specs.declared.values.Root.{Root}
use Rattle.spv_base.specs.declared.values.Root.TheVariants.{Shared, Private, Local}
use Rattle.spv_base.specs.declared.values.Value.{Value}
use Rattle.spv_types.specs.Types.{Types}
use Rattle.spv_mem.specs.Memory.{AreTargets, AreVariables, Held, IsMemory, IsVariable, Leaves, Levels, empty, entered, roots_in, with_private, with_roots}
use Rattle.spv_mem.proofs.MemoryLemmas.{change_none, change_set, get_set, with_roots_in}
use Rattle.spv_mem.proofs.RootLemmas.{reads_snoc}
use Rattle.spv_base.proofs.Exports.{slice_get-set_same, set_same, get_replicate}

-- ---- no variables

pub empty_keeps : (ts : Types) (targets : List (ℕ × ℕ)) (n depth : ℕ) → ∥ AreTargets ts targets ∥₁ → ∥ IsMemory (empty ts targets n depth) ∥₁
empty_keeps ts targets n depth may = ∥∥₁_map may (λ (h : AreTargets ts targets). record { sound = h.0; targets = h.1; variables = each })
  where
    none : (es : Roots) → es ≡ [] → AreVariables ts targets es
    none es h id v g = absurd (let e : reads id es ≡ None = ap (reads id) h in cc)

    level : (o : Option Levels) → ((l : Levels) → o ≡ Some l → l.list ≡ []) → (depth : ℕ) (es : Roots) → option_and_then (λ (l : Levels). slice_get l.list depth) o ≡ Some es → AreVariables ts targets es
    level None all depth es h = absurd cc
    level (Some l) all depth es h = absurd (let e : slice_get l.list depth ≡ None = ap (λ (ls : List Roots). slice_get ls depth) (all l refl) in cc)

    each : (i : ℕ) (r : Root) (es : Roots) → roots_in (empty ts targets n depth) i r ≡ Some es → AreVariables ts targets es
    each i (Shared id) es h = none es (let e : [] ≡ es = cc in sym e)
    each i (Private id) es h = none es (get_replicate n i [] es h)
    each i (Local d id) es h = level (slice_get (replicate n (record { list = []; room = depth })) i) (λ l at. ap (λ (x : Levels). x.list) (get_replicate n i (record { list = []; room = depth }) l at)) d es h

-- ---- a variable more

snoc_variables : (ts : Types) (targets : List (ℕ × ℕ)) (es : Roots) (id : ℕ) (v : Value) → AreVariables ts targets es → IsVariable ts targets id v → AreVariables ts targets (es ++ (id, v) ∷ [])
snoc_variables ts targets es id v all one q x h = go (reads q es) refl (sym (reads_snoc q es (id, v)) ∙ h)
  where
    last : (b : Bool) → (id == q) ≡ b → (if id == q then Some v else None) ≡ Some x → IsVariable ts targets q x
    last true e g =
        let same : id ≡ q = grind arith in
        let is : Some v ≡ Some x = sym (rw e refl) ∙ g in
        let value : v ≡ x = cc in
        subst (λ (k : ℕ). IsVariable ts targets k x) same (subst (IsVariable ts targets id) value one)
    last false e g = absurd (let none : (if id == q then Some v else None) ≡ None = rw e refl in cc)

    go : (o : Option Value) → reads q es ≡ o → option_or o (if id == q then Some v else None) ≡ Some x → IsVariable ts targets q x
    go (Some y) e g = let same : y ≡ x = cc in subst (IsVariable ts targets q) same (all q y e)
    go None e g = last (id == q) refl g

with_roots_keep : (m : Held) (i : ℕ) (r : Root) (ys : Roots) → IsMemory m → AreVariables m.types m.targets ys → IsMemory (with_roots i r ys m)
with_roots_keep m i r ys h all = go r
  where
    each : (r : Root) (j : ℕ) (q : Root) (xs : Roots) → roots_in (with_roots i r ys m) j q ≡ Some xs → AreVariables m.types m.targets xs
    each r j q xs k = elim (with_roots_in m i j r q ys xs k) [
      | inl was ↦ h.variables j q xs was
      | inr is ↦ subst (AreVariables m.types m.targets) (sym is) all
    ]

    go : (r : Root) → IsMemory (with_roots i r ys m)
    go (Shared id) = record { sound = h.sound; targets = h.targets; variables = each (Shared id) }
    go (Private id) = record { sound = h.sound; targets = h.targets; variables = each (Private id) }
    go (Local depth id) = record { sound = h.sound; targets = h.targets; variables = each (Local depth id) }

-- what a call that may find no memory leaves
pushed : {A : Type 0} (result : Result (Unit {0}) NoMemory) (x y z : A) → OnOk result (y ≡ z) → OnErr result (y ≡ x) → (y ≡ z) ⊎ (y ≡ x)
pushed (Ok u) x y z ok err = inl ok
pushed (Err e) x y z ok err = inr err

pub shared_kept : (m now : Held) (id : ℕ) (v : Value) (y : Roots) (result : Result (Unit {0}) NoMemory) → m ≡ now → ∥ IsMemory m ∥₁ → ∥ IsVariable now.types now.targets id v ∥₁
    → OnOk result (y ≡ m.shared ++ (id, v) ∷ []) → OnErr result (y ≡ m.shared) → ∥ IsMemory (record m { shared = y }) ∥₁
shared_kept m now id v y result view is may ok err = elim (pushed result m.shared y (m.shared ++ (id, v) ∷ []) ok err) [
  | inl new ↦ subst (λ (es : Roots). ∥ IsMemory (record m { shared = es }) ∥₁) (sym new)
      (∥∥₁_elim is (hlevel props) (λ (h : IsMemory m). ∥∥₁_map (subst (λ (x : Held). ∥ IsVariable x.types x.targets id v ∥₁) (sym view) may)
      (λ (w : IsVariable m.types m.targets id v). with_roots_keep m 0 (Shared id) (m.shared ++ (id, v) ∷ []) h (snoc_variables m.types m.targets m.shared id v (h.variables 0 (Shared id) m.shared refl) w))))
  | inr old ↦ subst (λ (es : Roots). ∥ IsMemory (record m { shared = es }) ∥₁) (sym old) is
]

pub private_kept : (m now : Held) (i id : ℕ) (v : Value) (x y : Roots) (result : Result (Unit {0}) NoMemory) → m ≡ now → slice_get m.privates i ≡ Some x → ∥ IsMemory m ∥₁ → ∥ IsVariable now.types now.targets id v ∥₁
    → OnOk result (y ≡ x ++ (id, v) ∷ []) → OnErr result (y ≡ x) → ∥ IsMemory (record m { privates = slice_set m.privates i y }) ∥₁
private_kept m now i id v x y result view at is may ok err = elim (pushed result x y (x ++ (id, v) ∷ []) ok err) [
  | inl new ↦ subst (λ (es : Roots). ∥ IsMemory (record m { privates = slice_set m.privates i es }) ∥₁) (sym new)
      (∥∥₁_elim is (hlevel props) (λ (h : IsMemory m). ∥∥₁_map (subst (λ (k : Held). ∥ IsVariable k.types k.targets id v ∥₁) (sym view) may)
      (λ (w : IsVariable m.types m.targets id v). with_roots_keep m i (Private id) (x ++ (id, v) ∷ []) h (snoc_variables m.types m.targets x id v (h.variables i (Private id) x at) w))))
  | inr old ↦ subst (λ (ls : List Roots). ∥ IsMemory (record m { privates = ls }) ∥₁) (sym (ap (slice_set m.privates i) old ∙ set_same m.privates i x at)) is
]

pub private_is : (m now : Held) (i id : ℕ) (v : Value) (x y : Roots) → m ≡ now → slice_get m.privates i ≡ Some x → y ≡ x ++ (id, v) ∷ [] → record m { privates = slice_set m.privates i y } ≡ with_private i id v now
private_is m now i id v x y view at new =
    ap (λ (ls : List Roots). record m { privates = ls }) (ap (slice_set m.privates i) new ∙ sym (change_set i (λ es. es ++ (id, v) ∷ []) m.privates x at)) ∙ ap (with_private i id v) view

-- ---- locals

-- other locals of one invocation
levels_keep : (m : Held) (i : ℕ) (l new : Levels) → IsMemory m → slice_get m.locals i ≡ Some l → ((d : ℕ) (xs : Roots) → slice_get new.list d ≡ Some xs → AreVariables m.types m.targets xs)
    → IsMemory (record m { locals = slice_set m.locals i new })
levels_keep m i l new h at all = record { sound = h.sound; targets = h.targets; variables = each }
  where
    level : (j d k : ℕ) (xs : Roots) → (o : Option Levels) → slice_get (slice_set m.locals i new) j ≡ o → option_and_then (λ (x : Levels). slice_get x.list d) o ≡ Some xs → AreVariables m.types m.targets xs
    level j d k xs None e g = absurd cc
    level j d k xs (Some y) e g = elim (get_set m.locals i j new y e) [
      | inl old ↦ h.variables j (Local d k) xs (rw old g)
      | inr is ↦ all d xs (ap (λ (x : Levels). slice_get x.list d) (sym is.1) ∙ g)
    ]

    each : (j : ℕ) (r : Root) (xs : Roots) → roots_in (record m { locals = slice_set m.locals i new }) j r ≡ Some xs → AreVariables m.types m.targets xs
    each j (Shared id) xs k = h.variables j (Shared id) xs k
    each j (Private id) xs k = h.variables j (Private id) xs k
    each j (Local d id) xs k = level j d id xs (slice_get (slice_set m.locals i new) j) refl k

pub levels_kept : (m : Held) (i : ℕ) (g : Levels → Levels) → ((l : Levels) → IsMemory m → slice_get m.locals i ≡ Some l → (d : ℕ) (xs : Roots) → slice_get (g l).list d ≡ Some xs → AreVariables m.types m.targets xs)
    → ∥ IsMemory m ∥₁ → ∥ IsMemory (record m { locals = change i g m.locals }) ∥₁
levels_kept m i g all is = ∥∥₁_map is (λ (h : IsMemory m). by_level h (slice_get m.locals i) refl)
  where
    by_level : IsMemory m → (o : Option Levels) → slice_get m.locals i ≡ o → IsMemory (record m { locals = change i g m.locals })
    by_level h None e = subst (λ (ls : List Levels). IsMemory (record m { locals = ls })) (sym (change_none i g m.locals e)) h
    by_level h (Some l) e = subst (λ (ls : List Levels). IsMemory (record m { locals = ls })) (sym (change_set i g m.locals l e)) (levels_keep m i l (g l) h e (all l h e))

snoc_get : {A : Type 0} (xs : List A) (x y : A) (k : ℕ) → slice_get (xs ++ x ∷ []) k ≡ Some y → (slice_get xs k ≡ Some y) ⊎ (y ≡ x)
snoc_get [] x y zero h = let e : x ≡ y = cc in inr (sym e)
snoc_get [] x y (suc k) h = absurd cc
snoc_get (z ∷ xs) x y zero h = inl h
snoc_get (z ∷ xs) x y (suc k) h = snoc_get xs x y k h

get_snoc : {A : Type 0} (xs : List A) (x y : A) (k : ℕ) → slice_get xs k ≡ Some y → slice_get (xs ++ x ∷ []) k ≡ Some y
get_snoc [] x y k h = absurd cc
get_snoc (z ∷ xs) x y zero h = h
get_snoc (z ∷ xs) x y (suc k) h = get_snoc xs x y k h

last_get : {A : Type 0} (xs : List A) (x : A) → slice_get (xs ++ x ∷ []) (length xs) ≡ Some x
last_get [] x = refl
last_get (z ∷ xs) x = last_get xs x

entered_keeps : (m : Held) (i : ℕ) (es : Roots) (l : Levels) → IsMemory m → slice_get m.locals i ≡ Some l → AreVariables m.types m.targets es
    → IsMemory (record m { locals = slice_set m.locals i (record l { list = l.list ++ es ∷ [] }) })
entered_keeps m i es l h at new = levels_keep m i l (record l { list = l.list ++ es ∷ [] }) h at all
  where
    all : (d : ℕ) (xs : Roots) → slice_get (l.list ++ es ∷ []) d ≡ Some xs → AreVariables m.types m.targets xs
    all d xs k = elim (snoc_get l.list es xs d k) [
      | inl old ↦ h.variables i (Local d 0) xs (rw at old)
      | inr is ↦ subst (AreVariables m.types m.targets) (sym is) new
    ]

pub entered_kept : (m now : Held) (i : ℕ) (es : Roots) (l y : Levels) → m ≡ now → slice_get m.locals i ≡ Some l → ∥ IsMemory m ∥₁ → ∥ AreVariables now.types now.targets es ∥₁
    → y ≡ record l { list = l.list ++ es ∷ [] } → ∥ IsMemory (record m { locals = slice_set m.locals i y }) ∥₁
entered_kept m now i es l y view at is may new =
    subst (λ (x : Levels). ∥ IsMemory (record m { locals = slice_set m.locals i x }) ∥₁) (sym new)
    (∥∥₁_elim is (hlevel props) (λ (h : IsMemory m). ∥∥₁_map (subst (λ (k : Held). ∥ AreVariables k.types k.targets es ∥₁) (sym view) may) (λ (w : AreVariables m.types m.targets es). entered_keeps m i es l h at w)))

pub entered_is : (m now : Held) (i : ℕ) (es : Roots) (l y : Levels) → m ≡ now → slice_get m.locals i ≡ Some l → y ≡ record l { list = l.list ++ es ∷ [] } → record m { locals = slice_set m.locals i y } ≡ entered i es now
entered_is m now i es l y view at new =
    ap (λ (ls : List Levels). record m { locals = ls }) (ap (slice_set m.locals i) new ∙ sym (change_set i (λ (x : Levels). record x { list = x.list ++ es ∷ [] }) m.locals l at)) ∙ ap (entered i es) view

pub maybe_entered_kept : (m now : Held) (i : ℕ) (es : Roots) (l y : Levels) (result : Result (Unit {0}) NoMemory) → m ≡ now → slice_get m.locals i ≡ Some l → ∥ IsMemory m ∥₁ → ∥ AreVariables now.types now.targets es ∥₁
    → OnOk result (y ≡ record l { list = l.list ++ es ∷ [] }) → OnErr result (y ≡ l) → ∥ IsMemory (record m { locals = slice_set m.locals i y }) ∥₁
maybe_entered_kept m now i es l y result view at is may ok err = elim (pushed result l y (record l { list = l.list ++ es ∷ [] }) ok err) [
  | inl new ↦ entered_kept m now i es l y view at is may new
  | inr old ↦ subst (λ (ls : List Levels). ∥ IsMemory (record m { locals = ls }) ∥₁) (sym (ap (slice_set m.locals i) old ∙ set_same m.locals i l at)) is
]

-- the last locals that are taken away
abbrev pub Popped : Levels → Levels → Option Roots → Type 0
Popped l y result = (y.room ≡ l.room) × MatchOption result ((l.list ≡ []) × (y.list ≡ [])) (λ last. l.list ≡ y.list ++ last ∷ [])

shorter : (l y : Levels) (result : Option Roots) → Popped l y result → (d : ℕ) (xs : Roots) → slice_get y.list d ≡ Some xs → slice_get l.list d ≡ Some xs
shorter l y None p d xs h = absurd (let e : slice_get y.list d ≡ None = ap (λ (ls : List Roots). slice_get ls d) p.1.1 in cc)
shorter l y (Some last) p d xs h = ap (λ (ls : List Roots). slice_get ls d) p.1 ∙ get_snoc y.list last xs d h

pub left_kept : (m : Held) (i : ℕ) (l y : Levels) (result : Option Roots) → slice_get m.locals i ≡ Some l → ∥ IsMemory m ∥₁ → Popped l y result → ∥ IsMemory (record m { locals = slice_set m.locals i y }) ∥₁
left_kept m i l y result at is p = ∥∥₁_map is (λ (h : IsMemory m). levels_keep m i l y h at (all h))
  where
    all : IsMemory m → (d : ℕ) (xs : Roots) → slice_get y.list d ≡ Some xs → AreVariables m.types m.targets xs
    all h d xs k = h.variables i (Local d 0) xs (let e = shorter l y result p d xs k in rw at e)

set_set : {A : Type 0} (xs : List A) (k : ℕ) (x y : A) → slice_set (slice_set xs k x) k y ≡ slice_set xs k y
set_set [] k x y = refl
set_set (z ∷ xs) zero x y = refl
set_set (z ∷ xs) (suc k) x y = ap (λ zs. z ∷ zs) (set_set xs k x y)

pub leaves_is : (m now : Held) (i : ℕ) (l y : Levels) (result : Option Roots) → m ≡ now → slice_get m.locals i ≡ Some l → Popped l y result → Leaves now i (record m { locals = slice_set m.locals i y }) result
leaves_is m now i l y None view at p =
    let same : y ≡ l = ap (λ (n : ℕ). record { list = y.list; room = n }) p.0 ∙ ap (λ (ls : List Roots). record { list = ls; room = l.room }) (p.1.1 ∙ sym p.1.0) in (
      ap (λ (ls : List Levels). record m { locals = ls }) (ap (slice_set m.locals i) same ∙ set_same m.locals i l at) ∙ view,
      λ k e. (let is : Some l ≡ Some k = sym at ∙ ap (λ (x : Held). slice_get x.locals i) view ∙ e in let g : l ≡ k = cc in ap (λ (x : Levels). x.list) (sym g) ∙ p.1.0),
    )
leaves_is m now i l y (Some last) view at p =
    let whole : record y { list = y.list ++ last ∷ [] } ≡ l = ap (λ (n : ℕ). record { list = y.list ++ last ∷ []; room = n }) p.0 ∙ ap (λ (ls : List Roots). record { list = ls; room = l.room }) (sym p.1) in
    let back : change i (λ (x : Levels). record x { list = x.list ++ last ∷ [] }) (slice_set m.locals i y) ≡ m.locals =
    change_set i (λ (x : Levels). record x { list = x.list ++ last ∷ [] }) (slice_set m.locals i y) y (slice_get-set_same m.locals i l y at)
    ∙ ap (slice_set (slice_set m.locals i y) i) whole ∙ set_set m.locals i y l ∙ set_same m.locals i l at in
    sym (ap (λ (ls : List Levels). record m { locals = ls }) back ∙ view)

pub left_variables : (m now : Held) (i : ℕ) (l y : Levels) (result : Option Roots) → m ≡ now → slice_get m.locals i ≡ Some l → ∥ IsMemory m ∥₁ → Popped l y result
    → IfSome result (λ es. ∥ AreVariables now.types now.targets es ∥₁)
left_variables m now i l y None view at is p = tt
left_variables m now i l y (Some last) view at is p =
    subst (λ (x : Held). ∥ AreVariables x.types x.targets last ∥₁) view (∥∥₁_map is (λ (h : IsMemory m). all h))
  where
    all : IsMemory m → AreVariables m.types m.targets last
    all h = h.variables i (Local (length y.list) 0) last (let e : slice_get l.list (length y.list) ≡ Some last = ap (λ (ls : List Roots). slice_get ls (length y.list)) p.1 ∙ last_get y.list last in rw at e)

-- ---- copies

pub copied_keeps : (new old : Held) → new ≡ old → ∥ IsMemory old ∥₁ → ∥ IsMemory new ∥₁
copied_keeps new old same is = subst (λ (m : Held). ∥ IsMemory m ∥₁) (sym same) is

-- ---- the locals of a frame, one after another

pub none_are_variables : (ts : Types) (targets : List (ℕ × ℕ)) → ∥ AreVariables ts targets [] ∥₁
none_are_variables ts targets = ∣ (λ id v h. absurd cc) ∣₁

pub more_are_variables : (ts : Types) (targets : List (ℕ × ℕ)) (es : Roots) (id : ℕ) (v : Value) → ∥ AreVariables ts targets es ∥₁ → ∥ IsVariable ts targets id v ∥₁ → ∥ AreVariables ts targets (es ++ (id, v) ∷ []) ∥₁
more_are_variables ts targets es id v all one = ∥∥₁_elim all (hlevel props) (λ (a : AreVariables ts targets es). ∥∥₁_map one (λ (o : IsVariable ts targets id v). snoc_variables ts targets es id v a o))
