-- Only a variable that the workgroup shares has a runtime array: the types of all others have a number of cells.
use Rattle.std.proofs.Common.{◌≡◌, ◌⊎◌, ◌∙◌, inl, inr, ℕ, zero, suc, ◌==◌, ◌&&◌, ◌||◌, Bool, true, false, cond, List, [], ◌∷◌, map, Option, Some, None, slice_get, refl, sym, ap, subst, arith}
use Rattle.std.proofs.Math.Logic.{∥∥₁_elim}
use Rattle.std.proofs.Props.{props}
use Rattle.std.proofs.lemmas.Bool.{and_parts, both_ways, eqb-true, or_cases}
use Rattle.std.proofs.lemmas.Option.{slice_get_within}
use Rattle.std.specs.Coded.{codes}
use Rattle.std.specs.List.{AllByRecursion, AllZip, Contains, cons_option, filter, filter_map}
use Rattle.std.specs.Option.{option_and_then}
use Rattle.std.specs.Prelude.{if◌then◌else◌}
use Rattle.spv_base.specs.Entries.{reads}
use Rattle.spv_base.specs.Variables.{Roots}
use Rattle.spv_base.specs.declared.values.Root.{Root}
use Rattle.spv_base.specs.declared.values.Root.TheVariants.{Shared, Private, Local}
use Rattle.spv_base.specs.declared.values.Value.{Value}
use Rattle.spv_base.proofs.Exports.{contains_later, element_at}
use Rattle.spv_types.specs.Rules.{is_data}
use Rattle.spv_types.specs.Types.{form_of}
use Rattle.spv_mem.specs.Memory.{Levels, root_value}
use Rattle.spv_mem.specs.Targets.{is_counted, may_be_target}
use Rattle.spv_frame.specs.Frames.{Held as Frame}
use Rattle.spv_initial.specs.Start.{root, variables}
use Rattle.spv_initial.specs.Values.{initialized, local_value}
use Rattle.spv_initial.specs.Variables.{AreDeclared, HaveTargets, Holds, targets_of}
use Rattle.spv_initial.specs.declared.variables.Declared.{Declared}
use Rattle.spv_initial.proofs.Exports.{variables_are}
use Rattle.spv_operands.specs.Values.{is_own}
use Rattle.spv_state.specs.Program.{Program}
use Rattle.spv_state.specs.Roots.{ids_in, own_ids}
use Rattle.spv_state.specs.Sound.{HasVariables, IsSound}
use Rattle.spv_state.specs.State.{State}
use Rattle.spv_state.specs.Variables.{is_variable_of, variables_of}
use Rattle.spv_state.proofs.Exports.{kept_targets}
use Rattle.spv_valid.specs.Acceptance.{Accepted}
use Rattle.spv_valid.specs.Validity.{IsValid}
use Rattle.spv_ids.specs.Typed.{variable_type}

-- ---- lists

each_in : {X : Type 0} (P : X → Type 0) (xs : List X) (x : X) → AllByRecursion P xs → Contains xs x → P x
each_in P [] x all (k, lt, is) = absurd (omega arith)
each_in P (y ∷ xs) x (first, rest) (zero, lt, is) = subst P is first
each_in P (y ∷ xs) x (first, rest) (suc k, lt, is) = each_in P xs x rest (k, omega arith, is)

each_kept : {X : Type 0} (P : X → Type 0) (xs : List X) (x : X) → AllByRecursion P (filter (λ (y : X). true) xs) → Contains xs x → P x
each_kept P [] x all (k, lt, is) = absurd (omega arith)
each_kept P (y ∷ xs) x (first, rest) (zero, lt, is) = subst P is first
each_kept P (y ∷ xs) x (first, rest) (suc k, lt, is) = each_kept P xs x rest (k, omega arith, is)

unfiltered : {X : Type 0} (test : X → Bool) (xs : List X) (x : X) → Contains (filter test xs) x → Contains xs x
unfiltered test [] x at = at
unfiltered {X} test (y ∷ xs) x at = by_test (test y) at (unfiltered test xs x)
  where
    by_test : (b : Bool) → Contains (cond b (y ∷ filter test xs) (filter test xs)) x → (Contains (filter test xs) x → Contains xs x) → Contains (y ∷ xs) x
    by_test true (zero, lt, is) rest = (0, omega arith, is)
    by_test true (suc k, lt, is) rest = contains_later y x xs (rest (k, omega arith, is))
    by_test false there rest = contains_later y x xs (rest there)

-- an id that has a value
read_there : (es : Roots) (id : ℕ) (v : Value) → reads id es ≡ Some v → Contains (ids_in es) id
read_there [] id v h = absurd (cc)
read_there (e ∷ es) id v h = by_test (e.0 == id) refl h (read_there es id v)
  where
    by_test : (b : Bool) → (e.0 == id) ≡ b → (if b then Some e.1 else reads id es) ≡ Some v → (reads id es ≡ Some v → Contains (ids_in es) id) → Contains (e.0 ∷ ids_in es) id
    by_test true own g rest = (0, omega arith, eqb-true e.0 id own)
    by_test false other g rest = contains_later e.0 id (ids_in es) (rest g)

-- ---- the variables that ids are of

-- some variables have one with an id, and of a class that passes a test
pub record HasOne (ds : List Declared) (id : ℕ) (test : ℕ → Bool) : Type 0 where
  pub variable : Declared
  pub there : Contains ds variable
  pub named : variable.id ≡ id
  pub class : test variable.class ≡ true

later_one : (d : Declared) (ds : List Declared) (id : ℕ) (test : ℕ → Bool) → HasOne ds id test → HasOne (d ∷ ds) id test
later_one d ds id test one = record { variable = one.variable; there = contains_later d one.variable ds one.there; named = one.named; class = one.class }

own_one : (test : ℕ → Bool) (ds : List Declared) (id : ℕ) → Contains (map (λ (d : Declared). d.id) (filter (λ (d : Declared). test d.class) ds)) id → HasOne ds id test
own_one test [] id (k, lt, is) = absurd (omega arith)
own_one test (d ∷ ds) id at = by_test (test d.class) refl at (own_one test ds id)
  where
    by_test : (b : Bool) → test d.class ≡ b → Contains (map (λ (d : Declared). d.id) (cond b (d ∷ filter (λ (d : Declared). test d.class) ds) (filter (λ (d : Declared). test d.class) ds))) id
        → (Contains (map (λ (d : Declared). d.id) (filter (λ (d : Declared). test d.class) ds)) id → HasOne ds id test) → HasOne (d ∷ ds) id test
    by_test true e (zero, lt, is) rest = record { variable = d; there = (0, omega arith, refl); named = is; class = e }
    by_test true e (suc k, lt, is) rest = later_one d ds id test (rest (k, omega arith, is))
    by_test false e there rest = later_one d ds id test (rest there)

abbrev is_local : ℕ → Bool
is_local class = class == 7

local_one : (a : Accepted) (ds : List Declared) (id : ℕ) → Contains (ids_in (filter_map (λ (d : Declared). root d (local_value a d)) ds)) id → HasOne ds id is_local
local_one a [] id (k, lt, is) = absurd (omega arith)
local_one a (d ∷ ds) id at = by_test (d.class == 7) refl at (local_one a ds id)
  where
    by_test : (b : Bool) → (d.class == 7) ≡ b → Contains (ids_in (cons_option (root d (if b then Some (initialized a d) else None)) (filter_map (λ (d : Declared). root d (local_value a d)) ds))) id
        → (Contains (ids_in (filter_map (λ (d : Declared). root d (local_value a d)) ds)) id → HasOne ds id is_local) → HasOne (d ∷ ds) id is_local
    by_test true e (zero, lt, is) rest = record { variable = d; there = (0, omega arith, refl); named = is; class = e }
    by_test true e (suc k, lt, is) rest = later_one d ds id is_local (rest (k, omega arith, is))
    by_test false e there rest = later_one d ds id is_local (rest there)

-- ---- their types

own_class : (class : ℕ) → is_own class ≡ true → (class == 12) ≡ false
own_class class h = by_either (or_cases (class == 1) (class == 6) h)
  where
    by_either : ((class == 1) ≡ true) ⊎ ((class == 6) ≡ true) → (class == 12) ≡ false
    by_either (inl one) = ap (λ (n : ℕ). n == 12) (eqb-true class 1 one)
    by_either (inr six) = ap (λ (n : ℕ). n == 12) (eqb-true class 6 six)

local_class : (class : ℕ) → is_local class ≡ true → (class == 12) ≡ false
local_class class h = ap (λ (n : ℕ). n == 12) (eqb-true class 7 h)

-- a variable of another class than StorageBuffer has a type with a number of cells
holds_counted : (a : Accepted) (d : Declared) → Holds a.types d → (d.class == 12) ≡ false → is_counted a.types d.target ≡ true
holds_counted a d h other = by_either (or_cases (is_counted a.types d.target) (d.class == 12 && may_be_target a.types d.target) (and_parts (is_data (form_of a.types d.target)) (is_counted a.types d.target || (d.class == 12 && may_be_target a.types d.target)) h).1)
  where
    by_either : (is_counted a.types d.target ≡ true) ⊎ ((d.class == 12 && may_be_target a.types d.target) ≡ true) → is_counted a.types d.target ≡ true
    by_either (inl counted) = counted
    by_either (inr buffer) = absurd (both_ways (d.class == 12) other (and_parts (d.class == 12) (may_be_target a.types d.target) buffer).0)

variable_counted : (a : Accepted) → ∥ IsValid a ∥₁ → (d : Declared) → Contains (variables a) d → (d.class == 12) ≡ false → (id t : ℕ) → d.id ≡ id → reads id (targets_of (variables a)) ≡ Some t → is_counted a.types t ≡ true
variable_counted a valid d there other id t named read =
    ∥∥₁_elim (kept_targets a (λ (e : Declared). true) valid) (hlevel (props, codes)) (λ (targets : HaveTargets (targets_of (variables a)) (filter (λ (e : Declared). true) (variables a))).
    ∥∥₁_elim (variables_are a valid) (hlevel (props, codes)) (λ (declared : AreDeclared a.types (variables a)).
    let own : reads d.id (targets_of (variables a)) ≡ Some d.target = each_kept (λ (e : Declared). reads e.id (targets_of (variables a)) ≡ Some e.target) (variables a) d targets there in
    let same : Some d.target ≡ Some t = sym own ∙ ap (λ (k : ℕ). reads k (targets_of (variables a))) named ∙ read in
    let target : d.target ≡ t = cc in
    let counted : is_counted a.types d.target ≡ true = holds_counted a d (each_in (Holds a.types) (variables a) d declared.hold there) other in
    ap (is_counted a.types) (sym target) ∙ counted))

-- ---- in a sound state

zipped : (a : Accepted) (fs : List Frame) (ls : List Roots) (n : ℕ) (es : Roots) → AllZip (HasVariables a) fs ls → slice_get ls n ≡ Some es → (f : Frame) × HasVariables a f es
zipped a [] [] n es all at = absurd (cc)
zipped a [] (l ∷ ls) n es all at = absurd all
zipped a (g ∷ fs) [] n es all at = absurd all
zipped a (g ∷ fs) (l ∷ ls) zero es all at = let same : l ≡ es = cc in (g, subst (HasVariables a g) same all.0)
zipped a (g ∷ fs) (l ∷ ls) (suc n) es all at = zipped a fs ls n es all.1 at

module _ (p : Program) (s : State) (valid : ∥ IsValid p.accepted ∥₁) (sound : IsSound p s) (i : ℕ) where
  own_counted : (id t : ℕ) (v : Value) → root_value s.memory i (Private id) ≡ Some v → variable_type p.accepted (Private id) ≡ Some t → is_counted p.accepted.types t ≡ true
  own_counted id t v h read = by_roots (slice_get s.memory.privates i) refl h
    where
      by_roots : (o : Option Roots) → slice_get s.memory.privates i ≡ o → option_and_then (reads id) o ≡ Some v → is_counted p.accepted.types t ≡ true
      by_roots None e g = absurd (cc)
      by_roots (Some es) e g =
          let ids : ids_in es ≡ own_ids p.accepted = sound.own i es e in
          let one = own_one is_own (variables p.accepted) id (subst (λ (ks : List ℕ). Contains ks id) ids (read_there es id v g)) in
          variable_counted p.accepted valid one.variable one.there (own_class one.variable.class one.class) id t one.named read

  -- a variable of a frame
  frame_counted : (f : Frame) (es : Roots) (id t : ℕ) (v : Value) → HasVariables p.accepted f es → reads id es ≡ Some v → reads id (targets_of (variables p.accepted)) ≡ Some t → is_counted p.accepted.types t ≡ true
  frame_counted f es id t v has h read =
      let one = local_one p.accepted (variables_of p.accepted f.plan.function) id (subst (λ (ks : List ℕ). Contains ks id) has (read_there es id v h)) in
      let there = unfiltered (is_variable_of p.accepted f.plan.function) (variables p.accepted) one.variable one.there in
      variable_counted p.accepted valid one.variable there (local_class one.variable.class one.class) id t one.named read

  local_counted : (depth id t : ℕ) (v : Value) → root_value s.memory i (Local depth id) ≡ Some v → variable_type p.accepted (Local depth id) ≡ Some t → is_counted p.accepted.types t ≡ true
  local_counted depth id t v h read = by_level (slice_get s.memory.locals i) refl h
    where
      by_list : (l : Levels) → slice_get s.memory.locals i ≡ Some l → (o : Option Roots) → slice_get l.list depth ≡ o → option_and_then (reads id) o ≡ Some v → is_counted p.accepted.types t ≡ true
      by_list l level None e g = absurd (cc)
      by_list l level (Some es) e g =
          let within = slice_get_within s.memory.locals i l level in
          let levels = sound.levels in
          let stacks = sound.stacks in
          let status = element_at s.statuses.list i (omega arith) in
          let stack = element_at s.stacks i (omega arith) in
          let one = sound.each i status.0 stack.0 l status.1 stack.1 level in
          let frame = zipped p.accepted stack.0.frames l.list depth es one.variables e in
          frame_counted frame.0 es id t v frame.1 g read

      by_level : (o : Option Levels) → slice_get s.memory.locals i ≡ o → option_and_then (reads id) (option_and_then (λ (l : Levels). slice_get l.list depth) o) ≡ Some v → is_counted p.accepted.types t ≡ true
      by_level None e g = absurd (cc)
      by_level (Some l) e g = by_list l e (slice_get l.list depth) refl g

  -- a variable that is there, of a type without a number of cells, is shared
  pub root_shared : (r : Root) (t : ℕ) (v : Value) → root_value s.memory i r ≡ Some v → variable_type p.accepted r ≡ Some t → is_counted p.accepted.types t ≡ false → (id : ℕ) × (r ≡ Shared id)
  root_shared (Shared id) t v h read open_type = (id, refl)
  root_shared (Private id) t v h read open_type = absurd (both_ways (is_counted p.accepted.types t) open_type (own_counted id t v h read))
  root_shared (Local depth id) t v h read open_type = absurd (both_ways (is_counted p.accepted.types t) open_type (local_counted depth id t v h read))
