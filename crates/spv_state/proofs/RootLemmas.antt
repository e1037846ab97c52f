-- Roots of pointers: where the variable that one names is there.
use Rattle.std.proofs.Common.{◌≡◌, ◌∙◌, ℕ, zero, suc, ◌<◌, ◌≤◌, ◌==◌, Bool, true, false, cond, List, [], ◌∷◌, ◌++◌, length, map, take, Option, Some, None, slice_get, refl, sym, ap, subst, arith}
use Rattle.std.proofs.Math.Logic.{∥∥₁_elim, ∥∥₁_map}
use Rattle.std.proofs.Props.{props}
use Rattle.std.proofs.lemmas.Bool.{eq-eqb}
use Rattle.std.proofs.lemmas.List.Elements.{All-weaker}
use Rattle.std.proofs.lemmas.Option.{slice_get_within}
use Rattle.spv_base.proofs.Exports.{contains_later, element_at}
use Rattle.std.specs.Coded.{codes}
use Rattle.std.specs.List.{AllByRecursion, AllZip, Contains, cons_option, filter, filter_map}
use Rattle.std.specs.Option.{is_some, option_and_then, option_map_or}
use Rattle.spv_base.specs.Entries.{change, reads}
use Rattle.spv_base.specs.Parts.{part_at}
use Rattle.spv_base.specs.Variables.{Roots}
use Rattle.spv_base.specs.declared.values.Pointer.{Pointer}
use Rattle.spv_base.specs.declared.values.Root.{Root}
use Rattle.spv_base.specs.declared.values.Root.TheVariants.{Shared, Private, Local}
use Rattle.spv_base.specs.declared.values.Value.{Value}
use Rattle.spv_valid.specs.Acceptance.{Accepted}
use Rattle.spv_mem.specs.Memory.{Levels, root_value}
use Rattle.spv_initial.specs.Start.{root}
use Rattle.spv_initial.specs.declared.variables.Declared.{Declared}
use Rattle.spv_frame.specs.Frames.{Held as Frame}
use Rattle.spv_frame.specs.Registers.{Planned}
use Rattle.spv_frame.specs.Stacks.{Stacked}
use Rattle.spv_state.specs.Program.{Program}
use Rattle.spv_state.specs.Roots.{CapturesRoot, FindsVariable, IsRoot, IsRooted, ids_at, ids_in, local_ids, own_ids, shared_ids}
use Rattle.spv_state.specs.Sound.{HasVariables, IsSound, IsSoundFrame}
use Rattle.spv_state.specs.State.{State, frames_of, with_pc}

-- ---- ids in lists

pub contains_kept : {X : Type 0} (test : X → Bool) (xs : List X) (x : X) → Contains xs x → test x ≡ true → Contains (filter test xs) x
contains_kept test [] x (k, lt, is) h = absurd (omega arith)
contains_kept {X} test (y ∷ xs) x (zero, lt, is) h = let own : test y ≡ true = ap test is ∙ h in rw own (0, omega arith, is)
contains_kept {X} test (y ∷ xs) x (suc k, lt, is) h = by_test (test y) (contains_kept test xs x (k, omega arith, is) h)
  where
    by_test : (b : Bool) → Contains (filter test xs) x → Contains (cond b (y ∷ filter test xs) (filter test xs)) x
    by_test true there = contains_later y x (filter test xs) there
    by_test false there = there

pub contains_mapped : {X Y : Type 0} (f : X → Y) (xs : List X) (x : X) → Contains xs x → Contains (map f xs) (f x)
contains_mapped f [] x (k, lt, is) = absurd (omega arith)
contains_mapped f (y ∷ xs) x (zero, lt, is) = (0, omega arith, ap f is)
contains_mapped f (y ∷ xs) x (suc k, lt, is) = contains_later (f y) (f x) (map f xs) (contains_mapped f xs x (k, omega arith, is))

-- the ids of the variables that have a value
pub ids_kept : (value : Declared → Option Value) (test : Declared → Bool) (ds : List Declared) → AllByRecursion (λ (d : Declared). is_some (value d) ≡ test d) ds
    → ids_in (filter_map (λ (d : Declared). root d (value d)) ds) ≡ map (λ (d : Declared). d.id) (filter test ds)
ids_kept value test [] all = refl
ids_kept value test (d ∷ ds) (first, rest) = by_value (value d) first (ids_kept value test ds rest)
  where
    by_value : (o : Option Value) → is_some o ≡ test d → ids_in (filter_map (λ (e : Declared). root e (value e)) ds) ≡ map (λ (e : Declared). e.id) (filter test ds)
        → ids_in (cons_option (root d o) (filter_map (λ (e : Declared). root e (value e)) ds)) ≡ map (λ (e : Declared). e.id) (cond (test d) (d ∷ filter test ds) (filter test ds))
    by_value None e more =
        subst (λ (b : Bool). ids_in (filter_map (λ (x : Declared). root x (value x)) ds) ≡ map (λ (x : Declared). x.id) (cond b (d ∷ filter test ds) (filter test ds))) e more
    by_value (Some v) e more =
        subst (λ (b : Bool). d.id ∷ ids_in (filter_map (λ (x : Declared). root x (value x)) ds) ≡ map (λ (x : Declared). x.id) (cond b (d ∷ filter test ds) (filter test ds))) e (ap (λ (ks : List ℕ). d.id ∷ ks) more)

-- ---- frames

pub root_prop : (a : Accepted) (fs : List Frame) (depth : ℕ) (r : Root) → IsProp (IsRoot a fs depth r)
root_prop a fs depth (Shared id) = hlevel props
root_prop a fs depth (Private id) = hlevel props
root_prop a fs depth (Local at id) = hlevel props

-- a root is there for other frames that have the same variables down to its depth
pub root_stays : (a : Accepted) (fs gs : List Frame) (depth : ℕ) (r : Root) → ((n : ℕ) → n ≤ depth → ids_at a gs n ≡ ids_at a fs n) → IsRoot a fs depth r → IsRoot a gs depth r
root_stays a fs gs depth (Shared id) same h = h
root_stays a fs gs depth (Private id) same h = h
root_stays a fs gs depth (Local at id) same h = (h.0, subst (λ (ks : List ℕ). ∥ Contains ks id ∥₁) (sym (same at h.0)) h.1)

no_ids : (id : ℕ) → Contains [] id → ⊥
no_ids id (k, lt, is) = omega (arith, lt)

ids_more : (a : Accepted) (fs gs : List Frame) (n id : ℕ) → Contains (ids_at a fs n) id → Contains (ids_at a (fs ++ gs) n) id
ids_more a [] gs n id there = absurd (no_ids id there)
ids_more a (f ∷ fs) gs zero id there = there
ids_more a (f ∷ fs) gs (suc n) id there = ids_more a fs gs n id there

-- and where there are further frames above, for a deeper frame too
pub root_more : (a : Accepted) (fs gs : List Frame) (depth deeper : ℕ) (r : Root) → depth ≤ deeper → IsRoot a fs depth r → IsRoot a (fs ++ gs) deeper r
root_more a fs gs depth deeper (Shared id) le h = h
root_more a fs gs depth deeper (Private id) le h = h
root_more a fs gs depth deeper (Local at id) le h = let low = h.0 in (omega arith, ∥∥₁_map h.1 (ids_more a fs gs at id))

-- ---- variables that are there

reads_there : (es : Roots) (id : ℕ) → Contains (ids_in es) id → is_some (reads id es) ≡ true
reads_there [] id (k, lt, is) = absurd (omega arith)
reads_there (e ∷ es) id (zero, lt, is) = let own : (e.0 == id) ≡ true = eq-eqb e.0 id is in rw own refl
reads_there (e ∷ es) id (suc k, lt, is) = by_test (e.0 == id) (reads_there es id (k, omega arith, is))
  where
    by_test : (b : Bool) → is_some (reads id es) ≡ true → is_some (cond b (Some e.1) (reads id es)) ≡ true
    by_test true rest = refl
    by_test false rest = rest

read_among : (es : Roots) (ids : List ℕ) (id : ℕ) → ids_in es ≡ ids → ∥ Contains ids id ∥₁ → is_some (reads id es) ≡ true
read_among es ids id are h = ∥∥₁_elim h (hlevel (props, codes)) (λ (c : Contains ids id). reads_there es id (subst (λ (ks : List ℕ). Contains ks id) (sym are) c))

-- the variables of a frame
zipped : (a : Accepted) (fs : List Frame) (ls : List Roots) (n : ℕ) (f : Frame) → AllZip (HasVariables a) fs ls → slice_get fs n ≡ Some f → (es : Roots) × (slice_get ls n ≡ Some es) × HasVariables a f es
zipped a [] [] n f all at = absurd (cc)
zipped a [] (l ∷ ls) n f all at = absurd all
zipped a (g ∷ fs) [] n f all at = absurd all
zipped a (g ∷ fs) (l ∷ ls) zero f all at = let same : g ≡ f = cc in (l, refl, subst (λ (x : Frame). HasVariables a x l) same all.0)
zipped a (g ∷ fs) (l ∷ ls) (suc n) f all at = zipped a fs ls n f all.1 at

value_there : (o : Option Value) → is_some o ≡ true → (v : Value) × (o ≡ Some v)
value_there None h = absurd (cc)
value_there (Some v) h = (v, refl)

module _ (p : Program) (s : State) (sound : IsSound p s) (i depth : ℕ) (f : Frame) (here : slice_get (frames_of s i) depth ≡ Some f) where
  stack : (k : Stacked) × (slice_get s.stacks i ≡ Some k) × (frames_of s i ≡ k.frames)
  stack = by_stack (slice_get s.stacks i) refl here
    where
      by_stack : (o : Option Stacked) → slice_get s.stacks i ≡ o → slice_get (option_map_or (λ (k : Stacked). k.frames) o []) depth ≡ Some f
          → (k : Stacked) × (slice_get s.stacks i ≡ Some k) × (option_map_or (λ (k : Stacked). k.frames) (slice_get s.stacks i) [] ≡ k.frames)
      by_stack None e h = absurd (cc)
      by_stack (Some k) e h = (k, e, ap (λ (o : Option Stacked). option_map_or (λ (x : Stacked). x.frames) o []) e)

  inside : i < length s.statuses.list
  inside = let k = stack in let within = slice_get_within s.stacks i k.0 k.1 in let same = sound.stacks in omega arith

  pub frame_sound : IsSoundFrame p.accepted f
  frame_sound =
      let k = stack in
      let t = element_at s.statuses.list i inside in
      let l = element_at s.memory.locals i (let within = inside in let same = sound.levels in omega arith) in
      (sound.each i t.0 k.0 l.0 t.1 k.1 l.1).frames depth f (subst (λ (fs : List Frame). slice_get fs depth ≡ Some f) k.2 here)

  -- the pointers that are kept in it name variables that are there
  pub frame_rooted : IsRooted p.accepted (frames_of s i) depth f
  frame_rooted =
      let k = stack in
      let t = element_at s.statuses.list i inside in
      let l = element_at s.memory.locals i (let within = inside in let same = sound.levels in omega arith) in
      let one = sound.each i t.0 k.0 l.0 t.1 k.1 l.1 in
      subst (λ (fs : List Frame). IsRooted p.accepted fs depth f) (sym k.2) (one.rooted depth f (subst (λ (fs : List Frame). slice_get fs depth ≡ Some f) k.2 here))

  local_there : (at id : ℕ) → ∥ Contains (ids_at p.accepted (frames_of s i) at) id ∥₁ → is_some (root_value s.memory i (Local at id)) ≡ true
  local_there at id h =
      let k = stack in
      let t = element_at s.statuses.list i inside in
      let l = element_at s.memory.locals i (let within = inside in let same = sound.levels in omega arith) in
      let one = sound.each i t.0 k.0 l.0 t.1 k.1 l.1 in
      by_frame k.0 l.0 l.1 one.variables (slice_get k.0.frames at) refl (subst (λ (fs : List Frame). ∥ Contains (ids_at p.accepted fs at) id ∥₁) k.2 h)
    where
      by_frame : (k : Stacked) (l : Levels) → slice_get s.memory.locals i ≡ Some l → AllZip (HasVariables p.accepted) k.frames l.list → (o : Option Frame) → slice_get k.frames at ≡ o
          → ∥ Contains (option_map_or (λ (g : Frame). local_ids p.accepted g.plan.function) o []) id ∥₁ → is_some (root_value s.memory i (Local at id)) ≡ true
      by_frame k l level all None e among = absurd (∥∥₁_elim among (hlevel props) (no_ids id))
      by_frame k l level all (Some g) e among =
          let own = zipped p.accepted k.frames l.list at g all e in
          rw (level, own.1) (read_among own.0 (local_ids p.accepted g.plan.function) id own.2 among)

  -- the variable of a root is there
  pub root_there : (r : Root) → IsRoot p.accepted (frames_of s i) depth r → is_some (root_value s.memory i r) ≡ true
  root_there (Shared id) h = read_among s.memory.shared (shared_ids p.accepted) id sound.shared h
  root_there (Private id) h =
      let own = element_at s.memory.privates i (let within = inside in let same = sound.privates in omega arith) in
      rw own.1 (read_among own.0 (own_ids p.accepted) id (sound.own i own.0 own.1) h)
  root_there (Local at id) h = local_there at id h.1

  -- so a pointer to it finds it
  pub finds : (q : Pointer) → IsRoot p.accepted (frames_of s i) depth q.root → FindsVariable s.memory i q
  finds q h =
      let there = value_there (root_value s.memory i q.root) (root_there q.root h) in
      record { value = there.0; there = there.1; part = ap (option_and_then (λ (u : Value). part_at u q.path)) there.1 }

-- ---- other frames

-- what is kept in a frame is there for other frames, where each root is
rooted_among : (a : Accepted) (fs gs : List Frame) (depth deeper : ℕ) (f : Frame) → ((r : Root) → IsRoot a fs depth r → IsRoot a gs deeper r) → IsRooted a fs depth f → IsRooted a gs deeper f
rooted_among a fs gs depth deeper f there rooted = record {
  registers = λ id q at. there q.root (rooted.registers id q at);
  events = All-weaker (CapturesRoot a fs depth) (CapturesRoot a gs deeper) (λ e own q is. there q.root (own q is)) f.events rooted.events;
}

-- so it is where they have the same variables down to its depth
pub rooted_stays : (a : Accepted) (fs gs : List Frame) (depth : ℕ) (f : Frame) → ((n : ℕ) → n ≤ depth → ids_at a gs n ≡ ids_at a fs n) → IsRooted a fs depth f → IsRooted a gs depth f
rooted_stays a fs gs depth f same rooted = rooted_among a fs gs depth depth f (λ r h. root_stays a fs gs depth r same h) rooted

-- and where there are further frames above
pub rooted_more : (a : Accepted) (fs gs : List Frame) (depth deeper : ℕ) (f : Frame) → depth ≤ deeper → IsRooted a fs depth f → IsRooted a (fs ++ gs) deeper f
rooted_more a fs gs depth deeper f le rooted = rooted_among a fs (fs ++ gs) depth deeper f (λ r h. root_more a fs gs depth deeper r le h) rooted

-- a frame that goes to another instruction keeps what it has
pub rooted_moved : (a : Accepted) (fs : List Frame) (depth pc : ℕ) (f : Frame) → IsRooted a fs depth f → IsRooted a fs depth (with_pc pc f)
rooted_moved a fs depth pc f rooted = record { registers = rooted.registers; events = rooted.events }

-- a frame that changes and stays one of its function has its variables
pub ids_changed : (a : Accepted) (g : Frame → Frame) (m n : ℕ) (fs : List Frame) → ((f : Frame) → (g f).plan ≡ f.plan) → ids_at a (change m g fs) n ≡ ids_at a fs n
ids_changed a g m n [] plan = refl
ids_changed a g zero zero (f ∷ fs) plan = ap (λ (p : Planned). local_ids a p.function) (plan f)
ids_changed a g zero (suc n) (f ∷ fs) plan = refl
ids_changed a g (suc m) zero (f ∷ fs) plan = refl
ids_changed a g (suc m) (suc n) (f ∷ fs) plan = ids_changed a g m n fs plan

-- with further frames above, too
pub ids_below : (a : Accepted) (g : Frame → Frame) (m n : ℕ) (fs gs : List Frame) → ((f : Frame) → (g f).plan ≡ f.plan) → ids_at a (change m g fs ++ gs) n ≡ ids_at a (fs ++ gs) n
ids_below a g m n [] gs plan = refl
ids_below a g zero zero (f ∷ fs) gs plan = ap (λ (p : Planned). local_ids a p.function) (plan f)
ids_below a g zero (suc n) (f ∷ fs) gs plan = refl
ids_below a g (suc m) zero (f ∷ fs) gs plan = refl
ids_below a g (suc m) (suc n) (f ∷ fs) gs plan = ids_below a g m n fs gs plan

-- those of the last one of some frames
pub ids_last : (a : Accepted) (fs : List Frame) (f : Frame) → ids_at a (fs ++ f ∷ []) (length fs) ≡ local_ids a f.plan.function
ids_last a [] f = refl
ids_last a (g ∷ fs) f = ids_last a fs f

-- those that are left without the last ones
pub ids_taken : (a : Accepted) (k n : ℕ) (fs : List Frame) → n < k → ids_at a (take k fs) n ≡ ids_at a fs n
ids_taken a zero n fs lt = absurd (omega (arith, lt))
ids_taken a (suc k) n [] lt = refl
ids_taken a (suc k) zero (g ∷ fs) lt = refl
ids_taken a (suc k) (suc n) (g ∷ fs) lt = ids_taken a k n fs (omega (arith, lt))
