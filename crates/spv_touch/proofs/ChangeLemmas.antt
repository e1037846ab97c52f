-- What changes of a state are to an invocation: those of another one are none, and the same change leaves two states alike that look alike.
use Rattle.std.proofs.Common.{◌≡◌, ◌≢◌, ◌∙◌, ℕ, zero, suc, List, [], ◌∷◌, Option, Some, None, slice_get, slice_set, refl, sym, ap, subst}
use Rattle.std.specs.Option.{option_and_then, option_map, option_map_or}
use Rattle.spv_base.specs.Entries.{change, reads, writes}
use Rattle.spv_base.specs.Parts.{part_at, with_part}
use Rattle.spv_base.specs.Variables.{Roots}
use Rattle.spv_base.specs.declared.values.Pointer.{Pointer}
use Rattle.spv_base.specs.declared.values.Root.{Root}
use Rattle.spv_base.specs.declared.values.Root.TheVariants.{Shared, Private, Local}
use Rattle.spv_base.specs.declared.values.Value.{Value}
use Rattle.spv_base.proofs.Exports.{change_here}
use Rattle.spv_mem.specs.Memory.{Levels, load_of, stored, with_level, with_roots}
use Rattle.spv_mem.specs.Roots.{put_in}
use Rattle.spv_frame.specs.Frames.{Held as Frame}
use Rattle.spv_statuses.specs.declared.invocations.Status.{Status}
use Rattle.spv_state.specs.State.{State, on_frame, on_frames, on_memory, pop_frame, push_frame, put_store, set_status, with_top, without_locals, without_top}
use Rattle.spv_order.specs.Order.{Holds}
use Rattle.spv_touch.specs.Ranges.{below, range}
use Rattle.spv_touch.specs.Touching.{leaves_below}
use Rattle.spv_touch.specs.Views.{Differ, KeepsOutline, LookAlike, VariablesDiffer, outline}
use Rattle.spv_order.specs.declared.events.Leaves.{Leaves}
use Rattle.spv_touch.proofs.MemoryLemmas.{Agree, loads_alike, range_in, reads_agree}
use Rattle.spv_touch.proofs.StoreLemmas.{all_still, all_then, put_alike, put_differs, writes_same, written}

-- ---- lists

module _ {A : Type 0} where
  change_other : (i j : ℕ) (g : A → A) (xs : List A) → i ≢ j → slice_get (change i g xs) j ≡ slice_get xs j
  change_other i j g [] ne = refl
  change_other zero zero g (x ∷ xs) ne = absurd (ne refl)
  change_other zero (suc j) g (x ∷ xs) ne = refl
  change_other (suc i) zero g (x ∷ xs) ne = refl
  change_other (suc i) (suc j) g (x ∷ xs) ne = change_other i j g xs (λ e. ne (ap suc e))

  set_other : (i j : ℕ) (y : A) (xs : List A) → i ≢ j → slice_get (slice_set xs i y) j ≡ slice_get xs j
  set_other i j y [] ne = refl
  set_other zero zero y (x ∷ xs) ne = absurd (ne refl)
  set_other zero (suc j) y (x ∷ xs) ne = refl
  set_other (suc i) zero y (x ∷ xs) ne = refl
  set_other (suc i) (suc j) y (x ∷ xs) ne = set_other i j y xs (λ e. ne (ap suc e))

  set_here : (i : ℕ) (y : A) (xs zs : List A) → slice_get xs i ≡ slice_get zs i → slice_get (slice_set xs i y) i ≡ slice_get (slice_set zs i y) i
  set_here i y [] [] h = refl
  set_here zero y [] (z ∷ zs) h = cc
  set_here (suc i) y [] (z ∷ zs) h = set_here i y [] zs h
  set_here zero y (x ∷ xs) [] h = cc
  set_here (suc i) y (x ∷ xs) [] h = set_here i y xs [] h
  set_here zero y (x ∷ xs) (z ∷ zs) h = refl
  set_here (suc i) y (x ∷ xs) (z ∷ zs) h = set_here i y xs zs h

  both_changed : (i : ℕ) (g : A → A) (xs zs : List A) → slice_get xs i ≡ slice_get zs i → slice_get (change i g xs) i ≡ slice_get (change i g zs) i
  both_changed i g xs zs h = change_here i g xs ∙ ap (option_map g) h ∙ sym (change_here i g zs)

-- ---- states

pub unchanged : (i : ℕ) (some : List Leaves) (s : State) → LookAlike i some s s
unchanged i some s = record { plans = refl; types = refl; targets = refl; shared = all_still some s.memory.shared; privates = refl; locals = refl; stack = refl; words = refl; status = refl }

pub in_turn : (i : ℕ) (some : List Leaves) (s t u : State) → LookAlike i some s t → LookAlike i some t u → LookAlike i some s u
in_turn i some s t u a b = record {
  plans = a.plans ∙ b.plans;
  types = a.types ∙ b.types;
  targets = a.targets ∙ b.targets;
  shared = all_then some s.memory.shared t.memory.shared u.memory.shared a.shared b.shared;
  privates = a.privates ∙ b.privates;
  locals = a.locals ∙ b.locals;
  stack = a.stack ∙ b.stack;
  words = a.words ∙ b.words;
  status = a.status ∙ b.status;
}

-- ---- of another invocation

module _ (i j : ℕ) (ne : i ≢ j) (some : List Leaves) (s : State) where
  pub frame_other : (g : Frame → Frame) → LookAlike j some s (on_frame i g s)
  frame_other g = record { plans = refl; types = refl; targets = refl; shared = all_still some s.memory.shared; privates = refl; locals = refl; stack = sym (change_other i j (on_frames g) s.stacks ne); words = refl; status = refl }

  pub status_other : (status : Status) → LookAlike j some s (set_status i status s)
  status_other status = record { plans = refl; types = refl; targets = refl; shared = all_still some s.memory.shared; privates = refl; locals = refl; stack = refl; words = refl; status = sym (set_other i j status s.statuses.list ne) }

  pub pop_other : LookAlike j some s (pop_frame i s)
  pop_other = record {
    plans = refl;
    types = refl;
    targets = refl;
    shared = all_still some s.memory.shared;
    privates = refl;
    locals = sym (change_other i j without_locals s.memory.locals ne);
    stack = sym (change_other i j without_top s.stacks ne);
    words = refl;
    status = refl;
  }

  pub push_other : (f : Frame) (es : Roots) → LookAlike j some s (push_frame i f es s)
  push_other f es = record {
    plans = refl;
    types = refl;
    targets = refl;
    shared = all_still some s.memory.shared;
    privates = refl;
    locals = sym (change_other i j _ s.memory.locals ne);
    stack = sym (change_other i j (with_top f) s.stacks ne);
    words = refl;
    status = refl;
  }

  private_other : (id : ℕ) (path : List ℕ) (u : Value) (o : Option Roots)
      → LookAlike j some s (record s { memory = option_map_or (λ es. with_roots i (Private id) (put_in id path u es) s.memory) o s.memory })
  private_other id path u None = unchanged j some s
  private_other id path u (Some es) =
      record { plans = refl; types = refl; targets = refl; shared = all_still some s.memory.shared; privates = sym (set_other i j (put_in id path u es) s.memory.privates ne); locals = refl; stack = refl; words = refl; status = refl }

  local_other : (depth id : ℕ) (path : List ℕ) (u : Value) (o : Option Roots)
      → LookAlike j some s (record s { memory = option_map_or (λ es. with_roots i (Local depth id) (put_in id path u es) s.memory) o s.memory })
  local_other depth id path u None = unchanged j some s
  local_other depth id path u (Some es) =
      record { plans = refl; types = refl; targets = refl; shared = all_still some s.memory.shared; privates = refl; locals = sym (change_other i j (with_level depth (put_in id path u es)) s.memory.locals ne); stack = refl; words = refl; status = refl }

-- what a store leaves of shared variables
shared_stored : (es : Roots) (id : ℕ) (path : List ℕ) (u w : Value) (o : Option Value) → reads id es ≡ o → option_and_then (λ v. part_at v path) o ≡ Some w → outline w ≡ outline u
    → VariablesDiffer (range_in id path o) es (option_map_or (λ v. writes id (with_part v path u) es) o es)
shared_stored es id path u w None is h k = cc
shared_stored es id path u w (Some v) is h k =
    let listed : range_in id path (Some v) ≡ range id v path w ∷ [] = ap (λ (x : Option Value). option_map_or (λ part. range id v path part ∷ []) x []) h in
    let differ : Differ (Holds (range id v path w ∷ []) id) v (with_part v path u) = put_differs id v w u path h k in
    subst (λ (ranges : List Leaves). VariablesDiffer ranges es (writes id (with_part v path u) es)) (sym listed)
    (subst (λ (fs : Roots). VariablesDiffer (range id v path w ∷ []) fs (writes id (with_part v path u) es)) (writes_same id v es is)
    (written (range id v path w ∷ []) id v (with_part v path u) es es (all_still (range id v path w ∷ []) es) differ))

pub store_other : (i j : ℕ) → i ≢ j → (s : State) (o : Option (Pointer × Value)) → KeepsOutline s i o → LookAlike j (leaves_below s (option_map (λ (x : Pointer × Value). x.0) o)) s (put_store i o s)
store_other i j ne s None keeps = unchanged j [] s
store_other i j ne s (Some e) keeps = by_root e.0.root keeps.1
  where
    by_root : (r : Root) → load_of s.memory i (record { root = r; path = e.0.path }) ≡ Some keeps.0
        → LookAlike j (below s.memory r e.0.path) s (on_memory (stored i (record { root = r; path = e.0.path }) e.1) s)
    by_root (Shared id) there = record {
      plans = refl;
      types = refl;
      targets = refl;
      shared = shared_stored s.memory.shared id e.0.path e.1 keeps.0 (reads id s.memory.shared) refl there keeps.2;
      privates = refl;
      locals = refl;
      stack = refl;
      words = refl;
      status = refl;
    }
    by_root (Private id) there = private_other i j ne [] s id e.0.path e.1 (slice_get s.memory.privates i)
    by_root (Local depth id) there = local_other i j ne [] s depth id e.0.path e.1 (option_and_then (λ (l : Levels). slice_get l.list depth) (slice_get s.memory.locals i))

-- ---- of the invocation itself

module _ (i : ℕ) (some : List Leaves) (s t : State) (alike : LookAlike i some s t) where
  pub frame_alike : (g : Frame → Frame) → LookAlike i some (on_frame i g s) (on_frame i g t)
  frame_alike g = record {
    plans = alike.plans;
    types = alike.types;
    targets = alike.targets;
    shared = alike.shared;
    privates = alike.privates;
    locals = alike.locals;
    stack = both_changed i (on_frames g) s.stacks t.stacks alike.stack;
    words = alike.words;
    status = alike.status;
  }

  pub status_alike : (status : Status) → LookAlike i some (set_status i status s) (set_status i status t)
  status_alike status = record {
    plans = alike.plans;
    types = alike.types;
    targets = alike.targets;
    shared = alike.shared;
    privates = alike.privates;
    locals = alike.locals;
    stack = alike.stack;
    words = alike.words;
    status = set_here i status s.statuses.list t.statuses.list alike.status;
  }

  pub pop_alike : LookAlike i some (pop_frame i s) (pop_frame i t)
  pop_alike = record {
    plans = alike.plans;
    types = alike.types;
    targets = alike.targets;
    shared = alike.shared;
    privates = alike.privates;
    locals = both_changed i without_locals s.memory.locals t.memory.locals alike.locals;
    stack = both_changed i without_top s.stacks t.stacks alike.stack;
    words = alike.words;
    status = alike.status;
  }

  pub push_alike : (f : Frame) (es : Roots) → LookAlike i some (push_frame i f es s) (push_frame i f es t)
  push_alike f es = record {
    plans = alike.plans;
    types = alike.types;
    targets = alike.targets;
    shared = alike.shared;
    privates = alike.privates;
    locals = both_changed i _ s.memory.locals t.memory.locals alike.locals;
    stack = both_changed i (with_top f) s.stacks t.stacks alike.stack;
    words = alike.words;
    status = alike.status;
  }

  private_alike : (id : ℕ) (path : List ℕ) (u : Value) (o : Option Roots)
      → LookAlike i some (record s { memory = option_map_or (λ es. with_roots i (Private id) (put_in id path u es) s.memory) o s.memory })
      (record t { memory = option_map_or (λ es. with_roots i (Private id) (put_in id path u es) t.memory) o t.memory })
  private_alike id path u None = alike
  private_alike id path u (Some es) = record {
    plans = alike.plans;
    types = alike.types;
    targets = alike.targets;
    shared = alike.shared;
    privates = set_here i (put_in id path u es) s.memory.privates t.memory.privates alike.privates;
    locals = alike.locals;
    stack = alike.stack;
    words = alike.words;
    status = alike.status;
  }

  local_alike : (depth id : ℕ) (path : List ℕ) (u : Value) (o : Option Roots)
      → LookAlike i some (record s { memory = option_map_or (λ es. with_roots i (Local depth id) (put_in id path u es) s.memory) o s.memory })
      (record t { memory = option_map_or (λ es. with_roots i (Local depth id) (put_in id path u es) t.memory) o t.memory })
  local_alike depth id path u None = alike
  local_alike depth id path u (Some es) = record {
    plans = alike.plans;
    types = alike.types;
    targets = alike.targets;
    shared = alike.shared;
    privates = alike.privates;
    locals = both_changed i (with_level depth (put_in id path u es)) s.memory.locals t.memory.locals alike.locals;
    stack = alike.stack;
    words = alike.words;
    status = alike.status;
  }

  shared_alike : (id : ℕ) (path : List ℕ) (u w : Value) (o p : Option Value) → Agree (Holds some id) o p → option_and_then (λ v. part_at v path) o ≡ Some w → outline w ≡ outline u
      → option_map outline (option_and_then (λ v. part_at v path) o) ≡ option_map outline (option_and_then (λ v. part_at v path) p)
      → VariablesDiffer some (option_map_or (λ v. writes id (with_part v path u) s.memory.shared) o s.memory.shared)
      (option_map_or (λ v. writes id (with_part v path u) t.memory.shared) p t.memory.shared)
  shared_alike id path u w None p agree h k outlines = cc
  shared_alike id path u w (Some v) None agree h k outlines = absurd agree
  shared_alike id path u w (Some v) (Some x) agree h k outlines = by_part (part_at x path) refl outlines
    where
      by_part : (b : Option Value) → part_at x path ≡ b → option_map outline (part_at v path) ≡ option_map outline b
          → VariablesDiffer some (writes id (with_part v path u) s.memory.shared) (writes id (with_part x path u) t.memory.shared)
      by_part None at outlines = cc
      by_part (Some b) at outlines =
          let both : option_map outline (Some w) ≡ option_map outline (Some b) = sym (ap (option_map outline) h) ∙ outlines in
          let same : outline w ≡ outline b = cc in
          written some id (with_part v path u) (with_part x path u) s.memory.shared t.memory.shared alike.shared (put_alike (Holds some id) v x w b u path agree h at k (sym same ∙ k))

  pub store_alike : (o : Option (Pointer × Value)) → KeepsOutline s i o → LookAlike i some (put_store i o s) (put_store i o t)
  store_alike None keeps = alike
  store_alike (Some e) keeps = by_root e.0.root keeps.1 (loads_alike i some s t alike e.0)
    where
      by_root : (r : Root) → load_of s.memory i (record { root = r; path = e.0.path }) ≡ Some keeps.0
          → option_map outline (load_of s.memory i (record { root = r; path = e.0.path })) ≡ option_map outline (load_of t.memory i (record { root = r; path = e.0.path }))
          → LookAlike i some (on_memory (stored i (record { root = r; path = e.0.path }) e.1) s) (on_memory (stored i (record { root = r; path = e.0.path }) e.1) t)
      by_root (Shared id) there outlines = record {
        plans = alike.plans;
        types = alike.types;
        targets = alike.targets;
        shared = shared_alike id e.0.path e.1 keeps.0 (reads id s.memory.shared) (reads id t.memory.shared) (reads_agree some s.memory.shared t.memory.shared id alike.shared) there keeps.2 outlines;
        privates = alike.privates;
        locals = alike.locals;
        stack = alike.stack;
        words = alike.words;
        status = alike.status;
      }
      by_root (Private id) there outlines = subst (λ (o : Option Roots). LookAlike i some (on_memory (stored i (record { root = Private id; path = e.0.path }) e.1) s)
          (record t { memory = option_map_or (λ es. with_roots i (Private id) (put_in id e.0.path e.1 es) t.memory) o t.memory })) alike.privates
          (private_alike id e.0.path e.1 (slice_get s.memory.privates i))
      by_root (Local depth id) there outlines = subst (λ (o : Option Roots). LookAlike i some (on_memory (stored i (record { root = Local depth id; path = e.0.path }) e.1) s)
          (record t { memory = option_map_or (λ es. with_roots i (Local depth id) (put_in id e.0.path e.1 es) t.memory) o t.memory }))
          (ap (option_and_then (λ (l : Levels). slice_get l.list depth)) alike.locals)
          (local_alike depth id e.0.path e.1 (option_and_then (λ (l : Levels). slice_get l.list depth) (slice_get s.memory.locals i)))
