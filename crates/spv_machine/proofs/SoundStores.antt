-- A store leaves a sound state: it changes one part of one variable.
use Rattle.std.proofs.Common.{◌≡◌, ◌⊎◌, ◌∙◌, inl, inr, ℕ, zero, suc, List, [], ◌∷◌, Option, Some, None, length, length-set, map, slice_get, slice_set, refl, sym, ap, subst}
use Rattle.std.proofs.lemmas.Bool.{cases_eq}
use Rattle.std.specs.List.{AllZip}
use Rattle.std.specs.Option.{option_and_then, option_map_or}
use Rattle.spv_base.specs.Entries.{change, reads, writes}
use Rattle.spv_base.specs.Parts.{with_part}
use Rattle.spv_base.specs.Variables.{Roots, root_id}
use Rattle.spv_base.specs.declared.values.Pointer.{Pointer}
use Rattle.spv_base.specs.declared.values.Root.{Root}
use Rattle.spv_base.specs.declared.values.Root.TheVariants.{Shared, Private, Local}
use Rattle.spv_base.specs.declared.values.Value.{Value}
use Rattle.spv_base.proofs.Exports.{length_change, change_here}
use Rattle.spv_actions.specs.Below.spv_mem.specs.Memory.{Held as Memory, IsMemory, Levels, roots_in, stored, with_level, with_roots}
use Rattle.spv_actions.specs.Below.spv_mem.specs.Roots.{put_in}
use Rattle.spv_actions.specs.Below.spv_mem.proofs.Exports.{stored_kept}
use Rattle.spv_frame.specs.Frames.{Held as Frame}
use Rattle.spv_frame.specs.Stacks.{Stacked}
use Rattle.spv_statuses.specs.declared.invocations.Status.{Status}
use Rattle.spv_valid.specs.Acceptance.{Accepted}
use Rattle.spv_sites.specs.Fits.{StoreFits}
use Rattle.spv_state.specs.Program.{Program}
use Rattle.spv_state.specs.Roots.{ids_in as keys}
use Rattle.spv_state.specs.Sound.{HasVariables, IsSound, IsSoundStack}
use Rattle.spv_state.specs.State.{State, put_store}
use Rattle.spv_state.proofs.Exports.{keys_stay, change_other, changed_from}

-- ---- the variables of frames are those that they were

abbrev pub all_keys : List Roots → List (List ℕ)
all_keys xs = map keys xs

put_keys : (id : ℕ) (path : List ℕ) (u : Value) (es : Roots) → keys (put_in id path u es) ≡ keys es
put_keys id path u es = by_value (reads id es)
  where
    by_value : (o : Option Value) → keys (option_map_or (λ v. writes id (with_part v path u) es) o es) ≡ keys es
    by_value None = refl
    by_value (Some v) = keys_stay id (with_part v path u) es

set_keys : (n : ℕ) (xs : List Roots) (es new : Roots) → slice_get xs n ≡ Some es → keys new ≡ keys es → all_keys (slice_set xs n new) ≡ all_keys xs
set_keys n [] es new h same = refl
set_keys zero (x ∷ xs) es new h same = let here : x ≡ es = cc in ap (λ (k : List ℕ). k ∷ all_keys xs) (same ∙ ap keys (sym here))
set_keys (suc n) (x ∷ xs) es new h same = ap (λ (ks : List (List ℕ)). keys x ∷ ks) (set_keys n xs es new h same)

pub variables_stay : (a : Accepted) (fs : List Frame) (xs ys : List Roots) → all_keys ys ≡ all_keys xs → AllZip (HasVariables a) fs xs → AllZip (HasVariables a) fs ys
variables_stay a [] [] [] same h = h
variables_stay a [] [] (y ∷ ys) same h = absurd (cc)
variables_stay a [] (x ∷ xs) ys same h = absurd h
variables_stay a (f ∷ fs) [] ys same h = absurd h
variables_stay a (f ∷ fs) (x ∷ xs) [] same h = absurd (cc)
variables_stay a (f ∷ fs) (x ∷ xs) (y ∷ ys) same h =
    let here : keys y ≡ keys x = cc in
    let rest : all_keys ys ≡ all_keys xs = cc in
    (here ∙ h.0, variables_stay a fs xs ys rest h.1)

-- ---- memories with the same variables

-- the levels of an invocation, as they were
pub record SameLevels (old : List Levels) (i : ℕ) (l : Levels) : Type 0 where
  pub before : Levels
  pub at : slice_get old i ≡ Some before
  pub room : l.room ≡ before.room
  pub keys : all_keys l.list ≡ all_keys before.list

-- the variables that an invocation has for itself, with their ids
pub record SameOwn (old : List Roots) (i : ℕ) (es : Roots) : Type 0 where
  pub before : Roots
  pub at : slice_get old i ≡ Some before
  pub ids : keys es ≡ keys before

pub record SameVariables (old new : Memory) : Type 0 where
  pub types : new.types ≡ old.types
  pub targets : new.targets ≡ old.targets
  pub privates : length new.privates ≡ length old.privates
  pub shared : keys new.shared ≡ keys old.shared
  pub own : (i : ℕ) (es : Roots) → slice_get new.privates i ≡ Some es → SameOwn old.privates i es
  pub locals : length new.locals ≡ length old.locals
  pub levels : (i : ℕ) (l : Levels) → slice_get new.locals i ≡ Some l → SameLevels old.locals i l

same_own : (old : List Roots) (i : ℕ) (es : Roots) → slice_get old i ≡ Some es → SameOwn old i es
same_own old i es at = record { before = es; at = at; ids = refl }

-- those of an invocation, changed to others with their ids
own_changed : (old : List Roots) (i j : ℕ) (es new ks : Roots) → slice_get old i ≡ Some es → keys new ≡ keys es → slice_get (slice_set old i new) j ≡ Some ks → SameOwn old j ks
own_changed [] i j es new ks here same at = absurd (cc)
own_changed (x ∷ xs) zero zero es new ks here same at =
    let was : x ≡ es = cc in
    let is : new ≡ ks = cc in
    record { before = x; at = refl; ids = ap keys (sym is) ∙ same ∙ ap keys (sym was) }
own_changed (x ∷ xs) zero (suc j) es new ks here same at = record { before = ks; at = at; ids = refl }
own_changed (x ∷ xs) (suc i) zero es new ks here same at = record { before = ks; at = at; ids = refl }
own_changed (x ∷ xs) (suc i) (suc j) es new ks here same at = let rest = own_changed xs i j es new ks here same at in record { before = rest.before; at = rest.at; ids = rest.ids }

unchanged : (old : List Levels) (i : ℕ) (l : Levels) → slice_get old i ≡ Some l → SameLevels old i l
unchanged old i l at = record { before = l; at = at; room = refl; keys = refl }

same_memory : (m : Memory) → SameVariables m m
same_memory m = record { types = refl; targets = refl; privates = refl; shared = refl; own = same_own m.privates; locals = refl; levels = unchanged m.locals }

-- the variables at a depth of an invocation, changed to others with their ids
levels_changed : (ls : List Levels) (i depth j : ℕ) (es new : Roots) (l : Levels) → option_and_then (λ (k : Levels). slice_get k.list depth) (slice_get ls i) ≡ Some es → keys new ≡ keys es
    → slice_get (change i (with_level depth new) ls) j ≡ Some l → SameLevels ls j l
levels_changed ls i depth j es new l there same at = by_number (cases_eq i j)
  where
    here : (o : Option Levels) (k : Levels) → o ≡ Some k → option_and_then (λ (x : Levels). slice_get x.list depth) o ≡ Some es → slice_get k.list depth ≡ Some es
    here o k e h = rw e at h

    by_number : (i ≡ j) ⊎ (i ≡ j → ⊥) → SameLevels ls j l
    by_number (inr apart) = unchanged ls j l (sym (change_other i j (with_level depth new) ls apart) ∙ at)
    by_number (inl is) =
        let own : slice_get (change i (with_level depth new) ls) i ≡ Some l = subst (λ (n : ℕ). slice_get (change i (with_level depth new) ls) n ≡ Some l) (sym is) at in
        let was = changed_from (with_level depth new) (slice_get ls i) l (sym (change_here i (with_level depth new) ls) ∙ own) in
        record {
          before = was.before;
          at = subst (λ (n : ℕ). slice_get ls n ≡ Some was.before) is was.at;
          room = sym (ap (λ (k : Levels). k.room) was.is);
          keys = sym (ap (λ (k : Levels). all_keys k.list) was.is) ∙ set_keys depth was.before.list es new (here (slice_get ls i) was.before was.at there) same;
        }

stored_in : (m : Memory) (i : ℕ) (r : Root) (es new : Roots) → roots_in m i r ≡ Some es → keys new ≡ keys es → SameVariables m (with_roots i r new m)
stored_in m i (Shared id) es new at same =
    let is : m.shared ≡ es = cc in
    record { types = refl; targets = refl; privates = refl; shared = same ∙ ap keys (sym is); own = same_own m.privates; locals = refl; levels = unchanged m.locals }
stored_in m i (Private id) es new at same =
    record { types = refl; targets = refl; privates = length-set m.privates i new; shared = refl; own = λ j ks there. own_changed m.privates i j es new ks at same there; locals = refl; levels = unchanged m.locals }
stored_in m i (Local depth id) es new at same = record {
  types = refl;
  targets = refl;
  privates = refl;
  shared = refl;
  own = same_own m.privates;
  locals = length_change i (with_level depth new) m.locals;
  levels = λ j l there. levels_changed m.locals i depth j es new l at same there;
}

pub stored_same : (m : Memory) (i : ℕ) (p : Pointer) (u : Value) → SameVariables m (stored i p u m)
stored_same m i p u = by_roots (roots_in m i p.root) refl
  where
    by_roots : (o : Option Roots) → roots_in m i p.root ≡ o → SameVariables m (option_map_or (λ es. with_roots i p.root (put_in (root_id p.root) p.path u es) m) o m)
    by_roots None e = same_memory m
    by_roots (Some es) e = stored_in m i p.root es (put_in (root_id p.root) p.path u es) e (put_keys (root_id p.root) p.path u es)

-- ---- sound states

stack_kept : (a : Accepted) (t : Status) (k : Stacked) (old new : Levels) → new.room ≡ old.room → all_keys new.list ≡ all_keys old.list → IsSoundStack a t k old → IsSoundStack a t k new
stack_kept a t k old new room same s = record {
  room = s.room;
  levels = room ∙ s.levels;
  finished = s.finished;
  frames = s.frames;
  variables = variables_stay a k.frames old.list new.list same s.variables;
  first = s.first;
  calls = s.calls;
  waits = s.waits;
  rooted = s.rooted;
}

memory_kept : (p : Program) (s : State) (new : Memory) → SameVariables s.memory new → ∥ IsMemory new ∥₁ → IsSound p s → IsSound p (record s { memory = new })
memory_kept p s new same memory sound = record {
  plans = sound.plans;
  types = same.types ∙ sound.types;
  targets = same.targets ∙ sound.targets;
  memory = memory;
  words = sound.words;
  stacks = sound.stacks;
  levels = same.locals ∙ sound.levels;
  privates = same.privates ∙ sound.privates;
  shared = same.shared ∙ sound.shared;
  own = λ i es at. let was = same.own i es at in was.ids ∙ sound.own i was.before was.at;
  each = λ i t k l status stack level.
      let was = same.levels i l level in
      stack_kept p.accepted t k was.before l was.room was.keys (sound.each i t k was.before status stack was.at);
}

pub store_kept : (p : Program) (s : State) (i : ℕ) (o : Option (Pointer × Value)) → StoreFits s i o → IsSound p s → IsSound p (put_store i o s)
store_kept p s i None fits sound = sound
store_kept p s i (Some e) fits sound = memory_kept p s (stored i e.0 e.1 s.memory) (stored_same s.memory i e.0 e.1) (stored_kept s.memory i e.0 e.1 sound.memory fits.1 fits.0) sound
