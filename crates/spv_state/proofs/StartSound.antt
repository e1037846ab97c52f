-- The state at the start of a run is sound.
use Rattle.std.proofs.Common.{◌≡◌, ◌∙◌, ℕ, zero, suc, ◌==◌, Bool, true, false, cond, List, [], ◌∷◌, map, replicate, Option, Some, None, refl, sym, ap, subst, arith, slice_get}
use Rattle.std.proofs.Math.Logic.{∥∥₁_elim, ∥∥₁_map}
use Rattle.std.proofs.Props.{props}
use Rattle.std.proofs.lemmas.List.Elements.{All-nil}
use Rattle.std.specs.Coded.{codes}
use Rattle.std.specs.Prelude.{find}
use Rattle.std.specs.List.{Contains, range_with_len}
use Rattle.std.specs.Option.{option_map}
use Rattle.spv_base.specs.Entries.{reads}
use Rattle.spv_base.specs.declared.values.Pointer.{Pointer}
use Rattle.spv_base.specs.declared.values.Value.{Value}
use Rattle.spv_index.specs.Positions.{Stand}
use Rattle.spv_valid.specs.Acceptance.{Accepted, IsAccepted, invocations}
use Rattle.spv_valid.specs.Validity.{IsValid}
use Rattle.spv_frame.specs.Frames.{Held as Frame, fresh, none}
use Rattle.spv_frame.specs.Registers.{Planned, ids}
use Rattle.spv_frame.specs.Stacks.{Stacked}
use Rattle.spv_mem.specs.Memory.{IsMemory, Levels}
use Rattle.spv_initial.specs.Start.{own_roots, starting, variables}
use Rattle.spv_plans.specs.Members.{first_stop, is_stop, members}
use Rattle.spv_plans.specs.Plans.{IsPlan, functions_in, plan_of}
use Rattle.spv_operands.proofs.Exports.{fresh_shaped}
use Rattle.spv_statuses.specs.declared.invocations.Status.{Status}
use Rattle.spv_statuses.specs.declared.invocations.Status.TheVariants.{Ready}
use Rattle.spv_state.specs.Events.{IsShapedEvent, passed}
use Rattle.spv_state.specs.Program.{IsFitting, Program}
use Rattle.spv_state.specs.Roots.{CapturesRoot, IsRooted}
use Rattle.spv_state.specs.Sound.{HasPlaces, IsSound, IsSoundFrame, IsSoundStack, StandsIn}
use Rattle.spv_state.specs.Start.{frame_roots, start_of}
use Rattle.spv_state.proofs.EntryLemmas.{entry_listed}
use Rattle.spv_state.proofs.EventRoots.{above_rooted}
use Rattle.spv_state.proofs.EventShapes.{passed_captured}
use Rattle.spv_state.proofs.VariableStart.{own_begins, shared_begin}
use Rattle.std.proofs.lemmas.List.{length-map, length-replicate}
use Rattle.spv_base.proofs.Exports.{get_replicate}
use Rattle.std.proofs.lemmas.List.FromFn.{length-range_with_len}

-- ---- lists

mapped : {A B : Type 0} (f : A → B) (n i : ℕ) (x : A) (y : B) → slice_get (map f (replicate n x)) i ≡ Some y → y ≡ f x
mapped f zero i x y at = absurd (cc)
mapped f (suc n) zero x y at = cc
mapped f (suc n) (suc i) x y at = mapped f n i x y at

found_among : (p : Stand → Bool) (ss : List Stand) (s : Stand) → find p ss ≡ Some s → Contains ss s × (p s ≡ true)
found_among p [] s h = absurd (cc)
found_among p (t ∷ ts) s h = by_test (p t) refl h (λ g. found_among p ts s g)
  where
    by_test : (b : Bool) → p t ≡ b → cond b (Some t) (find p ts) ≡ Some s → (find p ts ≡ Some s → Contains ts s × (p s ≡ true)) → Contains (t ∷ ts) s × (p s ≡ true)
    by_test true e g rest = let same : t ≡ s = cc in ((0, omega arith, same), subst (λ (x : Stand). p x ≡ true) same e)
    by_test false e g rest = let later = rest g in ((suc later.0.0, omega (arith, later.0.1), later.0.2), later.1)

-- ---- the first executable of a function

stands_at : (a : Accepted) (function word : ℕ) → first_stop (members a.insts function) ≡ Some word → StandsIn a function word
stands_at a function word h = by_found (find is_stop (members a.insts function)) refl h
  where
    by_found : (o : Option Stand) → find is_stop (members a.insts function) ≡ o → option_map (λ (s : Stand). s.inst.word) o ≡ Some word → StandsIn a function word
    by_found None e g = absurd (cc)
    by_found (Some s) e g =
        let found = found_among is_stop (members a.insts function) s e in
        record { stand = s; among = found.0; here = cc; stops = found.1 }

-- each function has the plan that is read off the module
abbrev pub HavePlans : Type 0
HavePlans = (a : Accepted) (function : ℕ) → ∥ IsAccepted a ∥₁ → Contains (functions_in a) function → IsPlan a (plan_of a function)

first_there : HavePlans → (a : Accepted) (function : ℕ) → ∥ IsAccepted a ∥₁ → ∥ Contains (functions_in a) function ∥₁ → first_stop (members a.insts function) ≡ Some (plan_of a function).first
unfolding plan_of
first_there has a function accepted known = ∥∥₁_elim known (hlevel (props, codes)) (λ (h : Contains (functions_in a) function). (has a function accepted h).first)

-- ---- a fresh frame

none_read : {X : Type 0} (id : ℕ) (ks : List ℕ) (x : Option X) → reads id (none ks) ≡ Some x → x ≡ None
none_read id [] x at = absurd (cc)
none_read {X} id (k ∷ ks) x at = by_test (k == id) at (λ g. none_read id ks x g)
  where
    by_test : (b : Bool) → cond b (Some None) (reads {X = Option X} id (none ks)) ≡ Some x → (reads {X = Option X} id (none ks) ≡ Some x → x ≡ None) → x ≡ None
    by_test true g rest = cc
    by_test false g rest = rest g

none_ids : (X : Type 0) (ks : List ℕ) → map (λ (e : ℕ × Option X). e.0) (none ks) ≡ ks
none_ids X [] = refl
none_ids X (k ∷ ks) = ap (λ (ms : List ℕ). k ∷ ms) (none_ids X ks)

fresh_places : (p : Planned) → HasPlaces (fresh p)
fresh_places p = record { values = none_ids Value (ids p.values); pointers = none_ids Pointer p.pointers }

-- no pointers are kept in it
pub fresh_rooted : (a : Accepted) (frames : List Frame) (depth : ℕ) (p : Planned) → IsRooted a frames depth (fresh p)
fresh_rooted a frames depth p = record {
  registers = λ id q at. absurd (let gone : Some q ≡ None = none_read id p.pointers (Some q) at in cc);
  events = All-nil (CapturesRoot a frames depth);
}

-- as a call or a run begins a function
pub function_frame : HavePlans → (a : Accepted) (function : ℕ) → ∥ IsAccepted a ∥₁ → ∥ Contains (functions_in a) function ∥₁ → IsSoundFrame a (fresh (plan_of a function))
unfolding plan_of
function_frame has a function accepted known = record {
  plan = refl;
  places = fresh_places (plan_of a function);
  stands = stands_at a function (plan_of a function).first (first_there has a function accepted known);
  shaped = fresh_shaped a (plan_of a function);
  captured = All-nil (IsShapedEvent a);
}

pub entry_frame : HavePlans → (a : Accepted) → ∥ IsAccepted a ∥₁ → ∥ IsValid a ∥₁ → IsSoundFrame a (fresh (plan_of a a.entry))
entry_frame has a accepted valid = function_frame has a a.entry accepted (∥∥₁_map valid (λ (v : IsValid a). entry_listed a v))

-- a frame that passes debug events goes on being sound
pub passed_sound : (a : Accepted) → ∥ IsAccepted a ∥₁ → ∥ IsValid a ∥₁ → (depth : ℕ) (f : Frame) → IsSoundFrame a f → IsSoundFrame a (passed a depth f)
passed_sound a accepted valid depth f s = record {
  plan = s.plan;
  places = record { values = s.places.values; pointers = s.places.pointers };
  stands = s.stands;
  shaped = record { values = s.shaped.values; pointers = s.shaped.pointers };
  captured = passed_captured a accepted valid f s.shaped depth s.captured;
}

-- ---- the stack of each invocation

abbrev entry_stack : Accepted → Stacked
entry_stack a = record { frames = passed a 0 (fresh (plan_of a a.entry)) ∷ []; room = a.depth }

abbrev entry_levels : Accepted → Levels
entry_levels a = record { list = frame_roots a a.entry ∷ []; room = a.depth }

one_frame : (f g : Frame) (depth : ℕ) → slice_get (f ∷ []) depth ≡ Some g → g ≡ f
one_frame f g zero at = cc
one_frame f g (suc depth) at = absurd (cc)

one_rooted : (a : Accepted) (f g : Frame) (depth : ℕ) → IsRooted a (f ∷ []) 0 f → slice_get (f ∷ []) depth ≡ Some g → IsRooted a (f ∷ []) depth g
one_rooted a f g zero rooted at = subst (IsRooted a (f ∷ []) 0) (let same : f ≡ g = cc in same) rooted
one_rooted a f g (suc depth) rooted at = absurd (cc)

sound_stack : HavePlans → (a : Accepted) → ∥ IsAccepted a ∥₁ → ∥ IsValid a ∥₁ → IsSoundStack a Ready (entry_stack a) (entry_levels a)
unfolding plan_of
sound_stack has a accepted valid = record {
  room = refl;
  levels = refl;
  finished = (λ e. absurd (cc), λ e. absurd (cc));
  frames = λ depth f at. subst (IsSoundFrame a) (sym (one_frame (passed a 0 (fresh (plan_of a a.entry))) f depth at)) (passed_sound a accepted valid 0 (fresh (plan_of a a.entry)) (entry_frame has a accepted valid));
  variables = (refl, tt);
  first = λ f at. ap (λ (g : Frame). g.plan.function) (one_frame (passed a 0 (fresh (plan_of a a.entry))) f 0 at);
  calls = λ depth f g at above. absurd (cc);
  waits = λ f at. tt;
  rooted = λ depth f at. one_rooted a (passed a 0 (fresh (plan_of a a.entry))) f depth (above_rooted a accepted valid [] (fresh (plan_of a a.entry)) (entry_frame has a accepted valid) (fresh_rooted a [] 0 (plan_of a a.entry))) at;
}

-- ---- the state

pub start_sound : HavePlans → (p : Program) → ∥ IsAccepted p.accepted ∥₁ → ∥ IsValid p.accepted ∥₁ → IsFitting p.accepted p.setup → ∥ IsMemory (start_of p).memory ∥₁ → IsSound p (start_of p)
unfolding start_of starting
start_sound has p accepted valid fits memory =
    let a : Accepted = p.accepted in
    let count : ℕ = invocations a in
    record {
      plans = refl;
      types = refl;
      targets = refl;
      memory = memory;
      words = refl;
      stacks = length-replicate count (entry_stack a) ∙ sym (length-replicate count Ready);
      levels = length-map _ _ ∙ length-replicate count (record { list = []; room = a.depth }) ∙ sym (length-replicate count Ready);
      privates = length-map (range_with_len 0 count) (own_roots a p.setup (variables a)) ∙ length-range_with_len 0 count ∙ sym (length-replicate count Ready);
      shared = shared_begin a p.setup accepted valid fits;
      own = own_begins a p.setup accepted valid fits;
      each = λ i t k l status stack level.
          subst (λ (x : Status). IsSoundStack a x k l) (sym (get_replicate count i Ready t status))
          (subst (λ (x : Stacked). IsSoundStack a Ready x l) (sym (get_replicate count i (entry_stack a) k stack))
          (subst (IsSoundStack a Ready (entry_stack a)) (sym (mapped _ count i (record { list = []; room = a.depth }) l level)) (sound_stack has a accepted valid)));
    }
