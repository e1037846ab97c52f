-- An event that is being made, step by step, and what becomes of it.
use Rattle.std.proofs.Common.{◌≡◌, ◌∙◌, ℕ, suc, ◌+◌, ◌≤◌, Bool, true, false, List, ◌∷◌, Option, Some, None, Result, Ok, Err, OnOk, OnErr, refl, sym, ap, subst, arith}
use Rattle.std.specs.Prelude.{if◌then◌else◌, option_map}
use Rattle.std.specs.Option.{option_map_or}
use Rattle.spv_base.specs.declared.happenings.Happening.{Happening}
use Rattle.spv_base.specs.declared.instructions.Inst.{Inst}
use Rattle.spv_base.specs.declared.values.Pointer.{Pointer}
use Rattle.spv_base.specs.declared.values.Value.{Value}
use Rattle.spv_sites.specs.Effects.{Effect}
use Rattle.spv_sites.specs.Planned.{IsGiven, IsTaken, gone, shown}
use Rattle.spv_sites.specs.declared.effects.Control.{Control as CodeControl}
use Rattle.spv_sites.specs.declared.effects.Control.TheVariants.{Next as CodeNext, Jump as CodeJump, Enter as CodeEnter, Leave as CodeLeave, Wait as CodeWait}
use Rattle.spv_sites.specs.declared.effects.Effect.{Effect as CodeEffect}
use Rattle.spv_journal.specs.Events.{Event, fitting, newest, older, opened, size_of}
use Rattle.spv_journal.specs.Held.{Held as Recorded, IsMaking, Records, changes_in, marked, past_of, sealed, unwound}
use Rattle.spv_journal.specs.Undo.{Moment, before, past}
use Rattle.spv_state.specs.Program.{Program}
use Rattle.spv_state.specs.State.{State}
use Rattle.spv_machine.specs.Does.{Does}
use Rattle.spv_machine.specs.Recording.{IsSingleBack, Made, control_entries, effect_entries, store_entries, turns}
use Rattle.spv_machine.specs.Weights.{effect_weight, events_appended, leaves_in, puts_back, registers_set, taking}
use Rattle.spv_machine.specs.Step.{Outcome, Moves, apply}
use Rattle.spv_machine.specs.World.{IsRecorded, seen}
use Rattle.spv_machine.specs.declared.execution.Did.{Did}
use Rattle.spv_machine.specs.declared.execution.Did.TheVariants.{Idle, Moved}
use Rattle.spv_machine.specs.declared.execution.StepErr.{StepErr}
use Rattle.spv_machine.specs.declared.execution.StepErr.TheVariants.{Fault as Faulted, NoMemory}

-- ---- changes one after the other

pub records_still : (w : Recorded) → Records 0 w w
records_still w = record { past = refl; ring = refl; limit = refl; happening = refl; changes = omega arith }

pub records_on : (n m : ℕ) (a b c : Recorded) → Records n a b → Records m b c → Records (n + m) a c
records_on n m a b c one other = record {
  past = other.past ∙ one.past;
  ring = other.ring ∙ one.ring;
  limit = other.limit ∙ one.limit;
  happening = other.happening ∙ one.happening;
  changes = let x = one.changes in let y = other.changes in omega arith;
}

pub records_more : (n m : ℕ) (a b : Recorded) → n ≤ m → Records n a b → Records m a b
records_more n m a b few one = record {
  past = one.past;
  ring = one.ring;
  limit = one.limit;
  happening = one.happening;
  changes = let x = one.changes in omega (arith, few, x);
}

making_as : (i : ℕ) (a b : Option Event) → option_map (λ (v : Event). v.happening) b ≡ option_map (λ (v : Event). v.happening) a → IsMaking a i → IsMaking b i
making_as i None b same h = absurd h
making_as i (Some v) None same h = absurd (cc)
making_as i (Some v) (Some w) same h = let is : w.happening ≡ v.happening = cc in subst (λ (x : Happening). x.inv ≡ i) (sym is) h

pub making_on : (n i : ℕ) (a b : Recorded) → IsMaking a.gathered i → Records n a b → IsMaking b.gathered i
making_on n i a b making one = making_as i a.gathered b.gathered one.happening making

-- an event that has begun is one of its invocation
pub marked_making : (h : Happening) (a b : Recorded) → b ≡ marked h a → IsMaking b.gathered h.inv
marked_making h a b begins = subst (λ (x : Recorded). IsMaking x.gathered h.inv) (sym begins) refl

-- ---- an event that was begun, and whose changes were made

first_is : (x y : Moment) (xs ys : List Moment) → x ∷ xs ≡ y ∷ ys → x ≡ y
first_is x y xs ys e = cc

module _ (h : Happening) (n : ℕ) (a b c : Recorded) (none : a.gathered ≡ None) (begins : b ≡ marked h a) (on : Records n b c) where
  gathered : (v : Event) × (c.gathered ≡ Some v)
  gathered = by_event c.gathered refl
    where
      by_event : (o : Option Event) → c.gathered ≡ o → (v : Event) × (c.gathered ≡ Some v)
      by_event None e =
          let clash : None ≡ Some h = sym (ap (option_map (λ (v : Event). v.happening)) e) ∙ on.happening ∙ ap (λ (x : Recorded). option_map (λ (v : Event). v.happening) x.gathered) begins in
          absurd (cc)
      by_event (Some v) e = (v, e)

  -- it leads back to the state in which it began
  leads : (v : Event) → c.gathered ≡ Some v → ◌≡◌ {A = Moment} (record { happening = v.happening; state = before v c.state }) (record { happening = h; state = a.state })
  leads v is =
      first_is (record { happening = v.happening; state = before v c.state }) (record { happening = h; state = a.state }) (past c.ring (before v c.state)) (past a.ring a.state)
      (ap (λ (o : Option Event). past (opened o c.ring) c.state) (sym is) ∙ on.past ∙ ap past_of begins)

  ring_is : c.ring ≡ a.ring
  ring_is = on.ring ∙ ap (λ (x : Recorded). x.ring) begins

  limit_is : c.limit ≡ a.limit
  limit_is = on.limit ∙ ap (λ (x : Recorded). x.limit) begins

  few : (v : Event) → c.gathered ≡ Some v → size_of v ≤ suc n
  few v is =
      let most = on.changes in
      let at : suc (changes_in c.gathered) ≡ size_of v = ap (λ (o : Option Event). suc (changes_in o)) is in
      let from : changes_in b.gathered ≡ 0 = ap (λ (x : Recorded). changes_in x.gathered) begins in
      omega (arith, most, at, from)

  pub recorded_is : (weight : ℕ) → suc n ≤ weight → IsRecorded h weight (seen a) (seen (sealed c))
  recorded_is weight fits =
      let v = gathered in record {
        event = v.0;
        happening = ap (λ (m : Moment). m.happening) (leads v.0 v.1);
        leads = ap (λ (m : Moment). m.state) (leads v.0 v.1);
        small = let most = few v.0 v.1 in omega (arith, most, fits);
        ring = ap (λ (o : Option Event). fitting c.limit (opened o c.ring)) v.1 ∙ ap (λ (k : ℕ). fitting k (v.0 ∷ c.ring)) limit_is ∙ ap (λ (vs : List Event). fitting a.limit (v.0 ∷ vs)) ring_is;
        limit = limit_is;
      }

  -- what was made of it is undone
  pub given_up : unwound c ≡ a
  given_up =
      let v = gathered in
      let state : option_map_or (λ (x : Event). before x c.state) (newest (opened c.gathered c.ring)) c.state ≡ a.state
      = ap (λ (o : Option Event). option_map_or (λ (x : Event). before x c.state) (newest (opened o c.ring)) c.state) v.1 ∙ ap (λ (m : Moment). m.state) (leads v.0 v.1) in
      let ring : older (opened c.gathered c.ring) ≡ a.ring = ap (λ (o : Option Event). older (opened o c.ring)) v.1 ∙ ring_is in
      λ i. record { state = state i; ring = ring i; gathered = (sym none) i; limit = limit_is i }

  -- the event is kept, or given up for want of memory
  pub made_is : {E : Type 0} (weight : ℕ) (next : State) (done : Result (Unit {0}) E) (result : Result Did StepErr) (new : Recorded) → suc n ≤ weight → OnOk done (c.state ≡ next)
      → OnOk done ((result ≡ Ok (Moved h)) × (new ≡ sealed c)) → OnErr done ((result ≡ Err NoMemory) × (new ≡ unwound c)) → Made h next weight result a new
  made_is weight next (Ok u) result new fits reaches kept undone =
      subst (λ (r : Result Did StepErr). Made h next weight r a new) (sym kept.0)
      (subst (λ (x : Recorded). Made h next weight (Ok (Moved h)) a x) (sym kept.1) (refl, reaches, refl, recorded_is weight fits))
  made_is weight next (Err e) result new fits reaches kept undone = subst (λ (r : Result Did StepErr). Made h next weight r a new) (sym undone.0) (undone.1 ∙ given_up)

-- ---- what a step did

pub made_does : (i : ℕ) (due : Outcome) (weight : ℕ) (h : Happening) (next : State) (result : Result Did StepErr) (old new : Recorded) → due ≡ Moves h next → Made h next weight result old new
    → Does i due weight result (seen old) (seen new)
made_does i due weight h next (Ok (Moved g)) old new is made =
    (is ∙ ap (λ (x : Happening). Moves x next) (sym made.0) ∙ ap (Moves g) (sym made.1), subst (λ (x : Happening). IsRecorded x weight (seen old) (seen new)) (sym made.0) made.3)
made_does i due weight h next (Ok Idle) old new is made = absurd made
made_does i due weight h next (Err (Faulted f)) old new is made = absurd made
made_does i due weight h next (Err NoMemory) old new is made = ap seen made

pub made_none : (h : Happening) (next : State) (weight : ℕ) (result : Result Did StepErr) (old new : Recorded) → old.gathered ≡ None → Made h next weight result old new → new.gathered ≡ None
made_none h next weight (Ok (Moved g)) old new none made = made.2
made_none h next weight (Ok Idle) old new none made = absurd made
made_none h next weight (Err (Faulted f)) old new none made = absurd made
made_none h next weight (Err NoMemory) old new none made = ap (λ (x : Recorded). x.gathered) made ∙ none

-- what both states have
pub made_keeps : (P : State → Type 0) (h : Happening) (next : State) (weight : ℕ) (result : Result Did StepErr) (old new : Recorded) → P old.state → P next → Made h next weight result old new → P new.state
made_keeps P h next weight (Ok (Moved g)) old new before behind made = subst P (sym made.1) behind
made_keeps P h next weight (Ok Idle) old new before behind made = absurd made
made_keeps P h next weight (Err (Faulted f)) old new before behind made = absurd made
made_keeps P h next weight (Err NoMemory) old new before behind made = subst (λ (x : Recorded). P x.state) (sym made) before

-- ---- weights

store_few : (o : Option (Pointer × Value)) → store_entries o ≤ 1 + leaves_in o
store_few None = omega arith
store_few (Some e) = omega arith

-- a return stores nothing
pub turns_few : (s : State) (i : ℕ) (e : CodeEffect) (v : Value) → IsTaken s i e v → store_entries (shown e v).store + turns (shown e v).control ≤ 3 + leaves_in (shown e v).store
turns_few s i e v taken = by_control e.control taken.1
  where
    few : store_entries (shown e v).store ≤ 1 + leaves_in (shown e v).store
    few = store_few (shown e v).store

    by_control : (c : CodeControl) → IsGiven s i c e.store e.gain v → store_entries (shown e v).store + turns (gone c v) ≤ 3 + leaves_in (shown e v).store
    by_control CodeNext given = omega (arith, few)
    by_control (CodeJump block phis) given = omega (arith, few)
    by_control (CodeEnter b) given = omega (arith, few)
    by_control (CodeLeave out) given =
        let none : store_entries (shown e v).store ≡ 0 = ap (λ (o : Option Pointer). store_entries (option_map (λ (q : Pointer). (q, v)) o)) given.0 in
        omega (arith, none)
    by_control CodeWait given = omega (arith, few)

-- the entries of an effect with its mark are no more than its weight
pub effect_fits : (p : Program) (s : State) (i : ℕ) (d : Inst) (e : Effect) → store_entries e.store + turns e.control ≤ 3 + leaves_in e.store → IsSingleBack p s i d e
    → suc (effect_entries p.accepted i e (apply p i d e s)) ≤ effect_weight p s i d e
effect_fits p s i d e turning single = by_back (puts_back p s i d e) refl
  where
    few : store_entries e.store ≤ 1 + leaves_in e.store
    few = store_few e.store

    by_back : (b : Bool) → puts_back p s i d e ≡ b
        → suc (store_entries e.store + taking e.result + control_entries p.accepted i e.control (apply p i d e s))
        ≤ 4 + (if b then 0 else leaves_in e.store) + taking e.result + registers_set e.control + events_appended p.accepted i e.control (apply p i d e s)
    by_back false is = omega (arith, turning)
    by_back true is =
        let one = single is in
        let low : leaves_in e.store ≤ 1 = one.leaves in
        let next : turns e.control ≡ 1 = ap turns one.next in
        omega (arith, few, low, next)
