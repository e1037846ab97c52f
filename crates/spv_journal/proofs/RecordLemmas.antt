-- A change that is recorded.
use Rattle.std.proofs.Common.{◌≡◌, ◌∙◌, ℕ, ◌+◌, ◌≤◌, List, [], ◌∷◌, Option, Some, None, IsSome, option_map, refl, sym, ap, subst, arith}
use Rattle.spv_base.specs.declared.happenings.Happening.{Happening}
use Rattle.spv_state.specs.State.{State}
use Rattle.spv_journal.specs.Entries.{Keeps}
use Rattle.spv_journal.specs.Events.{Event, Kept, fitting, opened, pushed}
use Rattle.spv_undo.specs.Entries.{count_of}
use Rattle.spv_journal.specs.Held.{Held, IsMaking, KeepsEvent, Records}
use Rattle.spv_undo.specs.Undo.{CanUndo, CanUndoAll, Undoes, undo, undo_all}
use Rattle.spv_journal.specs.Undo.{CanUnwind, past}
use Rattle.spv_undo.specs.declared.entries.Entry.{Entry}
use Rattle.spv_journal.proofs.UndoLemmas.{fitting_unwinds}

-- a state beside what a journal keeps
abbrev pub held_of : State → Kept → Held
held_of s k = record { state = s; ring = k.ring; gathered = k.gathered; limit = k.limit }

abbrev pub with_entry : Entry → Kept → Kept
with_entry e j = record j { gathered = option_map (pushed e) j.gathered }

pub record Extended (n : ℕ) (old : Held) (t : State) (k : Kept) : Type 0 where
  pub unwinds : CanUnwind (opened k.gathered k.ring) t
  pub records : Records n old (held_of t k)

pub extended : (n i : ℕ) (e : Entry) (s t : State) (j k : Kept) (old : Held) → held_of s j ≡ old → IsMaking old.gathered i → k ≡ with_entry e j → Undoes i e s t → CanUnwind (opened j.gathered j.ring) s → count_of e ≤ n
    → Extended n old t k
extended n i e s t j k old is making added u can few =
    subst (Extended n old t) (sym added)
    (subst (λ (o : Held). Extended n o t (with_entry e j)) is (each j.ring j.limit j.gathered (subst (λ (o : Held). IsMaking o.gathered i) (sym is) making) can))
  where
    each : (vs : List Event) (limit : ℕ) (g : Option Event) → IsMaking g i → CanUnwind (opened g vs) s
        → Extended n (record { state = s; ring = vs; gathered = g; limit = limit }) t (record { ring = vs; gathered = option_map (pushed e) g; limit = limit })
    each vs limit None same h = absurd same
    each vs limit (Some v) same h =
        let b : undo v.happening.inv e t ≡ s = ap (λ (m : ℕ). undo m e t) same ∙ u.back in
        record {
          unwinds = (
            (subst (λ (m : ℕ). CanUndo m e t) (sym same) u.can, subst (CanUndoAll v.happening.inv v.changes) (sym b) h.0),
            subst (λ (x : State). CanUnwind vs (undo_all v.happening.inv v.changes x)) (sym b) h.1,
          );
          records = record {
            past = ap (λ (x : State). record { happening = v.happening; state = undo_all v.happening.inv v.changes x } ∷ past vs (undo_all v.happening.inv v.changes x)) b;
            ring = refl;
            limit = refl;
            happening = refl;
            changes = omega (arith, few);
          };
        }

-- the same of an entry that was added
pub kept : (n i : ℕ) (P : Entry → Type 0) (s t : State) (j k : Kept) (old : Held) → held_of s j ≡ old → IsMaking old.gathered i → Keeps P j k → ((e : Entry) → P e → Undoes i e s t) → ((e : Entry) → P e → count_of e ≤ n)
    → CanUnwind (opened j.gathered j.ring) s → Extended n old t k
kept n i P s t j k old is making added u few can = extended n i added.entry s t j k old is making added.added (u added.entry added.holds) can (few added.entry added.holds)

-- nothing changed
pub still : (n : ℕ) (old new : Held) → new ≡ old → Records n old new
still n old new same = subst (Records n old) (sym same) (record { past = refl; ring = refl; limit = refl; happening = refl; changes = omega arith })

pub still_unwinds : (s t : State) (j k : Kept) → k ≡ j → t ≡ s → CanUnwind (opened j.gathered j.ring) s → CanUnwind (opened k.gathered k.ring) t
still_unwinds s t j k same back can = subst (CanUnwind (opened k.gathered k.ring)) (sym back) (subst (λ (x : Kept). CanUnwind (opened x.gathered x.ring) s) (sym same) can)

pub making_of : (g : Option Event) → IsSome g → (i : ℕ) × IsMaking g i
making_of None h = absurd cc
making_of (Some v) h = (v.happening.inv, refl)

pub same_held : (s t : State) (j k : Kept) (old : Held) → held_of s j ≡ old → k ≡ j → t ≡ s → held_of t k ≡ old
same_held s t j k old is same back = ap (λ (x : Kept). held_of t x) same ∙ ap (λ (x : State). held_of x j) back ∙ is

-- ---- an event that is made at once

-- of two changes, the newer one first
abbrev pub event_with : Happening → Entry → Entry → Event
event_with h d e = record { happening = h; changes = d ∷ e ∷ [] }

pub record AtOnce (h : Happening) (old : Held) (t : State) (k : Kept) : Type 0 where
  pub unwinds : CanUnwind (opened k.gathered k.ring) t
  pub kept : KeepsEvent 2 h old (held_of t k)

pub at_once : (h : Happening) (e d : Entry) (s t u : State) (j k : Kept) (old : Held) → held_of s j ≡ old → old.gathered ≡ None → k ≡ record j { ring = fitting j.limit (event_with h d e ∷ j.ring) }
    → Undoes h.inv e s t → Undoes h.inv d t u → count_of d + count_of e ≤ 2 → CanUnwind (opened j.gathered j.ring) s → AtOnce h old u k
at_once h e d s t u j k old is none made first second two can =
    subst (AtOnce h old u) (sym made)
    (subst (λ (o : Held). AtOnce h o u (record j { ring = fitting j.limit (event_with h d e ∷ j.ring) })) is
    (each j.ring j.limit j.gathered (ap (λ (o : Held). o.gathered) is ∙ none) can))
  where
    leads : undo h.inv e (undo h.inv d u) ≡ s
    leads = ap (undo h.inv e) second.back ∙ first.back

    each : (vs : List Event) (limit : ℕ) (g : Option Event) → g ≡ None → CanUnwind (opened g vs) s
        → AtOnce h (record { state = s; ring = vs; gathered = g; limit = limit }) u (record { ring = fitting limit (event_with h d e ∷ vs); gathered = g; limit = limit })
    each vs limit (Some v) missing c = absurd cc
    each vs limit None missing c = record {
      unwinds = fitting_unwinds limit (event_with h d e ∷ vs) u ((second.can, (subst (CanUndo h.inv e) (sym second.back) first.can, tt)), subst (CanUnwind vs) (sym leads) c);
      kept = record { event = event_with h d e; happening = refl; leads = leads; few = omega (arith, two); ring = refl; gathered = refl; limit = refl };
    }
