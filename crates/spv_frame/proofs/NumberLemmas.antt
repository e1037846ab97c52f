-- Registers by their numbers in a plan.
use Rattle.std.proofs.Common.{◌≡◌, ◌∙◌, ℕ, zero, suc, ◌<◌, Bool, false, List, [], ◌∷◌, Option, Some, None, length, length-set, refl, sym, ap, subst, arith, slice_get, slice_set}
use Rattle.std.specs.List.{zip}
use Rattle.spv_base.specs.Entries.{writes}
use Rattle.spv_base.specs.Variables.{Registers}
use Rattle.spv_base.specs.declared.values.PassedEvent.{PassedEvent}
use Rattle.spv_base.specs.declared.values.Pointer.{Pointer}
use Rattle.spv_base.specs.declared.values.Value.{Value}
use Rattle.spv_values.specs.Places.{IsRowAt}
use Rattle.spv_frame.specs.Calls.{id_at}
use Rattle.spv_frame.specs.Frames.{Fits, Held, shown, trees}
use Rattle.spv_frame.specs.Numbers.{HasCells, with_value}
use Rattle.spv_frame.specs.Registers.{IsSlotOf, Planned, Rooms, cells_before, ids, marks, number_of, sizes}
use Rattle.spv_frame.specs.declared.slots.Slot.{Slot}
use Rattle.spv_frame.proofs.FrameLemmas.{Opened, opened}
use Rattle.spv_frame.proofs.RegisterLemmas.{marks_length, marks_set, set_is_write}
use Rattle.spv_base.proofs.Exports.{set_same}

-- where a register with a number lies
abbrev pub slot_at : Rooms → ℕ → ℕ → Slot
slot_at rs n k = record { id = id_at (ids rs) n; number = n; start = cells_before n rs; len = k }

long : (rs : Rooms) (n k : ℕ) → slice_get (sizes rs) n ≡ Some k → slice_get rs n ≡ Some (id_at (ids rs) n, k)
long [] n k h = absurd cc
long (r ∷ rs) zero k h = let e : r.1 ≡ k = cc in ap (λ (x : ℕ). Some (r.0, x)) e
long (r ∷ rs) (suc n) k h = long rs n k h

slot_is : (rs : Rooms) (n k : ℕ) → slice_get (sizes rs) n ≡ Some k → number_of (id_at (ids rs) n) (ids rs) ≡ Some n → IsSlotOf rs (slot_at rs n k)
slot_is rs n k h named = record { named = named; begins = refl; long = long rs n k h }

pub inside : (rs : Rooms) (n k : ℕ) → slice_get (sizes rs) n ≡ Some k → n < length rs
inside [] n k h = absurd cc
inside (r ∷ rs) zero k h = omega arith
inside (r ∷ rs) (suc n) k h = let l = inside rs n k h in omega arith

pub record Placed (h : Held) (p : Planned) (row : Value) (has : List Bool) (n k : ℕ) (path : List ℕ) (start : ℕ) : Type 0 where
  pub opened : Opened h p row has (slot_at h.plan.values n k)
  pub way : path ≡ n ∷ []
  pub at : IsRowAt row path start k

pub placed : (h : Held) (p q : Planned) (pc : ℕ) (row : Value) (has : List Bool) (ps : List (Option Pointer)) (es : List PassedEvent) (n k : ℕ) (path : List ℕ) (start : ℕ)
    → shown p pc row has ps es ≡ h → Fits p row has ps → q ≡ p → HasCells n k h → path ≡ n ∷ [] → start ≡ cells_before n q.values
    → number_of (id_at (ids q.values) n) (ids q.values) ≡ Some n → Placed h p row has n k path start
placed h p q pc row has ps es n k path start e fits is cells way begins named =
    let same : q.values ≡ h.plan.values = ap (λ (x : Planned). x.values) is ∙ ap (λ (x : Held). x.plan.values) e in
    let slot = slot_is h.plan.values n k cells (subst (λ (rs : Rooms). number_of (id_at (ids rs) n) (ids rs) ≡ Some n) same named) in
    let o = opened h p pc row has ps es (slot_at h.plan.values n k) e fits slot in
    let first : start ≡ cells_before n h.plan.values = begins ∙ ap (cells_before n) same in
    record {
      opened = o;
      way = way;
      at = subst (λ (m : ℕ). IsRowAt row path m k) (sym first) (subst (λ (w : List ℕ). IsRowAt row w (cells_before n h.plan.values) k) (sym way) o.lies.at);
    }

-- ---- a register without its value

some_cells : (rs : Rooms) (n : ℕ) → n < length rs → (k : ℕ) × (slice_get (sizes rs) n ≡ Some k)
some_cells [] n h = absurd (omega arith)
some_cells (r ∷ rs) zero h = (r.1, refl)
some_cells (r ∷ rs) (suc n) h = some_cells rs n (omega arith)

pub record Cleared (h : Held) (p : Planned) (pc : ℕ) (row : Value) (has : List Bool) (ps : List (Option Pointer)) (es : List PassedEvent) (n : ℕ) : Type 0 where
  pub within : n < length has
  pub shows : shown p pc row (slice_set has n false) ps es ≡ with_value n None h
  pub fits : Fits p row (slice_set has n false) ps

pub cleared : (h : Held) (p q : Planned) (pc : ℕ) (row : Value) (has : List Bool) (ps : List (Option Pointer)) (es : List PassedEvent) (n : ℕ) (path : List ℕ) (start : ℕ)
    → shown p pc row has ps es ≡ h → Fits p row has ps → q ≡ p → n < length h.plan.values → path ≡ n ∷ [] → start ≡ cells_before n q.values
    → number_of (id_at (ids q.values) n) (ids q.values) ≡ Some n → Cleared h p pc row has ps es n
cleared h p q pc row has ps es n path start e fits is low way begins named =
    let cells = some_cells h.plan.values n low in
    let l = placed h p q pc row has ps es n cells.0 path start e fits is cells.1 way begins named in
    let o = l.opened in
    let room : n < length (marks (trees row) has) = let m = marks_length (trees row) has o.as_many in let i = o.lies.inside in omega arith in
    let id = id_at (ids h.plan.values) n in
    let values : zip (ids p.values) (marks (trees row) (slice_set has n false)) ≡ writes id None (zip (ids p.values) (marks (trees row) has)) =
    ap (λ (t : List Value). zip (ids p.values) (marks t (slice_set has n false))) (sym (set_same (trees row) n o.lies.tree o.lies.is))
    ∙ ap (zip (ids p.values)) (marks_set (trees row) has n o.lies.tree false)
    ∙ set_is_write (ids p.values) (marks (trees row) has) n id None o.named room in
    record {
      within = o.within;
      shows = ap (λ (x : Registers). record (shown p pc row has ps es) { values = x }) values ∙ ap (λ (x : Held). record x { values = writes id None x.values }) e;
      fits = (fits.0, fits.1, length-set has n false ∙ fits.2, fits.3);
    }
