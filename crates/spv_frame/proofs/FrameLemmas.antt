-- What a frame shows of its parts, and what an exchange in one of them changes.
use Rattle.std.proofs.Common.{◌≡◌, ◌∙◌, ℕ, zero, suc, ◌<◌, Bool, false, List, [], ◌∷◌, Option, Some, None, map, length, length-set, replicate, refl, sym, ap, subst, arith, slice_get, slice_set}
use Rattle.std.specs.List.{zip}
use Rattle.spv_base.specs.Entries.{reads, writes}
use Rattle.spv_base.specs.Parts.{with_part}
use Rattle.spv_base.specs.Variables.{Registers}
use Rattle.spv_base.specs.declared.values.PassedEvent.{PassedEvent}
use Rattle.spv_base.specs.declared.values.Pointer.{Pointer}
use Rattle.spv_base.specs.declared.values.Value.{Value, List as Many}
use Rattle.spv_types.specs.Rows.{leaves}
use Rattle.spv_frame.specs.Registers.{IsSlotOf, Planned, Rooms, ids, marked, marks, number_of, sizes}
use Rattle.spv_frame.specs.Frames.{Fits, Held, cells_in, fresh, none, shown, trees}
use Rattle.spv_frame.specs.Plans.{rooms}
use Rattle.spv_frame.specs.declared.slots.Slot.{Slot}
use Rattle.spv_frame.proofs.RegisterLemmas.{Lies, get_is_read, lies, marks_get, marks_length, marks_set, number_inside, set_is_write, trees_many}
use Rattle.std.proofs.lemmas.List.{length-map}

-- a register of a value in a frame
pub record Opened (h : Held) (p : Planned) (row : Value) (has : List Bool) (s : Slot) : Type 0 where
  pub lies : Lies row s
  pub within : s.number < length has
  pub as_many : length has ≡ length (trees row)
  pub named : number_of s.id (ids p.values) ≡ Some s.number

pub opened : (h : Held) (p : Planned) (pc : ℕ) (row : Value) (has : List Bool) (ps : List (Option Pointer)) (es : List PassedEvent) (s : Slot)
    → shown p pc row has ps es ≡ h → Fits p row has ps → IsSlotOf h.plan.values s → Opened h p row has s
opened h p pc row has ps es s e fits slot =
    let here : IsSlotOf p.values s = subst (λ (rs : Rooms). IsSlotOf rs s) (sym (ap (λ (x : Held). x.plan.values) e)) slot in
    let at = lies p.values row s fits.0 fits.1 here in
    let count : length has ≡ length (trees row) = fits.2 ∙ sym (length-map p.values (λ (r : ℕ × ℕ). r.1)) ∙ sym (ap length fits.1) ∙ length-map (trees row) cells_in in
    record { lies = at; within = let i = at.inside in omega arith; as_many = count; named = here.named }

pub value_is : (h : Held) (p : Planned) (pc : ℕ) (row : Value) (has : List Bool) (ps : List (Option Pointer)) (es : List PassedEvent) (s : Slot) (b : Bool)
    → shown p pc row has ps es ≡ h → (o : Opened h p row has s) → slice_get has s.number ≡ Some b → reads s.id h.values ≡ Some (marked o.lies.tree b)
value_is h p pc row has ps es s b e o mark =
    ap (λ (x : Held). reads s.id x.values) (sym e)
    ∙ get_is_read (ids p.values) (marks (trees row) has) s.number s.id (marked o.lies.tree b) o.named (marks_get (trees row) has s.number o.lies.tree b o.lies.is mark)

-- the frame with another value and mark in a slot
pub record Exchanged (h : Held) (p : Planned) (pc : ℕ) (has : List Bool) (ps : List (Option Pointer)) (es : List PassedEvent) (s : Slot) (v : Value) (b : Bool) (after : Value) : Type 0 where
  pub shows : shown p pc after (slice_set has s.number b) ps es ≡ record h { values = writes s.id (marked v b) h.values }
  pub fits : Fits p after (slice_set has s.number b) ps

pub exchanged : (h : Held) (p : Planned) (pc : ℕ) (row : Value) (has : List Bool) (ps : List (Option Pointer)) (es : List PassedEvent) (s : Slot) (v : Value) (b : Bool) (after : Value)
    → shown p pc row has ps es ≡ h → Fits p row has ps → (o : Opened h p row has s) → length (leaves v) ≡ s.len → after ≡ with_part row (s.number ∷ []) v
    → Exchanged h p pc has ps es s v b after
exchanged h p pc row has ps es s v b after e fits o long made =
    let ws : List Value = slice_set (trees row) s.number v in
    let is : after ≡ Many ws = made ∙ o.lies.put v in
    let tree : trees after ≡ ws = ap trees is ∙ trees_many ws in
    let room : s.number < length (marks (trees row) has) = let l = marks_length (trees row) has o.as_many in let i = o.lies.inside in omega arith in
    let values : zip (ids p.values) (marks (trees after) (slice_set has s.number b)) ≡ writes s.id (marked v b) (zip (ids p.values) (marks (trees row) has)) =
    ap (λ (t : List Value). zip (ids p.values) (marks t (slice_set has s.number b))) tree
    ∙ ap (zip (ids p.values)) (marks_set (trees row) has s.number v b)
    ∙ set_is_write (ids p.values) (marks (trees row) has) s.number s.id (marked v b) o.named room in
    record {
      shows = ap (λ (x : Registers). record (shown p pc row has ps es) { values = x }) values ∙ ap (λ (x : Held). record x { values = writes s.id (marked v b) x.values }) e;
      fits = (is ∙ ap Many (sym tree), ap (map cells_in) tree ∙ o.lies.sizes v long ∙ fits.1, length-set has s.number b ∙ fits.2, fits.3);
    }

-- a register of a pointer in a frame
pub record PointerOpened (p : Planned) (ps : List (Option Pointer)) (id n : ℕ) : Type 0 where
  pub named : number_of id p.pointers ≡ Some n
  pub within : n < length ps

pub pointer_opened : (h : Held) (p : Planned) (pc : ℕ) (row : Value) (has : List Bool) (ps : List (Option Pointer)) (es : List PassedEvent) (id n : ℕ)
    → shown p pc row has ps es ≡ h → Fits p row has ps → number_of id h.plan.pointers ≡ Some n → PointerOpened p ps id n
pointer_opened h p pc row has ps es id n e fits slot =
    let here : number_of id p.pointers ≡ Some n = ap (λ (x : Held). number_of id x.plan.pointers) e ∙ slot in
    let i = number_inside p.pointers n id here in
    let l = fits.3 in
    record { named = here; within = omega arith }

pub pointer_is : (h : Held) (p : Planned) (pc : ℕ) (row : Value) (has : List Bool) (ps : List (Option Pointer)) (es : List PassedEvent) (id n : ℕ) (q : Option Pointer)
    → shown p pc row has ps es ≡ h → PointerOpened p ps id n → slice_get ps n ≡ Some q → reads id h.pointers ≡ Some q
pointer_is h p pc row has ps es id n q e o at = ap (λ (x : Held). reads id x.pointers) (sym e) ∙ get_is_read p.pointers ps n id q o.named at

pub pointer_exchanged : (h : Held) (p : Planned) (pc : ℕ) (row : Value) (has : List Bool) (ps : List (Option Pointer)) (es : List PassedEvent) (id n : ℕ) (q : Option Pointer)
    → shown p pc row has ps es ≡ h → PointerOpened p ps id n → shown p pc row has (slice_set ps n q) es ≡ record h { pointers = writes id q h.pointers }
pointer_exchanged h p pc row has ps es id n q e o =
    ap (λ (x : List (ℕ × Option Pointer)). record (shown p pc row has ps es) { pointers = x }) (set_is_write p.pointers ps n id q o.named o.within)
    ∙ ap (λ (x : Held). record x { pointers = writes id q x.pointers }) e

-- ---- a frame as it begins

no_values : (rs : Rooms) (vs : List Value) (n : ℕ) → map cells_in vs ≡ sizes rs → n ≡ length rs → zip (ids rs) (marks vs (replicate n false)) ≡ none (ids rs)
no_values [] vs n e h = refl
no_values (r ∷ rs) [] n e h = cc
no_values (r ∷ rs) (v ∷ vs) zero e h = absurd (omega arith)
no_values (r ∷ rs) (v ∷ vs) (suc n) e h =
    let tail : map cells_in vs ≡ sizes rs = cc in
    let count : n ≡ length rs = omega arith in
    ap (λ (x : Registers). (r.0, None) ∷ x) (no_values rs vs n tail count)

no_places : (ks : List ℕ) (n : ℕ) → n ≡ length ks → zip ks (replicate {A = Option Pointer} n None) ≡ none ks
no_places [] n h = refl
no_places (k ∷ ks) zero h = absurd (omega arith)
no_places (k ∷ ks) (suc n) h = let count : n ≡ length ks = omega arith in ap (λ (x : List (ℕ × Option Pointer)). (k, None) ∷ x) (no_places ks n count)

pub begins : (p : Planned) (blank : Value) (n m : ℕ) (has : List Bool) (ps : List (Option Pointer)) → map cells_in (trees blank) ≡ sizes p.values → n ≡ length p.values → m ≡ length p.pointers
    → has ≡ replicate n false → ps ≡ replicate m None → shown p p.first blank has ps [] ≡ fresh p
begins p blank n m has ps sized count places marked empty =
    ap (λ (x : Registers). record (shown p p.first blank has ps []) { values = x })
    (ap (λ (x : List Bool). zip (ids p.values) (marks (trees blank) x)) marked ∙ no_values p.values (trees blank) n sized count)
    ∙ ap (λ (x : List (ℕ × Option Pointer)). record (fresh p) { pointers = x }) (ap (zip p.pointers) empty ∙ no_places p.pointers m places)

pub rooms_long : (slots : List Slot) → length (rooms slots) ≡ length slots
rooms_long slots = length-map slots (λ (s : Slot). (s.id, s.len))

pub begins_as : (p q : Planned) (first : ℕ) (blank row : Value) (n m : ℕ) (has : List Bool) (ps : List (Option Pointer)) (es : List PassedEvent) → q ≡ p → first ≡ p.first → row ≡ blank
    → map cells_in (trees blank) ≡ sizes p.values → n ≡ length p.values → m ≡ length p.pointers → has ≡ replicate n false → ps ≡ replicate m None → es ≡ [] → shown q first row has ps es ≡ fresh p
begins_as p q first blank row n m has ps es cloned starts same sized count places marked empty none =
    ap (λ (x : Planned). shown x first row has ps es) cloned
    ∙ ap (λ (x : ℕ). shown p x row has ps es) starts
    ∙ ap (λ (x : Value). shown p p.first x has ps es) same
    ∙ ap (λ (x : List PassedEvent). shown p p.first blank has ps x) none
    ∙ begins p blank n m has ps sized count places marked empty
