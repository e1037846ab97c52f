-- Marks and changes of two rings, and the events that they are.
use Rattle.std.proofs.Common.{◌≡◌, ◌∙◌, ℕ, suc, ◌+◌, ◌-◌, ◌^◌, ◌<◌, ◌≤◌, Bool, true, false, nat_le, if◌then◌else◌, List, [], ◌∷◌, ◌++◌, Some, None, length, take, drop, get_or, slice_get, refl, sym, ap, subst, arith}
use Rattle.std.proofs.Math.Seq.{drop-append_seam, drop-cons, take-append_seam}
use Rattle.std.proofs.lemmas.List.{drop-take, length-append, length-drop, length-take-le, take-append-drop, take-take}
use Rattle.std.proofs.lemmas.Bool.{leb-true, le-leb}
use Rattle.spv_journal.specs.Events.{Event, fitting, size, size_of}
use Rattle.spv_undo.specs.Entries.{count, count_of}
use Rattle.spv_journal.specs.Marks.{Marked}
use Rattle.spv_journal.specs.Rings.{beside, but_oldest, event_of, events, IsRing, mark_size}
use Rattle.spv_undo.specs.Undo.{CanUndoAll, undo, undo_all}
use Rattle.spv_undo.specs.declared.entries.Entry.{Entry}
use Rattle.spv_undo.specs.declared.entries.Entry.TheVariants.{Leaf, Part, NoValue, CellRegister, RowRegister, PointerRegister, FramePushed, FramePopped, PcMoved, EventAppended, StatusChanged, BarrierOpened}
use Rattle.spv_types.specs.Rows.{leaves}
use Rattle.std.proofs.Math.Nat.{le-max_left}
use Rattle.spv_state.specs.State.{State}

-- ---- sizes

-- what marks count, with the entries that lie in them
abbrev pub marks_size : List Marked → ℕ
marks_size [] = 0
marks_size (k ∷ ks) = mark_size k + marks_size ks

-- each entry counts one at least
pub count_some : (e : Entry) → 1 ≤ count_of e
count_some (Part b) = le-max_left 1 (length (leaves b.value.row))
count_some (Leaf r l p w) = omega arith
count_some (NoValue n) = omega arith
count_some (CellRegister n w) = omega arith
count_some (RowRegister b) = omega arith
count_some (PointerRegister n o) = omega arith
count_some FramePushed = omega arith
count_some (FramePopped b) = omega arith
count_some (PcMoved pc) = omega arith
count_some EventAppended = omega arith
count_some (StatusChanged x) = omega arith
count_some (BarrierOpened w) = omega arith

pub length_count : (es : List Entry) → length es ≤ count es
length_count [] = omega arith
length_count (e ∷ es) = let one = count_some e in let rest = length_count es in omega (arith, one, rest)

pub count_append : (xs ys : List Entry) → count (xs ++ ys) ≡ count xs + count ys
count_append [] ys = omega arith
count_append (x ∷ xs) ys = let rest = count_append xs ys in omega (arith, rest)

pub count_split : (n : ℕ) (es : List Entry) → count es ≡ count (take n es) + count (drop n es)
count_split n es = ap count (sym (take-append-drop n es)) ∙ count_append (take n es) (drop n es)

pub count_more : (n : ℕ) (es : List Entry) (e : Entry) → n < length es → e ≡ get_or es n e → count (take n es) + count_of e ≤ count es
count_more n es e h is =
    let both = count_split n es in
    let front : count (drop n es) ≡ count_of (get_or es n e) + count (drop (suc n) es) = ap count (drop-cons es n e h) in
    let same : count_of e ≡ count_of (get_or es n e) = ap count_of is in
    omega (arith, both, front, same)

pub event_size : (m : Marked) (es : List Entry) → size_of (event_of m es) ≡ mark_size m + count es
event_size m es = let n = count_append m.items es in omega (arith, n)

pub mark_some : (m : Marked) → 1 ≤ mark_size m
mark_some m = omega arith

pub counted : (ks : List Marked) (es : List Entry) → length es ≡ beside ks → size (events ks es) ≡ marks_size ks + count es
counted [] [] h = refl
counted [] (e ∷ es) h = absurd cc
counted (k ∷ ks) es h =
    let left : length (drop k.beside es) ≡ length es - k.beside = length-drop k.beside es in
    let rest : size (events ks (drop k.beside es)) ≡ marks_size ks + count (drop k.beside es) = counted ks (drop k.beside es) (omega (arith, h, left)) in
    let one : size_of (event_of k (take k.beside es)) ≡ mark_size k + count (take k.beside es) = event_size k (take k.beside es) in
    let both = count_split k.beside es in
    omega (arith, rest, one, both)

pub ring_counted : (ks : List Marked) (es : List Entry) (limit held : ℕ) → IsRing ks es limit held → size (events ks es) ≡ marks_size ks + count es
ring_counted ks es limit held ring = counted ks es ring.whole

-- the changes beside marks count less than there are places
pub ring_bounded : (ks : List Marked) (es : List Entry) (limit held : ℕ) → IsRing ks es limit held → count es < 2 ^ 32
ring_bounded ks es limit held ring =
    let size = ring_counted ks es limit held ring in
    let fits = ring.fits in
    let few = ring.counted in
    omega (arith, size, fits, few)

marks_some : (ks : List Marked) → length ks ≤ marks_size ks
marks_some [] = omega arith
marks_some (k ∷ ks) = let rest = marks_some ks in let some = mark_some k in omega (arith, rest, some)

pub as_many : (ks : List Marked) (es : List Entry) → length (events ks es) ≡ length ks
as_many [] es = refl
as_many (k ∷ ks) es = ap suc (as_many ks (drop k.beside es))

beside_append : (ks : List Marked) (k : Marked) → beside (ks ++ k ∷ []) ≡ beside ks + k.beside
beside_append [] k = omega arith
beside_append (j ∷ ks) k = let rest = beside_append ks k in omega (arith, rest)

marks_append : (ks : List Marked) (k : Marked) → marks_size (ks ++ k ∷ []) ≡ marks_size ks + mark_size k
marks_append [] k = omega arith
marks_append (j ∷ ks) k = let rest = marks_append ks k in omega (arith, rest)

-- ---- what fits

pub all_fit : (n : ℕ) (vs : List Event) → size vs ≤ n → fitting n vs ≡ vs
all_fit n [] h = refl
all_fit n (v ∷ vs) h =
    let first : size_of v ≤ n = omega arith in
    let rest : size vs ≤ n - size_of v = omega arith in
    rw (le-leb (size_of v) n first) (ap (λ (us : List Event). v ∷ us) (all_fit (n - size_of v) vs rest))

pub one_fits : (n need : ℕ) (v : Event) (vs : List Event) → size_of v ≡ need → need ≤ n → v ∷ fitting (n - need) vs ≡ fitting n (v ∷ vs)
one_fits n need v vs is h =
    let first : size_of v ≤ n = omega (arith, h, is) in
    rw (le-leb (size_of v) n first) (ap (λ (k : ℕ). v ∷ fitting (n - k) vs) (sym is))

-- the oldest goes where there isn't room for all
pub oldest_goes : (n : ℕ) (vs : List Event) → n < size vs → fitting n (but_oldest vs) ≡ fitting n vs
oldest_goes n [] h = refl
oldest_goes n (v ∷ []) h = by_room (nat_le (size_of v) n) refl
  where
    by_room : (b : Bool) → nat_le (size_of v) n ≡ b → [] ≡ (if nat_le (size_of v) n then v ∷ [] else [])
    by_room true e = let l = leb-true (size_of v) n e in absurd (omega (arith, h))
    by_room false e = rw e refl
oldest_goes n (v ∷ u ∷ vs) h = by_room (λ m more. oldest_goes m (u ∷ vs) more) (nat_le (size_of v) n) refl
  where
    by_room : ((m : ℕ) → m < size (u ∷ vs) → fitting m (but_oldest (u ∷ vs)) ≡ fitting m (u ∷ vs)) → (b : Bool) → nat_le (size_of v) n ≡ b
        → (if nat_le (size_of v) n then v ∷ fitting (n - size_of v) (but_oldest (u ∷ vs)) else []) ≡ (if nat_le (size_of v) n then v ∷ fitting (n - size_of v) (u ∷ vs) else [])
    by_room ih true e =
        let l = leb-true (size_of v) n e in
        let more : n - size_of v < size (u ∷ vs) = omega (arith, h, l) in
        ap (λ (us : List Event). if nat_le (size_of v) n then v ∷ us else []) (ih (n - size_of v) more)
    by_room ih false e = rw e refl

-- ---- the last item

pub last_split : {A : Type 0} (xs : List A) (x : A) → slice_get xs (length xs - 1) ≡ Some x → xs ≡ take (length xs - 1) xs ++ x ∷ []
last_split [] x h = absurd cc
last_split (y ∷ []) x h = let e : y ≡ x = cc in ap (λ z. z ∷ []) e
last_split (y ∷ z ∷ xs) x h =
    let e : length (y ∷ z ∷ xs) - 1 ≡ suc (length (z ∷ xs) - 1) = omega arith in
    let g : slice_get (z ∷ xs) (length (z ∷ xs) - 1) ≡ Some x = ap (slice_get (y ∷ z ∷ xs)) (sym e) ∙ h in
    ap (λ ys. y ∷ ys) (last_split (z ∷ xs) x g) ∙ ap (λ (n : ℕ). take n (y ∷ z ∷ xs) ++ x ∷ []) (sym e)

pub last_none : {A : Type 0} (xs : List A) → slice_get xs (length xs - 1) ≡ None → xs ≡ []
last_none [] h = refl
last_none (y ∷ []) h = absurd cc
last_none (y ∷ z ∷ xs) h =
    let e : length (y ∷ z ∷ xs) - 1 ≡ suc (length (z ∷ xs) - 1) = omega arith in
    let g : slice_get (z ∷ xs) (length (z ∷ xs) - 1) ≡ None = ap (slice_get (y ∷ z ∷ xs)) (sym e) ∙ h in
    absurd (let k = last_none (z ∷ xs) g in cc)

-- ---- the oldest event goes

cons_but_oldest : (v : Event) (vs : List Event) → 0 < length vs → but_oldest (v ∷ vs) ≡ v ∷ but_oldest vs
cons_but_oldest v [] h = absurd (omega arith)
cons_but_oldest v (u ∷ vs) h = refl

some_behind : (ks : List Marked) (k : Marked) → 0 < length (ks ++ k ∷ [])
some_behind [] k = omega arith
some_behind (j ∷ ks) k = omega arith

oldest_gone : (ks : List Marked) (k : Marked) (es : List Entry) → beside ks ≤ length es → but_oldest (events (ks ++ k ∷ []) es) ≡ events ks (take (beside ks) es)
oldest_gone [] k es h = refl
oldest_gone (j ∷ ks) k es h =
    let ds = drop j.beside es in
    let left : length ds ≡ length es - j.beside = length-drop j.beside es in
    let many = as_many (ks ++ k ∷ []) ds in
    let more = some_behind ks k in
    let some : 0 < length (events (ks ++ k ∷ []) ds) = omega (arith, many, more) in
    cons_but_oldest (event_of j (take j.beside es)) (events (ks ++ k ∷ []) ds) some
    ∙ ap (λ (vs : List Event). event_of j (take j.beside es) ∷ vs) (oldest_gone ks k ds (omega (arith, h, left)))
    ∙ ap (λ (cs : List Entry). event_of j cs ∷ events ks (take (beside ks) ds)) (sym (take-take j.beside (j.beside + beside ks) es (omega arith)))
    ∙ ap (λ (cs : List Entry). event_of j (take j.beside (take (j.beside + beside ks) es)) ∷ events ks cs) (sym (drop-take j.beside (beside ks) es))

-- the last mark is there, and so are its changes
pub record Oldest (ks js : List Marked) (es : List Entry) (held : ℕ) (k : Marked) : Type 0 where
  pub split : ks ≡ js ++ k ∷ []
  pub there : k.beside ≤ length es
  pub counts : mark_size k + count es ≤ held

pub oldest : (ks js : List Marked) (es : List Entry) (limit held : ℕ) (k : Marked) → IsRing ks es limit held → slice_get ks (length ks - 1) ≡ Some k → js ≡ take (length ks - 1) ks → Oldest ks js es held k
oldest ks js es limit held k ring last rest =
    let split : ks ≡ js ++ k ∷ [] = last_split ks k last ∙ ap (λ (ls : List Marked). ls ++ k ∷ []) (sym rest) in
    let changes : beside ks ≡ beside js + k.beside = ap beside split ∙ beside_append js k in
    let all : marks_size ks ≡ marks_size js + mark_size k = ap marks_size split ∙ marks_append js k in
    let size = ring_counted ks es limit held ring in
    let whole = ring.whole in
    let entries = ring.entries in
    record { split = split; there = omega (arith, whole, changes); counts = omega (arith, entries, size, all) }

-- what is left where the last mark goes, and its changes with it, which count so much
pub record Dropped (ks js : List Marked) (es ds : List Entry) (limit held : ℕ) : Type 0 where
  pub ring : IsRing js ds limit held
  pub left : events js ds ≡ but_oldest (events ks es)
  pub less : size (events js ds) < size (events ks es)

pub dropped : (ks js : List Marked) (es ds : List Entry) (limit held gone : ℕ) (k : Marked) → IsRing ks es limit held → slice_get ks (length ks - 1) ≡ Some k → js ≡ take (length ks - 1) ks → ds ≡ take (length es - k.beside) es
    → gone + count ds ≡ count es → Dropped ks js es ds limit (held - (mark_size k + gone))
dropped ks js es ds limit held gone k ring last rest left counts =
    let o = oldest ks js es limit held k ring last rest in
    let changes : beside ks ≡ beside js + k.beside = ap beside o.split ∙ beside_append js k in
    let all : marks_size ks ≡ marks_size js + mark_size k = ap marks_size o.split ∙ marks_append js k in
    let whole = ring.whole in
    let within : beside js ≤ length es = omega (arith, whole, changes) in
    let fewer : ds ≡ take (beside js) es = left ∙ ap (λ (n : ℕ). take n es) (omega (arith, whole, changes)) in
    let long : length ds ≡ beside js = ap length fewer ∙ length-take-le (beside js) es within in
    let old : size (events ks es) ≡ marks_size ks + count es = counted ks es whole in
    let new : size (events js ds) ≡ marks_size js + count ds = counted js ds long in
    let some = mark_some k in
    let entries = ring.entries in
    let fits = ring.fits in
    record {
      ring = record { whole = long; entries = omega (arith, entries, old, new, all, counts); fits = omega (arith, fits, old, new, all, counts); counted = ring.counted };
      left = ap (events js) fewer ∙ sym (oldest_gone js k es within) ∙ ap (λ (ls : List Marked). but_oldest (events ls es)) (sym o.split);
      less = omega (arith, old, new, all, some, counts);
    }

pub none_kept : (ks : List Marked) (es : List Entry) → 0 < length (events ks es) → slice_get ks (length ks - 1) ≡ None → ⊥
none_kept ks es some last = let none = last_none ks last in let many = as_many ks es in let n : length ks ≡ 0 = ap length none in absurd (omega (arith, some, many, n))

-- ---- an event is put

pub event_put : (ks js : List Marked) (es ds gs : List Entry) (k : Marked) → k.beside ≡ length gs → js ≡ k ∷ ks → ds ≡ gs ++ es → events js ds ≡ event_of k gs ∷ events ks es
event_put ks js es ds gs k count put added =
    ap (λ (ls : List Marked). events ls ds) put
    ∙ ap (λ (cs : List Entry). event_of k (take k.beside cs) ∷ events ks (drop k.beside cs)) added
    ∙ ap (λ (n : ℕ). event_of k (take n (gs ++ es)) ∷ events ks (drop n (gs ++ es))) count
    ∙ ap (λ (cs : List Entry). event_of k cs ∷ events ks (drop (length gs) (gs ++ es))) (take-append_seam gs es)
    ∙ ap (λ (cs : List Entry). event_of k gs ∷ events ks cs) (drop-append_seam gs es)

pub ring_put : (ks js : List Marked) (es ds gs : List Entry) (limit held need : ℕ) (k : Marked) → IsRing ks es limit held → k.beside ≡ length gs → js ≡ k ∷ ks → ds ≡ gs ++ es
    → need ≡ size_of (event_of k gs) → held + need ≤ limit → IsRing js ds limit (held + need)
ring_put ks js es ds gs limit held need k ring many put added is room =
    let whole = ring.whole in
    let long : length ds ≡ length gs + length es = ap length added ∙ length-append gs es in
    let changes : beside js ≡ k.beside + beside ks = ap beside put in
    let sizes : size (events js ds) ≡ size_of (event_of k gs) + size (events ks es) = ap size (event_put ks js es ds gs k many put added) in
    let entries = ring.entries in
    record {
      whole = omega (arith, whole, long, changes, many);
      entries = omega (arith, entries, sizes, is);
      fits = omega (arith, entries, sizes, is, room);
      counted = ring.counted;
    }

-- there is room for the mark and the changes of an event
pub has_room : (ks : List Marked) (es gs : List Entry) (limit held need : ℕ) (k : Marked) → IsRing ks es limit held → need ≡ size_of (event_of k gs) → held + need ≤ limit
    → (length ks < limit) × (length gs + length es ≤ limit)
has_room ks es gs limit held need k ring is room =
    let marks = marks_some ks in
    let changes = length_count es in
    let more = length_count gs in
    let size = ring_counted ks es limit held ring in
    let one = event_size k gs in
    let entries = ring.entries in
    let some = mark_some k in
    (omega (arith, marks, size, entries, some, one, is, room), omega (arith, changes, more, size, entries, one, is, room))

-- fewer changes than there are places
pub few_changes : (gs : List Entry) (limit need : ℕ) (k : Marked) → need ≡ size_of (event_of k gs) → need ≤ limit → length gs ≤ limit
few_changes gs limit need k is room =
    let more = length_count gs in
    let one = event_size k gs in
    omega (arith, more, one, is, room)

-- ---- the newest event goes

pub first_split : (ks : List Marked) (k : Marked) → slice_get ks 0 ≡ Some k → ks ≡ k ∷ drop 1 ks
first_split [] k h = absurd cc
first_split (j ∷ ks) k h = let same : j ≡ k = cc in ap (λ (x : Marked). x ∷ ks) same

-- what is left where the first mark goes, and its changes with it
pub record Newest (ks : List Marked) (es : List Entry) (limit held : ℕ) (k : Marked) : Type 0 where
  pub there : k.beside ≤ length es
  pub counts : mark_size k + count (take k.beside es) ≤ held
  pub all : events ks es ≡ event_of k (take k.beside es) ∷ events (drop 1 ks) (drop k.beside es)
  pub ring : IsRing (drop 1 ks) (drop k.beside es) limit (held - (mark_size k + count (take k.beside es)))

pub newest_gone : (ks : List Marked) (es : List Entry) (limit held : ℕ) (k : Marked) → IsRing ks es limit held → slice_get ks 0 ≡ Some k → Newest ks es limit held k
newest_gone ks es limit held k ring first =
    let js = drop 1 ks in
    let split = first_split ks k first in
    let changes : beside ks ≡ k.beside + beside js = ap beside split in
    let all : marks_size ks ≡ mark_size k + marks_size js = ap marks_size split in
    let whole = ring.whole in
    let there : k.beside ≤ length es = omega (arith, whole, changes) in
    let left : length (drop k.beside es) ≡ length es - k.beside = length-drop k.beside es in
    let behind : length (drop k.beside es) ≡ beside js = omega (arith, left, whole, changes) in
    let old = ring_counted ks es limit held ring in
    let new : size (events js (drop k.beside es)) ≡ marks_size js + count (drop k.beside es) = counted js (drop k.beside es) behind in
    let both = count_split k.beside es in
    let entries = ring.entries in
    let fits = ring.fits in
    record {
      there = there;
      counts = omega (arith, entries, old, all, both);
      all = ap (λ (ls : List Marked). events ls es) split;
      ring = record { whole = behind; entries = omega (arith, entries, old, new, all, both); fits = omega (arith, fits, old, new, all, both); counted = ring.counted };
    }

-- ---- changes are taken away one by one

pub first_counts : (n : ℕ) (es ds : List Entry) (e : Entry) → slice_get es 0 ≡ Some e → ds ≡ drop 1 es → count (take (suc n) es) ≡ count_of e + count (take n ds)
first_counts n [] ds e first rest = absurd cc
first_counts n (d ∷ es) ds e first rest =
    let same : d ≡ e = cc in
    ap (λ (x : Entry). count_of x + count (take n es)) same ∙ ap (λ (cs : List Entry). count_of e + count (take n cs)) (sym rest)

pub last_counts : (es ds : List Entry) (e : Entry) → slice_get es (length es - 1) ≡ Some e → ds ≡ take (length es - 1) es → count_of e + count ds ≡ count es
last_counts es ds e last rest =
    let split : es ≡ ds ++ e ∷ [] = last_split es e last ∙ ap (λ (cs : List Entry). cs ++ e ∷ []) (sym rest) in
    let all : count es ≡ count (ds ++ e ∷ []) = ap count split in
    let sum = count_append ds (e ∷ []) in
    omega (arith, all, sum)

-- ---- changes are undone one by one

pub record Undone (i n : ℕ) (es ds : List Entry) (s t : State) : Type 0 where
  pub there : n ≤ length ds
  pub can : CanUndoAll i (take n ds) t
  pub state : undo_all i (take n ds) t ≡ undo_all i (take (suc n) es) s
  pub left : drop n ds ≡ drop (suc n) es

pub one_undone : (i n : ℕ) (es ds : List Entry) (e : Entry) (s t : State) → suc n ≤ length es → CanUndoAll i (take (suc n) es) s → slice_get es 0 ≡ Some e → ds ≡ drop 1 es → t ≡ undo i e s
    → Undone i n es ds s t
one_undone i n [] ds e s t there can first rest done = absurd (omega (arith, there))
one_undone i n (d ∷ es) ds e s t there can first rest done =
    let same : d ≡ e = cc in
    let next : t ≡ undo i d s = done ∙ ap (λ (x : Entry). undo i x s) (sym same) in
    let long : length ds ≡ length es = ap length rest in
    record {
      there = omega (arith, there, long);
      can = subst (λ (cs : List Entry). CanUndoAll i (take n cs) t) (sym rest) (subst (CanUndoAll i (take n es)) (sym next) can.1);
      state = ap (λ (cs : List Entry). undo_all i (take n cs) t) rest ∙ ap (undo_all i (take n es)) next;
      left = ap (drop n) rest;
    }
