-- The events of a variable alone tell of it what all events tell.
use Rattle.std.proofs.Common.{◌≡◌, ◌∙◌, ℕ, suc, ◌+◌, ◌<◌, ◌==◌, ◌&&◌, Bool, true, false, List, [], ◌∷◌, ◌++◌, get_or, length, reverse, take, Option, Some, None, refl, sym, ap, subst, arith}
use Rattle.std.specs.Prelude.{filter, find, if◌then◌else◌, slice_index, IfOk, Result, Ok, Err, Vec}
use Rattle.std.specs.declared.alloc.Global.{Global}
use Rattle.spv_base.specs.declared.causes.NoMemory.{NoMemory}
use Rattle.std.specs.List.{All}
use Rattle.std.specs.Option.{option_and_then, option_map, option_map_or, option_or}
use Rattle.std.proofs.lemmas.List.{append-nil, map-append, reverse-append, take_more}
use Rattle.std.proofs.lemmas.List.Elements.{All-push, filter-append}
use Rattle.std.proofs.lemmas.List.Folds.{find-append}
use Rattle.spv_base.specs.Options.{holds}
use Rattle.spv_base.specs.declared.values.PassedEvent.{PassedEvent}
use Rattle.spv_dbg.specs.declared.frames.Bit.{Bit}
use Rattle.spv_dbg.specs.declared.frames.ShownFrame.{ShownFrame}
use Rattle.spv_dbg.specs.declared.insts.DebugInst.{DebugInst}
use Rattle.spv_dbg.specs.Tables.{Tables, inlined_at, with_id}
use Rattle.spv_frame.specs.Stacks.{Stacked}
use Rattle.spv_mem.specs.Memory.{Held as Memory}
use Rattle.spv_expr.specs.declared.events.Instance.{Instance}
use Rattle.spv_expr.specs.Bits.{AreBits, events_in, global_bit, if_global, inlined_in, local_bit, told, unbound, variable_bit}
use Rattle.spv_expr.specs.Groups.{IsGroup, chosen, is_about, is_event_of, variable_at, variable_of}
use Rattle.spv_expr.specs.Picks.{blank, picked}
use Rattle.spv_expr.specs.Variables.{event_at, if_of, is_of, meant, meant_by, is_within, ranged, tells, type_of}

-- ---- what is found from the last one back is among those that pass

back_cons : {X : Type 0} (p : X → Bool) (x : X) (xs : List X) → find p (reverse (x ∷ xs)) ≡ option_or (find p (reverse xs)) (if p x then Some x else None)
back_cons p x xs = ap (find p) (reverse-append (x ∷ []) xs) ∙ find-append p (reverse xs) (x ∷ [])

pub find_picked : {X : Type 0} (p q : X → Bool) → ((x : X) → p x ≡ true → q x ≡ true) → (xs : List X) → find p (reverse (filter q xs)) ≡ find p (reverse xs)
find_picked p q only [] = refl
find_picked {X} p q only (x ∷ xs) = by (find_picked p q only xs) (q x) refl (p x) refl ∙ sym (back_cons p x xs)
  where
    or_none : (o : Option X) → o ≡ option_or o None
    or_none (Some y) = refl
    or_none None = refl

    by : find p (reverse (filter q xs)) ≡ find p (reverse xs) → (b : Bool) → q x ≡ b → (a : Bool) → p x ≡ a
        → find p (reverse (if b then x ∷ filter q xs else filter q xs)) ≡ option_or (find p (reverse xs)) (if p x then Some x else None)
    by rest true is a is_a = back_cons p x (filter q xs) ∙ ap (λ (o : Option X). option_or o (if p x then Some x else None)) rest
    by rest false is true is_a = absurd (let same : true ≡ false = sym (only x is_a) ∙ is in cc)
    by rest false is false is_a = rest ∙ rw is_a (or_none (find p (reverse xs)))

-- ---- an event that tells of a variable is about it

both_true : (a b : Bool) → (a && b) ≡ true → a ≡ true
both_true true b h = refl
both_true false b h = absurd (cc)

abbrev variable_in : Instance → ℕ
variable_in v = v.variable

meant_variable : (t : Tables) (a b id : ℕ) → variable_in (meant t a id) ≡ variable_in (meant t b id)
meant_variable t a b id = by (with_id t id)
  where
    inner : (d : DebugInst) (c : Bool) → variable_in (if c then record { variable = slice_index d.operands 0; inlined = slice_index d.operands 1 } else record { variable = id; inlined = a })
        ≡ variable_in (if c then record { variable = slice_index d.operands 0; inlined = slice_index d.operands 1 } else record { variable = id; inlined = b })
    inner d true = refl
    inner d false = refl

    by : (o : Option DebugInst) → variable_in (option_map_or (meant_by a id) o (record { variable = id; inlined = a })) ≡ variable_in (option_map_or (meant_by b id) o (record { variable = id; inlined = b }))
    by None = refl
    by (Some d) = inner d (d.number == 27)

of_variable : (t : Tables) (v : Instance) (d : DebugInst) → is_of t v d ≡ true → (variable_of t d == v.variable) ≡ true
of_variable t v d is =
    let one : ((meant t (inlined_at t d.word) (slice_index d.operands 0)).variable == v.variable) ≡ true = both_true _ _ is in
    ap (λ (n : ℕ). n == v.variable) (meant_variable t 0 (inlined_at t d.word) (slice_index d.operands 0)) ∙ one

pub about : (t : Tables) (v : Instance) (j : ℕ) (e : PassedEvent) → tells t v j e ≡ true → is_about t v.variable e ≡ true
about t v j e is = by (event_at t e.word) is
  where
    inner : (d : DebugInst) (b : Bool) → is_of t v d ≡ b
        → option_map_or (λ (x : DebugInst × (ℕ × ℕ)). is_within j x.1) (option_and_then (ranged t (type_of t v.variable)) (if b then Some d else None)) false ≡ true → is_of t v d ≡ true
    inner d true is h = is
    inner d false is h = absurd (cc)

    by : (o : Option DebugInst) → option_map_or (λ (x : DebugInst × (ℕ × ℕ)). is_within j x.1) (option_and_then (ranged t (type_of t v.variable)) (option_and_then (if_of t v) o)) false ≡ true
        → holds v.variable (option_map (variable_of t) o) ≡ true
    by None h = absurd (cc)
    by (Some d) h = of_variable t v d (inner d (is_of t v d) refl h)

-- ---- the bits of a variable by its own events

pub local_picked : (m : Memory) (inv : ℕ) (t : Tables) (v : Instance) (events : List PassedEvent) (j : ℕ)
    → local_bit m inv t (filter (is_about t v.variable) events) v j ≡ local_bit m inv t events v j
local_picked m inv t v events j = ap (λ (o : Option PassedEvent). option_map_or (told m inv t v j) o unbound) (find_picked (tells t v j) (is_about t v.variable) (about t v j) events)

-- ---- events of other variables tell nothing

none_pass : {X : Type 0} (p : X → Bool) (xs : List X) → All (λ x. p x ≡ false) xs → filter p xs ≡ []
none_pass p [] h = refl
none_pass p (x ∷ xs) h =
    let first : p x ≡ false = h 0 x (omega arith) in
    rw first (none_pass p xs (λ k d lt. h (suc k) d (omega (arith, lt))))

local_others : (m : Memory) (inv : ℕ) (t : Tables) (v : Instance) (events more : List PassedEvent) → All (λ e. is_about t v.variable e ≡ false) more → (j : ℕ)
    → local_bit m inv t events v j ≡ local_bit m inv t (events ++ more) v j
local_others m inv t v events more others j =
    let test = is_about t v.variable in
    let same : filter test (events ++ more) ≡ filter test events =
    filter-append test events more ∙ ap (λ (es : List PassedEvent). filter test events ++ es) (none_pass test more others) ∙ append-nil (filter test events) in
    sym (local_picked m inv t v events j) ∙ ap (λ (es : List PassedEvent). local_bit m inv t es v j) (sym same) ∙ local_picked m inv t v (events ++ more) j

-- the bits of a variable, where a frame has passed other events
pub variable_by_events : (m : Memory) (inv : ℕ) (t : Tables) (s u : Stacked) (f : Option ShownFrame) (id j : ℕ)
    → local_bit m inv t (events_in s f) (meant t (inlined_in f) id) j ≡ local_bit m inv t (events_in u f) (meant t (inlined_in f) id) j → variable_bit m inv t s f id j ≡ variable_bit m inv t u f id j
variable_by_events m inv t s u f id j same = ap (option_map_or (λ d. global_bit m inv t d j) (option_and_then if_global (with_id t id))) same

pub variable_others : (m : Memory) (inv : ℕ) (t : Tables) (s u : Stacked) (f : Option ShownFrame) (id : ℕ) (more : List PassedEvent) → events_in u f ≡ events_in s f ++ more
    → All (λ e. is_event_of t id e.word ≡ false) more → (j : ℕ) → variable_bit m inv t s f id j ≡ variable_bit m inv t u f id j
variable_others m inv t s u f id more longer others j =
    let v = meant t (inlined_in f) id in
    let own : All (λ e. is_about t v.variable e ≡ false) more =
    subst (λ (n : ℕ). All (λ e. holds n (variable_at t e.word) ≡ false) more) (meant_variable t 0 (inlined_in f) id) others in
    variable_by_events m inv t s u f id j (local_others m inv t v (events_in s f) more own j ∙ ap (λ (es : List PassedEvent). local_bit m inv t es v j) (sym longer))

-- ---- one number more

pub group_more : (t : Tables) (events : List PassedEvent) (n variable : ℕ) (old new : List ℕ) → n < length events → new ≡ old ++ chosen t variable events n
    → IsGroup t events n variable old → IsGroup t events (n + 1) variable new
group_more t events n variable old new lt is group = by (is_about t variable (get_or events n blank)) refl
  where
    one : PassedEvent
    one = get_or events n blank

    all : filter (is_about t variable) (take (n + 1) events) ≡ filter (is_about t variable) (take n events) ++ filter (is_about t variable) (one ∷ [])
    all = ap (filter (is_about t variable)) (take_more events n blank lt) ∙ filter-append (is_about t variable) (take n events) (one ∷ [])

    by : (b : Bool) → is_about t variable one ≡ b → IsGroup t events (n + 1) variable new
    by true about =
        let longer : new ≡ old ++ n ∷ [] = rw about at is in
        let more : filter (is_about t variable) (take (n + 1) events) ≡ filter (is_about t variable) (take n events) ++ one ∷ [] = rw about at all in
        record {
          within = subst (All (λ k. k < length events)) (sym longer) (All-push (λ k. k < length events) old n group.within lt);
          are = ap (picked events) longer ∙ map-append (λ k. get_or events k blank) old (n ∷ []) ∙ ap (λ (es : List PassedEvent). es ++ one ∷ []) group.are ∙ sym more;
        }
    by false about =
        let same : new ≡ old = rw (about, append-nil old) at is in
        let more : filter (is_about t variable) (take (n + 1) events) ≡ filter (is_about t variable) (take n events) =
        all ∙ rw (about, append-nil (filter (is_about t variable) (take n events))) refl in
        record {
          within = subst (All (λ k. k < length events)) (sym same) group.within;
          are = ap (picked events) same ∙ group.are ∙ sym more;
        }

-- ---- some bits of a variable by its own events

bits_picked : (m : Memory) (inv : ℕ) (t : Tables) (v : Instance) (events : List PassedEvent) (first count : ℕ) (bits : List Bit)
    → AreBits (local_bit m inv t (filter (is_about t v.variable) events) v) first count bits → AreBits (local_bit m inv t events v) first count bits
bits_picked m inv t v events first count bits are = record {
  long = are.long;
  each = λ k lt. are.each k lt ∙ ap Some (local_picked m inv t v events (first + k));
}

pub if_picked : (m : Memory) (inv : ℕ) (t : Tables) (v : Instance) (events : List PassedEvent) (first count : ℕ) (due : Result (Vec Bit Global) NoMemory)
    → IfOk due (λ bits. AreBits (local_bit m inv t (filter (is_about t v.variable) events) v) first count bits.items) → IfOk due (λ bits. AreBits (local_bit m inv t events v) first count bits.items)
if_picked m inv t v events first count (Ok bits) are = bits_picked m inv t v events first count bits.items are
if_picked m inv t v events first count (Err e) are = are
