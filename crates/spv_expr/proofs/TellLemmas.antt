-- What an event tells of the bits of a variable, and what the events tell that were passed before it.
use Rattle.std.proofs.Common.{◌≡◌, ◌∙◌, ℕ, ◌+◌, ◌-◌, ◌^◌, ◌<◌, ◌&&◌, ◌==◌, nat_le, nat_lt, Bool, true, false, List, [], ◌∷◌, ◌++◌, length, get_or, take, reverse, Option, Some, None, refl, sym, ap, subst, arith}
use Rattle.std.specs.Prelude.{find, not, option_map, if◌then◌else◌}
use Rattle.std.specs.Option.{option_map_or}
use Rattle.std.proofs.lemmas.List.{reverse-append, take_more}
use Rattle.spv_base.specs.Saturation.{saturated}
use Rattle.spv_base.specs.declared.values.PassedEvent.{PassedEvent}
use Rattle.spv_dbg.specs.declared.frames.Bit.{Bit}
use Rattle.spv_dbg.specs.declared.insts.DebugInst.{DebugInst}
use Rattle.spv_dbg.specs.Tables.{Tables}
use Rattle.spv_mem.specs.Memory.{Held as Memory}
use Rattle.spv_expr.specs.declared.events.Instance.{Instance}
use Rattle.spv_expr.specs.declared.events.Telling.{Telling}
use Rattle.spv_expr.specs.declared.ranges.Range.{Range}
use Rattle.spv_expr.specs.Bits.{bits_of, entry_cells, local_bit, piece_bits, shown, told, unbound}
use Rattle.spv_expr.specs.Expressions.{Entry, piece}
use Rattle.spv_expr.specs.Kept.{bounds, is_in, is_in_any, kept_bounds, kept_telling, saturated_telling}
use Rattle.spv_expr.specs.Rests.{AreOpen, ArePutIn, AreTold, AreWithin, bit_in}
use Rattle.spv_expr.specs.Variables.{is_within, telling, tells}
use Rattle.spv_expr.proofs.RangeLemmas.{in_is}

-- ---- ranges with numbers that stop at the greatest

le_saturated : (n j : ℕ) → j < 2 ^ 64 - 1 → nat_le (saturated n) j ≡ nat_le n j
le_saturated n j lt = grind arith

lt_saturated : (n j : ℕ) → j < 2 ^ 64 - 1 → nat_lt j (saturated n) ≡ nat_lt j n
lt_saturated n j lt = grind arith

in_saturated : (j : ℕ) (r : Range) (s : ℕ × ℕ) → j < 2 ^ 64 - 1 → kept_bounds r ≡ bounds s → is_in j r ≡ is_within j s
in_saturated j r s lt e =
    let a : r.start ≡ saturated s.0 = ap (λ (p : ℕ × ℕ). p.0) e in
    let b : r.end ≡ saturated (s.0 + s.1) = ap (λ (p : ℕ × ℕ). p.1) e in
    rw (a, b, le_saturated s.0 j lt, lt_saturated (s.0 + s.1) j lt) refl

-- ---- an event of the variable

record IsTelling (o : Option (DebugInst × (ℕ × ℕ))) (k : Telling) : Type 0 where
  x : DebugInst × (ℕ × ℕ)
  is : o ≡ Some x
  debug : k.debug.now ≡ x.0
  range : kept_bounds k.range ≡ bounds x.1

is_telling : (o : Option (DebugInst × (ℕ × ℕ))) (k : Telling) → Some (kept_telling k) ≡ option_map saturated_telling o → IsTelling o k
is_telling None k e = absurd (cc)
is_telling (Some x) k e = record {
  x = x;
  is = refl;
  debug = ap (λ (y : Option (DebugInst × (ℕ × ℕ))). option_map_or (λ (z : DebugInst × (ℕ × ℕ)). z.0) y k.debug.now) e;
  range = ap (λ (y : Option (DebugInst × (ℕ × ℕ))). option_map_or (λ (z : DebugInst × (ℕ × ℕ)). z.1) y (kept_bounds k.range)) e;
}

pub tells_at : (t : Tables) (v : Instance) (e : PassedEvent) (k : Telling) → Some (kept_telling k) ≡ option_map saturated_telling (telling t v e.word) → (j : ℕ) → j < 2 ^ 64 - 1
    → tells t v j e ≡ is_in j k.range
tells_at t v e k told_is j lt =
    let f = is_telling (telling t v e.word) k told_is in
    rw f.is (sym (in_saturated j k.range f.x.1 lt f.range))

-- in two memories it tells the same of a bit where its piece has the same bits
pub told_same : (t : Tables) (v : Instance) (e : PassedEvent) (k : Telling) → Some (kept_telling k) ≡ option_map saturated_telling (telling t v e.word) → (inv : ℕ) (m n : Memory)
    → piece_bits m inv t k.debug.now e ≡ piece_bits n inv t k.debug.now e → (j : ℕ) → told m inv t v j e ≡ told n inv t v j e
told_same t v e k told_is inv m n same j =
    let f = is_telling (telling t v e.word) k told_is in
    let same_x : piece_bits m inv t f.x.0 e ≡ piece_bits n inv t f.x.0 e = subst (λ (d : DebugInst). piece_bits m inv t d e ≡ piece_bits n inv t d e) f.debug same in
    rw f.is (ap (λ (o : Option (List (Option Bool))). option_map_or (λ bits. shown bits (j - f.x.1.0)) o unbound) same_x)

module _ (m : Memory) (inv : ℕ) (t : Tables) (v : Instance) (e : PassedEvent) (k : Telling) (told_is : Some (kept_telling k) ≡ option_map saturated_telling (telling t v e.word)) where
  tells_is : (j : ℕ) → j < 2 ^ 64 - 1 → tells t v j e ≡ is_in j k.range
  tells_is = tells_at t v e k told_is

  told_read : (entry : Entry) → piece m inv t k.debug.now e ≡ Some entry → (j : ℕ) → j < 2 ^ 64 - 1 → is_in j k.range ≡ true
      → told m inv t v j e ≡ shown (bits_of (entry_cells entry)) (j - k.range.start)
  told_read entry read j lt inside =
      let f = is_telling (telling t v e.word) k told_is in
      let i = in_is j k.range inside in
      let a : k.range.start ≡ saturated f.x.1.0 = ap (λ (p : ℕ × ℕ). p.0) f.range in
      let same : j - f.x.1.0 ≡ j - k.range.start = omega (arith, a, i.0) in
      let read_x : piece m inv t f.x.0 e ≡ Some entry = ap (λ (d : DebugInst). piece m inv t d e) (sym f.debug) ∙ read in
      rw (f.is, read_x, same) refl

  told_unread : piece m inv t k.debug.now e ≡ None → (j : ℕ) → told m inv t v j e ≡ unbound
  told_unread unread j =
      let f = is_telling (telling t v e.word) k told_is in
      let unread_x : piece m inv t f.x.0 e ≡ None = ap (λ (d : DebugInst). piece m inv t d e) (sym f.debug) ∙ unread in
      rw (f.is, unread_x) refl

  -- the bits that are put are those that the event tells
  pub told_put : (entry : Entry) → piece m inv t k.debug.now e ≡ Some entry → (gaps : List Range) (first : ℕ) (old new : List Bit) → first + length old < 2 ^ 64
      → ArePutIn (entry_cells entry) k.range gaps first old new → (n : ℕ) → n < length old
      → bit_in new n ≡ (if is_in_any (first + n) gaps && tells t v (first + n) e then told m inv t v (first + n) e else bit_in old n)
  told_put entry read gaps first old new fits put n lt =
      let small : first + n < 2 ^ 64 - 1 = omega arith in
      put n lt ∙ by (is_in_any (first + n) gaps) (is_in (first + n) k.range) (tells t v (first + n) e) (tells_is (first + n) small) (told_read entry read (first + n) small)
    where
      by : (g r s : Bool) → s ≡ r → (r ≡ true → told m inv t v (first + n) e ≡ shown (bits_of (entry_cells entry)) (first + n - k.range.start))
          → (if g && r then shown (bits_of (entry_cells entry)) (first + n - k.range.start) else bit_in old n) ≡ (if g && s then told m inv t v (first + n) e else bit_in old n)
      by true true s same read = rw same (sym (read refl))
      by true false s same read = rw same refl
      by false r s same read = refl

  -- none are put where the event can't be read
  pub told_none : piece m inv t k.debug.now e ≡ None → (gaps : List Range) (first : ℕ) (old : List Bit) → AreOpen first old gaps → (n : ℕ) → n < length old
      → bit_in old n ≡ (if is_in_any (first + n) gaps && tells t v (first + n) e then told m inv t v (first + n) e else bit_in old n)
  told_none unread gaps first old are n lt = by (is_in_any (first + n) gaps) refl (tells t v (first + n) e)
    where
      by : (g : Bool) → is_in_any (first + n) gaps ≡ g → (s : Bool) → bit_in old n ≡ (if g && s then told m inv t v (first + n) e else bit_in old n)
      by true is true = are n lt is ∙ sym (told_unread unread (first + n))
      by true is false = refl
      by false is s = refl

-- ---- one event after the other, from the last one back

pub local_more : (m : Memory) (inv : ℕ) (t : Tables) (v : Instance) (events : List PassedEvent) (k : ℕ) (e : PassedEvent) → k < length events → e ≡ get_or events k e → (j : ℕ)
    → local_bit m inv t (take (k + 1) events) v j ≡ (if tells t v j e then told m inv t v j e else local_bit m inv t (take k events) v j)
local_more m inv t v events k e lt is j =
    let ends : take (k + 1) events ≡ take k events ++ e ∷ [] = take_more events k e lt ∙ ap (λ (x : PassedEvent). take k events ++ x ∷ []) (sym is) in
    let back : reverse (take (k + 1) events) ≡ e ∷ reverse (take k events) = ap reverse ends ∙ reverse-append (take k events) (e ∷ []) in
    ap (λ (es : List PassedEvent). option_map_or (told m inv t v j) (find (tells t v j) es) unbound) back ∙ by (tells t v j e)
  where
    by : (b : Bool) → option_map_or (told m inv t v j) (if b then Some e else find (tells t v j) (reverse (take k events))) unbound
        ≡ (if b then told m inv t v j e else local_bit m inv t (take k events) v j)
    by true = refl
    by false = refl

-- ---- bits of which all later events told

both_false : (a b : Bool) → (a && not b) ≡ false → a ≡ true → b ≡ true
both_false true true h is = refl
both_false true false h is = absurd (cc)
both_false false b h is = absurd (cc)

one_true : (a b : Bool) → (a && not b) ≡ true → (a ≡ true) × (b ≡ false)
one_true true true h = absurd (cc)
one_true true false h = (refl, refl)
one_true false b h = absurd (cc)

pub told_step : (all left less told_now : ℕ → Bit) (now : ℕ → Bool) (first : ℕ) (old new : List Bit) (before gaps : List Range) → length new ≡ length old → first + length old < 2 ^ 64
    → ((j : ℕ) → left j ≡ (if now j then told_now j else less j))
    → ((j : ℕ) → j < 2 ^ 64 - 1 → is_in_any j gaps ≡ (is_in_any j before && not (now j)))
    → ((n : ℕ) → n < length old → bit_in new n ≡ (if is_in_any (first + n) before && now (first + n) then told_now (first + n) else bit_in old n))
    → AreTold all left first old before → AreTold all less first new gaps
told_step all left less told_now now first old new before gaps long fits step narrow put were n lt =
    let short : n < length old = omega arith in
    let small : first + n < 2 ^ 64 - 1 = omega arith in
    let w = were n short in
    by (is_in_any (first + n) before) refl (now (first + n)) refl (narrow (first + n) small) (put n short) (step (first + n)) w.0 w.1
  where
    j : ℕ
    j = first + n

    by : (a : Bool) → is_in_any (first + n) before ≡ a → (b : Bool) → now (first + n) ≡ b → is_in_any (first + n) gaps ≡ (is_in_any (first + n) before && not (now (first + n)))
        → bit_in new n ≡ (if is_in_any (first + n) before && now (first + n) then told_now (first + n) else bit_in old n)
        → left (first + n) ≡ (if now (first + n) then told_now (first + n) else less (first + n))
        → (is_in_any (first + n) before ≡ true → (bit_in old n ≡ unbound) × (all (first + n) ≡ left (first + n)))
        → (is_in_any (first + n) before ≡ false → bit_in old n ≡ all (first + n))
        → (is_in_any (first + n) gaps ≡ true → (bit_in new n ≡ unbound) × (all (first + n) ≡ less (first + n))) × (is_in_any (first + n) gaps ≡ false → bit_in new n ≡ all (first + n))
    by true is true yes_now narrow put step inside outside =
        let p : bit_in new n ≡ told_now (first + n) = rw (is, yes_now) at put in
        let s : left (first + n) ≡ told_now (first + n) = rw yes_now at step in
        let g : is_in_any (first + n) gaps ≡ false = rw (is, yes_now) at narrow in
        (λ h. absurd (cc), λ h. p ∙ sym s ∙ sym (inside is).1)
    by true is false no_now narrow put step inside outside =
        let p : bit_in new n ≡ bit_in old n = rw (is, no_now) at put in
        let s : left (first + n) ≡ less (first + n) = rw no_now at step in
        let g : is_in_any (first + n) gaps ≡ true = rw (is, no_now) at narrow in
        (λ h. (p ∙ (inside is).0, (inside is).1 ∙ s), λ h. absurd (cc))
    by false is b is_now narrow put step inside outside =
        let p : bit_in new n ≡ bit_in old n = rw is at put in
        let g : is_in_any (first + n) gaps ≡ false = rw is at narrow in
        (λ h. absurd (cc), λ h. p ∙ outside is)

-- gaps that became fewer are still within the bits
pub within_step : (first : ℕ) (old new : List Bit) (before gaps : List Range) → length new ≡ length old
    → ((j : ℕ) → is_in_any j gaps ≡ true → is_in_any j before ≡ true)
    → AreWithin first old before → AreWithin first new gaps
within_step first old new before gaps long fewer were j h = rw long (were j (fewer j h))

-- at the end all are told
pub told_all : (all left : ℕ → Bit) (first : ℕ) (bits : List Bit) (gaps : List Range) → ((j : ℕ) → is_in_any j gaps ≡ true → left j ≡ unbound) → AreTold all left first bits gaps
    → (n : ℕ) → n < length bits → bit_in bits n ≡ all (first + n)
told_all all left first bits gaps rest are n lt = by (is_in_any (first + n) gaps) refl
  where
    by : (a : Bool) → is_in_any (first + n) gaps ≡ a → bit_in bits n ≡ all (first + n)
    by true is = let p = (are n lt).0 is in p.0 ∙ sym (rest (first + n) is) ∙ sym p.1
    by false is = (are n lt).1 is

-- before the first look all bits are in one gap
pub told_none_yet : (all : ℕ → Bit) (first : ℕ) (bits : List Bit) (span : Range) → span.start ≡ first → span.end ≡ first + length bits → ((n : ℕ) → bit_in bits n ≡ unbound)
    → AreTold all all first bits (span ∷ [])
told_none_yet all first bits span begins ends blank n lt =
    (λ h. (blank n, refl), λ h. absurd (let i : is_in (first + n) span ≡ true = rw (begins, ends) (within first n (length bits) lt) in let same : true ≡ false = rw i at h in cc))
  where
    within : (f n l : ℕ) → n < l → (nat_le f (f + n) && nat_lt (f + n) (f + l)) ≡ true
    within f n l lt = grind arith

pub within_first : (first : ℕ) (bits : List Bit) (span : Range) → span.start ≡ first → span.end ≡ first + length bits → AreWithin first bits (span ∷ [])
within_first first bits span begins ends j h = by (is_in j span) refl h
  where
    by : (b : Bool) → is_in j span ≡ b → is_in_any j (span ∷ []) ≡ true → (nat_le first j && nat_lt j (first + length bits)) ≡ true
    by true is h =
        let a : nat_le first j ≡ nat_le span.start j = ap (λ (n : ℕ). nat_le n j) (sym begins) in
        let b : nat_lt j (first + length bits) ≡ nat_lt j span.end = ap (λ (n : ℕ). nat_lt j n) (sym ends) in
        rw (a, b) is
    by false is h = absurd (let same : false ≡ true = rw is at h in cc)

pub no_gaps : (gaps : List Range) → length gaps ≡ 0 → (j : ℕ) → is_in_any j gaps ≡ true → ⊥
no_gaps [] none j h = cc
no_gaps (r ∷ rs) none j h = omega arith

pub is_zero : (n : ℕ) → (n == 0) ≡ true → n ≡ 0
is_zero n h = grind arith
