-- Where the memory is read for what events tell of some bits.
use Rattle.std.proofs.Common.{◌≡◌, ◌∙◌, ℕ, ◌+◌, ◌^◌, ◌<◌, Bool, true, false, List, length, get_or, take, Some, refl, sym, arith}
use Rattle.std.specs.Prelude.{if◌then◌else◌, option_map}
use Rattle.spv_base.specs.declared.values.PassedEvent.{PassedEvent}
use Rattle.spv_dbg.specs.Tables.{Tables}
use Rattle.spv_expr.specs.declared.events.Instance.{Instance}
use Rattle.spv_expr.specs.declared.events.Telling.{Telling}
use Rattle.spv_expr.specs.declared.ranges.Range.{Range}
use Rattle.spv_expr.specs.declared.sources.Source.{Source}
use Rattle.spv_expr.specs.declared.sources.Source.TheVariants.{Nowhere}
use Rattle.spv_expr.specs.Bits.{local_bit, told}
use Rattle.spv_expr.specs.Kept.{is_in, kept_telling, saturated_telling}
use Rattle.spv_expr.specs.Looks.{IsLocalSource, IsPieceSource, IsToldSource, TellsAll}
use Rattle.spv_expr.specs.Variables.{telling, tells}
use Rattle.spv_expr.proofs.RangeLemmas.{in_is}
use Rattle.spv_expr.proofs.TellLemmas.{local_more, tells_at, told_same}

module _ (t : Tables) (v : Instance) (span : Range) (e : PassedEvent) where
  module _ (k : Telling) (told_is : Some (kept_telling k) ≡ option_map saturated_telling (telling t v e.word)) (small : span.end < 2 ^ 64) where
    tells_in : (j : ℕ) → is_in j span ≡ true → tells t v j e ≡ is_in j k.range
    tells_in j inside = let i = in_is j span inside in tells_at t v e k told_is j (omega (arith, i.1, small))

    pub all_told : ((j : ℕ) → is_in j span ≡ true → is_in j k.range ≡ true) → TellsAll t v span e
    all_told all j inside = tells_in j inside ∙ all j inside

    pub told_source : (s : Source) → IsPieceSource t k.debug.now e s → IsToldSource t v span e s
    told_source s is inv m n reads j inside told_of = told_same t v e k told_is inv m n (is inv m n reads) j

-- ---- one event after the other, from the last one back

module _ (t : Tables) (v : Instance) (span : Range) (events : List PassedEvent) where
  pub local_blank : IsLocalSource t v span (take 0 events) Nowhere
  local_blank inv m n reads j inside = refl

  module _ (k : ℕ) (e : PassedEvent) (lt : k < length events) (is : e ≡ get_or events k e) (s : Source) where
    pub local_past : IsToldSource t v span e Nowhere → IsLocalSource t v span (take k events) s → IsLocalSource t v span (take (k + 1) events) s
    local_past past left inv m n reads j inside =
        local_more m inv t v events k e lt is j ∙ by (tells t v j e) refl ∙ sym (local_more n inv t v events k e lt is j)
      where
        by : (b : Bool) → tells t v j e ≡ b
            → (if b then told m inv t v j e else local_bit m inv t (take k events) v j) ≡ (if b then told n inv t v j e else local_bit n inv t (take k events) v j)
        by true is_told = past inv m n tt j inside is_told
        by false other = left inv m n reads j inside

    pub local_found : TellsAll t v span e → IsToldSource t v span e s → IsLocalSource t v span (take (k + 1) events) s
    local_found all told_is inv m n reads j inside =
        let here = all j inside in
        local_more m inv t v events k e lt is j ∙ rw here (told_is inv m n reads j inside here) ∙ sym (local_more n inv t v events k e lt is j)
