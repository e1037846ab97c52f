use Rattle.std.proofs.Common.{◌≡◌, ◌∙◌, ◌+◌, ◌<◌, ◌≤◌, inl, inr, Bool, ℕ, List, Some, ap, false, get_or, length, slice_get, slice_set, subst, sym, true, arith}
use Rattle.std.proofs.lemmas.Option.{get_or_from_slice_get, slice_get-get_or, slice_get_within}
use Rattle.spv_base.proofs.Exports.{element_at}
use Rattle.spv_dbg.specs.Tables.{Tables}
use Rattle.spv_group.specs.Group.{Held as Group}
use Rattle.spv_stops.specs.Watches.{WatchKey}
use Rattle.spv_hits.specs.Kept.{IsPlaced, LiesAt}
use Rattle.spv_hits.specs.declared.places.Place.{Place}
use Rattle.spv_hits.proofs.NumberLemmas.{one_more, one_put, set_behind}
use Rattle.spv_hits.proofs.watches.keep_others.Goals.{then-not-marks-n+in_ok-places+in-At-1, then-not-marks-n+in_ok-places+in-Anywhere-1, else-not-marks-n}
use Rattle.spv_hits.proofs.watches.keep_others.Goals as goal

module _ (t : Tables) (g : Group) (watches : List (ℕ × WatchKey)) (marks : List Bool) (old places : List Place) (n : ℕ) (within : n < length watches) where
  abbrev AllPlaced : List Place → ℕ → Type 0
  AllPlaced ps k = (m : ℕ) (w : ℕ × WatchKey) (place : Place) → m < k → slice_get watches m ≡ Some w → slice_get ps m ≡ Some place → IsPlaced t w.1 place g (slice_get marks m) (slice_get old m)

  abbrev AreLeft : List Place → ℕ → Type 0
  AreLeft ps k = (m : ℕ) → k ≤ m → slice_get ps m ≡ slice_get old m

  placed_put : (x : ℕ × WatchKey) (place : Place) (ps : List Place) → x ≡ get_or watches n x → LiesAt t x.1 place g → ps ≡ slice_set places n place → AllPlaced places n → AllPlaced ps (n + 1)
  placed_put x place ps read lies put before =
      subst (λ qs. AllPlaced qs (n + 1)) (sym put)
      (one_put (λ m (w : ℕ × WatchKey) (p : Place). IsPlaced t w.1 p g (slice_get marks m) (slice_get old m)) watches n x within read places place before (inl lies))

  left_put : (place : Place) (ps : List Place) → ps ≡ slice_set places n place → AreLeft places n → AreLeft ps (n + 1)
  left_put place ps put behind m l = ap (λ qs. slice_get qs m) put ∙ set_behind places n m place (omega (arith, l)) ∙ behind m (omega (arith, l))

  placed_left : (ps : List Place) → slice_get marks n ≡ Some true → ps ≡ places → AllPlaced places n → AreLeft places n → AllPlaced ps (n + 1)
  placed_left ps marked same before behind =
      let x = element_at watches n within in
      subst (λ qs. AllPlaced qs (n + 1)) (sym same)
      (one_more (λ m (w : ℕ × WatchKey) (p : Place). IsPlaced t w.1 p g (slice_get marks m) (slice_get old m)) watches n x.0 within (sym (get_or_from_slice_get watches n x.0 x.0 x.1)) places before
      (λ place there. inr (marked, sym (behind n (omega arith)) ∙ there)))

pub loop-n-preserved : goal.loop-n-preserved
loop-n-preserved c =
    let t = c.args.tables.now in
    let g = c.args.group.now.group in
    let n = c.loop-n.n in
    let watches = c.args.watches.now in
    let marks = c.args.marks.now in
    let old = c.args.places.now in
    let places = c.loop-n.places in
    let now = c.if-not-marks-n.places in
    let within : n < length watches = omega arith in
    let before = c.loop-n.invariant.before in
    let behind = c.loop-n.invariant.behind in
    elim c.if-not-marks-n.branch [
      | then-not-marks-n+in_ok-places+in-At-1 w ↦ record {
        before = placed_put t g watches marks old places n within w.index-watches-n.result w.in_ok-places.field-0 now w.index-watches-n.is
            (subst (λ (y : ℕ × WatchKey). LiesAt t y.1 w.in_ok-places.field-0 g) (sym w.index-watches-n.is) w.in_ok-places.ensures) w.places-is before;
        behind = left_put t g watches marks old places n within w.in_ok-places.field-0 now w.places-is behind;
      }
      | then-not-marks-n+in_ok-places+in-Anywhere-1 w ↦ record {
        before = placed_put t g watches marks old places n within w.index-watches-n.result w.in_ok-places.field-0 now w.index-watches-n.is
            (subst (λ (y : ℕ × WatchKey). LiesAt t y.1 w.in_ok-places.field-0 g) (sym w.index-watches-n.is) w.in_ok-places.ensures) w.places-is before;
        behind = left_put t g watches marks old places n within w.in_ok-places.field-0 now w.places-is behind;
      }
      | else-not-marks-n w ↦ record {
        before = placed_left t g watches marks old places n within now (slice_get-get_or marks n false (omega (arith, c.requires.marks)) ∙ ap Some w.if-not-marks-n.false) w.places-is before behind;
        behind = λ m l. ap (λ qs. slice_get qs m) w.places-is ∙ behind m (omega (arith, l));
      }
    ]

pub returns : goal.returns
returns c = λ n w place at there.
    let within : n < length c.args.watches.now = slice_get_within c.args.watches.now n w at in
    c.loop-n.invariant.before n w place (omega arith) at there
