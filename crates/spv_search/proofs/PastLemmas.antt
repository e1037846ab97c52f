-- Events of a run that are taken back, the last first.
use Rattle.std.proofs.Common.{◌≡◌, ◌≤◌, ◌<◌, ◌∙◌, ◌+◌, ◌-◌, ◌++◌, ℕ, zero, suc, List, [], ◌∷◌, length, get_or, Option, Some, refl, ap, sym, subst, arith}
use Rattle.std.specs.Prelude.{option_map, slice_get}
use Rattle.std.proofs.lemmas.List.{length-append}
use Rattle.std.proofs.lemmas.Option.{slice_get-get_or}
use Rattle.spv_base.specs.declared.happenings.Happening.{Happening}
use Rattle.spv_valid.specs.Acceptance.{Accepted}
use Rattle.spv_state.specs.Program.{Program}
use Rattle.spv_group.proofs.Exports.{between_more, between_none, least_is}
use Rattle.spv_group.specs.Group.{Held as Group, end_in, entries_in, group_at}
use Rattle.spv_group.specs.Run.{end_of, happening_at, happenings_between, has_cause}
use Rattle.spv_search.specs.Told.{IsEvent, IsPast}

-- ---- lists that end alike

snoc_same : (xs ys : List Happening) (x y : Happening) → xs ++ x ∷ [] ≡ ys ++ y ∷ [] → (xs ≡ ys) × (x ≡ y)
snoc_same [] [] x y e = (refl, cc)
snoc_same [] (b ∷ ys) x y e = let more = ap length e in let count = length-append ys (y ∷ []) in absurd (omega arith)
snoc_same (a ∷ xs) [] x y e = let more = ap length e in let count = length-append xs (x ∷ []) in absurd (omega arith)
snoc_same (a ∷ xs) (b ∷ ys) x y e =
    let first : a ≡ b = cc in
    let rest : xs ++ x ∷ [] ≡ ys ++ y ∷ [] = cc in
    let same = snoc_same xs ys x y rest in
    let all : xs ≡ ys = same.0 in
    (cc, same.1)

-- ---- each position before the end has an event

some_mapped : {B : Type 0} (f : ℕ → B) (o : Option ℕ) (x : ℕ) → o ≡ Some x → (y : B) × (option_map f o ≡ Some y)
some_mapped f o x e = (f x, ap (option_map f) e)

module _ (p : Program) (es : List ℕ) where
  event_there : (n : ℕ) → n < end_of p es → (h : Happening) × (happening_at p es n ≡ Some h)
  event_there n l =
      let within = (least_is (has_cause p es) 0 (length es) (omega arith)).to in
      some_mapped _ (slice_get es n) (get_or es n 0) (slice_get-get_or es n 0 (omega (arith, l, within)))

  between_count : (k d : ℕ) → k + d ≤ end_of p es → length (happenings_between p es k (k + d)) ≡ d
  between_count k zero l =
      let here : k + 0 ≡ k = omega arith in
      ap (λ n. length (happenings_between p es k n)) here ∙ ap length (between_none p es k)
  between_count k (suc d) l =
      let there = event_there (k + d) (omega arith) in
      let on : k + suc d ≡ (k + d) + 1 = omega arith in
      let so_far = between_count k d (omega arith) in
      let more = length-append (happenings_between p es k (k + d)) (there.0 ∷ []) in
      ap (λ n. length (happenings_between p es k n)) on ∙ ap length (between_more p es k (k + d) there.0 (omega arith) there.1) ∙ omega (arith, so_far, more)

-- The last of so many events is the one before the position behind them, and the others are the events up to there.
module _ (a : Accepted) (g : Group) (before : List Happening) (h : Happening) (is : IsPast a (before ++ h ∷ []) g) where
  pub one_behind : g.position + length (before ++ h ∷ []) ≡ (g.position + length before) + 1
  one_behind = let count = length-append before (h ∷ []) in omega (arith, count)

  parts : (before ≡ happenings_between g.program (entries_in g) g.position (g.position + length before)) × (happening_at g.program (entries_in g) (g.position + length before) ≡ Some h)
  parts =
      let n : ℕ = g.position + length before in
      let within = is.within in
      let there = event_there g.program (entries_in g) n (omega (arith, within, one_behind)) in
      let same = snoc_same before (happenings_between g.program (entries_in g) g.position n) h there.0
      (is.events ∙ ap (happenings_between g.program (entries_in g) g.position) one_behind ∙ between_more g.program (entries_in g) g.position n there.0 (omega arith) there.1) in
      (same.0, there.1 ∙ ap Some (sym same.1))

  pub last_is : IsEvent a h (group_at (g.position + length before) g)
  last_is = let most = is.most in record { accepted = is.accepted; event = parts.1; most = omega (arith, most, one_behind) }

  pub others_are : IsPast a before g
  others_are =
      let within = is.within in
      let most = is.most in
      record { accepted = is.accepted; events = parts.0; within = omega (arith, within, one_behind); most = omega (arith, most, one_behind) }

-- the events from a position on to that of a group
pub past_is : (a : Accepted) (g : Group) (target : ℕ) (events : List Happening) → a ≡ g.program.accepted → target ≤ g.position → g.position ≤ end_in g → g.position ≤ 4194304
    → events ≡ happenings_between g.program (entries_in g) target g.position → IsPast a events (group_at target g) × (target + length events ≡ g.position)
past_is a g target events accepted l within most e =
    let on : target + (g.position - target) ≡ g.position = omega arith in
    let count = between_count g.program (entries_in g) target (g.position - target) (omega (arith, on, within)) in
    let all : length events ≡ g.position - target = ap length e ∙ ap (λ n. length (happenings_between g.program (entries_in g) target n)) (sym on) ∙ count in
    let there : target + length events ≡ g.position = omega (arith, all) in (
      record {
        accepted = accepted;
        events = e ∙ ap (happenings_between g.program (entries_in g) target) (sym there);
        within = omega (arith, there, within);
        most = omega (arith, there, most);
      },
      there,
    )

-- one of them less, where probes followed the position behind them
pub record IsPopped (follows : Group → Type 0) (a : Accepted) (g : Group) (before : List Happening) (h : Happening) : Type 0 where
  pub others : IsPast a before g
  pub last : IsEvent a h (group_at (g.position + length before) g)
  pub behind : follows (group_at ((g.position + length before) + 1) g)

pub popped : (follows : Group → Type 0) (a : Accepted) (g : Group) (all before : List Happening) (h : Happening) → all ≡ before ++ h ∷ [] → IsPast a all g → follows (group_at (g.position + length all) g)
    → IsPopped follows a g before h
popped follows a g all before h e is behind =
    let past = subst (λ (l : List Happening). IsPast a l g) e is in
    record {
      others = others_are a g before h past;
      last = last_is a g before h past;
      behind = subst (λ (n : ℕ). follows (group_at n g)) (one_behind a g before h past) (subst (λ (l : List Happening). follows (group_at (g.position + length l) g)) e behind);
    }
