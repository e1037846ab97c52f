-- What a run from the start on finds.
use Rattle.std.proofs.Common.{◌≡◌, ◌⊎◌, ◌≤◌, ◌<◌, ◌∙◌, ◌+◌, ◌++◌, ℕ, zero, suc, Bool, true, false, cond, List, [], ◌∷◌, length, Some, refl, ap, sym, subst, inl, inr, arith}
use Rattle.std.specs.Prelude.{◌&&◌, ◌||◌, nat_lt, slice_index}
use Rattle.std.specs.Option.{option_map_or}
use Rattle.std.proofs.lemmas.Bool.{and_parts, cases_lt, ltb-true}
use Rattle.std.proofs.lemmas.List.{length-append}
use Rattle.spv_base.specs.declared.happenings.Happening.{Happening}
use Rattle.spv_group.specs.Group.{Held as Group, entries_in, group_at}
use Rattle.spv_group.specs.Run.{happening_at}
use Rattle.spv_search.specs.Again.{AreMovers, IsAdded, IsFoundAgain, IsLookedBefore, passes_before}
use Rattle.spv_search.specs.Moves.{moves, moves_between, moves_next}
use Rattle.spv_search.specs.Own.{own_before}
use Rattle.spv_search.specs.declared.again.Found.{Found}
use Rattle.spv_search.specs.declared.hits.Looked.{Looked}
use Rattle.spv_search.specs.declared.commands.Backward.{Backward}
use Rattle.spv_search.proofs.CountLemmas.{none_between, one, one_behind}

pub lt_is : (a b : ℕ) → a < b → nat_lt a b ≡ true
lt_is a b l = grind arith

index_end : (ms : List ℕ) (n : ℕ) → slice_index (ms ++ n ∷ []) (length ms) ≡ n
index_end [] n = refl
index_end (m ∷ ms) n = index_end ms n

index_before : (ms : List ℕ) (n k : ℕ) → k < length ms → slice_index (ms ++ n ∷ []) k ≡ slice_index ms k
index_before [] n k l = absurd (omega arith)
index_before (m ∷ ms) n zero l = refl
index_before (m ∷ ms) n (suc k) l = index_before ms n k (omega arith)

-- ---- movers

module _ (g : Group) (i n : ℕ) (ms : List ℕ) (are : AreMovers g i n ms) (h : Happening) (event : happening_at g.program (entries_in g) n ≡ Some h) where
  still : moves i h ≡ false → AreMovers g i (n + 1) ms
  still stays = record {
    all = let more = one_behind g i 0 n h (omega arith) event in let none : one (moves i h) ≡ 0 = ap one stays in let all = are.all in omega (arith, more, none, all);
    below = λ k l. (let b = are.below k l in omega (arith, b));
    move = are.move;
    behind = λ k l. (
        let b = are.below k l in
        let so_far = are.behind k l in
        let more = one_behind g i (slice_index ms k) n h (omega (arith, b)) event in
        let none : one (moves i h) ≡ 0 = ap one stays in
        omega (arith, so_far, more, none));
  }

  module _ (moved : moves i h ≡ true) where
    length_more : length (ms ++ n ∷ []) ≡ length ms + 1
    length_more = length-append ms (n ∷ [])

    one_is : one (moves i h) ≡ 1
    one_is = ap one moved

    -- what holds of the movers so far and of the new one holds of all
    each : (P : ℕ → ℕ → Type 0) → ((k : ℕ) → k < length ms → P k (slice_index ms k)) → P (length ms) n → (k : ℕ) → k < length (ms ++ n ∷ []) → P k (slice_index (ms ++ n ∷ []) k)
    each P before last k l = elim (cases_lt k (length ms)) [
      | inl b ↦ subst (P k) (sym (index_before ms n k b)) (before k b)
      | inr b ↦ (
          let here : length ms ≡ k = omega (arith, b, l, length_more) in
          subst (λ j. P j (slice_index (ms ++ n ∷ []) j)) here (subst (P (length ms)) (sym (index_end ms n)) last))
    ]

    move_here : moves_next (group_at n g) i ≡ true
    move_here = ap (λ o. option_map_or (moves i) o false) event ∙ moved

    here_counts : moves_between g i n (n + 1) ≡ 1
    here_counts = let more = one_behind g i n n h (omega arith) event in let none = none_between g i n in omega (arith, more, none, one_is)

    pushed : AreMovers g i (n + 1) (ms ++ n ∷ [])
    pushed = record {
      all = let more = one_behind g i 0 n h (omega arith) event in let all = are.all in omega (arith, more, all, one_is, length_more);
      below = each (λ k m. m < n + 1) (λ k l. (let b = are.below k l in omega (arith, b))) (omega arith);
      move = each (λ k m. moves_next (group_at m g) i ≡ true) are.move move_here;
      behind = each (λ k m. moves_between g i m (n + 1) + k ≡ length (ms ++ n ∷ []))
          (λ k l. (
          let b = are.below k l in
          let so_far = are.behind k l in
          let more = one_behind g i (slice_index ms k) n h (omega (arith, b)) event in
          omega (arith, so_far, more, one_is, length_more)))
          (omega (arith, here_counts, length_more));
    }

  pub moved_by : (new : List ℕ) (b : Bool) → b ≡ moves i h → new ≡ cond b (ms ++ n ∷ []) ms → AreMovers g i (n + 1) new
  moved_by new true is put = subst (AreMovers g i (n + 1)) (sym put) (pushed (sym is))
  moved_by new false is put = subst (AreMovers g i (n + 1)) (sym put) (still (sym is))

-- ---- all that is found

no_movers : (g : Group) (i : ℕ) → AreMovers g i 0 []
no_movers g i = record { all = sym (none_between g i 0); below = λ k l. absurd (omega arith); move = λ k l. absurd (omega arith); behind = λ k l. absurd (omega arith) }

pub again_begins : (test own : ℕ → Bool) (next : Bool) (from : ℕ) (g : Group) (i n : ℕ) (f : Found) → n ≡ 0 → f.last ≡ 0 → f.done ≡ false → own 0 ≡ false → f.movers.items ≡ [] → IsFoundAgain test own next from g i n f
again_begins test own next from g i n f start last done first none = record {
  within = omega (arith, last);
  inside = λ l. absurd (omega (arith, l, last));
  passes = λ l. absurd (omega (arith, l, last));
  none = λ m above below before. absurd (omega (arith, above, below, start));
  done = done ∙ sym first ∙ ap own (sym last);
  movers = λ _. subst (λ k. AreMovers g i k f.movers.items) (sym start) (subst (AreMovers g i 0) (sym none) (no_movers g i));
}

module _ (test own : ℕ → Bool) (next : Bool) (from : ℕ) (g : Group) (i n : ℕ) (old new : Found) (is : IsFoundAgain test own next from g i n old) where
  later : (new.last ≡ old.last) → (nat_lt (n + 1) from && test (n + 1)) ≡ false → (m : ℕ) → new.last < m → m ≤ n + 1 → m < from → (n < m) ⊎ (m ≤ n) → test m ≡ false
  later same fails m above below before (inl l) =
      let here : n + 1 ≡ m = omega arith in
      let inside : nat_lt (n + 1) from ≡ true = lt_is (n + 1) from (omega (arith, here, before)) in
      subst (λ k. test k ≡ false) here (sym (ap (λ b. b && test (n + 1)) inside) ∙ fails)
  later same fails m above below before (inr l) = is.none m (omega (arith, above, same)) l before

  by_pass : (b : Bool) → b ≡ (nat_lt (n + 1) from && test (n + 1)) → new.last ≡ cond b (n + 1) old.last
      → (new.last ≤ n + 1) × (0 < new.last → new.last < from) × (0 < new.last → test new.last ≡ true) × ((m : ℕ) → new.last < m → m ≤ n + 1 → m < from → test m ≡ false)
  by_pass true e l =
      let both = and_parts (nat_lt (n + 1) from) (test (n + 1)) (sym e) in
      let inside : n + 1 < from = ltb-true (n + 1) from both.0 in
      (omega (arith, l), λ _. omega (arith, l, inside), λ _. subst (λ k. test k ≡ true) (sym l) both.1, λ m above below before. absurd (omega (arith, above, below, l)))
  by_pass false e l =
      let within = is.within in (
        omega (arith, l, within),
        λ some. subst (λ k. k < from) (sym l) (is.inside (omega (arith, some, l))),
        λ some. subst (λ k. test k ≡ true) (sym l) (is.passes (omega (arith, some, l))),
        λ m above below before. later l (sym e) m above below before (cases_lt n m),
      )

  done_by : (b done : Bool) → (b ≡ true → done ≡ own (n + 1)) → new.last ≡ cond b (n + 1) old.last → new.done ≡ cond b done old.done → new.done ≡ own new.last
  done_by true done asked l e = e ∙ asked refl ∙ ap own (sym l)
  done_by false done asked l e = e ∙ is.done ∙ ap own (sym l)

  pub again_more : (h : Happening) (looked : Looked) (moved : Bool) → happening_at g.program (entries_in g) n ≡ Some h → looked.passes ≡ (nat_lt (n + 1) from && test (n + 1))
      → (looked.passes ≡ true → looked.done ≡ own (n + 1)) → moved ≡ (next && moves i h) → IsAdded n looked moved old new → IsFoundAgain test own next from g i (n + 1) new
  again_more h looked moved event passes_is done_is moved_is added =
      let parts = by_pass looked.passes passes_is added.last in
      record {
        within = parts.0;
        inside = parts.1;
        passes = parts.2;
        none = parts.3;
        done = done_by looked.passes looked.done done_is added.last added.done;
        movers = λ asked. moved_by g i n old.movers.items (is.movers asked) h event new.movers.items moved (moved_is ∙ ap (λ b. b && moves i h) asked) added.movers;
      }

pub added_at : (event n : ℕ) (looked : Looked) (moved : Bool) (old new : Found) → event ≡ n → IsAdded event looked moved old new → IsAdded n looked moved old new
added_at event n looked moved old new e is = subst (λ k. IsAdded k looked moved old new) e is

-- what is known of a position, by the group there
module _ (hit other : Group → Bool) (command : Backward) (i from n : ℕ) (p first now : Group) (looked : Looked) (here : now ≡ group_at n first) (is : IsLookedBefore hit command i p from now looked) where
  pub here_passes : ((x : Group) → hit x ≡ other x) → looked.passes ≡ (nat_lt n from && passes_before other command i p first n)
  here_passes same =
      is.passes ∙ ap (λ b. nat_lt now.position from && (b || own_before command i p now)) (same now)
      ∙ ap (λ (x : Group). nat_lt x.position from && (other x || own_before command i p x)) here

  pub here_done : looked.passes ≡ true → looked.done ≡ own_before command i p (group_at n first)
  here_done passes = is.done passes ∙ ap (λ (x : Group). own_before command i p x) here
