-- The steps of the replies to two lists of lines, one after the other, and how far back events are kept after them.
use Rattle.std.proofs.Common.{◌≡◌, ◌≤◌, ℕ, ◌+◌, true, false, cond, max, arith, ◌||◌, List, [], ◌∷◌, ◌++◌, sym, ap, ap₂, ◌∙◌, subst, append_assoc, append-nil}
use Rattle.spv_group.specs.Group.{Held as Group, entries_in, group_at, window_in}
use Rattle.spv_group.specs.History.{window}
use Rattle.spv_group.proofs.Exports.{windows_rise}
use Rattle.spv_session.specs.View.{View, Viewing, undoing_in}
use Rattle.spv_session.specs.Reply.{is_quit}
use Rattle.spv_session.specs.Costs.{line_kept, reached}
use Rattle.spv_session.proofs.Exports.{line_reaches}
use Rattle.spv_loop.specs.Transcript.{Reply, Cost, view_of, view_after, has_quit, highest, reach, transcript_cost, Reaches, Spends}

-- ---- what is kept

reach_rises : (s : Viewing) (m n : ℕ) → m ≤ n
    → max s.kept (window s.limit s.view.group.program (entries_in s.view.group) m) ≤ max s.kept (window s.limit s.view.group.program (entries_in s.view.group) n)
reach_rises s m n h = let rises = windows_rise s.limit s.view.group.program (entries_in s.view.group) m n h in omega arith

-- the window of the same run at another position, as another view has it
window_same : (s t : Viewing) (n : ℕ) → t.limit ≡ s.limit → t.view.group ≡ group_at t.view.group.position s.view.group
    → window t.limit t.view.group.program (entries_in t.view.group) n ≡ window s.limit s.view.group.program (entries_in s.view.group) n
window_same s t n limit same = ap₂ (λ (l : ℕ) (g : Group). window l g.program (entries_in g) n) limit same

-- ---- lines of which some are left

-- some of all lines are left to answer: what will be spent and kept then is what is due of all
pub record IsSpending (reply : Reply) (cost_of : Cost) (start at : Viewing) (all rest : List (List ℕ)) (before now : ℕ) : Type 0 where
  pub reaches : (later : List (List ℕ)) → reach reply at (rest ++ later) ≤ reach reply start (all ++ later)
  pub spends : (kept : ℕ) → reach reply start all ≤ kept → now + transcript_cost reply cost_of kept at.view rest ≤ before + transcript_cost reply cost_of kept start.view all

module _ (reply : Reply) where
  -- ---- the highest position

  pub highest_first : (v : View) (ys : List (List ℕ)) → v.group.position ≤ highest reply v ys
  highest_first v [] = omega arith
  highest_first v (y ∷ ys) = omega arith

  pub highest_front : (v : View) (xs ys : List (List ℕ)) → highest reply v xs ≤ highest reply v (xs ++ ys)
  highest_front v [] ys = highest_first v ys
  highest_front v (x ∷ xs) ys =
      let rest = highest_front (view_of reply v x) xs ys in
      elim (is_quit x) as (λ q. max (max v.group.position (reached v x)) (cond q (view_of reply v x).group.position (highest reply (view_of reply v x) xs))
      ≤ max (max v.group.position (reached v x)) (cond q (view_of reply v x).group.position (highest reply (view_of reply v x) (xs ++ ys)))) [
        | true ↦ omega arith
        | false ↦ omega arith
      ]

  -- ---- how far back

  pub reach_front : (s : Viewing) (xs ys : List (List ℕ)) → reach reply s xs ≤ reach reply s (xs ++ ys)
  reach_front s xs ys = reach_rises s (highest reply s.view xs) (highest reply s.view (xs ++ ys)) (highest_front s.view xs ys)

  -- after the reply to a line that isn't `quit`
  pub reaches_one : (s t : Viewing) (line : List ℕ) → t.view ≡ view_of reply s.view line → t.view.group ≡ group_at t.view.group.position s.view.group → t.limit ≡ s.limit
      → t.kept ≤ max (line_kept s line) (window_in (undoing_in t)) → is_quit line ≡ false → Reaches reply s t (line ∷ [])
  reaches_one s t line view same limit kept go later =
      let here = window_same s t t.view.group.position limit same in
      let there = window_same s t (highest reply t.view later) limit same in
      let first = highest_first t.view later in
      let there_and_back = max s.view.group.position (reached s.view line) in
      let highest_is : highest reply s.view (line ∷ later) ≡ max there_and_back (highest reply t.view later)
      = ap (λ q. max there_and_back (cond q (view_of reply s.view line).group.position (highest reply (view_of reply s.view line) later))) go ∙ ap (λ (v : View). max there_and_back (highest reply v later)) (sym view) in
      let meanwhile = line_reaches s line (highest reply s.view (line ∷ later)) (omega arith) in
      let low : window s.limit s.view.group.program (entries_in s.view.group) t.view.group.position ≤ window s.limit s.view.group.program (entries_in s.view.group) (highest reply s.view (line ∷ later))
      = windows_rise s.limit s.view.group.program (entries_in s.view.group) t.view.group.position (highest reply s.view (line ∷ later)) (omega arith) in
      let high : window s.limit s.view.group.program (entries_in s.view.group) (highest reply t.view later) ≤ window s.limit s.view.group.program (entries_in s.view.group) (highest reply s.view (line ∷ later))
      = windows_rise s.limit s.view.group.program (entries_in s.view.group) (highest reply t.view later) (highest reply s.view (line ∷ later)) (omega arith) in
      omega arith

  pub reaches_more : (s t u : Viewing) (xs ys : List (List ℕ)) → Reaches reply s t xs → Reaches reply t u ys → Reaches reply s u (xs ++ ys)
  reaches_more s t u xs ys r q later =
      let one = q later in
      let two = r (ys ++ later) in
      subst (λ (l : List (List ℕ)). reach reply u later ≤ reach reply s l) (sym (append_assoc xs ys later)) (omega arith)

  module _ (cost_of : Cost) where
    -- ---- steps

    cost-append : (k : ℕ) (v : View) (xs ys : List (List ℕ)) → transcript_cost reply cost_of k v (xs ++ ys) ≡ transcript_cost reply cost_of k v xs + cond (has_quit xs) 0 (transcript_cost reply cost_of k (view_after reply v xs) ys)
    cost-append k v [] ys = omega arith
    cost-append k v (x ∷ xs) ys =
        elim (is_quit x) as (λ q. cost_of k v x + cond q 0 (transcript_cost reply cost_of k (view_of reply v x) (xs ++ ys))
        ≡ (cost_of k v x + cond q 0 (transcript_cost reply cost_of k (view_of reply v x) xs)) + cond (q || has_quit xs) 0 (transcript_cost reply cost_of k (cond q (view_of reply v x) (view_after reply (view_of reply v x) xs)) ys)) [
          | true ↦ omega arith
          | false ↦ (let rest = cost-append k (view_of reply v x) xs ys in omega arith)
        ]

    cost_goes : (k : ℕ) (v : View) (xs ys : List (List ℕ)) → has_quit xs ≡ false → transcript_cost reply cost_of k v (xs ++ ys) ≡ transcript_cost reply cost_of k v xs + transcript_cost reply cost_of k (view_after reply v xs) ys
    cost_goes k v xs ys h = cost-append k v xs ys ∙ ap (λ b. transcript_cost reply cost_of k v xs + cond b 0 (transcript_cost reply cost_of k (view_after reply v xs) ys)) h

    cost_front : (k : ℕ) (v : View) (xs ys : List (List ℕ)) → transcript_cost reply cost_of k v xs ≤ transcript_cost reply cost_of k v (xs ++ ys)
    cost_front k v xs ys = let all = cost-append k v xs ys in omega arith

    cost_one : (k : ℕ) (v : View) (x : List ℕ) → transcript_cost reply cost_of k v (x ∷ []) ≡ cost_of k v x
    cost_one k v x = elim (is_quit x) as (λ q. cost_of k v x + cond q 0 0 ≡ cost_of k v x) [ true ↦ omega arith | false ↦ omega arith ]

    -- the reply to one line
    pub spends_one : ((j k : ℕ) (v : View) (line : List ℕ) → j ≤ k → cost_of j v line ≤ cost_of k v line) → (s : Viewing) (line : List ℕ) (before after : ℕ) → after ≤ before + cost_of (line_kept s line) s.view line → Spends reply cost_of s (line ∷ []) before after
    spends_one rising s line before after h k l =
        let meanwhile = line_reaches s line (highest reply s.view (line ∷ [])) (omega arith) in
        let rises = rising (line_kept s line) k s.view line (omega arith) in
        let one = cost_one k s.view line in
        omega arith

    pub spends_none : (s : Viewing) (lines : List (List ℕ)) (before after : ℕ) → after ≤ before → Spends reply cost_of s lines before after
    spends_none s lines before after h k l = omega arith

    -- the first lines take no more than all
    pub spends_front : (s : Viewing) (xs ys : List (List ℕ)) (before after : ℕ) → Spends reply cost_of s xs before after → Spends reply cost_of s (xs ++ ys) before after
    spends_front s xs ys before after h k l =
        let first = reach_front s xs ys in
        let cost = cost_front k s.view xs ys in
        let most = h k (omega arith) in
        omega arith

    -- lines without a `quit`, and more after them
    pub spends_more : (s t : Viewing) (xs ys : List (List ℕ)) (before between after : ℕ) → has_quit xs ≡ false → t.view ≡ view_after reply s.view xs → Reaches reply s t xs
        → Spends reply cost_of s xs before between → Spends reply cost_of t ys between after → Spends reply cost_of s (xs ++ ys) before after
    spends_more s t xs ys before between after go view reaches first rest k l =
        let front = reach_front s xs ys in
        let behind = reaches ys in
        let sum : transcript_cost reply cost_of k s.view (xs ++ ys) ≡ transcript_cost reply cost_of k s.view xs + transcript_cost reply cost_of k t.view ys
        = cost_goes k s.view xs ys go ∙ ap (λ (v : View). transcript_cost reply cost_of k s.view xs + transcript_cost reply cost_of k v ys) (sym view) in
        let one = first k (omega arith) in
        let two = rest k (omega arith) in
        omega arith

    -- what is spent of all lines, counted by what is kept at most
    pub spends_reach : (s : Viewing) (lines : List (List ℕ)) (before after : ℕ) → Spends reply cost_of s lines before after → after ≤ before + transcript_cost reply cost_of (reach reply s lines) s.view lines
    spends_reach s lines before after h = h (reach reply s lines) (omega arith)

    -- ---- the same of lines of which some are left

    reaches_rest : (start at : Viewing) (all rest : List (List ℕ)) (before now : ℕ) → IsSpending reply cost_of start at all rest before now → reach reply at rest ≤ reach reply start all
    reaches_rest start at all rest before now is =
        subst (λ (l : List (List ℕ)). reach reply at l ≤ reach reply start all) (append-nil rest)
        (subst (λ (l : List (List ℕ)). reach reply at (rest ++ []) ≤ reach reply start l) (append-nil all) (is.reaches []))

    -- the first of those that are left take no more than all
    pub spending_stops : (start at : Viewing) (all rest xs ys : List (List ℕ)) (before now after : ℕ) → IsSpending reply cost_of start at all rest before now → rest ≡ xs ++ ys → Spends reply cost_of at xs now after → Spends reply cost_of start all before after
    spending_stops start at all rest xs ys before now after is e h kept l =
        let there = reaches_rest start at all rest before now is in
        let front : reach reply at xs ≤ reach reply at rest = subst (λ (r : List (List ℕ)). reach reply at xs ≤ reach reply at r) (sym e) (reach_front at xs ys) in
        let cost : transcript_cost reply cost_of kept at.view xs ≤ transcript_cost reply cost_of kept at.view rest = subst (λ (r : List (List ℕ)). transcript_cost reply cost_of kept at.view xs ≤ transcript_cost reply cost_of kept at.view r) (sym e) (cost_front kept at.view xs ys) in
        let one = h kept (omega arith) in
        let all_of = is.spends kept l in
        omega arith

    -- the first of those that are left were answered, without a `quit`
    pub spending_more : (start at next : Viewing) (all rest xs ys : List (List ℕ)) (before now after : ℕ) → IsSpending reply cost_of start at all rest before now → rest ≡ xs ++ ys → has_quit xs ≡ false
        → next.view ≡ view_after reply at.view xs → Reaches reply at next xs → Spends reply cost_of at xs now after → IsSpending reply cost_of start next all ys before after
    spending_more start at next all rest xs ys before now after is e go view reaches h = record {
      reaches = λ later. (
          let one = reaches (ys ++ later) in
          let two : reach reply at (xs ++ (ys ++ later)) ≤ reach reply start (all ++ later) =
          subst (λ (l : List (List ℕ)). reach reply at l ≤ reach reply start (all ++ later)) (ap (λ l. l ++ later) e ∙ append_assoc xs ys later) (is.reaches later) in
          omega arith);
      spends = λ kept l. (
          let there = reaches_rest start at all rest before now is in
          let front : reach reply at xs ≤ reach reply at rest = subst (λ (r : List (List ℕ)). reach reply at xs ≤ reach reply at r) (sym e) (reach_front at xs ys) in
          let sum : transcript_cost reply cost_of kept at.view rest ≡ transcript_cost reply cost_of kept at.view xs + transcript_cost reply cost_of kept next.view ys
          = ap (transcript_cost reply cost_of kept at.view) e ∙ cost_goes kept at.view xs ys go ∙ ap (λ (v : View). transcript_cost reply cost_of kept at.view xs + transcript_cost reply cost_of kept v ys) (sym view) in
          let one = h kept (omega arith) in
          let all_of = is.spends kept l in
          omega arith);
    }
