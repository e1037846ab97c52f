-- The refusals of the order of sections, one instruction after another.
use Rattle.std.proofs.Common.{◌≡◌, ◌∙◌, ℕ, ◌+◌, ◌<◌, ◌≤◌, ◌&&◌, Bool, true, false, cond, List, [], ◌∷◌, ◌++◌, length, max, drop, drop_of_length-le, Ok, Err, refl, sym, ap, arith, nat_le, nat_lt}
use Rattle.std.proofs.lemmas.Grind.{common_steps}
use Rattle.std.specs.Prelude.{◌||◌}
use Rattle.std.specs.List.{list_all}
use Rattle.spv_index.specs.declared.positions.Stage.{Stage}
use Rattle.spv_index.specs.Positions.{Stand, in_function}
use Rattle.spv_types.specs.Build.{unless_refused}
use Rattle.spv_types.specs.InterfaceBlocks.{nothing}
use Rattle.spv_sections.specs.declared.sections.Part.{Part}
use Rattle.spv_sections.specs.declared.sections.Part.TheVariants.{Capability, Extension, Import, MemoryModel, EntryPoint, ExecutionMode, Debug, Decoration, Declaration, Value, Line, Nop, Function, Body}
use Rattle.spv_sections.specs.Sections.{fits_stage, may_follow, may_stand, order_breach, order_breaches_behind, part_at, rank}

-- ---- the last section that was reached

abbrev pub reached_by : List Stand → ℕ
reached_by [] = 0
reached_by (s ∷ more) = max (rank (part_at s)) (reached_by more)

max_assoc : (a b c : ℕ) → max a (max b c) ≡ max (max a b) c
max_assoc a b c = omega arith

max_none : (a : ℕ) → max a 0 ≡ max 0 a
max_none a = omega arith

reached_more : (before : List Stand) (s : Stand) → reached_by (before ++ s ∷ []) ≡ max (reached_by before) (rank (part_at s))
reached_more [] s = max_none (rank (part_at s))
reached_more (t ∷ more) s = ap (max (rank (part_at t))) (reached_more more s) ∙ max_assoc (rank (part_at t)) (reached_by more) (rank (part_at s))

le_both : (a b n : ℕ) → (nat_le a n && nat_le b n) ≡ nat_le (max a b) n
le_both a b n = grind (arith, common_steps)

lt_both : (a b n : ℕ) → (nat_lt a n && nat_lt b n) ≡ nat_lt (max a b) n
lt_both a b n = grind (arith, common_steps)

none_later : (n : ℕ) (before : List Stand) → list_all (λ (t : Stand). nat_le (rank (part_at t)) n) before ≡ nat_le (reached_by before) n
none_later n [] = grind (arith, common_steps)
none_later n (t ∷ more) = ap (λ (b : Bool). nat_le (rank (part_at t)) n && b) (none_later n more) ∙ le_both (rank (part_at t)) (reached_by more) n

all_earlier : (n : ℕ) (before : List Stand) → 0 < n → list_all (λ (t : Stand). nat_lt (rank (part_at t)) n) before ≡ nat_lt (reached_by before) n
all_earlier n [] some = grind (arith, common_steps)
all_earlier n (t ∷ more) some = ap (λ (b : Bool). nat_lt (rank (part_at t)) n && b) (all_earlier n more some) ∙ lt_both (rank (part_at t)) (reached_by more) n

all_true : (before : List Stand) → list_all (λ (t : Stand). true) before ≡ true
all_true [] = refl
all_true (t ∷ more) = all_true more

value_later : (local : Bool) (before : List Stand) → list_all (λ (t : Stand). local || nat_le (rank (part_at t)) 8) before ≡ (local || nat_le (reached_by before) 8)
value_later true before = all_true before
value_later false before = none_later 8 before

pub follows_all : (stage : Stage) (part : Part) (before : List Stand) → list_all (λ (t : Stand). may_follow stage part (rank (part_at t))) before ≡ may_follow stage part (reached_by before)
follows_all stage Capability before = none_later 0 before
follows_all stage Extension before = none_later 1 before
follows_all stage Import before = none_later 2 before
follows_all stage MemoryModel before = all_earlier 3 before (omega arith)
follows_all stage EntryPoint before = none_later 4 before
follows_all stage ExecutionMode before = none_later 5 before
follows_all stage Debug before = none_later 6 before
follows_all stage Decoration before = none_later 7 before
follows_all stage Declaration before = none_later 8 before
follows_all stage Value before = value_later (in_function stage) before
follows_all stage Line before = all_true before
follows_all stage Function before = all_true before
follows_all stage Nop before = all_true before
follows_all stage Body before = all_true before

may_stand_by : (before : List Stand) (s : Stand) → may_stand before s ≡ (fits_stage s.position.stage (part_at s) && may_follow s.position.stage (part_at s) (reached_by before))
may_stand_by before s = ap (λ (b : Bool). fits_stage s.position.stage (part_at s) && b) (follows_all s.position.stage (part_at s) before)

-- ---- one instruction after another

-- none of the instructions before number n is refused, and they reached this section
pub record IsOrdered (stood : List Stand) (n reached : ℕ) : Type 0 where
  pub before : List Stand
  pub reached_is : reached ≡ reached_by before
  pub rest : order_breaches_behind [] stood ≡ order_breaches_behind before (drop n stood)

behind_one : (before more : List Stand) (s : Stand) → order_breaches_behind before (s ∷ more)
    ≡ cond (may_stand before s) [] (order_breach s.inst ∷ []) ++ order_breaches_behind (before ++ s ∷ []) more
unfolding order_breaches_behind
behind_one before more s = refl

pub order_refused : (stood : List Stand) (n reached : ℕ) (s : Stand) (part : Part) → drop n stood ≡ s ∷ drop (n + 1) stood → part ≡ part_at s
    → false ≡ (fits_stage s.position.stage part && may_follow s.position.stage part reached)
    → IsOrdered stood n reached → Err (order_breach s.inst) ≡ unless_refused nothing (order_breaches_behind [] stood)
order_refused stood n reached s part e p t h =
    let no : may_stand h.before s ≡ false = may_stand_by h.before s ∙ rw (← p, ← h.reached_is) (sym t) in
    rw (h.rest, e, behind_one h.before (drop (n + 1) stood) s, no) refl

pub order_kept : (stood : List Stand) (n reached more : ℕ) (s : Stand) (part : Part) → drop n stood ≡ s ∷ drop (n + 1) stood → part ≡ part_at s
    → true ≡ (fits_stage s.position.stage part && may_follow s.position.stage part reached) → more ≡ max reached (rank part)
    → IsOrdered stood n reached → IsOrdered stood (n + 1) more
order_kept stood n reached more s part e p t m h =
    let yes : may_stand h.before s ≡ true = may_stand_by h.before s ∙ rw (← p, ← h.reached_is) (sym t) in
    record {
      before = h.before ++ s ∷ [];
      reached_is = m ∙ rw (p, h.reached_is) (sym (reached_more h.before s));
      rest = h.rest ∙ rw (e, behind_one h.before (drop (n + 1) stood) s, yes) refl;
    }

pub order_done : (stood : List Stand) (n reached : ℕ) → length stood ≤ n → IsOrdered stood n reached → Ok nothing ≡ unless_refused nothing (order_breaches_behind [] stood)
unfolding order_breaches_behind
order_done stood n reached l h = rw (h.rest, drop_of_length-le stood l) refl
