-- Cells of functions, one more at a time, and of chains of calls.
use Rattle.std.proofs.Common.{◌≡◌, ◌<◌, ◌≤◌, ◌+◌, ◌-◌, ◌^◌, ℕ, List, [], ◌∷◌, length, get_or, drop, set, min, eqb, cond, refl, ◌∙◌, arith, rules, true, false, IfSome, Option, Some, None}
use Rattle.std.specs.List.{All, flat_map}
use Rattle.std.proofs.lemmas.Grind.{common_steps}
use Rattle.std.proofs.lemmas.List.Elements.{All-nil, All-append}
use Rattle.std.proofs.lemmas.List.{get_or_read}
use Rattle.spv_base.specs.Entries.{reads}
use Rattle.spv_base.specs.declared.instructions.Inst.{Inst}
use Rattle.spv_base.specs.Saturation.{saturated}
use Rattle.spv_types.specs.Types.{Types}
use Rattle.spv_index.specs.Positions.{Stand, in_function, stands_of}
use Rattle.spv_index.proofs.Exports.{drop_back}
use Rattle.spv_cfg.specs.Calls.{Calls, calls_in, calls_of, functions_of, numbered}
use Rattle.spv_cfg.specs.Chains.{heaviest, limit}
use Rattle.spv_valid.specs.Stack.{cells_by_function, kept_by, kept_cells, kept_in, stack_cells, weight}

pub weight-nil : (f : ℕ) → weight [] f ≡ 0
unfolding weight
weight-nil f = refl

weight-cons : (e : ℕ × ℕ) (es : List (ℕ × ℕ)) (f : ℕ) → weight (e ∷ es) f ≡ cond (eqb e.0 f) e.1 0 + weight es f
unfolding weight
weight-cons e es f = refl

-- ---- the cells of functions

kept_by-within : (n : ℕ) (function cells : Option ℕ) → IfSome function (λ k. k < n) → All (λ c. c.0 < n) (kept_by function cells)
kept_by-within n None cells small = λ k d lt. absurd (omega arith)
kept_by-within n (Some f) None small = λ k d lt. absurd (omega arith)
kept_by-within n (Some f) (Some c) small = search rules

-- all cells are of functions
pub kept_within : (ts : Types) (numbers : List (ℕ × ℕ)) (n : ℕ) → ((id : ℕ) → IfSome (reads id numbers) (λ k. k < n)) → (stood : List Stand)
    → All (λ c. c.0 < n) (flat_map (kept_in ts numbers) stood)
kept_within ts numbers n small [] = All-nil (λ (c : ℕ × ℕ). c.0 < n)
kept_within ts numbers n small (s ∷ more) =
    let P : ℕ × ℕ → Type 0 = λ c. c.0 < n in
    let by : List (ℕ × ℕ) = kept_by (reads s.position.function numbers) (kept_cells ts s.inst) in
    let cells = kept_by-within n (reads s.position.function numbers) (kept_cells ts s.inst) (small s.position.function) in
    let here : All P (kept_in ts numbers s)
    = elim (in_function s.position.stage) as (λ b. All P (cond b by [])) [ true ↦ cells | false ↦ All-nil P ] in
    All-append P (kept_in ts numbers s) (flat_map (kept_in ts numbers) more) here (kept_within ts numbers n small more)

-- one number more in a list of sums that stop at m
set_sum : (weights : List ℕ) (m a f v x rest : ℕ) → a < length weights → get_or weights f 0 ≡ min rest m → v ≡ min (get_or weights a 0 + x) m
    → get_or (set weights a v) f 0 ≡ min (cond (eqb a f) x 0 + rest) m
set_sum weights m a f v x rest lt here is = grind (arith, common_steps)

pub weights_more : (kept : List (ℕ × ℕ)) (weights : List ℕ) (i v n : ℕ) → 0 < i → i ≤ length kept → length weights ≡ n → All (λ cells. cells.0 < n) kept
    → ((f : ℕ) → f < n → get_or weights f 0 ≡ saturated (weight (drop i kept) f))
    → v ≡ saturated (get_or weights (get_or kept (i - 1) (0, 0)).0 0 + (get_or kept (i - 1) (0, 0)).1)
    → (f : ℕ) → f < n → get_or (set weights (get_or kept (i - 1) (0, 0)).0 v) f 0 ≡ saturated (weight (drop (i - 1) kept) f)
weights_more kept weights i v n some le len within so_far is f lt =
    let cells : ℕ × ℕ = get_or kept (i - 1) (0, 0) in
    let place : i - 1 < length kept = omega arith in
    let bound : cells.0 < n = within (i - 1) (0, 0) place in
    let inside : cells.0 < length weights = rw len bound in
    rw (drop_back kept i (0, 0) some le, weight-cons cells (drop i kept) f)
    (set_sum weights (2 ^ 64 - 1) cells.0 f v cells.1 (weight (drop i kept) f) inside (so_far f lt) is)

-- ---- the cells of an entry point's chains

pub read_below : (o : Option ℕ) (k n : ℕ) → o ≡ Some k → IfSome o (λ m. m < n) → k < n
read_below o k n is small = rw is at small

pub stack_cells-some : (ts : Types) (insts : List Inst) (id k v : ℕ) (xs : List ℕ) (calls : Calls)
    → calls ≡ calls_in insts → reads id (numbered 0 calls.functions) ≡ Some k → k < length calls.functions → length xs ≡ length calls.functions
    → ((f : ℕ) → f < length calls.functions → get_or xs f 0 ≡ saturated (heaviest limit (weight (cells_by_function ts calls (stands_of insts))) calls.list f))
    → v ≡ get_or xs k v → v ≡ stack_cells ts insts id
unfolding stack_cells
stack_cells-some ts insts id k v xs calls calls_are read lt len heaviest_are is =
    let inside : k < length xs = rw len lt in
    let at : v ≡ get_or xs k 0 = get_or_read xs k v inside is 0 in
    let read_here : reads id (numbered 0 (functions_of insts)) ≡ Some k = rw calls_are at read in
    let here : get_or xs k 0 ≡ saturated (heaviest limit (weight (cells_by_function ts (calls_in insts) (stands_of insts))) (calls_of insts) k)
    = heaviest_are k lt ∙ rw calls_are refl in
    at ∙ here ∙ rw read_here refl
