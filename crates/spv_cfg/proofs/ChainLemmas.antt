-- Chains of calls, one function more at a time.
use Rattle.std.proofs.Common.{◌≡◌, ◌<◌, ◌≤◌, ◌+◌, ◌-◌, ◌^◌, drop, set, append_assoc, add-one, ℕ, zero, suc, List, [], ◌∷◌, length, get_or, replicate, max, min, eqb, cond, ◌++◌, ◌&&◌, refl, sym, ap, ◌∙◌, arith, rules, true, false, IfSome, Some, None, Option}
use Rattle.std.specs.List.{All, flat_map}
use Rattle.std.specs.Option.{option_and_then}
use Rattle.std.proofs.lemmas.Grind.{common_steps}
use Rattle.std.proofs.lemmas.List.{append-nil, drop_all, drop_more, get_or-replicate, length-replicate}
use Rattle.spv_base.specs.Lowest.{lower, lowest}
use Rattle.spv_base.proofs.Exports.{lower_assoc, lower_none, lowest-append, unsaturated}
use Rattle.std.proofs.lemmas.List.Elements.{All-nil, All-append, All-head, All-tail}
use Rattle.spv_base.specs.Entries.{reads}
use Rattle.spv_base.specs.declared.instructions.Inst.{Inst}
use Rattle.spv_base.specs.Saturation.{saturated}
use Rattle.spv_cfg.specs.Calls.{numbered, call_between, call_of, callee_of, depths, over, too_deep}
use Rattle.spv_cfg.specs.Chains.{heaviest, lengths, limit, longest, most}
use Rattle.spv_index.specs.Operands.{id_operand}
use Rattle.spv_index.specs.Positions.{Stand, in_function}
use Rattle.spv_index.proofs.Exports.{drop_back}

pub heaviest-zero : (weigh : ℕ → ℕ) (calls : List (ℕ × ℕ)) (f : ℕ) → heaviest zero weigh calls f ≡ 0
unfolding heaviest
heaviest-zero weigh calls f = refl

pub heaviest-suc : (k : ℕ) (weigh : ℕ → ℕ) (calls : List (ℕ × ℕ)) (f : ℕ) → heaviest (suc k) weigh calls f ≡ weigh f + most (λ g. heaviest k weigh calls g) f calls
unfolding heaviest
heaviest-suc k weigh calls f = refl

-- the longest chain is the heaviest where each function weighs 1
pub longest-heaviest : (k : ℕ) (calls : List (ℕ × ℕ)) (f : ℕ) → longest k calls f ≡ heaviest k (λ g. 1) calls f
unfolding longest
longest-heaviest k calls f = refl

-- a bound on all callees is one on the most
pub most-le : (level : ℕ → ℕ) (bound f : ℕ) (calls : List (ℕ × ℕ)) → ((g : ℕ) → level g ≤ bound) → most level f calls ≤ bound
most-le level bound f [] small = omega arith
most-le level bound f (call ∷ calls) small =
    let rest = most-le level bound f calls small in
    let here = small call.1 in
    elim (eqb call.0 f) as (λ b. max (cond b (level call.1) 0) (most level f calls) ≤ bound) [ true ↦ omega arith | false ↦ omega arith ]

heaviest-le : (k : ℕ) (calls : List (ℕ × ℕ)) (f : ℕ) → heaviest k (λ g. 1) calls f ≤ k
heaviest-le zero calls f = rw heaviest-zero (omega arith)
heaviest-le (suc k) calls f =
    let rest = most-le (λ g. heaviest k (λ g. 1) calls g) k f calls (λ g. heaviest-le k calls g) in
    rw heaviest-suc (omega arith)

pub longest-le : (k : ℕ) (calls : List (ℕ × ℕ)) (f : ℕ) → longest k calls f ≤ k
longest-le k calls f = rw longest-heaviest (heaviest-le k calls f)

-- what holds of the calls' two functions
abbrev pub Within : ℕ → List (ℕ × ℕ) → Type 0
Within n calls = All (λ call. (call.0 < n) × (call.1 < n)) calls

-- lengths by number are the list of them
lengths-from_get_or : (calls : List (ℕ × ℕ)) (k : ℕ) (xs : List ℕ) → ((f : ℕ) → f < length xs → get_or xs f 0 ≡ longest limit calls (k + f))
    → xs ≡ lengths calls k (length xs)
lengths-from_get_or calls k [] same = refl
lengths-from_get_or calls k (x ∷ xs) same =
    let first : x ≡ longest limit calls k = let zero_lt : 0 < suc (length xs) = omega arith in let none : k + 0 ≡ k = omega arith in rw none at (same 0 zero_lt) in
    let rest : xs ≡ lengths calls (suc k) (length xs)
    = lengths-from_get_or calls (suc k) xs (λ f lt. let more : suc f < suc (length xs) = omega arith in let moved : k + suc f ≡ suc k + f = omega arith in rw moved at (same (suc f) more)) in
    rw (← first, ← rest) refl

-- numbers of functions are below how many there are
pub numbered-small : (k n : ℕ) (fs : List (ℕ × ℕ)) (id : ℕ) → k + length fs ≤ n → IfSome (reads id (numbered k fs)) (λ number. number < n)
numbered-small k n [] id le = tt
numbered-small k n (f ∷ fs) id le =
    let here : k < n = omega arith in
    let room : suc k + length fs ≤ n = omega arith in
    let rest = numbered-small (suc k) n fs id room in
    elim (eqb f.0 id) as (λ b. IfSome (cond b (Some k) (reads id (numbered (suc k) fs))) (λ number. number < n)) [ true ↦ here | false ↦ rest ]

pub call_between-within : (n : ℕ) (caller callee : Option ℕ) → IfSome caller (λ k. k < n) → IfSome callee (λ k. k < n) → Within n (call_between caller callee)
call_between-within n None callee one other = λ k d lt. absurd (omega arith)
call_between-within n (Some a) None one other = λ k d lt. absurd (omega arith)
call_between-within n (Some a) (Some b) one other = search rules

-- the function that a call names is one of them
callee_within : (numbers : List (ℕ × ℕ)) (n : ℕ) → ((id : ℕ) → IfSome (reads id numbers) (λ k. k < n)) → (inst : Inst) → IfSome (callee_of numbers inst) (λ k. k < n)
callee_within numbers n small inst = by_operand (id_operand inst 0)
  where
    by_operand : (o : Option ℕ) → IfSome (option_and_then (λ id. reads id numbers) o) (λ k. k < n)
    by_operand None = tt
    by_operand (Some id) = small id

-- all calls are between functions
pub calls_within : (numbers : List (ℕ × ℕ)) (n : ℕ) → ((id : ℕ) → IfSome (reads id numbers) (λ k. k < n)) → (stood : List Stand)
    → Within n (flat_map (call_of numbers) stood)
calls_within numbers n small [] = All-nil (λ call. (call.0 < n) × (call.1 < n))
calls_within numbers n small (s ∷ more) =
    let P : ℕ × ℕ → Type 0 = λ call. (call.0 < n) × (call.1 < n) in
    let call = call_between-within n (reads s.position.function numbers) (callee_of numbers s.inst) (small s.position.function) (callee_within numbers n small s.inst) in
    let between : List (ℕ × ℕ) = call_between (reads s.position.function numbers) (callee_of numbers s.inst) in
    let here : Within n (call_of numbers s)
    = elim (eqb s.inst.op 57 && in_function s.position.stage) as (λ b. Within n (cond b between [])) [ true ↦ call | false ↦ All-nil P ] in
    All-append P (call_of numbers s) (flat_map (call_of numbers) more) here (calls_within numbers n small more)

-- ---- steps of the loops

-- one call more
set_most : (called : List ℕ) (a f v x rest : ℕ) → a < length called → get_or called f 0 ≡ rest → v ≡ max (get_or called a 0) x
    → get_or (set called a v) f 0 ≡ max (cond (eqb a f) x 0) rest
set_most called a f v x rest lt here is = grind (arith, common_steps)

pub called_more : (calls : List (ℕ × ℕ)) (xs called : List ℕ) (i v : ℕ) → 0 < i → i ≤ length calls → length called ≡ length xs → Within (length xs) calls
    → ((f : ℕ) → f < length xs → get_or called f 0 ≡ most (λ g. get_or xs g 0) f (drop i calls))
    → v ≡ max (get_or called (get_or calls (i - 1) (0, 0)).0 0) (get_or xs (get_or calls (i - 1) (0, 0)).1 0)
    → (f : ℕ) → f < length xs → get_or (set called (get_or calls (i - 1) (0, 0)).0 v) f 0 ≡ most (λ g. get_or xs g 0) f (drop (i - 1) calls)
called_more calls xs called i v some le len within so_far is f lt =
    let call : ℕ × ℕ = get_or calls (i - 1) (0, 0) in
    let place : i - 1 < length calls = omega arith in
    let bounds : (call.0 < length xs) × (call.1 < length xs) = within (i - 1) (0, 0) place in
    let inside : call.0 < length called = rw len bounds.0 in
    rw (drop_back calls i (0, 0) some le)
    (set_most called call.0 f v (get_or xs call.1 0) (most (λ g. get_or xs g 0) f (drop i calls)) inside (so_far f lt) is)

-- the most of numbers that stop at m stops there too
most_saturated : (one other : ℕ → ℕ) (m n f : ℕ) (calls : List (ℕ × ℕ)) → ((g : ℕ) → g < n → one g ≡ min (other g) m) → Within n calls
    → most one f calls ≡ min (most other f calls) m
most_saturated one other m n f [] same within = omega arith
most_saturated one other m n f (call ∷ calls) same within =
    let P : ℕ × ℕ → Type 0 = λ c. (c.0 < n) × (c.1 < n) in
    let here : one call.1 ≡ min (other call.1) m = same call.1 (All-head P call calls within).1 in
    let rest : most one f calls ≡ min (most other f calls) m = most_saturated one other m n f calls same (All-tail P call calls within) in
    rw (here, rest) (test (eqb call.0 f) (other call.1) (most other f calls))
  where
    test : (b : _) (x y : ℕ) → max (cond b (min x m) 0) (min y m) ≡ min (max (cond b x 0) y) m
    test b x y = grind arith

saturated_sum : (m a b : ℕ) → min (min a m + min b m) m ≡ min (a + b) m
saturated_sum m a b = omega arith

-- chains of one function more
pub heavier : (calls : List (ℕ × ℕ)) (weigh : ℕ → ℕ) (weights xs called ys : List ℕ) (k : ℕ) → length xs ≡ length weights → Within (length weights) calls
    → ((f : ℕ) → f < length weights → get_or weights f 0 ≡ saturated (weigh f))
    → ((f : ℕ) → f < length weights → get_or xs f 0 ≡ saturated (heaviest k weigh calls f))
    → ((f : ℕ) → f < length xs → get_or called f 0 ≡ most (λ g. get_or xs g 0) f calls)
    → ((f : ℕ) → f < length weights → get_or ys f 0 ≡ saturated (get_or weights f 0 + get_or called f 0))
    → (f : ℕ) → f < length weights → get_or ys f 0 ≡ saturated (heaviest (k + 1) weigh calls f)
heavier calls weigh weights xs called ys k len within weights_are so_far called_are sums_are f lt =
    let inside : f < length xs = rw len lt in
    let most_is = most_saturated (λ g. get_or xs g 0) (λ g. heaviest k weigh calls g) (2 ^ 64 - 1) (length weights) f calls so_far within in
    rw (add-one, heaviest-suc k weigh calls f, sums_are f lt, weights_are f lt, called_are f inside, most_is)
    (saturated_sum (2 ^ 64 - 1) (weigh f) (most (λ g. heaviest k weigh calls g) f calls))

-- weights of 1 give lengths
pub weights_are_lengths : (calls : List (ℕ × ℕ)) (ones xs : List ℕ) (n : ℕ) → ones ≡ replicate n 1
    → ((weigh : ℕ → ℕ) → ((f : ℕ) → f < length ones → get_or ones f 0 ≡ saturated (weigh f))
    → (f : ℕ) → f < length ones → get_or xs f 0 ≡ saturated (heaviest limit weigh calls f))
    → (f : ℕ) → f < n → get_or xs f 0 ≡ longest limit calls f
weights_are_lengths calls ones xs n are weighed f lt =
    let all : length ones ≡ n = ap length are ∙ length-replicate n 1 in
    let one : (g : ℕ) → g < length ones → get_or ones g 0 ≡ 1 = λ g inside. let below : g < n = omega arith in ap (λ (l : List ℕ). get_or l g 0) are ∙ get_or-replicate n g 1 0 below in
    let here : f < length ones = omega arith in
    let few = heaviest-le limit calls f in
    let fits : heaviest limit (λ g. 1) calls f < 2 ^ 64 = omega arith in
    rw longest-heaviest (weighed (λ g. 1) one f here ∙ unsaturated _ fits)

pub lengths_all : (calls : List (ℕ × ℕ)) (xs : List ℕ) (n : ℕ) → length xs ≡ n → ((f : ℕ) → f < n → get_or xs f 0 ≡ longest limit calls f) → xs ≡ lengths calls 0 n
lengths_all calls xs n len are =
    lengths-from_get_or calls 0 xs (λ f lt. let inside : f < n = omega arith in let none : 0 + f ≡ f = omega arith in rw none (are f inside))
    ∙ ap (λ (m : ℕ). lengths calls 0 m) len

pub depths_more : (front total : List (ℕ × ℕ)) (fs : List (ℕ × ℕ)) (ns : List ℕ) (k : ℕ) → k < length fs → length ns ≡ length fs
    → front ++ depths (drop k fs) (drop k ns) ≡ total
    → (front ++ ((get_or fs k (0, 0)).0, get_or ns k 0) ∷ []) ++ depths (drop (k + 1) fs) (drop (k + 1) ns) ≡ total
depths_more front total fs ns k lt len so_far =
    let inside : k < length ns = omega arith in
    let step : depths (drop k fs) (drop k ns) ≡ ((get_or fs k (0, 0)).0, get_or ns k 0) ∷ depths (drop (k + 1) fs) (drop (k + 1) ns)
    = rw (drop_more fs k (0, 0) lt, drop_more ns k 0 inside) refl in
    append_assoc front _ _ ∙ sym (ap (λ (rest : List (ℕ × ℕ)). front ++ rest) step) ∙ so_far

pub depths_all : (front total : List (ℕ × ℕ)) (fs : List (ℕ × ℕ)) (ns : List ℕ) (k : ℕ) → length fs ≤ k
    → front ++ depths (drop k fs) (drop k ns) ≡ total → front ≡ total
depths_all front total fs ns k le so_far =
    let past : drop k fs ≡ [] = drop_all k fs le in
    sym (append-nil front) ∙ (rw past at so_far)

pub too_deep_more : (least next more total : Option ℕ) (fs : List (ℕ × ℕ)) (ns : List ℕ) (k : ℕ) → k < length fs → length ns ≡ length fs
    → next ≡ lowest (over (get_or fs k (0, 0)).1 (get_or ns k 0)) → more ≡ lower least next
    → lower least (lowest (too_deep (drop k fs) (drop k ns))) ≡ total
    → lower more (lowest (too_deep (drop (k + 1) fs) (drop (k + 1) ns))) ≡ total
too_deep_more least next more total fs ns k lt len next_is more_is so_far =
    let inside : k < length ns = omega arith in
    let here : List ℕ = over (get_or fs k (0, 0)).1 (get_or ns k 0) in
    let rest : List ℕ = too_deep (drop (k + 1) fs) (drop (k + 1) ns) in
    let step : too_deep (drop k fs) (drop k ns) ≡ here ++ rest = rw (drop_more fs k (0, 0) lt, drop_more ns k 0 inside) refl in
    let joined : lowest (here ++ rest) ≡ lower (lowest here) (lowest rest) = lowest-append here rest in
    let front : lower least (lowest (here ++ rest)) ≡ total = rw step at so_far in
    rw (more_is, next_is, lower_assoc least (lowest here) (lowest rest), ← joined) front

pub too_deep_all : (least total : Option ℕ) (fs : List (ℕ × ℕ)) (ns : List ℕ) (k : ℕ) → length fs ≤ k
    → lower least (lowest (too_deep (drop k fs) (drop k ns))) ≡ total → least ≡ total
too_deep_all least total fs ns k le so_far =
    let past : drop k fs ≡ [] = drop_all k fs le in
    let ended : lower least None ≡ total = rw past at so_far in
    sym (lower_none least) ∙ ended
