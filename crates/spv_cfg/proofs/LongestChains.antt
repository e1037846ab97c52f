-- The heaviest chains of calls are chains, and no chain is heavier; so are the longest; chains through a cycle have any length.
use Rattle.std.proofs.Common.{◌≡◌, ◌<◌, ◌≤◌, ◌+◌, ℕ, zero, suc, List, [], ◌∷◌, ◌++◌, length, take, max, eqb, cond, inl, inr, ◌⊎◌, ⊎_elim, subst, refl, sym, ap, arith, true, false, length-append}
use Rattle.std.proofs.lemmas.Bool.{cases_lt, cases_Bool, eq-eqb, eqb-true}
use Rattle.std.specs.List.{Contains}
use Rattle.spv_cfg.specs.Chains.{IsChain, IsHeaviest, IsLongest, chain_weight, heaviest, limit, longest, most}
use Rattle.spv_cfg.proofs.ChainLemmas.{heaviest-suc, heaviest-zero, longest-heaviest, longest-le, most-le}

pub most-ge : (level : ℕ → ℕ) (f g : ℕ) (calls : List (ℕ × ℕ)) → Contains calls (f, g) → level g ≤ most level f calls
most-ge level f g [] (k, lt, is) = absurd (omega arith)
most-ge level f g (call ∷ calls) (zero, lt, is) =
    let test : eqb call.0 f ≡ true = eq-eqb call.0 f (ap (λ (c : ℕ × ℕ). c.0) is) in
    let here : level call.1 ≡ level g = ap (λ (c : ℕ × ℕ). level c.1) is in
    rw (test, here) (omega arith)
most-ge level f g (call ∷ calls) (suc k, lt, is) =
    let place : k < length calls = omega arith in
    let rest : level g ≤ most level f calls = most-ge level f g calls (k, place, is) in
    omega arith

-- the most is none, or some callee's
abbrev pub Comes : (ℕ → ℕ) → ℕ → List (ℕ × ℕ) → ℕ → Type 0
Comes level f calls m = (m ≡ 0) ⊎ ((g : ℕ) × Contains calls (f, g) × (level g ≡ m))

pub most-comes : (level : ℕ → ℕ) (f : ℕ) (calls : List (ℕ × ℕ)) → Comes level f calls (most level f calls)
most-comes level f [] = inl refl
most-comes level f (call ∷ calls) =
    let P : ℕ → Type 0 = Comes level f (call ∷ calls) in
    let rest : ℕ = most level f calls in
    let later : P rest = ⊎_elim (λ e. inl e)
    (λ (g, has, e). let place : suc has.0 < suc (length calls) = omega (arith, has.1) in inr (g, (suc has.0, place, has.2), e))
    (most-comes level f calls) in
    ⊎_elim
    (λ (yes : eqb call.0 f ≡ true). ⊎_elim
    (λ (lt : level call.1 < rest). let same : max (cond (eqb call.0 f) (level call.1) 0) rest ≡ rest = rw yes (omega arith) in subst P (sym same) later)
    (λ (ge : rest ≤ level call.1).
    let same : max (cond (eqb call.0 f) (level call.1) 0) rest ≡ level call.1 = rw yes (omega arith) in
    let place : 0 < suc (length calls) = omega arith in
    subst P (sym same) (inr (call.1, (0, place, ap (λ (x : ℕ). (x, call.1)) (eqb-true call.0 f yes)), refl)))
    (cases_lt (level call.1) rest))
    (λ (no : eqb call.0 f ≡ false). let same : max (cond (eqb call.0 f) (level call.1) 0) rest ≡ rest = rw no (omega arith) in subst P (sym same) later)
    (cases_Bool (eqb call.0 f))

-- a chain of the heaviest weight
heaviest_is_reached : (k : ℕ) (weigh : ℕ → ℕ) (calls : List (ℕ × ℕ)) (f : ℕ)
    → (chain : List ℕ) × IsChain calls f chain × (chain_weight weigh f chain ≡ heaviest (suc k) weigh calls f)
heaviest_is_reached zero weigh calls f =
    let none : most (λ g. heaviest zero weigh calls g) f calls ≤ 0 = most-le (λ g. heaviest zero weigh calls g) 0 f calls (λ g. rw heaviest-zero (omega arith)) in
    ([], tt, rw heaviest-suc (omega arith))
heaviest_is_reached (suc k) weigh calls f =
    ⊎_elim
    (λ (none : most (λ g. heaviest (suc k) weigh calls g) f calls ≡ 0). ([], tt, rw heaviest-suc (omega arith)))
    (λ (g, has, same).
    let behind = heaviest_is_reached k weigh calls g in
    (g ∷ behind.0, (has, behind.1), rw heaviest-suc (omega (arith, behind.2, same))))
    (most-comes (λ g. heaviest (suc k) weigh calls g) f calls)

-- no chain is heavier
chain_is_no_heavier : (k : ℕ) (weigh : ℕ → ℕ) (calls : List (ℕ × ℕ)) (f : ℕ) (chain : List ℕ) → IsChain calls f chain → suc (length chain) ≤ k
    → chain_weight weigh f chain ≤ heaviest k weigh calls f
chain_is_no_heavier zero weigh calls f chain is_chain le = absurd (omega arith)
chain_is_no_heavier (suc k) weigh calls f [] is_chain le = rw heaviest-suc (omega arith)
chain_is_no_heavier (suc k) weigh calls f (g ∷ more) (has, rest) le =
    let few : suc (length more) ≤ k = omega arith in
    let behind : chain_weight weigh g more ≤ heaviest k weigh calls g = chain_is_no_heavier k weigh calls g more rest few in
    let callee : heaviest k weigh calls g ≤ most (λ h. heaviest k weigh calls h) f calls = most-ge (λ h. heaviest k weigh calls h) f g calls has in
    rw heaviest-suc (omega arith)

-- where each function weighs 1, a chain weighs its length
weight_is_length : (f : ℕ) (chain : List ℕ) → chain_weight (λ g. 1) f chain ≡ suc (length chain)
weight_is_length f [] = refl
weight_is_length f (g ∷ more) = let rest = weight_is_length g more in omega arith

chain_is_bounded : (k : ℕ) (calls : List (ℕ × ℕ)) (f : ℕ) (chain : List ℕ) → IsChain calls f chain → suc (length chain) ≤ k → suc (length chain) ≤ longest k calls f
chain_is_bounded k calls f chain is_chain le =
    let bound = chain_is_no_heavier k (λ g. 1) calls f chain is_chain le in
    rw (longest-heaviest, ← weight_is_length f chain) bound

IsChain-take : (n : ℕ) (calls : List (ℕ × ℕ)) (f : ℕ) (chain : List ℕ) → IsChain calls f chain → IsChain calls f (take n chain)
IsChain-take zero calls f chain is_chain = tt
IsChain-take (suc n) calls f [] is_chain = tt
IsChain-take (suc n) calls f (g ∷ more) (has, rest) = (has, IsChain-take n calls g more rest)

length-take_enough : (n : ℕ) (chain : List ℕ) → n ≤ length chain → length (take n chain) ≡ n
length-take_enough zero chain le = refl
length-take_enough (suc n) [] le = absurd (omega arith)
length-take_enough (suc n) (g ∷ more) le = let fewer : n ≤ length more = omega arith in ap suc (length-take_enough n more fewer)

pub long_is_refused : (calls : List (ℕ × ℕ)) (f : ℕ) (chain : List ℕ) → IsChain calls f chain → 64 < suc (length chain) → 64 < longest limit calls f
long_is_refused calls f chain is_chain lt =
    let enough : 64 ≤ length chain = omega arith in
    let whole : length (take 64 chain) ≡ 64 = length-take_enough 64 chain enough in
    let few : suc (length (take 64 chain)) ≤ 65 = omega arith in
    let bound = chain_is_bounded 65 calls f (take 64 chain) (IsChain-take 64 calls f chain is_chain) few in
    omega arith

pub heaviest_is_heaviest : (weigh : ℕ → ℕ) (calls : List (ℕ × ℕ)) (f : ℕ) → longest limit calls f ≤ 64 → IsHeaviest weigh calls f (heaviest limit weigh calls f)
heaviest_is_heaviest weigh calls f le =
    let reached = heaviest_is_reached 64 weigh calls f in
    record {
      chain = reached.0;
      is_chain = reached.1;
      weight = reached.2;
      most_weight = λ other is_other. ⊎_elim
          (λ (long : 64 < suc (length other)). let refused = long_is_refused calls f other is_other long in absurd (omega arith))
          (λ (few : suc (length other) ≤ 64). let fewer : suc (length other) ≤ 65 = omega arith in chain_is_no_heavier 65 weigh calls f other is_other fewer)
          (cases_lt 64 (suc (length other)));
    }

pub longest_is_longest : (calls : List (ℕ × ℕ)) (f : ℕ) → longest limit calls f ≤ 64 → IsLongest calls f (longest limit calls f)
longest_is_longest calls f le =
    let heaviest_is = heaviest_is_heaviest (λ g. 1) calls f le in
    record {
      chain = heaviest_is.chain;
      is_chain = heaviest_is.is_chain;
      functions = rw (longest-heaviest, ← weight_is_length f heaviest_is.chain) heaviest_is.weight;
      most_functions = λ other is_other. rw (longest-heaviest, ← weight_is_length f other) (heaviest_is.most_weight other is_other);
    }

pub long_is_reached : (calls : List (ℕ × ℕ)) (f : ℕ) → 64 < longest limit calls f → (chain : List ℕ) × IsChain calls f chain × (suc (length chain) ≡ 65)
long_is_reached calls f lt =
    let reached = heaviest_is_reached 64 (λ g. 1) calls f in
    let bound = longest-le 65 calls f in
    let same = longest-heaviest 65 calls f in
    let functions = weight_is_length f reached.0 in
    (reached.0, reached.1, omega (arith, reached.2, bound))

-- ---- cycles

IsChain-join : (calls : List (ℕ × ℕ)) (f g : ℕ) (front rest : List ℕ) → IsChain calls f (front ++ g ∷ []) → IsChain calls g rest → IsChain calls f (front ++ g ∷ rest)
IsChain-join calls f g [] rest (has, none) behind = (has, behind)
IsChain-join calls f g (h ∷ front) rest (has, more) behind = (has, IsChain-join calls h g front rest more behind)

-- a cycle, n times
abbrev times : ℕ → List ℕ → ℕ → List ℕ
times zero round g = []
times (suc n) round g = round ++ g ∷ times n round g

IsChain-times : (n : ℕ) (calls : List (ℕ × ℕ)) (g : ℕ) (round : List ℕ) → IsChain calls g (round ++ g ∷ []) → IsChain calls g (times n round g)
IsChain-times zero calls g round cycle = tt
IsChain-times (suc n) calls g round cycle = IsChain-join calls g g round (times n round g) cycle (IsChain-times n calls g round cycle)

length-times : (n : ℕ) (round : List ℕ) (g : ℕ) → n ≤ length (times n round g)
length-times zero round g = omega arith
length-times (suc n) round g =
    let rest = length-times n round g in
    let joined : length (round ++ g ∷ times n round g) ≡ length round + suc (length (times n round g)) = length-append round (g ∷ times n round g) in
    omega arith

pub cycle_is_refused : (calls : List (ℕ × ℕ)) (f g : ℕ) (front round : List ℕ) → IsChain calls f (front ++ g ∷ []) → IsChain calls g (round ++ g ∷ [])
    → 64 < longest limit calls f
cycle_is_refused calls f g front round reaches cycle =
    let rest : List ℕ = times 64 round g in
    let many : 64 ≤ length rest = length-times 64 round g in
    let joined : length (front ++ g ∷ rest) ≡ length front + suc (length rest) = length-append front (g ∷ rest) in
    let long : 64 < suc (length (front ++ g ∷ rest)) = omega arith in
    long_is_refused calls f (front ++ g ∷ rest) (IsChain-join calls f g front rest reaches (IsChain-times 64 calls g round cycle)) long
