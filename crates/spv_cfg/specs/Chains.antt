-- Chains of calls, from function to called function by their numbers: how heavy, and how long, they become.
use Rattle.std.specs.Prelude.{◌≡◌, ◌≤◌, ◌+◌, length, ℕ, zero, suc, List, [], ◌∷◌, ◌==◌, if◌then◌else◌, max}
use Rattle.std.specs.List.{Contains}

-- the most that a callee of a function has
abbrev pub most : (ℕ → ℕ) → ℕ → List (ℕ × ℕ) → ℕ
most level f [] = 0
most level f (call ∷ calls) = max (if call.0 == f then level call.1 else 0) (most level f calls)

-- each function has a weight: that of the heaviest chain of calls from a function, of the chains of at most k functions
unfoldable pub heaviest : ℕ → (ℕ → ℕ) → List (ℕ × ℕ) → ℕ → ℕ
heaviest zero weigh calls f = 0
heaviest (suc k) weigh calls f = weigh f + most (λ g. heaviest k weigh calls g) f calls

-- the length of the longest of these chains: its weight where each function weighs 1
unfoldable pub longest : ℕ → List (ℕ × ℕ) → ℕ → ℕ
longest k calls f = heaviest k (λ g. 1) calls f

-- a chain of more than 64 functions is one too many; a cycle gives chains of any length
abbrev pub limit : ℕ
limit = 65

-- the lengths of the longest chains from the functions from number k on, as many as n
abbrev pub lengths : List (ℕ × ℕ) → ℕ → ℕ → List ℕ
lengths calls k zero = []
lengths calls k (suc n) = longest limit calls k ∷ lengths calls (suc k) n

-- ---- what heaviest and longest mean

-- functions after a first one, each of which the one before calls
abbrev pub IsChain : List (ℕ × ℕ) → ℕ → List ℕ → Type 0
IsChain calls f [] = Unit {0}
IsChain calls f (g ∷ more) = Contains calls (f, g) × IsChain calls g more

-- the weight of a chain: of a function, and of those that come after it
abbrev pub chain_weight : (ℕ → ℕ) → ℕ → List ℕ → ℕ
chain_weight weigh f [] = weigh f
chain_weight weigh f (g ∷ more) = weigh f + chain_weight weigh g more

-- a chain from a function has weight n, and no chain from it has more
pub record IsHeaviest (weigh : ℕ → ℕ) (calls : List (ℕ × ℕ)) (f n : ℕ) : Type 0 where
  pub chain : List ℕ
  pub is_chain : IsChain calls f chain
  pub weight : chain_weight weigh f chain ≡ n
  pub most_weight : (other : List ℕ) → IsChain calls f other → chain_weight weigh f other ≤ n

-- a chain from a function has n functions with this one, and no chain from it has more
pub record IsLongest (calls : List (ℕ × ℕ)) (f n : ℕ) : Type 0 where
  pub chain : List ℕ
  pub is_chain : IsChain calls f chain
  pub functions : suc (length chain) ≡ n
  pub most_functions : (other : List ℕ) → IsChain calls f other → suc (length other) ≤ n
