-- Terms, each kept once: a node is a number or a pair of nodes, by the places of these in a list.
use Rattle.std.specs.Prelude.{◌≡◌, ℕ, List, Option, Some, None, slice_get}
use Rattle.spv_bodies.specs.declared.terms.Node.{Node}
use Rattle.spv_bodies.specs.declared.terms.Node.TheVariants.{Number as Single, Pair as Double}
use Rattle.spv_bodies.specs.Matching.{Number, Pair, Term}

-- the nodes at a place and below make a term
abbrev pub Makes : List Node → ℕ → Term → Type 0
Makes nodes n (Number k) = slice_get nodes n ≡ Some (Single k)
Makes nodes n (Pair s t) = (x : ℕ) × (y : ℕ) × (slice_get nodes n ≡ Some (Double x y)) × Makes nodes x s × Makes nodes y t

-- a place has what an option is, or none has nothing
abbrev pub IsClass : List Node → Option ℕ → Option Term → Type 0
IsClass nodes None t = t ≡ None
IsClass nodes (Some n) t = (u : Term) × (t ≡ Some u) × Makes nodes n u

-- what stood at each place stands there still
abbrev pub Grows : List Node → List Node → Type 0
Grows old new = (n : ℕ) (k : Node) → slice_get old n ≡ Some k → slice_get new n ≡ Some k

-- no node stands at two places
abbrev pub AreDistinct : List Node → Type 0
AreDistinct nodes = (m n : ℕ) (k : Node) → slice_get nodes m ≡ Some k → slice_get nodes n ≡ Some k → m ≡ n
