-- The keys of decorations, in their order.
use Rattle.std.specs.Prelude.{ℕ, ◌==◌, ◌&&◌, Bool, false, Option, None, Some}
use Rattle.std.specs.declared.cmp.Ordering.{Ordering}
use Rattle.std.specs.Ordering.{nat_cmp, ordering_then}

abbrev pub pair_cmp : ℕ × ℕ → ℕ × ℕ → Ordering
pair_cmp p q = ordering_then (nat_cmp p.0 q.0) (nat_cmp p.1 q.1)

abbrev pub triple_cmp : ℕ × ℕ × ℕ → ℕ × ℕ × ℕ → Ordering
triple_cmp p q = ordering_then (ordering_then (nat_cmp p.0 q.0) (nat_cmp p.1 q.1)) (nat_cmp p.2 q.2)

-- a key is there, and is this one
abbrev pub is_pair : ℕ → ℕ → Option (ℕ × ℕ) → Bool
is_pair a b None = false
is_pair a b (Some p) = p.0 == a && p.1 == b

abbrev pub is_triple : ℕ → ℕ → ℕ → Option (ℕ × ℕ × ℕ) → Bool
is_triple a b c None = false
is_triple a b c (Some p) = (p.0 == a && p.1 == b) && p.2 == c
