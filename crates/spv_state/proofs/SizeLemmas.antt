-- The most cells of some registers.
use Rattle.std.proofs.Common.{◌≡◌, ◌∙◌, inl, inr, ℕ, ◌+◌, ◌<◌, ◌≤◌, List, Some, sym, ap, subst, arith, slice_get}
use Rattle.std.proofs.lemmas.Bool.{cases_lt}
use Rattle.std.specs.Prelude.{max}
use Rattle.spv_frame.specs.Registers.{Planned, Rooms}

-- none of the first n registers has more cells
abbrev pub AreWithin : Rooms → ℕ → ℕ → Type 0
AreWithin rs n most = (k : ℕ) (r : ℕ × ℕ) → k < n → slice_get rs k ≡ Some r → r.1 ≤ most

-- none of the registers of the first n plans has more cells
abbrev pub PlansAreWithin : List Planned → ℕ → ℕ → Type 0
PlansAreWithin ps n most = (m k : ℕ) (p : Planned) (r : ℕ × ℕ) → m < n → slice_get ps m ≡ Some p → slice_get p.values k ≡ Some r → r.1 ≤ most

pub plan_next : (ps : List Planned) (n most own new : ℕ) (p : Planned) → PlansAreWithin ps n most → slice_get ps n ≡ Some p → ((k : ℕ) (r : ℕ × ℕ) → slice_get p.values k ≡ Some r → r.1 ≤ own) → new ≡ max most own
    → PlansAreWithin ps (n + 1) new
plan_next ps n most own new p so_far here within is m k q r inside at register =
    elim (cases_lt m n) [
      | inl before ↦ (let old : r.1 ≤ most = so_far m k q r before at register in omega (arith, is, old))
      | inr last ↦ (
          let same : m ≡ n = omega (arith, inside, last) in
          let both : Some q ≡ Some p = sym at ∙ ap (slice_get ps) same ∙ here in
          let one : q ≡ p = cc in
          let less : r.1 ≤ own = within k r (subst (λ (x : Planned). slice_get x.values k ≡ Some r) one register) in
          omega (arith, is, less))
    ]
