-- The size of a workgroup: at least one invocation in each direction, and at most 1,024 in all.
use Rattle.std.proofs.Common.{◌≡◌, ℕ, zero, suc, ◌*◌, ◌<◌, ◌≤◌, ◌&&◌, true, arith}
use Rattle.std.proofs.lemmas.Bool.{and_parts, leb-true}
use Rattle.std.specs.Prelude.{nat_le}
use Rattle.std.proofs.Math.Logic.{∥∥₁_elim}
use Rattle.std.proofs.Props.{props}
use Rattle.spv_valid.specs.Acceptance.{Accepted}
use Rattle.spv_valid.specs.Entry.{Size, is_size}
use Rattle.spv_valid.specs.Validity.{IsValid}

pub size_holds : (a : Accepted) → ∥ IsValid a ∥₁ → is_size a.size ≡ true
size_holds a valid = ∥∥₁_elim valid (hlevel props) (λ (v : IsValid a). v.entry.size)

pub record IsFit (s : Size) : Type 0 where
  pub x : 1 ≤ s.0
  pub y : 1 ≤ s.1
  pub z : 1 ≤ s.2
  pub all : s.0 * s.1 * s.2 ≤ 1024
  pub two : s.0 * s.1 ≤ 1024
  pub some : 0 < s.0 * s.1 * s.2

fewer : (n z : ℕ) → 1 ≤ z → n ≤ n * z
fewer n (suc k) h = omega arith
fewer n zero h = absurd (omega (arith, h))

pub size_fits : (s : Size) → is_size s ≡ true → IsFit s
size_fits s h =
    let both = and_parts (nat_le 1 s.0 && (nat_le 1 s.1 && nat_le 1 s.2)) (nat_le (s.0 * s.1 * s.2) 1024) h in
    let x = and_parts (nat_le 1 s.0) (nat_le 1 s.1 && nat_le 1 s.2) both.0 in
    let y = and_parts (nat_le 1 s.1) (nat_le 1 s.2) x.1 in
    let all : s.0 * s.1 * s.2 ≤ 1024 = leb-true (s.0 * s.1 * s.2) 1024 both.1 in
    let z : 1 ≤ s.2 = leb-true 1 s.2 y.1 in
    let less : s.0 * s.1 ≤ s.0 * s.1 * s.2 = fewer (s.0 * s.1) s.2 z in
    let one : 1 ≤ s.0 = leb-true 1 s.0 x.0 in
    let flat : s.0 ≤ s.0 * s.1 = fewer s.0 s.1 (leb-true 1 s.1 y.0) in
    record { x = one; y = leb-true 1 s.1 y.0; z = z; all = all; two = omega (arith, all, less); some = omega (arith, one, flat, less) }
