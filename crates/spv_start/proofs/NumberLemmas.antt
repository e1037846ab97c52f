-- Numbers of several bytes are made of numbers of half as many.
use Rattle.std.proofs.Common.{◌≡◌, ℕ, ◌+◌, ◌*◌, List, arith}
use Rattle.spv_start.specs.Numbers.{byte_at, number_at}

pub one : (bytes : List ℕ) (at : ℕ) → number_at bytes at 1 ≡ byte_at bytes at
one bytes at = omega arith

pub two : (bytes : List ℕ) (at : ℕ) → number_at bytes at 2 ≡ byte_at bytes at + 256 * byte_at bytes (at + 1)
two bytes at = omega arith

pub four : (bytes : List ℕ) (at : ℕ) → number_at bytes at 4 ≡ number_at bytes at 2 + 65536 * number_at bytes (at + 2) 2
four bytes at =
    let e : at + 1 + 1 ≡ at + 2 = omega arith in
    rw e (omega arith)

pub eight : (bytes : List ℕ) (at : ℕ) → number_at bytes at 8 ≡ number_at bytes at 4 + 4294967296 * number_at bytes (at + 4) 4
eight bytes at =
    let e : at + 1 + 1 + 1 + 1 ≡ at + 4 = omega arith in
    rw e (omega arith)
