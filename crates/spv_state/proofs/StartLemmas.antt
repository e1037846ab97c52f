-- How many invocations a run starts with.
use Rattle.std.proofs.Common.{◌≡◌, ◌<◌, ℕ, true, nat_le, length}
use Rattle.std.proofs.Math.Nat.{mul-pos}
use Rattle.std.proofs.lemmas.Bool.{leb-true, and_parts}
use Rattle.std.proofs.lemmas.List.{length-replicate}
use Rattle.spv_statuses.specs.declared.invocations.Status.TheVariants.{Ready}
use Rattle.spv_valid.specs.Acceptance.{Accepted, invocations}
use Rattle.spv_valid.specs.Validity.{IsValid}
use Rattle.spv_state.specs.Program.{Program}
use Rattle.spv_state.specs.Start.{start_of}

pub all_start : (p : Program) → length (start_of p).statuses.list ≡ invocations p.accepted
unfolding start_of
all_start p = length-replicate (invocations p.accepted) Ready

positive : (n : ℕ) → nat_le 1 n ≡ true → 0 < n
positive n h = leb-true 1 n h

pub some_start : (a : Accepted) → IsValid a → 0 < invocations a
some_start a v =
    let h = and_parts _ _ v.entry.size in
    let xs = and_parts _ _ h.0 in
    let ys = and_parts _ _ xs.1 in
    mul-pos (mul-pos (positive a.size.0 xs.0) (positive a.size.1 ys.0)) (positive a.size.2 ys.1)
