-- What is kept beside the settings while their lines are read.
use Rattle.std.specs.Prelude.{◌≡◌, ℕ, Result, Ok, Err}
use Rattle.std.specs.Ordering.{nat_cmp, ordering_then}
use Rattle.std.specs.BTreeSet.{BTreeSet, contains}
use Rattle.spv_base.specs.declared.causes.Fail.{Fail}
use Rattle.spv_base.specs.declared.causes.Fail.TheVariants.{Refused, NoMemory}
use Rattle.spv_setup.specs.declared.settings.Settings.{Settings}
use Rattle.spv_setup.specs.Settings.{has_override, has_buffer}

-- the SpecIds that have a number, and the sets and bindings that have bytes
pub record IsIndexed (ids : BTreeSet ℕ) (bindings : BTreeSet (ℕ × ℕ)) (s : Settings) : Type 0 where
  pub by_id : (id : ℕ) → contains nat_cmp ids id ≡ has_override id s
  pub by_binding : (set binding : ℕ) → contains (λ x y. ordering_then (nat_cmp x.0 y.0) (nat_cmp x.1 y.1)) bindings (set, binding) ≡ has_buffer set binding s

-- a call that changes settings leaves those that are due, refuses as is due, or memory ran out
abbrev pub Leaves : {T R : Type 0} → Result T R → T → Result Unit (Fail R) → Type 0
Leaves due new (Ok _) = due ≡ Ok new
Leaves due new (Err (Refused r)) = due ≡ Err r
Leaves due new (Err NoMemory) = Unit {0}
