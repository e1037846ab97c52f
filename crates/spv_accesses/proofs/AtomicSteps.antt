-- What is due at an atomic, by what its operands are and where its pointer leads.
use Rattle.std.proofs.Common.{◌≡◌, ◌∙◌, ℕ, Some, Option, Result, Ok, Err, ok_or, refl, sym, ap}
use Rattle.spv_base.specs.Answers.{Answers}
use Rattle.spv_base.specs.Cell.{Cell}
use Rattle.spv_base.specs.declared.causes.Fail.{Fail}
use Rattle.spv_base.specs.declared.causes.Fail.TheVariants.{Refused, NoMemory}
use Rattle.spv_base.specs.declared.values.Pointer.{Pointer as Reference}
use Rattle.spv_base.specs.declared.values.Value.{Value, Scalar}
use Rattle.spv_ops.specs.Steps.{◌>>=◌}
use Rattle.spv_effects.specs.Lanes.{lane_of}
use Rattle.spv_mem.specs.Memory.{load_of}
use Rattle.spv_state.specs.Actions.{action_of}
use Rattle.spv_state.specs.declared.actions.Action.TheVariants.{Atomic}
use Rattle.spv_state.specs.declared.actions.AtomicOp.{AtomicOp}
use Rattle.spv_state.specs.declared.actions.AtomicOp.TheVariants as atomic
use Rattle.spv_sites.specs.Sites.{first_of_three, Finds, Site, due, values}
use Rattle.spv_accesses.specs.AtomicSites.{IsCount, IsUpdate, counted_cell, scalar, target, updated_cell}
use Rattle.spv_sites.specs.Atomics.{AtomicRow, loads, stores, counts, updates, compares, atomic_by, atomic_row, compared_cell, exchanges}
use Rattle.spv_sites.specs.Effects as spec
use Rattle.spv_sites.specs.Effects.{gives, loaded, pointer, sets}
use Rattle.spv_sites.specs.declared.causes.Cause.{Cause}
use Rattle.spv_sites.specs.declared.causes.Cause.TheVariants.{NoValue, OutOfBounds}
use Rattle.spv_sites.proofs.Exports.{due_by, operand, ok_then, err_then}

-- ---- operands

-- an operand that was looked for answers as it is due
pub found_is : (x : Site) (n : ℕ) (r : Result Value (Fail Cause)) → Finds (values x n) r → Answers (operand x n) r
found_is x n (Ok v) h = ap (λ (o : Option Value). ok_or o NoValue) h
found_is x n (Err (Refused cause)) h = ap (λ (o : Option Value). ok_or o NoValue) h.0 ∙ ap (λ (k : Cause). Err k) (sym h.1)
found_is x n (Err NoMemory) h = tt

-- ---- at a site

module _ (x : Site) where
  -- ---- scalars

  pub scalar_ok : (n : ℕ) (v : Value) (c : Cell) → operand x n ≡ Ok v → lane_of v ≡ c → scalar x n ≡ Ok c
  scalar_ok n v c h is = ok_then (operand x n) (λ (v : Value). Ok (lane_of v)) v h ∙ ap (λ (d : Cell). Ok d) is

  -- ---- where the pointer leads

  abbrev pub there : Reference → Result (Reference × Cell) Cause
  there q = loaded x.state x.inv q >>= (λ (v : Value). Ok (q, lane_of v))

  pub target_ok : (at v : Value) (q : Reference) (c : Cell) → pointer at ≡ Ok q → load_of x.state.memory x.inv q ≡ Some v → lane_of v ≡ c → target x at ≡ Ok (q, c)
  target_ok at v q c place load is =
      ok_then (pointer at) there q place
      ∙ ok_then (loaded x.state x.inv q) (λ (v : Value). Ok (q, lane_of v)) v (ap (λ (o : Option Value). ok_or o OutOfBounds) load)
      ∙ ap (λ (d : Cell). Ok (q, d)) is

  -- ---- effects at the scalar to which the pointer leads

  abbrev pub Done : Type 0
  Done = Reference × Cell → spec.Effect

  abbrev pub after : Done → Value → Result spec.Effect Cause
  after e at = target x at >>= (λ (t : Reference × Cell). Ok (e t))

  after_ok : (e : Done) (at : Value) (t : Reference × Cell) → target x at ≡ Ok t → after e at ≡ Ok (e t)
  after_ok e at t h = ok_then (target x at) (λ (t : Reference × Cell). Ok (e t)) t h

  after_err : (e : Done) (at : Value) (cause : Cause) → target x at ≡ Err cause → after e at ≡ Err cause
  after_err e at cause h = err_then (target x at) (λ (t : Reference × Cell). Ok (e t)) cause h

  -- by the old scalar alone
  abbrev pub reads : Done → Result spec.Effect Cause
  reads e = first_of_three x >>= after e

  module _ (e : Done) where
    pub reads_ok : (at : Value) (t : Reference × Cell) → first_of_three x ≡ Ok at → target x at ≡ Ok t → reads e ≡ Ok (e t)
    reads_ok at t h g = ok_then (first_of_three x) (after e) at h ∙ after_ok e at t g

    pub reads_first : (cause : Cause) → first_of_three x ≡ Err cause → reads e ≡ Err cause
    reads_first cause h = err_then (first_of_three x) (after e) cause h

    pub reads_target : (at : Value) (cause : Cause) → first_of_three x ≡ Ok at → target x at ≡ Err cause → reads e ≡ Err cause
    reads_target at cause h g = ok_then (first_of_three x) (after e) at h ∙ after_err e at cause g

  -- by the value too
  abbrev pub with_value : (Cell → Done) → Value → Result spec.Effect Cause
  with_value e at = scalar x 3 >>= (λ (v : Cell). after (e v) at)

  abbrev pub takes : (Cell → Done) → Result spec.Effect Cause
  takes e = first_of_three x >>= with_value e

  module _ (e : Cell → Done) where
    pub takes_first : (cause : Cause) → first_of_three x ≡ Err cause → takes e ≡ Err cause
    takes_first cause h = err_then (first_of_three x) (with_value e) cause h

    module _ (at : Value) (is : first_of_three x ≡ Ok at) where
      takes_at : takes e ≡ (scalar x 3 >>= (λ (v : Cell). after (e v) at))
      takes_at = ok_then (first_of_three x) (with_value e) at is

      pub takes_ok : (v : Cell) (t : Reference × Cell) → scalar x 3 ≡ Ok v → target x at ≡ Ok t → takes e ≡ Ok (e v t)
      takes_ok v t h g = takes_at ∙ ok_then (scalar x 3) (λ (v : Cell). after (e v) at) v h ∙ after_ok (e v) at t g

      pub takes_value : (cause : Cause) → scalar x 3 ≡ Err cause → takes e ≡ Err cause
      takes_value cause h = takes_at ∙ err_then (scalar x 3) (λ (v : Cell). after (e v) at) cause h

      pub takes_target : (v : Cell) (cause : Cause) → scalar x 3 ≡ Ok v → target x at ≡ Err cause → takes e ≡ Err cause
      takes_target v cause h g = takes_at ∙ ok_then (scalar x 3) (λ (v : Cell). after (e v) at) v h ∙ after_err (e v) at cause g

  -- by the value and the comparator
  abbrev pub with_comparator : (Cell → Cell → Done) → Value → Cell → Result spec.Effect Cause
  with_comparator e at v = scalar x 5 >>= (λ (c : Cell). after (e v c) at)

  abbrev pub with_both : (Cell → Cell → Done) → Value → Result spec.Effect Cause
  with_both e at = operand x 3 >>= (λ (_ : Value). scalar x 4 >>= with_comparator e at)

  abbrev pub compares_by : (Cell → Cell → Done) → Result spec.Effect Cause
  compares_by e = first_of_three x >>= with_both e

  module _ (e : Cell → Cell → Done) where
    pub compares_first : (cause : Cause) → first_of_three x ≡ Err cause → compares_by e ≡ Err cause
    compares_first cause h = err_then (first_of_three x) (with_both e) cause h

    module _ (at : Value) (is : first_of_three x ≡ Ok at) where
      pub compares_semantics : (cause : Cause) → operand x 3 ≡ Err cause → compares_by e ≡ Err cause
      compares_semantics cause h = ok_then (first_of_three x) (with_both e) at is ∙ err_then (operand x 3) (λ (_ : Value). scalar x 4 >>= with_comparator e at) cause h

      module _ (unequal : Value) (semantics : operand x 3 ≡ Ok unequal) where
        compares_at : compares_by e ≡ (scalar x 4 >>= with_comparator e at)
        compares_at = ok_then (first_of_three x) (with_both e) at is ∙ ok_then (operand x 3) (λ (_ : Value). scalar x 4 >>= with_comparator e at) unequal semantics

        pub compares_value : (cause : Cause) → scalar x 4 ≡ Err cause → compares_by e ≡ Err cause
        compares_value cause h = compares_at ∙ err_then (scalar x 4) (with_comparator e at) cause h

        module _ (v : Cell) (value : scalar x 4 ≡ Ok v) where
          compares_with : compares_by e ≡ with_comparator e at v
          compares_with = compares_at ∙ ok_then (scalar x 4) (with_comparator e at) v value

          pub compares_comparator : (cause : Cause) → scalar x 5 ≡ Err cause → compares_by e ≡ Err cause
          compares_comparator cause h = compares_with ∙ err_then (scalar x 5) (λ (c : Cell). after (e v c) at) cause h

          pub compares_target : (c : Cell) (cause : Cause) → scalar x 5 ≡ Ok c → target x at ≡ Err cause → compares_by e ≡ Err cause
          compares_target c cause h g = compares_with ∙ ok_then (scalar x 5) (λ (c : Cell). after (e v c) at) c h ∙ after_err (e v c) at cause g

          pub compares_ok : (c : Cell) (t : Reference × Cell) → scalar x 5 ≡ Ok c → target x at ≡ Ok t → compares_by e ≡ Ok (e v c t)
          compares_ok c t h g = compares_with ∙ ok_then (scalar x 5) (λ (c : Cell). after (e v c) at) c h ∙ after_ok (e v c) at t g

-- ---- each atomic

abbrev pub loads_by : Reference × Cell → spec.Effect
loads_by t = gives (Scalar t.1)

abbrev pub stores_by : Cell → Reference × Cell → spec.Effect
stores_by value t = sets t.0 (Scalar value)

abbrev pub exchanges_by : (Cell → Cell) → Reference × Cell → spec.Effect
exchanges_by new t = exchanges t.0 (new t.1) t.1

abbrev pub updates_by : AtomicRow → Cell → Reference × Cell → spec.Effect
updates_by r value t = exchanges t.0 (updated_cell r t.1 value) t.1

abbrev pub swaps_by : Cell → Cell → Reference × Cell → spec.Effect
swaps_by value comparator t = exchanges t.0 (compared_cell t.1 value comparator) t.1

pub load_is : (x : Site) → action_of x.inst ≡ Atomic atomic.Load → due x ≡ reads x loads_by
unfolding atomic_row
load_is x is = due_by x (Atomic atomic.Load) is

pub store_is : (x : Site) → action_of x.inst ≡ Atomic atomic.Store → due x ≡ takes x stores_by
unfolding atomic_row
store_is x is = due_by x (Atomic atomic.Store) is

pub compare_is : (x : Site) → action_of x.inst ≡ Atomic atomic.CompareExchange → due x ≡ compares_by x swaps_by
unfolding atomic_row
compare_is x is = due_by x (Atomic atomic.CompareExchange) is

pub count_is : (x : Site) (op : AtomicOp) → action_of x.inst ≡ Atomic op → IsCount (atomic_row op) → due x ≡ reads x (exchanges_by (counted_cell (atomic_row op)))
count_is x op is counts_is = due_by x (Atomic op) is ∙ by_row (atomic_row op) counts_is
  where
    by_row : (r : AtomicRow) → IsCount r → atomic_by x.program x.state x.inv x.frame x.inst r ≡ reads x (exchanges_by (counted_cell r))
    by_row loads h = absurd h
    by_row stores h = absurd h
    by_row (counts new) h = refl
    by_row (updates new) h = absurd h
    by_row (compares new) h = absurd h

pub update_is : (x : Site) (op : AtomicOp) → action_of x.inst ≡ Atomic op → IsUpdate (atomic_row op) → due x ≡ takes x (updates_by (atomic_row op))
update_is x op is updates_is = due_by x (Atomic op) is ∙ by_row (atomic_row op) updates_is
  where
    by_row : (r : AtomicRow) → IsUpdate r → atomic_by x.program x.state x.inv x.frame x.inst r ≡ takes x (updates_by r)
    by_row loads h = absurd h
    by_row stores h = absurd h
    by_row (counts new) h = absurd h
    by_row (updates new) h = refl
    by_row (compares new) h = absurd h
