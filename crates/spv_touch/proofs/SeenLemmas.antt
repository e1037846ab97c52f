-- What is told of an instruction's event, by the instruction's row.
use Rattle.std.proofs.Common.{◌≡◌, ◌∙◌, ◌&&◌, ℕ, Bool, true, false, List, [], Option, Some, None, IsSome, Result, Ok, Err, ok_or, refl, sym, ap, subst, arith}
use Rattle.std.specs.Prelude.{if◌then◌else◌, unwrap_or}
use Rattle.std.specs.Bool.{then_some}
use Rattle.std.specs.Option.{is_some, option_and_then, option_map}
use Rattle.spv_base.specs.Cell.{Cell}
use Rattle.spv_base.specs.declared.values.Pointer.{Pointer}
use Rattle.spv_base.specs.declared.values.Root.{Root}
use Rattle.spv_base.specs.declared.values.Root.TheVariants.{Shared, Private, Local}
use Rattle.spv_base.specs.declared.values.Value.{Value, out-Value}
use Rattle.spv_index.specs.Operands.{id_operand}
use Rattle.spv_ops.specs.Steps.{◌>>=◌}
use Rattle.spv_types.specs.Shapes.{pointer_in}
use Rattle.spv_mem.specs.Memory.{Held as Memory, load_of}
use Rattle.spv_mem.specs.Singles.{NamesRow}
use Rattle.spv_order.specs.declared.events.Event.{Event}
use Rattle.spv_order.specs.declared.events.Leaves.{Leaves}
use Rattle.spv_state.specs.Actions.{action_of}
use Rattle.spv_state.specs.declared.actions.Action.{Action}
use Rattle.spv_state.specs.declared.actions.Action.TheVariants.{Compute, Select, Load, Store, CopyMemory, Chain, PtrChain, PtrEqual, PtrNotEqual, ArrayLength, Branch, BranchConditional, Switch, Call, Return, ReturnValue, Unreachable, ControlBarrier, MemoryBarrier, Atomic}
use Rattle.spv_state.specs.declared.actions.AtomicOp.{AtomicOp}
use Rattle.spv_state.specs.declared.actions.AtomicOp.TheVariants as atomic
use Rattle.spv_sites.specs.Atomics.{AtomicRow, atomic_by, atomic_row, compares, counts, first_of_three, loads, stores, target, updates}
use Rattle.spv_sites.specs.Branches.{chosen_label, deciding_number, jump_by, switch_label}
use Rattle.spv_sites.specs.Chains.{chained_pointer, indexes, indexes_from, ptr_chained}
use Rattle.spv_sites.specs.Lengths.{length_of}
use Rattle.spv_sites.specs.Effects.{Effect, Leave, Wait, gives, goes, loaded, operand, pointer, scalar, sets}
use Rattle.spv_sites.specs.Instructions.{effect_of, row}
use Rattle.spv_sites.specs.Selects.{selected}
use Rattle.spv_sites.specs.Sites.{Site, due, values}
use Rattle.spv_sites.specs.declared.causes.Cause.{Cause}
use Rattle.spv_sites.specs.declared.causes.Cause.TheVariants.{NoValue, OutOfBounds}
use Rattle.spv_touch.specs.Ranges.{leaves_at}
use Rattle.spv_touch.specs.Seen.{Seen, Tells, accessing, ends, operand_leaves, part_leaves, seen, seen_by, still, untouching}
use Rattle.spv_touch.specs.Touching.{arrives_by, atomic_reads, leaves_below, read_operand, read_pointer}
use Rattle.spv_touch.proofs.PlaceLemmas.{own_local, own_private, place_there, unlisted_at}

-- the pointer that a value is, where it is one
abbrev place : Option Value → Option Pointer
place o = option_and_then (λ v. pointer_in (out-Value v)) o

-- by the row of an action
abbrev seen_row : Site → Action → Seen
seen_row x a = seen_by x.program x.state x.inv (option_and_then (λ n. place (values x n)) (read_operand a)) (row x.program x.state x.inv x.frame x.inst a)

by_row : (x : Site) (a : Action) → action_of x.inst ≡ a → seen x ≡ seen_row x a
unfolding effect_of
by_row x a is = ap (seen_row x) is

-- actions whose event touches nothing, and doesn't arrive, whether it faults or not
abbrev pub is_still : Action → Bool
is_still Load = false
is_still Store = false
is_still CopyMemory = false
is_still (Atomic op) = false
is_still ControlBarrier = false
is_still Return = false
is_still ReturnValue = false
is_still _ = true

-- there are no leaves below a pointer that names nothing
nowhere : (m : Memory) (i : ℕ) (q : Pointer) → load_of m i q ≡ None → leaves_at m q ≡ []
nowhere m i q none = by q.root refl
  where
    by : (r : Root) → q.root ≡ r → leaves_at m q ≡ []
    by (Shared id) is = unlisted_at m i id q is none
    by (Private id) is = own_private m id q is
    by (Local depth id) is = own_local m depth id q is

-- ---- OpLoad, OpStore and OpCopyMemory

-- an access that reads and writes these
abbrev told : Site → Option Pointer → Result Effect Cause → Seen
told x from r = seen_by x.program x.state x.inv from r

module _ (x : Site) where
  load_part : (q : Pointer) (o : Option Value) → told x (Some q) (ok_or o OutOfBounds >>= (λ v. Ok (gives v))) ≡ accessing (option_map (λ (w : Value). leaves_at x.state.memory q) o) (Some [])
  load_part q None = refl
  load_part q (Some w) = refl

  load_place : (k : Option Pointer) → told x k (ok_or k OutOfBounds >>= (λ q. loaded x.state x.inv q >>= (λ v. Ok (gives v)))) ≡ accessing (option_and_then (part_leaves x) k) (Some [])
  load_place None = refl
  load_place (Some q) = load_part q (load_of x.state.memory x.inv q)

  load_value : (o : Option Value) → told x (place o) (ok_or o NoValue >>= (λ at. pointer at >>= (λ q. loaded x.state x.inv q >>= (λ v. Ok (gives v))))) ≡ accessing (option_and_then (part_leaves x) (place o)) (Some [])
  load_value None = refl
  load_value (Some v) = load_place (pointer_in (out-Value v))

  pub load_seen : action_of x.inst ≡ Load → seen x ≡ accessing (operand_leaves x 0) (Some [])
  load_seen is = by_row x Load is ∙ load_value (values x 0)

  store_part : (v : Value) (q : Pointer) (o : Option Value) → told x None (ok_or o OutOfBounds >>= (λ _. Ok (sets q v))) ≡ accessing (Some []) (option_map (λ (w : Value). leaves_at x.state.memory q) o)
  store_part v q None = refl
  store_part v q (Some w) = refl

  store_place : (v : Value) (k : Option Pointer) → told x None (ok_or k OutOfBounds >>= (λ q. loaded x.state x.inv q >>= (λ _. Ok (sets q v)))) ≡ accessing (Some []) (option_and_then (part_leaves x) k)
  store_place v None = refl
  store_place v (Some q) = store_part v q (load_of x.state.memory x.inv q)

  store_values : (o p : Option Value)
      → told x None (ok_or o NoValue >>= (λ at. ok_or p NoValue >>= (λ v. pointer at >>= (λ q. loaded x.state x.inv q >>= (λ _. Ok (sets q v))))))
      ≡ accessing (if is_some p then Some [] else None) (option_and_then (part_leaves x) (place o))
  store_values None None = refl
  store_values None (Some v) = refl
  store_values (Some at) None = refl
  store_values (Some at) (Some v) = store_place v (pointer_in (out-Value at))

  pub store_seen : action_of x.inst ≡ Store → seen x ≡ accessing (if is_some (values x 1) then Some [] else None) (operand_leaves x 0)
  store_seen is = by_row x Store is ∙ store_values (values x 0) (values x 1)

  copy_part : (q r : Pointer) (o p : Option Value)
      → told x (Some r) (ok_or o OutOfBounds >>= (λ _. ok_or p OutOfBounds >>= (λ v. Ok (sets q v))))
      ≡ accessing (option_map (λ (w : Value). leaves_at x.state.memory r) p) (option_map (λ (w : Value). leaves_at x.state.memory q) o)
  copy_part q r None None = refl
  copy_part q r None (Some v) = refl
  copy_part q r (Some u) None = refl
  copy_part q r (Some u) (Some v) = refl

  copy_place : (k l : Option Pointer)
      → told x l (ok_or k OutOfBounds >>= (λ q. loaded x.state x.inv q >>= (λ _. ok_or l OutOfBounds >>= (λ r. loaded x.state x.inv r >>= (λ v. Ok (sets q v))))))
      ≡ accessing (option_and_then (part_leaves x) l) (option_and_then (part_leaves x) k)
  copy_place None None = refl
  copy_place None (Some r) = by (load_of x.state.memory x.inv r)
    where
      by : (o : Option Value) → still ≡ accessing (option_map (λ (w : Value). leaves_at x.state.memory r) o) None
      by None = refl
      by (Some w) = refl
  copy_place (Some q) None = by (load_of x.state.memory x.inv q)
    where
      by : (o : Option Value) → told x None (ok_or o OutOfBounds >>= (λ _. Err OutOfBounds)) ≡ still
      by None = refl
      by (Some w) = refl
  copy_place (Some q) (Some r) = copy_part q r (load_of x.state.memory x.inv q) (load_of x.state.memory x.inv r)

  none_written : (o : Option (List Leaves)) → still ≡ accessing o None
  none_written None = refl
  none_written (Some ls) = refl

  copy_values : (o p : Option Value)
      → told x (place p) (ok_or o NoValue >>= (λ to. ok_or p NoValue >>= (λ from. pointer to >>= (λ q. loaded x.state x.inv q >>= (λ _. pointer from >>= (λ r. loaded x.state x.inv r >>= (λ v. Ok (sets q v))))))))
      ≡ accessing (option_and_then (part_leaves x) (place p)) (option_and_then (part_leaves x) (place o))
  copy_values None p = none_written (option_and_then (part_leaves x) (place p))
  copy_values (Some to) None = refl
  copy_values (Some to) (Some from) = copy_place (pointer_in (out-Value to)) (pointer_in (out-Value from))

  pub copy_seen : action_of x.inst ≡ CopyMemory → seen x ≡ accessing (operand_leaves x 1) (operand_leaves x 0)
  copy_seen is = by_row x CopyMemory is ∙ copy_values (values x 0) (values x 1)

  -- ---- barriers and returns

  three_values : (o p q : Option Value)
      → told x None ((ok_or o NoValue >>= (λ v. ok_or p NoValue >>= (λ _. ok_or q NoValue >>= (λ _. Ok v)))) >>= (λ _. Ok (goes Wait))) ≡ untouching (is_some o && is_some p && is_some q)
  three_values None p q = refl
  three_values (Some v) None q = refl
  three_values (Some v) (Some u) None = refl
  three_values (Some v) (Some u) (Some w) = refl

  pub barrier_seen : action_of x.inst ≡ ControlBarrier → seen x ≡ untouching (is_some (values x 0) && is_some (values x 1) && is_some (values x 2))
  barrier_seen is = by_row x ControlBarrier is ∙ three_values (values x 0) (values x 1) (values x 2)

  pub return_seen : action_of x.inst ≡ Return → seen x ≡ untouching (ends x.program x.state x.inv)
  return_seen is = by_row x Return is

  given : (o : Option Value) → told x None (ok_or o NoValue >>= (λ v. Ok (goes (Leave (Some v))))) ≡ untouching (is_some o && ends x.program x.state x.inv)
  given None = refl
  given (Some v) = refl

  pub return_value_seen : action_of x.inst ≡ ReturnValue → seen x ≡ untouching (is_some (values x 0) && ends x.program x.state x.inv)
  return_value_seen is = by_row x ReturnValue is ∙ given (values x 0)

  -- ---- all that touch nothing

  unfoldable IsStill : Result Effect Cause → Type 0
  IsStill r = told x None r ≡ still

  quiet : (e : Effect) → told x None (Ok e) ≡ still → IsStill (Ok e)
  unfolding IsStill
  quiet e is = is

  faulted : (cause : Cause) → IsStill (Err cause)
  unfolding IsStill
  faulted cause = refl

  behind : {A : Type 0} (r : Result A Cause) (g : A → Result Effect Cause) → ((a : A) → IsStill (g a)) → IsStill (r >>= g)
  behind (Ok a) g h = h a
  behind (Err cause) g h = faulted cause

  jumps : (label : Option ℕ) → IsStill (jump_by x.program x.state x.inv x.frame x.inst label)
  jumps None = faulted _
  jumps (Some block) = behind _ _ (λ phis. quiet _ refl)

  choices : (b : Bool) (v : Value) (cause : Cause) → IsStill (if b then Ok (gives v) else Err cause)
  choices true v cause = quiet _ refl
  choices false v cause = faulted _

  selects : (c v w : Value) (o : Option Pointer) → IsStill (selected x.program x.state x.inv x.frame x.inst c v w o)
  selects c v w None = behind _ _ (λ u. quiet _ refl)
  selects c v w (Some q) = choices _ _ _

  abbrev value : ℕ → Result Value Cause
  value n = operand x.program x.state x.inv x.frame x.inst n

  abbrev lane : ℕ → Result Cell Cause
  lane n = scalar x.program x.state x.inv x.frame x.inst n

  still_rows : (a : Action) → is_still a ≡ true → IsStill (row x.program x.state x.inv x.frame x.inst a)
  still_rows Compute h = behind _ _ (λ v. quiet _ refl)
  still_rows Select h = behind (value 0) _ (λ c. behind (value 1) _ (λ v. behind (value 2) _ (λ w. selects c v w (pointer_in (out-Value v)))))
  still_rows Load h = absurd (cc)
  still_rows Store h = absurd (cc)
  still_rows CopyMemory h = absurd (cc)
  still_rows Chain h = behind (value 0) _ (λ base. behind (indexes (values x) x.inst) _ (λ cs. behind (chained_pointer base cs) _ (λ q. quiet _ refl)))
  still_rows PtrChain h =
      behind (value 0) _ (λ base. behind (lane 1) _ (λ c. behind (indexes_from 2 (values x) x.inst) _ (λ cs. behind (pointer base) _ (λ q. behind (ptr_chained x.state.memory q c cs) _ (λ r. quiet _ refl)))))
  still_rows PtrEqual h = behind (value 0) _ (λ a. behind (value 1) _ (λ b. behind (pointer a) _ (λ q. behind (pointer b) _ (λ r. quiet _ refl))))
  still_rows PtrNotEqual h = behind (value 0) _ (λ a. behind (value 1) _ (λ b. behind (pointer a) _ (λ q. behind (pointer b) _ (λ r. quiet _ refl))))
  still_rows ArrayLength h = behind (value 0) _ (λ at. behind (length_of x.state x.inv x.inst at) _ (λ n. quiet _ refl))
  still_rows Branch h = jumps (id_operand x.inst 0)
  still_rows BranchConditional h = behind (value 0) _ (λ v. behind (deciding_number v) _ (λ n. jumps (chosen_label x.inst n)))
  still_rows Switch h = behind (value 0) _ (λ v. behind (deciding_number v) _ (λ n. jumps (switch_label x.program.accepted.insts x.inst n)))
  still_rows Call h = behind _ _ (λ rs. quiet _ refl)
  still_rows Return h = absurd (cc)
  still_rows ReturnValue h = absurd (cc)
  still_rows Unreachable h = faulted _
  still_rows ControlBarrier h = absurd (cc)
  still_rows MemoryBarrier h = behind (value 0) _ (λ v. behind (value 1) _ (λ w. quiet _ refl))
  still_rows (Atomic op) h = absurd (cc)

  none_read : (a : Action) → is_still a ≡ true → read_operand a ≡ None
  none_read = grind arith

  row_still : (a : Action) → IsStill (row x.program x.state x.inv x.frame x.inst a) → read_operand a ≡ None → seen_row x a ≡ still
  unfolding IsStill
  row_still a is none =
      ap (λ (o : Option ℕ). seen_by x.program x.state x.inv (option_and_then (λ n. place (values x n)) o) (row x.program x.state x.inv x.frame x.inst a)) none ∙ is

  pub still_seen : (a : Action) → action_of x.inst ≡ a → is_still a ≡ true → seen x ≡ still
  still_seen a is h = by_row x a is ∙ row_still a (still_rows a h) (none_read a h)

  -- ---- atomics

  -- an effect that goes on doesn't arrive
  module _ (from : Option Pointer) where
    unfoldable GoesOn : Result Effect Cause → Type 0
    GoesOn r = (told x from r).arrives ≡ false

    goes_on : (e : Effect) → arrives_by x.program x.state x.inv e.control ≡ false → GoesOn (Ok e)
    unfolding GoesOn
    goes_on e is = is

    after : {A : Type 0} (r : Result A Cause) (g : A → Result Effect Cause) → ((a : A) → GoesOn (g a)) → GoesOn (r >>= g)
    unfolding GoesOn
    after (Ok a) g h = h a
    after (Err cause) g h = refl

    abbrev three : Result Value Cause
    three = first_of_three x.program x.state x.inv x.frame x.inst

    abbrev place_of : Value → Result (Pointer × Cell) Cause
    place_of at = target x.state x.inv at

    atomics_go_on : (r : AtomicRow) → GoesOn (atomic_by x.program x.state x.inv x.frame x.inst r)
    atomics_go_on loads = after three _ (λ at. after (place_of at) _ (λ t. goes_on _ refl))
    atomics_go_on stores = after three _ (λ at. after (lane 3) _ (λ v. after (place_of at) _ (λ t. goes_on _ refl)))
    atomics_go_on (counts new) = after three _ (λ at. after (place_of at) _ (λ t. goes_on _ refl))
    atomics_go_on (updates new) = after three _ (λ at. after (lane 3) _ (λ v. after (place_of at) _ (λ t. goes_on _ refl)))
    atomics_go_on (compares new) =
        after three _ (λ at. after (value 3) _ (λ z. after (lane 4) _ (λ v. after (lane 5) _ (λ c. after (place_of at) _ (λ t. goes_on _ refl)))))

    going_on : (r : Result Effect Cause) → GoesOn r → (told x from r).arrives ≡ false
    unfolding GoesOn
    going_on r is = is

  pub atomic_goes_on : (op : AtomicOp) → action_of x.inst ≡ Atomic op → (seen x).arrives ≡ false
  atomic_goes_on op is = ap (λ (k : Seen). k.arrives) (by_row x (Atomic op) is) ∙ going_on _ _ (atomics_go_on _ (atomic_row op))

  -- the leaves below a pointer are those of the part that it names, if it names one
  below : (o : Option Pointer) → unwrap_or (option_and_then (part_leaves x) o) [] ≡ leaves_below x.state o
  below None = refl
  below (Some q) = by (load_of x.state.memory x.inv q) refl
    where
      by : (o : Option Value) → load_of x.state.memory x.inv q ≡ o → unwrap_or (option_map (λ (w : Value). leaves_at x.state.memory q) o) [] ≡ leaves_at x.state.memory q
      by (Some w) e = refl
      by None e = sym (nowhere x.state.memory x.inv q e)

  pub operand_below : (n : ℕ) → unwrap_or (operand_leaves x n) [] ≡ leaves_below x.state (place (values x n))
  operand_below n = below (place (values x n))

-- ---- parts

pub part_there : (x : Site) (q : Pointer) (n k : ℕ) → NamesRow x.state.memory x.inv q n k → part_leaves x q ≡ Some (leaves_at x.state.memory q)
part_there x q n k row = by (load_of x.state.memory x.inv q) (place_there x.state.memory x.inv q n k row)
  where
    by : (o : Option Value) → IsSome o → option_map (λ (w : Value). leaves_at x.state.memory q) o ≡ Some (leaves_at x.state.memory q)
    by None h = cc
    by (Some w) h = refl

pub part_missing : (x : Site) (q : Pointer) → load_of x.state.memory x.inv q ≡ None → part_leaves x q ≡ None
part_missing x q none = ap (option_map (λ (w : Value). leaves_at x.state.memory q)) none

-- the part that an operand names which is a pointer, or none
pub operand_part : (x : Site) (n : ℕ) (v : Value) (q : Pointer) → values x n ≡ Some v → pointer_in (out-Value v) ≡ Some q → operand_leaves x n ≡ part_leaves x q
operand_part x n v q is points = ap (λ (o : Option Value). option_and_then (part_leaves x) (place o)) is ∙ ap (option_and_then (part_leaves x)) points

pub operand_data : (x : Site) (n : ℕ) (v : Value) → values x n ≡ Some v → pointer_in (out-Value v) ≡ None → operand_leaves x n ≡ None
operand_data x n v is plain = ap (λ (o : Option Value). option_and_then (part_leaves x) (place o)) is ∙ ap (option_and_then (part_leaves x)) plain

pub operand_missing : (x : Site) (n : ℕ) → values x n ≡ None → operand_leaves x n ≡ None
operand_missing x n none = ap (λ (o : Option Value). option_and_then (part_leaves x) (place o)) none

-- ---- what is told

-- an event of which this is told
pub retold : (i : ℕ) (k l : Seen) (e : Event) → k ≡ l → Tells i l e → Tells i k e
retold i k l e same tells = subst (λ (s : Seen). Tells i s e) (sym same) tells

module _ (x : Site) (e : Event) where
  pub told_parts : (reads writes r w : Option (List Leaves)) → seen x ≡ accessing r w → reads ≡ r → writes ≡ w → Tells x.inv (accessing reads writes) e → Tells x.inv (seen x) e
  told_parts reads writes r w is a b tells =
      retold x.inv (seen x) (accessing reads writes) e (is ∙ ap (λ (o : Option (List Leaves)). accessing o w) (sym a) ∙ ap (λ (o : Option (List Leaves)). accessing reads o) (sym b)) tells

  pub told_alone : (i : ℕ) (a b : Bool) → seen x ≡ untouching b → a ≡ b → i ≡ x.inv → Tells i (untouching a) e → Tells x.inv (seen x) e
  told_alone i a b is same inv tells =
      retold x.inv (seen x) (untouching a) e (is ∙ ap untouching (sym same)) (subst (λ (k : ℕ). Tells k (untouching a) e) inv tells)

-- no leaves where a test holds
pub chosen_leaves : {A : Type 0} (g : A → List Leaves) (b t : Bool) (v : A) (o : Option A) → o ≡ then_some b v → b ≡ t → g v ≡ [] → option_map g o ≡ (if t then Some [] else None)
chosen_leaves g b t v o is same none = ap (option_map g) is ∙ by b ∙ ap (λ (c : Bool). if c then Some [] else None) same
  where
    by : (c : Bool) → option_map g (then_some c v) ≡ (if c then Some [] else None)
    by true = ap (λ (l : List Leaves). Some l) none
    by false = refl

-- ---- atomics that were worked out

reads_first : (op : AtomicOp) → (op ≡ atomic.Store → ⊥) → atomic_reads op ≡ Some 0
reads_first atomic.Store h = absurd (h refl)
reads_first atomic.Load h = refl
reads_first atomic.Exchange h = refl
reads_first atomic.CompareExchange h = refl
reads_first atomic.Increment h = refl
reads_first atomic.Decrement h = refl
reads_first atomic.Add h = refl
reads_first atomic.Sub h = refl
reads_first atomic.SMin h = refl
reads_first atomic.UMin h = refl
reads_first atomic.SMax h = refl
reads_first atomic.UMax h = refl
reads_first atomic.And h = refl
reads_first atomic.Or h = refl
reads_first atomic.Xor h = refl

-- what is read through the first operand
pub reads_are : (x : Site) (op : AtomicOp) (r : List Leaves) → action_of x.inst ≡ Atomic op → (op ≡ atomic.Store → ⊥) → operand_leaves x 0 ≡ Some r
    → r ≡ leaves_below x.state (read_pointer x.program x.state x.inv x.frame x.inst)
reads_are x op r is ne leaves =
    let through : read_pointer x.program x.state x.inv x.frame x.inst ≡ place (values x 0)
    = ap (λ (a : Action). option_and_then (λ n. place (values x n)) (read_operand a)) is ∙ ap (option_and_then (λ n. place (values x n))) (reads_first op ne) in
    ap (λ (o : Option (List Leaves)). unwrap_or o []) (sym leaves) ∙ operand_below x 0 ∙ ap (leaves_below x.state) (sym through)

module _ (x : Site) (e : Effect) (is : due x ≡ Ok e) where
  pub reads_told : (seen x).reads ≡ leaves_below x.state (read_pointer x.program x.state x.inv x.frame x.inst)
  reads_told = ap (λ (r : Result Effect Cause). (seen_by x.program x.state x.inv (read_pointer x.program x.state x.inv x.frame x.inst) r).reads) is

  pub writes_told : (seen x).writes ≡ leaves_below x.state (option_map (λ (y : Pointer × Value). y.0) e.store)
  writes_told = ap (λ (r : Result Effect Cause). (seen_by x.program x.state x.inv (read_pointer x.program x.state x.inv x.frame x.inst) r).writes) is

pub paired : (o : Option Pointer) (v : Value) → option_map (λ (y : Pointer × Value). y.0) (option_map (λ q. (q, v)) o) ≡ o
paired None v = refl
paired (Some q) v = refl
