-- What an instruction does in two states that look alike to its invocation.
use Rattle.std.proofs.Common.{◌≡◌, ◌∙◌, ℕ, suc, ◌-◌, List, [], ◌∷◌, Option, Some, None, Result, Ok, Err, ok_or, length, slice_get, refl, sym, ap}
use Rattle.std.specs.Prelude.{if◌then◌else◌}
use Rattle.std.specs.Option.{option_and_then, option_map, option_map_or}
use Rattle.spv_base.specs.Cell.{Cell, defined_cell}
use Rattle.spv_base.specs.declared.instructions.Inst.{Inst}
use Rattle.spv_base.specs.declared.values.Pointer.{Pointer}
use Rattle.spv_base.specs.declared.values.Value.{Value, Ptr, Scalar, out-Value}
use Rattle.spv_index.specs.Operands.{id_operand, literal_operand}
use Rattle.spv_ops.specs.Steps.{◌>>=◌}
use Rattle.spv_effects.specs.Lanes.{lane_of}
use Rattle.spv_types.specs.Shapes.{pointer_in}
use Rattle.spv_types.specs.Types.{Types}
use Rattle.spv_mem.specs.Chains.{all_defined, extend, ptr_moved}
use Rattle.spv_mem.specs.Memory.{load_of, member_of}
use Rattle.spv_frame.specs.Frames.{Held as Frame}
use Rattle.spv_frame.specs.Stacks.{Stacked, top}
use Rattle.spv_base.proofs.Exports.{change_here}
use Rattle.spv_operands.specs.Values.{operand_value}
use Rattle.spv_results.specs.Results.{result_of}
use Rattle.spv_state.specs.Program.{Program}
use Rattle.spv_state.specs.State.{State, depth_of, frames_of, pop_frame, top_of, without_top}
use Rattle.spv_state.specs.declared.actions.Action.{Action}
use Rattle.spv_state.specs.declared.actions.Action.TheVariants.{Compute, Select, Load, Store, CopyMemory, Chain, PtrChain, PtrEqual, PtrNotEqual, ArrayLength, Branch, BranchConditional, Switch, Call, Return, ReturnValue, Unreachable, ControlBarrier, MemoryBarrier, Atomic}
use Rattle.spv_state.specs.declared.actions.AtomicOp.{AtomicOp}
use Rattle.spv_state.specs.declared.actions.AtomicOp.TheVariants as atomic
use Rattle.spv_sites.specs.Atomics.{AtomicRow, atomic_by, atomic_row, compares, counts, exchanges, first_of_three, loads, stores, updates}
use Rattle.spv_sites.specs.Branches.{chosen_label, deciding_number, jump_by, switch_label}
use Rattle.spv_sites.specs.Calls.{arguments, callee, enters, parameters_of}
use Rattle.spv_sites.specs.Chains.{chained_pointer, indexes, indexes_from, ptr_chain_effect, ptr_chained}
use Rattle.spv_sites.specs.Computing.{compute_effect}
use Rattle.spv_sites.specs.Effects.{Effect, Jump, gives, goes, operand, pointer, scalar, sets}
use Rattle.spv_sites.specs.Instructions.{row}
use Rattle.spv_sites.specs.Lengths.{elements_at, is_shared, length_of}
use Rattle.spv_sites.specs.Phis.{block_at, phi_values, phis_of}
use Rattle.spv_sites.specs.Selects.{selected}
use Rattle.spv_sites.specs.declared.causes.Cause.{Cause}
use Rattle.spv_sites.specs.declared.causes.Cause.TheVariants.{NoValue, OutOfBounds, UndefinedIndex}
use Rattle.spv_touch.specs.Touching.{atomic_reads, read_operand}
use Rattle.spv_touch.specs.Views.{outline}
use Rattle.spv_touch.proofs.OutlineLemmas.{same_counts}

-- ---- steps that may fault

module _ {A B : Type 0} where
  bind_at : (x : Result A Cause) (f g : A → Result B Cause) → ((a : A) → x ≡ Ok a → f a ≡ g a) → (x >>= f) ≡ (x >>= g)
  bind_at (Ok a) f g h = h a refl
  bind_at (Err cause) f g h = refl

  bind_two : (x y : Result A Cause) (f g : A → Result B Cause) → x ≡ y → ((a : A) → f a ≡ g a) → (x >>= f) ≡ (y >>= g)
  bind_two x y f g e h = ap (λ (r : Result A Cause). r >>= f) e ∙ bind_at y f g (λ a is. h a)

-- ---- the frames of one state with the memory of another

abbrev pub framed : State → State → State
framed s t = record t { memory = s.memory }

pub depths : (s t : State) (i : ℕ) → slice_get s.stacks i ≡ slice_get t.stacks i → depth_of s i ≡ depth_of t i
depths s t i e = ap (λ (k : Option Stacked). length (option_map_or (λ (x : Stacked). x.frames) k []) - 1) e

pub frames : (s t : State) (i : ℕ) → slice_get s.stacks i ≡ slice_get t.stacks i → frames_of s i ≡ frames_of t i
frames s t i e = ap (λ (k : Option Stacked). option_map_or (λ (x : Stacked). x.frames) k []) e

-- the top frame once the one above has gone
pub popped : (s t : State) (i : ℕ) → slice_get s.stacks i ≡ slice_get t.stacks i → top_of (pop_frame i s) i ≡ top_of (pop_frame i t) i
popped s t i e =
    ap (λ (k : Option Stacked). top (option_map_or (λ (x : Stacked). x.frames) k [])) (change_here i without_top s.stacks ∙ ap (option_map without_top) e ∙ sym (change_here i without_top t.stacks))

module _ (p : Program) (s t : State) (i : ℕ) (f : Frame) (d : Inst) (e : slice_get s.stacks i ≡ slice_get t.stacks i) where
  operands : (n : ℕ) → operand p s i f d n ≡ operand p (framed s t) i f d n
  operands n = ap (λ (k : ℕ). ok_or (operand_value p.accepted f k d n) NoValue) (depths s t i e)

  scalars : (n : ℕ) → scalar p s i f d n ≡ scalar p (framed s t) i f d n
  scalars n = ap (λ (r : Result Value Cause). r >>= (λ v. Ok (lane_of v))) (operands n)

  triples : first_of_three p s i f d ≡ first_of_three p (framed s t) i f d
  triples = bind_two _ _ _ _ (operands 0) (λ v. bind_two _ _ _ _ (operands 1) (λ x. bind_two _ _ _ _ (operands 2) (λ y. refl)))

  all_arguments : (n : ℕ) (ids : List ℕ) → arguments p s i f d n ids ≡ arguments p (framed s t) i f d n ids
  all_arguments n [] = refl
  all_arguments n (id ∷ ids) = bind_two _ _ _ _ (operands n) (λ v. ap (λ (r : Result (List (ℕ × Value)) Cause). r >>= (λ rs. Ok ((id, v) ∷ rs))) (all_arguments (suc n) ids))

  computed : compute_effect p s i f d ≡ compute_effect p (framed s t) i f d
  computed = ap (λ (k : ℕ). ok_or (result_of p.accepted d (operand_value p.accepted f k d)) NoValue >>= (λ v. Ok (gives v))) (depths s t i e)

  jumps : (label : Option ℕ) → jump_by p s i f d label ≡ jump_by p (framed s t) i f d label
  jumps None = refl
  jumps (Some block) =
      ap (λ (k : ℕ). ok_or (phi_values p.accepted f k (block_at p.accepted.insts d.word) (phis_of p.accepted.insts block)) NoValue >>= (λ (phis : List (ℕ × Value)). Ok (goes (Jump block phis)))) (depths s t i e)

  selects : (c x y : Value) (o : Option Pointer) → selected p s i f d c x y o ≡ selected p (framed s t) i f d c x y o
  selects c x y None = computed
  selects c x y (Some q) = refl

  atomics : (r : AtomicRow) → atomic_by p s i f d r ≡ atomic_by p (framed s t) i f d r
  atomics loads = bind_two _ _ _ _ triples (λ at. refl)
  atomics stores = bind_two _ _ _ _ triples (λ at. bind_two _ _ _ _ (scalars 3) (λ value. refl))
  atomics (counts new) = bind_two _ _ _ _ triples (λ at. refl)
  atomics (updates new) = bind_two _ _ _ _ triples (λ at. bind_two _ _ _ _ (scalars 3) (λ value. refl))
  atomics (compares new) =
      bind_two _ _ _ _ triples (λ at. bind_two _ _ _ _ (operands 3) (λ x. bind_two _ _ _ _ (scalars 4) (λ value. bind_two _ _ _ _ (scalars 5) (λ comparator. refl))))

  pub rows_framed : (b : Action) → row p s i f d b ≡ row p (framed s t) i f d b
  rows_framed Compute = computed
  rows_framed Select = bind_two _ _ _ _ (operands 0) (λ c. bind_two _ _ _ _ (operands 1) (λ x. bind_two _ _ _ _ (operands 2) (λ y. selects c x y (pointer_in (out-Value x)))))
  rows_framed Load = bind_two _ _ _ _ (operands 0) (λ at. refl)
  rows_framed Store = bind_two _ _ _ _ (operands 0) (λ at. bind_two _ _ _ _ (operands 1) (λ v. refl))
  rows_framed CopyMemory = bind_two _ _ _ _ (operands 0) (λ at. bind_two _ _ _ _ (operands 1) (λ v. refl))
  rows_framed Chain = bind_two _ _ _ _ (operands 0) (λ base. ap (λ (k : ℕ). indexes (operand_value p.accepted f k d) d >>= (λ cs. chained_pointer base cs >>= (λ q. Ok (gives (Ptr q))))) (depths s t i e))
  rows_framed PtrChain = bind_two _ _ _ _ (operands 0) (λ base. bind_two _ _ _ _ (scalars 1) (λ element. bind_two _ _ _ _ (ap (λ (k : ℕ). indexes_from 2 (operand_value p.accepted f k d) d) (depths s t i e)) (λ cs. refl)))
  rows_framed PtrEqual = bind_two _ _ _ _ (operands 0) (λ a. bind_two _ _ _ _ (operands 1) (λ b. refl))
  rows_framed PtrNotEqual = bind_two _ _ _ _ (operands 0) (λ a. bind_two _ _ _ _ (operands 1) (λ b. refl))
  rows_framed ArrayLength = bind_two _ _ _ _ (operands 0) (λ at. refl)
  rows_framed Branch = jumps (id_operand d 0)
  rows_framed BranchConditional = bind_two _ _ _ _ (operands 0) (λ v. bind_at (deciding_number v) _ _ (λ n is. jumps (chosen_label d n)))
  rows_framed Switch = bind_two _ _ _ _ (operands 0) (λ v. bind_at (deciding_number v) _ _ (λ n is. jumps (switch_label p.accepted.insts d n)))
  rows_framed Call =
      bind_two _ _ _ _ (all_arguments 1 (parameters_of p.accepted (callee d))) (λ rs. ap (λ (fs : List Frame). Ok (enters p.accepted (length fs) (callee d) rs)) (frames s t i e))
  rows_framed Return = refl
  rows_framed ReturnValue = bind_two _ _ _ _ (operands 0) (λ v. refl)
  rows_framed Unreachable = refl
  rows_framed ControlBarrier = bind_two _ _ _ _ triples (λ v. refl)
  rows_framed MemoryBarrier = bind_two _ _ _ _ (operands 0) (λ x. bind_two _ _ _ _ (operands 1) (λ y. refl))
  rows_framed (Atomic op) = atomics (atomic_row op)

-- ---- what is there in one memory is there in the other, of one outline

abbrev Loader : Type 0
Loader = Pointer → Option Value

-- the part where a pointer leads, if there is a pointer and a part, and what is done with it
abbrev at_part : Loader → (Pointer → Value → Result Effect Cause) → Option Pointer → Result Effect Cause
at_part l k o = ok_or o OutOfBounds >>= (λ q. ok_or (l q) OutOfBounds >>= (λ v. k q v))

module _ (l m : Loader) (alike : (q : Pointer) → option_map outline (l q) ≡ option_map outline (m q)) where
  -- where it isn't asked what the part is
  finding : (h k : Pointer → Value → Result Effect Cause) → (o : Option Pointer) → ((q : Pointer) (v w : Value) → o ≡ Some q → l q ≡ Some v → h q v ≡ k q w) → at_part l h o ≡ at_part m k o
  finding h k None same = refl
  finding h k (Some q) same = parts (l q) (m q) refl refl (alike q)
    where
      parts : (a b : Option Value) → l q ≡ a → m q ≡ b → option_map outline a ≡ option_map outline b → (ok_or (l q) OutOfBounds >>= h q) ≡ (ok_or (m q) OutOfBounds >>= k q)
      parts None None x y z = ap (λ (o : Option Value). ok_or o OutOfBounds >>= h q) x ∙ sym (ap (λ (o : Option Value). ok_or o OutOfBounds >>= k q) y)
      parts None (Some w) x y z = cc
      parts (Some v) None x y z = cc
      parts (Some v) (Some w) x y z = ap (λ (o : Option Value). ok_or o OutOfBounds >>= h q) x ∙ same q v w refl x ∙ sym (ap (λ (o : Option Value). ok_or o OutOfBounds >>= k q) y)

  -- where it is read, and nothing fails any more
  reading : (k : Pointer → Value → Effect) (o : Option Pointer) → ((e : Effect) → at_part l (λ q v. Ok (k q v)) o ≡ Ok e → (q : Pointer) → o ≡ Some q → l q ≡ m q)
      → at_part l (λ q v. Ok (k q v)) o ≡ at_part m (λ q v. Ok (k q v)) o
  reading k None same = refl
  reading k (Some q) same = parts (l q) (m q) refl refl (alike q)
    where
      parts : (a b : Option Value) → l q ≡ a → m q ≡ b → option_map outline a ≡ option_map outline b
          → (ok_or (l q) OutOfBounds >>= (λ v. Ok (k q v))) ≡ (ok_or (m q) OutOfBounds >>= (λ v. Ok (k q v)))
      parts None None x y z = ap (λ (o : Option Value). ok_or o OutOfBounds >>= (λ v. Ok (k q v))) (x ∙ sym y)
      parts None (Some w) x y z = cc
      parts (Some v) None x y z = cc
      parts (Some v) (Some w) x y z =
          ap (λ (o : Option Value). ok_or o OutOfBounds >>= (λ v. Ok (k q v))) (same (k q v) (ap (λ (o : Option Value). ok_or o OutOfBounds >>= (λ v. Ok (k q v))) x) q refl)

-- an atomic's target, and what is done with it
abbrev on_target : Loader → (Pointer × Cell → Effect) → Option Pointer → Result Effect Cause
on_target l k o = (ok_or o OutOfBounds >>= (λ q. ok_or (l q) OutOfBounds >>= (λ v. Ok (q, lane_of v)))) >>= (λ t. Ok (k t))

target_part : (l : Loader) (k : Pointer × Cell → Effect) (o : Option Pointer) → on_target l k o ≡ at_part l (λ q v. Ok (k (q, lane_of v))) o
target_part l k None = refl
target_part l k (Some q) = part (l q)
  where
    part : (a : Option Value) → ((ok_or a OutOfBounds >>= (λ v. Ok (q, lane_of v))) >>= (λ t. Ok (k t))) ≡ (ok_or a OutOfBounds >>= (λ v. Ok (k (q, lane_of v))))
    part None = refl
    part (Some v) = refl

first_is : (a b c : Option Value) (v : Value) → (ok_or a NoValue >>= (λ x. ok_or b NoValue >>= (λ y. ok_or c NoValue >>= (λ z. Ok x)))) ≡ Ok v → a ≡ Some v
first_is None b c v h = cc
first_is (Some x) None c v h = cc
first_is (Some x) (Some y) None v h = cc
first_is (Some x) (Some y) (Some z) v h = let same : x ≡ v = cc in ap (λ (w : Value). Some w) same

-- ---- rows, where the frames are the same

module _ (p : Program) (s t : State) (i : ℕ) (f : Frame) (d : Inst) (types : s.memory.types ≡ t.memory.types) (targets : s.memory.targets ≡ t.memory.targets)
    (alike : (q : Pointer) → option_map outline (load_of s.memory i q) ≡ option_map outline (load_of t.memory i q)) where
  abbrev before_it : Loader
  before_it = load_of s.memory i

  abbrev after_it : Loader
  after_it = load_of t.memory i

  -- what is read is the same in both, where the instruction does something
  abbrev Same : Result Effect Cause → Option Pointer → Type 0
  Same r o = (e : Effect) → r ≡ Ok e → (q : Pointer) → o ≡ Some q → load_of s.memory i q ≡ load_of t.memory i q

  abbrev place : Option Value → Option Pointer
  place o = option_and_then (λ v. pointer_in (out-Value v)) o

  abbrev value : ℕ → Option Value
  value n = operand_value p.accepted f (depth_of t i) d n

  loads_row : (o : Option Value) → Same (ok_or o NoValue >>= (λ at. at_part before_it (λ q v. Ok (gives v)) (pointer_in (out-Value at)))) (place o)
      → (ok_or o NoValue >>= (λ at. at_part before_it (λ q v. Ok (gives v)) (pointer_in (out-Value at)))) ≡ (ok_or o NoValue >>= (λ at. at_part after_it (λ q v. Ok (gives v)) (pointer_in (out-Value at))))
  loads_row None same = refl
  loads_row (Some at) same = reading before_it after_it alike (λ q v. gives v) (pointer_in (out-Value at)) same

  abbrev copying : Loader → Value → Value → Result Effect Cause
  copying l to from = at_part l (λ q x. at_part l (λ r v. Ok (sets q v)) (pointer_in (out-Value from))) (pointer_in (out-Value to))

  copies_there : (to from : Value) → Same (copying before_it to from) (pointer_in (out-Value from)) → copying before_it to from ≡ copying after_it to from
  copies_there to from same =
      finding before_it after_it alike (λ q x. at_part before_it (λ r v. Ok (sets q v)) (pointer_in (out-Value from))) (λ q x. at_part after_it (λ r v. Ok (sets q v)) (pointer_in (out-Value from)))
      (pointer_in (out-Value to))
      (λ q v w there found. reading before_it after_it alike (λ r x. sets q x) (pointer_in (out-Value from))
      (λ e is. same e (
      ap (at_part before_it (λ r x. at_part before_it (λ b c. Ok (sets r c)) (pointer_in (out-Value from)))) there
      ∙ ap (λ (o : Option Value). ok_or o OutOfBounds >>= (λ x. at_part before_it (λ b c. Ok (sets q c)) (pointer_in (out-Value from)))) found
      ∙ is
      )))

  copies_row : (a b : Option Value) → Same (ok_or a NoValue >>= (λ to. ok_or b NoValue >>= (λ from. copying before_it to from))) (place b)
      → (ok_or a NoValue >>= (λ to. ok_or b NoValue >>= (λ from. copying before_it to from))) ≡ (ok_or a NoValue >>= (λ to. ok_or b NoValue >>= (λ from. copying after_it to from)))
  copies_row None b same = refl
  copies_row (Some to) None same = refl
  copies_row (Some to) (Some from) same = copies_there to from same

  stores_row : (at v : Value) → at_part before_it (λ q x. Ok (sets q v)) (pointer_in (out-Value at)) ≡ at_part after_it (λ q x. Ok (sets q v)) (pointer_in (out-Value at))
  stores_row at v = finding before_it after_it alike (λ q x. Ok (sets q v)) (λ q x. Ok (sets q v)) (pointer_in (out-Value at)) (λ q x w there found. refl)

  -- ---- atomics

  targets_read : (k : Pointer × Cell → Effect) (o : Option Pointer) → Same (on_target before_it k o) o → on_target before_it k o ≡ on_target after_it k o
  targets_read k o same =
      target_part before_it k o ∙ reading before_it after_it alike (λ q v. k (q, lane_of v)) o (λ e is. same e (target_part before_it k o ∙ is)) ∙ sym (target_part after_it k o)

  targets_found : (k : Pointer → Effect) (o : Option Pointer) → on_target before_it (λ x. k x.0) o ≡ on_target after_it (λ x. k x.0) o
  targets_found k o =
      target_part before_it (λ x. k x.0) o ∙ finding before_it after_it alike (λ q v. Ok (k q)) (λ q v. Ok (k q)) o (λ q x w there found. refl) ∙ sym (target_part after_it (λ x. k x.0) o)

  first_place : (at : Value) → first_of_three p t i f d ≡ Ok at → (q : Pointer) → pointer_in (out-Value at) ≡ Some q → place (value 0) ≡ Some q
  first_place at h q is = ap place (first_is (value 0) (value 1) (value 2) at h) ∙ is

  -- behind the pointer of an atomic
  behind : (k h : Value → Result Effect Cause) → Same (first_of_three p t i f d >>= k) (place (value 0)) → ((at : Value) → Same (k at) (pointer_in (out-Value at)) → k at ≡ h at)
      → (first_of_three p t i f d >>= k) ≡ (first_of_three p t i f d >>= h)
  behind k h same each = bind_at (first_of_three p t i f d) k h
      (λ at is. each at (λ e done q there. same e (ap (λ (r : Result Value Cause). r >>= k) is ∙ done) q (first_place at is q there)))

  -- and behind an operand of it
  further : {A : Type 0} (r : Result A Cause) (k h : A → Result Effect Cause) (o : Option Pointer) → Same (r >>= k) o → ((a : A) → Same (k a) o → k a ≡ h a) → (r >>= k) ≡ (r >>= h)
  further {A = A} r k h o same each = bind_at r k h (λ a is. each a (λ e done q there. same e (ap (λ (x : Result A Cause). x >>= k) is ∙ done) q there))

  atomics_row : (r : AtomicRow) → Same (atomic_by p (framed s t) i f d r) (place (value 0)) → atomic_by p (framed s t) i f d r ≡ atomic_by p t i f d r
  atomics_row loads same = behind _ _ same (λ at now. targets_read (λ x. gives (Scalar x.1)) (pointer_in (out-Value at)) now)
  atomics_row stores same = bind_at (first_of_three p t i f d) _ _ (λ at is. bind_at (scalar p t i f d 3) _ _ (λ v has. targets_found (λ q. sets q (Scalar v)) (pointer_in (out-Value at))))
  atomics_row (counts new) same = behind _ _ same (λ at now. targets_read (λ x. exchanges x.0 (new x.1) x.1) (pointer_in (out-Value at)) now)
  atomics_row (updates new) same =
      behind _ _ same (λ at now. further (scalar p t i f d 3) _ _ (pointer_in (out-Value at)) now (λ v fourth. targets_read (λ x. exchanges x.0 (new x.1 v) x.1) (pointer_in (out-Value at)) fourth))
  atomics_row (compares new) same =
      behind _ _ same (λ at now. further (operand p t i f d 3) _ _ (pointer_in (out-Value at)) now (λ z third. further (scalar p t i f d 4) _ _ (pointer_in (out-Value at)) third (λ v fourth.
      further (scalar p t i f d 5) _ _ (pointer_in (out-Value at)) fourth (λ c fifth. targets_read (λ x. exchanges x.0 (new x.1 v c) x.1) (pointer_in (out-Value at)) fifth))))

  atomic_stores : atomic_by p (framed s t) i f d stores ≡ atomic_by p t i f d stores
  atomic_stores = bind_at (first_of_three p t i f d) _ _ (λ at is. bind_at (scalar p t i f d 3) _ _ (λ v has. targets_found (λ q. sets q (Scalar v)) (pointer_in (out-Value at))))

  by_op : (op : AtomicOp) → Same (atomic_by p (framed s t) i f d (atomic_row op)) (option_and_then (λ n. place (value n)) (atomic_reads op))
      → atomic_by p (framed s t) i f d (atomic_row op) ≡ atomic_by p t i f d (atomic_row op)
  unfolding atomic_row
  by_op atomic.Store same = atomic_stores
  by_op atomic.Load same = atomics_row (atomic_row atomic.Load) same
  by_op atomic.Exchange same = atomics_row (atomic_row atomic.Exchange) same
  by_op atomic.CompareExchange same = atomics_row (atomic_row atomic.CompareExchange) same
  by_op atomic.Increment same = atomics_row (atomic_row atomic.Increment) same
  by_op atomic.Decrement same = atomics_row (atomic_row atomic.Decrement) same
  by_op atomic.Add same = atomics_row (atomic_row atomic.Add) same
  by_op atomic.Sub same = atomics_row (atomic_row atomic.Sub) same
  by_op atomic.SMin same = atomics_row (atomic_row atomic.SMin) same
  by_op atomic.UMin same = atomics_row (atomic_row atomic.UMin) same
  by_op atomic.SMax same = atomics_row (atomic_row atomic.SMax) same
  by_op atomic.UMax same = atomics_row (atomic_row atomic.UMax) same
  by_op atomic.And same = atomics_row (atomic_row atomic.And) same
  by_op atomic.Or same = atomics_row (atomic_row atomic.Or) same
  by_op atomic.Xor same = atomics_row (atomic_row atomic.Xor) same

  -- ---- lengths and chains

  elements_same : (q : Pointer) (member : ℕ) → elements_at (framed s t) i q member ≡ elements_at t i q member
  elements_same q member = ap (λ (o : Option ℕ). if is_shared q.root then o else None)
      (same_counts (load_of s.memory i (member_of q member)) (load_of t.memory i (member_of q member)) (alike (member_of q member)))

  elements_found : (q : Pointer) (o : Option ℕ) → ok_or (option_and_then (elements_at (framed s t) i q) o) OutOfBounds ≡ ok_or (option_and_then (elements_at t i q) o) OutOfBounds
  elements_found q None = refl
  elements_found q (Some member) = ap (λ (o : Option ℕ). ok_or o OutOfBounds) (elements_same q member)

  lengths : (at : Value) → length_of (framed s t) i d at ≡ length_of t i d at
  lengths at = bind_at (pointer at) _ _ (λ q is. elements_found q (literal_operand d 1))

  chained : (q : Pointer) (c : Cell) (cs : List Cell) → ptr_chained s.memory q c cs ≡ ptr_chained t.memory q c cs
  chained q c cs =
      ap (λ (ts : Types). if all_defined (c ∷ cs) then ok_or (option_map (λ path. record { root = q.root; path = extend path cs }) (ptr_moved ts s.memory.targets q c)) OutOfBounds else Err UndefinedIndex) types
      ∙ ap (λ (named : List (ℕ × ℕ)). if all_defined (c ∷ cs) then ok_or (option_map (λ path. record { root = q.root; path = extend path cs }) (ptr_moved t.memory.types named q c)) OutOfBounds else Err UndefinedIndex) targets

  chains : ptr_chain_effect p (framed s t) i f d ≡ ptr_chain_effect p t i f d
  chains = bind_at (operand p t i f d 0) _ _ (λ base a. bind_at (scalar p t i f d 1) _ _ (λ c b. bind_at (indexes_from 2 (operand_value p.accepted f (depth_of t i) d) d) _ _ (λ cs k.
      bind_at (pointer base) _ _ (λ q h. ap (λ (r : Result Pointer Cause). r >>= (λ x. Ok (gives (Ptr x)))) (chained q c cs)))))

  -- ---- all rows

  pub rows_same : (b : Action) → Same (row p (framed s t) i f d b) (option_and_then (λ n. place (value n)) (read_operand b)) → row p (framed s t) i f d b ≡ row p t i f d b
  rows_same Compute same = refl
  rows_same Select same = refl
  rows_same Load same = loads_row (value 0) same
  rows_same Store same = bind_at (operand p t i f d 0) _ _ (λ at a. bind_at (operand p t i f d 1) _ _ (λ v b. stores_row at v))
  rows_same CopyMemory same = copies_row (value 0) (value 1) same
  rows_same Chain same = refl
  rows_same PtrChain same = chains
  rows_same PtrEqual same = refl
  rows_same PtrNotEqual same = refl
  rows_same ArrayLength same = bind_at (operand p t i f d 0) _ _ (λ at a. ap (λ (r : Result ℕ Cause). r >>= (λ n. Ok (gives (Scalar (defined_cell 32 n))))) (lengths at))
  rows_same Branch same = refl
  rows_same BranchConditional same = refl
  rows_same Switch same = refl
  rows_same Call same = refl
  rows_same Return same = refl
  rows_same ReturnValue same = refl
  rows_same Unreachable same = refl
  rows_same ControlBarrier same = refl
  rows_same MemoryBarrier same = refl
  rows_same (Atomic op) same = by_op op same
