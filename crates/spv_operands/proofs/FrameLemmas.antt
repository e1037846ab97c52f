-- Frames whose registers hold values of their types stay so.
use Rattle.std.proofs.Common.{◌≡◌, ◌⊎◌, ◌∙◌, inl, inr, ℕ, ◌==◌, Bool, true, false, List, [], ◌∷◌, Option, Some, None, refl, sym, subst}
use Rattle.std.proofs.lemmas.Bool.{eqb-true}
use Rattle.spv_frame.proofs.Exports.{plan_stays}
use Rattle.std.specs.Prelude.{if◌then◌else◌}
use Rattle.std.specs.List.{AllZip}
use Rattle.spv_base.specs.Entries.{reads, writes}
use Rattle.spv_base.specs.declared.values.Pointer.{Pointer}
use Rattle.spv_base.specs.declared.values.Value.{Value, Ptr}
use Rattle.spv_index.specs.Definitions.{result_type}
use Rattle.spv_types.specs.Rows.{no_roots}
use Rattle.spv_types.specs.Shapes.{HasShape}
use Rattle.spv_frame.specs.declared.contents.Argument.{Argument}
use Rattle.spv_frame.specs.declared.contents.Argument.TheVariants.{Value as Data, Pointer as Lent}
use Rattle.spv_frame.specs.declared.slots.Place.{Place}
use Rattle.spv_frame.specs.declared.slots.Place.TheVariants.{Value as ValueAt, Pointer as PointerAt}
use Rattle.spv_frame.specs.Calls.{entered, id_at, with_argument, with_arguments}
use Rattle.spv_frame.specs.Frames.{Held, fresh, none}
use Rattle.spv_frame.specs.Registers.{Planned, ids}
use Rattle.spv_valid.specs.Acceptance.{Accepted}
use Rattle.spv_operands.specs.Shapes.{AreShaped, AreShapedArguments, IsShapedArgument, target_in}

-- ---- entries

-- no value under an id
none_read : {X : Type 0} (ks : List ℕ) (id : ℕ) (x : X) → reads id (none ks) ≡ Some (Some x) → ⊥
none_read [] id x h = cc
none_read {X} (k ∷ ks) id x h = by_test (k == id) h (none_read ks id x)
  where
    by_test : (b : Bool) → (if b then Some None else reads id (none ks)) ≡ Some (Some x) → (reads id (none ks) ≡ Some (Some x) → ⊥) → ⊥
    by_test true e behind = cc
    by_test false e behind = behind e

-- what is read after a write: what was written, under its id, or what was there
abbrev pub IsWritten : {X : Type 0} → ℕ → X → List (ℕ × X) → ℕ → X → Type 0
IsWritten id new es q x = ((id ≡ q) × (new ≡ x)) ⊎ (reads q es ≡ Some x)

written_read : {X : Type 0} (id : ℕ) (new : X) (es : List (ℕ × X)) (q : ℕ) (x : X) → reads q (writes id new es) ≡ Some x → IsWritten id new es q x
written_read id new [] q x h = inr h
written_read {X} id new (e ∷ es) q x h = by_id (e.0 == id) refl h (written_read id new es q x)
  where
    at_first : (c : Bool) → (e.0 == id) ≡ true → (e.0 == q) ≡ c → (if c then Some new else reads q es) ≡ Some x → IsWritten id new (e ∷ es) q x
    at_first true own here g = let same : new ≡ x = cc in inl (sym (eqb-true e.0 id own) ∙ eqb-true e.0 q here, same)
    at_first false own here g = inr (rw here g)

    by_rest : (e.0 == q) ≡ false → IsWritten id new es q x → IsWritten id new (e ∷ es) q x
    by_rest here (inl own) = inl own
    by_rest here (inr there) = inr (rw here there)

    later : (c : Bool) → (e.0 == q) ≡ c → (if c then Some e.1 else reads q (writes id new es)) ≡ Some x → (reads q (writes id new es) ≡ Some x → IsWritten id new es q x) → IsWritten id new (e ∷ es) q x
    later true here g behind = inr (rw here g)
    later false here g behind = by_rest here (behind g)

    by_id : (b : Bool) → (e.0 == id) ≡ b → reads q (if b then (e.0, new) ∷ es else e ∷ writes id new es) ≡ Some x → (reads q (writes id new es) ≡ Some x → IsWritten id new es q x) → IsWritten id new (e ∷ es) q x
    by_id true own g behind = at_first (e.0 == q) own refl g
    by_id false own g behind = later (e.0 == q) refl g behind

-- two types of one id are one
type_same : (o : Option ℕ) (t u : ℕ) → o ≡ Some t → o ≡ Some u → t ≡ u
type_same o t u h g = let same : Some t ≡ Some u = sym h ∙ g in cc

-- ---- frames

pub fresh_shaped : (a : Accepted) (p : Planned) → AreShaped a (fresh p)
fresh_shaped a p = record {
  values = λ id ty v h type. absurd (none_read (ids p.values) id v h);
  pointers = λ id ty q h type. absurd (none_read p.pointers id q h);
}

-- a register takes a value of its type, or has none again
pub value_shaped : (a : Accepted) (f : Held) (id : ℕ) (new : Option Value) → AreShaped a f → ((ty : ℕ) (v : Value) → new ≡ Some v → result_type a.insts id ≡ Some ty → HasShape a.types no_roots ty v)
    → AreShaped a (record f { values = writes id new f.values })
value_shaped a f id new shaped own = record {
  values = λ q ty v h type. by_write q ty v type (written_read id new f.values q (Some v) h);
  pointers = shaped.pointers;
}
  where
    by_write : (q ty : ℕ) (v : Value) → result_type a.insts q ≡ Some ty → IsWritten id new f.values q (Some v) → HasShape a.types no_roots ty v
    by_write q ty v type (inl (same, is)) = own ty v is (subst (λ (k : ℕ). result_type a.insts k ≡ Some ty) (sym same) type)
    by_write q ty v type (inr there) = shaped.values q ty v there type

pub pointer_shaped : (a : Accepted) (f : Held) (id : ℕ) (new : Option Pointer) → AreShaped a f → ((ty : ℕ) (p : Pointer) → new ≡ Some p → result_type a.insts id ≡ Some ty → HasShape a.types (target_in a ty) ty (Ptr p))
    → AreShaped a (record f { pointers = writes id new f.pointers })
pointer_shaped a f id new shaped own = record {
  values = shaped.values;
  pointers = λ q ty p h type. by_write q ty p type (written_read id new f.pointers q (Some p) h);
}
  where
    by_write : (q ty : ℕ) (p : Pointer) → result_type a.insts q ≡ Some ty → IsWritten id new f.pointers q (Some p) → HasShape a.types (target_in a ty) ty (Ptr p)
    by_write q ty p type (inl (same, is)) = own ty p is (subst (λ (k : ℕ). result_type a.insts k ≡ Some ty) (sym same) type)
    by_write q ty p type (inr there) = shaped.pointers q ty p there type

-- the value that a register takes has the shape of its id's type
given_shape : (a : Accepted) (id : ℕ) (v : Value) → ((ty : ℕ) → result_type a.insts id ≡ Some ty → HasShape a.types no_roots ty v)
    → (ty : ℕ) (w : Value) → Some v ≡ Some w → result_type a.insts id ≡ Some ty → HasShape a.types no_roots ty w
given_shape a id v own ty w is type = let same : v ≡ w = cc in subst (HasShape a.types no_roots ty) same (own ty type)

given_pointer : (a : Accepted) (id : ℕ) (p : Pointer) → ((ty : ℕ) → result_type a.insts id ≡ Some ty → HasShape a.types (target_in a ty) ty (Ptr p))
    → (ty : ℕ) (q : Pointer) → Some p ≡ Some q → result_type a.insts id ≡ Some ty → HasShape a.types (target_in a ty) ty (Ptr q)
given_pointer a id p own ty q is type = let same : p ≡ q = cc in subst (λ (x : Pointer). HasShape a.types (target_in a ty) ty (Ptr x)) same (own ty type)

pub taken_shape : (a : Accepted) (id ty : ℕ) (v : Value) → result_type a.insts id ≡ Some ty → HasShape a.types no_roots ty v
    → (t : ℕ) (w : Value) → Some v ≡ Some w → result_type a.insts id ≡ Some t → HasShape a.types no_roots t w
taken_shape a id ty v type shape =
    given_shape a id v (λ t other. subst (λ (k : ℕ). HasShape a.types no_roots k v) (type_same (result_type a.insts id) ty t type other) shape)

pub taken_pointer : (a : Accepted) (id ty : ℕ) (p : Pointer) → result_type a.insts id ≡ Some ty → HasShape a.types (target_in a ty) ty (Ptr p)
    → (t : ℕ) (q : Pointer) → Some p ≡ Some q → result_type a.insts id ≡ Some t → HasShape a.types (target_in a t) t (Ptr q)
taken_pointer a id ty p type shape =
    given_pointer a id p (λ t other. subst (λ (k : ℕ). HasShape a.types (target_in a k) k (Ptr p)) (type_same (result_type a.insts id) ty t type other) shape)

-- ---- arguments

argument_shaped : (a : Accepted) (f : Held) (place : Place) (x : Argument) → AreShaped a f → IsShapedArgument a f.plan place x → AreShaped a (with_argument f place x)
argument_shaped a f (ValueAt n) (Data v) shaped own = value_shaped a f (id_at (ids f.plan.values) n) (Some v) shaped (given_shape a (id_at (ids f.plan.values) n) v own)
argument_shaped a f (ValueAt n) (Lent q) shaped own = shaped
argument_shaped a f (PointerAt n) (Data v) shaped own = shaped
argument_shaped a f (PointerAt n) (Lent q) shaped own = pointer_shaped a f (id_at f.plan.pointers n) (Some q.now) shaped (given_pointer a (id_at f.plan.pointers n) q.now own)

arguments_shaped : (a : Accepted) (p : Planned) (places : List Place) (xs : List Argument) (f : Held) → f.plan ≡ p → AreShaped a f → AllZip (IsShapedArgument a p) places xs
    → AreShaped a (with_arguments places xs f)
arguments_shaped a p [] xs f plan shaped own = shaped
arguments_shaped a p (place ∷ places) [] f plan shaped own = shaped
arguments_shaped a p (place ∷ places) (x ∷ xs) f plan shaped own =
    arguments_shaped a p places xs (with_argument f place x) (plan_stays f place x ∙ plan)
    (argument_shaped a f place x shaped (subst (λ (q : Planned). IsShapedArgument a q place x) (sym plan) own.0)) own.1

-- a frame as a call begins it
pub entered_shaped : (a : Accepted) (p : Planned) (xs : List Argument) → AreShapedArguments a p xs → AreShaped a (entered p xs)
entered_shaped a p xs own = arguments_shaped a p p.parameters xs (fresh p) refl (fresh_shaped a p) own
