-- Operands as code finds them.
use Rattle.std.proofs.Common.{◌≡◌, ◌≢◌, ◌∙◌, ℕ, zero, suc, ◌<◌, false, List, [], ◌∷◌, length, slice_get, Bor, Option, Some, None, Result, Ok, Err, IfOk, refl, sym, ap, subst, arith}
use Rattle.std.proofs.Math.Logic.{∥∥₁_elim}
use Rattle.std.proofs.Props.{props}
use Rattle.std.specs.Coded.{codes}
use Rattle.std.specs.Prelude.{IfSome}
use Rattle.std.specs.Option.{is_some, option_and_then, option_map}
use Rattle.spv_base.specs.Entries.{reads}
use Rattle.spv_base.specs.declared.values.Pointer.{Pointer as Reference}
use Rattle.spv_base.specs.declared.values.Root.{Root}
use Rattle.spv_base.specs.declared.values.Value.{Value as Whole}
use Rattle.spv_index.specs.Definitions.{result_type}
use Rattle.spv_types.specs.Rows.{leaves, no_roots}
use Rattle.spv_consts.specs.Laws.{IsConstantOf}
use Rattle.spv_consts.specs.Table.{Row}
use Rattle.spv_consts.specs.Trees.{tree_of, value_at}
use Rattle.spv_valid.specs.Acceptance.{Accepted}
use Rattle.spv_valid.specs.Meanings.{meaning_of}
use Rattle.spv_valid.specs.Validity.{IsValid}
use Rattle.spv_valid.specs.declared.meanings.Meaning.{Meaning}
use Rattle.spv_valid.specs.declared.meanings.Meaning.TheVariants.{Constant}
use Rattle.spv_frame.specs.declared.functions.Register.{Register}
use Rattle.spv_frame.specs.Frames.{Held}
use Rattle.spv_frame.specs.Registers.{Planned, ids, number_of}
use Rattle.spv_plans.specs.Plans.{id_at, plan_of, plans_in}
use Rattle.spv_plans.specs.Registered.{HasApart, HasNumber, HasValueType, IsAbsent, IsAt, IsOfFunction}
use Rattle.spv_operands.specs.Operands.{IsHeld, IsPlain, pointer_of, shown}
use Rattle.spv_operands.specs.Shapes.{AreShaped}
use Rattle.spv_operands.specs.Values.{pointer_to, register_value, value_by, value_of}
use Rattle.spv_operands.specs.declared.operands.Operand.{Operand}
use Rattle.spv_operands.specs.declared.operands.Operand.TheVariants.{Value, Undefined, Variable, Pointer}
use Rattle.spv_operands.proofs.OperandLemmas.{constant_read}
use Rattle.spv_operands.proofs.ShapeLemmas.{data_plain}
use Rattle.spv_base.proofs.Exports.{out_pointer}

-- ---- pointers

pub variable_pointer : (o : Operand) (r : Root) (p : Reference) → o ≡ Variable r → p ≡ record { root = r; path = [] } → Some p ≡ pointer_of (shown o)
variable_pointer o r p is made =
    let whole : pointer_of (pointer_to r) ≡ Some (record { root = r; path = [] }) = rw (out_pointer (record { root = r; path = [] })) refl in
    ap Some made ∙ sym whole ∙ sym (ap (λ (x : Operand). pointer_of (shown x)) is)

pub lent_pointer : (o : Operand) (b : Bor Reference) → o ≡ Pointer b → Some b.now ≡ pointer_of (shown o)
lent_pointer o b is = sym (rw (out_pointer b.now) refl) ∙ sym (ap (λ (x : Operand). pointer_of (shown x)) is)

-- ---- constants

row_of : (a : Accepted) (id : ℕ) (r : Row) → IsValid a → reads id a.constants ≡ Some r → IsConstantOf a.types a.insts no_roots (id, r)
row_of a id r valid h = constant_read (IsConstantOf a.types a.insts no_roots) a.constants id r (valid.shapes no_roots) h

pub constant_leaves : (a : Accepted) (id : ℕ) (r : Row) (v : Whole) → ∥ IsValid a ∥₁ → Some r ≡ reads id a.constants → v ≡ value_at a.types r.ty r.cells → leaves v ≡ r.cells
constant_leaves a id r v valid h is = ap leaves is ∙ ∥∥₁_elim valid (hlevel (props, codes)) (λ (k : IsValid a). (row_of a id r k (sym h)).row.leaves_are)

pub constant_plain : (a : Accepted) (id : ℕ) (v : Whole) → ∥ IsValid a ∥₁ → Some v ≡ option_map (tree_of a.types) (reads id a.constants) → is_some (pointer_of v) ≡ false
constant_plain a id v valid h = ∥∥₁_elim valid (hlevel (props, codes)) (λ (k : IsValid a). by_row k (reads id a.constants) refl h)
  where
    by_row : IsValid a → (o : Option Row) → reads id a.constants ≡ o → Some v ≡ option_map (tree_of a.types) o → is_some (pointer_of v) ≡ false
    by_row k None e g = absurd (cc)
    by_row k (Some r) e g =
        let same : v ≡ tree_of a.types r = cc in
        subst (λ (x : Whole). is_some (pointer_of x) ≡ false) (sym same) (data_plain a.types k.types r.ty (tree_of a.types r) (row_of a id r k e).row.shape)

-- ---- meanings

pub value_meant : (a : Accepted) (f : Held) (depth id : ℕ) (m : Meaning) → meaning_of a.insts id ≡ Some m → value_by a f depth id m ≡ value_of a f depth id
unfolding value_of
value_meant a f depth id m meant = sym (ap (option_and_then (value_by a f depth id)) meant)

pub value_none : (a : Accepted) (f : Held) (depth id : ℕ) → meaning_of a.insts id ≡ None → value_of a f depth id ≡ None
unfolding value_of
value_none a f depth id none = ap (option_and_then (value_by a f depth id)) none

pub constant_value : (a : Accepted) (f : Held) (depth id : ℕ) (v : Whole) → ((r : Row) → reads id a.constants ≡ Some r → meaning_of a.insts id ≡ Some Constant)
    → Some v ≡ option_map (tree_of a.types) (reads id a.constants) → Some v ≡ value_of a f depth id
constant_value a f depth id v meant h = by_row (reads id a.constants) refl
  where
    by_row : (o : Option Row) → reads id a.constants ≡ o → Some v ≡ value_of a f depth id
    by_row None e = let clash : Some v ≡ None = h ∙ ap (option_map (tree_of a.types)) e in absurd (cc)
    by_row (Some r) e = h ∙ value_meant a f depth id Constant (meant r e)

pub ok_meant : {E : Type 0} (a : Accepted) (f : Held) (depth id : ℕ) (m : Meaning) (result : Result (Option Operand) E) → meaning_of a.insts id ≡ Some m
    → IfOk result (λ o. option_map shown o ≡ value_by a f depth id m) → IfOk result (λ o. option_map shown o ≡ value_of a f depth id)
ok_meant a f depth id m (Ok o) meant h = h ∙ value_meant a f depth id m meant
ok_meant a f depth id m (Err e) meant h = tt

-- ---- registers

get_below : {X : Type 0} (xs : List X) (k : ℕ) (x : X) → slice_get xs k ≡ Some x → k < length xs
get_below [] k x h = absurd (cc)
get_below (y ∷ xs) zero x h = omega arith
get_below (y ∷ xs) (suc k) x h = let below : k < length xs = get_below xs k x h in omega arith

pub found_below : (a : Accepted) (ps : List Planned) (id : ℕ) (r : Register) → ps ≡ plans_in a → IsAt a id r → r.plan < length ps
found_below a ps id r same at = get_below ps r.plan at.plan (ap (λ (qs : List Planned). slice_get qs r.plan) same ∙ at.at)

-- where a register stands that was found, by its plan
pub record StandsIn (a : Accepted) (id : ℕ) (r : Register) (p : Planned) : Type 0 where
  pub at : slice_get (plans_in a) r.plan ≡ Some p
  pub stands : id_at p.values p.pointers r.place ≡ Some id
  pub alone : (k : ℕ) (other : Planned) → slice_get (plans_in a) k ≡ Some other → other.function ≢ p.function → IsAbsent id other

pub found_plan : (a : Accepted) (ps : List Planned) (id : ℕ) (r : Register) (p : Planned) → ps ≡ plans_in a → IsAt a id r → slice_get ps r.plan ≡ Some p → StandsIn a id r p
found_plan a ps id r p same at there =
    let one : Some p ≡ Some at.plan = sym there ∙ ap (λ (qs : List Planned). slice_get qs r.plan) same ∙ at.at in
    let is : p ≡ at.plan = cc in
    record {
      at = at.at ∙ ap Some (sym is);
      stands = subst (λ (q : Planned). id_at q.values q.pointers r.place ≡ Some id) (sym is) at.stands;
      alone = λ k other h apart. at.alone k other h (λ same. apart (same ∙ ap (λ (q : Planned). q.function) (sym is)));
    }

pub plan_same : (a : Accepted) (q p : Planned) → IsOfFunction a q → IsOfFunction a p → p.function ≡ q.function → q ≡ p
plan_same a q p of_q of_p same = of_q.is ∙ ap (plan_of a) (sym same) ∙ sym of_p.is

pub plan_apart : (a : Accepted) (p : Planned) → IsOfFunction a p → HasApart (plan_of a p.function) → HasApart p
plan_apart a p of_p apart = subst HasApart (sym of_p.is) apart

pub absent_value : (f : Held) (id : ℕ) → IsAbsent id f.plan → register_value f id ≡ None
absent_value f id absent = rw (absent.values, absent.pointers) refl

-- the frame's own plan has a number
pub own_plan : (a : Accepted) (p : Planned) → IsOfFunction a p → HasNumber a p.function → (k : ℕ) × (slice_get (plans_in a) k ≡ Some p)
own_plan a p of_p number = (number.number, number.at ∙ ap Some (sym of_p.is))

-- the register of a value has a type
pub type_read : (a : Accepted) (p : Planned) (id n : ℕ) → HasValueType a (plan_of a p.function) id n → (ty : ℕ) × (result_type a.insts id ≡ Some ty)
type_read a p id n type = (type.ty, type.is)

pub held_plain : (a : Accepted) (f : Held) (id : ℕ) (o : Option Operand) → ∥ IsValid a ∥₁ → ∥ AreShaped a f ∥₁ → ((n : ℕ) → number_of id (ids f.plan.values) ≡ Some n → (ty : ℕ) × (result_type a.insts id ≡ Some ty))
    → IfSome o (IsHeld f id) → IfSome o IsPlain
held_plain a f id None valid shaped typed h = tt
held_plain a f id (Some (Value v)) valid shaped typed (n, number, read) =
    let type = typed n number in
    ∥∥₁_elim valid (hlevel (props, codes)) (λ (k : IsValid a). ∥∥₁_elim shaped (hlevel (props, codes)) (λ (s : AreShaped a f). data_plain a.types k.types type.0 v (s.values id type.0 v read type.1)))
held_plain a f id (Some (Undefined b)) valid shaped typed h = absurd h
held_plain a f id (Some (Variable r)) valid shaped typed h = tt
held_plain a f id (Some (Pointer p)) valid shaped typed h = tt
