-- What atomics do, and where their pointers lead.
use Rattle.std.proofs.Common.{◌≡◌, ◌∙◌, ℕ, ◌<◌, ◌≤◌, true, List, Option, Some, None, IsSome, Ok, slice_index_or, refl, sym, ap, subst, arith}
use Rattle.std.proofs.Math.Logic.{∥∥₁_elim}
use Rattle.std.proofs.lemmas.Bool.{and_parts}
use Rattle.std.specs.Prelude.{nat_le}
use Rattle.std.specs.List.{AllByRecursion}
use Rattle.std.specs.Option.{IsSomeAnd, option_and_then}
use Rattle.spv_base.specs.Variables.{root_id}
use Rattle.spv_base.specs.Entries.{reads}
use Rattle.spv_base.specs.Cell.{IsCell, Cell, undefined_cell}
use Rattle.spv_effects.specs.Lanes.{lane_of}
use Rattle.spv_base.specs.declared.instructions.Inst.{Inst}
use Rattle.spv_base.specs.declared.values.Pointer.{Pointer as Reference}
use Rattle.spv_base.specs.declared.values.Root.{Root}
use Rattle.spv_base.specs.declared.values.Value.{Value, Scalar, out-Value}
use Rattle.spv_base.proofs.Exports.{out_scalar, reads_each}
use Rattle.spv_types.specs.declared.forms.Form.{Form}
use Rattle.spv_types.specs.declared.forms.Form.TheVariants.{Int}
use Rattle.spv_types.specs.declared.queries.Pointed.{Pointed}
use Rattle.spv_types.specs.Laws.{AreSound}
use Rattle.spv_types.specs.Rows.{no_roots}
use Rattle.spv_types.specs.Rules.{is_width}
use Rattle.spv_types.specs.Shapes.{HasShape, IsScalar, LeadsTo, reached_type, scalar_in}
use Rattle.spv_types.specs.Types.{Types, form_of}
use Rattle.spv_types.proofs.Exports.{shapes_are_by_forms, leaves_scalar}
use Rattle.spv_alu.specs.Integers.{IsWidth}
use Rattle.spv_bodies.specs.Bodies.{KeepsRule}
use Rattle.spv_bodies.specs.Context.{HasType, IsPointerTo, form_at, type_at}
use Rattle.spv_bodies.specs.Rules.{atomic_rule, composite_rule, control_rule, memory_rule, other_rule, rule_of}
use Rattle.spv_mem.specs.Conditions.{integer_width, width_at}
use Rattle.spv_mem.specs.Memory.{Held as Memory, IsMemory, IsScalarAt, MayStore, load_of}
use Rattle.spv_mem.proofs.Exports.{may_if, scalar_if}
use Rattle.spv_valid.specs.Acceptance.{Accepted}
use Rattle.spv_initial.specs.Start.{variables}
use Rattle.spv_initial.specs.Variables.{targets_of}
use Rattle.spv_results.specs.Operands.{IsOperand, known}
use Rattle.spv_results.proofs.Exports.{HasForm, form_has_type, shape_prop}
use Rattle.spv_state.specs.Actions.{atomic_op, atomics}
use Rattle.spv_state.specs.declared.actions.AtomicOp.{AtomicOp}
use Rattle.spv_state.specs.declared.actions.AtomicOp.TheVariants as atomic
use Rattle.spv_accesses.specs.AtomicSites.{IsIntegerAt, IsTarget, KeepsRow, LeadsToInteger}
use Rattle.spv_sites.specs.Atomics.{atomic_row}
use Rattle.spv_sites.specs.Effects.{pointer}
use Rattle.spv_sites.specs.Fits.{StoreFits}
use Rattle.spv_sites.specs.Sites.{IsShaped, IsSite, Site, accepted}
use Rattle.spv_accesses.proofs.AccessLemmas.{leads_there, part_shape, targets_are, type_in, types_are}
use Rattle.spv_sites.proofs.Exports.{key_passes, is_plain_code, alone}

-- ---- the rules

-- the opcode of each atomic
abbrev code_of : AtomicOp → ℕ
code_of atomic.Load = 227
code_of atomic.Store = 228
code_of atomic.Exchange = 229
code_of atomic.CompareExchange = 230
code_of atomic.Increment = 232
code_of atomic.Decrement = 233
code_of atomic.Add = 234
code_of atomic.Sub = 235
code_of atomic.SMin = 236
code_of atomic.UMin = 237
code_of atomic.SMax = 238
code_of atomic.UMax = 239
code_of atomic.And = 240
code_of atomic.Or = 241
code_of atomic.Xor = 242

atomics_are : AllByRecursion (λ (e : ℕ × AtomicOp). e.0 ≡ code_of e.1) atomics
atomics_are = (refl, (refl, (refl, (refl, (refl, (refl, (refl, (refl, (refl, (refl, (refl, (refl, (refl, (refl, (refl, tt)))))))))))))))

atomic_code : (op : ℕ) (x : AtomicOp) → atomic_op op ≡ Some x → op ≡ code_of x
unfolding atomic_op
atomic_code op x h = reads_each (λ (k : ℕ) (y : AtomicOp). k ≡ code_of y) op x atomics atomics_are h

-- it ends no block, and its rule looks at it alone
pub atomic_plain : (op : ℕ) (x : AtomicOp) → atomic_op op ≡ Some x → is_plain_code op ≡ true
unfolding atomic_op memory_rule atomic_rule composite_rule control_rule other_rule
atomic_plain op x h = key_passes is_plain_code op x atomics refl h

pub keeps_atomic : (a : Accepted) (i : Inst) (x : AtomicOp) → atomic_op i.op ≡ Some x → KeepsRule (known a) (alone i) (rule_of i.op) → KeepsRow a i (atomic_row x)
unfolding atomic_row memory_rule atomic_rule composite_rule control_rule other_rule
keeps_atomic a i x is kept = by_code x (subst (λ (op : ℕ). KeepsRule (known a) (alone i) (rule_of op)) (atomic_code i.op x is) kept)
  where
    by_code : (y : AtomicOp) → KeepsRule (known a) (alone i) (rule_of (code_of y)) → KeepsRow a i (atomic_row y)
    by_code atomic.Load h = h
    by_code atomic.Store h = h
    by_code atomic.Exchange h = h
    by_code atomic.CompareExchange h = h
    by_code atomic.Increment h = h
    by_code atomic.Decrement h = h
    by_code atomic.Add h = h
    by_code atomic.Sub h = h
    by_code atomic.SMin h = h
    by_code atomic.UMin h = h
    by_code atomic.SMax h = h
    by_code atomic.UMax h = h
    by_code atomic.And h = h
    by_code atomic.Or h = h
    by_code atomic.Xor h = h

-- ---- integers

-- a scalar of an integer type has the type's width
pub scalar_shape : (ts : Types) (roots : Root → Option ℕ) (ty width sign : ℕ) (c : Cell) → AreSound ts → form_of ts ty ≡ Some (Int width sign) → HasShape ts roots ty (Scalar c) → (c.width ≡ width) × IsCell c
scalar_shape ts roots ty width sign c sound is shape =
    let scalar : IsScalar width (Scalar c) = (shapes_are_by_forms ts roots sound ty (Int width sign) (Scalar c) is).0 shape in
    subst (λ l. IsSomeAnd (scalar_in l) (λ d. (d.width ≡ width) × IsCell d)) (out_scalar c) scalar

-- two scalars of one integer type have one width
pub one_width : (ts : Types) (ty width sign : ℕ) (c d : Cell) → AreSound ts → form_of ts ty ≡ Some (Int width sign) → HasShape ts no_roots ty (Scalar c) → HasShape ts no_roots ty (Scalar d) → c.width ≡ d.width
one_width ts ty width sign c d sound is first second =
    (scalar_shape ts no_roots ty width sign c sound is first).0 ∙ sym (scalar_shape ts no_roots ty width sign d sound is second).0

width_fits : (w : ℕ) → is_width w ≡ true → IsWidth w
width_fits w h = (some w h, narrow w h)
  where
    some : (w : ℕ) → is_width w ≡ true → 0 < w
    some w h = grind arith

    narrow : (w : ℕ) → is_width w ≡ true → w ≤ 64
    narrow w h = grind arith

integer_fits : (ts : Types) (ty width sign : ℕ) → AreSound ts → form_of ts ty ≡ Some (Int width sign) → IsWidth width
integer_fits ts ty width sign sound is = width_fits width (and_parts (is_width width) (nat_le sign 1) (sound.kept ty (Int width sign) is)).0

then_is : (f g : ℕ → Option ℕ) (o : Option ℕ) (t : ℕ) → option_and_then f o ≡ Some t → option_and_then (λ (y : ℕ). option_and_then g (f y)) o ≡ g t
then_is f g None t h = absurd (cc)
then_is f g (Some y) t h = ap (option_and_then g) h

-- the width of the integers where a pointer leads
width_is : (m : Memory) (a : Accepted) (q : Reference) (target width sign : ℕ) → m.types ≡ a.types → m.targets ≡ targets_of (variables a) → LeadsTo a.types (type_in a) q target
    → form_of a.types target ≡ Some (Int width sign) → width_at m q ≡ Some width
width_is m a q target width sign types targets leads is =
    ap (λ (ts : Types). option_and_then (λ (type : ℕ). option_and_then (λ (t : ℕ). integer_width (form_of ts t)) (reached_type ts type q.path)) (reads (root_id q.root) m.targets)) types
    ∙ ap (λ (es : List (ℕ × ℕ)). option_and_then (λ (type : ℕ). option_and_then (λ (t : ℕ). integer_width (form_of a.types t)) (reached_type a.types type q.path)) (reads (root_id q.root) es)) targets
    ∙ then_is (λ (type : ℕ). reached_type a.types type q.path) (λ (t : ℕ). integer_width (form_of a.types t)) (reads (root_id q.root) (targets_of (variables a))) target leads
    ∙ ap integer_width is

-- ---- where the pointer leads

one_target : (o : Option Form) (p r : Pointed) → IsPointerTo o p → IsPointerTo o r → p.target ≡ r.target
one_target o p r first second = let same = sym first ∙ second in cc

module _ (x : Site) (sound : AreSound (accepted x).types) (memory : ∥ IsMemory x.state.memory ∥₁) (site : ∥ IsSite x ∥₁) (at : Value) (shaped : IsShaped (accepted x) x.inst 0 at) (rule : LeadsToInteger (accepted x) x.inst) (q : Reference) (place : pointer at ≡ Ok q) where
  form : form_of (accepted x).types rule.0.target ≡ Some (Int rule.2.1.0 rule.2.1.1)
  form = rule.2.1.2

  leads : LeadsTo (accepted x).types (type_in (accepted x)) q rule.0.target
  leads = leads_there (accepted x) sound x.inst 0 at shaped rule.0 rule.1 q place

  width : width_at x.state.memory q ≡ Some rule.2.1.0
  width = width_is x.state.memory (accepted x) q rule.0.target rule.2.1.0 rule.2.1.1 (types_are x site) (targets_are x site) leads form

  pub scalar_there : IsScalarAt x.state.memory x.inv q
  scalar_there = scalar_if x.state.memory q (Some rule.2.1.0) memory (sym width) x.inv

  pub is_target : (old : Cell) → load_of x.state.memory x.inv q ≡ Some (Scalar old) → IsTarget x (q, old)
  is_target old there =
      let shape : HasShape (accepted x).types no_roots rule.0.target (Scalar old)
      = ∥∥₁_elim memory (shape_prop (accepted x).types no_roots rule.0.target (Scalar old)) (λ (m : IsMemory x.state.memory).
      part_shape x.state.memory (accepted x) (types_are x site) (targets_are x site) q rule.0.target leads x.inv (Scalar old) m there) in
      let same : old.width ≡ rule.2.1.0 = (scalar_shape (accepted x).types no_roots rule.0.target rule.2.1.0 rule.2.1.1 old sound form shape).0 in
      record {
        there = there;
        leads = width ∙ ap (λ (n : ℕ). Some n) (sym same);
        width = subst IsWidth (sym same) (integer_fits (accepted x).types rule.0.target rule.2.1.0 rule.2.1.1 sound form);
        typed = λ p points.
            subst (λ (ty : ℕ). HasShape (accepted x).types no_roots ty (Scalar old)) (one_target (form_at (known (accepted x)) x.inst 0) rule.0 p rule.1 points) shape;
      }

-- ---- scalars as lanes

pub lane_scalar : (v : Value) (c : Cell) → v ≡ Scalar c → lane_of v ≡ c
lane_scalar v c is = ap lane_of is ∙ ap (λ (ls : List Cell). slice_index_or ls 0 (undefined_cell 0)) (leaves_scalar c)

-- an operand of an integer type is a scalar
pub scalar_operand : (a : Accepted) (d : Inst) (n : ℕ) (v : Value) → AreSound a.types → IsIntegerAt a d n → IsOperand a d n v → IsSome (scalar_in (out-Value v))
scalar_operand a d n v sound integer operand =
    let form : HasForm a.types (type_at (known a) d n) (Int integer.0 integer.1) = form_has_type a.types (type_at (known a) d n) (Int integer.0 integer.1) integer.2 in
    let scalar : IsScalar integer.0 v = (shapes_are_by_forms a.types no_roots sound form.type (Int integer.0 integer.1) v form.form).0 (operand form.type form.is) in
    some_scalar (scalar_in (out-Value v)) scalar
  where
    some_scalar : (o : Option Cell) → IsSomeAnd o (λ d. (d.width ≡ integer.0) × IsCell d) → IsSome o
    some_scalar None h = absurd h
    some_scalar (Some c) h = refl

-- ---- by the rules

-- an operand of the type to which the pointer leads is an integer
pub integer_at : (a : Accepted) (d : Inst) (n : ℕ) (rule : LeadsToInteger a d) → HasType (known a) d n rule.0.target → IsIntegerAt a d n
integer_at a d n rule type = (rule.2.1.0, rule.2.1.1, ap (option_and_then (form_of a.types)) type ∙ rule.2.1.2)

module _ (x : Site) (sound : AreSound (accepted x).types) (rule : LeadsToInteger (accepted x) x.inst) (t : Reference × Cell) (is : IsTarget x t) where
  -- it has the width of the integer there
  pub value_width : (n : ℕ) (c : Cell) → HasType (known (accepted x)) x.inst n rule.0.target → IsOperand (accepted x) x.inst n (Scalar c) → c.width ≡ t.1.width
  value_width n c type operand = one_width (accepted x).types rule.0.target rule.2.1.0 rule.2.1.1 c t.1 sound rule.2.1.2 (operand rule.0.target type) (is.typed rule.0 rule.1)

-- another integer of its width may be stored
pub exchange_fits : (x : Site) (t : Reference × Cell) (is : IsTarget x t) (memory : ∥ IsMemory x.state.memory ∥₁) (new : Cell) (v : Value) → v ≡ Scalar new → IsCell new → new.width ≡ t.1.width → StoreFits x.state x.inv (Some (t.0, v))
exchange_fits x t is memory new v put lane width = (
  subst (λ (o : Option Value). IsSome o) (sym is.there) refl,
  subst (λ (u : Value). ∥ MayStore x.state.memory x.inv t.0 u ∥₁) (sym put) (may_if x.state.memory t.0 (Some t.1.width) memory (sym is.leads) x.inv new width lane),
)
