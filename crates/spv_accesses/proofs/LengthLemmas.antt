-- What the lengths of runtime arrays are.
use Rattle.std.proofs.Common.{◌≡◌, ◌∙◌, ℕ, ◌<◌, ◌^◌, ◌++◌, Bool, true, false, List, [], ◌∷◌, slice_get, Option, Some, None, Result, Ok, Err, ok_or, refl, sym, ap, subst, arith}
use Rattle.std.proofs.Math.Logic.{∥∥₁_map}
use Rattle.std.specs.Option.{option_and_then, option_map, option_map_or}
use Rattle.std.specs.Prelude.{if◌then◌else◌}
use Rattle.spv_base.specs.Variables.{root_id}
use Rattle.spv_base.specs.Entries.{reads}
use Rattle.spv_base.specs.Cell.{IsCell, defined_cell}
use Rattle.spv_base.specs.Parts.{part_at, parts_in}
use Rattle.spv_base.specs.declared.causes.MemErr.{MemErr}
use Rattle.spv_base.specs.declared.causes.MemErr.TheVariants.{UndefinedIndex, OutOfBounds as OutsideMemory, NoMemory}
use Rattle.spv_base.specs.declared.values.Pointer.{Pointer as Reference}
use Rattle.spv_base.specs.declared.values.Root.{Root}
use Rattle.spv_base.specs.declared.values.Root.TheVariants.{Shared, Private, Local}
use Rattle.spv_base.specs.declared.values.Value.{Value, Scalar, out-Value}
use Rattle.spv_ops.specs.Steps.{◌>>=◌}
use Rattle.spv_index.specs.Operands.{literal_operand}
use Rattle.spv_types.specs.declared.forms.Form.{Form}
use Rattle.spv_types.specs.declared.forms.Form.TheVariants.{Void, Bool as Boolean, Int, Vector, Array, Runtime, Struct, Pointer, Function}
use Rattle.spv_types.specs.declared.forms.Member.{Member}
use Rattle.spv_types.specs.Laws.{AreSound}
use Rattle.spv_types.specs.Queries.{member_of as member_type_of}
use Rattle.spv_types.specs.Rows.{no_roots}
use Rattle.spv_types.specs.Rules.{is_runtime}
use Rattle.spv_types.specs.Shapes.{LeadsTo, reached_type}
use Rattle.spv_types.specs.Types.{Types, form_of}
use Rattle.spv_types.proofs.Exports.{shapes_are_by_forms}
use Rattle.spv_bodies.specs.Memory.{KeepsArrayLength}
use Rattle.spv_consts.proofs.Exports.{is_scalar}
use Rattle.spv_mem.specs.Memory.{Held as Memory, Loads, NamesArray, load_of, member_of, root_value}
use Rattle.spv_mem.specs.Targets.{count_in, is_array_at}
use Rattle.spv_results.specs.Operands.{IsResult, known}
use Rattle.spv_state.specs.Actions.{action_of}
use Rattle.spv_state.specs.declared.actions.Action.TheVariants.{ArrayLength}
use Rattle.spv_sites.specs.Effects as spec
use Rattle.spv_sites.specs.Effects.{gives, pointer}
use Rattle.spv_sites.specs.Lengths.{elements_at, is_shared, length_of}
use Rattle.spv_sites.specs.Sites.{IsShaped, IsSite, LeadsToArray, Site, accepted, due, values}
use Rattle.spv_sites.specs.declared.causes.Cause.{Cause}
use Rattle.spv_sites.specs.declared.causes.Cause.TheVariants.{NoValue, OutOfBounds}
use Rattle.spv_accesses.proofs.AccessLemmas.{leads_there, reaches, targets_are, type_in, types_are}
use Rattle.spv_sites.proofs.Exports.{due_by}

-- ---- what is due

abbrev length_from : Site → Option Value → Result spec.Effect Cause
length_from x o = ok_or o NoValue >>= (λ (at : Value). length_of x.state x.inv x.inst at >>= (λ (n : ℕ). Ok (gives (Scalar (defined_cell 32 n)))))

length_due : (x : Site) → action_of x.inst ≡ ArrayLength → due x ≡ length_from x (values x 0)
length_due x is = due_by x ArrayLength is

pub length_missing : (x : Site) → action_of x.inst ≡ ArrayLength → values x 0 ≡ None → due x ≡ Err NoValue
length_missing x is none = length_due x is ∙ ap (length_from x) none

pub length_outside : (x : Site) (at : Value) (cause : Cause) → action_of x.inst ≡ ArrayLength → values x 0 ≡ Some at → length_of x.state x.inv x.inst at ≡ Err cause → due x ≡ Err cause
length_outside x at cause is value outside =
    length_due x is ∙ ap (length_from x) value ∙ ap (λ (r : Result ℕ Cause). r >>= (λ (n : ℕ). Ok (gives (Scalar (defined_cell 32 n))))) outside

pub length_gives : (x : Site) (at : Value) (n : ℕ) → action_of x.inst ≡ ArrayLength → values x 0 ≡ Some at → length_of x.state x.inv x.inst at ≡ Ok n → due x ≡ Ok (gives (Scalar (defined_cell 32 n)))
length_gives x at n is value many =
    length_due x is ∙ ap (length_from x) value ∙ ap (λ (r : Result ℕ Cause). r >>= (λ (n : ℕ). Ok (gives (Scalar (defined_cell 32 n))))) many

-- ---- elements

-- a path that goes on leads nowhere where its front leads nowhere
front_none : (path : List ℕ) (k : ℕ) (v : Value) → part_at v path ≡ None → part_at v (path ++ k ∷ []) ≡ None
front_none [] k v h = absurd (cc)
front_none (i ∷ path) k v h = by_part (front_none path k) (option_and_then (λ vs. slice_get vs i) (parts_in (out-Value v))) h
  where
    by_part : ((u : Value) → part_at u path ≡ None → part_at u (path ++ k ∷ []) ≡ None) → (o : Option Value) → option_and_then (λ u. part_at u path) o ≡ None → option_and_then (λ u. part_at u (path ++ k ∷ [])) o ≡ None
    by_part rest None h = refl
    by_part rest (Some u) h = rest u h

member_none : (m : Memory) (i : ℕ) (q : Reference) (k : ℕ) → load_of m i q ≡ None → load_of m i (member_of q k) ≡ None
member_none m i q k h = by_value (root_value m i q.root) h
  where
    by_value : (o : Option Value) → option_and_then (λ v. part_at v q.path) o ≡ None → option_and_then (λ v. part_at v (q.path ++ k ∷ [])) o ≡ None
    by_value None h = refl
    by_value (Some v) h = front_none q.path k v h

-- the elements of a variable that is not shared, or of a part that isn't there
pub elements_private : (x : Site) (q : Reference) (k : ℕ) → is_shared q.root ≡ false → ok_or (elements_at x.state x.inv q k) OutOfBounds ≡ Err OutOfBounds
elements_private x q k own = ap (λ (b : Bool). ok_or (if b then option_map count_in (load_of x.state.memory x.inv (member_of q k)) else None) OutOfBounds) own

pub elements_outside : (x : Site) (q : Reference) (k : ℕ) → load_of x.state.memory x.inv q ≡ None → ok_or (elements_at x.state x.inv q k) OutOfBounds ≡ Err OutOfBounds
elements_outside x q k none = by_shared (is_shared q.root)
  where
    by_shared : (b : Bool) → ok_or (if b then option_map count_in (load_of x.state.memory x.inv (member_of q k)) else None) OutOfBounds ≡ Err OutOfBounds
    by_shared true = ap (λ (o : Option Value). ok_or (option_map count_in o) OutOfBounds) (member_none x.state.memory x.inv q k none)
    by_shared false = refl

pub elements_there : (x : Site) (q : Reference) (k n : ℕ) → is_shared q.root ≡ true → option_map count_in (load_of x.state.memory x.inv (member_of q k)) ≡ Some n → ok_or (elements_at x.state x.inv q k) OutOfBounds ≡ Ok n
elements_there x q k n shared many =
    ap (λ (b : Bool). ok_or (if b then option_map count_in (load_of x.state.memory x.inv (member_of q k)) else None) OutOfBounds) shared ∙ ap (λ (o : Option ℕ). ok_or o OutOfBounds) many

-- an answer that the part isn't there
pub outside_none : (m : Memory) (i : ℕ) (q : Reference) (e : MemErr) → Loads m i q (Err e) → load_of m i q ≡ None
outside_none m i q UndefinedIndex h = absurd h
outside_none m i q OutsideMemory h = h
outside_none m i q NoMemory h = absurd h

-- ---- the block

shared_id : (r : Root) → is_shared r ≡ true → (id : ℕ) × (r ≡ Shared id)
shared_id (Shared id) h = (id, refl)
shared_id (Private id) h = absurd (cc)
shared_id (Local depth id) h = absurd (cc)

shared_value : (m : Memory) (i : ℕ) (q : Reference) (id : ℕ) (v : Value) → q.root ≡ Shared id → load_of m i q ≡ Some v → (w : Value) × (reads id m.shared ≡ Some w)
shared_value m i q id v shared h = by_value (reads id m.shared) refl (sym (ap (λ (r : Root). option_and_then (λ (w : Value). part_at w q.path) (root_value m i r)) shared) ∙ h)
  where
    by_value : (o : Option Value) → reads id m.shared ≡ o → option_and_then (λ (w : Value). part_at w q.path) o ≡ Some v → (w : Value) × (reads id m.shared ≡ Some w)
    by_value None e h = absurd (cc)
    by_value (Some w) e h = (w, e)

pub names_array : (m : Memory) (i : ℕ) (q : Reference) (k : ℕ) (v : Value) → ∥ LeadsToArray m q k ∥₁ → is_shared q.root ≡ true → load_of m i q ≡ Some v → ∥ NamesArray m q k ∥₁
names_array m i q k v leads shared load =
    let id = shared_id q.root shared in
    let value = shared_value m i q id.0 v id.1 load in
    ∥∥₁_map leads (λ (l : LeadsToArray m q k). record {
      id = id.0;
      shared = id.1;
      value = value.0;
      there = value.1;
      type = l.type;
      named = ap (λ (r : Root). reads (root_id r) m.targets) (sym id.1) ∙ l.named;
      block = l.block;
      leads = l.leads;
      array = l.array;
    })

-- ---- what acceptance gives

member_array : (ts : Types) (o : Option Form) (k ty element : ℕ) (stride : Option ℕ) → member_type_of o k ≡ Some ty → form_of ts ty ≡ Some (Runtime element stride) → is_array_at ts o k ≡ true
member_array ts None k ty element stride h is = absurd (cc)
member_array ts (Some Void) k ty element stride h is = absurd (cc)
member_array ts (Some Boolean) k ty element stride h is = absurd (cc)
member_array ts (Some (Int width sign)) k ty element stride h is = absurd (cc)
member_array ts (Some (Vector component count)) k ty element stride h is = absurd (cc)
member_array ts (Some (Array part length step)) k ty element stride h is = absurd (cc)
member_array ts (Some (Runtime part step)) k ty element stride h is = absurd (cc)
member_array ts (Some (Struct members block)) k ty element stride h is = by_member (slice_get members k) h
  where
    by_member : (o : Option Member) → option_map (λ (m : Member). m.ty) o ≡ Some ty → option_map_or (λ (m : Member). is_runtime (form_of ts m.ty)) o false ≡ true
    by_member None h = absurd (cc)
    by_member (Some m) h = let same : m.ty ≡ ty = cc in ap (λ (t : ℕ). is_runtime (form_of ts t)) same ∙ ap is_runtime is
member_array ts (Some (Pointer class target)) k ty element stride h is = absurd (cc)
member_array ts (Some (Function returns parameters)) k ty element stride h is = absurd (cc)

-- the type of the variable
variable_type : (x : Site) (q : Reference) (target : ℕ) → LeadsTo (accepted x).types (type_in (accepted x)) q target → (type : ℕ) × (type_in (accepted x) q.root ≡ Some type)
variable_type x q target leads = by_type (type_in (accepted x) q.root) refl leads
  where
    by_type : (o : Option ℕ) → type_in (accepted x) q.root ≡ o → option_and_then (λ t. reached_type (accepted x).types t q.path) o ≡ Some target → (type : ℕ) × (type_in (accepted x) q.root ≡ Some type)
    by_type None e h = absurd (cc)
    by_type (Some t) e h = (t, e)

pub leads_to_array : (x : Site) (sound : AreSound (accepted x).types) (site : ∥ IsSite x ∥₁) (at : Value) → IsShaped (accepted x) x.inst 0 at → KeepsArrayLength (known (accepted x)) x.inst
    → (q : Reference) (k : ℕ) → pointer at ≡ Ok q → literal_operand x.inst 1 ≡ Some k → ∥ LeadsToArray x.state.memory q k ∥₁
leads_to_array x sound site at shaped kept q k place literal =
    let points = kept.1 in
    let block = points.0.target in
    let leads : LeadsTo (accepted x).types (type_in (accepted x)) q block = leads_there (accepted x) sound x.inst 0 at shaped points.0 points.1 q place in
    let type = variable_type x q block leads in
    let types = types_are x site in
    let targets = targets_are x site in
    let named : reads (root_id q.root) x.state.memory.targets ≡ Some type.0 = ap (reads (root_id q.root)) targets ∙ type.1 in
    let member = points.2 in
    let of_block : member_type_of (form_of (accepted x).types block) k ≡ Some member.0
    = sym (ap (option_and_then (member_type_of (form_of (accepted x).types block))) literal) ∙ member.1 in
    ∣ record {
      type = type.0;
      named = named;
      block = block;
      leads = reaches x.state.memory (accepted x) types targets q block leads type.0 named;
      array = subst (λ (ts : Types). is_array_at ts (form_of ts block) k ≡ true) (sym types) (member_array (accepted x).types (form_of (accepted x).types block) k member.0 member.2.0 member.2.1 of_block member.2.2);
    } ∣₁

-- the number has the type of the result
pub length_shape : (x : Site) (n : ℕ) → AreSound (accepted x).types → KeepsArrayLength (known (accepted x)) x.inst → n < 2 ^ 32 → IsResult (accepted x) x.inst (Scalar (defined_cell 32 n))
length_shape x n sound kept small =
    let lane : IsCell (defined_cell 32 n) = record { narrow = omega arith; fits = small; zero = λ h. absurd (cc) } in
    (shapes_are_by_forms (accepted x).types no_roots sound x.inst.ty (Int 32 kept.0.0) (Scalar (defined_cell 32 n)) kept.0.1).1 (is_scalar (defined_cell 32 n) 32 refl lane)
