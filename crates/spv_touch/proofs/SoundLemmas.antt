-- What an event stores in a sound state of an accepted module has the outline of what was there: both are of the type to which the pointer's
-- type points.
use Rattle.std.proofs.Common.{◌≡◌, ◌∙◌, not, ℕ, ◌<◌, Bool, true, false, [], Option, Some, None, Result, Ok, Err, ok_or, length, slice_get, refl, sym, ap, subst}
use Rattle.std.proofs.Math.Logic.{∥∥₁_elim}
use Rattle.std.proofs.lemmas.Bool.{and_parts}
use Rattle.std.proofs.lemmas.Option.{slice_get_within}
use Rattle.std.specs.Prelude.{if◌then◌else◌, ⊤}
use Rattle.std.specs.Option.{option_and_then, option_map_or}
use Rattle.spv_base.specs.Cell.{Cell}
use Rattle.spv_base.specs.Entries.{reads}
use Rattle.spv_base.specs.Parts.{part_at}
use Rattle.spv_base.specs.Variables.{root_id}
use Rattle.spv_base.specs.declared.instructions.Inst.{Inst}
use Rattle.spv_base.specs.declared.values.Pointer.{Pointer as Reference}
use Rattle.spv_base.specs.declared.values.Value.{Value, Scalar, out-Value}
use Rattle.spv_base.proofs.Exports.{reads_each}
use Rattle.spv_index.specs.Definitions.{at}
use Rattle.spv_index.specs.Operands.{id_operand}
use Rattle.spv_ops.specs.Steps.{◌>>=◌}
use Rattle.spv_types.specs.declared.forms.Form.{Form}
use Rattle.spv_types.specs.declared.forms.Form.TheVariants.{Void, Bool as Boolean, Int, Vector, Array, Runtime, Struct, Pointer, Function}
use Rattle.spv_types.specs.declared.queries.Pointed.{Pointed}
use Rattle.spv_types.specs.Cells.{cells_of}
use Rattle.spv_types.specs.Laws.{AreSound}
use Rattle.spv_types.specs.Queries.{is_pointer}
use Rattle.spv_types.specs.Rows.{no_roots}
use Rattle.spv_types.specs.Rules.{has_runtime, is_data, is_sized_data}
use Rattle.spv_types.specs.Shapes.{HasShape, IsScalar, LeadsTo, pointer_in, reached_type}
use Rattle.spv_types.specs.Types.{Types, form_of}
use Rattle.spv_types.proofs.Exports.{shapes_are_by_forms, shapes_keep}
use Rattle.spv_effects.specs.Lanes.{lane_of}
use Rattle.spv_bodies.specs.Bodies.{KeepsRule}
use Rattle.spv_bodies.specs.Context.{HasType, PointsTo, type_at}
use Rattle.spv_bodies.specs.Memory.{KeepsCopyMemory, KeepsStore}
use Rattle.spv_bodies.specs.Rules.{atomic_rule, composite_rule, control_rule, memory_rule, other_rule, rule_of}
use Rattle.spv_valid.specs.Acceptance.{Accepted, IsAccepted}
use Rattle.spv_valid.specs.Validity.{IsValid}
use Rattle.spv_initial.specs.Start.{variables}
use Rattle.spv_initial.specs.Variables.{targets_of}
use Rattle.spv_frame.specs.Frames.{Held as Frame}
use Rattle.spv_frame.specs.Stacks.{Stacked, top}
use Rattle.spv_mem.specs.Memory.{IsMemory, load_of, root_value, roots_in}
use Rattle.spv_operands.specs.Shapes.{target_in}
use Rattle.spv_operands.proofs.Exports.{sized_counted, target_parts}
use Rattle.spv_results.specs.Operands.{known}
use Rattle.spv_results.proofs.Exports.{HasForm, form_has_type, shape_prop, sound_types}
use Rattle.spv_statuses.specs.declared.invocations.Status.{Status}
use Rattle.spv_statuses.specs.declared.invocations.Status.TheVariants.{Ready, Arrived, Passed, Finished}
use Rattle.spv_state.specs.Actions.{action_of, atomic_op, atomics}
use Rattle.spv_state.specs.Program.{Program}
use Rattle.spv_state.specs.Sound.{IsSound}
use Rattle.spv_state.specs.State.{State, top_of}
use Rattle.spv_state.specs.declared.actions.Action.{Action}
use Rattle.spv_state.specs.declared.actions.Action.TheVariants.{Compute, Select, Load, Store, CopyMemory, Chain, PtrChain, PtrEqual, PtrNotEqual, ArrayLength, Branch, BranchConditional, Switch, Call, Return, ReturnValue, Unreachable, ControlBarrier, MemoryBarrier, Atomic}
use Rattle.spv_state.specs.declared.actions.AtomicOp.{AtomicOp}
use Rattle.spv_sites.specs.Atomics.{AtomicRow, atomic_by, atomic_row, compares, counts, first_of_three, loads, stores, target, updates}
use Rattle.spv_sites.specs.Branches.{chosen_label, deciding_number, jump_by, switch_label}
use Rattle.spv_sites.specs.Chains.{chained_pointer, indexes, indexes_from, ptr_chained}
use Rattle.spv_sites.specs.Effects.{Effect, gives, loaded, operand, pointer, scalar}
use Rattle.spv_sites.specs.Instructions.{effect_of, row}
use Rattle.spv_sites.specs.Lengths.{length_of}
use Rattle.spv_sites.specs.Selects.{selected}
use Rattle.spv_sites.specs.Sites.{IsShaped, IsSite, Site, accepted, values}
use Rattle.spv_sites.specs.declared.causes.Cause.{Cause}
use Rattle.spv_sites.specs.declared.causes.Cause.TheVariants.{NoValue, OutOfBounds}
use Rattle.spv_sites.proofs.Exports.{Leads, PointersHaveShapes, RulesAreTested, ValuesHaveShapes, acting, alone, body, is_plain_code, kept_by, key_passes, one_plain, operand_shape, pointed, reference_shape, store_keeps, storing}
use Rattle.spv_accesses.specs.AtomicSites.{LeadsToInteger}
use Rattle.spv_touch.specs.Touching.{Due, due_as, due_by, due_in, due_of}
use Rattle.spv_touch.specs.Views.{KeepsOutline, StoreFits, outline}
use Rattle.spv_touch.proofs.FitLemmas.{both, counted_is}
use Rattle.spv_touch.proofs.OutlineLemmas.{outline_scalar}
use Rattle.spv_touch.proofs.ShapeLemmas.{scalar_outline, shapes_alike}

-- ---- rules

copy_plain : (op : ℕ) → op ≡ 63 → is_plain_code op ≡ true
unfolding memory_rule atomic_rule composite_rule control_rule other_rule
copy_plain op h = one_plain op 63 h refl

atomic_plain : (op : ℕ) (x : AtomicOp) → atomic_op op ≡ Some x → is_plain_code op ≡ true
unfolding atomic_op memory_rule atomic_rule composite_rule control_rule other_rule
atomic_plain op x h = key_passes is_plain_code op x atomics refl h

-- the pointer of each atomic leads to an integer
atomic_leads : (a : Accepted) (d : Inst) (x : AtomicOp) → atomic_op d.op ≡ Some x → KeepsRule (known a) (alone d) (rule_of d.op) → LeadsToInteger a d
unfolding atomic_op memory_rule atomic_rule composite_rule control_rule other_rule
atomic_leads a d x is kept = reads_each (λ (k : ℕ) (y : AtomicOp). KeepsRule (known a) (alone d) (rule_of k) → LeadsToInteger a d) d.op x atomics (
  (λ h. (h.0, h.1, h.2.0)),
  (
    (λ h. (h.0, h.1, h.2.0)),
    (
      (λ h. (h.0, h.1, h.2.0)),
      (
        (λ h. (h.0, h.1, h.2.0)),
        (
          (λ h. (h.0, h.1, h.2.0)),
          (
            (λ h. (h.0, h.1, h.2.0)),
            (
              (λ h. (h.0, h.1, h.2.0)),
              (
                (λ h. (h.0, h.1, h.2.0)),
                (
                  (λ h. (h.0, h.1, h.2.0)),
                  (
                    (λ h. (h.0, h.1, h.2.0)),
                    ((λ h. (h.0, h.1, h.2.0)), ((λ h. (h.0, h.1, h.2.0)), ((λ h. (h.0, h.1, h.2.0)), ((λ h. (h.0, h.1, h.2.0)), ((λ h. (h.0, h.1, h.2.0)), tt))))),
                  ),
                ),
              ),
            ),
          ),
        ),
      ),
    ),
  ),
)
    is kept

data_plain : (o : Option Form) → is_data o ≡ true → is_pointer o ≡ false
data_plain None h = refl
data_plain (Some Void) h = refl
data_plain (Some Boolean) h = refl
data_plain (Some (Int width sign)) h = refl
data_plain (Some (Vector component size)) h = refl
data_plain (Some (Array element n stride)) h = refl
data_plain (Some (Runtime element stride)) h = refl
data_plain (Some (Struct members block)) h = refl
data_plain (Some (Pointer class target)) h = cc
data_plain (Some (Function returns parameters)) h = refl

-- ---- what is there

ok_some : {A : Type 0} (o : Option A) (cause : Cause) (x : A) → ok_or o cause ≡ Ok x → o ≡ Some x
ok_some None cause x h = absurd (cc)
ok_some (Some y) cause x h = cc

module _ (x : Site) (law : RulesAreTested) (plains : ValuesHaveShapes) (pointers : PointersHaveShapes) (accepts : IsAccepted (accepted x)) (valid : IsValid (accepted x)) (site : IsSite x) where
  sound : AreSound (accepted x).types
  sound = sound_types (accepted x) ∣ valid ∣₁

  shaped : (n : ℕ) (v : Value) → operand x.program x.state x.inv x.frame x.inst n ≡ Ok v → IsShaped (accepted x) x.inst n v
  shaped n v is = operand_shape plains pointers x n v (accepted x) refl ∣ accepts ∣₁ ∣ site ∣₁ (ok_some (values x n) NoValue v is)

  -- a part of memory that an operand names has the type to which the operand's type points
  module _ (n : ℕ) (named : Value) (is : operand x.program x.state x.inv x.frame x.inst n ≡ Ok named) (p : Pointed) (points : PointsTo (known (accepted x)) x.inst n p)
      (q : Reference) (place : pointer named ≡ Ok q) (w : Value) (there : loaded x.state x.inv q ≡ Ok w) where
    form : HasForm (accepted x).types (type_at (known (accepted x)) x.inst n) (Pointer p.class p.target)
    form = form_has_type (accepted x).types (type_at (known (accepted x)) x.inst n) (Pointer p.class p.target) points

    leads : Leads (accepted x).types (target_in (accepted x) form.type) p.target named
    leads = pointed (accepted x).types (target_in (accepted x) form.type) form.type p.class p.target named sound form.form
        (reference_shape (accepted x) x.inst n form.type p.class p.target named (shaped n named is) form.is form.form)

    leads_there : LeadsTo (accepted x).types (target_in (accepted x) form.type) q p.target
    leads_there =
        let one = leads.is in
        let other = ok_some (pointer_in (out-Value named)) OutOfBounds q place in
        let same : leads.place ≡ q = cc in
        subst (λ (r : Reference). LeadsTo (accepted x).types (target_in (accepted x) form.type) r p.target) same leads.leads

    -- by the type of the variable the path reaches it
    reaches : (ty : ℕ) → reads (root_id q.root) (targets_of (variables (accepted x))) ≡ Some ty → reached_type (accepted x).types ty q.path ≡ Some p.target
    reaches ty variable = by_target (target_in (accepted x) form.type q.root) refl leads_there
      where
        by_target : (o : Option ℕ) → target_in (accepted x) form.type q.root ≡ o → option_and_then (λ (t : ℕ). reached_type (accepted x).types t q.path) o ≡ Some p.target
            → reached_type (accepted x).types ty q.path ≡ Some p.target
        by_target None e h = absurd (cc)
        by_target (Some t) e h =
            let parts = (target_parts (accepted x) form.type q.root t e).target in
            let same : t ≡ ty = cc in
            subst (λ (k : ℕ). reached_type (accepted x).types k q.path ≡ Some p.target) same h

    typed_by : IsMemory x.state.memory → HasShape (accepted x).types no_roots p.target w
    typed_by memory =
        let part = both (root_value x.state.memory x.inv q.root) (λ v. part_at v q.path) w (ok_some (load_of x.state.memory x.inv q) OutOfBounds w there) in
        let list = both (roots_in x.state.memory x.inv q.root) (reads (root_id q.root)) part.0 part.1 in
        let variable = memory.variables x.inv q.root list.0 list.1 (root_id q.root) part.0 list.2 in
        let shape : HasShape (accepted x).types no_roots variable.type part.0 = subst (λ (ts : Types). HasShape ts no_roots variable.type part.0) site.sound.types variable.shape in
        (shapes_keep (accepted x).types no_roots sound q.path variable.type p.target part.0 w w shape (reaches variable.type (ap (reads (root_id q.root)) (sym site.sound.targets) ∙ variable.named)) part.2).0

    typed : HasShape (accepted x).types no_roots p.target w
    typed = ∥∥₁_elim site.sound.memory (shape_prop (accepted x).types no_roots p.target w) typed_by

  -- values of a type of sized data have one outline
  sized_alike : (target : ℕ) (w u : Value) → is_sized_data (accepted x).types target ≡ true → HasShape (accepted x).types no_roots target w → HasShape (accepted x).types no_roots target u → outline w ≡ outline u
  sized_alike target w u sized one other =
      let counted = counted_is (cells_of (accepted x).types target) (sized_counted (accepted x).types sound valid.lengths target sized) in
      shapes_alike (accepted x).types target w u counted.0 one other counted.1

  -- an operand of a type of data
  object_typed : (n : ℕ) (u : Value) (target : ℕ) → operand x.program x.state x.inv x.frame x.inst n ≡ Ok u → HasType (known (accepted x)) x.inst n target → is_sized_data (accepted x).types target ≡ true
      → HasShape (accepted x).types no_roots target u
  object_typed n u target is type sized =
      let plain = data_plain (form_of (accepted x).types target) (and_parts (is_data (form_of (accepted x).types target)) (not (has_runtime (accepted x).types target)) sized).0 in
      subst (λ (b : Bool). HasShape (accepted x).types (if b then target_in (accepted x) target else no_roots) target u) plain (shaped n u is target type)

  kept_there : (q : Reference) (w u : Value) → loaded x.state x.inv q ≡ Ok w → outline w ≡ outline u → KeepsOutline x.state x.inv (Some (q, u))
  kept_there q w u there same = (w, ok_some (load_of x.state.memory x.inv q) OutOfBounds w there, same)

  -- ---- the rows that store

  -- an effect keeps outlines
  unfoldable Keeps : Result Effect Cause → Type 0
  Keeps (Ok e) = KeepsOutline x.state x.inv e.store
  Keeps (Err cause) = ⊤

  stored : (e : Effect) → KeepsOutline x.state x.inv e.store → Keeps (Ok e)
  unfolding Keeps
  stored e kept = kept

  unstored : (e : Effect) → e.store ≡ None → Keeps (Ok e)
  unfolding Keeps
  unstored e none = subst (KeepsOutline x.state x.inv) (sym none) tt

  faulted : (cause : Cause) → Keeps (Err cause)
  unfolding Keeps
  faulted cause = tt

  behind : {A : Type 0} (r : Result A Cause) (g : A → Result Effect Cause) → ((a : A) → r ≡ Ok a → Keeps (g a)) → Keeps (r >>= g)
  behind (Ok a) g h = h a refl
  behind (Err cause) g h = faulted cause

  abbrev value : ℕ → Result Value Cause
  value n = operand x.program x.state x.inv x.frame x.inst n

  abbrev lane : ℕ → Result Cell Cause
  lane n = scalar x.program x.state x.inv x.frame x.inst n

  abbrev three : Result Value Cause
  three = first_of_three x.program x.state x.inv x.frame x.inst

  store_row : action_of x.inst ≡ Store → Keeps (row x.program x.state x.inv x.frame x.inst Store)
  store_row acts =
      let rule : KeepsStore (known (accepted x)) x.inst = store_keeps law x (accepted x) refl ∣ accepts ∣₁ ∣ valid ∣₁ ∣ site ∣₁ (storing x.inst acts) in
      behind _ _ (λ named is. behind _ _ (λ u object. behind _ _ (λ q place. behind _ _ (λ w there.
      stored _ (kept_there q w u there (sized_alike rule.0.target w u rule.2.1.1 (typed 0 named is rule.0 rule.1 q place w there) (object_typed 1 u rule.0.target object rule.2.0 rule.2.1.1)))))))

  copy_row : action_of x.inst ≡ CopyMemory → Keeps (row x.program x.state x.inv x.frame x.inst CopyMemory)
  unfolding memory_rule atomic_rule composite_rule control_rule other_rule
  copy_row acts =
      let op = acting x.inst CopyMemory acts in
      let rule : KeepsCopyMemory (known (accepted x)) x.inst = kept_by (accepted x) x.inst (body law x (accepted x) refl ∣ accepts ∣₁ ∣ valid ∣₁ ∣ site ∣₁ (copy_plain x.inst.op op)).1 63 op in
      behind _ _ (λ to is. behind _ _ (λ from also. behind _ _ (λ q place. behind _ _ (λ w there. behind _ _ (λ r source. behind _ _ (λ u copied.
      stored _ (kept_there q w u there (sized_alike rule.0.target w u rule.2.2.1.1 (typed 0 to is rule.0 rule.1 q place w there)
      (subst (λ (t : ℕ). HasShape (accepted x).types no_roots t u) rule.2.2.0 (typed 1 from also rule.2.0 rule.2.1 r source u copied))))))))))

  first_is : (v : Value) → first_of_three x.program x.state x.inv x.frame x.inst ≡ Ok v → operand x.program x.state x.inv x.frame x.inst 0 ≡ Ok v
  first_is v h = by (values x 0) (values x 1) (values x 2) h
    where
      by : (o p q : Option Value) → (ok_or o NoValue >>= (λ v. ok_or p NoValue >>= (λ _. ok_or q NoValue >>= (λ _. Ok v)))) ≡ Ok v → ok_or o NoValue ≡ Ok v
      by None p q h = cc
      by (Some u) None q h = cc
      by (Some u) (Some y) None h = cc
      by (Some u) (Some y) (Some z) h = h

  module _ (leads : LeadsToInteger (accepted x) x.inst) where
    -- an integer over another
    integer_kept : (named : Value) (q : Reference) (w : Value) (c : Cell) → operand x.program x.state x.inv x.frame x.inst 0 ≡ Ok named → pointer named ≡ Ok q → loaded x.state x.inv q ≡ Ok w
        → KeepsOutline x.state x.inv (Some (q, Scalar c))
    integer_kept named q w c is place there =
        let integer = leads.2.1 in
        let scalar : IsScalar integer.0 w
        = (shapes_are_by_forms (accepted x).types no_roots sound leads.0.target (Int integer.0 integer.1) w integer.2).0 (typed 0 named is leads.0 leads.1 q place w there) in
        kept_there q w (Scalar c) there (scalar_outline _ w scalar ∙ sym (outline_scalar c))

    over : (named : Value) (new : Reference × Cell → Cell) (give : Reference × Cell → Option Value) → operand x.program x.state x.inv x.frame x.inst 0 ≡ Ok named
        → Keeps (target x.state x.inv named >>= (λ t. Ok (record (gives (Scalar t.1)) { store = Some (t.0, Scalar (new t)); result = give t })))
    over named new give is = by_place (pointer named) refl
      where
        by_part : (q : Reference) → pointer named ≡ Ok q → (r : Result Value Cause) → loaded x.state x.inv q ≡ r
            → Keeps ((r >>= (λ v. Ok (q, lane_of v))) >>= (λ t. Ok (record (gives (Scalar t.1)) { store = Some (t.0, Scalar (new t)); result = give t })))
        by_part q place (Ok w) there = stored _ (integer_kept named q w (new (q, lane_of w)) is place there)
        by_part q place (Err cause) there = faulted cause

        by_place : (r : Result Reference Cause) → pointer named ≡ r
            → Keeps ((r >>= (λ q. loaded x.state x.inv q >>= (λ v. Ok (q, lane_of v)))) >>= (λ t. Ok (record (gives (Scalar t.1)) { store = Some (t.0, Scalar (new t)); result = give t })))
        by_place (Ok q) place = by_part q place (loaded x.state x.inv q) refl
        by_place (Err cause) place = faulted cause

    atomics_kept : (r : AtomicRow) → Keeps (atomic_by x.program x.state x.inv x.frame x.inst r)
    atomics_kept loads = behind three _ (λ v is. behind (target x.state x.inv v) _ (λ t there. unstored _ refl))
    atomics_kept stores = behind three _ (λ v is. behind (lane 3) _ (λ c has. over v (λ t. c) (λ t. None) (first_is v is)))
    atomics_kept (counts new) = behind three _ (λ v is. over v (λ t. new t.1) (λ t. Some (Scalar t.1)) (first_is v is))
    atomics_kept (updates new) = behind three _ (λ v is. behind (lane 3) _ (λ c has. over v (λ t. new t.1 c) (λ t. Some (Scalar t.1)) (first_is v is)))
    atomics_kept (compares new) =
        behind three _ (λ v is. behind (value 3) _ (λ z unequal. behind (lane 4) _ (λ c has. behind (lane 5) _ (λ d compared.
        over v (λ t. new t.1 c d) (λ t. Some (Scalar t.1)) (first_is v is)))))

  atomic_kept : (op : AtomicOp) → action_of x.inst ≡ Atomic op → Keeps (row x.program x.state x.inv x.frame x.inst (Atomic op))
  atomic_kept op acts =
      let own = acting x.inst (Atomic op) acts in
      atomics_kept (atomic_leads (accepted x) x.inst op own (body law x (accepted x) refl ∣ accepts ∣₁ ∣ valid ∣₁ ∣ site ∣₁ (atomic_plain x.inst.op op own)).1) (atomic_row op)

  -- ---- all rows

  jumps : (label : Option ℕ) → Keeps (jump_by x.program x.state x.inv x.frame x.inst label)
  jumps None = faulted _
  jumps (Some block) = behind _ _ (λ phis is. unstored _ refl)

  choices : (b : Bool) (v : Value) (cause : Cause) → Keeps (if b then Ok (gives v) else Err cause)
  choices true v cause = unstored _ refl
  choices false v cause = faulted _

  selects : (c v w : Value) (o : Option Reference) → Keeps (selected x.program x.state x.inv x.frame x.inst c v w o)
  selects c v w None = behind _ _ (λ u is. unstored _ refl)
  selects c v w (Some q) = choices _ _ _

  by_action : (b : Action) → action_of x.inst ≡ b → Keeps (row x.program x.state x.inv x.frame x.inst b)
  by_action Compute acts = behind _ _ (λ v is. unstored _ refl)
  by_action Select acts = behind (value 0) _ (λ c first. behind (value 1) _ (λ v second. behind (value 2) _ (λ w third. selects c v w (pointer_in (out-Value v)))))
  by_action Load acts = behind (value 0) _ (λ named is. behind (pointer named) _ (λ q place. behind (loaded x.state x.inv q) _ (λ v there. unstored _ refl)))
  by_action Store acts = store_row acts
  by_action CopyMemory acts = copy_row acts
  by_action Chain acts = behind (value 0) _ (λ base is. behind (indexes (values x) x.inst) _ (λ cs all. behind (chained_pointer base cs) _ (λ q place. unstored _ refl)))
  by_action PtrChain acts =
      behind (value 0) _ (λ base is. behind (lane 1) _ (λ c has. behind (indexes_from 2 (values x) x.inst) _ (λ cs all. behind (pointer base) _ (λ q place. behind (ptr_chained x.state.memory q c cs) _ (λ r moved. unstored _ refl)))))
  by_action PtrEqual acts = behind (value 0) _ (λ a first. behind (value 1) _ (λ b second. behind (pointer a) _ (λ q one. behind (pointer b) _ (λ r other. unstored _ refl))))
  by_action PtrNotEqual acts = behind (value 0) _ (λ a first. behind (value 1) _ (λ b second. behind (pointer a) _ (λ q one. behind (pointer b) _ (λ r other. unstored _ refl))))
  by_action ArrayLength acts = behind (value 0) _ (λ named is. behind (length_of x.state x.inv x.inst named) _ (λ n many. unstored _ refl))
  by_action Branch acts = jumps (id_operand x.inst 0)
  by_action BranchConditional acts = behind (value 0) _ (λ v is. behind (deciding_number v) _ (λ n which. jumps (chosen_label x.inst n)))
  by_action Switch acts = behind (value 0) _ (λ v is. behind (deciding_number v) _ (λ n which. jumps (switch_label x.program.accepted.insts x.inst n)))
  by_action Call acts = behind _ _ (λ rs all. unstored _ refl)
  by_action Return acts = unstored _ refl
  by_action ReturnValue acts = behind (value 0) _ (λ v is. unstored _ refl)
  by_action Unreachable acts = faulted _
  by_action ControlBarrier acts = behind three _ (λ v is. unstored _ refl)
  by_action MemoryBarrier acts = behind (value 0) _ (λ v first. behind (value 1) _ (λ w second. unstored _ refl))
  by_action (Atomic op) acts = atomic_kept op acts

  kept_of : (r : Result Effect Cause) → Keeps r → (e : Effect) → r ≡ Ok e → KeepsOutline x.state x.inv e.store
  unfolding Keeps
  kept_of (Ok g) kept e is = let same : g ≡ e = cc in subst (λ (k : Effect). KeepsOutline x.state x.inv k.store) same kept
  kept_of (Err cause) kept e is = absurd (cc)

  pub effects_keep : (e : Effect) → effect_of x.program x.state x.inv x.frame x.inst ≡ Ok e → KeepsOutline x.state x.inv e.store
  unfolding effect_of
  effects_keep e is = kept_of (Ok e) (subst Keeps is (by_action (action_of x.inst) refl)) e refl

-- ---- the event that is due

module _ (p : Program) (s : State) (i : ℕ) (e : Due) where
  -- where it stands
  abbrev Stands : Due → Type 0
  Stands k = (top_of s i ≡ Some k.frame) × (at p.accepted.insts k.frame.pc ≡ Some k.inst) × (effect_of p s i k.frame k.inst ≡ Ok k.effect)

  by_result : (f : Frame) (d : Inst) (r : Result Effect Cause) → top_of s i ≡ Some f → at p.accepted.insts f.pc ≡ Some d → effect_of p s i f d ≡ r → due_by f d r ≡ Some e → Stands e
  by_result f d (Ok g) tops here is h = let same : record { frame = f; inst = d; effect = g } ≡ e = cc in subst Stands same (tops, here, is)
  by_result f d (Err cause) tops here is h = cc

  by_inst : (f : Frame) (o : Option Inst) → top_of s i ≡ Some f → at p.accepted.insts f.pc ≡ o → option_and_then (λ d. due_by f d (effect_of p s i f d)) o ≡ Some e → Stands e
  by_inst f None tops here h = cc
  by_inst f (Some d) tops here h = by_result f d (effect_of p s i f d) tops here refl h

  by_top : (o : Option Frame) → top_of s i ≡ o → option_and_then (due_in p s i) o ≡ Some e → Stands e
  by_top None tops h = cc
  by_top (Some f) tops h = by_inst f (at p.accepted.insts f.pc) tops refl h

  by_status : (o : Option Status) → due_as p s i o ≡ Some e → Stands e
  by_status (Some Ready) h = by_top (top_of s i) refl h
  by_status (Some (Arrived word)) h = cc
  by_status (Some Passed) h = cc
  by_status (Some Finished) h = cc
  by_status None h = cc

  stands : due_of p s i ≡ Some e → Stands e
  unfolding due_of
  stands h = by_status (slice_get s.statuses.list i) h

  -- who has a frame is an invocation
  inside : (f : Frame) → top_of s i ≡ Some f → i < length s.stacks
  inside f tops = by (slice_get s.stacks i) refl tops
    where
      by : (o : Option Stacked) → slice_get s.stacks i ≡ o → top (option_map_or (λ (k : Stacked). k.frames) o []) ≡ Some f → i < length s.stacks
      by None e h = absurd (cc)
      by (Some k) e h = slice_get_within s.stacks i k e

pub stores_fit : RulesAreTested → ValuesHaveShapes → PointersHaveShapes → ((a : Accepted) → IsAccepted a → IsValid a)
    → (p : Program) (s : State) (i : ℕ) → IsAccepted p.accepted → IsSound p s → StoreFits p s i
stores_fit law plains pointers validates p s i accepts sound e due =
    let here = stands p s i e due in
    effects_keep (record { program = p; state = s; inv = i; frame = e.frame; inst = e.inst }) law plains pointers accepts (validates p.accepted accepts)
    (record { inside = inside p s i e e.frame here.0; sound = sound; top = here.0; stands = here.1 }) e.effect here.2
