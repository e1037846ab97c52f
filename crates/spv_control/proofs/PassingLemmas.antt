-- The arguments of a call in the registers of the parameters.
use Rattle.std.proofs.Common.{◌≡◌, ◌∙◌, ℕ, suc, ◌+◌, ◌<◌, ◌≤◌, Bool, true, false, List, [], ◌∷◌, length, drop, get_or, Option, Some, None, Result, Ok, Err, ok_or, slice_get, refl, sym, ap, subst, arith}
use Rattle.std.proofs.Math.Logic.{∥∥₁_elim}
use Rattle.std.proofs.Props.{props}
use Rattle.std.proofs.lemmas.Option.{slice_get-get_or, slice_get_within}
use Rattle.std.specs.List.{Contains}
use Rattle.std.specs.Option.{is_some}
use Rattle.std.specs.Prelude.{if◌then◌else◌}
use Rattle.spv_base.specs.Answers.{Answers}
use Rattle.spv_base.specs.Entries.{reads}
use Rattle.spv_base.specs.declared.causes.Fail.{Fail}
use Rattle.spv_base.specs.declared.causes.Fail.TheVariants.{Refused, NoMemory}
use Rattle.spv_base.specs.declared.instructions.Inst.{Inst}
use Rattle.spv_base.specs.declared.values.Pointer.{Pointer as Reference}
use Rattle.spv_base.specs.declared.values.Root.{Root}
use Rattle.spv_base.specs.declared.values.Value.{Value as Whole, out-Value}
use Rattle.spv_base.specs.declared.values.Value.TheOpen.{Value-F}
use Rattle.spv_ops.specs.Steps.{◌>>=◌}
use Rattle.spv_index.specs.Definitions.{result_type}
use Rattle.spv_index.specs.Positions.{Stand, stands_of}
use Rattle.spv_types.specs.Cells.{cells_of}
use Rattle.spv_types.specs.Laws.{AreSound}
use Rattle.spv_types.specs.Queries.{is_pointer}
use Rattle.spv_types.specs.Rows.{leaves, no_roots}
use Rattle.spv_types.specs.Shapes.{HasShape, pointer_in}
use Rattle.spv_types.specs.Types.{Types, form_of}
use Rattle.spv_mem.specs.Memory.{AreVariables, IsVariable}
use Rattle.spv_base.specs.Variables.{Roots}
use Rattle.spv_valid.specs.Acceptance.{Accepted, IsAccepted}
use Rattle.spv_initial.specs.Start.{variables}
use Rattle.spv_initial.specs.Variables.{HaveTargets, targets_of}
use Rattle.spv_initial.specs.declared.variables.Declared.{Declared}
use Rattle.spv_state.specs.Variables.{is_variable_of, variables_of}
use Rattle.spv_state.proofs.Exports.{kept_targets, IsKnown, known_as, fresh_rooted, no_value, IsOne, member_one, stand_inst}
use Rattle.spv_valid.specs.Validity.{IsValid}
use Rattle.spv_frame.specs.declared.slots.Place.{Place}
use Rattle.spv_frame.specs.declared.slots.Place.TheVariants.{Value, Pointer}
use Rattle.spv_frame.specs.Frames.{Held as Frame, fresh}
use Rattle.spv_frame.specs.Registers.{Planned, ids, number_of}
use Rattle.spv_plans.specs.Members.{members}
use Rattle.spv_plans.specs.Plans.{functions_in, place_among, plan_of}
use Rattle.spv_plans.specs.Registered.{HasApart, HasValueType}
use Rattle.spv_plans.specs.Registers.{has_cells, has_pointer, is_parameter, is_register}
use Rattle.spv_plans.proofs.Exports.{Chosen, chosen, at_contains, map_at, map_from, number_gets}
use Rattle.spv_operands.specs.Operands.{pointer_of}
use Rattle.spv_operands.specs.Shapes.{target_in}
use Rattle.spv_operands.proofs.Exports.{data_plain}
use Rattle.spv_results.proofs.Exports.{shape_prop, sound_types}
use Rattle.spv_state.specs.Sound.{IsSoundFrame}
use Rattle.spv_state.specs.Roots.{IsRooted}
use Rattle.spv_state.specs.State.{depth_of, frames_of, with_register, with_registers}
use Rattle.spv_sites.specs.Calls.{arguments, parameters_of}
use Rattle.spv_sites.specs.Fits.{LevelFits}
use Rattle.spv_control.specs.Passing.{IsParameter, Passes, Suits, frame_due, parameters_in}
use Rattle.spv_sites.specs.Sites.{Finds, IsShaped, Site, accepted, values}
use Rattle.spv_sites.specs.declared.causes.Cause.{Cause}
use Rattle.spv_sites.specs.declared.causes.Cause.TheVariants.{NoValue}
use Rattle.spv_sites.proofs.Exports.{RegisterFits, register_kept, register_stays, recovered, pointed, pointer_form, IsOwnRoot, register_rooted}
use Rattle.std.proofs.lemmas.List.{length-map, drop_all}
use Rattle.spv_base.proofs.Exports.{drop_here, none_of}

-- ---- registers, by the laws of plans

abbrev pub ValuesHaveRegisters : Type 0
ValuesHaveRegisters = (a : Accepted) (function : ℕ) (s : Stand) → Contains (members a.insts function) s → is_register a.types s.inst ≡ true → has_cells a.types s.inst ≡ true
    → (n : ℕ) × (number_of s.inst.id (ids (plan_of a function).values) ≡ Some n)

abbrev pub PointersHaveRegisters : Type 0
PointersHaveRegisters = (a : Accepted) (function : ℕ) (s : Stand) → Contains (members a.insts function) s → is_register a.types s.inst ≡ true → has_pointer a.types s.inst ≡ true
    → (n : ℕ) × (number_of s.inst.id (plan_of a function).pointers ≡ Some n)

abbrev pub ValuesHaveTypes : Type 0
ValuesHaveTypes = (a : Accepted) (function id n : ℕ) → ∥ IsAccepted a ∥₁ → Contains (functions_in a) function → number_of id (ids (plan_of a function).values) ≡ Some n → HasValueType a (plan_of a function) id n

abbrev pub RowsFill : Type 0
RowsFill = (ts : Types) (roots : Root → Option ℕ) (id : ℕ) (v : Whole) (n : ℕ) → HasShape ts roots id v → cells_of ts id ≡ Some n → length (leaves v) ≡ n

-- ---- a parameter, and its argument

-- an argument for the register of a parameter
pub record IsPassed (a : Accepted) (p : Planned) (i : Inst) (place : Place) (v : Whole) : Type 0 where
  pub suits : Suits p place v
  pub is : IsParameter p place i.id
  pub fits : RegisterFits a i.id v (out-Value v)

abbrev pub place_of : Planned → ℕ → Place
place_of p id = place_among p.values p.pointers id

-- the places of parameters
pub parameter_at : (a : Accepted) (function n : ℕ) (place : Place) → slice_get (plan_of a function).parameters n ≡ Some place
    → (i : Inst) × (slice_get (parameters_in a function) n ≡ Some i) × (place_of (plan_of a function) i.id ≡ place)
unfolding plan_of
parameter_at a function n place at = map_from (λ (i : Inst). place_of (plan_of a function) i.id) (parameters_in a function) n place at

level_plain : (a : Accepted) (ty : ℕ) (v : Whole) (level : Value-F Whole) → pointer_in level ≡ None → HasShape a.types no_roots ty v → LevelFits a ty v level
level_plain a ty v (Value-F.Scalar c) plain shape = shape
level_plain a ty v (Value-F.List vs) plain shape = shape
level_plain a ty v (Value-F.Ptr q) plain shape = absurd (cc)

level_pointer : (a : Accepted) (ty : ℕ) (v : Whole) (level : Value-F Whole) (q : Reference) → pointer_in level ≡ Some q → HasShape a.types (target_in a ty) ty v → LevelFits a ty v level
level_pointer a ty v (Value-F.Scalar c) q is shape = absurd (cc)
level_pointer a ty v (Value-F.List vs) q is shape = absurd (cc)
level_pointer a ty v (Value-F.Ptr p) q is shape = shape

module _ (with_values : ValuesHaveRegisters) (with_pointers : PointersHaveRegisters) (typed : ValuesHaveTypes) (fills : RowsFill)
    (a : Accepted) (accepts : ∥ IsAccepted a ∥₁) (known_is : IsKnown a) (sound : AreSound a.types) (function : ℕ) (among : Contains (functions_in a) function) (apart : HasApart (plan_of a function)) where
  module _ (n : ℕ) (i : Inst) (at : slice_get (parameters_in a function) n ≡ Some i) where
    own : Chosen a.types is_parameter (members a.insts function) i
    own = chosen a.types is_parameter (members a.insts function) n i at

    member : Contains (members a.insts function) own.stand
    member = at_contains (members a.insts function) own.number own.stand own.at

    -- the type of its id is its own
    type_is : (ty : ℕ) → result_type a.insts i.id ≡ Some ty → ty ≡ i.ty
    type_is ty h =
        let one : IsOne (stands_of a.insts) own.stand = (member_one a.insts function own.stand member).0 in
        let there = stand_inst a.insts one.number own.stand one.is in
        known_is.types one.number ty i (there ∙ ap (λ (j : Inst). Some j) own.is) h

    pointer_passed : (v : Whole) → is_pointer (form_of a.types i.ty) ≡ true → HasShape a.types (target_in a i.ty) i.ty v → IsPassed a (plan_of a function) i (place_of (plan_of a function) i.id) v
    pointer_passed v pointer shape =
        let p : Planned = plan_of a function in
        let form = pointer_form (form_of a.types i.ty) pointer in
        let leads = pointed a.types (target_in a i.ty) i.ty form.0 form.1 v sound form.2 shape in
        let number = with_pointers a function own.stand member own.register (ap (λ (j : Inst). has_pointer a.types j) own.is ∙ pointer) in
        let some : number_of i.id p.pointers ≡ Some number.0 = ap (λ (j : Inst). number_of j.id p.pointers) (sym own.is) ∙ number.1 in
        let there : slice_get p.pointers number.0 ≡ Some i.id = number_gets i.id p.pointers number.0 some in
        let none : number_of i.id (ids p.values) ≡ None = no_value p i.id number.0 apart there in
        let place : place_among p.values p.pointers i.id ≡ Pointer number.0 = rw (none, some) refl in
        subst (λ (x : Place). IsPassed a p i x v) (sym place) (record {
          suits = (ap is_some leads.is, slice_get_within p.pointers number.0 i.id there);
          is = there;
          fits = λ ty type. level_pointer a ty v (out-Value v) leads.place leads.is (subst (λ (t : ℕ). HasShape a.types (target_in a t) t v) (sym (type_is ty type)) shape);
        })

    value_passed : (v : Whole) → is_pointer (form_of a.types i.ty) ≡ false → HasShape a.types no_roots i.ty v → IsPassed a (plan_of a function) i (place_of (plan_of a function) i.id) v
    value_passed v plain_type shape =
        let p : Planned = plan_of a function in
        let plain : pointer_of v ≡ None = none_of (pointer_of v) (data_plain a.types sound i.ty v shape) in
        let is_data : has_cells a.types i ≡ true = rw plain_type refl in
        let number = with_values a function own.stand member own.register (ap (λ (j : Inst). has_cells a.types j) own.is ∙ is_data) in
        let some : number_of i.id (ids p.values) ≡ Some number.0 = ap (λ (j : Inst). number_of j.id (ids p.values)) (sym own.is) ∙ number.1 in
        let there : slice_get (ids p.values) number.0 ≡ Some i.id = number_gets i.id (ids p.values) number.0 some in
        let place : place_among p.values p.pointers i.id ≡ Value number.0 = rw some refl in
        let type = typed a function i.id number.0 accepts among some in
        let cells : length (leaves v) ≡ type.len = fills a.types no_roots type.ty v type.len (subst (λ (t : ℕ). HasShape a.types no_roots t v) (sym (type_is type.ty type.is)) shape) type.cells in
        subst (λ (x : Place). IsPassed a p i x v) (sym place) (record {
          suits = (plain, map_at (λ (r : ℕ × ℕ). r.1) p.values number.0 (i.id, type.len) type.at ∙ ap (λ (k : ℕ). Some k) (sym cells));
          is = there;
          fits = λ ty typed_as. level_plain a ty v (out-Value v) plain (subst (λ (t : ℕ). HasShape a.types no_roots t v) (sym (type_is ty typed_as)) shape);
        })

    pub argument_passed : (d : Inst) (v : Whole) → Passes a d function → IsShaped a d (suc n) v → IsPassed a (plan_of a function) i (place_of (plan_of a function) i.id) v
    argument_passed d v passes shaped = by_type (is_pointer (form_of a.types i.ty)) refl (shaped i.ty (passes n i at))
      where
        by_type : (b : Bool) → is_pointer (form_of a.types i.ty) ≡ b → HasShape a.types (if is_pointer (form_of a.types i.ty) then target_in a i.ty else no_roots) i.ty v
            → IsPassed a (plan_of a function) i (place_of (plan_of a function) i.id) v
        by_type true e h = pointer_passed v e (subst (λ (b : Bool). HasShape a.types (if b then target_in a i.ty else no_roots) i.ty v) e h)
        by_type false e h = value_passed v e (subst (λ (b : Bool). HasShape a.types (if b then target_in a i.ty else no_roots) i.ty v) e h)

-- ---- the frame, an argument after another

abbrev pub call_from : Site → List ℕ → ℕ → Frame → Result Frame Cause
call_from x [] n g = Ok g
call_from x (id ∷ more) n g = ok_or (values x n) NoValue >>= (λ v. call_from x more (suc n) (with_register id v g))

call_is : (x : Site) (is : List ℕ) (n : ℕ) (g : Frame) → call_from x is n g ≡ (arguments x.program x.state x.inv x.frame x.inst n is >>= (λ rs. Ok (with_registers rs g)))
call_is x [] n g = refl
call_is x (id ∷ more) n g = by_value (values x n) (λ v. call_is x more (suc n) (with_register id v g))
  where
    by_rest : (v : Whole) (r : Result (List (ℕ × Whole)) Cause) → (r >>= (λ rs. Ok (with_registers rs (with_register id v g)))) ≡ ((r >>= (λ rs. Ok ((id, v) ∷ rs))) >>= (λ rs. Ok (with_registers rs g)))
    by_rest v (Ok rs) = refl
    by_rest v (Err cause) = refl

    by_value : (o : Option Whole)
        → ((v : Whole) → call_from x more (suc n) (with_register id v g) ≡ (arguments x.program x.state x.inv x.frame x.inst (suc n) more >>= (λ rs. Ok (with_registers rs (with_register id v g)))))
        → (ok_or o NoValue >>= (λ v. call_from x more (suc n) (with_register id v g)))
        ≡ ((ok_or o NoValue >>= (λ v. arguments x.program x.state x.inv x.frame x.inst (suc n) more >>= (λ rs. Ok ((id, v) ∷ rs)))) >>= (λ rs. Ok (with_registers rs g)))
    by_value None rest = refl
    by_value (Some v) rest = rest v ∙ by_rest v (arguments x.program x.state x.inv x.frame x.inst (suc n) more)

pub due_is : (x : Site) (function : ℕ) → frame_due x function ≡ call_from x (parameters_of (accepted x) function) 1 (fresh (plan_of (accepted x) function))
due_is x function = sym (call_is x (parameters_of (accepted x) function) 1 (fresh (plan_of (accepted x) function)))

-- so many parameters have their arguments
pub record Begins (x : Site) (function n : ℕ) (g : Frame) : Type 0 where
  pub so_far : call_from x (drop n (parameters_of (accepted x) function)) (suc n) g ≡ frame_due x function
  pub sound : IsSoundFrame (accepted x) g
  pub plan : g.plan ≡ plan_of (accepted x) function
  pub rooted : IsRooted (accepted x) (frames_of x.state x.inv) (depth_of x.state x.inv) g

pub begins_fresh : (x : Site) (function : ℕ) (g : Frame) → g ≡ fresh (plan_of (accepted x) function) → IsSoundFrame (accepted x) (fresh (plan_of (accepted x) function)) → Begins x function 0 g
begins_fresh x function g is sound = record {
  so_far = ap (call_from x (parameters_of (accepted x) function) 1) is ∙ sym (due_is x function);
  sound = subst (IsSoundFrame (accepted x)) (sym is) sound;
  plan = ap (λ (f : Frame). f.plan) is;
  rooted = subst (IsRooted (accepted x) (frames_of x.state x.inv) (depth_of x.state x.inv)) (sym is) (fresh_rooted (accepted x) (frames_of x.state x.inv) (depth_of x.state x.inv) (plan_of (accepted x) function));
}

pub begins_next : (x : Site) (function n : ℕ) (g new : Frame) (i : Inst) (v : Whole) → slice_get (parameters_in (accepted x) function) n ≡ Some i → values x (suc n) ≡ Some v → RegisterFits (accepted x) i.id v (out-Value v)
    → ((q : Reference) → pointer_of v ≡ Some q → IsOwnRoot x q.root) → new ≡ with_register i.id v g → Begins x function n g → Begins x function (suc n) new
begins_next x function n g new i v at value fits root made b =
    let there : slice_get (parameters_of (accepted x) function) n ≡ Some i.id = map_at (λ (j : Inst). j.id) (parameters_in (accepted x) function) n i at in
    let next : call_from x (drop n (parameters_of (accepted x) function)) (suc n) g ≡ call_from x (drop (suc n) (parameters_of (accepted x) function)) (suc (suc n)) (with_register i.id v g)
    = ap (λ (is : List ℕ). call_from x is (suc n) g) (drop_here (parameters_of (accepted x) function) n i.id there)
    ∙ ap (λ (o : Option Whole). ok_or o NoValue >>= (λ w. call_from x (drop (suc n) (parameters_of (accepted x) function)) (suc (suc n)) (with_register i.id w g))) value in
    record {
      so_far = ap (call_from x (drop (suc n) (parameters_of (accepted x) function)) (suc (suc n))) made ∙ sym next ∙ b.so_far;
      sound = subst (IsSoundFrame (accepted x)) (sym made) (register_kept (accepted x) g i.id v fits b.sound);
      plan = ap (λ (f : Frame). f.plan) made ∙ (register_stays g i.id v).0 ∙ b.plan;
      rooted = subst (IsRooted (accepted x) (frames_of x.state x.inv) (depth_of x.state x.inv)) (sym made) (register_rooted (accepted x) (frames_of x.state x.inv) (depth_of x.state x.inv) g i.id v root b.rooted);
    }

pub begins_fault : (x : Site) (function n : ℕ) (g : Frame) (i : Inst) → slice_get (parameters_in (accepted x) function) n ≡ Some i → values x (suc n) ≡ None → Begins x function n g → frame_due x function ≡ Err NoValue
begins_fault x function n g i at none b =
    let there : slice_get (parameters_of (accepted x) function) n ≡ Some i.id = map_at (λ (j : Inst). j.id) (parameters_in (accepted x) function) n i at in
    sym b.so_far ∙ ap (λ (is : List ℕ). call_from x is (suc n) g) (drop_here (parameters_of (accepted x) function) n i.id there)
    ∙ ap (λ (o : Option Whole). ok_or o NoValue >>= (λ w. call_from x (drop (suc n) (parameters_of (accepted x) function)) (suc (suc n)) (with_register i.id w g))) none

pub parameters_count : (a : Accepted) (function : ℕ) → length (plan_of a function).parameters ≡ length (parameters_of a function)
unfolding plan_of
parameters_count a function =
    length-map (parameters_in a function) (λ (i : Inst). place_of (plan_of a function) i.id) ∙ sym (length-map (parameters_in a function) (λ (i : Inst). i.id))

pub begins_all : (x : Site) (function n : ℕ) (g : Frame) → length (plan_of (accepted x) function).parameters ≤ n → Begins x function n g → frame_due x function ≡ Ok g
begins_all x function n g all b =
    let done : length (parameters_of (accepted x) function) ≤ n = subst (λ (m : ℕ). m ≤ n) (parameters_count (accepted x) function) all in
    sym b.so_far ∙ ap (λ (is : List ℕ). call_from x is (suc n) g) (drop_all n (parameters_of (accepted x) function) done)

-- ---- variables

pub variables_recovered : (ts : Types) (targets : List (ℕ × ℕ)) (es : Roots) → ∥ AreVariables ts targets es ∥₁ → AreVariables ts targets es
variables_recovered ts targets es are id v at = by_type (reads id targets) refl
  where
    by_type : (o : Option ℕ) → reads id targets ≡ o → IsVariable ts targets id v
    by_type None e = absurd (∥∥₁_elim are (hlevel props) (λ (h : AreVariables ts targets es). let own = (h id v at).named in cc))
    by_type (Some ty) e = record {
      type = ty;
      named = e;
      shape = ∥∥₁_elim are (shape_prop ts no_roots ty v) (λ (h : AreVariables ts targets es).
          let own = h id v at in
          let same : own.type ≡ ty = let named = own.named in cc in
          subst (λ (t : ℕ). HasShape ts no_roots t v) same own.shape);
    }

-- those of a function, as they begin
pub locals_are : (a b : Accepted) (function : ℕ) (ds : List Declared) (es : Roots) → b ≡ a → ∥ IsValid a ∥₁ → ds ≡ variables_of a function
    → ((targets : List (ℕ × ℕ)) → HaveTargets targets ds → ∥ AreVariables b.types targets es ∥₁) → AreVariables a.types (targets_of (variables a)) es
locals_are a b function ds es same valid are may =
    let named : ∥ HaveTargets (targets_of (variables a)) ds ∥₁ = subst (λ (xs : List Declared). ∥ HaveTargets (targets_of (variables a)) xs ∥₁) (sym are) (kept_targets a (is_variable_of a function) valid) in
    variables_recovered a.types (targets_of (variables a)) es
    (subst (λ (x : Accepted). ∥ AreVariables x.types (targets_of (variables a)) es ∥₁) same (∥∥₁_elim named (hlevel props) (may (targets_of (variables a)))))

-- ---- at a site

-- the argument of the parameter with a number
pub record PassedAt (x : Site) (function n : ℕ) (place : Place) (v : Whole) : Type 0 where
  pub parameter : Inst
  pub at : slice_get (parameters_in (accepted x) function) n ≡ Some parameter
  pub passed : IsPassed (accepted x) (plan_of (accepted x) function) parameter place v

abbrev pub AreApart : Type 0
AreApart = (a : Accepted) (function : ℕ) → ∥ IsAccepted a ∥₁ → HasApart (plan_of a function)

module _ (x : Site) (function : ℕ) (ps : List Place) (are : ps ≡ (plan_of (accepted x) function).parameters) (n : ℕ) (inside : n < length ps) (d : Place) where
  own_place : slice_get (plan_of (accepted x) function).parameters n ≡ Some (get_or ps n d)
  own_place = ap (λ (qs : List Place). slice_get qs n) (sym are) ∙ slice_get-get_or ps n d inside

  pub parameter_there : (i : Inst) × (slice_get (parameters_in (accepted x) function) n ≡ Some i)
  parameter_there = let at = parameter_at (accepted x) function n (get_or ps n d) own_place in (at.0, at.1)

  pub passed_at : ValuesHaveRegisters → PointersHaveRegisters → ValuesHaveTypes → RowsFill → AreApart → (b : Accepted) → b ≡ accepted x → ∥ IsAccepted b ∥₁ → ∥ IsValid b ∥₁ → ∥ Contains (functions_in (accepted x)) function ∥₁
      → Passes (accepted x) x.inst function → (v : Whole) → IsShaped (accepted x) x.inst (n + 1) v → PassedAt x function n (get_or ps n d) v
  passed_at with_values with_pointers typed fills apart b same accepts valid among passes v shaped =
      let at = parameter_at (accepted x) function n (get_or ps n d) own_place in
      let own_accepts = subst (λ (a : Accepted). ∥ IsAccepted a ∥₁) same accepts in
      let next : n + 1 ≡ suc n = omega arith in
      let passed = argument_passed with_values with_pointers typed fills (accepted x) own_accepts (known_as (accepted x) b same accepts valid) (subst (λ (a : Accepted). AreSound a.types) same (sound_types b valid)) function
      (recovered function (functions_in (accepted x)) among) (apart (accepted x) function own_accepts) n at.0 at.1 x.inst v passes (subst (λ (m : ℕ). IsShaped (accepted x) x.inst m v) next shaped) in
      record { parameter = at.0; at = at.1; passed = subst (λ (place : Place). IsPassed (accepted x) (plan_of (accepted x) function) at.0 place v) at.2 passed }

pub argument_missing : (o : Option Whole) (due : Result Frame Cause) (r : Result Frame (Fail Cause)) (e : Fail Cause) → (o ≡ None → due ≡ Err NoValue) → Finds {T = Whole} o (Err e) → r ≡ Err e → Answers due r
argument_missing o due r (Refused cause) gives h same = subst (λ (s : Result Frame (Fail Cause)). Answers due s) (sym same) (gives h.0 ∙ ap (λ (k : Cause). Err k) (sym h.1))
argument_missing o due r NoMemory gives h same = subst (λ (s : Result Frame (Fail Cause)). Answers due s) (sym same) tt
