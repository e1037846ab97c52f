-- The instructions that the registers of plans come from: one for each id, in one function.
use Rattle.std.proofs.Common.{◌≡◌, ◌≢◌, ◌⊎◌, ◌∙◌, inl, inr, ℕ, zero, suc, ◌==◌, Bool, true, false, cond, List, [], ◌∷◌, ◌++◌, Some, map, slice_get, unwrap_or, refl, sym, ap, subst}
use Rattle.std.proofs.lemmas.Bool.{and_parts, both_ways, eqb-true, not-true}
use Rattle.std.proofs.Math.Logic.{∥∥₁_elim}
use Rattle.std.proofs.Props.{props}
use Rattle.std.specs.Coded.{codes}
use Rattle.std.specs.List.{AllByRecursion, filter, flat_map}
use Rattle.spv_base.specs.Order.{AreDistinct}
use Rattle.spv_base.specs.declared.instructions.Inst.{Inst}
use Rattle.spv_index.specs.Classes.{sets_of}
use Rattle.spv_index.specs.Positions.{Stand, in_function, outside, stands_of}
use Rattle.spv_types.specs.Cells.{cells_of}
use Rattle.spv_types.specs.Queries.{is_pointer}
use Rattle.spv_types.specs.Types.{Types, form_of}
use Rattle.spv_valid.specs.Acceptance.{Accepted, IsAccepted}
use Rattle.spv_valid.specs.Validity.{IsValid}
use Rattle.spv_frame.specs.Registers.{ids}
use Rattle.spv_plans.specs.Members.{members, stands_in}
use Rattle.spv_plans.specs.Plans.{plan_of, values_among}
use Rattle.spv_plans.specs.Registers.{has_cells, has_pointer, is_register, register_of, registers_of}
use Rattle.spv_plans.proofs.ApartLemmas.{insts_of_stands, register_named}
use Rattle.spv_plans.proofs.NumberLemmas.{filtered, map_at, map_from}

-- ---- some instructions that have registers, and pass a test

pub record Chosen (ts : Types) (test : Inst → Bool) (ss : List Stand) (i : Inst) : Type 0 where
  pub number : ℕ
  pub stand : Stand
  pub at : slice_get ss number ≡ Some stand
  pub register : is_register ts stand.inst ≡ true
  pub passes : test stand.inst ≡ true
  pub is : stand.inst ≡ i

abbrev choice : Types → (Inst → Bool) → List Stand → List Inst
choice ts test ss = filter test (flat_map (register_of ts) ss)

pub chosen : (ts : Types) (test : Inst → Bool) (ss : List Stand) (n : ℕ) (i : Inst) → slice_get (choice ts test ss) n ≡ Some i → Chosen ts test ss i
chosen ts test [] n i h = absurd (cc)
chosen ts test (s ∷ ss) n i h = by_register (is_register ts s.inst) refl h (λ m. chosen ts test ss m i)
  where
    later : Chosen ts test ss i → Chosen ts test (s ∷ ss) i
    later c = record { number = suc c.number; stand = c.stand; at = c.at; register = c.register; passes = c.passes; is = c.is }

    by_test : (b : Bool) → test s.inst ≡ b → is_register ts s.inst ≡ true → (m : ℕ) → slice_get (cond b (s.inst ∷ choice ts test ss) (choice ts test ss)) m ≡ Some i
        → ((j : ℕ) → slice_get (choice ts test ss) j ≡ Some i → Chosen ts test ss i) → Chosen ts test (s ∷ ss) i
    by_test true e r zero g rest = let same : s.inst ≡ i = cc in record { number = 0; stand = s; at = refl; register = r; passes = e; is = same }
    by_test true e r (suc m) g rest = later (rest m g)
    by_test false e r m g rest = later (rest m g)

    by_register : (b : Bool) → is_register ts s.inst ≡ b → slice_get (filter test (cond b (s.inst ∷ []) [] ++ flat_map (register_of ts) ss)) n ≡ Some i
        → ((j : ℕ) → slice_get (choice ts test ss) j ≡ Some i → Chosen ts test ss i) → Chosen ts test (s ∷ ss) i
    by_register true e g rest = by_test (test s.inst) refl e n g rest
    by_register false e g rest = later (rest n g)

pub chosen_there : (ts : Types) (test : Inst → Bool) (ss : List Stand) (k : ℕ) (s : Stand) → slice_get ss k ≡ Some s → is_register ts s.inst ≡ true → test s.inst ≡ true
    → (n : ℕ) × (slice_get (choice ts test ss) n ≡ Some s.inst)
chosen_there ts test [] k s at register passes = absurd (cc)
chosen_there ts test (x ∷ ss) zero s at register passes =
    let same : x ≡ s = cc in
    subst (λ (y : Stand). (n : ℕ) × (slice_get (choice ts test (y ∷ ss)) n ≡ Some s.inst)) (sym same) (0, rw (register, passes) refl)
chosen_there ts test (x ∷ ss) (suc k) s at register passes = by_register (is_register ts x.inst) (chosen_there ts test ss k s at register passes)
  where
    by_test : (b : Bool) → (n : ℕ) × (slice_get (choice ts test ss) n ≡ Some s.inst) → (n : ℕ) × (slice_get (cond b (x.inst ∷ choice ts test ss) (choice ts test ss)) n ≡ Some s.inst)
    by_test true rest = (suc rest.0, rest.1)
    by_test false rest = rest

    by_register : (b : Bool) → (n : ℕ) × (slice_get (choice ts test ss) n ≡ Some s.inst)
        → (n : ℕ) × (slice_get (filter test (cond b (x.inst ∷ []) [] ++ flat_map (register_of ts) ss)) n ≡ Some s.inst)
    by_register true rest = by_test (test x.inst) rest
    by_register false rest = rest

-- ---- the registers of a function

-- an instruction of a function that has the register with an id, and passes a test
pub record Comes (a : Accepted) (test : Inst → Bool) (function id : ℕ) : Type 0 where
  pub number : ℕ
  pub stand : Stand
  pub among : slice_get (members a.insts function) number ≡ Some stand
  pub register : is_register a.types stand.inst ≡ true
  pub passes : test stand.inst ≡ true
  pub is : stand.inst.id ≡ id

comes : (a : Accepted) (test : Inst → Bool) (function id : ℕ) (i : Inst) → Chosen a.types test (members a.insts function) i → i.id ≡ id → Comes a test function id
comes a test function id i c named =
    record { number = c.number; stand = c.stand; among = c.at; register = c.register; passes = c.passes; is = ap (λ (j : Inst). j.id) c.is ∙ named }

-- the register of a value comes from an instruction, and has as many cells as its type
pub record ValueComes (a : Accepted) (function n id : ℕ) : Type 0 where
  pub comes : Comes a (has_cells a.types) function id
  pub at : slice_get (plan_of a function).values n ≡ Some (id, unwrap_or (cells_of a.types comes.stand.inst.ty) 0)

pub value_comes : (a : Accepted) (function n id : ℕ) → slice_get (ids (plan_of a function).values) n ≡ Some id → ValueComes a function n id
unfolding plan_of comes
value_comes a function n id h =
    let ts : Types = a.types in
    let is : List Inst = registers_of ts a.insts function in
    let entry = map_from (λ (r : ℕ × ℕ). r.0) (values_among ts is) n id h in
    let inst = map_from (λ (i : Inst). (i.id, unwrap_or (cells_of ts i.ty) 0)) (filter (has_cells ts) is) n entry.0 entry.1 in
    let c = chosen ts (has_cells ts) (members a.insts function) n inst.0 inst.1 in
    let named : inst.0.id ≡ id = ap (λ (r : ℕ × ℕ). r.0) inst.2 ∙ entry.2 in
    let same : entry.0 ≡ (id, unwrap_or (cells_of ts c.stand.inst.ty) 0)
    = sym inst.2 ∙ ap (λ (k : ℕ). (k, unwrap_or (cells_of ts inst.0.ty) 0)) named ∙ ap (λ (i : Inst). (id, unwrap_or (cells_of ts i.ty) 0)) (sym c.is) in
    record { comes = comes a (has_cells ts) function id inst.0 c named; at = entry.1 ∙ ap Some same }

pub pointer_comes : (a : Accepted) (function n id : ℕ) → slice_get (plan_of a function).pointers n ≡ Some id → Comes a (has_pointer a.types) function id
unfolding plan_of
pointer_comes a function n id h =
    let ts : Types = a.types in
    let is : List Inst = registers_of ts a.insts function in
    let inst = map_from (λ (i : Inst). i.id) (filter (has_pointer ts) is) n id h in
    comes a (has_pointer ts) function id inst.0 (chosen ts (has_pointer ts) (members a.insts function) n inst.0 inst.1) inst.2

-- and each instruction of the function that has a register has it there
pub value_there : (a : Accepted) (function k : ℕ) (s : Stand) → slice_get (members a.insts function) k ≡ Some s → is_register a.types s.inst ≡ true → has_cells a.types s.inst ≡ true
    → (n : ℕ) × (slice_get (ids (plan_of a function).values) n ≡ Some s.inst.id)
unfolding plan_of
value_there a function k s at register passes =
    let ts : Types = a.types in
    let is : List Inst = registers_of ts a.insts function in
    let c = chosen_there ts (has_cells ts) (members a.insts function) k s at register passes in (
      c.0,
      map_at (λ (r : ℕ × ℕ). r.0) (values_among ts is) c.0 (s.inst.id, unwrap_or (cells_of ts s.inst.ty) 0)
          (map_at (λ (i : Inst). (i.id, unwrap_or (cells_of ts i.ty) 0)) (filter (has_cells ts) is) c.0 s.inst c.1),
    )

pub pointer_there : (a : Accepted) (function k : ℕ) (s : Stand) → slice_get (members a.insts function) k ≡ Some s → is_register a.types s.inst ≡ true → has_pointer a.types s.inst ≡ true
    → (n : ℕ) × (slice_get (plan_of a function).pointers n ≡ Some s.inst.id)
unfolding plan_of
pointer_there a function k s at register passes =
    let ts : Types = a.types in
    let c = chosen_there ts (has_pointer ts) (members a.insts function) k s at register passes in
    (c.0, map_at (λ (i : Inst). i.id) (filter (has_pointer ts) (registers_of ts a.insts function)) c.0 s.inst c.1)

-- ---- one instruction for an id

others_named : (id : ℕ) (ss : List Stand) (k : ℕ) (t : Stand) → AllByRecursion (λ (i : Inst). i.id ≢ id) (map (λ (s : Stand). s.inst) ss) → slice_get ss k ≡ Some t → t.inst.id ≢ id
others_named id [] k t h at = absurd (cc)
others_named id (x ∷ ss) zero t h at = let same : x ≡ t = cc in subst (λ (y : Stand). y.inst.id ≢ id) same h.0
others_named id (x ∷ ss) (suc k) t h at = others_named id ss k t h.1 at

-- the first of some instructions is the only one with its id
only_first : (x : Stand) (ss : List Stand) (k : ℕ) (t : Stand) → (x.inst.id ≡ 0) ⊎ AllByRecursion (λ (i : Inst). i.id ≢ x.inst.id) (map (λ (s : Stand). s.inst) ss) → slice_get ss k ≡ Some t
    → x.inst.id ≢ 0 → t.inst.id ≡ x.inst.id → ⊥
only_first x ss k t (inl none) at named same = named none
only_first x ss k t (inr apart) at named same = others_named x.inst.id ss k t apart at same

pub same_stand : (ss : List Stand) → AreDistinct (map (λ (s : Stand). s.inst) ss) → (j k : ℕ) (s t : Stand) → slice_get ss j ≡ Some s → slice_get ss k ≡ Some t → s.inst.id ≡ t.inst.id → s.inst.id ≢ 0
    → s ≡ t
same_stand [] h j k s t first second same named = absurd (cc)
same_stand (x ∷ ss) h zero zero s t first second same named = cc
same_stand (x ∷ ss) h zero (suc k) s t first second same named =
    let here : x ≡ s = cc in
    let own : x.inst.id ≡ s.inst.id = ap (λ (y : Stand). y.inst.id) here in
    absurd (only_first x ss k t h.0 second (λ none. named (sym own ∙ none)) (sym same ∙ sym own))
same_stand (x ∷ ss) h (suc j) zero s t first second same named =
    let here : x ≡ t = cc in
    let own : x.inst.id ≡ t.inst.id = ap (λ (y : Stand). y.inst.id) here in
    absurd (only_first x ss j s h.0 first (λ none. named (same ∙ sym own ∙ none)) (same ∙ sym own))
same_stand (x ∷ ss) h (suc j) (suc k) s t first second same named = same_stand ss h.1 j k s t first second same named

pub distinct_stands : (a : Accepted) → IsValid a → AreDistinct (map (λ (s : Stand). s.inst) (stands_of a.insts))
distinct_stands a v = subst AreDistinct (sym (insts_of_stands (sets_of a.insts) outside a.insts)) v.named.distinct

-- the instruction of a register among all instructions of the module
pub record Placed (a : Accepted) (function id : ℕ) (s : Stand) : Type 0 where
  pub number : ℕ
  pub at : slice_get (stands_of a.insts) number ≡ Some s
  pub inside : stands_in function s ≡ true
  pub function_is : s.position.function ≡ function
  pub named : s.inst.id ≢ 0

pub place : (a : Accepted) (test : Inst → Bool) (function id : ℕ) (c : Comes a test function id) → Placed a function id c.stand
place a test function id c =
    let found = filtered (stands_in function) (stands_of a.insts) c.number c.stand c.among in
    record {
      number = found.0;
      at = found.1;
      inside = found.2;
      function_is = eqb-true c.stand.position.function function (and_parts (in_function c.stand.position.stage) (c.stand.position.function == function) found.2).1;
      named = register_named a.types c.stand.inst c.register;
    }

pub one_stand : (a : Accepted) (p q : Inst → Bool) (f g id : ℕ) → IsValid a → (c : Comes a p f id) (d : Comes a q g id) → c.stand ≡ d.stand
one_stand a p q f g id v c d =
    let first = place a p f id c in
    let second = place a q g id d in
    same_stand (stands_of a.insts) (distinct_stands a v) first.number second.number c.stand d.stand first.at second.at (c.is ∙ sym d.is) first.named

module _ (valid : (a : Accepted) → IsAccepted a → IsValid a) (a : Accepted) (accepted : ∥ IsAccepted a ∥₁) where
  -- an id is that of a register in one function alone
  pub one_home : (p q : Inst → Bool) (f g id : ℕ) → Comes a p f id → Comes a q g id → f ≡ g
  one_home p q f g id c d =
      ∥∥₁_elim accepted (hlevel (props, codes)) (λ (is : IsAccepted a).
      sym (place a p f id c).function_is ∙ ap (λ (s : Stand). s.position.function) (one_stand a p q f g id (valid a is) c d) ∙ (place a q g id d).function_is)

  -- and of one kind
  pub one_kind : (f g id : ℕ) → Comes a (has_cells a.types) f id → Comes a (has_pointer a.types) g id → ⊥
  one_kind f g id c d =
      ∥∥₁_elim accepted (hlevel props) (λ (is : IsAccepted a).
      let same : c.stand ≡ d.stand = one_stand a (has_cells a.types) (has_pointer a.types) f g id (valid a is) c d in
      both_ways (is_pointer (form_of a.types c.stand.inst.ty)) (not-true (is_pointer (form_of a.types c.stand.inst.ty)) c.passes)
      (ap (λ (s : Stand). is_pointer (form_of a.types s.inst.ty)) same ∙ d.passes))
