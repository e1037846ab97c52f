-- Each instruction at which a run stops is one of the machine's actions: its opcode has a rule of bodies, and each opcode that has one is
-- that of an action, of an OpExtInst or of instructions that are no executables.
use Rattle.std.proofs.Common.{◌≡◌, ◌∙◌, inl, inr, ℕ, Bool, true, false, List, [], ◌∷◌, Option, Some, None, refl, sym, ap, subst}
use Rattle.std.proofs.Math.Logic.{∥∥₁_elim}
use Rattle.std.proofs.Props.{props}
use Rattle.std.proofs.lemmas.Bool.{and_parts, both_ways, eqb-true, not-true, or_cases, or_right}
use Rattle.std.proofs.lemmas.List.Elements.{All-from_recursion}
use Rattle.std.specs.Prelude.{◌||◌, ◌==◌, not}
use Rattle.std.specs.List.{AllByRecursion, list_all}
use Rattle.std.specs.Option.{is_some, option_and_then, option_map, option_map_or, unwrap_or}
use Rattle.spv_base.specs.Entries.{reads}
use Rattle.spv_base.specs.declared.instructions.Inst.{Inst}
use Rattle.spv_alu.specs.Binary.{binary_op}
use Rattle.spv_alu.specs.Extended.{extended_op}
use Rattle.spv_alu.specs.Fields.{field_op}
use Rattle.spv_alu.specs.Glsl.{glsl_op}
use Rattle.spv_alu.specs.Unary.{unary_op}
use Rattle.spv_alu.specs.Vectors.{vector_op}
use Rattle.spv_index.specs.declared.classes.Class.TheVariants.{Executable}
use Rattle.spv_index.specs.Classes.{class_of, classes, is_debug, is_executable, is_local, sets_of}
use Rattle.spv_index.specs.Operands.{literal_operand}
use Rattle.spv_index.specs.Positions.{Stand, in_block, outside, stands_of}
use Rattle.spv_typing.specs.Glsl.{glsl_rule, glsl_rules}
use Rattle.spv_typing.specs.Rules.{rule_of as lanes_rule, rules}
use Rattle.spv_typing.specs.declared.rules.Rule.{Rule as LanesRule}
use Rattle.spv_bodies.specs.Bodies.{KeepsRule}
use Rattle.spv_bodies.specs.Context.{Known}
use Rattle.spv_bodies.specs.Lanes.{KeepsExtended}
use Rattle.spv_bodies.specs.Places.{Placed}
use Rattle.spv_bodies.specs.Rules.{atomic_rule, composite_rule, control_rule, memory_rule, other_rule, rule_of}
use Rattle.spv_bodies.specs.declared.rules.Rule.{Rule}
use Rattle.spv_bodies.specs.declared.rules.Rule.TheVariants.{Free, Lanes, Select, Extended, Memory, Atomic, Composite, Control}
use Rattle.spv_bodies.specs.declared.rules.AtomicRule.{AtomicRule}
use Rattle.spv_bodies.specs.declared.rules.AtomicRule.TheVariants as atomic
use Rattle.spv_bodies.specs.declared.rules.CompositeRule.{CompositeRule}
use Rattle.spv_bodies.specs.declared.rules.CompositeRule.TheVariants as composite
use Rattle.spv_bodies.specs.declared.rules.ControlRule.{ControlRule}
use Rattle.spv_bodies.specs.declared.rules.ControlRule.TheVariants as control
use Rattle.spv_bodies.specs.declared.rules.MemoryRule.{MemoryRule}
use Rattle.spv_bodies.specs.declared.rules.MemoryRule.TheVariants as memory
use Rattle.spv_valid.specs.Acceptance.{Accepted, IsAccepted}
use Rattle.spv_valid.specs.Validity.{IsValid}
use Rattle.spv_plans.specs.Members.{is_stop}
use Rattle.spv_results.specs.Computations.{by_opcode, computation_of}
use Rattle.spv_results.specs.Operands.{known}
use Rattle.spv_results.specs.declared.computations.Computation.TheVariants.{Glsl}
use Rattle.spv_state.specs.Actions.{action_of, atomic_op, action_rows}
use Rattle.spv_state.specs.declared.actions.Action.TheVariants.{Compute}
use Rattle.spv_computing.specs.Laws.{StopsAreActions, is_action}
use Rattle.spv_sites.specs.Sites.{IsSite, Site, accepted}
use Rattle.spv_sites.proofs.Exports.{key_passes, acting, no_debug, IsKept, Runs, kept_each, site_runs, HasClass, InBlock, each_has_class, each_in_block}

-- ---- opcodes

-- those of which no instruction is an executable: Nop 0, Line 8, Function 54, FunctionParameter 55, FunctionEnd 56, Variable 59, Phi 245,
-- LoopMerge 246, SelectionMerge 247, Label 248, NoLine 317
abbrev passed : List (ℕ × Bool)
passed =
    (0, true) ∷ (8, true) ∷ (54, true) ∷ (55, true) ∷ (56, true) ∷ (59, true) ∷ (245, true) ∷ (246, true) ∷ (247, true) ∷ (248, true) ∷ (317, true) ∷ []

-- an opcode that tells by itself that its instructions are actions
abbrev is_action_code : ℕ → Bool
is_action_code op = (is_some (reads op action_rows) || is_some (atomic_op op)) || is_some (by_opcode op)

-- those, and ExtInst 12
abbrev is_ruled : ℕ → Bool
is_ruled op = (op == 12 || is_some (reads op passed)) || is_action_code op

-- the tables of the rules of bodies
abbrev memory_rules : List (ℕ × MemoryRule)
memory_rules =
    (1, memory.Undef) ∷ (59, memory.Variable) ∷ (61, memory.Load) ∷ (62, memory.Store) ∷ (63, memory.CopyMemory) ∷ (65, memory.Chain) ∷ (66, memory.Chain) ∷ (67, memory.PtrChain) ∷ (68, memory.ArrayLength)
    ∷ (401, memory.PtrEqual) ∷ (402, memory.PtrEqual) ∷ []

abbrev control_rules : List (ℕ × ControlRule)
control_rules =
    (54, control.Function) ∷ (55, control.Parameter) ∷ (57, control.Call) ∷ (245, control.Phi) ∷ (250, control.Branch) ∷ (251, control.Switch) ∷ (253, control.Return)
    ∷ (254, control.ReturnValue) ∷ []

abbrev composite_rules : List (ℕ × CompositeRule)
composite_rules =
    (77, composite.ExtractDynamic) ∷ (78, composite.InsertDynamic) ∷ (79, composite.Shuffle) ∷ (80, composite.Construct) ∷ (81, composite.Extract) ∷ (82, composite.Insert)
    ∷ (83, composite.CopyObject) ∷ (400, composite.CopyLogical) ∷ []

abbrev atomic_rules : List (ℕ × AtomicRule)
atomic_rules =
    (224, atomic.ControlBarrier) ∷ (225, atomic.MemoryBarrier) ∷ (227, atomic.Read) ∷ (228, atomic.Store) ∷ (229, atomic.Update) ∷ (230, atomic.Compare)
    ∷ (232, atomic.Read) ∷ (233, atomic.Read) ∷ (234, atomic.Update) ∷ (235, atomic.Update) ∷ (236, atomic.Update) ∷ (237, atomic.Update)
    ∷ (238, atomic.Update) ∷ (239, atomic.Update) ∷ (240, atomic.Update) ∷ (241, atomic.Update) ∷ (242, atomic.Update) ∷ []

memory_ruled : (op : ℕ) (x : MemoryRule) → memory_rule op ≡ Some x → is_ruled op ≡ true
unfolding memory_rule atomic_op unary_op binary_op field_op extended_op vector_op
memory_ruled op x h = key_passes is_ruled op x memory_rules refl h

control_ruled : (op : ℕ) (x : ControlRule) → control_rule op ≡ Some x → is_ruled op ≡ true
unfolding control_rule atomic_op unary_op binary_op field_op extended_op vector_op
control_ruled op x h = key_passes is_ruled op x control_rules refl h

composite_ruled : (op : ℕ) (x : CompositeRule) → composite_rule op ≡ Some x → is_ruled op ≡ true
unfolding composite_rule atomic_op unary_op binary_op field_op extended_op vector_op
composite_ruled op x h = key_passes is_ruled op x composite_rules refl h

atomic_ruled : (op : ℕ) (x : AtomicRule) → atomic_rule op ≡ Some x → is_ruled op ≡ true
unfolding atomic_rule atomic_op unary_op binary_op field_op extended_op vector_op
atomic_ruled op x h = key_passes is_ruled op x atomic_rules refl h

lanes_ruled : (op : ℕ) (x : LanesRule) → lanes_rule op ≡ Some x → is_ruled op ≡ true
unfolding lanes_rule atomic_op unary_op binary_op field_op extended_op vector_op
lanes_ruled op x h = key_passes is_ruled op x rules refl h

-- those that keep their rule wherever they stand, OpExtInst and OpSelect
abbrev free : List (ℕ × Rule)
free =
    (0, Free) ∷ (8, Free) ∷ (12, Extended) ∷ (56, Free) ∷ (169, Select) ∷ (246, Free) ∷ (247, Free) ∷ (248, Free) ∷ (249, Free) ∷ (255, Free) ∷ (317, Free) ∷ []

free_ruled : (op : ℕ) (x : Rule) → reads op free ≡ Some x → is_ruled op ≡ true
unfolding atomic_op unary_op binary_op field_op extended_op vector_op
free_ruled op x h = key_passes is_ruled op x free refl h

-- an instruction that keeps the rule of its opcode has one of them
kept_ruled : (k : Known) (p : Placed) → KeepsRule k p (rule_of p.inst.op) → is_ruled p.inst.op ≡ true
unfolding other_rule
kept_ruled k p kept = by_rules (memory_rule op) refl (control_rule op) refl (composite_rule op) refl (atomic_rule op) refl (reads op free) refl kept
  where
    op : ℕ
    op = p.inst.op

    by_rules : (m : Option MemoryRule) → memory_rule op ≡ m → (c : Option ControlRule) → control_rule op ≡ c → (o : Option CompositeRule) → composite_rule op ≡ o
        → (t : Option AtomicRule) → atomic_rule op ≡ t → (f : Option Rule) → reads op free ≡ f
        → KeepsRule k p (option_map_or Memory m (option_map_or Control c (option_map_or Composite o (option_map_or Atomic t (unwrap_or f Lanes))))) → is_ruled op ≡ true
    by_rules (Some x) e c _ o _ t _ f _ kept = memory_ruled op x e
    by_rules None _ (Some x) e o _ t _ f _ kept = control_ruled op x e
    by_rules None _ None _ (Some x) e t _ f _ kept = composite_ruled op x e
    by_rules None _ None _ None _ (Some x) e f _ kept = atomic_ruled op x e
    by_rules None _ None _ None _ None _ (Some x) e kept = free_ruled op x e
    by_rules None _ None _ None _ None _ None _ kept = lanes_ruled op kept.0 kept.1

-- ---- classes

-- no executable has the opcode
abbrev is_passed_by : Bool → Bool → ℕ → Bool
is_passed_by debug local op = not (is_executable (unwrap_or (reads op (classes debug local)) Executable))

passed_by : (debug local : Bool) → list_all (λ (e : ℕ × Bool). is_passed_by debug local e.0) passed ≡ true
passed_by true true = refl
passed_by true false = refl
passed_by false true = refl
passed_by false false = refl

not_passed : (sets : List (ℕ × Bool)) (i : Inst) → is_executable (class_of sets i) ≡ true → (o : Option Bool) → reads i.op passed ≡ o → is_some o ≡ true → ⊥
not_passed sets i runs None e h = cc
not_passed sets i runs (Some x) e h =
    let none : is_passed_by (is_debug sets i) (is_local i) i.op ≡ true = key_passes (is_passed_by (is_debug sets i) (is_local i)) i.op x passed (passed_by (is_debug sets i) (is_local i)) e in
    both_ways (is_executable (class_of sets i)) (not-true (is_executable (class_of sets i)) none) runs

-- ---- instructions of an imported set

glsl_is : (number : ℕ) (x : LanesRule) → glsl_rule number ≡ Some x → is_some (glsl_op number) ≡ true
unfolding glsl_op
glsl_is number x h = key_passes (λ (n : ℕ). is_some (glsl_op n)) number x glsl_rules refl h

mapped_some : {A B : Type 0} (f : A → B) (o : Option A) → is_some o ≡ true → is_some (option_map f o) ≡ true
mapped_some f None h = h
mapped_some f (Some x) h = refl

-- one that has a meaning at run time computes
extended_computes : (k : Known) (i : Inst) → i.op ≡ 12 → is_debug k.sets i ≡ false → KeepsExtended k i → is_some (computation_of i) ≡ true
unfolding computation_of
extended_computes k i op plain (inl debug) = absurd (both_ways (is_debug k.sets i) plain debug)
extended_computes k i op plain (inr kept) =
    let number : option_and_then glsl_op (literal_operand i 1) ≡ glsl_op kept.0 = ap (option_and_then glsl_op) kept.1 in
    let known : is_some (option_and_then glsl_op (literal_operand i 1)) ≡ true = ap is_some number ∙ glsl_is kept.0 kept.2.0 kept.2.1 in
    let some : is_some (option_map Glsl (option_and_then glsl_op (literal_operand i 1))) ≡ true = mapped_some Glsl (option_and_then glsl_op (literal_operand i 1)) known in
    rw op some

-- ---- executables

module _ (k : Known) (i : Inst) (runs : is_executable (class_of k.sets i) ≡ true) (kept : IsKept k i) where
  ruled : is_ruled i.op ≡ true
  ruled = subst (λ (j : Inst). is_ruled j.op ≡ true) kept.same (kept_ruled k kept.placed kept.keeps.1)

  of_set : i.op ≡ 12 → is_action i ≡ true
  unfolding memory_rule atomic_rule composite_rule control_rule other_rule
  of_set op =
      let rule : KeepsExtended k kept.placed.inst = subst (λ (n : ℕ). KeepsRule k kept.placed (rule_of n)) (ap (λ (j : Inst). j.op) kept.same ∙ op) kept.keeps.1 in
      let own : KeepsExtended k i = subst (KeepsExtended k) kept.same rule in
      or_right (is_some (reads i.op action_rows) || is_some (atomic_op i.op)) (is_some (computation_of i)) (extended_computes k i op (no_debug k.sets i op runs) own)

  of_code : (i.op == 12) ≡ false → is_action_code i.op ≡ true → is_action i ≡ true
  unfolding computation_of
  of_code other h = rw other h

  pub run_acts : is_action i ≡ true
  run_acts = by_code (i.op == 12) refl ruled
    where
      by_code : (b : Bool) → (i.op == 12) ≡ b → ((b || is_some (reads i.op passed)) || is_action_code i.op) ≡ true → is_action i ≡ true
      by_code true e h = of_set (eqb-true i.op 12 e)
      by_code false e h = elim (or_cases (is_some (reads i.op passed)) (is_action_code i.op) h) [
        | inl none ↦ absurd (not_passed k.sets i runs (reads i.op passed) refl none)
        | inr code ↦ of_code e code
      ]

-- ---- each instruction at which a run stops

-- what two facts of each element give together
both_each : {X : Type 0} (P Q R : X → Type 0) → ((x : X) → P x → Q x → R x) → (xs : List X) → AllByRecursion P xs → AllByRecursion Q xs → AllByRecursion R xs
both_each P Q R give [] p q = tt
both_each P Q R give (x ∷ xs) p q = (give x p.0 q.0, both_each P Q R give xs p.1 q.1)

abbrev Acts : Stand → Type 0
Acts s = is_stop s ≡ true → is_action s.inst ≡ true

stand_acts : (a : Accepted) (s : Stand) → HasClass (sets_of a.insts) s → InBlock (IsKept (known a)) s → Acts s
stand_acts a s class placed stops =
    let parts = and_parts (is_executable s.class) (in_block s.position.stage) stops in
    run_acts (known a) s.inst (ap is_executable (sym class) ∙ parts.0) (placed parts.1)

pub stops_act : (a : Accepted) → IsAccepted a → IsValid a → StopsAreActions a.insts
stops_act a accepts valid =
    let sets = sets_of a.insts in
    All-from_recursion Acts (stands_of a.insts)
    (both_each (HasClass sets) (InBlock (IsKept (known a))) Acts (stand_acts a) (stands_of a.insts) (each_has_class sets outside a.insts)
    (each_in_block (IsKept (known a)) sets outside a.insts refl (kept_each a accepts valid)))

-- an instruction that a run has come to computes, where its action is to compute
pub computes_there : (x : Site) (m : Accepted) → m ≡ accepted x → ∥ IsAccepted m ∥₁ → ∥ IsValid m ∥₁ → ∥ IsSite x ∥₁ → action_of x.inst ≡ Compute → computation_of x.inst ≡ None → ⊥
computes_there x m same accepts valid site is none =
    let runs = site_runs x (subst (λ (a : Accepted). ∥ IsAccepted a ∥₁) same accepts) (subst (λ (a : Accepted). ∥ IsValid a ∥₁) same valid) site in
    let acts : is_action x.inst ≡ true = ∥∥₁_elim runs (hlevel props) (λ (r : Runs (accepted x) x.inst). run_acts (known (accepted x)) x.inst r.executable r.kept) in
    let own = acting x.inst Compute is in
    let none_of : is_action x.inst ≡ false = rw (own.0, own.1, none) refl in
    both_ways (is_action x.inst) none_of acts
