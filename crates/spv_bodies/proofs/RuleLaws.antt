-- The tests of the rules of bodies against what the rules say.
use Rattle.std.proofs.Common.{◌≡◌, ◌↔◌, ℕ, ◌+◌, ◌==◌, Bool, true, false, List, [], ◌∷◌, ◌++◌, length, drop, Option, Some, Ok, refl}
use Rattle.std.proofs.lemmas.Bool.Decides.{Decides-and, Decides-not, Decides-or}
use Rattle.std.proofs.lemmas.List.Elements.{All-nil}
use Rattle.std.specs.Bool.{Decides}
use Rattle.std.specs.List.{All, AllZip, list_all, sum_by}
use Rattle.std.specs.Prelude.{◌&&◌, ◌||◌, if◌then◌else◌, not, nat_le, nat_lt}
use Rattle.spv_base.specs.declared.instructions.Inst.{Inst}
use Rattle.spv_base.specs.declared.instructions.Operand.{Operand}
use Rattle.spv_consts.specs.Table.{Constants}
use Rattle.spv_types.specs.declared.forms.Form.{Form}
use Rattle.spv_types.specs.declared.forms.Form.TheVariants.{Vector, Array, Struct, Pointer}
use Rattle.spv_types.specs.declared.forms.Member.{Member}
use Rattle.spv_types.specs.declared.queries.Components.{Components}
use Rattle.spv_types.specs.declared.queries.Pointed.{Pointed}
use Rattle.spv_types.specs.InterfaceBlocks.{nothing}
use Rattle.spv_types.specs.Rules.{has_runtime, is_sized_data, is_word}
use Rattle.spv_types.specs.Types.{Types, form_of}
use Rattle.spv_types.specs.Queries.{is_boolean, is_integer}
use Rattle.spv_types.proofs.Exports.{impossible, none_refused}
use Rattle.spv_index.specs.Classes.{is_debug}
use Rattle.spv_typing.specs.Fitting.{is_selectable}
use Rattle.spv_typing.proofs.Exports.{glsl_rule_is, rule_is}
use Rattle.spv_bodies.specs.declared.rules.Rule.{Rule}
use Rattle.spv_bodies.specs.declared.rules.Rule.TheVariants.{Free, Lanes, Select, Extended, Memory, Atomic, Composite, Control}
use Rattle.spv_bodies.specs.declared.rules.MemoryRule.{MemoryRule}
use Rattle.spv_bodies.specs.declared.rules.MemoryRule.TheVariants.{Undef, Variable, Load, Store, CopyMemory, ArrayLength, Chain, PtrChain, PtrEqual}
use Rattle.spv_bodies.specs.declared.rules.AtomicRule.{AtomicRule}
use Rattle.spv_bodies.specs.declared.rules.AtomicRule.TheVariants.{Read, Store as AtomicStore, Update, Compare, ControlBarrier, MemoryBarrier}
use Rattle.spv_bodies.specs.declared.rules.CompositeRule.{CompositeRule}
use Rattle.spv_bodies.specs.declared.rules.CompositeRule.TheVariants.{ExtractDynamic, InsertDynamic, Shuffle, Construct, Extract, Insert, CopyObject, CopyLogical}
use Rattle.spv_bodies.specs.declared.rules.ControlRule.{ControlRule}
use Rattle.spv_bodies.specs.declared.rules.ControlRule.TheVariants.{Phi, Branch, Switch, Return, ReturnValue, Function, Parameter, Call}
use Rattle.spv_bodies.specs.Atomics.{IsOrdered, IsShared, is_ordered, is_shared, number_at, on_shared}
use Rattle.spv_bodies.specs.Bodies.{KeepsAtomic, KeepsBody, KeepsComposite, KeepsControl, KeepsMemory, KeepsRule, bodies_of, body_breaches, breach, keeps, keeps_atomic, keeps_body, keeps_composite, keeps_control, keeps_memory}
use Rattle.spv_bodies.specs.Calls.{are_of, called_form, function_form, parameter_type, parameters_ahead}
use Rattle.spv_bodies.specs.Chains.{Reaches, reached_type, reaches}
use Rattle.spv_bodies.specs.Composites.{AreParts, Fill, IsChoice, IsPart, IsShuffle, are_elements, are_members, are_parts, fill, given, is_choice, is_part, is_shuffle, named_type}
use Rattle.spv_bodies.specs.Context.{IsConstantAt, Known, constant_at, form_at, is_buffer_pointer, is_constant_at, is_given, is_integer_at, known_of, type_at, type_in}
use Rattle.spv_bodies.specs.Control.{are_values, firsts}
use Rattle.spv_bodies.specs.Lanes.{KeepsLanes, count_of, keeps_lanes, types_after}
use Rattle.spv_bodies.specs.Laws.{KeepRules}
use Rattle.spv_bodies.specs.Matching.{Match, do_match, same_terms, term_of}
use Rattle.spv_bodies.specs.Memory.{IsWritable, MayBeStored, Starts, is_writable, may_be_stored, member_at, starts}
use Rattle.spv_index.specs.Operands.{literal_in, literal_operand}
use Rattle.spv_bodies.specs.Places.{Placed, placed}
use Rattle.spv_bodies.specs.Pointers.{KeepsPointerSelect, KeepsSelect, keeps_pointer_select, keeps_select}
use Rattle.spv_bodies.specs.Rules.{rule_of}
use Rattle.spv_bodies.proofs.TermLemmas.{both_written}
use Rattle.spv_bodies.proofs.TestLemmas.{all_are, boolean, buffer_pointer, composed, declaring, equal, has_is, integer, leading, less, one_more, opposite, runtime, void, word}
use Rattle.spv_base.proofs.Exports.{itself, at_most, some_decides, test_decides}
use Rattle.spv_base.specs.Options.{holds}

-- ---- memory

writable : (class : ℕ) → Decides (is_writable class) (IsWritable class)
writable class = Decides-not (class == 1 || (class == 2 || class == 9)) (Decides-or (class == 1) (class == 2 || class == 9) (equal class 1) (Decides-or (class == 2) (class == 9) (equal class 2) (equal class 9)))

storing : (k : Known) (p : Pointed) → Decides (may_be_stored k p) (MayBeStored k p)
storing k p = Decides-and (is_writable p.class) (is_sized_data k.types p.target) (writable p.class) (itself _)

starting : (k : Known) (i : Inst) (target : ℕ) → Decides (starts k i target) (Starts k i target)
starting k i target = Decides-or (nat_le (length i.operands) 1) (holds target (constant_at k i 1)) (at_most (length i.operands) 1) (has_is target (constant_at k i 1))

-- a result that leads to what some operands reach
reaching : (k : Known) (i : Inst) (n : ℕ) (p : Pointed) → Decides (reaches k i n p) (Reaches k i n p)
reaching k i n p = leading _ _ (form_of k.types i.ty) (λ q.
    Decides-and (q.class == p.class) (holds q.target (reached_type k p.target (drop n i.operands))) (equal q.class p.class) (has_is q.target (reached_type k p.target (drop n i.operands))))

memory : (k : Known) (i : Inst) (rule : MemoryRule) → Decides (keeps_memory k i rule) (KeepsMemory k i rule)
memory k i Undef = itself _
memory k i Variable = leading _ _ (form_of k.types i.ty) (λ p.
    Decides-and _ _ (Decides-and (p.class == 7) (holds 7 (literal_operand i 0)) (equal p.class 7) (has_is 7 (literal_operand i 0)))
    (Decides-and (not (has_runtime k.types p.target)) (starts k i p.target) (opposite (has_runtime k.types p.target)) (starting k i p.target)))
memory k i Load = leading _ _ (form_at k i 0) (λ p. Decides-and (p.target == i.ty) (is_sized_data k.types i.ty) (equal p.target i.ty) (itself _))
memory k i Store = leading _ _ (form_at k i 0) (λ p. Decides-and (holds p.target (type_at k i 1)) (may_be_stored k p) (has_is p.target (type_at k i 1)) (storing k p))
memory k i CopyMemory = leading _ _ (form_at k i 0) (λ p. leading _ _ (form_at k i 1) (λ q. Decides-and (q.target == p.target) (may_be_stored k p) (equal q.target p.target) (storing k p)))
memory k i ArrayLength =
    Decides-and (is_word (form_of k.types i.ty)) _ (word (form_of k.types i.ty))
    (leading _ _ (form_at k i 0) (λ p. test_decides _ _ (member_at k i 1 p.target) (λ ty. runtime (form_of k.types ty))))
memory k i Chain = leading _ _ (form_at k i 0) (reaching k i 1)
memory k i PtrChain = leading _ _ (form_at k i 0) (λ p.
    Decides-and (p.class == 12) _ (equal p.class 12) (Decides-and (is_integer_at k i 1) (reaches k i 2 p) (integer (form_at k i 1)) (reaching k i 2 p)))
memory k i PtrEqual =
    Decides-and (is_boolean (form_of k.types i.ty)) _ (boolean (form_of k.types i.ty))
    (test_decides _ _ (type_at k i 0) (λ ty.
    Decides-and (holds ty (type_at k i 1)) (is_buffer_pointer (form_of k.types ty)) (has_is ty (type_at k i 1)) (buffer_pointer (form_of k.types ty))))

-- ---- atomics

constant : (k : Known) (i : Inst) (n : ℕ) → Decides (is_constant_at k i n) (IsConstantAt k i n)
constant k i n = some_decides (constant_at k i n)

ordered : (k : Known) (i : Inst) → Decides (is_ordered k i) (IsOrdered k i)
ordered k i = Decides-and (is_constant_at k i 1) (is_constant_at k i 2) (constant k i 1) (constant k i 2)

shared : (k : Known) (p : Pointed) → Decides (is_shared k p) (IsShared k p)
shared k p =
    Decides-and (p.class == 12 || p.class == 4) (is_integer (form_of k.types p.target))
    (Decides-or (p.class == 12) (p.class == 4) (equal p.class 12) (equal p.class 4)) (integer (form_of k.types p.target))

-- an operation on shared memory, with a test of where the pointer leads
sharing : (k : Known) (i : Inst) (T : Pointed → Type 0) (t : Pointed → Bool) → ((p : Pointed) → Decides (t p) (T p)) → Decides (on_shared k i t) ((p : Pointed) × (form_at k i 0 ≡ Some (Pointer p.class p.target)) × (IsShared k p × T p))
sharing k i T t d = leading (λ p. IsShared k p × T p) (λ p. is_shared k p && t p) (form_at k i 0) (λ p. Decides-and (is_shared k p) (t p) (shared k p) (d p))

atomic : (k : Known) (i : Inst) (rule : AtomicRule) → Decides (keeps_atomic k i rule) (KeepsAtomic k i rule)
atomic k i Read = sharing k i _ _ (λ p. Decides-and (p.target == i.ty) (is_ordered k i) (equal p.target i.ty) (ordered k i))
atomic k i AtomicStore = sharing k i _ _ (λ p. Decides-and (holds p.target (type_at k i 3)) (is_ordered k i) (has_is p.target (type_at k i 3)) (ordered k i))
atomic k i Update = sharing k i _ _ (λ p.
    Decides-and (p.target == i.ty) _ (equal p.target i.ty) (Decides-and (holds p.target (type_at k i 3)) (is_ordered k i) (has_is p.target (type_at k i 3)) (ordered k i)))
atomic k i Compare = sharing k i _ _ (λ p.
    Decides-and (p.target == i.ty) _ (equal p.target i.ty)
    (Decides-and _ _ (Decides-and (holds p.target (type_at k i 4)) (holds p.target (type_at k i 5)) (has_is p.target (type_at k i 4)) (has_is p.target (type_at k i 5)))
    (Decides-and (is_ordered k i) (is_constant_at k i 3) (ordered k i) (constant k i 3))))
atomic k i ControlBarrier =
    Decides-and (is_integer_at k i 0 && holds 2 (number_at k i 0)) (is_ordered k i)
    (Decides-and (is_integer_at k i 0) (holds 2 (number_at k i 0)) (integer (form_at k i 0)) (has_is 2 (number_at k i 0))) (ordered k i)
atomic k i MemoryBarrier = Decides-and (is_constant_at k i 0) (is_constant_at k i 1) (constant k i 0) (constant k i 1)

-- ---- composites

choosing : (count : ℕ) (o : Operand) → Decides (is_choice count o) (IsChoice count o)
choosing count o = test_decides _ _ (literal_in o) (λ choice. Decides-or (nat_lt choice count) (choice == 4294967295) (less choice count) (equal choice 4294967295))

shuffling : (os : List Operand) (a b r : Components) → Decides (is_shuffle os a b r) (IsShuffle os a b r)
shuffling os a b r =
    Decides-and (a.ty == r.ty && b.ty == r.ty) (length os == r.count && list_all (is_choice (a.count + b.count)) os)
    (Decides-and (a.ty == r.ty) (b.ty == r.ty) (equal a.ty r.ty) (equal b.ty r.ty))
    (Decides-and (length os == r.count) (list_all (is_choice (a.count + b.count)) os) (equal (length os) r.count) (all_are _ _ (choosing (a.count + b.count)) os))

filling : (k : Known) (component count : ℕ) (os : List Operand) → Decides (fill k component count os) (Fill k component count os)
filling k component count os =
    Decides-and (list_all (λ o. nat_lt 0 (given k component (type_in k o))) os) (count == sum_by (λ o. given k component (type_in k o)) os)
    (all_are _ _ (λ o. less 0 (given k component (type_in k o))) os) (equal count (sum_by (λ o. given k component (type_in k o)) os))

members : (k : Known) (ms : List Member) (os : List Operand) → Decides (are_members k ms os) (AllZip (λ (m : Member) (o : Operand). type_in k o ≡ Some m.ty) ms os)
members k [] [] = (λ h. tt, λ h. refl)
members k [] (o ∷ os) = (λ h. impossible h, λ h. absurd h)
members k (m ∷ ms) [] = (λ h. impossible h, λ h. absurd h)
members k (m ∷ ms) (o ∷ os) = Decides-and (holds m.ty (type_in k o)) (are_members k ms os) (has_is m.ty (type_in k o)) (members k ms os)

elements : (k : Known) (element : ℕ) (count : Option ℕ) (os : List Operand) → Decides (are_elements k element count os) ((count ≡ Some (length os)) × All (λ o. type_in k o ≡ Some element) os)
elements k element count os =
    Decides-and (holds (length os) count) (list_all (λ o. holds element (type_in k o)) os) (has_is (length os) count) (all_are _ _ (λ o. has_is element (type_in k o)) os)

no_parts : Decides false ⊥
no_parts = (λ h. impossible h, λ h. absurd h)

parts : (k : Known) (os : List Operand) (f : Option Form) → Decides (are_parts k os f) (AreParts k os f)
parts k os (Some (Vector component count)) = filling k component count os
parts k os (Some (Array element count stride)) = elements k element count os
parts k os (Some (Struct ms block)) = members k ms os
parts k os _ = no_parts

part_of : (k : Known) (whole : ℕ) (os : List Operand) (ty : ℕ) → Decides (is_part k whole os ty) (IsPart k whole os ty)
part_of k whole os ty = Decides-and (is_selectable (form_of k.types ty)) (holds ty (named_type k whole os)) (itself _) (has_is ty (named_type k whole os))

matching : (ts : Types) (a b : ℕ) → Decides (do_match ts a b) (Match ts a b)
matching ts a b = Decides-or (a == b) (same_terms (term_of ts a) (term_of ts b)) (equal a b) (both_written (term_of ts a) (term_of ts b))

composite : (k : Known) (i : Inst) (rule : CompositeRule) → Decides (keeps_composite k i rule) (KeepsComposite k i rule)
composite k i ExtractDynamic = Decides-and (is_integer_at k i 1) _ (integer (form_at k i 1)) (composed _ _ (form_at k i 0) (λ v. equal v.ty i.ty))
composite k i InsertDynamic =
    Decides-and (holds i.ty (type_at k i 0) && is_integer_at k i 2) _
    (Decides-and (holds i.ty (type_at k i 0)) (is_integer_at k i 2) (has_is i.ty (type_at k i 0)) (integer (form_at k i 2)))
    (composed _ _ (form_of k.types i.ty) (λ v. has_is v.ty (type_at k i 1)))
composite k i Shuffle = composed _ _ (form_at k i 0) (λ a. composed _ _ (form_at k i 1) (λ b. composed _ _ (form_of k.types i.ty) (λ r. shuffling (drop 2 i.operands) a b r)))
composite k i Construct = parts k i.operands (form_of k.types i.ty)
composite k i Extract = test_decides _ _ (type_at k i 0) (λ whole. part_of k whole (drop 1 i.operands) i.ty)
composite k i Insert =
    Decides-and (holds i.ty (type_at k i 1)) _ (has_is i.ty (type_at k i 1)) (test_decides _ _ (type_at k i 0) (λ ty. part_of k i.ty (drop 2 i.operands) ty))
composite k i CopyObject = has_is i.ty (type_at k i 0)
composite k i CopyLogical =
    Decides-and (is_selectable (form_of k.types i.ty)) _ (itself _) (test_decides _ _ (type_at k i 0) (λ ty. matching k.types ty i.ty))

-- ---- control and calls

values : (k : Known) (ty : ℕ) (os : List Operand) → Decides (are_values k ty true os) (All (λ o. type_in k o ≡ Some ty) (firsts os))
values k ty [] = (λ h. All-nil _, λ h. refl)
values k ty (o ∷ []) = one_more (λ o. type_in k o ≡ Some ty) (holds ty (type_in k o)) true o [] (has_is ty (type_in k o)) (λ h. All-nil _, λ h. refl)
values k ty (o ∷ p ∷ os) = one_more (λ o. type_in k o ≡ Some ty) (holds ty (type_in k o)) (are_values k ty true os) o (firsts os) (has_is ty (type_in k o)) (values k ty os)

arguments : (k : Known) (tys : List ℕ) (os : List Operand) → Decides (are_of k tys os) (AllZip (λ ty o. type_in k o ≡ Some ty) tys os)
arguments k [] [] = (λ h. tt, λ h. refl)
arguments k [] (o ∷ os) = (λ h. impossible h, λ h. absurd h)
arguments k (ty ∷ tys) [] = (λ h. impossible h, λ h. absurd h)
arguments k (ty ∷ tys) (o ∷ os) = Decides-and (holds ty (type_in k o)) (are_of k tys os) (has_is ty (type_in k o)) (arguments k tys os)

control : (k : Known) (p : Placed) (rule : ControlRule) → Decides (keeps_control k p rule) (KeepsControl k p rule)
control k p Phi = Decides-and (is_given k (form_of k.types p.inst.ty)) (are_values k p.inst.ty true p.inst.operands) (itself _) (values k p.inst.ty p.inst.operands)
control k p Branch = boolean (form_at k p.inst 0)
control k p Switch = integer (form_at k p.inst 0)
control k p Return = test_decides _ _ p.within.returns (λ ty. void (form_of k.types ty))
control k p ReturnValue = test_decides _ _ p.within.returns (λ ty.
    Decides-and (holds ty (type_at k p.inst 0)) (is_given k (form_of k.types ty)) (has_is ty (type_at k p.inst 0)) (itself _))
control k p Function = declaring _ _ (function_form k p.inst) p.inst.ty (λ ps. at_most (length ps) (parameters_ahead p.rest))
control k p Parameter = has_is p.inst.ty (parameter_type k p.within.parameters p.within.ty)
control k p Call = declaring _ _ (called_form k p.inst) p.inst.ty (λ ps.
    Decides-and (is_given k (form_of k.types p.inst.ty)) (are_of k ps (drop 1 p.inst.operands)) (itself _) (arguments k ps (drop 1 p.inst.operands)))

-- ---- choices

pointers_chosen : (k : Known) (i : Inst) → Decides (keeps_pointer_select k i) (KeepsPointerSelect k i)
pointers_chosen k i =
    Decides-and k.pointers _ (itself _)
    (Decides-and (is_boolean (form_at k i 0)) _ (boolean (form_at k i 0))
    (Decides-and (holds i.ty (type_at k i 1) && holds i.ty (type_at k i 2)) (is_buffer_pointer (form_of k.types i.ty))
    (Decides-and (holds i.ty (type_at k i 1)) (holds i.ty (type_at k i 2)) (has_is i.ty (type_at k i 1)) (has_is i.ty (type_at k i 2)))
    (buffer_pointer (form_of k.types i.ty))))

lanes : (k : Known) (i : Inst) → Decides (keeps_lanes k i) (KeepsLanes k i)
lanes k i = rule_is k.types i.op i.ty (types_after k i 0)

chosen : (k : Known) (i : Inst) → Decides (keeps_select k i) (KeepsSelect k i)
chosen k i = Decides-or (keeps_lanes k i) (keeps_pointer_select k i) (lanes k i) (pointers_chosen k i)

-- ---- all rules

rule_kept : (k : Known) (p : Placed) (rule : Rule) → Decides (keeps k p rule) (KeepsRule k p rule)
rule_kept k p Free = (λ h. tt, λ h. refl)
rule_kept k p Lanes = lanes k p.inst
rule_kept k p Select = chosen k p.inst
rule_kept k p Extended =
    Decides-or (is_debug k.sets p.inst) _ (itself _)
    (test_decides _ _ (literal_operand p.inst 1) (λ number. glsl_rule_is k.types number (count_of p.inst) p.inst.ty (types_after k p.inst 2)))
rule_kept k p (Memory rule) = memory k p.inst rule
rule_kept k p (Atomic rule) = atomic k p.inst rule
rule_kept k p (Composite rule) = composite k p.inst rule
rule_kept k p (Control rule) = control k p rule

pub body_decided : (k : Known) (p : Placed) → Decides (keeps_body k p) (KeepsBody k p)
unfolding keeps_body
body_decided k p = Decides-and (not (has_runtime k.types p.inst.ty)) (keeps k p (rule_of p.inst.op)) (opposite _) (rule_kept k p (rule_of p.inst.op))

-- ---- bodies without a breach

kept_by_all : (k : Known) (ps : List Placed) → body_breaches k ps ≡ [] → list_all (keeps_body k) ps ≡ true
kept_by_all k [] none = refl
kept_by_all k (p ∷ ps) none = by_test (keeps_body k p) none (kept_by_all k ps)
  where
    by_test : (b : Bool) → (if b then [] else breach p.inst ∷ []) ++ body_breaches k ps ≡ [] → (body_breaches k ps ≡ [] → list_all (keeps_body k) ps ≡ true) → (b && list_all (keeps_body k) ps) ≡ true
    by_test true rest later = later rest
    by_test false rest later = absurd (cc)

none_breached : (k : Known) (ps : List Placed) → list_all (keeps_body k) ps ≡ true → body_breaches k ps ≡ []
none_breached k [] kept = refl
none_breached k (p ∷ ps) kept = by_test (keeps_body k p) kept (none_breached k ps)
  where
    by_test : (b : Bool) → (b && list_all (keeps_body k) ps) ≡ true → (list_all (keeps_body k) ps ≡ true → body_breaches k ps ≡ []) → (if b then [] else breach p.inst ∷ []) ++ body_breaches k ps ≡ []
    by_test true rest later = later rest
    by_test false rest later = impossible rest

pub kept_exactly : (ts : Types) (cs : Constants) (insts : List Inst) → (bodies_of ts cs insts ≡ Ok nothing) ↔ KeepRules (known_of ts cs insts) insts
unfolding bodies_of
kept_exactly ts cs insts =
    let k = known_of ts cs insts in
    let all = all_are (KeepsBody k) (keeps_body k) (body_decided k) (placed insts) in
    (λ is. all.0 (kept_by_all k (placed insts) (none_refused (body_breaches k (placed insts)) is)), λ kept. rw (none_breached k (placed insts) (all.1 kept)) refl)
