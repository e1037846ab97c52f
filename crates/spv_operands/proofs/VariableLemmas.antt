-- Each OpVariable of an accepted module is among its variables.
use Rattle.std.proofs.Common.{◌≡◌, ◌≢◌, ◌⊎◌, ◌∙◌, inl, inr, ℕ, zero, suc, ◌<◌, ◌==◌, ◌&&◌, ◌||◌, Bool, true, false, List, [], ◌∷◌, ◌++◌, length, drop, Option, Some, None, refl, sym, ap, subst, arith}
use Rattle.std.proofs.lemmas.Bool.{and_parts, both_ways, eq-eqb, lt-ltb, ne_eqb, not-true, or_cases}
use Rattle.std.specs.Prelude.{if◌then◌else◌, nat_lt, not}
use Rattle.std.specs.List.{AllByRecursion, Contains, cons_option, filter_map}
use Rattle.spv_base.specs.Entries.{reads}
use Rattle.spv_base.specs.Order.{AreDistinct}
use Rattle.spv_base.specs.declared.instructions.Inst.{Inst}
use Rattle.spv_ops.specs.Grammar.{row_of}
use Rattle.spv_ops.specs.Module.{Decoded}
use Rattle.spv_ops.specs.Opcodes.{table}
use Rattle.spv_index.specs.declared.positions.Position.{Position}
use Rattle.spv_index.specs.Classes.{class_of, sets_of}
use Rattle.spv_index.specs.Definitions.{before_functions}
use Rattle.spv_index.specs.Operands.{literal_operand}
use Rattle.spv_index.specs.Positions.{Stand, outside, position_after, stands, stands_of}
use Rattle.spv_types.specs.declared.forms.Form.{Form}
use Rattle.spv_types.specs.declared.forms.Form.TheVariants.{Void, Bool as Boolean, Int, Vector, Array, Runtime, Struct, Pointer, Function}
use Rattle.spv_types.specs.declared.forms.Member.{Member}
use Rattle.spv_types.specs.declared.queries.Pointed.{Pointed}
use Rattle.spv_types.specs.Build.{type_breaches}
use Rattle.spv_types.specs.Laws.{AreSound}
use Rattle.spv_types.specs.Queries.{pointee}
use Rattle.spv_types.specs.Rules.{has_runtime, is_block, is_class, is_data, keeps_pointer, keeps_rules, keeps_target}
use Rattle.spv_types.specs.Types.{Types, form_of}
use Rattle.spv_types.specs.Typing.{defined_form, types_in, types_read}
use Rattle.spv_valid.specs.Below.spv_sections.specs.Ids.{has_result as results, head_of, is_result}
use Rattle.spv_valid.specs.Below.spv_sections.specs.Laws.{IsInOrder}
use Rattle.spv_consts.proofs.Exports.{kept_at}
use Rattle.spv_valid.specs.Below.spv_bodies.specs.declared.rules.MemoryRule.TheVariants.{Variable}
use Rattle.spv_valid.specs.Below.spv_bodies.specs.declared.rules.Rule.TheVariants.{Memory}
use Rattle.spv_valid.specs.Below.spv_bodies.specs.Bodies.{KeepsBody, KeepsRule}
use Rattle.spv_valid.specs.Below.spv_bodies.specs.Context.{Known, known_of}
use Rattle.spv_valid.specs.Below.spv_bodies.specs.Memory.{KeepsVariable}
use Rattle.spv_valid.specs.Below.spv_bodies.specs.Places.{Placed}
use Rattle.spv_valid.specs.Below.spv_bodies.specs.Rules.{memory_rule, rule_of}
use Rattle.spv_mem.specs.Targets.{is_counted, may_be_target}
use Rattle.spv_valid.specs.Acceptance.{Accepted, IsAccepted, decoded_in}
use Rattle.spv_valid.specs.Validity.{IsValid}
use Rattle.spv_initial.specs.Variables.{declared_by, declared_in, may_hold, targets_of, variable_of}
use Rattle.spv_initial.specs.declared.variables.Declared.{Declared}
use Rattle.spv_initial.proofs.Exports.{by_is}
use Rattle.spv_plans.proofs.Exports.{each_behind}
use Rattle.spv_operands.specs.Variables.{IsDeclared}
use Rattle.spv_operands.proofs.FormLemmas.{AreAlike, data_alike, pointer_alike, struct_alike, types_alike, within_alike}
use Rattle.spv_operands.proofs.FrontLemmas.{form_stays, front_sound, plain_stays}
use Rattle.spv_operands.proofs.ListLemmas.{each_contained}
use Rattle.spv_operands.proofs.TargetLemmas.{plain_counted, struct_target}
use Rattle.spv_base.proofs.Exports.{each_weaker}
use Rattle.spv_base.specs.Options.{holds}
use Rattle.spv_types.proofs.Exports.{data_form}

-- ---- lists

-- an instruction stands before the functions, or from the first function on
abbrev pub Stands : List Inst → List Inst → List Inst → Inst → Type 0
Stands before insts tail i = ((front : List Inst) × (later : List Inst) × (before ≡ front ++ i ∷ later)) ⊎ Contains tail i

pub place_of : (insts : List Inst) (i : Inst) → Contains insts i → Stands (before_functions insts) insts (drop (length (before_functions insts)) insts) i
unfolding before_functions
place_of [] i (k, lt, is) = absurd (omega arith)
place_of (j ∷ insts) i at = by_op (j.op == 54) at (place_of insts i)
  where
    behind : Stands (before_functions insts) insts (drop (length (before_functions insts)) insts) i
        → Stands (j ∷ before_functions insts) (j ∷ insts) (drop (length (before_functions insts)) insts) i
    behind (inl (front, later, e)) = inl (j ∷ front, later, ap (λ (xs : List Inst). j ∷ xs) e)
    behind (inr there) = inr there

    by_op : (b : Bool) → Contains (j ∷ insts) i → (Contains insts i → Stands (before_functions insts) insts (drop (length (before_functions insts)) insts) i)
        → Stands (if b then [] else j ∷ before_functions insts) (j ∷ insts) (drop (length (if b then [] else j ∷ before_functions insts)) (j ∷ insts)) i
    by_op true there rest = inr there
    by_op false (zero, lt, is) rest = inl ([], before_functions insts, ap (λ (x : Inst). x ∷ before_functions insts) is)
    by_op false (suc k, lt, is) rest = behind (rest (k, omega arith, is))

-- ---- its id

each_inst : (P : Inst → Type 0) (sets : List (ℕ × Bool)) (position : Position) (insts : List Inst) → AllByRecursion (λ (s : Stand). P s.inst) (stands sets position insts) → AllByRecursion P insts
each_inst P sets position [] h = tt
each_inst P sets position (i ∷ is) (first, rest) = (first, each_inst P sets (position_after position (class_of sets i) i) is rest)

variable_results : results (head_of 59) ≡ true
unfolding head_of row_of table
variable_results = refl

variable_named : (decoded : Decoded) (i : Inst) → is_result decoded i ≡ true → i.op ≡ 59 → i.id ≢ 0
variable_named decoded i h op none =
    let test : (i.id == 0) ≡ true = eq-eqb i.id 0 none in
    let without : not (results (head_of i.op)) ≡ true = rw test at h in
    let with_one : results (head_of i.op) ≡ true = ap (λ (n : ℕ). results (head_of n)) op ∙ variable_results in
    both_ways (results (head_of i.op)) (not-true (results (head_of i.op)) without) with_one

named : (a : Accepted) (i : Inst) → IsValid a → Contains a.insts i → i.op ≡ 59 → 0 < i.id
named a i valid at op =
    let all = each_inst (λ (j : Inst). is_result (decoded_in a) j ≡ true) (sets_of a.insts) outside a.insts
    (each_weaker (IsInOrder (decoded_in a)) (λ (s : Stand). is_result (decoded_in a) s.inst ≡ true) (λ s order. order.result) (stands_of a.insts) valid.ids) in
    let result : is_result (decoded_in a) i ≡ true = each_contained (λ (j : Inst). is_result (decoded_in a) j ≡ true) a.insts i all at in
    let some : i.id ≢ 0 = variable_named (decoded_in a) i result op in
    omega (arith, some)

-- ---- its type, and what it may hold

pub record IsTyped (a : Accepted) (i : Inst) : Type 0 where
  pub pointed : Pointed
  pub type : form_of a.types i.ty ≡ Some (Pointer pointed.class pointed.target)
  pub may : may_hold a.types pointed.class pointed.target ≡ true

holds_counted : (d c e m : Bool) → d ≡ true → c ≡ true → (d && (c || (e && m))) ≡ true
holds_counted d c e m h g = grind arith

holds_open : (d c e m : Bool) → d ≡ true → e ≡ true → m ≡ true → (d && (c || (e && m))) ≡ true
holds_open d c e m h g f = grind arith

pub block_form : (o : Option Form) → is_block o ≡ true → (members : List Member) × (block : Bool) × (o ≡ Some (Struct members block))
block_form o h = grind arith

-- the rule of a StorageBuffer's target
asks_block : (b c d e : Bool) → b ≡ true → (not ((b || c) || d) || e) ≡ true → e ≡ true
asks_block true c d e h g = g
asks_block false c d e h g = absurd (cc)

pub variable_kept : (all : List Inst) (ts : Types) (i : Inst) → i.op ≡ 59 → keeps_rules all ts i ≡ true → keeps_pointer all ts i (form_of ts i.ty) ≡ true
unfolding keeps_rules defined_form
variable_kept all ts i op h = rw op at h

variable_rule : (op : ℕ) → op ≡ 59 → rule_of op ≡ Memory Variable
unfolding memory_rule
variable_rule op is = rw is refl

pub local_kept : (k : Known) (p : Placed) → KeepsBody k p → p.inst.op ≡ 59 → KeepsVariable k p.inst
local_kept k p kept op = subst (KeepsRule k p) (variable_rule p.inst.op op) kept.1

module _ (a : Accepted) (is : IsAccepted a) (valid : IsValid a) where
  alike : AreAlike (types_read a.insts) a.types
  alike = types_alike a is

  pointed_data : (ty class target : ℕ) → form_of a.types ty ≡ Some (Pointer class target) → is_data (form_of a.types target) ≡ true
  pointed_data ty class target type = (and_parts (is_class class) (is_data (form_of a.types target)) (valid.types.kept ty (Pointer class target) type)).1

  -- in a function
  typed_behind : (i : Inst) → Contains (drop (length (before_functions a.insts)) a.insts) i → i.op ≡ 59 → IsTyped a i
  typed_behind i there op =
      let k : Known = known_of a.types a.constants a.insts in
      let all = each_behind k (λ (j : Inst). j.op ≡ 59 → KeepsVariable k j) (local_kept k) a.insts valid.rules in
      let kept : KeepsVariable k i = each_contained (λ (j : Inst). j.op ≡ 59 → KeepsVariable k j) (drop (length (before_functions a.insts)) a.insts) i all there op in
      let data_is : is_data (form_of a.types kept.0.target) ≡ true = pointed_data i.ty kept.0.class kept.0.target kept.1 in
      record {
        pointed = kept.0;
        type = kept.1;
        may = holds_counted (is_data (form_of a.types kept.0.target)) (is_counted a.types kept.0.target) (kept.0.class == 12) (may_be_target a.types kept.0.target)
            data_is (plain_counted a.types valid.types valid.lengths kept.0.target data_is kept.2.1.0);
      }

  -- before the functions
  module _ (front later : List Inst) (i : Inst) (place : before_functions a.insts ≡ front ++ i ∷ later) where
    none : type_breaches a.insts [] (front ++ i ∷ later) ≡ []
    none = subst (λ (xs : List Inst). type_breaches a.insts [] xs ≡ []) place valid.declared

    back : types_in a.insts (front ++ i ∷ later) ≡ types_read a.insts
    back = ap (λ (xs : List Inst). types_in a.insts xs) (sym place)

    sound : AreSound (types_in a.insts front)
    sound = front_sound a.insts front (i ∷ later) none

    pub form_later : (q : ℕ) (f : Form) → form_of (types_in a.insts front) q ≡ Some f → form_of (types_read a.insts) q ≡ Some f
    form_later q f h = subst (λ (ts : Types). form_of ts q ≡ Some f) back (form_stays a.insts front (i ∷ later) q f h)

    pub plain_later : (q : ℕ) → is_data (form_of (types_in a.insts front) q) ≡ true → has_runtime (types_in a.insts front) q ≡ false → has_runtime a.types q ≡ false
    plain_later q data_is plain =
        within_alike (types_read a.insts) a.types alike q
        ∙ subst (λ (ts : Types). has_runtime ts q ≡ false) back (plain_stays a.insts front (i ∷ later) q sound data_is plain)

    pub data_later : (q : ℕ) → is_data (form_of (types_in a.insts front) q) ≡ true → is_data (form_of a.types q) ≡ true
    data_later q data_is =
        let form = data_form (form_of (types_in a.insts front) q) data_is in
        data_alike (types_read a.insts) a.types alike q ∙ ap is_data (form_later q form.0 form.1) ∙ sym (ap is_data form.1) ∙ data_is

    typed_pointer : (class target : ℕ) → form_of (types_in a.insts front) i.ty ≡ Some (Pointer class target) → keeps_target a.insts (types_in a.insts front) i class target ≡ true → IsTyped a i
    typed_pointer class target form kept = record { pointed = record { class = class; target = target }; type = type; may = by_class (class == 12) refl }
      where
        type : form_of a.types i.ty ≡ Some (Pointer class target)
        type = pointer_alike (types_read a.insts) a.types alike i.ty class target (form_later i.ty (Pointer class target) form)

        early : is_data (form_of (types_in a.insts front) target) ≡ true
        early = (and_parts (is_class class) (is_data (form_of (types_in a.insts front) target)) (sound.kept i.ty (Pointer class target) form)).1

        data_is : is_data (form_of a.types target) ≡ true
        data_is = pointed_data i.ty class target type

        by_class : (b : Bool) → (class == 12) ≡ b → may_hold a.types class target ≡ true
        by_class true e =
            let first = and_parts (not (class == 7)) _ kept in
            let second = and_parts (not (has_runtime (types_in a.insts front) target) || class == 12) _ first.1 in
            let third = and_parts (not ((class == 12 || class == 2) || class == 9) || is_block (form_of (types_in a.insts front) target)) _ second.1 in
            let block = block_form (form_of (types_in a.insts front) target) (asks_block (class == 12) (class == 2) (class == 9) (is_block (form_of (types_in a.insts front) target)) e third.0) in
            let open_end : may_be_target a.types target ≡ true = struct_target a.types valid.types valid.lengths target block.0 block.1
            (struct_alike (types_read a.insts) a.types alike target block.0 block.1 (form_later target (Struct block.0 block.1) block.2)) in
            holds_open (is_data (form_of a.types target)) (is_counted a.types target) (class == 12) (may_be_target a.types target) data_is e open_end
        by_class false e =
            let first = and_parts (not (class == 7)) _ kept in
            let second = and_parts (not (has_runtime (types_in a.insts front) target) || class == 12) _ first.1 in
            let plain : has_runtime (types_in a.insts front) target ≡ false = by_either (or_cases (not (has_runtime (types_in a.insts front) target)) (class == 12) second.0) in
            holds_counted (is_data (form_of a.types target)) (is_counted a.types target) (class == 12) (may_be_target a.types target)
            data_is (plain_counted a.types valid.types valid.lengths target data_is (plain_later target early plain))
          where
            by_either : (not (has_runtime (types_in a.insts front) target) ≡ true) ⊎ ((class == 12) ≡ true) → has_runtime (types_in a.insts front) target ≡ false
            by_either (inl plain) = not-true (has_runtime (types_in a.insts front) target) plain
            by_either (inr buffer) = absurd (both_ways (class == 12) e buffer)

    typed_form : (o : Option Form) → form_of (types_in a.insts front) i.ty ≡ o → keeps_pointer a.insts (types_in a.insts front) i o ≡ true → IsTyped a i
    typed_form None e h = absurd (cc)
    typed_form (Some Void) e h = absurd (cc)
    typed_form (Some Boolean) e h = absurd (cc)
    typed_form (Some (Int width sign)) e h = absurd (cc)
    typed_form (Some (Vector component count)) e h = absurd (cc)
    typed_form (Some (Array element n stride)) e h = absurd (cc)
    typed_form (Some (Runtime element stride)) e h = absurd (cc)
    typed_form (Some (Struct members block)) e h = absurd (cc)
    typed_form (Some (Pointer class target)) e h = typed_pointer class target e (and_parts (holds class (literal_operand i 0)) (keeps_target a.insts (types_in a.insts front) i class target) h).1
    typed_form (Some (Function returns parameters)) e h = absurd (cc)

    typed_front : i.op ≡ 59 → IsTyped a i
    typed_front op = typed_form (form_of (types_in a.insts front) i.ty) refl (variable_kept a.insts (types_in a.insts front) i op (kept_at a.insts [] front later i none))

  pub variable_typed : (i : Inst) → Contains a.insts i → i.op ≡ 59 → IsTyped a i
  variable_typed i at op = by_place (place_of a.insts i at)
    where
      by_place : Stands (before_functions a.insts) a.insts (drop (length (before_functions a.insts)) a.insts) i → IsTyped a i
      by_place (inl (front, later, e)) = typed_front front later i e op
      by_place (inr there) = typed_behind i there op

-- ---- so it is declared

declared_is : (ts : Types) (i : Inst) (p : Pointed) → i.op ≡ 59 → 0 < i.id → pointee (form_of ts i.ty) ≡ Some p → may_hold ts p.class p.target ≡ true → declared_by ts i ≡ Some (variable_of i p)
unfolding declared_by
declared_is ts i p op positive type may =
    let variable : (i.op == 59) ≡ true = eq-eqb i.op 59 op in
    let low : nat_lt 0 i.id ≡ true = lt-ltb 0 i.id positive in
    rw (variable, low, type, may) refl

target_read : (ts : Types) (insts : List Inst) (i : Inst) (d : Declared) → AreDistinct insts → Contains insts i → declared_by ts i ≡ Some d
    → reads d.id (targets_of (declared_in ts insts)) ≡ Some d.target
unfolding declared_in
target_read ts [] i d distinct (k, lt, is) by = absurd (omega arith)
target_read ts (j ∷ insts) i d distinct (zero, lt, is) by =
    let own : declared_by ts j ≡ Some d = ap (declared_by ts) is ∙ by in
    let test : (d.id == d.id) ≡ true = eq-eqb d.id d.id refl in
    rw (own, test) refl
target_read ts (j ∷ insts) i d (first, rest) (suc k, lt, is) by = by_case (declared_by ts j) refl first (target_read ts insts i d rest (k, omega arith, is) by)
  where
    by_case : (o : Option Declared) → declared_by ts j ≡ o → (j.id ≡ 0) ⊎ AllByRecursion (λ (later : Inst). later.id ≢ j.id) insts → reads d.id (targets_of (filter_map (declared_by ts) insts)) ≡ Some d.target
        → reads d.id (targets_of (cons_option o (filter_map (declared_by ts) insts))) ≡ Some d.target
    by_case None e others more = more
    by_case (Some x) e (inl none) more = let some : 0 < j.id = (by_is ts j x e).0 in absurd (omega (arith, some, none))
    by_case (Some x) e (inr others) more =
        let apart : i.id ≢ j.id = each_contained (λ (later : Inst). later.id ≢ j.id) insts i others (k, omega arith, is) in
        let own : d.id ≡ i.id = (by_is ts i d by).1.0 in
        let other : x.id ≡ j.id = (by_is ts j x e).1.0 in
        let test : (x.id == d.id) ≡ false = ne_eqb x.id d.id (λ same. apart (sym own ∙ sym same ∙ other)) in
        rw test more

-- what its instruction declares
pub variable_by : (a : Accepted) → IsValid a → (i : Inst) → Contains a.insts i → i.op ≡ 59 → (p : Pointed) → pointee (form_of a.types i.ty) ≡ Some p → may_hold a.types p.class p.target ≡ true
    → declared_by a.types i ≡ Some (variable_of i p)
variable_by a valid i at op p type may = declared_is a.types i p op (named a i valid at op) type may

pub variable_declared : (a : Accepted) → IsAccepted a → IsValid a → (i : Inst) → Contains a.insts i → i.op ≡ 59 → IsDeclared a i
variable_declared a is valid i at op =
    let typed : IsTyped a i = variable_typed a is valid i at op in
    let type : pointee (form_of a.types i.ty) ≡ Some typed.pointed = ap pointee typed.type in
    let by : declared_by a.types i ≡ Some (variable_of i typed.pointed) = declared_is a.types i typed.pointed op (named a i valid at op) type typed.may in
    record {
      pointed = typed.pointed;
      type = type;
      target = target_read a.types a.insts i (variable_of i typed.pointed) valid.named.distinct at by;
    }
