-- Each variable of an accepted module that all invocations share, or that each has for itself, has a value at the start of a run with a setup
-- that fits.
use Rattle.std.proofs.Common.{◌≡◌, ◌⊎◌, ◌∙◌, inl, inr, ℕ, zero, suc, ◌==◌, ◌&&◌, ◌||◌, Bool, true, false, List, [], ◌∷◌, drop, length, map, Option, Some, None, Result, Ok, Err, slice_get, refl, sym, ap, subst, arith}
use Rattle.std.proofs.Math.Logic.{∥∥₁_elim}
use Rattle.std.proofs.Props.{props}
use Rattle.std.proofs.lemmas.Bool.{eqb-true, or_cases}
use Rattle.std.specs.Coded.{codes}
use Rattle.std.specs.Prelude.{find, if◌then◌else◌, nat_lt, not, IsOk}
use Rattle.std.specs.List.{AllByRecursion, Contains, cons_option, filter_map, list_any, range_with_len}
use Rattle.std.specs.Option.{is_some, option_and_then, option_map}
use Rattle.spv_base.specs.Answers.{after}
use Rattle.spv_base.specs.Variables.{Roots}
use Rattle.spv_base.specs.declared.causes.SetupRefusal.{SetupRefusal}
use Rattle.spv_base.specs.declared.instructions.Inst.{Inst}
use Rattle.spv_base.specs.declared.values.Value.{Value}
use Rattle.spv_base.specs.Options.{holds}
use Rattle.spv_index.specs.Definitions.{before_functions, decoration}
use Rattle.spv_index.specs.Operands.{literal_operand}
use Rattle.spv_types.specs.declared.queries.Pointed.{Pointed}
use Rattle.spv_types.specs.InterfaceBlocks.{is_block_class, is_block_variable}
use Rattle.spv_types.specs.Queries.{pointee}
use Rattle.spv_types.specs.Rules.{is_block, is_input, is_three_words, is_word}
use Rattle.spv_types.specs.Types.{Types, form_of}
use Rattle.spv_valid.specs.Acceptance.{Accepted, IsAccepted, invocations}
use Rattle.spv_valid.specs.Validity.{IsValid}
use Rattle.spv_setup.specs.declared.line.Content.{Content}
use Rattle.spv_setup.specs.declared.line.Content.TheVariants.{Hex, Zero}
use Rattle.spv_setup.specs.declared.settings.Buffer.{Buffer}
use Rattle.spv_setup.specs.declared.settings.Push.{Push}
use Rattle.spv_setup.specs.declared.settings.Settings.{Settings}
use Rattle.spv_setup.specs.Schedule.{check_moves, schedule_of}
use Rattle.spv_initial.specs.Below.spv_fit.specs.Fit.{fitted}
use Rattle.spv_initial.specs.Below.spv_fit.specs.Given.{buffer_given, check_bytes, given_at, given_by, given_to, is_bound, lacks_bytes, lowest_short, push_given, short_due, some_lack}
use Rattle.spv_initial.specs.Below.spv_fit.specs.Numbers.{check_numbers}
use Rattle.spv_mem.specs.Blanks.{blank_of}
use Rattle.spv_initial.specs.Below.spv_start.specs.BuiltIns.{Three, built_in, global_id, local_id, value_of_three, word}
use Rattle.spv_initial.specs.Below.spv_start.specs.declared.built_ins.Invocation.{Invocation}
use Rattle.spv_initial.specs.Start.{own_roots, shared_roots, variables}
use Rattle.spv_initial.specs.Values.{bound, buffer_value, initialized, input_value, invocation_of, of_bytes, of_content, own_value, push_value, shared_value}
use Rattle.spv_initial.specs.Variables.{declared_as, declared_by, declared_in, may_hold, variable_of}
use Rattle.spv_initial.specs.declared.variables.Declared.{Declared}
use Rattle.spv_operands.specs.Values.{is_own}
use Rattle.spv_operands.proofs.Exports.{IsLocalVariable, IsModuleVariable, behind_variable, variable_at, Stands, place_of}
use Rattle.spv_state.specs.Program.{IsFitting}
use Rattle.spv_state.specs.Roots.{ids_in, is_shared, own_ids, shared_ids}
use Rattle.spv_base.proofs.Exports.{contains_later, each_weaker}
use Rattle.spv_state.proofs.RootLemmas.{ids_kept}

-- ---- the variables of a module are those of its instructions

-- the OpVariable of a variable
record IsOf (ts : Types) (i : Inst) (d : Declared) : Type 0 where
  op : i.op ≡ 59
  pointed : Pointed
  type : pointee (form_of ts i.ty) ≡ Some pointed
  is : variable_of i pointed ≡ d

declared_is : (ts : Types) (i : Inst) (d : Declared) → declared_by ts i ≡ Some d → IsOf ts i d
unfolding declared_by
declared_is ts i d h = by_tests (i.op == 59) refl (nat_lt 0 i.id) h
  where
    by_hold : i.op ≡ 59 → (p : Pointed) → pointee (form_of ts i.ty) ≡ Some p → (b : Bool) → (if b then Some (variable_of i p) else None) ≡ Some d → IsOf ts i d
    by_hold op p e true g = record { op = op; pointed = p; type = e; is = cc }
    by_hold op p e false g = absurd (cc)

    by_type : i.op ≡ 59 → (o : Option Pointed) → pointee (form_of ts i.ty) ≡ o → option_and_then (declared_as ts i) o ≡ Some d → IsOf ts i d
    by_type op None e g = absurd (cc)
    by_type op (Some p) e g = by_hold op p e (may_hold ts p.class p.target) g

    by_tests : (b : Bool) → (i.op == 59) ≡ b → (c : Bool) → (if b && c then option_and_then (declared_as ts i) (pointee (form_of ts i.ty)) else None) ≡ Some d → IsOf ts i d
    by_tests true e true g = by_type (eqb-true i.op 59 e) (pointee (form_of ts i.ty)) refl g
    by_tests true e false g = absurd (cc)
    by_tests false e c g = absurd (cc)

each_declared : (P : Declared → Type 0) (ts : Types) (insts : List Inst) → ((i : Inst) (d : Declared) → Contains insts i → declared_by ts i ≡ Some d → P d) → AllByRecursion P (declared_in ts insts)
unfolding declared_in
each_declared P ts [] each = tt
each_declared P ts (i ∷ is) each =
    by_inst (declared_by ts i) (λ d by. each i d (0, omega arith, refl) by) (each_declared P ts is (λ j d there by. each j d (contains_later i j is there) by))
  where
    by_inst : (o : Option Declared) → ((d : Declared) → o ≡ Some d → P d) → AllByRecursion P (filter_map (declared_by ts) is) → AllByRecursion P (cons_option o (filter_map (declared_by ts) is))
    by_inst None own more = more
    by_inst (Some d) own more = (own d refl, more)

-- ---- a setup that fits has bytes for the variables of blocks

after_ok : {A B : Type 0} (r : Result A SetupRefusal) (f : A → Result B SetupRefusal) → IsOk (after r f) → (x : A) × (r ≡ Ok x) × IsOk (f x)
after_ok (Ok x) f h = (x, refl, h)
after_ok (Err e) f h = absurd (cc)

none_lack : (a : Accepted) (s : Settings) → IsFitting a s → some_lack a.insts s a.insts ≡ false
unfolding fitted
none_lack a s fits =
    let moves = after_ok (check_moves (invocations a) s.runs) _ fits in
    let numbers = after_ok (check_numbers a.insts a.types s.overrides s.override_lines) _ moves.2 in
    let schedule = after_ok (schedule_of (invocations a) s.runs) _ numbers.2 in
    let bytes = after_ok (check_bytes a.insts a.types s) _ schedule.2 in
    by_lack (some_lack a.insts s a.insts) bytes.0 bytes.1
  where
    by_lack : (b : Bool) (x : Unit {0}) → (if b then Err (record { code = 6; line = 0 }) else short_due (lowest_short a.insts a.types s a.insts)) ≡ Ok x → b ≡ false
    by_lack true x h = absurd (cc)
    by_lack false x h = refl

none_of : (test : Inst → Bool) (is : List Inst) (i : Inst) → list_any test is ≡ false → Contains is i → test i ≡ false
none_of test [] i h (k, lt, at) = absurd (omega arith)
none_of test (x ∷ is) i h (zero, lt, at) = sym (ap test at) ∙ first (test x) (list_any test is) h
  where
    first : (b c : Bool) → (b || c) ≡ false → b ≡ false
    first true c g = absurd (cc)
    first false c g = refl
none_of test (x ∷ is) i h (suc k, lt, at) = none_of test is i (second (test x) (list_any test is) h) (k, omega arith, at)
  where
    second : (b c : Bool) → (b || c) ≡ false → c ≡ false
    second true c g = absurd (cc)
    second false c g = g

bytes_given : (a : Accepted) (s : Settings) → IsFitting a s → (i : Inst) → Contains a.insts i → is_block_variable i ≡ true → is_some (given_to a.insts s i) ≡ true
unfolding some_lack
bytes_given a s fits i there block = by_given (is_block_variable i) (is_some (given_to a.insts s i)) block (none_of (lacks_bytes a.insts s) a.insts i (none_lack a s fits) there)
  where
    by_given : (b c : Bool) → b ≡ true → (b && not c) ≡ false → c ≡ true
    by_given true true h g = refl
    by_given true false h g = absurd (cc)
    by_given false c h g = absurd (cc)

-- ---- blocks

bytes_some : (ts : Types) (target : ℕ) (bytes : List ℕ) (n : ℕ) → is_block (form_of ts target) ≡ true → is_some (of_bytes ts target bytes n) ≡ true
bytes_some ts target bytes n block = rw block refl

content_some : (ts : Types) (target : ℕ) (c : Content) → is_block (form_of ts target) ≡ true → is_some (of_content ts target c) ≡ true
content_some ts target (Hex bytes) block = bytes_some ts target bytes (length bytes) block
content_some ts target (Zero n) block = bytes_some ts target [] n block

bound_there : (buffers : List Buffer) (set binding : Option ℕ) → is_some (given_by buffers set binding) ≡ true → (b : Buffer) × (bound buffers set binding ≡ Some b)
unfolding given_at
bound_there buffers None binding h = absurd (cc)
bound_there buffers (Some set) None h = absurd (cc)
bound_there buffers (Some set) (Some binding) h = by_found (find (is_bound set binding) buffers) h
  where
    by_found : (o : Option Buffer) → is_some (option_map buffer_given o) ≡ true → (b : Buffer) × (o ≡ Some b)
    by_found None g = absurd (cc)
    by_found (Some b) g = (b, refl)

-- the tests that a class of buffers passes
record IsBuffer (class : ℕ) : Type 0 where
  other : (class == 9) ≡ false
  block : ((class == 12 || class == 2) || class == 9) ≡ true
  given : is_block_class class ≡ true

buffer_class : (class : ℕ) → (class == 2 || class == 12) ≡ true → IsBuffer class
buffer_class class h = by_class (or_cases (class == 2) (class == 12) h)
  where
    by_class : ((class == 2) ≡ true) ⊎ ((class == 12) ≡ true) → IsBuffer class
    by_class (inl is) = subst IsBuffer (sym (eqb-true class 2 is)) (record { other = refl; block = refl; given = refl })
    by_class (inr is) = subst IsBuffer (sym (eqb-true class 12 is)) (record { other = refl; block = refl; given = refl })

record IsPush (class : ℕ) : Type 0 where
  block : ((class == 12 || class == 2) || class == 9) ≡ true
  given : is_block_class class ≡ true

push_class : (class : ℕ) → (class == 9) ≡ true → IsPush class
push_class class is = subst IsPush (sym (eqb-true class 9 is)) (record { block = refl; given = refl })

-- ---- built-ins

-- the tests by which a built-in has a value
abbrev has_value : ℕ → Bool
has_value b = ((b == 24 || b == 26) || (b == 27 || b == 28)) || b == 29

value_tested : (j m n o p : Bool) (x : Value) (u v w y : Three) → (((m || n) || (o || p)) || j) ≡ true
    → is_some (if j then Some x else value_of_three (if m then Some u else (if n then Some v else (if o then Some w else (if p then Some y else None))))) ≡ true
value_tested true m n o p x u v w y h = refl
value_tested false true n o p x u v w y h = refl
value_tested false false true o p x u v w y h = refl
value_tested false false false true p x u v w y h = refl
value_tested false false false false true x u v w y h = refl
value_tested false false false false false x u v w y h = absurd (cc)

built_some : (i : Invocation) (b : ℕ) → has_value b ≡ true → is_some (built_in i b) ≡ true
built_some i b h = value_tested (b == 29) (b == 24) (b == 26) (b == 27) (b == 28) (word i.index) i.group.number i.group.place (local_id i.size i.index) (global_id i.group.place i.size (local_id i.size i.index)) h

input_kind : (ts : Types) (b target : ℕ) → is_input ts (Some b) target ≡ true → has_value b ≡ true
input_kind ts b target h = by_tests ((b == 24 || b == 26) || (b == 27 || b == 28)) (is_three_words ts (form_of ts target)) (b == 29) (is_word (form_of ts target)) h
  where
    by_tests : (t x w y : Bool) → ((t && x) || (w && y)) ≡ true → (t || w) ≡ true
    by_tests true x w y g = refl
    by_tests false x true y g = refl
    by_tests false x false y g = absurd (cc)

-- ---- what a variable begins with

module _ (a : Accepted) (s : Settings) (is : IsAccepted a) (valid : IsValid a) (fits : IsFitting a s) where
  module _ (i : Inst) (there : Contains a.insts i) (op : i.op ≡ 59) (m : IsModuleVariable a i) where
    class_given : is_block_class m.pointed.class ≡ true → is_some (given_to a.insts s i) ≡ true
    class_given h = bytes_given a s fits i there (rw (op, m.class) h)

    buffer_some : (m.pointed.class == 2 || m.pointed.class == 12) ≡ true → is_some (buffer_value a s (variable_of i m.pointed)) ≡ true
    buffer_some e =
        let c = buffer_class m.pointed.class e in
        let literal : holds 9 (literal_operand i 0) ≡ false = ap (holds 9) m.class ∙ c.other in
        let given : is_some (given_by s.buffers (decoration a.insts i.id 34) (decoration a.insts i.id 33)) ≡ true
        = subst (λ (b : Bool). is_some (if b then option_map push_given s.push else given_by s.buffers (decoration a.insts i.id 34) (decoration a.insts i.id 33)) ≡ true) literal (class_given c.given) in
        let found = bound_there s.buffers (decoration a.insts i.id 34) (decoration a.insts i.id 33) given in
        ap (λ (o : Option Buffer). is_some (option_and_then (λ (b : Buffer). of_content a.types m.pointed.target b.content) o)) found.1 ∙ content_some a.types m.pointed.target found.0.content (m.block c.block)

    push_some : (m.pointed.class == 9) ≡ true → is_some (push_value a s (variable_of i m.pointed)) ≡ true
    push_some e =
        let c = push_class m.pointed.class e in
        let literal : holds 9 (literal_operand i 0) ≡ true = ap (holds 9) m.class ∙ e in
        let given : is_some (option_map push_given s.push) ≡ true
        = subst (λ (b : Bool). is_some (if b then option_map push_given s.push else given_by s.buffers (decoration a.insts i.id 34) (decoration a.insts i.id 33)) ≡ true) literal (class_given c.given) in
        by_push s.push given (m.block c.block)
      where
        by_push : (o : Option Push) → is_some (option_map push_given o) ≡ true → is_block (form_of a.types m.pointed.target) ≡ true
            → is_some (option_and_then (λ (p : Push). of_bytes a.types m.pointed.target p.bytes (length p.bytes)) o) ≡ true
        by_push None g block = absurd (cc)
        by_push (Some p) g block = bytes_some a.types m.pointed.target p.bytes (length p.bytes) block

    shared_front : is_some (shared_value a s (variable_of i m.pointed)) ≡ is_shared m.pointed.class
    shared_front = by_class (m.pointed.class == 2 || m.pointed.class == 12) buffer_some (m.pointed.class == 9) push_some (m.pointed.class == 4) (blank_of a.types 0 m.pointed.target)
      where
        by_class : (b : Bool) → (b ≡ true → is_some (buffer_value a s (variable_of i m.pointed)) ≡ true) → (n : Bool) → (n ≡ true → is_some (push_value a s (variable_of i m.pointed)) ≡ true) → (w : Bool) (x : Value)
            → is_some (if b then buffer_value a s (variable_of i m.pointed) else (if n then push_value a s (variable_of i m.pointed) else (if w then Some x else None))) ≡ (b || (n || w))
        by_class true buffer n push w x = buffer refl
        by_class false buffer true push w x = push refl
        by_class false buffer false push true x = refl
        by_class false buffer false push false x = refl

    input_some : (n : ℕ) → (m.pointed.class == 1) ≡ true → is_some (input_value a s n (variable_of i m.pointed)) ≡ true
    input_some n e = by_kind (decoration a.insts i.id 11) (m.input e)
      where
        by_kind : (o : Option ℕ) → is_input a.types o m.pointed.target ≡ true
            → is_some (option_and_then (λ (kind : ℕ). if is_input a.types (Some kind) m.pointed.target then built_in (invocation_of a s n) kind else None) o) ≡ true
        by_kind None h = absurd (cc)
        by_kind (Some kind) h = rw h (built_some (invocation_of a s n) kind (input_kind a.types kind m.pointed.target h))

    own_front : (n : ℕ) → is_some (own_value a s n (variable_of i m.pointed)) ≡ is_own m.pointed.class
    own_front n = by_class (m.pointed.class == 1) (input_some n) (m.pointed.class == 6) (initialized a (variable_of i m.pointed))
      where
        by_class : (b : Bool) → (b ≡ true → is_some (input_value a s n (variable_of i m.pointed)) ≡ true) → (w : Bool) (x : Value)
            → is_some (if b then input_value a s n (variable_of i m.pointed) else (if w then Some x else None)) ≡ (b || w)
        by_class true input w x = input refl
        by_class false input true x = refl
        by_class false input false x = refl

  -- the values that a variable begins with, where its class has them
  record Begins (d : Declared) : Type 0 where
    shared : is_some (shared_value a s d) ≡ is_shared d.class
    own : (n : ℕ) → is_some (own_value a s n d) ≡ is_own d.class

  local_begins : (i : Inst) (p : Pointed) → p.class ≡ 7 → Begins (variable_of i p)
  local_begins i p seven = record { shared = rw seven refl; own = λ n. rw seven refl }

  inst_begins : (i : Inst) (d : Declared) → Contains a.insts i → declared_by a.types i ≡ Some d → Begins d
  inst_begins i d there by = subst Begins of.is (by_place (place_of a.insts i there))
    where
      of : IsOf a.types i d
      of = declared_is a.types i d by

      by_place : Stands (before_functions a.insts) a.insts (drop (length (before_functions a.insts)) a.insts) i → Begins (variable_of i of.pointed)
      by_place (inl (front, later, e)) =
          let m : IsModuleVariable a i = variable_at a is valid front later i e of.op in
          let same : m.pointed ≡ of.pointed = let one : pointee (form_of a.types i.ty) ≡ Some m.pointed = ap pointee m.type in let other = of.type in cc in
          subst (λ (p : Pointed). Begins (variable_of i p)) same (record { shared = shared_front i there of.op m; own = own_front i there of.op m })
      by_place (inr behind) =
          let m : IsLocalVariable a i = behind_variable a valid i behind of.op in
          let same : m.pointed ≡ of.pointed = let one : pointee (form_of a.types i.ty) ≡ Some m.pointed = ap pointee m.type in let other = of.type in cc in
          subst (λ (p : Pointed). Begins (variable_of i p)) same (local_begins i m.pointed m.class)

  all_begin : AllByRecursion Begins (variables a)
  all_begin = each_declared Begins a.types a.insts inst_begins

-- ---- the variables at the start

mapped_from : {A B : Type 0} (f : A → B) (xs : List A) (i : ℕ) (y : B) → slice_get (map f xs) i ≡ Some y → (x : A) × (y ≡ f x)
mapped_from f [] i y at = absurd (cc)
mapped_from f (x ∷ xs) zero y at = (x, cc)
mapped_from f (x ∷ xs) (suc i) y at = mapped_from f xs i y at

pub shared_begin : (a : Accepted) (s : Settings) → ∥ IsAccepted a ∥₁ → ∥ IsValid a ∥₁ → IsFitting a s → ids_in (shared_roots a s (variables a)) ≡ shared_ids a
shared_begin a s accepted valid fits =
    ∥∥₁_elim accepted (hlevel (props, codes)) (λ (is : IsAccepted a). ∥∥₁_elim valid (hlevel (props, codes)) (λ (v : IsValid a).
    ids_kept (shared_value a s) (λ (d : Declared). is_shared d.class) (variables a)
    (each_weaker (Begins a s is v fits) (λ (d : Declared). is_some (shared_value a s d) ≡ is_shared d.class) (λ d b. b.shared) (variables a) (all_begin a s is v fits))))

own_begin : (a : Accepted) (s : Settings) → ∥ IsAccepted a ∥₁ → ∥ IsValid a ∥₁ → IsFitting a s → (n : ℕ) → ids_in (own_roots a s (variables a) n) ≡ own_ids a
own_begin a s accepted valid fits n =
    ∥∥₁_elim accepted (hlevel (props, codes)) (λ (is : IsAccepted a). ∥∥₁_elim valid (hlevel (props, codes)) (λ (v : IsValid a).
    ids_kept (own_value a s n) (λ (d : Declared). is_own d.class) (variables a)
    (each_weaker (Begins a s is v fits) (λ (d : Declared). is_some (own_value a s n d) ≡ is_own d.class) (λ d b. b.own n) (variables a) (all_begin a s is v fits))))

pub own_begins : (a : Accepted) (s : Settings) → ∥ IsAccepted a ∥₁ → ∥ IsValid a ∥₁ → IsFitting a s → (i : ℕ) (es : Roots)
    → slice_get (map (own_roots a s (variables a)) (range_with_len 0 (invocations a))) i ≡ Some es → ids_in es ≡ own_ids a
own_begins a s accepted valid fits i es at =
    let from = mapped_from (own_roots a s (variables a)) (range_with_len 0 (invocations a)) i es at in
    ap ids_in from.1 ∙ own_begin a s accepted valid fits from.0
