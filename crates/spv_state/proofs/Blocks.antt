-- Behind an executable the next one of its block stands in the same function: a label is one of one function alone.
use Rattle.std.proofs.Common.{◌≡◌, ◌≢◌, ◌∙◌, ℕ, zero, suc, ◌==◌, Bool, true, false, not, cond, List, [], ◌∷◌, ◌++◌, ◌||◌, Some, None, slice_get, refl, sym, ap, subst}
use Rattle.std.proofs.lemmas.Bool.{eq-eqb, eqb-true}
use Rattle.std.specs.List.{AllByRecursion, flat_map, list_all}
use Rattle.std.specs.Option.{unwrap_or}
use Rattle.spv_base.specs.Entries.{reads}
use Rattle.spv_base.specs.declared.instructions.Inst.{Inst}
use Rattle.spv_ops.specs.Grammar.{row_of}
use Rattle.spv_ops.specs.Module.{Decoded}
use Rattle.spv_ops.specs.Opcodes.{table}
use Rattle.spv_index.specs.declared.classes.Class.{Class}
use Rattle.spv_index.specs.declared.classes.Class.TheVariants.{Function, Parameter, End, Label, Line, Phi, Variable, Terminator, Passed, Executable}
use Rattle.spv_index.specs.declared.positions.Stage.{Stage}
use Rattle.spv_index.specs.declared.positions.Stage.TheVariants.{Between, Body, Variables, Outside, Head, Phis}
use Rattle.spv_index.specs.declared.positions.Position.{Position}
use Rattle.spv_index.specs.Classes.{class_of, classes, is_debug, is_local, sets_of}
use Rattle.spv_index.specs.Positions.{Stand, among_variables, begins_block, in_block, in_function, outside, position_after, stands, stands_of}
use Rattle.spv_valid.specs.Below.spv_sections.specs.Ids.{has_result as results, head_of, is_result}
use Rattle.spv_valid.specs.Below.spv_cfg.specs.Executables.{executable_of, followers_of, following}
use Rattle.spv_valid.specs.Below.spv_cfg.proofs.Exports.{all_from_test}
use Rattle.spv_plans.specs.Members.{is_stop}
use Rattle.spv_plans.proofs.Exports.{block_inside}
use Rattle.spv_state.proofs.Stands.{IsOne}

-- ---- what a position comes from

-- the OpFunction and the OpLabel behind which a position stands
pub record Begun (ss : List Stand) (function : ℕ) : Type 0 where
  pub stand : Stand
  pub one : IsOne ss stand
  pub class : stand.class ≡ Function
  pub id : stand.inst.id ≡ function

pub record Entered (ss : List Stand) (function label : ℕ) : Type 0 where
  pub stand : Stand
  pub one : IsOne ss stand
  pub class : stand.class ≡ Label
  pub id : stand.inst.id ≡ label
  pub within : stand.position.function ≡ function

pub record IsRooted (ss : List Stand) (q : Position) : Type 0 where
  pub function : in_function q.stage ≡ true → Begun ss q.function
  pub block : in_block q.stage ≡ true → Entered ss q.function q.label

-- one of two stages
inside_from : (test : Stage → Bool) (b : Bool) (t stage : Stage) → (b ≡ true → test stage ≡ true) → test (cond b t stage) ≡ true → test stage ≡ true
inside_from test true t stage tells h = tells refl
inside_from test false t stage tells h = h

variables_inside : (stage : Stage) → among_variables stage ≡ true → in_block stage ≡ true
variables_inside Outside h = absurd (cc)
variables_inside Head h = absurd (cc)
variables_inside Phis h = refl
variables_inside Variables h = refl
variables_inside Body h = absurd (cc)
variables_inside Between h = absurd (cc)

rooted_after : (ss : List Stand) (position : Position) (class : Class) (inst : Inst) → IsOne ss (record { position = position; class = class; inst = inst }) → IsRooted ss position
    → IsRooted ss (position_after position class inst)
rooted_after ss position Function inst one rooted =
    record { function = λ h. record { stand = record { position = position; class = Function; inst = inst }; one = one; class = refl; id = refl }; block = λ h. absurd (cc) }
rooted_after ss position End inst one rooted = record { function = λ h. absurd (cc); block = λ h. absurd (cc) }
rooted_after ss position Parameter inst one rooted = record { function = rooted.function; block = rooted.block }
rooted_after ss position Line inst one rooted = record { function = rooted.function; block = rooted.block }
rooted_after ss position Phi inst one rooted = record { function = rooted.function; block = rooted.block }
rooted_after ss position Variable inst one rooted = record {
  function = λ h. rooted.function (inside_from in_function (among_variables position.stage) Variables position.stage (λ e. block_inside position.stage (variables_inside position.stage e)) h);
  block = λ h. rooted.block (inside_from in_block (among_variables position.stage) Variables position.stage (variables_inside position.stage) h);
}
rooted_after ss position Terminator inst one rooted = record {
  function = λ h. rooted.function (inside_from in_function (in_block position.stage) Between position.stage (block_inside position.stage) h);
  block = λ h. rooted.block (inside_from in_block (in_block position.stage) Between position.stage (λ e. e) h);
}
rooted_after ss position Passed inst one rooted = record {
  function = λ h. rooted.function (inside_from in_function (in_block position.stage) Body position.stage (block_inside position.stage) h);
  block = λ h. rooted.block (inside_from in_block (in_block position.stage) Body position.stage (λ e. e) h);
}
rooted_after ss position Executable inst one rooted = record {
  function = λ h. rooted.function (inside_from in_function (in_block position.stage) Body position.stage (block_inside position.stage) h);
  block = λ h. rooted.block (inside_from in_block (in_block position.stage) Body position.stage (λ e. e) h);
}
rooted_after ss position Label inst one rooted = by_function (in_function position.stage) refl
  where
    by_function : (b : Bool) → in_function position.stage ≡ b → IsRooted ss (cond b (begins_block position inst) position)
    by_function true e = record {
      function = λ h. rooted.function e;
      block = λ h. record { stand = record { position = position; class = Label; inst = inst }; one = one; class = refl; id = refl; within = refl };
    }
    by_function false e = rooted

rooted_from : (ss : List Stand) (sets : List (ℕ × Bool)) (position : Position) (insts : List Inst) → ((k : ℕ) (s : Stand) → slice_get (stands sets position insts) k ≡ Some s → IsOne ss s) → IsRooted ss position
    → (k : ℕ) (s : Stand) → slice_get (stands sets position insts) k ≡ Some s → IsRooted ss s.position
rooted_from ss sets position [] among rooted k s h = absurd (cc)
rooted_from ss sets position (inst ∷ insts) among rooted zero s h =
    let same : (record { position = position; class = class_of sets inst; inst = inst }) ≡ s = cc in
    subst (λ (t : Stand). IsRooted ss t.position) same rooted
rooted_from ss sets position (inst ∷ insts) among rooted (suc k) s h =
    rooted_from ss sets (position_after position (class_of sets inst) inst) insts (λ j t g. among (suc j) t g)
    (rooted_after ss position (class_of sets inst) inst (among zero (record { position = position; class = class_of sets inst; inst = inst }) refl) rooted) k s h

-- each position of a module is behind its function's OpFunction and its block's OpLabel
pub rooted : (insts : List Inst) (s : Stand) → IsOne (stands_of insts) s → IsRooted (stands_of insts) s.position
rooted insts s one =
    rooted_from (stands_of insts) (sets_of insts) outside insts (λ k t h. record { number = k; is = h }) (record { function = λ h. absurd (cc); block = λ h. absurd (cc) }) one.number s one.is

-- ---- an OpLabel has a result

-- only opcode 248 gives this class, and only 54 that of a function
abbrev Gives : (Class → Bool) → ℕ → ℕ × Class → Type 0
Gives is op e = is e.1 ≡ true → e.0 ≡ op

key_of : (is : Class → Bool) (n op : ℕ) (es : List (ℕ × Class)) → is Executable ≡ false → AllByRecursion (Gives is n) es → is (unwrap_or (reads op es) Executable) ≡ true → op ≡ n
key_of is n op [] other only h = absurd (cc)
key_of is n op (e ∷ es) other only h = by_key (e.0 == op) refl (key_of is n op es other only.1) h
  where
    by_key : (b : Bool) → (e.0 == op) ≡ b → (is (unwrap_or (reads op es) Executable) ≡ true → op ≡ n) → is (unwrap_or (cond b (Some e.1) (reads op es)) Executable) ≡ true → op ≡ n
    by_key true same later here = sym (eqb-true e.0 op same) ∙ only.0 here
    by_key false same later here = later here

abbrev gives : (Class → Bool) → ℕ → ℕ × Class → Bool
gives is op e = not (is e.1) || (e.0 == op)

test_gives : (is : Class → Bool) (n : ℕ) (e : ℕ × Class) → gives is n e ≡ true → Gives is n e
test_gives is n e test h = by_class (is e.1) h test
  where
    by_class : (b : Bool) → b ≡ true → (not b || (e.0 == n)) ≡ true → e.0 ≡ n
    by_class true here passed = eqb-true e.0 n passed
    by_class false here passed = absurd (cc)

is_label : Class → Bool
is_label Label = true
is_label other = false

labels_given : (debug local : Bool) → list_all (gives is_label 248) (classes debug local) ≡ true
unfolding is_label
labels_given true true = refl
labels_given true false = refl
labels_given false true = refl
labels_given false false = refl

pub opcode_of_label : (sets : List (ℕ × Bool)) (inst : Inst) → class_of sets inst ≡ Label → inst.op ≡ 248
unfolding is_label
opcode_of_label sets inst is =
    key_of is_label 248 inst.op (classes (is_debug sets inst) (is_local inst)) refl
    (all_from_test (gives is_label 248) (Gives is_label 248) (test_gives is_label 248) (classes (is_debug sets inst) (is_local inst)) (labels_given (is_debug sets inst) (is_local inst)))
    (ap is_label is)

label_results : results (head_of 248) ≡ true
unfolding head_of row_of table
label_results = refl

pub label_named : (decoded : Decoded) (i : Inst) → is_result decoded i ≡ true → i.op ≡ 248 → i.id ≢ 0
label_named decoded i h op none =
    let test : (i.id == 0) ≡ true = eq-eqb i.id 0 none in
    let without : not (results (head_of i.op)) ≡ true = rw test at h in
    let with_one : results (head_of i.op) ≡ true = ap (λ (n : ℕ). results (head_of n)) op ∙ label_results in
    let clash : false ≡ true = rw with_one at without in
    cc

-- ---- executables

-- two executables of one block
pub record Follows (es : List (ℕ × ℕ)) (pc word : ℕ) : Type 0 where
  pub label : ℕ
  pub first : (k : ℕ) × (slice_get es k ≡ Some (label, pc))
  pub second : (k : ℕ) × (slice_get es k ≡ Some (label, word))

follows_first : (e : ℕ × ℕ) (es : List (ℕ × ℕ)) (pc word : ℕ) → e.1 ≡ pc → following e.0 es ≡ Some word → Follows (e ∷ es) pc word
follows_first e [] pc word here h = absurd (cc)
follows_first e (x ∷ es) pc word here h = by_label (x.0 == e.0) refl h
  where
    by_label : (b : Bool) → (x.0 == e.0) ≡ b → cond b (Some x.1) None ≡ Some word → Follows (e ∷ x ∷ es) pc word
    by_label false same g = absurd (cc)
    by_label true same g =
        let is : x.1 ≡ word = cc in
        let label : x.0 ≡ e.0 = eqb-true x.0 e.0 same in
        let one : e ≡ (e.0, pc) = ap (λ (n : ℕ). (e.0, n)) here in
        let other : x ≡ (e.0, word) = ap (λ (n : ℕ). (n, x.1)) label ∙ ap (λ (n : ℕ). (e.0, n)) is in
        record { label = e.0; first = (0, ap Some one); second = (1, ap Some other) }

pub follows : (es : List (ℕ × ℕ)) (pc word : ℕ) → reads pc (followers_of es) ≡ Some (Some word) → Follows es pc word
follows [] pc word h = absurd (cc)
follows (e ∷ es) pc word h = by_word (e.1 == pc) refl h (follows es pc word)
  where
    by_word : (b : Bool) → (e.1 == pc) ≡ b → cond b (Some (following e.0 es)) (reads pc (followers_of es)) ≡ Some (Some word) → (reads pc (followers_of es) ≡ Some (Some word) → Follows es pc word)
        → Follows (e ∷ es) pc word
    by_word true here g rest = let next : following e.0 es ≡ Some word = cc in follows_first e es pc word (eqb-true e.1 pc here) next
    by_word false here g rest =
        let f = rest g in
        record { label = f.label; first = (suc f.first.0, f.first.1); second = (suc f.second.0, f.second.1) }

-- an executable among those of blocks stands there
pub record Listed (ss : List Stand) (label word : ℕ) : Type 0 where
  pub stand : Stand
  pub one : IsOne ss stand
  pub stops : is_stop stand ≡ true
  pub inside : stand.position.label ≡ label
  pub here : stand.inst.word ≡ word

pub listed : (ss : List Stand) (k label word : ℕ) → slice_get (flat_map executable_of ss) k ≡ Some (label, word) → Listed ss label word
listed [] k label word h = absurd (cc)
listed (s ∷ ss) k label word h = by_stop (is_stop s) refl k h (λ m. listed ss m label word)
  where
    later : Listed ss label word → Listed (s ∷ ss) label word
    later l = record { stand = l.stand; one = record { number = suc l.one.number; is = l.one.is }; stops = l.stops; inside = l.inside; here = l.here }

    by_stop : (b : Bool) → is_stop s ≡ b → (m : ℕ) → slice_get (cond b ((s.position.label, s.inst.word) ∷ []) [] ++ flat_map executable_of ss) m ≡ Some (label, word)
        → ((j : ℕ) → slice_get (flat_map executable_of ss) j ≡ Some (label, word) → Listed ss label word) → Listed (s ∷ ss) label word
    by_stop true e zero g rest =
        let same : (s.position.label, s.inst.word) ≡ (label, word) = cc in
        record { stand = s; one = record { number = 0; is = refl }; stops = e; inside = ap (λ (p : ℕ × ℕ). p.0) same; here = ap (λ (p : ℕ × ℕ). p.1) same }
    by_stop true e (suc m) g rest = later (rest m g)
    by_stop false e m g rest = later (rest m g)
