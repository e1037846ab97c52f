-- What acceptance gives of an instruction at which a run stops: it keeps the rule of its opcode, and an executable stands behind it unless
-- it ends its block.
use Rattle.std.proofs.Common.{◌≡◌, ◌∙◌, ℕ, Bool, true, false, List, [], ◌∷◌, drop, length, Option, Some, None, refl, sym, ap, subst}
use Rattle.std.proofs.Math.Logic.{∥∥₁_elim}
use Rattle.std.proofs.Props.{props}
use Rattle.std.proofs.lemmas.Bool.{and_parts}
use Rattle.std.proofs.lemmas.List.Elements.{All-contains, All-filter, All-from_recursion, recursion_from_All}
use Rattle.std.specs.Bool.{Decides}
use Rattle.std.specs.Prelude.{◌&&◌}
use Rattle.std.specs.List.{AllByRecursion, Contains}
use Rattle.spv_base.specs.Entries.{reads}
use Rattle.spv_base.specs.declared.instructions.Inst.{Inst}
use Rattle.spv_index.specs.Classes.{class_of, is_executable, is_terminator, sets_of}
use Rattle.spv_index.specs.Definitions.{at, before_functions}
use Rattle.spv_index.specs.Positions.{Stand, in_block, outside, stands_of}
use Rattle.spv_valid.specs.Below.spv_cfg.specs.Laws.{HasNext}
use Rattle.spv_valid.specs.Below.spv_bodies.specs.Bodies.{KeepsBody, KeepsRule, keeps_body}
use Rattle.spv_valid.specs.Below.spv_bodies.specs.Context.{Known}
use Rattle.spv_valid.specs.Below.spv_bodies.specs.Places.{Placed, nowhere, place, placed_from, within_after}
use Rattle.spv_valid.specs.Below.spv_bodies.specs.Rules.{rule_of}
use Rattle.spv_valid.specs.Below.spv_bodies.specs.declared.rules.Rule.{Rule}
use Rattle.spv_valid.specs.Below.spv_bodies.specs.declared.rules.Rule.TheVariants.{Free, Lanes, Select, Extended, Memory, Atomic, Composite, Control}
use Rattle.spv_valid.specs.Below.spv_bodies.specs.declared.within.Within.{Within}
use Rattle.spv_valid.specs.Acceptance.{Accepted, IsAccepted}
use Rattle.spv_valid.specs.Validity.{IsValid}
use Rattle.spv_state.specs.Below.spv_plans.specs.Members.{is_stop, members, stands_in}
use Rattle.spv_state.specs.Below.spv_results.specs.Operands.{known}
use Rattle.spv_sites.proofs.StandLemmas.{HasClass, InBlock, IsFoundIn, each_has_class, each_in_block, each_is_found}

-- ---- rules

-- an instruction keeps its rule somewhere
pub record IsKept (k : Known) (i : Inst) : Type 0 where
  pub placed : Placed
  pub same : placed.inst ≡ i
  pub keeps : KeepsBody k placed

pub each_kept : (k : Known) (w : Within) (is : List Inst) → AllByRecursion (KeepsBody k) (placed_from w is) → AllByRecursion (IsKept k) is
each_kept k w [] kept = tt
each_kept k w (i ∷ is) kept = (record { placed = place i w is; same = refl; keeps = kept.0 }, each_kept k (within_after w i) is kept.1)

-- rules that look at the instruction alone
abbrev pub is_own : Rule → Bool
is_own Free = true
is_own Lanes = true
is_own Select = true
is_own Extended = true
is_own (Memory rule) = true
is_own (Atomic rule) = true
is_own (Composite rule) = true
is_own (Control rule) = false

-- an instruction by itself
abbrev pub alone : Inst → Placed
alone i = place i nowhere []

own_rule : (k : Known) (p : Placed) (r : Rule) → is_own r ≡ true → KeepsRule k p r → KeepsRule k (alone p.inst) r
own_rule k p Free own kept = tt
own_rule k p Lanes own kept = kept
own_rule k p Select own kept = kept
own_rule k p Extended own kept = kept
own_rule k p (Memory rule) own kept = kept
own_rule k p (Atomic rule) own kept = kept
own_rule k p (Composite rule) own kept = kept
own_rule k p (Control rule) own kept = absurd (cc)

kept_alone : (k : Known) (i : Inst) → is_own (rule_of i.op) ≡ true → IsKept k i → KeepsBody k (alone i)
kept_alone k i own kept =
    let same : is_own (rule_of kept.placed.inst.op) ≡ true = ap (λ (j : Inst). is_own (rule_of j.op)) kept.same ∙ own in
    subst (λ (j : Inst). KeepsBody k (alone j)) kept.same (kept.keeps.0, own_rule k kept.placed (rule_of kept.placed.inst.op) same kept.keeps.1)

-- ---- an instruction at which a run stops

pub record Runs (a : Accepted) (i : Inst) : Type 0 where
  pub executable : is_executable (class_of (sets_of a.insts) i) ≡ true
  pub kept : IsKept (known a) i
  pub next : is_terminator (class_of (sets_of a.insts) i) ≡ false → (word : ℕ) × (reads i.word a.flow.nexts ≡ Some (Some word))

-- the executable that comes next in the block
abbrev RunsOn : Accepted → Stand → Type 0
RunsOn a s = (is_executable s.class && in_block s.position.stage) ≡ true → is_terminator s.class ≡ false → HasNext a.flow s

module _ (a : Accepted) (accepted : IsAccepted a) (valid : IsValid a) where
  pub kept_each : AllByRecursion (IsKept (known a)) (drop (length (before_functions a.insts)) a.insts)
  kept_each = each_kept (known a) nowhere (drop (length (before_functions a.insts)) a.insts) (recursion_from_All (KeepsBody (known a)) _ valid.rules)

  -- what is so of each stand is so of one of a function
  of_member : (P : Stand → Type 0) → AllByRecursion P (stands_of a.insts) → (function : ℕ) (s : Stand) → Contains (members a.insts function) s → P s
  of_member P each function s among = All-contains P (members a.insts function) s (All-filter (stands_in function) P (stands_of a.insts) (All-from_recursion P (stands_of a.insts) each)) among

  stop_runs : (function : ℕ) (s : Stand) → Contains (members a.insts function) s → is_stop s ≡ true → Runs a s.inst
  stop_runs function s among stops =
      let sets = sets_of a.insts in
      let parts = and_parts (is_executable s.class) (in_block s.position.stage) stops in
      let class : s.class ≡ class_of sets s.inst = of_member (HasClass sets) (each_has_class sets outside a.insts) function s among in
      let placed : InBlock (IsKept (known a)) s = of_member (InBlock (IsKept (known a))) (each_in_block (IsKept (known a)) sets outside a.insts refl kept_each) function s among in
      let goes : RunsOn a s = of_member (RunsOn a) valid.nexts function s among in
      record {
        executable = ap is_executable (sym class) ∙ parts.0;
        kept = placed parts.1;
        next = λ goes_on. let there = goes stops (ap is_terminator class ∙ goes_on) in (there.0, there.1);
      }

  pub runs_there : (function word : ℕ) (s : Stand) (i : Inst) → Contains (members a.insts function) s → s.inst.word ≡ word → is_stop s ≡ true → at a.insts word ≡ Some i → Runs a i
  runs_there function word s i among here stops is =
      let found : at a.insts s.inst.word ≡ Some s.inst = of_member (IsFoundIn a.insts) (each_is_found (sets_of a.insts) outside a.insts 0 accepted.decoded.ascend) function s among in
      let there : Some s.inst ≡ Some i = sym found ∙ ap (at a.insts) here ∙ is in
      let same : s.inst ≡ i = cc in
      subst (Runs a) same (stop_runs function s among stops)

-- ---- the same of what is known to be there

-- that an instruction keeps its rule can be tested
abbrev pub RulesAreTested : Type 0
RulesAreTested = (k : Known) (p : Placed) → Decides (keeps_body k p) (KeepsBody k p)

pub rule_kept : RulesAreTested → (a : Accepted) (i : Inst) → ∥ Runs a i ∥₁ → is_own (rule_of i.op) ≡ true → KeepsBody (known a) (alone i)
rule_kept law a i runs own =
    let tested = law (known a) (alone i) in
    tested.0 (∥∥₁_elim runs (hlevel props) (λ (r : Runs a i). tested.1 (kept_alone (known a) i own r.kept)))

pub is_run : (a : Accepted) (i : Inst) → ∥ Runs a i ∥₁ → is_executable (class_of (sets_of a.insts) i) ≡ true
is_run a i runs = ∥∥₁_elim runs (hlevel props) (λ (r : Runs a i). r.executable)

abbrev is_next : Option (Option ℕ) → Bool
is_next None = false
is_next (Some None) = false
is_next (Some (Some word)) = true

next_there : (o : Option (Option ℕ)) → is_next o ≡ true → (word : ℕ) × (o ≡ Some (Some word))
next_there None h = absurd (cc)
next_there (Some None) h = absurd (cc)
next_there (Some (Some word)) h = (word, refl)

pub runs_on : (a : Accepted) (i : Inst) → ∥ Runs a i ∥₁ → is_terminator (class_of (sets_of a.insts) i) ≡ false → (word : ℕ) × (reads i.word a.flow.nexts ≡ Some (Some word))
runs_on a i runs goes_on =
    next_there (reads i.word a.flow.nexts) (∥∥₁_elim runs (hlevel props) (λ (r : Runs a i). let there = r.next goes_on in ap is_next there.1))
