-- The opcodes of branches and switches, and the rules that they and phis keep.
use Rattle.std.proofs.Common.{◌≡◌, ◌∙◌, ℕ, Bool, true, List, refl, ap, subst}
use Rattle.std.specs.Option.{unwrap_or}
use Rattle.spv_base.specs.Entries.{reads}
use Rattle.spv_base.specs.declared.instructions.Inst.{Inst}
use Rattle.spv_index.specs.declared.classes.Class.TheVariants.{Executable}
use Rattle.spv_index.specs.Classes.{class_of, classes, is_debug, is_local, is_terminator}
use Rattle.spv_bodies.specs.Bodies.{KeepsRule}
use Rattle.spv_bodies.specs.Context.{Known}
use Rattle.spv_bodies.specs.Control.{KeepsBranch, KeepsPhi, KeepsSwitch}
use Rattle.spv_bodies.specs.Rules.{atomic_rule, composite_rule, control_rule, memory_rule, other_rule, rule_of}
use Rattle.spv_state.specs.Actions.{action_of}
use Rattle.spv_state.specs.declared.actions.Action.TheVariants.{Branch, BranchConditional, Switch}
use Rattle.spv_sites.proofs.Exports.{IsActing, acts, IsKept}

-- ---- actions

pub branching : (i : Inst) → action_of i ≡ Branch → i.op ≡ 249
branching i is = subst (IsActing i) is (acts i)

pub branching_by : (i : Inst) → action_of i ≡ BranchConditional → i.op ≡ 250
branching_by i is = subst (IsActing i) is (acts i)

pub switching : (i : Inst) → action_of i ≡ Switch → i.op ≡ 251
switching i is = subst (IsActing i) is (acts i)

-- ---- classes

ends_by : (sets : List (ℕ × Bool)) (i : Inst) (n : ℕ) → i.op ≡ n → is_terminator (unwrap_or (reads n (classes (is_debug sets i) (is_local i))) Executable) ≡ true → is_terminator (class_of sets i) ≡ true
ends_by sets i n op is = ap (λ (m : ℕ). is_terminator (unwrap_or (reads m (classes (is_debug sets i) (is_local i))) Executable)) op ∙ is

pub branch_ends : (sets : List (ℕ × Bool)) (i : Inst) → i.op ≡ 249 → is_terminator (class_of sets i) ≡ true
branch_ends sets i op = ends_by sets i 249 op refl

pub condition_ends : (sets : List (ℕ × Bool)) (i : Inst) → i.op ≡ 250 → is_terminator (class_of sets i) ≡ true
condition_ends sets i op = ends_by sets i 250 op refl

pub switch_ends : (sets : List (ℕ × Bool)) (i : Inst) → i.op ≡ 251 → is_terminator (class_of sets i) ≡ true
switch_ends sets i op = ends_by sets i 251 op refl

-- ---- rules

module _ (k : Known) (i : Inst) (kept : IsKept k i) where
  rule_by : (n : ℕ) → i.op ≡ n → KeepsRule k kept.placed (rule_of n)
  rule_by n op = subst (λ (m : ℕ). KeepsRule k kept.placed (rule_of m)) (ap (λ (j : Inst). j.op) kept.same ∙ op) kept.keeps.1

  pub condition_kept : i.op ≡ 250 → KeepsBranch k i
  unfolding memory_rule atomic_rule composite_rule control_rule other_rule
  condition_kept op = subst (KeepsBranch k) kept.same (rule_by 250 op)

  pub selector_kept : i.op ≡ 251 → KeepsSwitch k i
  unfolding memory_rule atomic_rule composite_rule control_rule other_rule
  selector_kept op = subst (KeepsSwitch k) kept.same (rule_by 251 op)

  pub phi_kept : i.op ≡ 245 → KeepsPhi k i
  unfolding memory_rule atomic_rule composite_rule control_rule other_rule
  phi_kept op = subst (KeepsPhi k) kept.same (rule_by 245 op)
