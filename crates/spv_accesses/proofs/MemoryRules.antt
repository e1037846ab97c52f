-- What access chains, comparisons of pointers, copies of memory, lengths of arrays and atomics keep where a run has come to them.
use Rattle.std.proofs.Common.{◌≡◌, ◌⊎◌, inl, inr, ℕ, true, refl}
use Rattle.spv_bodies.specs.Bodies.{KeepsRule}
use Rattle.spv_bodies.specs.Chains.{KeepsChain}
use Rattle.spv_bodies.specs.Pointers.{KeepsPtrChain, KeepsPtrEqual}
use Rattle.spv_base.specs.declared.instructions.Inst.{Inst}
use Rattle.spv_accesses.specs.PointerSites.{IsComparison}
use Rattle.spv_bodies.specs.Memory.{KeepsArrayLength, KeepsCopyMemory}
use Rattle.spv_bodies.specs.Rules.{atomic_rule, composite_rule, control_rule, memory_rule, other_rule, rule_of}
use Rattle.spv_valid.specs.Acceptance.{Accepted, IsAccepted}
use Rattle.spv_valid.specs.Validity.{IsValid}
use Rattle.spv_results.specs.Operands.{known}
use Rattle.spv_state.specs.Actions.{action_of}
use Rattle.spv_state.specs.declared.actions.Action.TheVariants.{ArrayLength, Chain, CopyMemory, PtrChain, PtrEqual, PtrNotEqual, Atomic}
use Rattle.spv_sites.specs.Effects.{Next}
use Rattle.spv_sites.specs.Fits.{ControlFits}
use Rattle.spv_sites.specs.Sites.{IsSite, Site, accepted}
use Rattle.spv_sites.proofs.Exports.{acting, is_plain_code, kept_by, one_plain, RulesAreTested, alone, body, plain_next}
use Rattle.spv_state.specs.declared.actions.AtomicOp.{AtomicOp}
use Rattle.spv_accesses.specs.AtomicSites.{KeepsRow}
use Rattle.spv_sites.specs.Atomics.{atomic_row}
use Rattle.spv_accesses.proofs.AtomicLemmas.{atomic_plain, keeps_atomic}

copy_plain : (op : ℕ) → op ≡ 63 → is_plain_code op ≡ true
unfolding memory_rule atomic_rule composite_rule control_rule other_rule
copy_plain op h = one_plain op 63 h refl

chain_plain : (op : ℕ) → (op ≡ 65) ⊎ (op ≡ 66) → is_plain_code op ≡ true
unfolding memory_rule atomic_rule composite_rule control_rule other_rule
chain_plain op (inl h) = one_plain op 65 h refl
chain_plain op (inr h) = one_plain op 66 h refl

ptr_chain_plain : (op : ℕ) → op ≡ 67 → is_plain_code op ≡ true
unfolding memory_rule atomic_rule composite_rule control_rule other_rule
ptr_chain_plain op h = one_plain op 67 h refl

comparison_plain : (op : ℕ) → (op ≡ 401) ⊎ (op ≡ 402) → is_plain_code op ≡ true
unfolding memory_rule atomic_rule composite_rule control_rule other_rule
comparison_plain op (inl h) = one_plain op 401 h refl
comparison_plain op (inr h) = one_plain op 402 h refl

comparing : (d : Inst) → IsComparison d → (d.op ≡ 401) ⊎ (d.op ≡ 402)
comparing d (inl is) = inl (acting d PtrEqual is)
comparing d (inr is) = inr (acting d PtrNotEqual is)

length_plain : (op : ℕ) → op ≡ 68 → is_plain_code op ≡ true
unfolding memory_rule atomic_rule composite_rule control_rule other_rule
length_plain op h = one_plain op 68 h refl

module _ (law : RulesAreTested) (x : Site) (m : Accepted) (same : m ≡ accepted x) (accepts : ∥ IsAccepted m ∥₁) (valid : ∥ IsValid m ∥₁) (site : ∥ IsSite x ∥₁) where
  rule_kept : is_plain_code x.inst.op ≡ true → KeepsRule (known (accepted x)) (alone x.inst) (rule_of x.inst.op)
  rule_kept plain = (body law x m same accepts valid site plain).1

  pub copy_keeps : action_of x.inst ≡ CopyMemory → KeepsCopyMemory (known (accepted x)) x.inst
  unfolding memory_rule atomic_rule composite_rule control_rule other_rule
  copy_keeps is = let op = acting x.inst CopyMemory is in kept_by (accepted x) x.inst (rule_kept (copy_plain x.inst.op op)) 63 op

  pub copy_next : action_of x.inst ≡ CopyMemory → ControlFits (accepted x) x.inst Next
  copy_next is = plain_next law x m same accepts valid site (copy_plain x.inst.op (acting x.inst CopyMemory is))

  chain_by : (x.inst.op ≡ 65) ⊎ (x.inst.op ≡ 66) → KeepsRule (known (accepted x)) (alone x.inst) (rule_of x.inst.op) → KeepsChain (known (accepted x)) x.inst
  unfolding memory_rule atomic_rule composite_rule control_rule other_rule
  chain_by (inl op) kept = kept_by (accepted x) x.inst kept 65 op
  chain_by (inr op) kept = kept_by (accepted x) x.inst kept 66 op

  pub chain_keeps : action_of x.inst ≡ Chain → KeepsChain (known (accepted x)) x.inst
  chain_keeps is = let op = acting x.inst Chain is in chain_by op (rule_kept (chain_plain x.inst.op op))

  pub chain_next : action_of x.inst ≡ Chain → ControlFits (accepted x) x.inst Next
  chain_next is = plain_next law x m same accepts valid site (chain_plain x.inst.op (acting x.inst Chain is))

  pub ptr_chain_keeps : action_of x.inst ≡ PtrChain → KeepsPtrChain (known (accepted x)) x.inst
  unfolding memory_rule atomic_rule composite_rule control_rule other_rule
  ptr_chain_keeps is = let op = acting x.inst PtrChain is in kept_by (accepted x) x.inst (rule_kept (ptr_chain_plain x.inst.op op)) 67 op

  pub ptr_chain_next : action_of x.inst ≡ PtrChain → ControlFits (accepted x) x.inst Next
  ptr_chain_next is = plain_next law x m same accepts valid site (ptr_chain_plain x.inst.op (acting x.inst PtrChain is))

  comparison_by : (x.inst.op ≡ 401) ⊎ (x.inst.op ≡ 402) → KeepsRule (known (accepted x)) (alone x.inst) (rule_of x.inst.op) → KeepsPtrEqual (known (accepted x)) x.inst
  unfolding memory_rule atomic_rule composite_rule control_rule other_rule
  comparison_by (inl op) kept = kept_by (accepted x) x.inst kept 401 op
  comparison_by (inr op) kept = kept_by (accepted x) x.inst kept 402 op

  pub comparison_keeps : IsComparison x.inst → KeepsPtrEqual (known (accepted x)) x.inst
  comparison_keeps is = let op = comparing x.inst is in comparison_by op (rule_kept (comparison_plain x.inst.op op))

  pub comparison_next : IsComparison x.inst → ControlFits (accepted x) x.inst Next
  comparison_next is = plain_next law x m same accepts valid site (comparison_plain x.inst.op (comparing x.inst is))

  pub length_keeps : action_of x.inst ≡ ArrayLength → KeepsArrayLength (known (accepted x)) x.inst
  unfolding memory_rule atomic_rule composite_rule control_rule other_rule
  length_keeps is = let op = acting x.inst ArrayLength is in kept_by (accepted x) x.inst (rule_kept (length_plain x.inst.op op)) 68 op

  pub length_next : action_of x.inst ≡ ArrayLength → ControlFits (accepted x) x.inst Next
  length_next is = plain_next law x m same accepts valid site (length_plain x.inst.op (acting x.inst ArrayLength is))

-- ---- atomics

module _ (law : RulesAreTested) (x : Site) (m : Accepted) (same : m ≡ accepted x) (accepts : ∥ IsAccepted m ∥₁) (valid : ∥ IsValid m ∥₁) (site : ∥ IsSite x ∥₁) where
  pub atomic_keeps : (op : AtomicOp) → action_of x.inst ≡ Atomic op → KeepsRow (accepted x) x.inst (atomic_row op)
  atomic_keeps op is =
      let own = acting x.inst (Atomic op) is in
      keeps_atomic (accepted x) x.inst op own (body law x m same accepts valid site (atomic_plain x.inst.op op own)).1

  pub atomic_next : (op : AtomicOp) → action_of x.inst ≡ Atomic op → ControlFits (accepted x) x.inst Next
  atomic_next op is = plain_next law x m same accepts valid site (atomic_plain x.inst.op op (acting x.inst (Atomic op) is))
