-- In a sound state each variable has a value of the shape of its type.
use Rattle.std.proofs.Common.{◌≡◌, ℕ, List, Option, Some, None, refl, subst}
use Rattle.std.proofs.Math.Logic.{∥∥₁_map}
use Rattle.std.specs.Option.{option_and_then}
use Rattle.spv_base.specs.Entries.{reads}
use Rattle.spv_base.specs.Variables.{Roots, root_id}
use Rattle.spv_base.specs.declared.values.Root.{Root}
use Rattle.spv_base.specs.declared.values.Value.{Value}
use Rattle.spv_types.specs.Types.{Types}
use Rattle.spv_mem.specs.Memory.{IsMemory, IsVariable, root_value, roots_in}
use Rattle.spv_initial.specs.Start.{variables}
use Rattle.spv_initial.specs.Variables.{targets_of}
use Rattle.spv_state.specs.Program.{Program}
use Rattle.spv_state.specs.Sound.{IsSound}
use Rattle.spv_state.specs.State.{State}

pub variable_shaped : (p : Program) (s : State) (i : ℕ) (r : Root) (v : Value) → IsSound p s → root_value s.memory i r ≡ Some v → ∥ IsVariable p.accepted.types (targets_of (variables p.accepted)) (root_id r) v ∥₁
variable_shaped p s i r v sound there =
    ∥∥₁_map sound.memory (λ (m : IsMemory s.memory).
    subst (λ (ts : Types). IsVariable ts (targets_of (variables p.accepted)) (root_id r) v) sound.types
    (subst (λ (targets : List (ℕ × ℕ)). IsVariable s.memory.types targets (root_id r) v) sound.targets (by_roots m (roots_in s.memory i r) refl there)))
  where
    by_roots : IsMemory s.memory → (o : Option Roots) → roots_in s.memory i r ≡ o → option_and_then (reads (root_id r)) o ≡ Some v → IsVariable s.memory.types s.memory.targets (root_id r) v
    by_roots m None e h = absurd (cc)
    by_roots m (Some es) e h = m.variables i r es e (root_id r) v h
