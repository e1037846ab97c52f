-- The pointer that OpPtrAccessChain gives leads to where its type points: an index of an array may choose any element.
use Rattle.std.proofs.Common.{◌≡◌, ◌∙◌, ℕ, List, Option, Some, None, Result, Ok, Err, refl, sym, ap, subst}
use Rattle.std.specs.Option.{option_and_then}
use Rattle.spv_base.specs.Cell.{Cell}
use Rattle.spv_base.specs.declared.values.Pointer.{Pointer as Reference}
use Rattle.spv_base.specs.declared.values.Value.{Value, Ptr, out-Value}
use Rattle.spv_ops.specs.Steps.{◌>>=◌}
use Rattle.spv_types.specs.Laws.{AreSound}
use Rattle.spv_types.specs.Queries.{pointee}
use Rattle.spv_types.specs.Shapes.{LeadsTo, reached_type}
use Rattle.spv_types.specs.Types.{Types}
use Rattle.spv_bodies.specs.Pointers.{KeepsPtrChain}
use Rattle.spv_mem.specs.Chains.{ptr_moved}
use Rattle.spv_mem.proofs.Exports.{ptr_moved_reaches}
use Rattle.spv_valid.specs.Acceptance.{Accepted, IsAccepted}
use Rattle.spv_valid.specs.Validity.{IsValid}
use Rattle.spv_initial.specs.Start.{variables}
use Rattle.spv_initial.specs.Variables.{targets_of}
use Rattle.spv_operands.specs.Shapes.{target_in}
use Rattle.spv_operands.proofs.Exports.{target_parts}
use Rattle.spv_results.specs.Operands.{known}
use Rattle.spv_sites.specs.Chains.{indexes_from, ptr_chained}
use Rattle.spv_sites.specs.Effects.{pointer}
use Rattle.spv_sites.specs.Fits.{LevelFits}
use Rattle.spv_sites.specs.Sites.{IsShaped, IsSite, Site, accepted, values}
use Rattle.spv_sites.specs.declared.causes.Cause.{Cause}
use Rattle.spv_sites.proofs.Exports.{ConstantsAreMeant, PointersHaveShapes, ValuesHaveShapes}
use Rattle.spv_accesses.proofs.AccessLemmas.{leads_in_class, targets_are, types_are}
use Rattle.spv_accesses.proofs.ChainLemmas.{indexed_leads, result_leads}
use Rattle.spv_accesses.proofs.MovedLemmas.{moved_parts}
use Rattle.spv_accesses.specs.PointerSites.{moved_pointer}

module _ (plains : ValuesHaveShapes) (pointers : PointersHaveShapes) (meant : ConstantsAreMeant) (x : Site) (m : Accepted) (same : m ≡ accepted x) (accepts : ∥ IsAccepted m ∥₁) (sound : AreSound (accepted x).types)
    (valid : ∥ IsValid (accepted x) ∥₁) (site : ∥ IsSite x ∥₁) (kept : KeepsPtrChain (known (accepted x)) x.inst) (at : Value) (shaped : IsShaped (accepted x) x.inst 0 at)
    (e : Cell) (cs : List Cell) (found : indexes_from 2 (values x) x.inst ≡ Ok cs) where
  -- the base leads to its type's target
  base_leads : (q : Reference) → pointer at ≡ Ok q → LeadsTo (accepted x).types (target_in (accepted x) x.inst.ty) q kept.0.target
  base_leads q =
      let reaches = kept.2.1.1 in
      leads_in_class (accepted x) sound x.inst 0 at shaped kept.0 kept.1 x.inst.ty reaches.0 (ap pointee reaches.1) reaches.2.0 q

  -- and from another element on it does so too
  element_leads : (q : Reference) (path : List ℕ) → ptr_moved x.state.memory.types x.state.memory.targets q e ≡ Some path → LeadsTo (accepted x).types (target_in (accepted x) x.inst.ty) q kept.0.target
      → LeadsTo (accepted x).types (target_in (accepted x) x.inst.ty) (record { root = q.root; path = path }) kept.0.target
  element_leads q path moves leads = by_root (target_in (accepted x) x.inst.ty q.root) refl leads
    where
      own : ptr_moved (accepted x).types (targets_of (variables (accepted x))) q e ≡ Some path
      own =
          ap (λ (es : List (ℕ × ℕ)). ptr_moved (accepted x).types es q e) (sym (targets_are x site))
          ∙ ap (λ (ts : Types). ptr_moved ts x.state.memory.targets q e) (sym (types_are x site)) ∙ moves

      by_root : (o : Option ℕ) → target_in (accepted x) x.inst.ty q.root ≡ o → option_and_then (λ (t : ℕ). reached_type (accepted x).types t q.path) o ≡ Some kept.0.target
          → option_and_then (λ (t : ℕ). reached_type (accepted x).types t path) o ≡ Some kept.0.target
      by_root None is h = absurd (cc)
      by_root (Some t) is h =
          let named = target_parts (accepted x) x.inst.ty q.root t is in
          ptr_moved_reaches (accepted x).types (targets_of (variables (accepted x))) q e path t own named.target ∙ h

  moved_leads : (r : Reference) → moved_pointer x at e cs ≡ Ok r → LeadsTo (accepted x).types (target_in (accepted x) x.inst.ty) r kept.2.1.1.0.target
  moved_leads r h = by_place (pointer at) refl h
    where
      by_place : (p : Result Reference Cause) → pointer at ≡ p → (p >>= (λ (q : Reference). ptr_chained x.state.memory q e cs)) ≡ Ok r → LeadsTo (accepted x).types (target_in (accepted x) x.inst.ty) r kept.2.1.1.0.target
      by_place (Err cause) is g = absurd (cc)
      by_place (Ok q) is g =
          let parts = moved_parts x.state.memory q e cs r g in
          let start : Reference = record { root = q.root; path = parts.0 } in
          subst (λ (p : Reference). LeadsTo (accepted x).types (target_in (accepted x) x.inst.ty) p kept.2.1.1.0.target) parts.2
          (indexed_leads plains pointers meant x m same accepts sound valid site 2 kept.0 kept.2.1.1 cs found start (element_leads q parts.0 parts.1 (base_leads q is)))

  pub moved_fits : (r : Reference) → moved_pointer x at e cs ≡ Ok r → LevelFits (accepted x) x.inst.ty (Ptr r) (out-Value (Ptr r))
  moved_fits r h = result_leads plains pointers meant x m same accepts sound valid site 2 kept.0 kept.2.1.1 cs found r (moved_leads r h)
