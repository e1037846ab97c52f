-- What OpPtrAccessChain does.
use Rattle.std.proofs.Common.{◌≡◌, ◌∙◌, ℕ, Bool, true, false, List, ◌∷◌, Option, Some, None, Result, Ok, Err, ok_or, refl, sym, ap}
use Rattle.std.specs.Option.{option_map}
use Rattle.std.specs.Prelude.{if◌then◌else◌}
use Rattle.spv_base.specs.Cell.{Cell}
use Rattle.spv_base.specs.declared.values.Pointer.{Pointer as Reference}
use Rattle.spv_base.specs.declared.values.Value.{Value, Ptr}
use Rattle.spv_ops.specs.Steps.{◌>>=◌}
use Rattle.spv_mem.specs.Chains.{all_defined, extend, ptr_moved}
use Rattle.spv_mem.specs.Memory.{Held as Memory}
use Rattle.spv_state.specs.Actions.{action_of}
use Rattle.spv_state.specs.declared.actions.Action.TheVariants.{PtrChain}
use Rattle.spv_accesses.specs.AtomicSites.{scalar}
use Rattle.spv_accesses.specs.PointerSites.{moved_pointer}
use Rattle.spv_sites.specs.Chains.{indexes_from, ptr_chained}
use Rattle.spv_sites.specs.Effects as spec
use Rattle.spv_sites.specs.Effects.{gives, pointer}
use Rattle.spv_sites.specs.Sites.{Site, due, values}
use Rattle.spv_sites.specs.declared.causes.Cause.{Cause}
use Rattle.spv_sites.specs.declared.causes.Cause.TheVariants.{NoValue, OutOfBounds, UndefinedIndex}
use Rattle.spv_accesses.proofs.AccessLemmas.{in_turn}
use Rattle.spv_sites.proofs.Exports.{due_by}

-- ---- what is due

abbrev gives_pointer : Result Reference Cause → Result spec.Effect Cause
gives_pointer p = p >>= (λ (q : Reference). Ok (gives (Ptr q)))

-- by the element and the indexes
abbrev on_from : Site → Value → Result Cell Cause → Result (List Cell) Cause → Result spec.Effect Cause
on_from x at e is = e >>= (λ (c : Cell). is >>= (λ (cs : List Cell). gives_pointer (moved_pointer x at c cs)))

abbrev moved_from : Site → Option Value → Result Cell Cause → Result (List Cell) Cause → Result spec.Effect Cause
moved_from x o e is = ok_or o NoValue >>= (λ (at : Value). on_from x at e is)

moved_due : (x : Site) → action_of x.inst ≡ PtrChain → due x ≡ moved_from x (values x 0) (scalar x 1) (indexes_from 2 (values x) x.inst)
moved_due x is = due_by x PtrChain is ∙ by_base (values x 0)
  where
    by_indexes : (at : Value) (c : Cell) (is : Result (List Cell) Cause)
        → (is >>= (λ (cs : List Cell). pointer at >>= (λ (q : Reference). ptr_chained x.state.memory q c cs >>= (λ (r : Reference). Ok (gives (Ptr r)))))) ≡ (is >>= (λ (cs : List Cell). gives_pointer (moved_pointer x at c cs)))
    by_indexes at c (Err cause) = refl
    by_indexes at c (Ok cs) = sym (in_turn (pointer at) (λ (q : Reference). ptr_chained x.state.memory q c cs) (λ (r : Reference). Ok (gives (Ptr r))))

    by_element : (at : Value) (e : Result Cell Cause)
        → (e >>= (λ (c : Cell). indexes_from 2 (values x) x.inst >>= (λ (cs : List Cell). pointer at >>= (λ (q : Reference). ptr_chained x.state.memory q c cs >>= (λ (r : Reference). Ok (gives (Ptr r)))))))
        ≡ on_from x at e (indexes_from 2 (values x) x.inst)
    by_element at (Err cause) = refl
    by_element at (Ok c) = by_indexes at c (indexes_from 2 (values x) x.inst)

    by_base : (o : Option Value)
        → (ok_or o NoValue >>= (λ (at : Value). scalar x 1 >>= (λ (c : Cell). indexes_from 2 (values x) x.inst >>= (λ (cs : List Cell). pointer at >>= (λ (q : Reference). ptr_chained x.state.memory q c cs >>= (λ (r : Reference). Ok (gives (Ptr r))))))))
        ≡ moved_from x o (scalar x 1) (indexes_from 2 (values x) x.inst)
    by_base None = refl
    by_base (Some at) = by_element at (scalar x 1)

pub moved_missing : (x : Site) → action_of x.inst ≡ PtrChain → values x 0 ≡ None → due x ≡ Err NoValue
moved_missing x is none = moved_due x is ∙ ap (λ (o : Option Value). moved_from x o (scalar x 1) (indexes_from 2 (values x) x.inst)) none

module _ (x : Site) (at : Value) (is : action_of x.inst ≡ PtrChain) (base : values x 0 ≡ Some at) where
  moved_base : due x ≡ on_from x at (scalar x 1) (indexes_from 2 (values x) x.inst)
  moved_base = moved_due x is ∙ ap (λ (o : Option Value). moved_from x o (scalar x 1) (indexes_from 2 (values x) x.inst)) base

  pub moved_without_element : (cause : Cause) → scalar x 1 ≡ Err cause → due x ≡ Err cause
  moved_without_element cause none = moved_base ∙ ap (λ (e : Result Cell Cause). on_from x at e (indexes_from 2 (values x) x.inst)) none

  module _ (e : Cell) (element : scalar x 1 ≡ Ok e) where
    pub moved_without : (cause : Cause) → indexes_from 2 (values x) x.inst ≡ Err cause → due x ≡ Err cause
    moved_without cause none = moved_base ∙ ap (λ (c : Result Cell Cause). on_from x at c (indexes_from 2 (values x) x.inst)) element ∙ ap (on_from x at (Ok e)) none

    module _ (cs : List Cell) (found : indexes_from 2 (values x) x.inst ≡ Ok cs) where
      moved_by : due x ≡ gives_pointer (moved_pointer x at e cs)
      moved_by = moved_base ∙ ap (λ (c : Result Cell Cause). on_from x at c (indexes_from 2 (values x) x.inst)) element ∙ ap (on_from x at (Ok e)) found

      pub moved_fails : (cause : Cause) → moved_pointer x at e cs ≡ Err cause → due x ≡ Err cause
      moved_fails cause fails = moved_by ∙ ap gives_pointer fails

      pub moved_gives : (r : Reference) → moved_pointer x at e cs ≡ Ok r → due x ≡ Ok (gives (Ptr r))
      moved_gives r goes = moved_by ∙ ap gives_pointer goes

-- ---- the pointer that it gives

pub moved_parts : (m : Memory) (q : Reference) (e : Cell) (cs : List Cell) (r : Reference) → ptr_chained m q e cs ≡ Ok r
    → (path : List ℕ) × (ptr_moved m.types m.targets q e ≡ Some path) × (record { root = q.root; path = extend path cs } ≡ r)
moved_parts m q e cs r h = by_defined (all_defined (e ∷ cs)) h
  where
    by_path : (o : Option (List ℕ)) → ptr_moved m.types m.targets q e ≡ o → ok_or (option_map (λ (path : List ℕ). record { root = q.root; path = extend path cs }) o) OutOfBounds ≡ Ok r
        → (path : List ℕ) × (ptr_moved m.types m.targets q e ≡ Some path) × (record { root = q.root; path = extend path cs } ≡ r)
    by_path None is g = absurd (cc)
    by_path (Some path) is g = let made : Reference = record { root = q.root; path = extend path cs } in let same : made ≡ r = cc in (path, is, same)

    by_defined : (b : Bool) → (if b then ok_or (option_map (λ (path : List ℕ). record { root = q.root; path = extend path cs }) (ptr_moved m.types m.targets q e)) OutOfBounds else Err UndefinedIndex) ≡ Ok r
        → (path : List ℕ) × (ptr_moved m.types m.targets q e ≡ Some path) × (record { root = q.root; path = extend path cs } ≡ r)
    by_defined false g = absurd (cc)
    by_defined true g = by_path (ptr_moved m.types m.targets q e) refl g
