-- The variables that a frame begins with.
use Rattle.std.proofs.Common.{◌≡◌, ◌∙◌, ℕ, ◌+◌, ◌<◌, ◌==◌, Bool, true, false, List, [], ◌∷◌, ◌++◌, length, take, get_or, Option, Some, None, refl, sym, ap, subst}
use Rattle.std.specs.Prelude.{if◌then◌else◌}
use Rattle.std.specs.List.{AllByRecursion, cons_option}
use Rattle.std.specs.Option.{option_map_or}
use Rattle.std.proofs.Math.Logic.{∥∥₁_elim, ∥∥₁_map}
use Rattle.std.proofs.Props.{props}
use Rattle.spv_base.specs.Entries.{reads}
use Rattle.spv_base.specs.Variables.{Roots}
use Rattle.spv_base.specs.declared.values.Value.{Value}
use Rattle.spv_types.specs.Rows.{no_roots}
use Rattle.spv_types.specs.Shapes.{HasShape}
use Rattle.spv_consts.specs.Table.{Row}
use Rattle.spv_consts.specs.Trees.{tree_of}
use Rattle.spv_valid.specs.Acceptance.{Accepted}
use Rattle.spv_valid.specs.Validity.{IsValid}
use Rattle.spv_mem.specs.Blanks.{blank_of}
use Rattle.spv_mem.specs.Memory.{AreVariables, IsVariable}
use Rattle.spv_mem.proofs.Exports.{blank_shape}
use Rattle.spv_initial.specs.Start.{local_roots, root}
use Rattle.spv_initial.specs.Values.{initialized, initializer_of, local_value}
use Rattle.spv_initial.specs.Variables.{AreDeclared, HaveTargets, Holds}
use Rattle.spv_initial.specs.declared.variables.Declared.{Declared}
use Rattle.spv_initial.proofs.SuitLemmas.{constant_shape}
use Rattle.spv_initial.proofs.StartLemmas.{one_fresh}
use Rattle.spv_initial.proofs.VariableLemmas.{data_of, filter_map_next, root_under, target_of}
use Rattle.std.proofs.lemmas.Bool.{eqb-true}

abbrev pub local_of : Accepted → Declared → Option (ℕ × Value)
local_of a d = root d (local_value a d)

pub local_fresh : (a : Accepted) (ds : List Declared) (k : ℕ) (d : Declared) (es : Roots) → ∥ AreDeclared a.types ds ∥₁ → k < length ds → d ≡ get_or ds k d → es ≡ local_roots a (take k ds)
    → reads d.id es ≡ None
local_fresh a ds k d es are inside is so_far = ap (reads d.id) so_far ∙ one_fresh a.types (local_of a) (root_under (local_value a)) ds k d are inside is

pub local_next : (a : Accepted) (ds : List Declared) (k : ℕ) (d : Declared) (old new : Roots) → k < length ds → d ≡ get_or ds k d → old ≡ local_roots a (take k ds)
    → new ≡ old ++ cons_option (local_of a d) [] → new ≡ local_roots a (take (k + 1) ds)
local_next a ds k d old new inside is so_far more =
    more ∙ ap (λ (es : Roots). es ++ cons_option (local_of a d) []) so_far ∙ sym (filter_map_next (local_of a) ds k d inside is)

-- ---- their shapes

initialized_shape : (a : Accepted) (d : Declared) → IsValid a → Holds a.types d → HasShape a.types no_roots d.target (initialized a d)
initialized_shape a d valid holds = by_row (initializer_of a d) refl
  where
    by_row : (o : Option Row) → initializer_of a d ≡ o → HasShape a.types no_roots d.target (option_map_or (tree_of a.types) o (blank_of a.types 0 d.target))
    by_row None e = blank_shape a.types 0 valid.types d.target (target_of a.types d.class d.target holds) (data_of a.types d.class d.target holds)
    by_row (Some r) e = constant_shape a d r valid e

local_shape : (a : Accepted) (d : Declared) (v : Value) → IsValid a → Holds a.types d → local_value a d ≡ Some v → HasShape a.types no_roots d.target v
local_shape a d v valid holds h = by_test (d.class == 7) h
  where
    by_test : (b : Bool) → (if b then Some (initialized a d) else None) ≡ Some v → HasShape a.types no_roots d.target v
    by_test true g = let same : initialized a d ≡ v = cc in subst (HasShape a.types no_roots d.target) same (initialized_shape a d valid holds)
    by_test false g = absurd (cc)

are_variables : (a : Accepted) (targets : List (ℕ × ℕ)) → IsValid a → (ds : List Declared) → AllByRecursion (Holds a.types) ds → HaveTargets targets ds → AreVariables a.types targets (local_roots a ds)
are_variables a targets valid [] holds named id v is = absurd (cc)
are_variables a targets valid (d ∷ ds) (holds, later) (named, more) id v is = by_case (local_value a d) refl (λ g. are_variables a targets valid ds later more id v g) is
  where
    by_test : (x : Value) (b : Bool) → (d.id == id) ≡ b → local_value a d ≡ Some x → (reads id (local_roots a ds) ≡ Some v → IsVariable a.types targets id v)
        → (if b then Some x else reads id (local_roots a ds)) ≡ Some v → IsVariable a.types targets id v
    by_test x true e value rest g =
        let same : x ≡ v = cc in
        let own : d.id ≡ id = eqb-true d.id id e in
        record {
          type = d.target;
          named = subst (λ (q : ℕ). reads q targets ≡ Some d.target) own named;
          shape = local_shape a d v valid holds (value ∙ ap Some same);
        }
    by_test x false e value rest g = rest g

    by_case : (o : Option Value) → local_value a d ≡ o → (reads id (local_roots a ds) ≡ Some v → IsVariable a.types targets id v) → reads id (cons_option (root d o) (local_roots a ds)) ≡ Some v
        → IsVariable a.types targets id v
    by_case None e rest g = rest g
    by_case (Some x) e rest g = by_test x (d.id == id) refl e rest g

pub locals_may : (a : Accepted) (ds : List Declared) (es : Roots) → ∥ IsValid a ∥₁ → ∥ AreDeclared a.types ds ∥₁ → es ≡ local_roots a ds → (targets : List (ℕ × ℕ)) → HaveTargets targets ds
    → ∥ AreVariables a.types targets es ∥₁
locals_may a ds es valid are is targets named =
    subst (λ (x : Roots). ∥ AreVariables a.types targets x ∥₁) (sym is)
    (∥∥₁_elim valid (hlevel props) (λ (v : IsValid a). ∥∥₁_map are (λ (k : AreDeclared a.types ds). are_variables a targets v ds k.hold named)))
