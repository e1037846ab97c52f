-- The variables of a function, among those of the module.
use Rattle.std.proofs.Common.{◌≡◌, ◌≢◌, ℕ, ◌==◌, Bool, true, false, cond, List, [], ◌∷◌, Some, refl, sym}
use Rattle.std.proofs.Math.Logic.{∥∥₁_map}
use Rattle.std.proofs.lemmas.Bool.{eq-eqb, ne_eqb}
use Rattle.std.specs.List.{AllByRecursion, filter}
use Rattle.spv_base.specs.Entries.{reads}
use Rattle.spv_valid.specs.Acceptance.{Accepted}
use Rattle.spv_valid.specs.Validity.{IsValid}
use Rattle.spv_initial.specs.Start.{variables}
use Rattle.spv_initial.specs.Variables.{AreApart, AreDeclared, HaveTargets, Holds, targets_of}
use Rattle.spv_initial.specs.declared.variables.Declared.{Declared}
use Rattle.spv_initial.proofs.Exports.{variables_are}

-- ---- those that a test keeps

kept_each : {X : Type 0} (P : X → Type 0) (p : X → Bool) (xs : List X) → AllByRecursion P xs → AllByRecursion P (filter p xs)
kept_each P p [] h = tt
kept_each {X} P p (x ∷ xs) (first, rest) = by_test (p x) (kept_each P p xs rest)
  where
    by_test : (b : Bool) → AllByRecursion P (filter p xs) → AllByRecursion P (cond b (x ∷ filter p xs) (filter p xs))
    by_test true more = (first, more)
    by_test false more = more

kept_apart : (p : Declared → Bool) (ds : List Declared) → AreApart ds → AreApart (filter p ds)
kept_apart p [] h = tt
kept_apart p (d ∷ ds) (first, rest) = by_test (p d) (kept_apart p ds rest)
  where
    by_test : (b : Bool) → AreApart (filter p ds) → AreApart (cond b (d ∷ filter p ds) (filter p ds))
    by_test true more = (kept_each (λ (later : Declared). later.id ≢ d.id) p ds first, more)
    by_test false more = more

pub kept_are : (a : Accepted) (p : Declared → Bool) → ∥ IsValid a ∥₁ → ∥ AreDeclared a.types (filter p (variables a)) ∥₁
kept_are a p valid =
    ∥∥₁_map (variables_are a valid) (λ (h : AreDeclared a.types (variables a)). record { apart = kept_apart p (variables a) h.apart; hold = kept_each (Holds a.types) p (variables a) h.hold })

-- ---- their targets

behind : (d : Declared) (targets : List (ℕ × ℕ)) (ds : List Declared) → AllByRecursion (λ (later : Declared). later.id ≢ d.id) ds → HaveTargets targets ds → HaveTargets ((d.id, d.target) ∷ targets) ds
behind d targets [] others h = tt
behind d targets (e ∷ es) (other, others) (first, rest) =
    let test : (d.id == e.id) ≡ false = ne_eqb d.id e.id (λ same. other (sym same)) in
    (rw test first, behind d targets es others rest)

have_targets : (ds : List Declared) → AreApart ds → HaveTargets (targets_of ds) ds
have_targets [] h = tt
have_targets (d ∷ ds) (first, rest) =
    let test : (d.id == d.id) ≡ true = eq-eqb d.id d.id refl in
    (rw test refl, behind d (targets_of ds) ds first (have_targets ds rest))

pub kept_targets : (a : Accepted) (p : Declared → Bool) → ∥ IsValid a ∥₁ → ∥ HaveTargets (targets_of (variables a)) (filter p (variables a)) ∥₁
kept_targets a p valid =
    ∥∥₁_map (variables_are a valid)
    (λ (h : AreDeclared a.types (variables a)). kept_each (λ (d : Declared). reads d.id (targets_of (variables a)) ≡ Some d.target) p (variables a) (have_targets (variables a) h.apart))
