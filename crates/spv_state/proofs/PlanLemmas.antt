-- The plan of a function, among those of the module.
use Rattle.std.proofs.Common.{◌≡◌, ◌∙◌, ℕ, ◌<◌, List, Option, Some, None, length, map, get_or, refl, sym, ap, subst, slice_get}
use Rattle.std.proofs.Math.Logic.{∥∥₁_elim, ∥∥₁_map}
use Rattle.std.proofs.Props.{props}
use Rattle.std.proofs.lemmas.Option.{slice_get-get_or, slice_get-map, slice_get_within, same_Some}
use Rattle.std.specs.List.{Contains}
use Rattle.std.specs.Option.{option_map}
use Rattle.spv_base.specs.Entries.{reads}
use Rattle.spv_valid.specs.Acceptance.{Accepted, IsAccepted}
use Rattle.spv_valid.specs.Validity.{IsValid}
use Rattle.spv_frame.specs.Functions.{numbered}
use Rattle.spv_frame.specs.Registers.{Planned}
use Rattle.spv_plans.specs.Plans.{functions_in, plan_of, plans_in}
use Rattle.spv_plans.specs.Registered.{HasNumber}
use Rattle.spv_state.proofs.EntryLemmas.{entry_listed}

-- ---- lists

pub at_number : {X Y : Type 0} (f : X → Y) (xs : List X) (n : ℕ) (x : X) → n < length xs → x ≡ get_or xs n x → slice_get (map f xs) n ≡ Some (f x)
at_number {X} {Y} f xs n x inside is =
    slice_get-map f xs n ∙ ap (λ (o : Option X). option_map f o) (slice_get-get_or xs n x inside) ∙ ap (λ (y : X). Some (f y)) (sym is)

some_inside : {X Y : Type 0} (f : X → Y) (xs : List X) (n : ℕ) (o : Option X) (y : Y) → slice_get xs n ≡ o → option_map f o ≡ Some y → n < length xs
some_inside f xs n None y e h = absurd (cc)
some_inside f xs n (Some x) y e h = slice_get_within xs n x e

pub map_inside : {X Y : Type 0} (f : X → Y) (xs : List X) (n : ℕ) (y : Y) → slice_get (map f xs) n ≡ Some y → n < length xs
map_inside f xs n y at = some_inside f xs n (slice_get xs n) y refl (sym (slice_get-map f xs n) ∙ at)

pub map_is : {X Y : Type 0} (f : X → Y) (xs : List X) (n : ℕ) (x : X) (y : Y) → slice_get (map f xs) n ≡ Some y → x ≡ get_or xs n x → f x ≡ y
map_is f xs n x y at is = same_Some (f x) y (sym (at_number f xs n x (map_inside f xs n y at) is) ∙ at)

-- ---- numbers

-- a number that is found is that of the function's plan
abbrev pub AreFound : Type 0
AreFound = (a : Accepted) (function k : ℕ) → reads function (numbered 0 (plans_in a)) ≡ Some k → slice_get (plans_in a) k ≡ Some (plan_of a function)

pub found_plan : AreFound → (a : Accepted) (ps qs : List Planned) (function number : ℕ) → ps ≡ plans_in a → qs ≡ ps → reads function (numbered 0 ps) ≡ Some number → slice_get qs number ≡ Some (plan_of a function)
found_plan found a ps qs function number are same at =
    ap (λ (xs : List Planned). slice_get xs number) (same ∙ are) ∙ found a function number (ap (λ (xs : List Planned). reads function (numbered 0 xs)) (sym are) ∙ at)

-- each plan has a number, and is found by it
abbrev pub HaveNumbers : Type 0
HaveNumbers = (a : Accepted) (function : ℕ) → Contains (functions_in a) function → HasNumber a function

abbrev pub AreNumbered : Type 0
AreNumbered = (a : Accepted) (k : ℕ) (p : Planned) → ∥ IsAccepted a ∥₁ → slice_get (plans_in a) k ≡ Some p → reads p.function (numbered 0 (plans_in a)) ≡ Some k

pub has_plan : HaveNumbers → AreNumbered → (a : Accepted) (ps : List Planned) (function : ℕ) → ps ≡ plans_in a → ∥ IsAccepted a ∥₁ → ∥ Contains (functions_in a) function ∥₁
    → reads function (numbered 0 ps) ≡ None → ⊥
unfolding plan_of
has_plan has numbers a ps function are accepted known gone =
    ∥∥₁_elim known (hlevel props) (λ (h : Contains (functions_in a) function).
    let n = has a function h in
    let there : reads function (numbered 0 (plans_in a)) ≡ Some n.number = numbers a n.number (plan_of a function) accepted n.at in
    let none : reads function (numbered 0 (plans_in a)) ≡ None = ap (λ (xs : List Planned). reads function (numbered 0 xs)) (sym are) ∙ gone in
    some_none (reads function (numbered 0 (plans_in a))) n.number there none)
  where
    some_none : (o : Option ℕ) (n : ℕ) → o ≡ Some n → o ≡ None → ⊥
    some_none o n some none = cc

-- the entry function is one of the module
pub entry_known : (a : Accepted) (entry : ℕ) → entry ≡ a.entry → ∥ IsValid a ∥₁ → ∥ Contains (functions_in a) entry ∥₁
entry_known a entry is valid = ∥∥₁_map valid (λ (v : IsValid a). subst (Contains (functions_in a)) (sym is) (entry_listed a v))
