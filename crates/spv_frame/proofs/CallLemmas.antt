-- Arguments in the registers of parameters.
use Rattle.std.proofs.Common.{◌≡◌, ◌∙◌, ℕ, zero, suc, List, [], ◌∷◌, Some, length, refl, sym, ap, subst, arith, drop, slice_get}
use Rattle.std.specs.List.{AllZip}
use Rattle.spv_frame.specs.declared.contents.Argument.{Argument}
use Rattle.spv_frame.specs.declared.contents.Argument.TheVariants.{Value, Pointer}
use Rattle.spv_frame.specs.declared.slots.Place.{Place}
use Rattle.spv_frame.specs.declared.slots.Place.TheVariants.{Value as ValueAt, Pointer as PointerAt}
use Rattle.spv_frame.specs.Calls.{AreArguments, IsArgument, entered, with_argument, with_arguments}
use Rattle.spv_frame.specs.Frames.{Held}
use Rattle.spv_frame.specs.Registers.{Planned}

pub plan_stays : (f : Held) (p : Place) (x : Argument) → (with_argument f p x).plan ≡ f.plan
plan_stays f (ValueAt n) (Value v) = refl
plan_stays f (ValueAt n) (Pointer q) = refl
plan_stays f (PointerAt n) (Value v) = refl
plan_stays f (PointerAt n) (Pointer q) = refl

pub as_many_arguments : (p : Planned) (ps : List Place) (xs : List Argument) → AllZip (IsArgument p) ps xs → length ps ≡ length xs
as_many_arguments p [] [] h = refl
as_many_arguments p [] (x ∷ xs) h = absurd h
as_many_arguments p (k ∷ ps) [] h = absurd h
as_many_arguments p (k ∷ ps) (x ∷ xs) h = ap suc (as_many_arguments p ps xs h.1)

pub argument_at : (p : Planned) (ps : List Place) (xs : List Argument) (n : ℕ) (k : Place) (x : Argument) → AllZip (IsArgument p) ps xs → slice_get ps n ≡ Some k → slice_get xs n ≡ Some x → IsArgument p k x
argument_at p [] xs n k x h e g = cc
argument_at p (j ∷ ps) [] n k x h e g = absurd h
argument_at p (j ∷ ps) (y ∷ xs) zero k x h e g =
    let one : j ≡ k = cc in
    let other : y ≡ x = cc in
    subst (λ (a : Argument). IsArgument p k a) other (subst (λ (a : Place). IsArgument p a y) one h.0)
argument_at p (j ∷ ps) (y ∷ xs) (suc n) k x h e g = argument_at p ps xs n k x h.1 e g

-- the first n parameters have their arguments
pub record Filling (p : Planned) (xs : List Argument) (f : Held) (n : ℕ) : Type 0 where
  pub plan : f.plan ≡ p
  pub left : with_arguments (drop n p.parameters) (drop n xs) f ≡ entered p xs

one_more : (ps : List Place) (xs : List Argument) (n : ℕ) (k : Place) (x : Argument) (f : Held) → slice_get ps n ≡ Some k → slice_get xs n ≡ Some x
    → with_arguments (drop (suc n) ps) (drop (suc n) xs) (with_argument f k x) ≡ with_arguments (drop n ps) (drop n xs) f
one_more [] xs n k x f e g = cc
one_more (j ∷ ps) [] n k x f e g = cc
one_more (j ∷ ps) (y ∷ xs) zero k x f e g =
    let one : k ≡ j = cc in
    let other : x ≡ y = cc in
    ap (λ (a : Place). with_arguments ps xs (with_argument f a x)) one ∙ ap (λ (a : Argument). with_arguments ps xs (with_argument f j a)) other
one_more (j ∷ ps) (y ∷ xs) (suc n) k x f e g = one_more ps xs n k x f e g

pub filled_more : (p : Planned) (xs : List Argument) (f g : Held) (n : ℕ) (k : Place) (x : Argument) → Filling p xs f n → slice_get p.parameters n ≡ Some k → slice_get xs n ≡ Some x
    → g ≡ with_argument f k x → Filling p xs g (suc n)
filled_more p xs f g n k x filling e h made = record {
  plan = ap (λ (y : Held). y.plan) made ∙ plan_stays f k x ∙ filling.plan;
  left = ap (λ (y : Held). with_arguments (drop (suc n) p.parameters) (drop (suc n) xs) y) made ∙ one_more p.parameters xs n k x f e h ∙ filling.left;
}

none_left : (ps : List Place) (n : ℕ) → n ≡ length ps → drop n ps ≡ []
none_left [] zero h = refl
none_left [] (suc n) h = refl
none_left (k ∷ ps) zero h = absurd (omega arith)
none_left (k ∷ ps) (suc n) h = let e : n ≡ length ps = omega arith in none_left ps n e

pub filled : (p : Planned) (xs : List Argument) (f : Held) (n : ℕ) → AreArguments p xs → Filling p xs f n → n ≡ length xs → f ≡ entered p xs
filled p xs f n are filling all =
    let none : drop n p.parameters ≡ [] = none_left p.parameters n (all ∙ sym (as_many_arguments p p.parameters xs are)) in
    ap (λ (ps : List Place). with_arguments ps (drop n xs) f) (sym none) ∙ filling.left
