-- What may be there: where it is, what holds of it, and tests of it.
use Rattle.std.proofs.Common.{◌≡◌, ℕ, Bool, true, false, not, Option, Some, None, is_some, refl, ap, subst, Decides}
use Rattle.std.proofs.lemmas.Bool.{eqb-true}
use Rattle.std.specs.Option.{IsSomeAnd, option_map, option_map_or}
use Rattle.std.specs.Prelude.{if◌then◌else◌}
use Rattle.spv_base.specs.Options.{holds}

pub some_at : {X : Type 0} (o : Option X) → is_some o ≡ true → (x : X) × (o ≡ Some x)
some_at None h = absurd (cc)
some_at (Some x) h = (x, refl)

pub none_at : {X : Type 0} (o : Option X) → not (is_some o) ≡ true → o ≡ None
none_at None h = refl
none_at (Some x) h = absurd (cc)

pub some_and : {X : Type 0} (o : Option X) (P Q : X → Type 0) → ((x : X) → P x → Q x) → IsSomeAnd o P → IsSomeAnd o Q
some_and None P Q each h = h
some_and (Some x) P Q each h = each x h

pub none_of : {X : Type 0} (o : Option X) → is_some o ≡ false → o ≡ None
none_of None h = refl
none_of (Some x) h = absurd (cc)

pub same_some : {X : Type 0} (o : Option X) (x y : X) → o ≡ Some x → o ≡ Some y → x ≡ y
same_some o x y h g = cc

pub and_some : {X : Type 0} (o : Option X) (P : X → Type 0) → IsSomeAnd o P → is_some o ≡ true
and_some None P h = absurd h
and_some (Some x) P h = refl

pub some_with : {X : Type 0} (o : Option X) (P : X → Type 0) → IsSomeAnd o P → (x : X) × (o ≡ Some x) × P x
some_with None P h = absurd h
some_with (Some x) P h = (x, refl, h)

-- what is there in front of a function, and behind it
pub mapped_some : {X Y : Type 0} (f : X → Y) (o : Option X) → is_some o ≡ true → is_some (option_map f o) ≡ true
mapped_some f None h = h
mapped_some f (Some x) h = refl

pub mapped_from : {X Y : Type 0} (f : X → Y) (o : Option X) (y : Y) → option_map f o ≡ Some y → (x : X) × (o ≡ Some x) × (f x ≡ y)
mapped_from f None y h = absurd (cc)
mapped_from f (Some x) y h = (x, refl, cc)

-- what is there on a condition
pub guarded : {X : Type 0} (b : Bool) (o : Option X) (x : X) → (if b then o else None) ≡ Some x → (b ≡ true) × (o ≡ Some x)
guarded true o x h = (refl, h)
guarded false o x h = absurd (cc)

-- a number that is there
pub holds_is : (n : ℕ) (o : Option ℕ) → holds n o ≡ true → o ≡ Some n
holds_is n None h = absurd (cc)
holds_is n (Some m) h = ap Some (eqb-true m n h)

-- ---- tests

pub some_decides : {X : Type 0} (o : Option X) → Decides (is_some o) ((x : X) × (o ≡ Some x))
some_decides None = (λ h. absurd (cc), λ h. let e = h.1 in absurd (cc))
some_decides (Some x) = (λ h. (x, refl), λ h. refl)

-- what is tested of what is there
pub test_decides : {X : Type 0} (P : X → Type 0) (test : X → Bool) (o : Option X) → ((x : X) → Decides (test x) (P x)) → Decides (option_map_or test o false) ((x : X) × (o ≡ Some x) × P x)
test_decides P test None each = (λ h. absurd (cc), λ h. let e = h.1 in absurd (cc))
test_decides P test (Some x) each = (λ h. (x, refl, (each x).0 h), λ h. let e : h.0 ≡ x = (let s = h.1 in cc) in (each x).1 (subst P e h.2))
