-- What the tests of the rules of bodies say.
use Rattle.std.proofs.Common.{◌≡◌, ℕ, ◌<◌, ◌==◌, Bool, true, false, List, ◌∷◌, Option, Some, None, refl, ap, arith}
use Rattle.std.proofs.lemmas.Bool.Decides.{Decides-and, Decides-by_and, Decides-like}
use Rattle.std.proofs.lemmas.List.Elements.{All-cons, All-head, All-tail}
use Rattle.std.specs.Bool.{Decides}
use Rattle.std.specs.List.{All, list_all}
use Rattle.std.specs.Option.{option_map_or}
use Rattle.std.specs.Prelude.{◌&&◌, not, nat_lt}
use Rattle.spv_base.proofs.Exports.{test_decides}
use Rattle.spv_base.specs.Options.{holds}
use Rattle.spv_types.specs.declared.forms.Form.{Form}
use Rattle.spv_types.specs.declared.forms.Form.TheVariants.{Void, Bool as Boolean, Int, Vector, Runtime, Pointer, Function}
use Rattle.spv_types.specs.declared.queries.Components.{Components}
use Rattle.spv_types.specs.declared.queries.Pointed.{Pointed}
use Rattle.spv_types.specs.Rules.{is_runtime, is_word}
use Rattle.spv_types.specs.Queries.{components_in, is_boolean, is_integer, is_void, parameters_in, pointee, return_type}
use Rattle.spv_types.proofs.Exports.{impossible}
use Rattle.spv_bodies.specs.Context.{IsBufferPointer, IsInteger, IsPointerTo, IsVectorOf, is_buffer_pointer}

-- ---- numbers and options

pub opposite : (b : Bool) → Decides (not b) (b ≡ false)
opposite true = (λ h. cc, λ h. cc)
opposite false = (λ h. refl, λ h. refl)

pub equal : (n m : ℕ) → Decides (n == m) (n ≡ m)
equal n m = (λ h. grind arith, λ h. grind arith)

pub less : (n m : ℕ) → Decides (nat_lt n m) (n < m)
less n m = (λ h. grind arith, λ h. grind arith)

pub has_is : (n : ℕ) (o : Option ℕ) → Decides (holds n o) (o ≡ Some n)
has_is n None = (λ h. impossible h, λ h. cc)
has_is n (Some m) = (λ h. ap Some ((equal m n).0 h), λ h. let e : m ≡ n = cc in (equal m n).1 e)

-- ---- lists

pub all_are : {X : Type 0} (T : X → Type 0) (t : X → Bool) → ((x : X) → Decides (t x) (T x)) → (xs : List X) → Decides (list_all t xs) (All T xs)
all_are T t d xs = Decides-by_and t T (list_all t) d refl (λ _ _. refl) xs

pub one_more : {X : Type 0} (T : X → Type 0) (b c : Bool) (x : X) (xs : List X) → Decides b (T x) → Decides c (All T xs) → Decides (b && c) (All T (x ∷ xs))
one_more T b c x xs d e =
    let t = Decides-and b c d e in
    (λ h. All-cons T x xs ((t.0 h).0) ((t.0 h).1), λ a. t.1 (All-head T x xs a, All-tail T x xs a))

-- ---- forms

pointee_is : (f : Option Form) (p : Pointed) → pointee f ≡ Some p → IsPointerTo f p
pointee_is (Some (Pointer class target)) p h = cc
pointee_is _ p h = absurd (cc)

-- a pointer type, with a test of where it leads
pub leading : (T : Pointed → Type 0) (t : Pointed → Bool) (f : Option Form) → ((p : Pointed) → Decides (t p) (T p)) → Decides (option_map_or t (pointee f) false) ((p : Pointed) × IsPointerTo f p × T p)
leading T t f d = Decides-like (option_map_or t (pointee f) false) (λ r. (r.0, pointee_is f r.0 r.1, r.2)) (λ r. (r.0, back r.0 r.1, r.2)) (test_decides T t (pointee f) d)
  where
    back : (p : Pointed) → IsPointerTo f p → pointee f ≡ Some p
    back p e = rw e refl

pub buffer_pointer : (f : Option Form) → Decides (is_buffer_pointer f) (IsBufferPointer f)
buffer_pointer f = (there f, back)
  where
    there : (f : Option Form) → is_buffer_pointer f ≡ true → IsBufferPointer f
    there (Some (Pointer class target)) h = let e : class ≡ 12 = (equal class 12).0 h in (target, rw e refl)
    there _ h = impossible h

    back : IsBufferPointer f → is_buffer_pointer f ≡ true
    back r = rw r.1 refl

components_are : (f : Option Form) (v : Components) → components_in f ≡ Some v → IsVectorOf f v
components_are (Some (Vector component count)) v h = cc
components_are _ v h = absurd (cc)

-- a vector type, with a test of its components
pub composed : (T : Components → Type 0) (t : Components → Bool) (f : Option Form) → ((v : Components) → Decides (t v) (T v)) → Decides (option_map_or t (components_in f) false) ((v : Components) × IsVectorOf f v × T v)
composed T t f d = Decides-like (option_map_or t (components_in f) false) (λ r. (r.0, components_are f r.0 r.1, r.2)) (λ r. (r.0, back r.0 r.1, r.2)) (test_decides T t (components_in f) d)
  where
    back : (v : Components) → IsVectorOf f v → components_in f ≡ Some v
    back v e = rw e refl

pub integer : (f : Option Form) → Decides (is_integer f) (IsInteger f)
integer f = (there f, back)
  where
    there : (f : Option Form) → is_integer f ≡ true → IsInteger f
    there (Some (Int width sign)) h = (width, sign, refl)
    there _ h = impossible h

    back : IsInteger f → is_integer f ≡ true
    back r = rw r.2 refl

pub word : (f : Option Form) → Decides (is_word f) ((sign : ℕ) × (f ≡ Some (Int 32 sign)))
word f = (there f, back)
  where
    there : (f : Option Form) → is_word f ≡ true → (sign : ℕ) × (f ≡ Some (Int 32 sign))
    there (Some (Int width sign)) h = let e : width ≡ 32 = (equal width 32).0 h in (sign, rw e refl)
    there _ h = impossible h

    back : (sign : ℕ) × (f ≡ Some (Int 32 sign)) → is_word f ≡ true
    back r = rw r.1 refl

pub runtime : (f : Option Form) → Decides (is_runtime f) ((element : ℕ) × (stride : Option ℕ) × (f ≡ Some (Runtime element stride)))
runtime f = (there f, back)
  where
    there : (f : Option Form) → is_runtime f ≡ true → (element : ℕ) × (stride : Option ℕ) × (f ≡ Some (Runtime element stride))
    there (Some (Runtime element stride)) h = (element, stride, refl)
    there _ h = impossible h

    back : (element : ℕ) × (stride : Option ℕ) × (f ≡ Some (Runtime element stride)) → is_runtime f ≡ true
    back r = rw r.2 refl

pub boolean : (f : Option Form) → Decides (is_boolean f) (f ≡ Some Boolean)
boolean f = (there f, λ e. rw e refl)
  where
    there : (f : Option Form) → is_boolean f ≡ true → f ≡ Some Boolean
    there (Some Boolean) h = refl
    there _ h = impossible h

pub void : (f : Option Form) → Decides (is_void f) (f ≡ Some Void)
void f = (there f, λ e. rw e refl)
  where
    there : (f : Option Form) → is_void f ≡ true → f ≡ Some Void
    there (Some Void) h = refl
    there _ h = impossible h

-- a function type that returns a type, with a test of its parameters
pub declaring : (T : List ℕ → Type 0) (t : List ℕ → Bool) (f : Option Form) (ty : ℕ) → ((ps : List ℕ) → Decides (t ps) (T ps))
    → Decides (holds ty (return_type f) && t (parameters_in f)) ((ps : List ℕ) × (f ≡ Some (Function ty ps)) × T ps)
declaring T t f ty d = (there f, back)
  where
    there : (f : Option Form) → (holds ty (return_type f) && t (parameters_in f)) ≡ true → (ps : List ℕ) × (f ≡ Some (Function ty ps)) × T ps
    there (Some (Function returns parameters)) h =
        let r = (Decides-and (returns == ty) (t parameters) (equal returns ty) (d parameters)).0 h in
        let e : returns ≡ ty = r.0 in
        (parameters, rw e refl, r.1)
    there _ h = impossible h

    back : (ps : List ℕ) × (f ≡ Some (Function ty ps)) × T ps → (holds ty (return_type f) && t (parameters_in f)) ≡ true
    back r = rw r.1 ((Decides-and (ty == ty) (t r.0) (equal ty ty) (d r.0)).1 (refl, r.2))
