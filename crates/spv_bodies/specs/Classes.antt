-- The classes of types that match: types of one class are written out in one way.
use Rattle.std.specs.Prelude.{◌≡◌, ◌<◌, ℕ, ◌==◌, Bool, false, List, length, slice_index_or, Option, Some, None}
use Rattle.std.specs.Option.{option_and_then}
use Rattle.spv_types.specs.declared.forms.Form.{Form}
use Rattle.spv_types.specs.Types.{Types, form_at, found_among}
use Rattle.spv_bodies.specs.declared.terms.Node.{Node}
use Rattle.spv_bodies.specs.Matching.{form_term, same_terms, term_among, term_of}
use Rattle.spv_bodies.specs.Terms.{IsClass}

-- the class of a type among the first n types, of which a list has the classes
abbrev pub class_among : Types → List (Option ℕ) → ℕ → ℕ → Option ℕ
class_among ts classes n id = option_and_then (λ (f : ℕ × Form). slice_index_or classes f.0 None) (found_among ts n id)

-- the types before number n have their classes, each by its form
abbrev pub HaveClasses : List Node → Types → List (Option ℕ) → ℕ → Type 0
HaveClasses nodes ts classes n = (m : ℕ) → m < n → IsClass nodes (slice_index_or classes m None) (form_term (term_among ts m) (form_at ts m))

abbrev pub same_class : Option ℕ → Option ℕ → Bool
same_class None b = false
same_class (Some m) None = false
same_class (Some m) (Some n) = m == n

-- types are of one class where they are written out in one way
abbrev pub AreClasses : Types → List (Option ℕ) → Type 0
AreClasses ts classes = (a b : ℕ) → same_class (class_among ts classes (length ts) a) (class_among ts classes (length ts) b) ≡ same_terms (term_of ts a) (term_of ts b)
