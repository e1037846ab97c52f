-- The types of a module: each id with its form, in the order of the module (SPIR-V 1.6 section 3.42.6).
--
-- A type is defined after its parts, so what it gives is made of its form and of what the types before it give.
use Rattle.std.specs.Prelude.{ℕ, zero, suc, if◌then◌else◌, List, length, nat_lt, slice_index_or, Option, Some, None}
use Rattle.std.specs.Option.{option_map, option_map_or, option_and_then}
use Rattle.spv_base.specs.Entries.{reads, writes}
use Rattle.spv_base.specs.Options.{holds}
use Rattle.spv_index.specs.Firsts.{place_of}
use Rattle.spv_types.specs.declared.forms.Form.{Form}
use Rattle.spv_types.specs.declared.forms.Form.TheVariants.{Void, Array}

abbrev pub Types : Type 0
Types = List (ℕ × Form)

-- the form of the type with an id; the first, where there are several
abbrev pub form_of : Types → ℕ → Option Form
form_of ts id = reads id ts

-- the number of the type with an id, counted from 0
abbrev pub number_of : Types → ℕ → Option ℕ
number_of ts id = place_of ts id

-- the form of the type with a number
abbrev pub form_at : Types → ℕ → Form
form_at ts n = (slice_index_or ts n (0, Void)).1

-- the number and the form of the type with an id, where it is among the first n types
abbrev pub found_among : Types → ℕ → ℕ → Option (ℕ × Form)
found_among ts n id = option_and_then (λ m. if nat_lt m n then option_map (λ f. (m, f)) (form_of ts id) else None) (number_of ts id)

-- What the types before number n give for an id: made by step of its form and of what the types before it give, and
-- none where there is no such type.
unfoldable pub in_first : {A : Type 0} → A → ((ℕ → A) → Form → A) → Types → ℕ → ℕ → A
in_first none step ts zero id = none
in_first none step ts (suc n) id = if holds n (number_of ts id) then option_map_or (step (in_first none step ts n)) (form_of ts id) none else in_first none step ts n id

-- an array without a length
abbrev pub IsUnset : Option Form → Type 0
IsUnset (Some (Array element None stride)) = Unit {0}
IsUnset _ = ⊥

-- an array with a length, and any other form as it is
abbrev pub lengthened : ℕ → Form → Form
lengthened n (Array element length stride) = Array element (Some n) stride
lengthened n f = f

-- the types with a length given to the array with an id
unfoldable pub with_length : Types → ℕ → ℕ → Types
with_length ts id n = option_map_or (λ f. writes id (lengthened n f) ts) (form_of ts id) ts
