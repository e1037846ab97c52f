-- The types of an accepted module are sound: what is known of it only as a fact serves that, since they are so in at most one way.
use Rattle.std.proofs.Common.{◌≡◌, ℕ, ◌<◌, Option, Some, None, refl, subst}
use Rattle.std.proofs.Math.Logic.{∥∥₁_elim}
use Rattle.std.proofs.Props.{props}
use Rattle.std.specs.Option.{IsSomeAnd}
use Rattle.spv_types.specs.declared.forms.Form.{Form}
use Rattle.spv_types.specs.Types.{Types, form_of, number_of}
use Rattle.spv_types.specs.Laws.{AreSound, ComesBefore}
use Rattle.spv_types.specs.Shapes.{part_type}
use Rattle.spv_valid.specs.Acceptance.{Accepted}
use Rattle.spv_valid.specs.Validity.{IsValid}

-- a type comes before another one, where their numbers aren't parts of the fact
abbrev IsBefore : Types → ℕ → ℕ → Type 0
IsBefore ts part id = IsSomeAnd (number_of ts id) (λ (n : ℕ). IsSomeAnd (number_of ts part) (λ (k : ℕ). k < n))

and_some : (P : ℕ → Type 0) (o : Option ℕ) (n : ℕ) → o ≡ Some n → P n → IsSomeAnd o P
and_some P None n e h = absurd (cc)
and_some P (Some k) n e h = let same : n ≡ k = cc in subst P same h

some_and : (P : ℕ → Type 0) (o : Option ℕ) → IsSomeAnd o P → (n : ℕ) × (o ≡ Some n) × P n
some_and P None h = absurd h
some_and P (Some n) h = (n, refl, h)

is_before : (ts : Types) (part id : ℕ) → ComesBefore ts part id → IsBefore ts part id
is_before ts part id b =
    and_some (λ (n : ℕ). IsSomeAnd (number_of ts part) (λ (k : ℕ). k < n)) (number_of ts id) b.number b.is
    (and_some (λ (k : ℕ). k < b.number) (number_of ts part) b.among.number b.among.is b.among.below)

comes_before : (ts : Types) (part id : ℕ) → IsBefore ts part id → ComesBefore ts part id
comes_before ts part id h =
    let n = some_and (λ (n : ℕ). IsSomeAnd (number_of ts part) (λ (k : ℕ). k < n)) (number_of ts id) h in
    let k = some_and (λ (k : ℕ). k < n.0) (number_of ts part) n.2 in
    record { number = n.0; is = n.1; among = record { number = k.0; is = k.1; below = k.2 } }

pub sound_types : (a : Accepted) → ∥ IsValid a ∥₁ → AreSound a.types
sound_types a valid = record {
  kept = ∥∥₁_elim valid (hlevel props) (λ (v : IsValid a). v.types.kept);
  ordered = λ id index part f is at. comes_before a.types part id (before id index part f is at);
}
  where
    before : (id index part : ℕ) (f : Form) → form_of a.types id ≡ Some f → part_type f index ≡ Some part → IsBefore a.types part id
    before id index part f is at = ∥∥₁_elim valid (hlevel props) (λ (v : IsValid a). is_before a.types part id (v.types.ordered id index part f is at))
