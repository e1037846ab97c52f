-- Operands and their types, one after another.
use Rattle.std.proofs.Common.{◌≡◌, ◌≢◌, ℕ, suc, Bool, true, false, List, [], ◌∷◌, length, refl, ap}
use Rattle.std.specs.Prelude.{◌&&◌}
use Rattle.spv_base.specs.declared.instructions.Operand.{Operand}
use Rattle.spv_base.specs.Options.{holds}
use Rattle.spv_types.specs.declared.forms.Member.{Member}
use Rattle.spv_bodies.specs.Composites.{are_members}
use Rattle.spv_bodies.specs.Context.{Known, type_in}
use Rattle.spv_bodies.specs.Calls.{are_of}

pub and_false : (b c : Bool) → false ≡ c → false ≡ (b && c)
and_false true c h = h
and_false false c h = refl

-- as many operands as types
pub are_of_few : (k : Known) (tys : List ℕ) (os : List Operand) → length tys ≢ length os → false ≡ are_of k tys os
are_of_few k [] [] h = absurd (h refl)
are_of_few k [] (o ∷ os) h = refl
are_of_few k (ty ∷ tys) [] h = refl
are_of_few k (ty ∷ tys) (o ∷ os) h = and_false (holds ty (type_in k o)) (are_of k tys os) (are_of_few k tys os (λ e. h (ap suc e)))

-- and as many as members
pub are_members_few : (k : Known) (ms : List Member) (os : List Operand) → length ms ≢ length os → false ≡ are_members k ms os
are_members_few k [] [] h = absurd (h refl)
are_members_few k [] (o ∷ os) h = refl
are_members_few k (m ∷ ms) [] h = refl
are_members_few k (m ∷ ms) (o ∷ os) h = and_false (holds m.ty (type_in k o)) (are_members k ms os) (are_members_few k ms os (λ e. h (ap suc e)))
