-- Where pointers of a type may lead: to variables of the type's storage class.
use Rattle.std.proofs.Common.{◌≡◌, ◌∙◌, ℕ, Bool, true, false, Option, Some, None, refl, sym, ap}
use Rattle.std.proofs.lemmas.Bool.{eq-eqb}
use Rattle.std.specs.Prelude.{if◌then◌else◌}
use Rattle.std.specs.Option.{option_map_or}
use Rattle.spv_base.specs.Entries.{reads}
use Rattle.spv_base.specs.declared.values.Root.{Root}
use Rattle.spv_base.specs.Options.{holds}
use Rattle.spv_base.specs.Variables.{root_id}
use Rattle.spv_types.specs.declared.queries.Pointed.{Pointed}
use Rattle.spv_types.specs.Queries.{pointee}
use Rattle.spv_types.specs.Types.{form_of}
use Rattle.spv_initial.specs.Start.{variables}
use Rattle.spv_initial.specs.Variables.{targets_of}
use Rattle.spv_valid.specs.Acceptance.{Accepted}
use Rattle.spv_operands.specs.Shapes.{target_in}
use Rattle.spv_operands.specs.Values.{storage_class}
use Rattle.spv_operands.proofs.ClassLemmas.{held}

-- the variable that a root names has values of a type, and is of the storage class of a pointer type
pub record IsTarget (a : Accepted) (ty : ℕ) (r : Root) (t : ℕ) : Type 0 where
  pub pointed : Pointed
  pub type : pointee (form_of a.types ty) ≡ Some pointed
  pub class : storage_class a.insts (root_id r) ≡ Some pointed.class
  pub target : reads (root_id r) (targets_of (variables a)) ≡ Some t

pub target_parts : (a : Accepted) (ty : ℕ) (r : Root) (t : ℕ) → target_in a ty r ≡ Some t → IsTarget a ty r t
target_parts a ty r t h = by_type (pointee (form_of a.types ty)) refl h
  where
    by_class : (p : Pointed) → pointee (form_of a.types ty) ≡ Some p → (b : Bool) → holds p.class (storage_class a.insts (root_id r)) ≡ b → (if b then reads (root_id r) (targets_of (variables a)) else None) ≡ Some t
        → IsTarget a ty r t
    by_class p type true e g = record { pointed = p; type = type; class = held p.class (storage_class a.insts (root_id r)) e; target = g }
    by_class p type false e g = absurd (cc)

    by_type : (o : Option Pointed) → pointee (form_of a.types ty) ≡ o
        → (if option_map_or (λ (p : Pointed). holds p.class (storage_class a.insts (root_id r))) o false then reads (root_id r) (targets_of (variables a)) else None) ≡ Some t → IsTarget a ty r t
    by_type None e g = absurd (cc)
    by_type (Some p) e g = by_class p e (holds p.class (storage_class a.insts (root_id r))) refl g

pub target_from : (a : Accepted) (ty : ℕ) (r : Root) (t : ℕ) → IsTarget a ty r t → target_in a ty r ≡ Some t
target_from a ty r t h = let own : holds h.pointed.class (storage_class a.insts (root_id r)) ≡ true = ap (holds h.pointed.class) h.class ∙ eq-eqb h.pointed.class h.pointed.class refl in rw (h.type, own) h.target

-- pointers of two types of one storage class may lead to the same variables
pub target_same : (a : Accepted) (ty other : ℕ) (p q : Pointed) → pointee (form_of a.types ty) ≡ Some p → pointee (form_of a.types other) ≡ Some q → p.class ≡ q.class → target_in a ty ≡ target_in a other
target_same a ty other p q first second same = ap of_type first ∙ ap of_class same ∙ sym (ap of_type second)
  where
    of_class : ℕ → Root → Option ℕ
    of_class class = λ r. if holds class (storage_class a.insts (root_id r)) then reads (root_id r) (targets_of (variables a)) else None

    of_type : Option Pointed → Root → Option ℕ
    of_type o = λ r. if option_map_or (λ (x : Pointed). holds x.class (storage_class a.insts (root_id r))) o false then reads (root_id r) (targets_of (variables a)) else None
