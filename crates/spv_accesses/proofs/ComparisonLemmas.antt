-- What OpPtrEqual and OpPtrNotEqual give.
use Rattle.std.proofs.Common.{◌≡◌, ◌∙◌, Bool, true, false, Option, Some, None, Result, Ok, Err, ok_or, refl, ap, arith}
use Rattle.std.specs.Prelude.{not}
use Rattle.spv_alu.specs.Results.{truth}
use Rattle.spv_base.specs.Cell.{IsCell}
use Rattle.spv_base.specs.declared.values.Pointer.{Pointer as Reference}
use Rattle.spv_base.specs.declared.values.Value.{Value, Scalar}
use Rattle.spv_ops.specs.Steps.{◌>>=◌}
use Rattle.spv_types.specs.declared.forms.Form.TheVariants.{Bool as Boolean}
use Rattle.spv_types.specs.Laws.{AreSound}
use Rattle.spv_types.specs.Rows.{no_roots}
use Rattle.spv_types.specs.Types.{form_of}
use Rattle.spv_types.proofs.Exports.{shapes_are_by_forms}
use Rattle.spv_consts.proofs.Exports.{is_scalar}
use Rattle.spv_results.specs.Operands.{IsResult}
use Rattle.spv_state.specs.Actions.{action_of}
use Rattle.spv_state.specs.declared.actions.Action.TheVariants.{PtrEqual, PtrNotEqual}
use Rattle.spv_accesses.specs.PointerSites.{equal_operands, equal_values}
use Rattle.spv_sites.specs.Effects as spec
use Rattle.spv_sites.specs.Effects.{gives, pointer}
use Rattle.spv_sites.specs.Pointers.{are_equal, compared}
use Rattle.spv_sites.specs.Sites.{Site, accepted, due, values}
use Rattle.spv_sites.specs.declared.causes.Cause.{Cause}
use Rattle.spv_sites.specs.declared.causes.Cause.TheVariants.{NoValue}
use Rattle.spv_sites.proofs.Exports.{due_by}

-- ---- what is due

-- what a register takes, by whether the pointers are equal
abbrev told : (Bool → Bool) → Result Bool Cause → Result spec.Effect Cause
told f r = r >>= (λ (b : Bool). Ok (gives (Scalar (truth (f b)))))

compared_is : (x : Site) (f : Bool → Bool) → compared x.program x.state x.inv x.frame x.inst (λ q r. f (are_equal q r)) ≡ told f (equal_operands x)
compared_is x f = by_first (values x 0)
  where
    by_second_place : (q : Reference) (p : Result Reference Cause) → (p >>= (λ (r : Reference). Ok (gives (Scalar (truth (f (are_equal q r))))))) ≡ told f (p >>= (λ (r : Reference). Ok (are_equal q r)))
    by_second_place q (Err cause) = refl
    by_second_place q (Ok r) = refl

    by_first_place : (b : Value) (p : Result Reference Cause)
        → (p >>= (λ (q : Reference). pointer b >>= (λ (r : Reference). Ok (gives (Scalar (truth (f (are_equal q r)))))))) ≡ told f (p >>= (λ (q : Reference). pointer b >>= (λ (r : Reference). Ok (are_equal q r))))
    by_first_place b (Err cause) = refl
    by_first_place b (Ok q) = by_second_place q (pointer b)

    by_second : (a : Value) (o : Option Value)
        → (ok_or o NoValue >>= (λ (b : Value). pointer a >>= (λ (q : Reference). pointer b >>= (λ (r : Reference). Ok (gives (Scalar (truth (f (are_equal q r)))))))))
        ≡ told f (ok_or o NoValue >>= (λ (b : Value). equal_values a b))
    by_second a None = refl
    by_second a (Some b) = by_first_place b (pointer a)

    by_first : (o : Option Value)
        → (ok_or o NoValue >>= (λ (a : Value). ok_or (values x 1) NoValue >>= (λ (b : Value). pointer a >>= (λ (q : Reference). pointer b >>= (λ (r : Reference). Ok (gives (Scalar (truth (f (are_equal q r))))))))))
        ≡ told f (ok_or o NoValue >>= (λ (a : Value). ok_or (values x 1) NoValue >>= (λ (b : Value). equal_values a b)))
    by_first None = refl
    by_first (Some a) = by_second a (values x 1)

equal_due : (x : Site) → action_of x.inst ≡ PtrEqual → due x ≡ told (λ b. b) (equal_operands x)
equal_due x is = due_by x PtrEqual is ∙ compared_is x (λ b. b)

unequal_due : (x : Site) → action_of x.inst ≡ PtrNotEqual → due x ≡ told not (equal_operands x)
unequal_due x is = due_by x PtrNotEqual is ∙ compared_is x not

pub equal_fails : (x : Site) → action_of x.inst ≡ PtrEqual → (cause : Cause) → equal_operands x ≡ Err cause → due x ≡ Err cause
equal_fails x is cause fails = equal_due x is ∙ ap (told (λ b. b)) fails

pub equal_gives : (x : Site) → action_of x.inst ≡ PtrEqual → (b : Bool) → equal_operands x ≡ Ok b → due x ≡ Ok (gives (Scalar (truth b)))
equal_gives x is b found = equal_due x is ∙ ap (told (λ b. b)) found

pub unequal_fails : (x : Site) → action_of x.inst ≡ PtrNotEqual → (cause : Cause) → equal_operands x ≡ Err cause → due x ≡ Err cause
unequal_fails x is cause fails = unequal_due x is ∙ ap (told not) fails

pub unequal_gives : (x : Site) → action_of x.inst ≡ PtrNotEqual → (b : Bool) → equal_operands x ≡ Ok b → due x ≡ Ok (gives (Scalar (truth (not b))))
unequal_gives x is b found = unequal_due x is ∙ ap (told not) found

-- ---- what it fits

truth_is_lane : (b : Bool) → IsCell (truth b)
truth_is_lane true = record { narrow = omega arith; fits = omega arith; zero = λ h. absurd (cc) }
truth_is_lane false = record { narrow = omega arith; fits = omega arith; zero = λ h. absurd (cc) }

-- a Boolean has the type of the result
pub truth_shape : (x : Site) (b : Bool) → AreSound (accepted x).types → form_of (accepted x).types x.inst.ty ≡ Some Boolean → IsResult (accepted x) x.inst (Scalar (truth b))
truth_shape x b sound form = (shapes_are_by_forms (accepted x).types no_roots sound x.inst.ty Boolean (Scalar (truth b)) form).1 (is_scalar (truth b) 1 refl (truth_is_lane b))
