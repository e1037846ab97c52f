-- The rules of functions, their parameters and calls (SPIR-V 1.6 section 3.42.9, and this project's profile: a call gives no
-- pointer but a variable pointer into a storage buffer).
use Rattle.std.specs.Prelude.{◌≡◌, ◌≤◌, ℕ, suc, ◌==◌, ◌&&◌, ◌||◌, nat_le, Bool, true, false, if◌then◌else◌, List, [], ◌∷◌, length, drop, slice_get, Option, Some, None}
use Rattle.std.specs.List.{AllZip}
use Rattle.std.specs.Option.{option_and_then}
use Rattle.spv_base.specs.declared.instructions.Inst.{Inst}
use Rattle.spv_base.specs.declared.instructions.Operand.{Operand}
use Rattle.spv_base.specs.Options.{holds}
use Rattle.spv_types.specs.declared.forms.Form.{Form}
use Rattle.spv_types.specs.declared.forms.Form.TheVariants.{Function}
use Rattle.spv_types.specs.Types.{form_of}
use Rattle.spv_types.specs.Queries.{parameters_in, return_type}
use Rattle.spv_index.specs.Definitions.{defining}
use Rattle.spv_index.specs.Operands.{id_operand}
use Rattle.spv_bodies.specs.Context.{Known, is_given, type_in}

-- a Function 54 begins, or the first block of one, at a Label 248
abbrev pub ends_parameters : Inst → Bool
ends_parameters i = i.op == 54 || i.op == 248

-- how many parameters (FunctionParameter 55) stand before the first block
abbrev pub parameters_ahead : List Inst → ℕ
parameters_ahead [] = 0
parameters_ahead (i ∷ is) = if ends_parameters i then 0 else (if i.op == 55 then suc (parameters_ahead is) else parameters_ahead is)

-- the form of the function type that an OpFunction (control, function type) names
abbrev pub function_form : Known → Inst → Option Form
function_form k i = option_and_then (form_of k.types) (id_operand i 1)

-- Function 54, where some instructions follow: its function type returns its result type, and it has all the parameters of
-- this type
abbrev pub KeepsFunction : Known → Inst → List Inst → Type 0
KeepsFunction k i rest = (parameters : List ℕ) × (function_form k i ≡ Some (Function i.ty parameters)) × (length parameters ≤ parameters_ahead rest)

-- the type of parameter n of a function type
abbrev pub parameter_type : Known → ℕ → Option ℕ → Option ℕ
parameter_type k n ty = option_and_then (λ t. slice_get (parameters_in (form_of k.types t)) n) ty

-- FunctionParameter 55, the one with number n of a function with a function type: it has the type that this names
abbrev pub KeepsParameter : Known → Option ℕ → ℕ → Inst → Type 0
KeepsParameter k ty n i = parameter_type k n ty ≡ Some i.ty

abbrev pub form_by : Known → Inst → Option Form
form_by k i = if i.op == 54 then function_form k i else None

-- the form of the function type of the function with an id
abbrev pub callee_form : Known → ℕ → Option Form
callee_form k id = option_and_then (form_by k) (defining k.insts id)

-- of the function that a call names
abbrev pub called_form : Known → Inst → Option Form
called_form k i = option_and_then (callee_form k) (id_operand i 0)

-- FunctionCall 57 (function, arguments): it gives what the function returns, which a call may give, and has one argument
-- for each parameter, of its type
abbrev pub KeepsCall : Known → Inst → Type 0
KeepsCall k i =
    (parameters : List ℕ) × (called_form k i ≡ Some (Function i.ty parameters))
    × ((is_given k (form_of k.types i.ty) ≡ true) × AllZip (λ ty o. type_in k o ≡ Some ty) parameters (drop 1 i.operands))

-- ---- the same as tests

abbrev pub returns_type : Option Form → ℕ → Bool
returns_type f ty = holds ty (return_type f)

abbrev pub keeps_function : Known → Inst → List Inst → Bool
keeps_function k i rest = returns_type (function_form k i) i.ty && nat_le (length (parameters_in (function_form k i))) (parameters_ahead rest)

abbrev pub keeps_parameter : Known → Option ℕ → ℕ → Inst → Bool
keeps_parameter k ty n i = holds i.ty (parameter_type k n ty)

-- one operand for each type, and of this type
abbrev pub are_of : Known → List ℕ → List Operand → Bool
are_of k [] [] = true
are_of k [] (o ∷ os) = false
are_of k (ty ∷ tys) [] = false
are_of k (ty ∷ tys) (o ∷ os) = holds ty (type_in k o) && are_of k tys os

abbrev pub keeps_call_of : Known → Inst → Option Form → Bool
keeps_call_of k i f = returns_type f i.ty && (is_given k (form_of k.types i.ty) && are_of k (parameters_in f) (drop 1 i.operands))

abbrev pub keeps_call : Known → Inst → Bool
keeps_call k i = keeps_call_of k i (called_form k i)
