-- Types whose runtime arrays have a number of elements, which no type says (SPIR-V 1.6 section 3.42.6, OpTypeRuntimeArray).
use Rattle.std.specs.Prelude.{ℕ, map, Some}
use Rattle.spv_types.specs.declared.forms.Form.{Form}
use Rattle.spv_types.specs.declared.forms.Form.TheVariants.{Array, Runtime}
use Rattle.spv_types.specs.Types.{Types}

-- a form, where a runtime array is an array of n elements
abbrev pub sized : ℕ → Form → Form
sized n (Runtime element stride) = Array element (Some n) stride
sized n f = f

-- the types, where each runtime array is one
unfoldable pub with_elements : ℕ → Types → Types
with_elements n ts = map (λ (t : ℕ × Form). (t.0, sized n t.1)) ts
