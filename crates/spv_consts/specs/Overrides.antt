-- Overrides of specialization constants (SPIR-V 1.6 section 2.9): a number for each constant that has its SpecId. One that
-- does not fit the type of some constant with its SpecId is left out of account (this project's profile).
use Rattle.std.specs.Prelude.{ℕ, ◌-◌, ◌^◌, ◌==◌, ◌&&◌, ◌||◌, not, if◌then◌else◌, Bool, false, ℤ, pos, neg_ℤ, int_le, List, [], ◌∷◌, Option, Some, None}
use Rattle.std.specs.List.{list_any}
use Rattle.std.specs.Option.{option_map_or, option_and_then}
use Rattle.spv_base.specs.Cell.{Cell}
use Rattle.spv_base.specs.Entries.{reads}
use Rattle.spv_base.specs.declared.instructions.Inst.{Inst}
use Rattle.spv_base.specs.Options.{holds}
use Rattle.spv_types.specs.declared.forms.Form.{Form}
use Rattle.spv_types.specs.declared.forms.Form.TheVariants.{Void, Bool as Boolean, Int, Vector, Array, Runtime, Struct, Pointer, Function}
use Rattle.spv_types.specs.Types.{Types, form_of}
use Rattle.spv_index.specs.Definitions.{decoration}
use Rattle.spv_types.specs.Rules.{is_width}
use Rattle.spv_alu.specs.Results.{integer}

-- pairs of a SpecId and the number for it; the first of a SpecId counts
abbrev pub Numbers : Type 0
Numbers = List (ℕ × ℤ)

-- OpSpecConstantTrue 48, OpSpecConstantFalse 49 and OpSpecConstant 50, which alone have a SpecId
abbrev pub is_specializable : ℕ → Bool
is_specializable op = op == 48 || (op == 49 || op == 50)

-- the SpecId of a constant: its first decoration SpecId, 1
abbrev pub spec_id_of : List Inst → Inst → Option ℕ
spec_id_of all i = if is_specializable i.op then decoration all i.id 1 else None

abbrev pub is_between : ℤ → ℤ → ℤ → Bool
is_between least greatest n = int_le least n && int_le n greatest

-- a number fits a Boolean where it is 0 or 1, and an integer where it is one of that width, signed or unsigned
abbrev pub fits_form : Option Form → ℤ → Bool
fits_form (Some Boolean) n = is_between (pos 0) (pos 1) n
fits_form (Some (Int width sign)) n = is_width width && is_between (neg_ℤ (pos (2 ^ (width - 1)))) (pos (2 ^ width - 1)) n
fits_form _ n = false

-- a constant with a SpecId whose type the number for that SpecId does not fit
abbrev pub is_misfit : List Inst → Types → Numbers → ℕ → Inst → Bool
is_misfit all ts over spec i = holds spec (spec_id_of all i) && option_map_or (λ n. not (fits_form (form_of ts i.ty) n)) (reads spec over) false

-- there is one
unfoldable pub has_misfit : List Inst → Types → Numbers → List Inst → ℕ → Bool
has_misfit all ts over insts spec = list_any (is_misfit all ts over spec) insts

-- a constant has this SpecId
abbrev pub has_spec_id : List Inst → ℕ → Inst → Bool
has_spec_id all id i = holds id (spec_id_of all i)

-- one of some instructions is a constant with this SpecId
unfoldable pub is_known : List Inst → List Inst → ℕ → Bool
is_known all insts id = list_any (has_spec_id all id) insts

-- the overrides that hold: those that fit all the constants of their SpecId
unfoldable pub fitting_overrides : List Inst → Types → Numbers → Numbers → Numbers
fitting_overrides all ts over [] = []
fitting_overrides all ts over (o ∷ os) = if has_misfit all ts over all o.0 then fitting_overrides all ts over os else o ∷ fitting_overrides all ts over os

-- the number that overrides a constant, by the overrides that hold
abbrev pub override_of : List Inst → Numbers → Inst → Option ℤ
override_of all held i = option_and_then (λ spec. reads spec held) (spec_id_of all i)

-- a constant's lane, or the low-order bits of the number that overrides it
abbrev pub overridden : Cell → Option ℤ → Cell
overridden lane None = lane
overridden lane (Some n) = integer lane.width n
