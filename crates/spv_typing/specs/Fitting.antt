-- Whether the types of an operation's operands fit the type of its result (SPIR-V 1.6 sections 3.42.11, Conversion, and
-- 3.42.13 to 3.42.15, Arithmetic, Bit, Relational and Logical). Signs are free everywhere, and two types are one type where
-- their ids are equal.
use Rattle.std.specs.Prelude.{ℕ, ◌==◌, ◌&&◌, ◌||◌, Bool, true, false, List, [], ◌∷◌, Option, Some, None}
use Rattle.std.specs.Option.{option_map_or}
use Rattle.spv_base.specs.Options.{holds}
use Rattle.spv_types.specs.declared.forms.Form.{Form}
use Rattle.spv_types.specs.declared.forms.Form.TheVariants.{Struct, Pointer}
use Rattle.spv_types.specs.declared.forms.Member.{Member}
use Rattle.spv_types.specs.Types.{Types, form_of}
use Rattle.spv_typing.specs.declared.lanes.Lanes.{Lanes}
use Rattle.spv_typing.specs.declared.rules.Rule.{Rule}
use Rattle.spv_typing.specs.declared.rules.Rule.TheVariants.{Convert, Bitcast, Integer, Integers, Clamp, Shift, Boolean, Booleans, Reduce, Compare, Extended, Select, InsertField, ExtractField}
use Rattle.spv_typing.specs.Lanes.{lanes_at, lanes_of, are_booleans, are_integers, are_several, is_single, same_count, same_lanes, same_size}
use Rattle.spv_typing.specs.Rules.{rule_of}

-- integers, and as many as of the result
abbrev pub are_counted : Option Lanes → Option Lanes → Bool
are_counted result operand = are_integers operand && same_count operand result

-- one integer
abbrev pub is_one_integer : Option Lanes → Bool
is_one_integer operand = are_integers operand && is_single operand

-- one Boolean
abbrev pub is_one_boolean : Option Lanes → Bool
is_one_boolean lanes = are_booleans lanes && is_single lanes

-- a vector of Booleans
abbrev pub is_boolean_vector : Option Lanes → Bool
is_boolean_vector lanes = are_booleans lanes && are_several lanes

-- a struct of two members of one type
abbrev pub is_pair : ℕ → List Member → Bool
is_pair ty [] = false
is_pair ty (m ∷ []) = false
is_pair ty (m ∷ n ∷ []) = m.ty == ty && n.ty == ty
is_pair ty (m ∷ n ∷ o ∷ ms) = false

abbrev pub is_pair_of : ℕ → Option Form → Bool
is_pair_of ty (Some (Struct members block)) = is_pair ty members
is_pair_of ty _ = false

-- what Select chooses: a value of any type but a pointer type. Of void and of a function type too, as for other copies
abbrev pub is_selectable : Option Form → Bool
is_selectable None = false
is_selectable (Some (Pointer class target)) = false
is_selectable _ = true

-- one Boolean for the whole, or one for each component of a vector
abbrev pub is_condition : Option Lanes → Option Lanes → Bool
is_condition result condition = is_one_boolean condition || (is_boolean_vector condition && same_count condition result)

-- The rules, of the lanes of the result and of operands 0, 1, 2 and 3.

-- UConvert and SConvert: integers of any width, as many as of the result
abbrev pub fits_convert : Option Lanes → Option Lanes → Bool
fits_convert result a = are_integers result && are_counted result a

-- Bitcast: integers with as many bits together
abbrev pub fits_bitcast : Option Lanes → Option Lanes → Bool
fits_bitcast result a = (are_integers result && are_integers a) && same_size a result

-- SNegate, Not, BitReverse and BitCount: integers of the result's width
abbrev pub fits_integer : Option Lanes → Option Lanes → Bool
fits_integer result a = are_integers result && same_lanes a result

-- arithmetic and bitwise operations: integers of the result's width
abbrev pub fits_integers : Option Lanes → Option Lanes → Option Lanes → Bool
fits_integers result a b = fits_integer result a && same_lanes b result

-- clamps: integers of the result's width
abbrev pub fits_clamp : Option Lanes → Option Lanes → Option Lanes → Option Lanes → Bool
fits_clamp result a least greatest = fits_integers result a least && same_lanes greatest result

-- shifts: the amounts have any width
abbrev pub fits_shift : Option Lanes → Option Lanes → Option Lanes → Bool
fits_shift result base shift = fits_integer result base && are_counted result shift

-- LogicalNot: Booleans
abbrev pub fits_boolean : Option Lanes → Option Lanes → Bool
fits_boolean result a = are_booleans result && same_lanes a result

-- logical operations: Booleans
abbrev pub fits_booleans : Option Lanes → Option Lanes → Option Lanes → Bool
fits_booleans result a b = fits_boolean result a && same_lanes b result

-- Any and All: a vector of Booleans gives one
abbrev pub fits_reduce : Option Lanes → Option Lanes → Bool
fits_reduce result a = is_one_boolean result && is_boolean_vector a

-- comparisons: integers of one width give Booleans
abbrev pub fits_compare : Option Lanes → Option Lanes → Option Lanes → Bool
fits_compare result a b = are_booleans result && (are_counted result a && same_lanes b a)

-- IAddCarry, ISubBorrow, UMulExtended and SMulExtended: integers of one type give a struct of two of it
abbrev pub fits_extended : Types → ℕ → Option ℕ → Option ℕ → Bool
fits_extended ts result None b = false
fits_extended ts result (Some ty) b = (are_integers (lanes_of ts ty) && holds ty b) && is_pair_of ty (form_of ts result)

-- Select: both objects have the result's type
abbrev pub fits_select : Types → ℕ → Option ℕ → Option ℕ → Option ℕ → Bool
fits_select ts result condition a b = (is_selectable (form_of ts result) && (holds result a && holds result b)) && is_condition (lanes_of ts result) (lanes_at ts condition)

-- the offset and the number of bits of a bit field: they hold for every lane
abbrev pub is_field : Option Lanes → Option Lanes → Bool
is_field offset count = is_one_integer offset && is_one_integer count

-- whether operands with these types fit a result of a type, by a rule
abbrev pub fits_rule : Types → Rule → ℕ → (ℕ → Option ℕ) → Bool
fits_rule ts Convert result ty = fits_convert (lanes_of ts result) (lanes_at ts (ty 0))
fits_rule ts Bitcast result ty = fits_bitcast (lanes_of ts result) (lanes_at ts (ty 0))
fits_rule ts Integer result ty = fits_integer (lanes_of ts result) (lanes_at ts (ty 0))
fits_rule ts Integers result ty = fits_integers (lanes_of ts result) (lanes_at ts (ty 0)) (lanes_at ts (ty 1))
fits_rule ts Clamp result ty = fits_clamp (lanes_of ts result) (lanes_at ts (ty 0)) (lanes_at ts (ty 1)) (lanes_at ts (ty 2))
fits_rule ts Shift result ty = fits_shift (lanes_of ts result) (lanes_at ts (ty 0)) (lanes_at ts (ty 1))
fits_rule ts Boolean result ty = fits_boolean (lanes_of ts result) (lanes_at ts (ty 0))
fits_rule ts Booleans result ty = fits_booleans (lanes_of ts result) (lanes_at ts (ty 0)) (lanes_at ts (ty 1))
fits_rule ts Reduce result ty = fits_reduce (lanes_of ts result) (lanes_at ts (ty 0))
fits_rule ts Compare result ty = fits_compare (lanes_of ts result) (lanes_at ts (ty 0)) (lanes_at ts (ty 1))
fits_rule ts Extended result ty = fits_extended ts result (ty 0) (ty 1)
fits_rule ts Select result ty = fits_select ts result (ty 0) (ty 1) (ty 2)
fits_rule ts InsertField result ty = fits_integers (lanes_of ts result) (lanes_at ts (ty 0)) (lanes_at ts (ty 1)) && is_field (lanes_at ts (ty 2)) (lanes_at ts (ty 3))
fits_rule ts ExtractField result ty = fits_integer (lanes_of ts result) (lanes_at ts (ty 0)) && is_field (lanes_at ts (ty 1)) (lanes_at ts (ty 2))

-- Whether an operation's operands fit its result, where ty gives the type of each operand that has one. An opcode without a
-- rule fits nothing.
abbrev pub fits : Types → ℕ → ℕ → (ℕ → Option ℕ) → Bool
fits ts op result ty = option_map_or (λ rule. fits_rule ts rule result ty) (rule_of op) false
