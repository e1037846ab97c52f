-- The rules of operand types once more, as the specification words them: of each rule, which types the result and the
-- operands have (SPIR-V 1.6 sections 3.42.11 and 3.42.13 to 3.42.15).
use Rattle.std.specs.Prelude.{◌≡◌, ℕ, ◌*◌, ◌≤◌, ◌⊎◌, true, Bool, Option, Some, [], ◌∷◌}
use Rattle.spv_types.specs.declared.forms.Form.TheVariants.{Struct}
use Rattle.spv_types.specs.declared.forms.Member.{Member}
use Rattle.spv_types.specs.Types.{Types, form_of}
use Rattle.spv_typing.specs.declared.lanes.Element.{Element}
use Rattle.spv_typing.specs.declared.lanes.Element.TheVariants.{Bool as Boolean, Int}
use Rattle.spv_typing.specs.declared.lanes.Lanes.{Lanes}
use Rattle.spv_typing.specs.declared.rules.Rule.{Rule}
use Rattle.spv_typing.specs.declared.rules.Rule.TheVariants.{Convert, Bitcast, Integer, Integers, Clamp, Shift, Boolean as OneBoolean, Booleans, Reduce, Compare, Extended, Select, InsertField, ExtractField}
use Rattle.spv_typing.specs.Lanes.{lanes_at, lanes_of, repeated}
use Rattle.spv_typing.specs.Fitting.{is_selectable}

-- so many integers of a width
abbrev pub integers : ℕ → ℕ → Option Lanes
integers n width = Some (repeated n (Int width))

-- so many Booleans
abbrev pub booleans : ℕ → Option Lanes
booleans n = Some (repeated n Boolean)

-- a Boolean, or a vector of them with as many components as the result's vector
abbrev pub IsCondition : Option Lanes → Option Lanes → Type 0
IsCondition result condition = (condition ≡ booleans 1) ⊎ ((n : ℕ) × (e : Element) × (2 ≤ n) × (condition ≡ booleans n) × (result ≡ Some (repeated n e)))

-- the types of the result and of the operands, where ty gives the type of each operand that has one
abbrev pub IsTyped : Types → Rule → ℕ → (ℕ → Option ℕ) → Type 0
IsTyped ts Convert result ty = (n : ℕ) × (w : ℕ) × (v : ℕ) × (lanes_of ts result ≡ integers n w) × (lanes_at ts (ty 0) ≡ integers n v)
IsTyped ts Bitcast result ty = (n : ℕ) × (w : ℕ) × (m : ℕ) × (v : ℕ) × (lanes_of ts result ≡ integers n w) × (lanes_at ts (ty 0) ≡ integers m v) × (m * v ≡ n * w)
IsTyped ts Integer result ty = (n : ℕ) × (w : ℕ) × (lanes_of ts result ≡ integers n w) × (lanes_at ts (ty 0) ≡ integers n w)
IsTyped ts Integers result ty = (n : ℕ) × (w : ℕ) × (lanes_of ts result ≡ integers n w) × (lanes_at ts (ty 0) ≡ integers n w) × (lanes_at ts (ty 1) ≡ integers n w)
IsTyped ts Clamp result ty = (n : ℕ) × (w : ℕ) × (lanes_of ts result ≡ integers n w) × (lanes_at ts (ty 0) ≡ integers n w) × (lanes_at ts (ty 1) ≡ integers n w) × (lanes_at ts (ty 2) ≡ integers n w)
IsTyped ts Shift result ty = (n : ℕ) × (w : ℕ) × (v : ℕ) × (lanes_of ts result ≡ integers n w) × (lanes_at ts (ty 0) ≡ integers n w) × (lanes_at ts (ty 1) ≡ integers n v)
IsTyped ts OneBoolean result ty = (n : ℕ) × (lanes_of ts result ≡ booleans n) × (lanes_at ts (ty 0) ≡ booleans n)
IsTyped ts Booleans result ty = (n : ℕ) × (lanes_of ts result ≡ booleans n) × (lanes_at ts (ty 0) ≡ booleans n) × (lanes_at ts (ty 1) ≡ booleans n)
IsTyped ts Reduce result ty = (n : ℕ) × (2 ≤ n) × (lanes_of ts result ≡ booleans 1) × (lanes_at ts (ty 0) ≡ booleans n)
IsTyped ts Compare result ty = (n : ℕ) × (w : ℕ) × (lanes_of ts result ≡ booleans n) × (lanes_at ts (ty 0) ≡ integers n w) × (lanes_at ts (ty 1) ≡ integers n w)
IsTyped ts Extended result ty = (t : ℕ) × (n : ℕ) × (w : ℕ) × (a : Member) × (b : Member) × (block : Bool) × (ty 0 ≡ Some t) × (lanes_of ts t ≡ integers n w) × (ty 1 ≡ Some t) × (form_of ts result ≡ Some (Struct (a ∷ b ∷ []) block)) × (a.ty ≡ t) × (b.ty ≡ t)
IsTyped ts Select result ty = (is_selectable (form_of ts result) ≡ true) × (ty 1 ≡ Some result) × (ty 2 ≡ Some result) × IsCondition (lanes_of ts result) (lanes_at ts (ty 0))
IsTyped ts InsertField result ty = (n : ℕ) × (w : ℕ) × (v : ℕ) × (u : ℕ) × (lanes_of ts result ≡ integers n w) × (lanes_at ts (ty 0) ≡ integers n w) × (lanes_at ts (ty 1) ≡ integers n w) × (lanes_at ts (ty 2) ≡ integers 1 v) × (lanes_at ts (ty 3) ≡ integers 1 u)
IsTyped ts ExtractField result ty = (n : ℕ) × (w : ℕ) × (v : ℕ) × (u : ℕ) × (lanes_of ts result ≡ integers n w) × (lanes_at ts (ty 0) ≡ integers n w) × (lanes_at ts (ty 1) ≡ integers 1 v) × (lanes_at ts (ty 2) ≡ integers 1 u)
