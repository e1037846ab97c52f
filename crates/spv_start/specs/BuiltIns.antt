-- The built-in values of an invocation (SPIR-V 1.6 section 3.21, BuiltIn), by its number and those of its workgroup.
use Rattle.std.specs.Prelude.{◌≡◌, ℕ, ◌+◌, ◌*◌, ◌<◌, ◌/◌, ◌%◌, ◌==◌, if◌then◌else◌, [], ◌∷◌, Option, Some, None}
use Rattle.spv_base.specs.Cell.{defined_cell}
use Rattle.spv_base.specs.declared.values.Value.{Value, Scalar, List as Many}
use Rattle.spv_start.specs.declared.built_ins.Invocation.{Invocation}

-- a number for each of x, y and z
abbrev pub Three : Type 0
Three = ℕ × ℕ × ℕ

-- LocalInvocationId of the invocation with a number: x goes first, then y, then z
abbrev pub local_id : Three → ℕ → Three
local_id size n = (n % size.0, n / size.0 % size.1, n / size.0 / size.1)

-- one number of GlobalInvocationId: that of WorkgroupId times WorkgroupSize and LocalInvocationId, in 32 bits
abbrev pub global_along : ℕ → ℕ → ℕ → ℕ
global_along group size local = (group * size + local) % 4294967296

abbrev pub global_id : Three → Three → Three → Three
global_id group size local = (global_along group.0 size.0 local.0, global_along group.1 size.1 local.1, global_along group.2 size.2 local.2)

-- ---- values

abbrev pub word : ℕ → Value
word n = Scalar (defined_cell 32 n)

abbrev pub three_words : Three → Value
three_words n = Many (word n.0 ∷ word n.1 ∷ word n.2 ∷ [])

-- the numbers of a built-in that has three: NumWorkgroups 24, WorkgroupId 26, LocalInvocationId 27 and GlobalInvocationId 28
abbrev pub three_of : Invocation → ℕ → Option Three
three_of i kind =
    if kind == 24 then Some i.group.number
    else if kind == 26 then Some i.group.place
    else if kind == 27 then Some (local_id i.size i.index)
    else if kind == 28 then Some (global_id i.group.place i.size (local_id i.size i.index))
    else None

abbrev pub value_of_three : Option Three → Option Value
value_of_three None = None
value_of_three (Some n) = Some (three_words n)

-- the value of a built-in of an Input variable: LocalInvocationIndex 29 is the invocation's number
abbrev pub built_in : Invocation → ℕ → Option Value
built_in i kind = if kind == 29 then Some (word i.index) else value_of_three (three_of i kind)

-- ---- what LocalInvocationId is

-- an id is within a size, and lies so many invocations behind the first
pub record IsPlaceOf (size id : Three) (n : ℕ) : Type 0 where
  pub x : id.0 < size.0
  pub y : id.1 < size.1
  pub z : id.2 < size.2
  pub index : id.2 * size.0 * size.1 + id.1 * size.0 + id.0 ≡ n
