-- The registers of a function: its parameters, and the results of its instructions whose type isn't void (SPIR-V 1.6 sections 2.2.1,
-- 3.42.8 and 3.42.9). The result of an OpVariable stands for the variable and that of an OpLabel for the block: they are no registers.
use Rattle.std.specs.Prelude.{◌≡◌, ℕ, ◌==◌, ◌&&◌, ◌||◌, not, nat_le, true, false, if◌then◌else◌, Bool, List, [], ◌∷◌, Some, slice_get}
use Rattle.std.specs.List.{flat_map}
use Rattle.std.specs.Option.{option_map_or}
use Rattle.spv_base.specs.declared.instructions.Inst.{Inst}
use Rattle.spv_types.specs.Cells.{cells_of}
use Rattle.spv_types.specs.Queries.{is_pointer, is_void}
use Rattle.spv_types.specs.Types.{Types, form_of}
use Rattle.spv_index.specs.Positions.{Stand}
use Rattle.spv_plans.specs.Members.{members}

-- an instruction with a result and a type; 0 stands where it has none
abbrev pub has_result : Inst → Bool
has_result i = not (i.id == 0) && not (i.ty == 0)

-- OpFunctionParameter (55)
abbrev pub is_parameter : Inst → Bool
is_parameter i = i.op == 55

-- of a type other than void, and no OpVariable (59) or OpLabel (248)
abbrev pub has_value : Types → Inst → Bool
has_value ts i = (not (is_void (form_of ts i.ty)) && not (i.op == 59)) && not (i.op == 248)

abbrev pub is_register : Types → Inst → Bool
is_register ts i = has_result i && (is_parameter i || has_value ts i)

-- an instruction in a list of its own, where it has a register
abbrev pub register_in : Types → Inst → List Inst
register_in ts i = if is_register ts i then i ∷ [] else []

abbrev pub register_of : Types → Stand → List Inst
register_of ts s = register_in ts s.inst

-- the instructions of a function that have registers, in the order of the module
abbrev pub registers_of : Types → List Inst → ℕ → List Inst
registers_of ts insts function = flat_map (register_of ts) (members insts function)

-- the register is one of a pointer, or of a value
abbrev pub has_pointer : Types → Inst → Bool
has_pointer ts i = is_pointer (form_of ts i.ty)

abbrev pub has_cells : Types → Inst → Bool
has_cells ts i = not (is_pointer (form_of ts i.ty))

-- ---- what types an accepted module's registers have

-- a type has a number of cells, of at most 4,194,304 (this project's profile)
abbrev pub is_counted : Types → ℕ → Bool
is_counted ts ty = option_map_or (λ n. nat_le n 4194304) (cells_of ts ty) false

-- of instructions with their stands, the type of each register does
abbrev pub AreCounted : Types → List Stand → Type 0
AreCounted ts ss = (k : ℕ) (s : Stand) → slice_get ss k ≡ Some s → is_register ts s.inst ≡ true → is_counted ts s.inst.ty ≡ true
