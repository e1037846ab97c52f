-- What the constants of an accepted module give: rows of their types, each the row of one value of the type's shape.
use Rattle.std.specs.Option.{option_map}
use Rattle.std.specs.Prelude.{◌≡◌, ℕ, true, List, Option, Some, IsSome}
use Rattle.std.specs.List.{AllByRecursion, AllZip}
use Rattle.spv_base.specs.Entries.{reads}
use Rattle.spv_base.specs.Cell.{Cell, HasWidth}
use Rattle.spv_base.specs.declared.instructions.Inst.{Inst}
use Rattle.spv_base.specs.declared.values.Root.{Root}
use Rattle.spv_types.specs.Constants.{is_constant}
use Rattle.spv_types.specs.Rows.{leaves}
use Rattle.spv_types.specs.Shapes.{HasShape}
use Rattle.spv_types.specs.Types.{Types}
use Rattle.spv_index.specs.Definitions.{before_functions, defining, result_type}
use Rattle.spv_consts.specs.Table.{Constants, Row}
use Rattle.spv_consts.specs.Trees.{value_at}
use Rattle.spv_consts.specs.Values.{leaf_widths}
use Rattle.spv_consts.specs.Context.{Context}
use Rattle.spv_consts.specs.State.{State, is_operand, operand_cells}

-- leaves fill a type: there is one for each of its leaves, of that width
abbrev pub FillType : Types → ℕ → List Cell → Type 0
FillType ts id cells = AllZip HasWidth (leaf_widths ts id) cells

-- each operand of a constant at a word fills its type
abbrev pub OperandsFillTypes : Context → State → ℕ → Type 0
OperandsFillTypes m s word = (id ty : ℕ) → is_operand m s word id ≡ true → result_type m.all id ≡ Some ty → FillType s.types ty (operand_cells m s id)

-- leaves are those of a value of the shape of a type
pub record IsRowAt (ts : Types) (roots : Root → Option ℕ) (id : ℕ) (cells : List Cell) : Type 0 where
  pub shape : HasShape ts roots id (value_at ts id cells)
  pub leaves_are : leaves (value_at ts id cells) ≡ cells

-- a constant has the type of the instruction that defines its id, and its cells are the leaves of a value of the shape of that type
pub record IsConstantOf (ts : Types) (insts : List Inst) (roots : Root → Option ℕ) (c : ℕ × Row) : Type 0 where
  pub ty : option_map (λ (i : Inst). i.ty) (defining insts c.0) ≡ Some c.1.ty
  pub row : IsRowAt ts roots c.1.ty c.1.cells

-- each constant does
abbrev pub HaveShapes : Types → List Inst → (Root → Option ℕ) → Constants → Type 0
HaveShapes ts insts roots constants = AllByRecursion (IsConstantOf ts insts roots) constants

-- each constant before the functions has a value
abbrev pub HaveValues : List Inst → Constants → Type 0
HaveValues insts constants = AllByRecursion (λ (i : Inst). is_constant i.op ≡ true → IsSome (reads i.id constants)) (before_functions insts)
